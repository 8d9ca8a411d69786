-- Words that are noted of nodes.
use Rattle.std.proofs.Common.{List, None, Option, Some, [], ap, arith, inl, inr, length, map, refl, replicate, subst, suc, sym, zero, ℕ, ◌+◌, ◌∙◌, ◌∷◌, ◌≡◌, ◌≢◌, ◌≤◌, ◌⊎◌}
use Rattle.std.proofs.lemmas.Bool.{eq-eqb, ne_eqb}
use Rattle.std.proofs.lemmas.List.{length-map}
use Rattle.std.specs.Prelude.{slice_get, slice_set}
use Rattle.fault_sim.specs.Inner.Notes.{AreStamped, word_noted}
use Rattle.fault_sim.specs.Observing.{AreObservabilities, IsObservability}
use Rattle.fault_sim.specs.declared.observabilities.Note.{Note}
use Rattle.gate_net.specs.Net.{Net}

-- where each stamp is another one, nothing is noted
pub none_noted : (stamp : ℕ) (notes : List Note) → ((k : ℕ) (note : Note) → slice_get notes k ≡ Some note → note.stamp ≢ stamp) → map (word_noted stamp) notes ≡ replicate (length notes) None
none_noted stamp [] other = refl
none_noted stamp (note ∷ notes) other =
    let first : word_noted stamp note ≡ None = rw (ne_eqb note.stamp stamp (other 0 note refl)) refl in
    let rest : map (word_noted stamp) notes ≡ replicate (length notes) None = none_noted stamp notes (λ k n e. other (suc k) n e) in
    rw (first, rest) refl

-- as where all stamps are 0
pub new_notes : (notes : List Note) (n : ℕ) → notes ≡ replicate n (record { stamp = 0; word = 0 }) → map (word_noted 1) notes ≡ replicate n None
new_notes notes n e = ap (map (word_noted 1)) e ∙ zeros n
  where
    zeros : (k : ℕ) → map (word_noted 1) (replicate k (record { stamp = 0; word = 0 })) ≡ replicate k None
    zeros zero = refl
    zeros (suc k) = ap (λ (xs : List (Option ℕ)). None ∷ xs) (zeros k)

-- or where the stamp is a new one
pub forgotten : (before stamp : ℕ) (old notes : List Note) → length notes ≡ length old → ((k : ℕ) (note : Note) → slice_get notes k ≡ Some note → note.stamp ≢ stamp) → map (word_noted stamp) notes ≡ replicate (length (map (word_noted before) old)) None
forgotten before stamp old notes size other = none_noted stamp notes other ∙ ap (λ (n : ℕ). replicate {A = Option ℕ} n None) (size ∙ sym (length-map old (word_noted before)))

pub above_stamps : (stamp : ℕ) (notes : List Note) → AreStamped stamp notes → (k : ℕ) (note : Note) → slice_get notes k ≡ Some note → note.stamp ≢ stamp + 1
above_stamps stamp notes stamped k note there e = let least : note.stamp ≤ stamp = stamped k note there in absurd (omega arith)

pub not_one : (notes : List Note) → ((k : ℕ) (note : Note) → slice_get notes k ≡ Some note → note.stamp ≡ 0) → (k : ℕ) (note : Note) → slice_get notes k ≡ Some note → note.stamp ≢ 1
not_one notes cleared k note there e = let zeros : note.stamp ≡ 0 = cleared k note there in absurd (omega arith)

-- so that all that is noted is right
pub nothing_noted : (n x w : ℕ) → slice_get (replicate {A = Option ℕ} n None) x ≡ Some (Some w) → ⊥
nothing_noted zero x w e = cc
nothing_noted (suc n) zero w e = cc
nothing_noted (suc n) (suc x) w e = nothing_noted n x w e

pub none_is_right : (notes : List (Option ℕ)) (n : ℕ) → notes ≡ replicate n None → (net : Net) (words : List ℕ) → AreObservabilities notes net words
none_is_right notes n none net words x w e = absurd (nothing_noted n x w (ap (λ (xs : List (Option ℕ)). slice_get xs x) (sym none) ∙ e))

-- one more word
pub set_noted : (stamp : ℕ) (notes : List Note) (k w : ℕ) → map (word_noted stamp) (slice_set notes k (record { stamp = stamp; word = w })) ≡ slice_set (map (word_noted stamp) notes) k (Some w)
set_noted stamp [] k w = refl
set_noted stamp (note ∷ notes) zero w = rw (eq-eqb stamp stamp refl) refl
set_noted stamp (note ∷ notes) (suc k) w = ap (λ (xs : List (Option ℕ)). word_noted stamp note ∷ xs) (set_noted stamp notes k w)

-- what stands at a place after one was set
pub set_there_or : {A : Type 0} (xs : List A) (k q : ℕ) (a b : A) → slice_get (slice_set xs k a) q ≡ Some b → ((q ≡ k) × (b ≡ a)) ⊎ (slice_get xs q ≡ Some b)
set_there_or [] k q a b e = inr e
set_there_or (x ∷ xs) zero zero a b e = inl (refl, cc)
set_there_or (x ∷ xs) zero (suc q) a b e = inr e
set_there_or (x ∷ xs) (suc k) zero a b e = inr e
set_there_or (x ∷ xs) (suc k) (suc q) a b e = elim (set_there_or xs k q a b e) [ inl (same, is) ↦ inl (ap suc same, is) | inr was ↦ inr was ]

pub still_stamped : (stamp : ℕ) (notes : List Note) (k w : ℕ) → AreStamped stamp notes → AreStamped stamp (slice_set notes k (record { stamp = stamp; word = w }))
still_stamped stamp notes k w stamped q note e = elim (set_there_or notes k q (record { stamp = stamp; word = w }) note e) [
  | inl (same, is) ↦ let own : note.stamp ≡ stamp = ap (λ (n : Note). n.stamp) is in omega arith
  | inr was ↦ stamped q note was
]

pub one_more_noted : (notes after : List (Option ℕ)) (net : Net) (words : List ℕ) (x w : ℕ) → after ≡ slice_set notes x (Some w) → AreObservabilities notes net words → IsObservability net words x w → AreObservabilities after net words
one_more_noted notes after net words x w set right one y u e = elim (set_there_or notes x y (Some w) (Some u) (ap (λ (xs : List (Option ℕ)). slice_get xs y) (sym set) ∙ e)) [
  | inl (same, is) ↦ let word : u ≡ w = cc in subst (λ z. IsObservability net words z u) (sym same) (subst (λ z. IsObservability net words x z) (sym word) one)
  | inr was ↦ right y u was
]

-- what is found is noted
pub found_noted : (stamp : ℕ) (notes : List Note) (k : ℕ) (note : Note) → slice_get notes k ≡ Some note → note.stamp ≡ stamp → slice_get (map (word_noted stamp) notes) k ≡ Some (Some note.word)
found_noted stamp [] k note e is = cc
found_noted stamp (n ∷ notes) zero note e is = let same : n ≡ note = cc in ap (λ (m : Note). Some (word_noted stamp m)) same ∙ rw (eq-eqb note.stamp stamp is) refl
found_noted stamp (n ∷ notes) (suc k) note e is = found_noted stamp notes k note e is

pub not_noted : (stamp : ℕ) (notes : List Note) (k : ℕ) (note : Note) (w : ℕ) → slice_get notes k ≡ Some note → note.stamp ≢ stamp → slice_get (map (word_noted stamp) notes) k ≡ Some (Some w) → ⊥
not_noted stamp [] k note w e other there = cc
not_noted stamp (n ∷ notes) zero note w e other there = let same : n ≡ note = cc in let none : word_noted stamp n ≡ None = ap (word_noted stamp) same ∙ rw (ne_eqb note.stamp stamp other) refl in cc
not_noted stamp (n ∷ notes) (suc k) note w e other there = not_noted stamp notes k note w e other there

pub past_noted : (stamp : ℕ) (notes : List Note) (k w : ℕ) → slice_get notes k ≡ None → slice_get (map (word_noted stamp) notes) k ≡ Some (Some w) → ⊥
past_noted stamp [] k w none there = cc
past_noted stamp (n ∷ notes) zero w none there = cc
past_noted stamp (n ∷ notes) (suc k) w none there = past_noted stamp notes k w none there
