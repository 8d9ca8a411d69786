-- Marks by stamps: setting one, and taking all off.
use Rattle.std.proofs.Common.{Bool, List, Some, [], ap, arith, false, inl, inr, length, refl, replicate, suc, sym, true, zero, ℕ, ◌<◌, ◌∙◌, ◌∷◌, ◌≡◌, ◌≤◌, ◌↔◌}
use Rattle.std.proofs.lemmas.Bool.{ne_eqb}
use Rattle.std.proofs.lemmas.Bool.Decides.{eqb_tells}
use Rattle.std.specs.Prelude.{IsTrue, nat_eq, slice_get, slice_index, slice_set}
use Rattle.gate_graph.specs.Search.{IsSeen}
use Rattle.candidate_wires.specs.Inner.Stamped.{marks_of}

pub marks-length : (present : ℕ) (stamps : List ℕ) → length (marks_of present stamps) ≡ length stamps
marks-length present [] = refl
marks-length present (stamp ∷ stamps) = ap suc (marks-length present stamps)

pub marks-none : (present : ℕ) (stamps : List ℕ) → ((x : ℕ) → slice_index stamps x < present) → marks_of present stamps ≡ replicate (length stamps) false
marks-none present [] below = refl
marks-none present (stamp ∷ stamps) below =
    let less : stamp < present = below zero in
    let head : nat_eq stamp present ≡ false = ne_eqb stamp present (λ e. absurd (omega (arith, less, e))) in
    let rest : marks_of present stamps ≡ replicate (length stamps) false = marks-none present stamps (λ x. below (suc x)) in
    ap (λ (b : Bool). b ∷ marks_of present stamps) head ∙ ap (λ (bs : List Bool). false ∷ bs) rest

eqb-self : (n : ℕ) → nat_eq n n ≡ true
eqb-self n = elim (eqb_tells n n) [ inl t ↦ t.0 | inr t ↦ absurd (t.1 refl) ]

pub marks-set : (present : ℕ) (stamps : List ℕ) (x : ℕ) → marks_of present (slice_set stamps x present) ≡ slice_set (marks_of present stamps) x true
marks-set present [] x = refl
marks-set present (stamp ∷ stamps) zero = ap (λ (b : Bool). b ∷ marks_of present stamps) (eqb-self present)
marks-set present (stamp ∷ stamps) (suc x) = ap (λ (bs : List Bool). nat_eq stamp present ∷ bs) (marks-set present stamps x)

pub marks-unset : (present : ℕ) (stamps : List ℕ) (x : ℕ) → 0 < present → marks_of present (slice_set stamps x 0) ≡ slice_set (marks_of present stamps) x false
marks-unset present [] x some = refl
marks-unset present (stamp ∷ stamps) zero some = ap (λ (b : Bool). b ∷ marks_of present stamps) (ne_eqb 0 present (λ e. absurd (omega (arith, some, e))))
marks-unset present (stamp ∷ stamps) (suc x) some = ap (λ (bs : List Bool). nat_eq stamp present ∷ bs) (marks-unset present stamps x some)

pub below-set : (stamps : List ℕ) (x n bound : ℕ) → n ≤ bound → ((y : ℕ) → slice_index stamps y ≤ bound) → (y : ℕ) → slice_index (slice_set stamps x n) y ≤ bound
below-set [] x n bound le below y = below y
below-set (stamp ∷ stamps) zero n bound le below zero = le
below-set (stamp ∷ stamps) zero n bound le below (suc y) = below (suc y)
below-set (stamp ∷ stamps) (suc x) n bound le below zero = below zero
below-set (stamp ∷ stamps) (suc x) n bound le below (suc y) = below-set stamps x n bound le (λ z. below (suc z)) y

-- a number is marked exactly where it has the present stamp
pub seen_is : (present : ℕ) (stamps : List ℕ) (x : ℕ) → 0 < present → (slice_index stamps x ≡ present) ↔ IsSeen (marks_of present stamps) x
seen_is present [] x some = (λ e. absurd (omega (arith, some, e)), λ e. absurd (cc))
seen_is present (stamp ∷ stamps) zero some = elim (eqb_tells stamp present) [
  | inl t ↦ (λ e. ap Some t.0, λ seen. t.1)
  | inr t ↦ (λ e. absurd (t.1 e), λ seen. let never = t.0 in let wrong : nat_eq stamp present ≡ true = cc in absurd (cc))
]
seen_is present (stamp ∷ stamps) (suc x) some = seen_is present stamps x some

pub marks-fresh : (n : ℕ) → marks_of 1 (replicate n 0) ≡ replicate n false
marks-fresh zero = refl
marks-fresh (suc n) = ap (λ (bs : List Bool). false ∷ bs) (marks-fresh n)

pub none_above : (n x : ℕ) → slice_index (replicate n 0) x ≤ 1
none_above zero x = omega arith
none_above (suc n) zero = omega arith
none_above (suc n) (suc x) = none_above n x

pub not_seen : (marks : List Bool) (x : ℕ) → x < length marks → (IsSeen marks x → ⊥) → slice_get marks x ≡ Some false
not_seen [] x less none = absurd (omega (arith, less))
not_seen (true ∷ marks) zero less none = absurd (none refl)
not_seen (false ∷ marks) zero less none = refl
not_seen (b ∷ marks) (suc x) less none = not_seen marks x (omega (arith, less)) none

pub has_not : (b : Bool) → b ≡ false → IsTrue b → ⊥
has_not b e t = let wrong : false ≡ true = sym e ∙ t in cc

pub all_none : (stamps : List ℕ) → ((i : ℕ) → i < length stamps → slice_index stamps i ≡ 0) → (x : ℕ) → slice_index stamps x ≡ 0
all_none [] none x = refl
all_none (stamp ∷ stamps) none zero = none zero (omega arith)
all_none (stamp ∷ stamps) none (suc x) = all_none stamps (λ i less. none (suc i) (omega (arith, less))) x
