-- Putting numbers on a worklist and taking them off.
use Rattle.std.proofs.Common.{Bool, List, None, Option, Some, [], ap, arith, false, get_or, inl, inr, length, length-set, refl, replicate, suc, sym, true, zero, ℕ, ◌+◌, ◌<◌, ◌∙◌, ◌∷◌, ◌≡◌, ◌≢◌, ◌≤◌}
use Rattle.std.proofs.lemmas.Bool.{cases_lt}
use Rattle.std.proofs.lemmas.List.{get_or-set_other, get_or-set_same, length-replicate}
use Rattle.std.proofs.lemmas.Option.{slice_get_within}
use Rattle.std.specs.Prelude.{slice_get, slice_index, slice_set}
use Rattle.gate_graph.proofs.Public.{none_seen, seen_cases, seen_kept, seen_new, unseen-replicate, unseen-set}
use Rattle.gate_graph.specs.Search.{IsSeen, unseen}
use Rattle.local_evaluation.specs.Worklists.{IsWorklist, IsTaken, seen_count}
use Rattle.rm_base.specs.declared.numbers.NodeId.{NodeId}

-- MARKS
pub set_again : (s : List Bool) (d : ℕ) (b : Bool) → slice_get s d ≡ Some b → slice_set s d b ≡ s
set_again [] d b e = refl
set_again (x ∷ s) zero b e = let is : b ≡ x = cc in rw is refl
set_again (x ∷ s) (suc d) b e = ap (λ t. x ∷ t) (set_again s d b e)

unseen-clear : (s : List Bool) (d : ℕ) → IsSeen s d → unseen (slice_set s d false) ≡ suc (unseen s)
unseen-clear [] d e = cc
unseen-clear (true ∷ s) zero e = refl
unseen-clear (false ∷ s) zero e = cc
unseen-clear (true ∷ s) (suc d) e = unseen-clear s d e
unseen-clear (false ∷ s) (suc d) e = ap suc (unseen-clear s d e)

-- a number that is still marked when one mark was taken off
pub seen_left : (s : List Bool) (d y : ℕ) → IsSeen (slice_set s d false) y → IsSeen s y × (y ≢ d)
seen_left [] d y e = cc
seen_left (b ∷ s) zero zero e = cc
seen_left (b ∷ s) zero (suc y) e = (e, λ is. cc)
seen_left (b ∷ s) (suc d) zero e = (e, λ is. cc)
seen_left (b ∷ s) (suc d) (suc y) e = let rest : IsSeen s y × (y ≢ d) = seen_left s d y e in (rest.0, λ is. rest.1 (omega arith))

pub seen_stays : (s : List Bool) (d y : ℕ) → IsSeen s y → y ≢ d → IsSeen (slice_set s d false) y
seen_stays [] d y e ne = cc
seen_stays (b ∷ s) zero zero e ne = absurd (ne refl)
seen_stays (b ∷ s) zero (suc y) e ne = e
seen_stays (b ∷ s) (suc d) zero e ne = e
seen_stays (b ∷ s) (suc d) (suc y) e ne = seen_stays s d y e (λ is. ne (ap suc is))

pub count-clear : (s : List Bool) (d : ℕ) → IsSeen s d → suc (seen_count (slice_set s d false)) ≡ seen_count s
count-clear [] d e = cc
count-clear (true ∷ s) zero e = refl
count-clear (false ∷ s) zero e = cc
count-clear (true ∷ s) (suc d) e = ap suc (count-clear s d e)
count-clear (false ∷ s) (suc d) e = count-clear s d e

pub count-set : (s : List Bool) (d : ℕ) → seen_count (slice_set s d true) ≤ suc (seen_count s)
count-set [] d = omega arith
count-set (true ∷ s) zero = omega arith
count-set (false ∷ s) zero = omega arith
count-set (true ∷ s) (suc d) = let rest : seen_count (slice_set s d true) ≤ suc (seen_count s) = count-set s d in omega arith
count-set (false ∷ s) (suc d) = count-set s d

pub count_within : (s : List Bool) → seen_count s ≤ length s
count_within [] = omega arith
count_within (true ∷ s) = let rest : seen_count s ≤ length s = count_within s in omega arith
count_within (false ∷ s) = let rest : seen_count s ≤ length s = count_within s in omega arith

pub none_marked : (s : List Bool) → ((z : ℕ) → IsSeen s z → ⊥) → s ≡ replicate (length s) false
none_marked [] h = refl
none_marked (true ∷ s) h = absurd (h zero refl)
none_marked (false ∷ s) h = ap (λ t. false ∷ t) (none_marked s (λ z e. h (suc z) e))

-- THE QUEUE
pub worklist_first : (n : ℕ) (marks : List Bool) (queue : List ℕ) → marks ≡ replicate n false → queue ≡ replicate n 0 → IsWorklist marks queue 0
worklist_first n marks queue e f = rw (e, f) (record {
  size = length-replicate n 0 ∙ sym (length-replicate n false);
  room = let all : unseen (replicate n false) ≡ n = unseen-replicate n in let long : length (replicate n false) ≡ n = length-replicate n false in omega arith;
  listed = λ z seen. absurd (none_seen n z seen);
  marked = λ k low. absurd (omega arith);
  once = λ k l low. absurd (omega arith);
})

module _ (marks : List Bool) (queue : List ℕ) (count : ℕ) (h : IsWorklist marks queue count) (x : ℕ) (new : slice_get marks x ≡ Some false) where
  put_fewer : suc (unseen (slice_set marks x true)) ≡ unseen marks
  put_fewer = unseen-set marks x new

  pub put_fits : count < length queue
  put_fits = omega (arith, put_fewer, h.room, h.size)

  put_apart : (k : ℕ) → k < count → slice_index queue k ≡ x → ⊥
  put_apart k low e = let seen : IsSeen marks (slice_index queue k) = h.marked k low in let here : slice_get marks x ≡ Some true = rw e at seen in cc

  put_there : get_or (slice_set queue count x) count 0 ≡ x
  put_there = get_or-set_same queue count x 0 put_fits

  put_before : (k : ℕ) → k < count → get_or (slice_set queue count x) k 0 ≡ get_or queue k 0
  put_before k low = let ne : k ≢ count = omega arith in get_or-set_other queue count k x 0 ne

  put_once : (k l : ℕ) → k < count + 1 → l < count + 1 → get_or (slice_set queue count x) k 0 ≡ get_or (slice_set queue count x) l 0 → k ≡ l
  put_once k l k_low l_low e = elim (cases_lt k count) [
    | inl k_before ↦ elim (cases_lt l count) [
      | inl l_before ↦ h.once k l k_before l_before (sym (put_before k k_before) ∙ e ∙ put_before l l_before)
      | inr l_last ↦ let is : l ≡ count = omega arith in absurd (put_apart k k_before (sym (put_before k k_before) ∙ e ∙ ap (λ n. get_or (slice_set queue count x) n 0) is ∙ put_there))
    ]
    | inr k_last ↦ let is : k ≡ count = omega arith in elim (cases_lt l count) [
      | inl l_before ↦ absurd (put_apart l l_before (sym (put_before l l_before) ∙ sym e ∙ ap (λ n. get_or (slice_set queue count x) n 0) is ∙ put_there))
      | inr l_last ↦ omega arith
    ]
  ]

  pub worklist_put : IsWorklist (slice_set marks x true) (slice_set queue count x) (count + 1)
  worklist_put = record {
    size = length-set queue count x ∙ h.size ∙ sym (length-set marks x true);
    room = let same : length (slice_set marks x true) ≡ length marks = length-set marks x true in omega (arith, put_fewer, h.room);
    listed = λ z seen. elim (seen_cases marks x z seen) [
      | inl before ↦ let at : (k : ℕ) × ((k < count) × (slice_index queue k ≡ z)) = h.listed z before in (at.0, (omega (arith, at.1.0), put_before at.0 at.1.0 ∙ at.1.1))
      | inr is ↦ (count, (omega arith, put_there ∙ sym is))
    ];
    marked = λ k low. elim (cases_lt k count) [
      | inl before ↦ rw (put_before k before) (seen_kept marks x (get_or queue k 0) (h.marked k before))
      | inr last ↦ let is : k ≡ count = omega arith in rw (is, put_there) (seen_new marks x (slice_get_within marks x false new))
    ];
    once = put_once;
  }

pub worklist_take : (marks : List Bool) (queue : List ℕ) (count at : ℕ) → count ≡ at + 1 → IsWorklist marks queue count → IsWorklist (slice_set marks (slice_index queue at) false) queue at
worklist_take marks queue count at is h = record {
  size = h.size ∙ sym (length-set marks x false);
  room = let same : length (slice_set marks x false) ≡ length marks = length-set marks x false in let more : unseen (slice_set marks x false) ≡ suc (unseen marks) = unseen-clear marks x seen in omega (arith, h.room);
  listed = λ z left. let before : IsSeen marks z × (z ≢ x) = seen_left marks x z left in let k : (k : ℕ) × ((k < count) × (slice_index queue k ≡ z)) = h.listed z before.0 in elim (cases_lt k.0 at) [
    | inl low ↦ (k.0, (low, k.1.1))
    | inr last ↦ let same : k.0 ≡ at = omega (arith, k.1.0) in absurd (before.1 (sym k.1.1 ∙ ap (λ n. slice_index queue n) same))
  ];
  marked = λ k low. seen_stays marks x (slice_index queue k) (h.marked k (omega arith)) (λ e. let same : k ≡ at = h.once k at (omega arith) (omega arith) e in omega arith);
  once = λ k l k_low l_low e. h.once k l (omega arith) (omega arith) e;
}
  where
    x : ℕ
    x = slice_index queue at

    seen : IsSeen marks x
    seen = h.marked at (omega arith)

pub worklist_none : (marks : List Bool) (queue : List ℕ) (count : ℕ) → IsWorklist marks queue count → count ≡ 0 → (z : ℕ) → IsSeen marks z → ⊥
worklist_none marks queue count h is z seen = let at : (k : ℕ) × ((k < count) × (slice_index queue k ≡ z)) = h.listed z seen in absurd (omega (arith, at.1.0))

-- WHAT WAS TAKEN
pub taken_some : (old new : List Bool) (o : Option NodeId) (d : NodeId) → o ≡ Some d → IsTaken old new o → IsSeen old d.0 × (new ≡ slice_set old d.0 false)
taken_some old new None d e h = cc
taken_some old new (Some x) d e h = let same : x ≡ d = cc in rw (← same) h

pub taken_none : (old new : List Bool) (o : Option NodeId) → o ≡ None → IsTaken old new o → (new ≡ old) × ((z : ℕ) → IsSeen old z → ⊥)
taken_none old new None e h = h
taken_none old new (Some x) e h = cc

pub read_is : (xs : List ℕ) (i n : ℕ) → i < length xs → n ≡ get_or xs i n → get_or xs i 0 ≡ n
read_is [] i n h e = absurd (omega arith)
read_is (x ∷ xs) zero n h e = sym e
read_is (x ∷ xs) (suc i) n h e = read_is xs i n (omega arith) e

pub take_within : (marks : List Bool) (queue : List ℕ) (count : ℕ) → IsWorklist marks queue count → count ≤ length queue
take_within marks queue count h = omega (arith, h.room, h.size)

pub clear_less : (old new : List Bool) (d : ℕ) → IsSeen old d × (new ≡ slice_set old d false) → seen_count new < seen_count old
clear_less old new d (seen, is) = rw is (omega (arith, count-clear old d seen))

-- a place that isn't marked
pub not_seen : (s : List Bool) (d : ℕ) → d < length s → (IsSeen s d → ⊥) → slice_get s d ≡ Some false
not_seen [] d h off = absurd (omega arith)
not_seen (true ∷ s) zero h off = absurd (off refl)
not_seen (false ∷ s) zero h off = refl
not_seen (b ∷ s) (suc d) h off = not_seen s d (omega arith) off
