-- Bits of the pending places.
use Rattle.std.proofs.Common.{Bool, List, None, Some, ap, arith, false, inl, inr, length, length-set, sym, true, w64, ℕ, ◌%◌, ◌&&◌, ◌+◌, ◌-◌, ◌/◌, ◌<◌, ◌^◌, ◌||◌, ◌∙◌, ◌≡◌, ◌≢◌, ◌≤◌}
use Rattle.std.proofs.Math.Nat.{div-div-eq-div-mul, div-le_self}
use Rattle.std.proofs.lemmas.Bool.Decides.{eqb_tells}
use Rattle.std.proofs.lemmas.Nat.{pow-add}
use Rattle.std.proofs.lemmas.Nat.Bits.{bit_at-pow_other, bit_at-pow_same, bit_at_above}
use Rattle.std.specs.Int.{bit_at, trailing_zeros}
use Rattle.std.specs.Prelude.{bit_and, bit_or, bit_xor, nat_eq, not, slice_index, slice_set}
use Rattle.std.proofs.Math.Bool.{and-false, and-true, or-false, or-true}
use Rattle.fault_sim.proofs.LaneLaws.{lane_and, lane_not, lane_or, lane_zero}
use Rattle.fault_sim.proofs.Lists.{below_or}
use Rattle.fault_sim.proofs.ReadInOrder.{set_elsewhere, set_here}
use Rattle.fault_sim.proofs.Seeing.{first_lane}
use Rattle.fault_sim.specs.Pending.{is_pending}
use Rattle.fault_sim.specs.Inner.Pending.{IsFirstBit, IsMarked, IsUnmarked}
use Rattle.fault_sim.specs.Words.{lane, all_ones}

lane_pow_same : (k : ℕ) → lane k (2 ^ k) ≡ true
lane_pow_same k = ap (λ (n : ℕ). nat_eq n 1) (bit_at-pow_same k)

lane_pow_other : (k i : ℕ) → i ≢ k → lane i (2 ^ k) ≡ false
lane_pow_other k i ne = ap (λ (n : ℕ). nat_eq n 1) (bit_at-pow_other k i ne)

with_same : (w k : ℕ) → lane k (bit_or w (2 ^ k)) ≡ true
with_same w k = lane_or k w (2 ^ k) ∙ ap (λ (b : Bool). lane k w || b) (lane_pow_same k) ∙ or-true (lane k w)

with_other : (w k i : ℕ) → i ≢ k → lane i (bit_or w (2 ^ k)) ≡ lane i w
with_other w k i ne = lane_or i w (2 ^ k) ∙ ap (λ (b : Bool). lane i w || b) (lane_pow_other k i ne) ∙ or-false (lane i w)

without_same : (w k : ℕ) → k < 64 → lane k (bit_and w (bit_xor (2 ^ k) all_ones)) ≡ false
without_same w k h = lane_and k w (bit_xor (2 ^ k) all_ones) ∙ ap (λ (b : Bool). lane k w && b) (lane_not k (2 ^ k) h ∙ ap not (lane_pow_same k)) ∙ and-false (lane k w)

without_other : (w k i : ℕ) → i < 64 → i ≢ k → lane i (bit_and w (bit_xor (2 ^ k) all_ones)) ≡ lane i w
without_other w k i h ne = lane_and i w (bit_xor (2 ^ k) all_ones) ∙ ap (λ (b : Bool). lane i w && b) (lane_not i (2 ^ k) h ∙ ap not (lane_pow_other k i ne)) ∙ and-true (lane i w)

same_place : (k p : ℕ) → k / 64 ≡ p / 64 → k % 64 ≡ p % 64 → k ≡ p
same_place k p e f = omega arith

bit_below : (k : ℕ) → k % 64 < 64
bit_below k = omega arith

-- another place, where one word is written and its bit at that place stays
set_other_place : (words : List ℕ) (p w k : ℕ) → p / 64 < length words → k ≢ p → ((i : ℕ) → i < 64 → i ≢ p % 64 → lane i w ≡ lane i (slice_index words (p / 64)))
    → is_pending (slice_set words (p / 64) w) k ≡ is_pending words k
set_other_place words p w k h ne kept = elim (eqb_tells (k / 64) (p / 64)) [
  | inl t ↦
      let other : k % 64 ≢ p % 64 = (λ e. ne (same_place k p t.1 e)) in
      ap (λ (n : ℕ). lane (k % 64) (slice_index (slice_set words (p / 64) w) n)) t.1
      ∙ ap (lane (k % 64)) (set_here words (p / 64) w h)
      ∙ kept (k % 64) (bit_below k) other
      ∙ ap (λ (n : ℕ). lane (k % 64) (slice_index words n)) (sym t.1)
  | inr t ↦ ap (lane (k % 64)) (set_elsewhere words (p / 64) (k / 64) w t.1)
]

pub marked : (words : List ℕ) (p v : ℕ) → v ≡ slice_index words (p / 64) → p / 64 < length words → IsMarked words (slice_set words (p / 64) (bit_or v (2 ^ (p % 64)))) p
marked words p v is h = record {
  size = length-set words (p / 64) _;
  here = ap (lane (p % 64)) (set_here words (p / 64) _ h) ∙ with_same v (p % 64);
  others = λ k ne. set_other_place words p _ k h ne (λ i less other. with_other v (p % 64) i other ∙ ap (lane i) is);
}

pub unmarked : (words : List ℕ) (p v : ℕ) → v ≡ slice_index words (p / 64) → p / 64 < length words → IsUnmarked words (slice_set words (p / 64) (bit_and v (bit_xor (2 ^ (p % 64)) all_ones))) p
unmarked words p v is h = record {
  size = length-set words (p / 64) _;
  here = ap (lane (p % 64)) (set_here words (p / 64) _ h) ∙ without_same v (p % 64) (bit_below p);
  others = λ k ne. set_other_place words p _ k h ne (λ i less other. without_other v (p % 64) i less other ∙ ap (lane i) is);
}

-- a bit of a word that is shifted
bit_shifted : (w s i : ℕ) → bit_at (w / 2 ^ s) i ≡ bit_at w (s + i)
bit_shifted w s i = ap (λ (n : ℕ). n % 2) (div-div-eq-div-mul w (2 ^ s) (2 ^ i) ∙ ap (λ (n : ℕ). w / n) (sym (pow-add 2 s i)))

lane_shifted : (w s i : ℕ) → lane i (w / 2 ^ s) ≡ lane (s + i) w
lane_shifted w s i = ap (λ (n : ℕ). nat_eq n 1) (bit_shifted w s i)

lane_from : (w s i : ℕ) → s ≤ i → lane i w ≡ lane (i - s) (w / 2 ^ s)
lane_from w s i le = let there : s + (i - s) ≡ i = omega arith in ap (λ (n : ℕ). lane n w) (sym there) ∙ sym (lane_shifted w s (i - s))

pub no_bit : (w s : ℕ) → w / 2 ^ s ≡ 0 → IsFirstBit w s None
no_bit w s none i le = lane_from w s i le ∙ ap (lane (i - s)) none ∙ lane_zero (i - s)

pub one_bit : (w s : ℕ) → w < 2 ^ 64 → 0 < w / 2 ^ s → IsFirstBit w s (Some (s + trailing_zeros w64 (w / 2 ^ s)))
one_bit w s fits some = (omega arith, (below, (here, before)))
  where
    less : w / 2 ^ s < 2 ^ 64
    less = let le = div-le_self w (2 ^ s) in omega arith

    first : (trailing_zeros w64 (w / 2 ^ s) < 64) × ((lane (trailing_zeros w64 (w / 2 ^ s)) (w / 2 ^ s) ≡ true) × ((j : ℕ) → j < trailing_zeros w64 (w / 2 ^ s) → lane j (w / 2 ^ s) ≡ false))
    first = first_lane (w / 2 ^ s) some less

    here : lane (s + trailing_zeros w64 (w / 2 ^ s)) w ≡ true
    here = sym (lane_shifted w s (trailing_zeros w64 (w / 2 ^ s))) ∙ first.1.0

    below : s + trailing_zeros w64 (w / 2 ^ s) < 64
    below = elim (below_or (s + trailing_zeros w64 (w / 2 ^ s)) 64) [
      | inl yes' ↦ yes'
      | inr past ↦ let never : lane (s + trailing_zeros w64 (w / 2 ^ s)) w ≡ false = ap (λ (n : ℕ). nat_eq n 1) (bit_at_above w 64 (s + trailing_zeros w64 (w / 2 ^ s)) fits past) in absurd (let ever = here in cc)
    ]

    before : (i : ℕ) → s ≤ i → i < s + trailing_zeros w64 (w / 2 ^ s) → lane i w ≡ false
    before i le lt = lane_from w s i le ∙ first.1.1 (i - s) (omega arith)
