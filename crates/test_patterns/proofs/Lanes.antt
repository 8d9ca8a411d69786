-- A vector in a lane.
use Rattle.std.proofs.Common.{◌≡◌, ℕ, zero, suc, ◌-◌, ◌<◌, ◌≤◌, Bool, true, false, List, [], ◌∷◌, length, map, refl, sym, ◌∙◌, arith}
use Rattle.std.proofs.Math.Path.{fun_ext}
use Rattle.std.proofs.lemmas.Nat.Bits.{bit_at-zero}
use Rattle.std.proofs.lemmas.Bool.{ltb-false, ltb-true}
use Rattle.std.specs.Prelude.{nat_lt, slice_index, slice_index_or}
use Rattle.gate_net.specs.Faults.{assigned}
use Rattle.fault_sim.specs.Words.{assignment, lane}
use Rattle.test_patterns.specs.Inner.Groups.{bit_word}

lane_bit : (b : Bool) → lane 0 (bit_word b) ≡ b
lane_bit true = refl
lane_bit false = refl

at_place : (vector : List Bool) (k : ℕ) → lane 0 (slice_index (map bit_word vector) k) ≡ slice_index_or vector k false
at_place [] k = refl
at_place (b ∷ bs) zero = lane_bit b
at_place (b ∷ bs) (suc k) = at_place bs k

-- the first lane's assignment is the vector's
pub first_lane : (vector : List Bool) → assignment (map bit_word vector) 0 ≡ assigned vector
first_lane vector = fun_ext (λ x. at_place vector (x - 2))

-- a lane that has each value of the vector has its assignment
pub lane_assigned : (words : List ℕ) (i : ℕ) (vector : List Bool) → length vector ≡ length words → ((k : ℕ) → k < length words → lane i (slice_index words k) ≡ slice_index_or vector k false)
    → assignment words i ≡ assigned vector
lane_assigned words i vector size each = fun_ext (λ x. at_all (x - 2))
  where
    past : (xs : List ℕ) (k : ℕ) → length xs ≤ k → lane i (slice_index xs k) ≡ false
    past [] k le = rw (bit_at-zero i) refl
    past (y ∷ ys) zero le = absurd (omega arith)
    past (y ∷ ys) (suc k) le = past ys k (omega arith)

    past_vector : (bs : List Bool) (k : ℕ) → length bs ≤ k → slice_index_or bs k false ≡ false
    past_vector [] k le = refl
    past_vector (b ∷ bs) zero le = absurd (omega arith)
    past_vector (b ∷ bs) (suc k) le = past_vector bs k (omega arith)

    at_all : (k : ℕ) → lane i (slice_index words k) ≡ slice_index_or vector k false
    at_all k = go (nat_lt k (length words)) refl
      where
        go : (b : Bool) → nat_lt k (length words) ≡ b → lane i (slice_index words k) ≡ slice_index_or vector k false
        go true e = each k (ltb-true k (length words) e)
        go false e = let le : length words ≤ k = ltb-false k (length words) e in past words k le ∙ sym (past_vector vector k (omega (arith, le, size)))
