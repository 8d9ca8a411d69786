-- A vector in a lane.
use Rattle.std.proofs.Common.{◌≡◌, ℕ, zero, suc, ◌-◌, ◌<◌, ◌≤◌, ◌/◌, ◌^◌, ◌↔◌, Bool, true, false, IsTrue, List, [], ◌∷◌, length, map, refl, ap, sym, subst, ◌∙◌, arith}
use Rattle.std.proofs.Math.Path.{fun_ext}
use Rattle.std.proofs.lemmas.Nat.Bits.{bit_at-zero, shr_and_one}
use Rattle.std.proofs.lemmas.Bool.{ltb-false, ltb-true}
use Rattle.std.specs.Int.{bit_at}
use Rattle.std.specs.Prelude.{bit_and, nat_eq, nat_lt, slice_index, slice_index_or}
use Rattle.rm_base.specs.declared.numbers.Fault.{Fault}
use Rattle.gate_net.specs.Net.{Net, source_count}
use Rattle.gate_net.specs.Values.{Detects}
use Rattle.gate_net.specs.Faults.{IsTest, assigned}
use Rattle.fault_sim.specs.Words.{assignment, lane}
use Rattle.journal_check.specs.Inner.Vectors.{bit_word}

lane_bit : (b : Bool) → lane 0 (bit_word b) ≡ b
lane_bit true = refl
lane_bit false = refl

at_place : (vector : List Bool) (k : ℕ) → lane 0 (slice_index (map bit_word vector) k) ≡ slice_index_or vector k false
at_place [] k = refl
at_place (b ∷ bs) zero = lane_bit b
at_place (b ∷ bs) (suc k) = at_place bs k

-- the first lane's assignment is the vector's
pub first_lane : (vector : List Bool) → assignment (map bit_word vector) 0 ≡ assigned vector
first_lane vector = fun_ext (λ x. at_place vector (x - 2))

low_bit : (n : ℕ) → bit_and n 1 ≡ bit_at n 0
low_bit n =
    let whole : n / 2 ^ 0 ≡ n = omega arith in
    subst (λ (k : ℕ). bit_and k 1 ≡ bit_at n 0) whole (shr_and_one n 0)

-- the first lane says whether the vector detects
pub lane_detects : (net : Net) (fault : Fault) (vector : List Bool) (words : List ℕ) (found : ℕ) → length vector ≡ source_count net → words ≡ map bit_word vector
    → ((i : ℕ) → i < 64 → IsTrue (lane i found) ↔ Detects net fault (assignment words i)) → IsTrue (nat_eq (bit_and found 1) 1) ↔ IsTest net fault vector
lane_detects net fault vector words found size is tells =
    let here : IsTrue (lane 0 found) ↔ Detects net fault (assignment words 0) = tells 0 (omega arith) in
    let same : assignment words 0 ≡ assigned vector = ap (λ (ws : List ℕ). assignment ws 0) is ∙ first_lane vector in
    let test : nat_eq (bit_and found 1) 1 ≡ lane 0 found = ap (λ (n : ℕ). nat_eq n 1) (low_bit found) in (
      λ t. record { size = size; detects = subst (λ (a : ℕ → Bool). Detects net fault a) same (here.0 (subst IsTrue test t)) },
      λ h. subst IsTrue (sym test) (here.1 (subst (λ (a : ℕ → Bool). Detects net fault a) (sym same) h.detects)),
    )

-- a lane that has each value of the vector has its assignment
pub lane_assigned : (words : List ℕ) (i : ℕ) (vector : List Bool) → length vector ≡ length words → ((k : ℕ) → k < length words → lane i (slice_index words k) ≡ slice_index_or vector k false)
    → assignment words i ≡ assigned vector
lane_assigned words i vector size each = fun_ext (λ x. at_all (x - 2))
  where
    past : (xs : List ℕ) (k : ℕ) → length xs ≤ k → lane i (slice_index xs k) ≡ false
    past [] k le = rw (bit_at-zero i) refl
    past (y ∷ ys) zero le = absurd (omega arith)
    past (y ∷ ys) (suc k) le = past ys k (omega arith)

    past_vector : (bs : List Bool) (k : ℕ) → length bs ≤ k → slice_index_or bs k false ≡ false
    past_vector [] k le = refl
    past_vector (b ∷ bs) zero le = absurd (omega arith)
    past_vector (b ∷ bs) (suc k) le = past_vector bs k (omega arith)

    at_all : (k : ℕ) → lane i (slice_index words k) ≡ slice_index_or vector k false
    at_all k = go (nat_lt k (length words)) refl
      where
        go : (b : Bool) → nat_lt k (length words) ≡ b → lane i (slice_index words k) ≡ slice_index_or vector k false
        go true e = each k (ltb-true k (length words) e)
        go false e = let le : length words ≤ k = ltb-false k (length words) e in past words k le ∙ sym (past_vector vector k (omega (arith, le, size)))

-- and the bit of what detects says whether the vector does
pub lane_tests : (net : Net) (fault : Fault) (vector : List Bool) (words : List ℕ) (i found : ℕ) → i < 64 → length vector ≡ source_count net → assignment words i ≡ assigned vector
    → ((j : ℕ) → j < 64 → IsTrue (lane j found) ↔ Detects net fault (assignment words j)) → IsTrue (nat_eq (bit_and (found / 2 ^ i) 1) 1) ↔ IsTest net fault vector
lane_tests net fault vector words i found lt size same tells =
    let here : IsTrue (lane i found) ↔ Detects net fault (assignment words i) = tells i lt in
    let test : nat_eq (bit_and (found / 2 ^ i) 1) 1 ≡ lane i found = ap (λ (n : ℕ). nat_eq n 1) (shr_and_one found i) in (
      λ t. record { size = size; detects = subst (λ (a : ℕ → Bool). Detects net fault a) same (here.0 (subst IsTrue test t)) },
      λ h. subst IsTrue (sym test) (here.1 (subst (λ (a : ℕ → Bool). Detects net fault a) (sym same) h.detects)),
    )

-- whether the fault is detected in the lane says whether the vector does
pub detects_tests : (net : Net) (fault : Fault) (vector : List Bool) (words : List ℕ) (i : ℕ) (found : Bool) → length vector ≡ source_count net → assignment words i ≡ assigned vector
    → IsTrue found ↔ Detects net fault (assignment words i) → IsTrue found ↔ IsTest net fault vector
detects_tests net fault vector words i found size same tells = (
  λ t. record { size = size; detects = subst (λ (a : ℕ → Bool). Detects net fault a) same (tells.0 t) },
  λ h. tells.1 (subst (λ (a : ℕ → Bool). Detects net fault a) (sym same) h.detects),
)
