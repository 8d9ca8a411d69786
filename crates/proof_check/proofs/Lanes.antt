-- A vector in the first lane.
use Rattle.std.proofs.Common.{Bool, IsTrue, List, [], ap, arith, false, length, map, refl, subst, suc, sym, true, zero, ℕ, ◌-◌, ◌/◌, ◌<◌, ◌^◌, ◌∙◌, ◌∷◌, ◌≡◌, ◌↔◌}
use Rattle.std.proofs.Math.Path.{fun_ext}
use Rattle.std.proofs.lemmas.Nat.Bits.{shr_and_one}
use Rattle.std.specs.Int.{bit_at}
use Rattle.std.specs.Prelude.{bit_and, nat_eq, slice_index, slice_index_or}
use Rattle.rm_base.specs.declared.numbers.Fault.{Fault}
use Rattle.gate_net.specs.Faults.{IsTest, assigned}
use Rattle.gate_net.specs.Net.{Net, source_count}
use Rattle.gate_net.specs.Values.{Detects}
use Rattle.fault_sim.specs.Words.{assignment, lane}
use Rattle.proof_check.specs.Inner.Vectors.{bit_word}

lane_bit : (b : Bool) → lane 0 (bit_word b) ≡ b
lane_bit true = refl
lane_bit false = refl

at_place : (vector : List Bool) (k : ℕ) → lane 0 (slice_index (map bit_word vector) k) ≡ slice_index_or vector k false
at_place [] k = refl
at_place (b ∷ bs) zero = lane_bit b
at_place (b ∷ bs) (suc k) = at_place bs k

-- the first lane's assignment is the vector's
first_lane : (vector : List Bool) → assignment (map bit_word vector) 0 ≡ assigned vector
first_lane vector = fun_ext (λ x. at_place vector (x - 2))

low_bit : (n : ℕ) → bit_and n 1 ≡ bit_at n 0
low_bit n =
    let whole : n / 2 ^ 0 ≡ n = omega arith in
    subst (λ (k : ℕ). bit_and k 1 ≡ bit_at n 0) whole (shr_and_one n 0)

-- the first lane says whether the vector detects
pub lane_detects : (net : Net) (fault : Fault) (vector : List Bool) (words : List ℕ) (found : ℕ) → length vector ≡ source_count net → words ≡ map bit_word vector
    → ((i : ℕ) → i < 64 → IsTrue (lane i found) ↔ Detects net fault (assignment words i)) → IsTrue (nat_eq (bit_and found 1) 1) ↔ IsTest net fault vector
lane_detects net fault vector words found size is tells =
    let here : IsTrue (lane 0 found) ↔ Detects net fault (assignment words 0) = tells 0 (omega arith) in
    let same : assignment words 0 ≡ assigned vector = ap (λ (ws : List ℕ). assignment ws 0) is ∙ first_lane vector in
    let test : nat_eq (bit_and found 1) 1 ≡ lane 0 found = ap (λ (n : ℕ). nat_eq n 1) (low_bit found) in (
      λ t. record { size = size; detects = subst (λ (a : ℕ → Bool). Detects net fault a) same (here.0 (subst IsTrue test t)) },
      λ h. subst IsTrue (sym test) (here.1 (subst (λ (a : ℕ → Bool). Detects net fault a) (sym same) h.detects)),
    )
