-- The two pins of an Xor.
use Rattle.std.proofs.Common.{◌≡◌, ℕ, zero, suc, ◌<◌, Bool, false, List, [], ◌∷◌, Some, map, refl, ap, arith, ◌∙◌}
use Rattle.std.specs.Prelude.{slice_get}
use Rattle.gate_net.proofs.Public.{parity_two, turned_self, turned_swapped}
use Rattle.gate_net.specs.Net.{Net, drivers_of, Reads, IsKind, IsWellFormed}
use Rattle.gate_net.specs.Edits.{without}
use Rattle.gate_net.specs.Values.{parity, turned}
use Rattle.gate_net.specs.declared.Kind.TheVariants.{Xor}
use Rattle.wire_edit.specs.Tests.{other_position}

-- the other driver of two
pub record IsOther (ds : List ℕ) (p r other : ℕ) : Type 0 where
  pub reads : slice_get ds (other_position p) ≡ Some other
  pub left : without ds p ≡ other ∷ []
  pub value : (v : ℕ → Bool) → parity false (map v ds) ≡ turned (v r) (v other)

of_two : (d e p r : ℕ) → slice_get (d ∷ e ∷ []) p ≡ Some r → (other : ℕ) × IsOther (d ∷ e ∷ []) p r other
of_two d e zero r reads =
    let same : d ≡ r = cc in
    (e, record { reads = refl; left = refl; value = λ v. parity_two (v d) (v e) ∙ ap (λ x. turned (v x) (v e)) same })
of_two d e (suc zero) r reads =
    let same : e ≡ r = cc in
    (d, record { reads = refl; left = refl; value = λ v. parity_two (v d) (v e) ∙ turned_swapped (v d) (v e) ∙ ap (λ x. turned (v x) (v d)) same })
of_two d e (suc (suc p)) r reads = cc

at_two : (ds : List ℕ) (d e p r : ℕ) → ds ≡ d ∷ e ∷ [] → slice_get ds p ≡ Some r → (other : ℕ) × IsOther ds p r other
at_two ds d e p r is reads = rw is (of_two d e p r (rw is at reads))

pub xor_pin : (net : Net) → IsWellFormed net → (gate p r : ℕ) → IsKind net gate Xor → Reads net gate p r → (other : ℕ) × IsOther (drivers_of net gate) p r other
xor_pin net well gate p r kind reads = let two = well.xors_have_two gate kind in at_two (drivers_of net gate) two.0 two.1 p r two.2 reads

same_two : (d e q p r : ℕ) → q < p → slice_get (d ∷ e ∷ []) q ≡ Some r → slice_get (d ∷ e ∷ []) p ≡ Some r → d ≡ e
same_two d e q zero r lt a b = absurd (omega (arith, lt))
same_two d e zero (suc zero) r lt a b = cc
same_two d e (suc q) (suc zero) r lt a b = absurd (omega (arith, lt))
same_two d e q (suc (suc p)) r lt a b = cc

-- an Xor of one node twice
pub xor_same : (net : Net) → IsWellFormed net → (gate q p r : ℕ) → IsKind net gate Xor → q < p → Reads net gate q r → Reads net gate p r → (v : ℕ → Bool) → parity false (map v (drivers_of net gate)) ≡ false
xor_same net well gate q p r kind lt a b v =
    let two = well.xors_have_two gate kind in
    let same : two.0 ≡ two.1 = same_two two.0 two.1 q p r lt (rw two.2 at a) (rw two.2 at b) in
    ap (λ (ds : List ℕ). parity false (map v ds)) two.2 ∙ parity_two (v two.0) (v two.1) ∙ ap (λ x. turned (v two.0) (v x)) (sym' same) ∙ turned_self (v two.0)
  where
    sym' : {x y : ℕ} → x ≡ y → y ≡ x
    sym' e = cc
