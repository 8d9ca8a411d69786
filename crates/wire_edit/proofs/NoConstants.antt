-- Gates that read no constant.
use Rattle.std.proofs.Common.{◌≡◌, ℕ, zero, suc, ◌<◌, Bool, false, Option, Some, None, List, [], ◌∷◌, length, refl, ◌∙◌, ap}
use Rattle.std.specs.Prelude.{slice_get, option_and_then}
use Rattle.std.proofs.lemmas.Bool.{both_ways, false_from_ne_true}
use Rattle.std.proofs.lemmas.Option.{slice_get_within}
use Rattle.gate_net.proofs.Public.{node_at-there}
use Rattle.gate_net.specs.Net.{Net, drivers_in, drivers_of, IsGate}
use Rattle.gate_net.specs.Edits.{without, without_pin}
use Rattle.wire_edit.specs.Tests.{is_present, kind_constant, constant_of, constant_at}
use Rattle.wire_edit.specs.Inner.Firsts.{reads_constant, ReadsNoConstant}
use Rattle.wire_edit.proofs.Tested.{present, constant_read}
use Rattle.wire_edit.proofs.Working.{with_kinds}

pub plain_all : (net : Net) (gate : ℕ) → ((k : ℕ) → k < length (drivers_of net gate) → reads_constant net gate k ≡ false) → ReadsNoConstant net gate
plain_all net gate none k = false_from_ne_true _ (λ e.
    let b : (b : Bool) × (constant_at net gate k ≡ Some b) = present (constant_at net gate k) e in
    let d : (d : ℕ) × ((slice_get (drivers_of net gate) k ≡ Some d) × _) = constant_read net gate k b.0 b.1 in
    both_ways _ (none k (slice_get_within (drivers_of net gate) k d.0 d.1.0)) e)

-- what stands in a list without one place stands in the list
without_back : (ds : List ℕ) (p q : ℕ) → (k : ℕ) × (slice_get (without ds p) q ≡ slice_get ds k)
without_back [] p q = (q, refl)
without_back (d ∷ ds) zero q = (suc q, refl)
without_back (d ∷ ds) (suc p) zero = (0, refl)
without_back (d ∷ ds) (suc p) (suc q) = let rest : (k : ℕ) × (slice_get (without ds p) q ≡ slice_get ds k) = without_back ds p q in (suc rest.0, rest.1)

module _ (net : Net) (gate p : ℕ) (g : IsGate net gate) where
  abbrev pub after : Net
  after = without_pin net gate p

  pub drivers_after : drivers_of after gate ≡ without (drivers_of net gate) p
  drivers_after = ap drivers_in (node_at-there net gate (without (drivers_of net gate) p) (record { kind = g.0; drivers = g.1.0.0 }) g.1.0.1)

  pub constant_after : (o : Option ℕ) → is_present (option_and_then (constant_of after) o) ≡ is_present (option_and_then (constant_of net) o)
  constant_after None = refl
  constant_after (Some d) = ap (λ k. is_present (kind_constant k)) (with_kinds net gate (without (drivers_of net gate) p) g d)

  pub plain_removed : ReadsNoConstant net gate → ReadsNoConstant after gate
  plain_removed none q =
      let back : (k : ℕ) × (slice_get (without (drivers_of net gate) p) q ≡ slice_get (drivers_of net gate) k) = without_back (drivers_of net gate) p q in
      ap (λ (ds : List ℕ). is_present (option_and_then (constant_of after) (slice_get ds q))) drivers_after
      ∙ ap (λ (o : Option ℕ). is_present (option_and_then (constant_of after) o)) back.1
      ∙ constant_after (slice_get (drivers_of net gate) back.0) ∙ none back.0
