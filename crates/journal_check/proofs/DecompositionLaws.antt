-- A decomposition within its limits is small enough.
use Rattle.std.proofs.Common.{◌≡◌, ◌≤◌, length, sym, subst, arith}
use Rattle.std.proofs.lemmas.List.{length-map}
use Rattle.rm_model.specs.Value.{observed_names}
use Rattle.rm_model.specs.declared.parts.Model.{Model}
use Rattle.gate_net.specs.Net.{wire_count}
use Rattle.gate_graph.specs.Circuit.{Circuit, live_nodes, net_of}
use Rattle.cover_decompose.specs.Count.{decomposed}
use Rattle.cover_decompose.specs.Decomposition.{net_of_model}
use Rattle.journal_check.specs.Inner.Within.{IsWithin}
use Rattle.journal_check.proofs.WithinLaws.{within_few}

few_observed : (m : Model) → length (net_of_model m).observed ≡ length (observed_names m)
few_observed m = length-map (observed_names m) _

pub decomposed_within : (m : Model) (g : Circuit) → net_of g ≡ net_of_model m → wire_count (net_of_model m) ≡ decomposed m → decomposed m ≤ 65536 → live_nodes g ≡ length (net_of_model m).nodes → live_nodes g ≤ 66562 → length (observed_names m) ≤ 4096 → IsWithin (net_of g)
decomposed_within m g e w d n l o =
    subst IsWithin (sym e) (within_few (net_of_model m) (omega (arith, w, d)) (omega (arith, n, l)) (omega (arith, few_observed m, o)))
