-- Decompositions are small.
use Rattle.std.proofs.Common.{arith, length, ℕ, ◌≡◌, ◌≤◌}
use Rattle.std.specs.Prelude.{None}
use Rattle.cover_decompose.specs.Count.{decomposed}
use Rattle.cover_decompose.specs.Decomposition.{net_of_model}
use Rattle.cover_decompose.specs.StandsFor.{StandsFor}
use Rattle.gate_net.specs.Net.{wire_count}
use Rattle.rm_model.specs.Ranks.{first_without_rank}
use Rattle.rm_model.specs.WellFormed.{IsWellFormed}
use Rattle.rm_model.specs.declared.parts.Model.{Model}
use Rattle.joined_nets.specs.Growing.{IsSmall}
use Rattle.joined_nets.specs.Ready.{IsReady}

pub small_model : ((m : Model) → IsWellFormed m → first_without_rank m ≡ None → StandsFor (net_of_model m) m) → ((m : Model) → IsWellFormed m → first_without_rank m ≡ None → wire_count (net_of_model m) ≡ decomposed m) → (m : Model) (numbers : ℕ)
    → IsReady m → decomposed m ≤ 65536 → numbers ≡ length (net_of_model m).nodes → numbers ≤ 66562 → IsSmall (net_of_model m)
small_model stands wires m numbers ready few are less =
    let s = stands m ready.formed ready.ranked in
    let w = wires m ready.formed ready.ranked in
    let sources = s.sources in
    let observed = s.observed in
    let few_sources = ready.sources in
    let few_observed = ready.observed in
    record { sources = omega (arith, sources, few_sources); observed = omega (arith, observed, few_observed); wires = omega (arith, w, few); nodes = omega (arith, are, less) }
