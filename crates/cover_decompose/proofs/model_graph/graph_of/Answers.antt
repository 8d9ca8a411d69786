use Rattle.std.proofs.Common.{◌≡◌, ◌<◌, ◌≤◌, ◌+◌, All, List, ap, arith, length, map, subst, sym, ℕ, ◌∙◌}
use Rattle.std.specs.Prelude.{slice_index}
use Rattle.gate_net.specs.Net.{Node}
use Rattle.rm_model.specs.Value.{observed_names, source_names}
use Rattle.cover_decompose.specs.Built.{IsBuilt}
use Rattle.cover_decompose.specs.Decomposition.{last_state}
use Rattle.cover_decompose.proofs.Whole.{buildable, observed_below, observed_few}
use Rattle.cover_decompose.proofs.model_graph.graph_of.Goals as goal

pub build-requires-clause-plan : goal.build-requires-clause-plan
build-requires-clause-plan c =
    buildable c.args.model.now c.args.numbering.now.sources c.in_ok-plan.plan.made c.in_ok-plan.ensures.made c.requires.sources c.requires.few_sources
    (c.decompositions_stand.ensures.wires c.args.model.now c.requires.formed c.requires.ranked) c.requires.few_pins

pub build-requires-clause-signals : goal.build-requires-clause-signals
build-requires-clause-signals c =
    let count : length c.in_ok-plan.plan.nodes ≡ c.args.numbering.now.sources + length c.args.model.now.covers = c.in_ok-plan.ensures.signals in
    let sources : c.args.numbering.now.sources ≡ length (source_names c.args.model.now) = c.requires.sources in
    let same : length (source_names c.args.model.now) + length c.args.model.now.covers ≡ length c.in_ok-plan.plan.nodes = omega arith in
    subst (λ (l : List ℕ). All (λ k. k < length c.in_ok-plan.plan.nodes) l) (sym c.as_slice.ensures.value)
    (subst (λ (n : ℕ). All (λ k. k < n) c.args.numbering.now.observed.items) same c.requires.numbered.points_within)

pub build-requires-clause-nodes : goal.build-requires-clause-nodes
build-requires-clause-nodes c =
    subst (λ (l : List ℕ). All (λ k. slice_index c.in_ok-plan.plan.nodes k < length c.in_ok-plan.plan.made) l) (sym c.as_slice.ensures.value)
    (observed_below c.args.model.now c.in_ok-plan.plan.nodes c.args.numbering.now.observed.items c.in_ok-plan.plan.made c.in_ok-plan.ensures.made c.in_ok-plan.ensures.observed)

pub build-requires-clause-few : goal.build-requires-clause-few
build-requires-clause-few c =
    let slice : length c.as_slice.result.now ≡ length c.args.numbering.now.observed.items = ap (λ (l : List ℕ). length l) c.as_slice.ensures.value in
    let count : length c.args.numbering.now.observed.items ≡ length (observed_names c.args.model.now) = observed_few c.args.model.now c.in_ok-plan.plan.nodes c.args.numbering.now.observed.items c.in_ok-plan.ensures.observed in
    let few : length (observed_names c.args.model.now) ≤ 4096 = c.requires.few_observed in
    omega arith

pub returns : goal.returns
returns c =
    subst (λ (l : List ℕ). IsBuilt c.in_ok-graph.graph (last_state c.args.model.now).made l)
    (ap (λ (l : List ℕ). map (slice_index c.in_ok-plan.plan.nodes) l) c.as_slice.ensures.value ∙ c.in_ok-plan.ensures.observed)
    (subst (λ (l : List Node). IsBuilt c.in_ok-graph.graph l (map (slice_index c.in_ok-plan.plan.nodes) c.as_slice.result.now)) c.in_ok-plan.ensures.made c.in_ok-graph.ensures)
