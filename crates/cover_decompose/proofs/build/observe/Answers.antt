use Rattle.std.proofs.Common.{◌≡◌, ◌<◌, ◌++◌, ◌∷◌, [], List, ap, get_or, length, map, subst, sym, take, ℕ, ◌∙◌}
use Rattle.std.specs.Prelude.{Some, slice_get, slice_index}
use Rattle.std.proofs.lemmas.Option.{slice_get-get_or}
use Rattle.gate_net.specs.Net.{IsLive}
use Rattle.gate_graph.specs.Circuit.{net_of}
use Rattle.cover_decompose.specs.Built.{IsBuilt}
use Rattle.cover_decompose.proofs.Building.{observed_built}
use Rattle.cover_decompose.proofs.Fitting.{node_live, map_push}
use Rattle.cover_decompose.proofs.build.observe.Goals as goal

pub observe-requires-clause-node : goal.observe-requires-clause-node
observe-requires-clause-node c =
    let x : ℕ = get_or c.args.observed.now c.args.at 0 in
    let lt : slice_index c.args.plan.now.nodes x < length c.args.plan.now.made = c.requires.nodes c.args.at 0 c.requires.within in
    subst (λ (n : ℕ). IsLive (net_of c.args.graph.now) n) (sym c.node-node.ensures)
    (node_live c.args.graph.now c.args.plan.now.made (map (slice_index c.args.plan.now.nodes) (take c.args.at c.args.observed.now)) (slice_index c.args.plan.now.nodes x) c.requires.built lt)

pub returns-clause-built : goal.returns-clause-built
returns-clause-built c =
    let x : ℕ = get_or c.args.observed.now c.args.at 0 in
    let at : slice_get c.args.observed.now c.args.at ≡ Some x = slice_get-get_or c.args.observed.now c.args.at 0 c.requires.within in
    let before : List ℕ = map (slice_index c.args.plan.now.nodes) (take c.args.at c.args.observed.now) in
    let built : IsBuilt c.observe.new.self c.args.plan.now.made (before ++ c.node-node.result ∷ []) =
    observed_built c.args.graph.now c.observe.new.self c.args.plan.now.made before c.node-node.result c.requires.built c.in_ok-observe.ensures.observed c.in_ok-observe.ensures.fanouts c.in_ok-observe.ensures.pins c.in_ok-observe.ensures.nodes c.in_ok-observe.ensures.epoch in
    subst (λ (l : List ℕ). IsBuilt c.observe.new.self c.args.plan.now.made l)
    (ap (λ (n : ℕ). before ++ n ∷ []) c.node-node.ensures ∙ sym (map_push (slice_index c.args.plan.now.nodes) c.args.observed.now c.args.at x at)) built
