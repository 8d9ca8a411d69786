use Rattle.std.proofs.Common.{arith, false, length, sym, true, ◌<◌, ◌∙◌, ◌≡◌}
use Rattle.gate_graph.specs.Circuit.{net_of}
use Rattle.refutation_check.proofs.Splits.{splits_within}
use Rattle.refutation_check.proofs.Turnings.{bad_split}
use Rattle.refutation_check.proofs.reading.Walk.read_split.Goals as goal

pub returns-then-not-may_split-clause-err : goal.returns-then-not-may_split-clause-err
returns-then-not-may_split-clause-err c fault ne =
    bad_split _ fault _ c.args.self.now.branches _ _ c.args.node c.args.first c.requires.«open» c.facts.ensures.held
    (λ may. let wrong : false ≡ true = sym c.if-not-may_split.true ∙ c.may_split.ensures.1 may in cc)

pub split-requires-clause-node : goal.split-requires-clause-node
split-requires-clause-node c =
    let within : c.args.node.0 < length (net_of c.args.graph.now).nodes = splits_within _ _ _ _ (c.may_split.ensures.0 c.if-not-may_split.false) in
    omega (arith, c.requires.walk.numbers)
