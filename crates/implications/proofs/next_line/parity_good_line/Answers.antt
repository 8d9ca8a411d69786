use Rattle.std.proofs.Common.{false, sym, true, ◌∙◌, ◌≡◌}
use Rattle.gate_graph.specs.Circuit.{net_of}
use Rattle.implications.proofs.SettledNodes.{good_backs, found_of}
use Rattle.implications.proofs.next_line.parity_good_line.Goals as goal
use Rattle.implications.specs.Inner.Pulls.{AreDoneGood}
use Rattle.refutation.specs.declared.reasoning.Line.TheVariants.{GoodBack}

pub returns-then-inverts : goal.returns-then-inverts
returns-then-inverts c = (c.in_default.ensures, good_backs (net_of c.args.question.now.graph.now) c.args.question.now.fault c.args.facts.now c.args.node c.args.inverts c.requires.ready.formed c.requires.kind c.in_default-good_back_line.ensures (λ off. let wrong : true ≡ false = sym c.if-inverts.true ∙ off in cc))

pub returns : goal.returns
returns c =
    found_of (net_of c.args.question.now.graph.now) c.args.question.now.fault c.args.facts.now (GoodBack c.args.node 1) (AreDoneGood (net_of c.args.question.now.graph.now) c.args.question.now.fault c.args.facts.now c.args.node) c.good_back_line-2.result
    (λ second. (c.in_default.ensures, good_backs (net_of c.args.question.now.graph.now) c.args.question.now.fault c.args.facts.now c.args.node c.args.inverts c.requires.ready.formed c.requires.kind c.in_default-good_back_line.ensures (λ off. second))) c.good_back_line-2.ensures
