use Rattle.std.proofs.Common.{false, sym, true, ◌∙◌, ◌≡◌}
use Rattle.gate_graph.specs.Circuit.{net_of}
use Rattle.implications.proofs.SettledNodes.{faulty_backs, found_of}
use Rattle.implications.proofs.next_line.parity_faulty_line.Goals as goal
use Rattle.implications.specs.Inner.Pulls.{AreDoneFaulty}
use Rattle.refutation.specs.declared.reasoning.Line.TheVariants.{FaultyBack}

pub returns-then-inverts : goal.returns-then-inverts
returns-then-inverts c = (c.in_default.ensures, faulty_backs (net_of c.args.question.now.graph.now) c.args.question.now.fault c.args.facts.now c.args.node c.args.inverts c.requires.ready.formed c.requires.kind c.in_default-faulty_back_line.ensures (λ off. let wrong : true ≡ false = sym c.if-inverts.true ∙ off in cc))

pub returns : goal.returns
returns c =
    found_of (net_of c.args.question.now.graph.now) c.args.question.now.fault c.args.facts.now (FaultyBack c.args.node 1) (AreDoneFaulty (net_of c.args.question.now.graph.now) c.args.question.now.fault c.args.facts.now c.args.node) c.faulty_back_line-2.result
    (λ second. (c.in_default.ensures, faulty_backs (net_of c.args.question.now.graph.now) c.args.question.now.fault c.args.facts.now c.args.node c.args.inverts c.requires.ready.formed c.requires.kind c.in_default-faulty_back_line.ensures (λ off. second))) c.faulty_back_line-2.ensures
