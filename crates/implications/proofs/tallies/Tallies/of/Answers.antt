use Rattle.std.proofs.Common.{arith, length, sym, subst, ap}
use Rattle.gate_graph.specs.Circuit.{net_of}
use Rattle.implications.proofs.Rising.{tallied_more}
use Rattle.implications.proofs.tallies.Tallies.of.Goals as goal
use Rattle.implications.specs.Inner.Tallies.{AreTallied, TallyState}
use Rattle.refutation.specs.FactSets.{held_by}

pub returns-clause-tallied : goal.returns-clause-tallied
returns-clause-tallied c = tallied_more (net_of c.args.question.now.graph.now) (held_by c.args.facts.now) c.args.question.now.fault.position c.self.inside.counted c.add.new.self c.self.inside.tallies.items c.args.node.0 c.count_pins-tally.result
    (subst (λ (s : TallyState). AreTallied (net_of c.args.question.now.graph.now) (held_by c.args.facts.now) c.args.question.now.fault.position s) (sym c.self.view_is) c.requires.tallied)
    c.add.ensures
    (let size = ap (λ (s : TallyState). length s.counted) c.self.view_is in omega (arith, c.self.invariant, size, c.requires.room, c.gate_pins.ensures.bound))
    (rw c.gate_pins.ensures.drivers at c.count_pins-tally.ensures)
