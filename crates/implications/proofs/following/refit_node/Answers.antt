use Rattle.std.proofs.Common.{arith}
use Rattle.gate_graph.specs.Circuit.{net_of}
use Rattle.implications.proofs.Refitting.{is_dead, is_there, refits_dead, refits_live, refits_past}
use Rattle.implications.proofs.following.refit_node.Goals as goal

pub returns-then-node-len-clause-refitted : goal.returns-then-node-len-clause-refitted
returns-then-node-len-clause-refitted c =
    refits_past (net_of c.args.graph.now) c.args.node.0 c.args.facts.now c.requires (omega (arith, c.if-node-len.true, c.len.ensures))

pub returns-then-is_some-clause-refitted : goal.returns-then-is_some-clause-refitted
returns-then-is_some-clause-refitted c =
    refits_live (net_of c.args.graph.now) c.args.node.0 c.args.facts.now c.insert.new.self (is_there (net_of c.args.graph.now) c.args.node.0 c.kind.result c.is_some.result c.kind.ensures c.is_some.ensures c.if-is_some.true) c.insert.ensures.facts

pub returns-else-is_some-clause-refitted : goal.returns-else-is_some-clause-refitted
returns-else-is_some-clause-refitted c =
    refits_dead (net_of c.args.graph.now) c.args.node.0 c.args.facts.now c.remove.new.self (is_dead (net_of c.args.graph.now) c.args.node.0 c.kind.result c.is_some.result c.kind.ensures c.is_some.ensures c.if-is_some.false) c.remove.ensures
