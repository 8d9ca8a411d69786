use Rattle.std.proofs.Common.{sym, ◌∙◌}
use Rattle.gate_graph.specs.Circuit.{net_of}
use Rattle.wire_edit.proofs.Reading.{dead_unused, used_test}
use Rattle.wire_edit.proofs.Tested.{live_is}
use Rattle.wire_edit.proofs.looks.is_in_use.Goals as goal

pub returns : goal.returns
returns c = used_test c.args.graph.now c.args.node.0 c.is_in_use.result c.readers_listed.ensures c.is_in_use.ensures.unread c.is_in_use.ensures.unobserved c.is_in_use.ensures.used

pub returns-then-not-is_live : goal.returns-then-not-is_live
returns-then-not-is_live c =
    sym (dead_unused (net_of c.args.graph.now) c.args.node.0 c.well_formed-2.ensures.net (sym c.is_live.ensures ∙ c.if-not-is_live.true))

pub is_in_use-requires : goal.is_in_use-requires
is_in_use-requires c = live_is (net_of c.args.graph.now) c.args.node.0 (sym c.is_live.ensures ∙ c.if-not-is_live.false)
