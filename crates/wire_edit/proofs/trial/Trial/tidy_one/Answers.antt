use Rattle.std.proofs.Common.{◌∙◌, sym, subst, arith}
use Rattle.gate_net.specs.Net.{Net}
use Rattle.gate_graph.specs.Circuit.{net_of}
use Rattle.wire_edit.specs.declared.room.Room.{Room}
use Rattle.wire_edit.proofs.Ordering.{next_applies}
use Rattle.wire_edit.specs.Inner.Firsts.{IsPlainAfter}
use Rattle.wire_edit.proofs.KnownPins.{plain_after}
use Rattle.wire_edit.proofs.Trying.{tidying_room}
use Rattle.wire_edit.proofs.trial.Trial.tidy_one.Goals as goal

pub make-requires-clause-applies : goal.make-requires-clause-applies
make-requires-clause-applies c = (next_applies (net_of c.self.inside.graph) c.in-Some.step (sym c.next_rule-next.ensures.next ∙ c.in-Some.is)).1

pub make-requires-clause-room : goal.make-requires-clause-room
make-requires-clause-room c =
    let i = c.self.inside in
    let room : Room = record { pins = i.pins; nodes = i.nodes; steps = i.made.spare } in
    tidying_room (net_of i.graph) room c.in-Some.step (next_applies (net_of i.graph) c.in-Some.step (sym c.next_rule-next.ensures.next ∙ c.in-Some.is)).0 (omega (arith, c.if-spare-eq0.false, c.spare.ensures))

pub remember-requires : goal.remember-requires
remember-requires c =
    subst (λ (n : Net). IsPlainAfter n c.in-Some.step) (sym c.make.ensures.net) (plain_after (net_of c.self.inside.graph) c.in-Some.step (sym c.next_rule-next.ensures.next ∙ c.in-Some.is) (c.removes-out.ensures c.if-out.true))
