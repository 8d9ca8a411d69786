use Rattle.std.proofs.Common.{ap, arith, inl, inr, length, subst, sym, ◌<◌, ◌∙◌}
use Rattle.gate_graph.specs.Circuit.{net_of}
use Rattle.refutation.proofs.Public.{all_came, next_below, yielded_more}
use Rattle.recursive_learning.proofs.Watches.{listed_still, room_still, still_join}
use Rattle.recursive_learning.specs.Watching.{HasRoom, IsListedAt}
use Rattle.rm_base.specs.declared.numbers.NodeId.{NodeId}
use Rattle.recursive_learning.proofs.watch.Watch.list_around.Goals as goal
use Rattle.rm_base.proofs.Public.{last_cases}

pub list_at-requires-in-loop-reader-clause-place : goal.list_at-requires-in-loop-reader-clause-place
list_at-requires-in-loop-reader-clause-place c =
    let below : c.in-Some-reader.reader.0 < length (net_of c.args.graph.now).nodes = next_below c.args.graph.now c.args.node.0 c.readers_listed.ensures c.into_iter-reader-iterator.result (c.into_iter-reader-iterator.ensures.into_iter_gives ∙ c.readers_of-reader-items.ensures) c.loop-reader.yielded c.in-Some-reader.reader _ _ c.loop-reader.invariant.all c.in-Some-reader.ensures.steps in
    let room : HasRoom (net_of c.args.graph.now) c.loop-reader.self = room_still (net_of c.args.graph.now) c.args.self.now c.loop-reader.self c.loop-reader.invariant.still c.requires in
    let places = room.places in
    omega arith

pub loop-reader-preserved : goal.loop-reader-preserved
loop-reader-preserved c = record {
  all = yielded_more (λ (d : NodeId). d.0) c.into_iter-reader-iterator.result c.loop-reader.yielded c.in-Some-reader.reader _ _ c.loop-reader.invariant.all c.in-Some-reader.ensures.steps;
  still = still_join c.args.self.now c.loop-reader.self c.list_at-in-loop-reader.new.self c.loop-reader.invariant.still c.list_at-in-loop-reader.ensures.still;
  itself = listed_still c.loop-reader.self c.list_at-in-loop-reader.new.self c.args.node.0 c.list_at-in-loop-reader.ensures.still c.loop-reader.invariant.itself;
  done = λ k gate e. elim (last_cases c.loop-reader.yielded c.in-Some-reader.reader k gate e) [
    | inl before ↦ listed_still c.loop-reader.self c.list_at-in-loop-reader.new.self gate.0 c.list_at-in-loop-reader.ensures.still (c.loop-reader.invariant.done k gate before)
    | inr is ↦ subst (IsListedAt c.list_at-in-loop-reader.new.self) (ap (λ (d : NodeId). d.0) (sym is)) c.list_at-in-loop-reader.ensures.there
  ];
}

pub returns-clause-around : goal.returns-clause-around
returns-clause-around c live z (inl is) = subst (IsListedAt c.loop-reader.self) (sym is) c.loop-reader.invariant.itself
returns-clause-around c live z (inr (p, reads)) =
    let came = all_came c.args.graph.now c.args.node.0 c.readers_listed.ensures c.into_iter-reader-iterator.result (c.into_iter-reader-iterator.ensures.into_iter_gives ∙ c.readers_of-reader-items.ensures) c.loop-reader.yielded _ c.loop-reader.invariant.all c.in-None.ensures.steps.0 z p reads in
    subst (IsListedAt c.loop-reader.self) came.1.1.1 (c.loop-reader.invariant.done came.0 came.1.0 came.1.1.0)
