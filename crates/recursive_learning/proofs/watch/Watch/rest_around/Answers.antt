use Rattle.std.proofs.Common.{ap, arith, inl, inr, length, subst, sym, ◌<◌, ◌∙◌, ℕ}
use Rattle.gate_graph.specs.Circuit.{net_of}
use Rattle.refutation.proofs.Public.{all_came, next_below, yielded_more}
use Rattle.recursive_learning.proofs.Watches.{leaves_more, room_leaves}
use Rattle.recursive_learning.proofs.Indexes.{watched_longer}
use Rattle.recursive_learning.specs.Watching.{HasRoom}
use Rattle.recursive_learning.specs.Resting.{IsWatched}
use Rattle.rm_base.specs.declared.numbers.NodeId.{NodeId}
use Rattle.recursive_learning.proofs.watch.Watch.rest_around.Goals as goal
use Rattle.rm_base.proofs.Public.{last_cases}

pub add-requires-in-loop-reader-clause-place : goal.add-requires-in-loop-reader-clause-place
add-requires-in-loop-reader-clause-place c =
    let below : c.in-Some-reader.reader.0 < length (net_of c.args.graph.now).nodes = next_below c.args.graph.now c.args.node.0 c.readers_listed.ensures c.into_iter-reader-iterator.result (c.into_iter-reader-iterator.ensures.into_iter_gives ∙ c.readers_of-reader-items.ensures) c.loop-reader.yielded c.in-Some-reader.reader _ _ c.loop-reader.invariant.all c.in-Some-reader.ensures.steps in
    let room : HasRoom (net_of c.args.graph.now) c.loop-reader.self = room_leaves (net_of c.args.graph.now) c.args.self.now c.loop-reader.self c.loop-reader.invariant.leaves c.requires.room in
    let places = room.places in
    omega arith

pub loop-reader-preserved : goal.loop-reader-preserved
loop-reader-preserved c = record {
  all = yielded_more (λ (d : NodeId). d.0) c.into_iter-reader-iterator.result c.loop-reader.yielded c.in-Some-reader.reader _ _ c.loop-reader.invariant.all c.in-Some-reader.ensures.steps;
  leaves = leaves_more c.args.self.now c.loop-reader.self c.add-in-loop-reader.new.self c.loop-reader.invariant.leaves c.in_ok-add-2.ensures.numbers c.in_ok-add-2.ensures.longer;
  itself = watched_longer c.loop-reader.self.rests.entries c.add-in-loop-reader.new.self.entries c.in_ok-add-2.ensures.longer c.args.node.0 c.args.gate.0 c.loop-reader.invariant.itself;
  done = λ k gate e. elim (last_cases c.loop-reader.yielded c.in-Some-reader.reader k gate e) [
    | inl before ↦ watched_longer c.loop-reader.self.rests.entries c.add-in-loop-reader.new.self.entries c.in_ok-add-2.ensures.longer gate.0 c.args.gate.0 (c.loop-reader.invariant.done k gate before)
    | inr is ↦ subst (λ (z : ℕ). IsWatched c.add-in-loop-reader.new.self.entries z c.args.gate.0) (ap (λ (d : NodeId). d.0) (sym is)) c.in_ok-add-2.ensures.watched
  ];
}

pub returns-clause-around : goal.returns-clause-around
returns-clause-around c live z (inl is) = subst (λ (z : ℕ). IsWatched c.loop-reader.self.rests.entries z c.args.gate.0) (sym is) c.loop-reader.invariant.itself
returns-clause-around c live z (inr (p, reads)) =
    let came = all_came c.args.graph.now c.args.node.0 c.readers_listed.ensures c.into_iter-reader-iterator.result (c.into_iter-reader-iterator.ensures.into_iter_gives ∙ c.readers_of-reader-items.ensures) c.loop-reader.yielded _ c.loop-reader.invariant.all c.in-None.ensures.steps.0 z p reads in
    subst (λ (z : ℕ). IsWatched c.loop-reader.self.rests.entries z c.args.gate.0) came.1.1.1 (c.loop-reader.invariant.done came.0 came.1.0 came.1.1.0)
