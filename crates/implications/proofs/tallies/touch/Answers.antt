use Rattle.std.proofs.Common.{[], ap, arith, inl, inr, length, length-set, map, refl, subst, true, ◌<◌, ◌∙◌, ◌∷◌}
use Rattle.std.proofs.lemmas.List.{map-append}
use Rattle.gate_graph.specs.Circuit.{net_of}
use Rattle.gate_graph.proofs.Public.{seen_kept, seen_new}
use Rattle.gate_graph.specs.Search.{IsSeen}
use Rattle.implications.proofs.ReaderCounts.{all_counted, next_counted}
use Rattle.implications.proofs.Rising.{all_tallied, next_can_rise, raises_more, raises_none}
use Rattle.implications.proofs.tallies.touch.Goals as goal
use Rattle.implications.specs.Inner.Rises.{rise_by}
use Rattle.refutation.specs.FactSets.{held_by}
use Rattle.refutation.proofs.Public.{all_came, kind_live, next_below, yielded_more}
use Rattle.rm_base.specs.declared.numbers.NodeId.{NodeId}
use Rattle.rm_base.proofs.Public.{last_cases}

pub rise_by-rise-requires : goal.rise_by-rise-requires
rise_by-rise-requires c = let below : c.args.node.0 < length (net_of c.args.question.now.graph.now).nodes = kind_live (net_of c.args.question.now.graph.now) c.args.node.0 c.requires.node in omega (arith, c.requires.size)

pub add-requires : goal.add-requires
add-requires c = let below : c.args.node.0 < length (net_of c.args.question.now.graph.now).nodes = kind_live (net_of c.args.question.now.graph.now) c.args.node.0 c.requires.node in omega (arith, c.requires.worklist)

pub loop-reader-init : goal.loop-reader-init
loop-reader-init c =
    let below : c.args.node.0 < length (net_of c.args.question.now.graph.now).nodes = kind_live (net_of c.args.question.now.graph.now) c.args.node.0 c.requires.node in
    record {
      all = refl;
      kept = λ z seen. rw c.add.ensures (seen_kept c.args.worklist.now c.args.node.0 z seen);
      itself = rw c.add.ensures (seen_new c.args.worklist.now c.args.node.0 (omega (arith, c.requires.worklist)));
      done = λ k gate e. absurd cc;
      size = rw c.add.ensures (length-set c.args.worklist.now c.args.node.0 true);
      raised = raises_none (rise_by (held_by c.args.facts.now) c.args.node.0 c.args.fact) c.args.tallies.now;
    }

pub add-requires-in-loop-reader : goal.add-requires-in-loop-reader
add-requires-in-loop-reader c =
    let below : c.in-Some.reader.0 < length (net_of c.args.question.now.graph.now).nodes =
    next_below c.args.question.now.graph.now c.args.node.0 c.readers_listed.ensures c.into_iter-reader-iterator.result (c.into_iter-reader-iterator.ensures.into_iter_gives ∙ c.readers_of-reader-items.ensures) c.loop-reader.yielded c.in-Some.reader _ _ c.loop-reader.invariant.all c.in-Some.ensures.steps in
    omega (arith, c.requires.worklist, c.loop-reader.invariant.size)

pub raise-requires-clause-room : goal.raise-requires-clause-room
raise-requires-clause-room c =
    let below : c.in-Some.reader.0 < length (net_of c.args.question.now.graph.now).nodes =
    next_below c.args.question.now.graph.now c.args.node.0 c.readers_listed.ensures c.into_iter-reader-iterator.result (c.into_iter-reader-iterator.ensures.into_iter_gives ∙ c.readers_of-reader-items.ensures) c.loop-reader.yielded c.in-Some.reader _ _ c.loop-reader.invariant.all c.in-Some.ensures.steps in
    omega (arith, c.requires.room, ap length c.loop-reader.invariant.raised.counted)

pub raise-requires-clause-can : goal.raise-requires-clause-can
raise-requires-clause-can c = rw c.rise_by-rise.ensures (next_can_rise (net_of c.args.question.now.graph.now) (held_by c.args.facts.now) c.args.node.0 c.args.fact c.requires.new c.args.question.now.fault.position c.args.tallies.now c.loop-reader.tallies c.requires.tallied (map (λ (d : NodeId). d.0) c.loop-reader.yielded) c.loop-reader.invariant.raised c.in-Some.reader.0
    (next_counted c.args.question.now.graph.now c.args.node.0 c.readers_listed.ensures c.into_iter-reader-iterator.result (c.into_iter-reader-iterator.ensures.into_iter_gives ∙ c.readers_of-reader-items.ensures) c.loop-reader.yielded c.in-Some.reader _ _ c.loop-reader.invariant.all c.in-Some.ensures.steps))

pub loop-reader-preserved : goal.loop-reader-preserved
loop-reader-preserved c =
    let below : c.in-Some.reader.0 < length (net_of c.args.question.now.graph.now).nodes =
    next_below c.args.question.now.graph.now c.args.node.0 c.readers_listed.ensures c.into_iter-reader-iterator.result (c.into_iter-reader-iterator.ensures.into_iter_gives ∙ c.readers_of-reader-items.ensures) c.loop-reader.yielded c.in-Some.reader _ _ c.loop-reader.invariant.all c.in-Some.ensures.steps in
    record {
      all = yielded_more (λ (d : NodeId). d.0) c.into_iter-reader-iterator.result c.loop-reader.yielded c.in-Some.reader _ _ c.loop-reader.invariant.all c.in-Some.ensures.steps;
      kept = λ z seen. rw c.add-in-loop-reader.ensures (seen_kept c.loop-reader.worklist c.in-Some.reader.0 z (c.loop-reader.invariant.kept z seen));
      itself = rw c.add-in-loop-reader.ensures (seen_kept c.loop-reader.worklist c.in-Some.reader.0 c.args.node.0 c.loop-reader.invariant.itself);
      done = λ k gate e. elim (last_cases c.loop-reader.yielded c.in-Some.reader k gate e) [
        | inl before ↦ rw c.add-in-loop-reader.ensures (seen_kept c.loop-reader.worklist c.in-Some.reader.0 gate.0 (c.loop-reader.invariant.done k gate before))
        | inr is ↦ rw (c.add-in-loop-reader.ensures, ap (λ (d : NodeId). d.0) is) (seen_new c.loop-reader.worklist c.in-Some.reader.0 (omega (arith, c.requires.worklist, c.loop-reader.invariant.size)))
      ];
      size = rw c.add-in-loop-reader.ensures (length-set c.loop-reader.worklist c.in-Some.reader.0 true) ∙ c.loop-reader.invariant.size;
      raised = rw (map-append (λ (d : NodeId). d.0) c.loop-reader.yielded (c.in-Some.reader ∷ [])) (raises_more (rise_by (held_by c.args.facts.now) c.args.node.0 c.args.fact) c.args.tallies.now c.loop-reader.tallies c.raise.new.self (map (λ (d : NodeId). d.0) c.loop-reader.yielded) c.in-Some.reader.0 c.loop-reader.invariant.raised (rw c.rise_by-rise.ensures at c.raise.ensures));
    }

pub returns-clause-touches : goal.returns-clause-touches
returns-clause-touches c = record {
  kept = c.loop-reader.invariant.kept;
  itself = c.loop-reader.invariant.itself;
  readers = λ z p reads.
      let came = all_came c.args.question.now.graph.now c.args.node.0 c.readers_listed.ensures c.into_iter-reader-iterator.result (c.into_iter-reader-iterator.ensures.into_iter_gives ∙ c.readers_of-reader-items.ensures) c.loop-reader.yielded _ c.loop-reader.invariant.all c.in-None.ensures.steps.0 z p reads in
      subst (IsSeen c.loop-reader.worklist) came.1.1.1 (c.loop-reader.invariant.done came.0 came.1.0 came.1.1.0);
  size = c.loop-reader.invariant.size;
}

pub returns-clause-tallied : goal.returns-clause-tallied
returns-clause-tallied c = all_tallied (net_of c.args.question.now.graph.now) (held_by c.args.facts.now) c.args.node.0 c.args.fact c.requires.new c.args.question.now.fault.position c.args.tallies.now c.loop-reader.tallies c.requires.tallied (map (λ (d : NodeId). d.0) c.loop-reader.yielded) c.loop-reader.invariant.raised
    (all_counted c.args.question.now.graph.now c.args.node.0 c.readers_listed.ensures c.into_iter-reader-iterator.result (c.into_iter-reader-iterator.ensures.into_iter_gives ∙ c.readers_of-reader-items.ensures) c.loop-reader.yielded _ c.loop-reader.invariant.all c.in-None.ensures.steps.0)

pub returns-clause-room : goal.returns-clause-room
returns-clause-room c = ap length c.loop-reader.invariant.raised.counted
