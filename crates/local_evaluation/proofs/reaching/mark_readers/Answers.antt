use Rattle.std.proofs.Common.{ap, arith, inl, inr, length, length-set, subst, true, ◌<◌, ◌∙◌, ◌≡◌}
use Rattle.gate_graph.specs.Circuit.{net_of}
use Rattle.gate_graph.proofs.Public.{seen_kept, seen_new}
use Rattle.gate_graph.specs.Search.{IsSeen}
use Rattle.local_evaluation.proofs.Worklists.{not_seen}
use Rattle.local_evaluation.proofs.Reaches.{marks_all, marks_new}
use Rattle.local_evaluation.proofs.Readers.{all_came, next_below, next_reads}
use Rattle.local_evaluation.proofs.reaching.mark_readers.Goals as goal
use Rattle.local_evaluation.proofs.Yielding.{yielded_more}
use Rattle.rm_base.specs.declared.numbers.NodeId.{NodeId}
use Rattle.rm_base.proofs.Public.{last_cases}

pub has-requires : goal.has-requires
has-requires c =
    let below : c.in-Some.reader.0 < length (net_of c.args.graph.now).nodes =
    next_below c.args.graph.now c.args.node.0 c.readers_listed.ensures c.into_iter-reader-iterator.result (c.into_iter-reader-iterator.ensures.into_iter_gives ∙ c.readers_of-reader-items.ensures) c.loop-reader.yielded c.in-Some.reader _ _ c.loop-reader.invariant.all c.in-Some.ensures.steps in
    omega (arith, c.requires.marks, c.loop-reader.invariant.size)

pub add-requires : goal.add-requires
add-requires c =
    let below : c.in-Some.reader.0 < length (net_of c.args.graph.now).nodes =
    next_below c.args.graph.now c.args.node.0 c.readers_listed.ensures c.into_iter-reader-iterator.result (c.into_iter-reader-iterator.ensures.into_iter_gives ∙ c.readers_of-reader-items.ensures) c.loop-reader.yielded c.in-Some.reader _ _ c.loop-reader.invariant.all c.in-Some.ensures.steps in
    omega (arith, c.requires.marks, c.loop-reader.invariant.size)

pub add-requires-then-not-has : goal.add-requires-then-not-has
add-requires-then-not-has c =
    let below : c.in-Some.reader.0 < length (net_of c.args.graph.now).nodes =
    next_below c.args.graph.now c.args.node.0 c.readers_listed.ensures c.into_iter-reader-iterator.result (c.into_iter-reader-iterator.ensures.into_iter_gives ∙ c.readers_of-reader-items.ensures) c.loop-reader.yielded c.in-Some.reader _ _ c.loop-reader.invariant.all c.in-Some.ensures.steps in
    omega (arith, c.requires.worklist, c.loop-reader.invariant.room)

pub loop-reader-preserved-then-not-has : goal.loop-reader-preserved-then-not-has
loop-reader-preserved-then-not-has c =
    let below : c.in-Some.reader.0 < length (net_of c.args.graph.now).nodes =
    next_below c.args.graph.now c.args.node.0 c.readers_listed.ensures c.into_iter-reader-iterator.result (c.into_iter-reader-iterator.ensures.into_iter_gives ∙ c.readers_of-reader-items.ensures) c.loop-reader.yielded c.in-Some.reader _ _ c.loop-reader.invariant.all c.in-Some.ensures.steps in
    let within : c.in-Some.reader.0 < length c.loop-reader.reached = omega (arith, c.requires.marks, c.loop-reader.invariant.size) in
    let reads = next_reads c.args.graph.now c.args.node.0 c.readers_listed.ensures c.into_iter-reader-iterator.result (c.into_iter-reader-iterator.ensures.into_iter_gives ∙ c.readers_of-reader-items.ensures) c.loop-reader.yielded c.in-Some.reader _ _ c.loop-reader.invariant.all c.in-Some.ensures.steps in
    record {
      all = yielded_more (λ (d : NodeId). d.0) c.into_iter-reader-iterator.result c.loop-reader.yielded c.in-Some.reader _ _ c.loop-reader.invariant.all c.in-Some.ensures.steps;
      marks = rw (c.add.ensures, c.add-then-not-has.ensures)
          (marks_new (net_of c.args.graph.now) c.args.node.0 c.args.reached.now c.loop-reader.reached c.args.worklist.now c.loop-reader.worklist c.in-Some.reader.0 reads.0 c.loop-reader.invariant.marks
          (not_seen c.loop-reader.reached c.in-Some.reader.0 within (λ seen. let wrong : c.has.result ≡ true = c.has.ensures.1 seen in cc))
          (omega (arith, c.requires.worklist, c.loop-reader.invariant.room))
          reads.1);
      done = λ k place e. elim (last_cases c.loop-reader.yielded c.in-Some.reader k place e) [
        | inl before ↦ rw c.add.ensures (seen_kept c.loop-reader.reached c.in-Some.reader.0 place.0 (c.loop-reader.invariant.done k place before))
        | inr is ↦ rw (c.add.ensures, ap (λ (d : NodeId). d.0) is) (seen_new c.loop-reader.reached c.in-Some.reader.0 within)
      ];
      size = rw c.add.ensures (length-set c.loop-reader.reached c.in-Some.reader.0 true) ∙ c.loop-reader.invariant.size;
      room = rw c.add-then-not-has.ensures (length-set c.loop-reader.worklist c.in-Some.reader.0 true) ∙ c.loop-reader.invariant.room;
    }

pub loop-reader-preserved : goal.loop-reader-preserved
loop-reader-preserved c =
    let below : c.in-Some.reader.0 < length (net_of c.args.graph.now).nodes =
    next_below c.args.graph.now c.args.node.0 c.readers_listed.ensures c.into_iter-reader-iterator.result (c.into_iter-reader-iterator.ensures.into_iter_gives ∙ c.readers_of-reader-items.ensures) c.loop-reader.yielded c.in-Some.reader _ _ c.loop-reader.invariant.all c.in-Some.ensures.steps in
    let within : c.in-Some.reader.0 < length c.loop-reader.reached = omega (arith, c.requires.marks, c.loop-reader.invariant.size) in
    record {
      all = yielded_more (λ (d : NodeId). d.0) c.into_iter-reader-iterator.result c.loop-reader.yielded c.in-Some.reader _ _ c.loop-reader.invariant.all c.in-Some.ensures.steps;
      marks = c.loop-reader.invariant.marks;
      done = λ k place e. elim (last_cases c.loop-reader.yielded c.in-Some.reader k place e) [
        | inl before ↦ c.loop-reader.invariant.done k place before
        | inr is ↦ rw (ap (λ (d : NodeId). d.0) is) (c.has.ensures.0 c.if-not-has.false)
      ];
      size = c.loop-reader.invariant.size;
      room = c.loop-reader.invariant.room;
    }

pub returns-clause-marked : goal.returns-clause-marked
returns-clause-marked c =
    marks_all (net_of c.args.graph.now) c.args.node.0 c.args.reached.now c.loop-reader.reached c.args.worklist.now c.loop-reader.worklist c.loop-reader.invariant.marks (λ z p reads.
    let came = all_came c.args.graph.now c.args.node.0 c.readers_listed.ensures c.into_iter-reader-iterator.result (c.into_iter-reader-iterator.ensures.into_iter_gives ∙ c.readers_of-reader-items.ensures) c.loop-reader.yielded _ c.loop-reader.invariant.all c.in-None.ensures.steps.0 z p reads in
    subst (IsSeen c.loop-reader.reached) came.1.1.1 (c.loop-reader.invariant.done came.0 came.1.0 came.1.1.0))
