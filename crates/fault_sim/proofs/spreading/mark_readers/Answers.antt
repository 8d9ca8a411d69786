use Rattle.std.proofs.Common.{arith, inl, inr, length, map, sym, ℕ, ◌/◌, ◌<◌, ◌∙◌}
use Rattle.std.specs.Prelude.{slice_index}
use Rattle.gate_graph.specs.Circuit.{fanouts_of}
use Rattle.refutation.proofs.Public.{yielded_at, yielded_more}
use Rattle.fault_sim.proofs.Lists.{marked_more, new_or_before, still_pending}
use Rattle.fault_sim.proofs.spreading.mark_readers.Goals as goal
use Rattle.gate_graph.proofs.Public.{reader_reads, reads_listed}
use Rattle.rm_base.proofs.Public.{yielded_whole}

pub bounds-places-reader : goal.bounds-places-reader
bounds-places-reader c =
    let there = yielded_at (λ n. n.0) (map (λ place. place.0) (fanouts_of c.args.graph.now c.args.node.0)) c.loop-reader.yielded c.in-Some.reader _ _ c.loop-reader.invariant.all c.in-Some.ensures.steps in
    let reads = reader_reads c.args.graph.now c.args.node.0 c.readers_listed.ensures _ _ there in
    c.requires.within _ reads.0 reads.1

pub mark-requires : goal.mark-requires
mark-requires c =
    let there = yielded_at (λ n. n.0) (map (λ place. place.0) (fanouts_of c.args.graph.now c.args.node.0)) c.loop-reader.yielded c.in-Some.reader _ _ c.loop-reader.invariant.all c.in-Some.ensures.steps in
    let reads = reader_reads c.args.graph.now c.args.node.0 c.readers_listed.ensures _ _ there in
    let room : slice_index c.args.places.now c.in-Some.reader.0 / 64 < length c.args.pending.now.items = c.requires.room _ reads.0 reads.1 in
    omega (arith, room, c.loop-reader.invariant.size)

pub loop-reader-preserved : goal.loop-reader-preserved
loop-reader-preserved c =
    let there = yielded_at (λ n. n.0) (map (λ place. place.0) (fanouts_of c.args.graph.now c.args.node.0)) c.loop-reader.yielded c.in-Some.reader _ _ c.loop-reader.invariant.all c.in-Some.ensures.steps in
    let reads = reader_reads c.args.graph.now c.args.node.0 c.readers_listed.ensures _ _ there in
    let p : ℕ = slice_index c.args.places.now c.in-Some.reader.0 in
    record {
      all = yielded_more (λ n. n.0) (map (λ place. place.0) (fanouts_of c.args.graph.now c.args.node.0)) c.loop-reader.yielded c.in-Some.reader _ _ c.loop-reader.invariant.all c.in-Some.ensures.steps;
      size = c.mark.ensures.size ∙ c.loop-reader.invariant.size;
      kept = λ k is. still_pending c.loop-reader.pending.items c.mark.new.pending.items p k c.mark.ensures (c.loop-reader.invariant.kept k is);
      only = λ k is. elim (new_or_before c.loop-reader.pending.items c.mark.new.pending.items p k c.mark.ensures is) [
        | inl before ↦ c.loop-reader.invariant.only k before
        | inr new ↦ inr (c.in-Some.reader.0, (reads.0, (reads.1, sym new)))
      ];
      marked = marked_more c.args.places.now c.loop-reader.pending.items c.mark.new.pending.items c.loop-reader.yielded c.in-Some.reader c.mark.ensures c.loop-reader.invariant.marked;
    }

pub returns : goal.returns
returns c = record {
  size = c.loop-reader.invariant.size;
  kept = c.loop-reader.invariant.kept;
  readers = λ z p reads.
      let there = reads_listed c.args.graph.now c.args.node.0 c.readers_listed.ensures z p reads in
      let all = yielded_whole (λ n. n.0) (map (λ place. place.0) (fanouts_of c.args.graph.now c.args.node.0)) c.loop-reader.yielded _ c.loop-reader.invariant.all c.in-None.ensures.steps.0 in
      c.loop-reader.invariant.marked there.0 z (rw all at there.1);
  only = c.loop-reader.invariant.only;
}
