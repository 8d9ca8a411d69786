use Rattle.std.proofs.Common.{Some, false, inl, inr, map, refl, true, ◌≡◌, ◌++◌, ◌∷◌, []}
use Rattle.std.proofs.lemmas.List.{map-append}
use Rattle.std.specs.Prelude.{slice_get}
use Rattle.gate_graph.specs.Circuit.{fanouts_of}
use Rattle.refutation.proofs.Public.{yielded_at, yielded_more}
use Rattle.rm_base.specs.declared.numbers.NodeId.{NodeId}
use Rattle.candidate_wires.proofs.Appending.{only_one, stands_either}
use Rattle.candidate_wires.proofs.known.has_no_not.Goals as goal
use Rattle.gate_graph.proofs.Public.{reader_reads, reads_listed}
use Rattle.rm_base.proofs.Public.{yielded_whole}

pub returns-then-is_not-2 : goal.returns-then-is_not-2
returns-then-is_not-2 c =
    let there = yielded_at (λ n. n.0) (map (λ place. place.0) (fanouts_of c.args.graph.now c.args.node.0)) c.loop-reader.yielded c.in-Some.reader _ _ c.loop-reader.invariant.all c.in-Some.ensures.steps in
    let reads = reader_reads c.args.graph.now c.args.node.0 c.readers_listed.ensures _ _ there in
    (λ e. let wrong : false ≡ true = e in absurd (cc), λ has. absurd (has.reads_none c.in-Some.reader.0 reads.0 reads.1 (c.if-is_not-2.ensures.0 refl)))

pub loop-reader-preserved : goal.loop-reader-preserved
loop-reader-preserved c = record {
  all = yielded_more (λ n. n.0) (map (λ place. place.0) (fanouts_of c.args.graph.now c.args.node.0)) c.loop-reader.yielded c.in-Some.reader _ _ c.loop-reader.invariant.all c.in-Some.ensures.steps;
  none = λ j z e is.
      let split : slice_get (map (λ (n : NodeId). n.0) c.loop-reader.yielded ++ c.in-Some.reader.0 ∷ []) j ≡ Some z = rw (map-append (λ (n : NodeId). n.0) c.loop-reader.yielded (c.in-Some.reader ∷ [])) at e in
      elim (stands_either (map (λ (n : NodeId). n.0) c.loop-reader.yielded) (c.in-Some.reader.0 ∷ []) j z split) [
        | inl front ↦ c.loop-reader.invariant.none j z front.1 is
        | inr back ↦
            let one : c.in-Some.reader.0 ≡ z = (only_one c.in-Some.reader.0 z back.0 back.1.1).1 in
            let ever : false ≡ true = c.if-is_not-2.ensures.1 (rw one is) in
            absurd (cc)
      ];
}

pub returns : goal.returns
returns c = (
  λ _. record {
    is_none = λ is. let wrong : false ≡ true = c.if-is_not.ensures.1 is in absurd (cc);
    reads_none = λ z p reads is.
        let listed = reads_listed c.args.graph.now c.args.node.0 c.readers_listed.ensures z p reads in
        let all = yielded_whole (λ (n : NodeId). n.0) (map (λ place. place.0) (fanouts_of c.args.graph.now c.args.node.0)) c.loop-reader.yielded _ c.loop-reader.invariant.all c.in-None.ensures.steps.0 in
        absurd (c.loop-reader.invariant.none listed.0 z (rw all at listed.1) is);
  },
  λ _. refl,
)
