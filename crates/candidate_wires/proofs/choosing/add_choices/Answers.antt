use Rattle.std.proofs.Common.{List, None, Some, [], ap, append_assoc, append-nil, arith, subst, sym, ◌++◌, ◌+◌, ◌∙◌, ◌∷◌}
use Rattle.std.proofs.lemmas.Option.{slice_get-get_or}
use Rattle.candidate_wires.proofs.Choices.{AreChosen, chosen_all, chosen_first, chosen_more}
use Rattle.candidate_wires.specs.declared.candidate.Candidate.{Candidate}
use Rattle.candidate_wires.proofs.choosing.add_choices.Goals as goal

pub loop-source-init : goal.loop-source-init
loop-source-init c = ([], (sym (append-nil c.args.found.now.items), λ net held junction reached driving known. chosen_first net held c.args.gate.0 c.args.sources.now known))

pub loop-source-preserved-in_default : goal.loop-source-preserved-in_default
loop-source-preserved-in_default c = (
  c.loop-source.invariant.0,
  (
    c.loop-source.invariant.1.0,
    λ net held junction reached driving known.
        let there = slice_get-get_or c.args.sources.now c.loop-source.source-index _ c.loop-source-test.true in
        let choice = c.choice_at-chosen.ensures net held junction reached driving (known.each c.loop-source.source-index _ there).1 in
        subst (AreChosen net held c.args.gate.0 c.args.sources.now (c.loop-source.source-index + 1)) (append-nil c.loop-source.invariant.0)
        (chosen_more net held c.args.gate.0 c.args.sources.now known c.loop-source.source-index c.loop-source.invariant.0 _ there (c.loop-source.invariant.1.1 net held junction reached driving known) None (rw c.in_default.is at choice)),
  ),
)

pub loop-source-preserved : goal.loop-source-preserved
loop-source-preserved c = (
  c.loop-source.invariant.0 ++ c.in-Some.candidate ∷ [],
  (
    c.in_ok-push.ensures.items ∙ ap (λ (xs : List Candidate). xs ++ c.in-Some.candidate ∷ []) c.loop-source.invariant.1.0 ∙ append_assoc c.args.found.now.items c.loop-source.invariant.0 (c.in-Some.candidate ∷ []),
    λ net held junction reached driving known.
        let there = slice_get-get_or c.args.sources.now c.loop-source.source-index _ c.loop-source-test.true in
        let choice = c.choice_at-chosen.ensures net held junction reached driving (known.each c.loop-source.source-index _ there).1 in
        chosen_more net held c.args.gate.0 c.args.sources.now known c.loop-source.source-index c.loop-source.invariant.0 _ there (c.loop-source.invariant.1.1 net held junction reached driving known) (Some c.in-Some.candidate) (rw c.in-Some.is at choice),
  ),
)

pub returns : goal.returns
returns c = record {
  more = c.loop-source.invariant.0;
  added = c.loop-source.invariant.1.0;
  among = λ net held junction reached driving known. chosen_all net held c.args.gate.0 c.args.sources.now known c.loop-source.source-index c.loop-source.invariant.0 (omega arith) (c.loop-source.invariant.1.1 net held junction reached driving known);
}
