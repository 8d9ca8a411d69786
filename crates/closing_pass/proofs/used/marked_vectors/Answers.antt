use Rattle.std.proofs.Common.{◌≡◌, ◌∙◌, ◌++◌, ◌∷◌, [], Bool, false, List, Some, get_or, length, slice_get, sym, ap, refl, arith}
use Rattle.std.proofs.lemmas.Option.{slice_get-get_or, slice_get_read}
use Rattle.closing_pass.specs.Inner.Used.{marked_of}
use Rattle.closing_pass.proofs.UsedVectors.{marked_more}
use Rattle.closing_pass.proofs.used.marked_vectors.Goals as goal

pub loop-number-preserved : goal.loop-number-preserved
loop-number-preserved c =
    let there : slice_get c.args.kept.now c.loop-number.number ≡ Some c.index-kept-number.result = slice_get_read c.args.kept.now (length c.args.kept.now) c.loop-number.number c.index-kept-number.result refl c.loop-number-test.true c.index-kept-number.is in
    let on : slice_get c.args.marks.now c.loop-number.number ≡ Some (get_or c.args.marks.now c.loop-number.number false) = slice_get-get_or c.args.marks.now c.loop-number.number false (omega (arith, c.loop-number-test.true, c.requires)) in
    let one : List (List Bool) = marked_of (get_or c.args.marks.now c.loop-number.number false ∷ []) (c.index-kept-number.result ∷ []) in
    c.in_ok-add_marked.ensures ∙ ap (λ (vs : List (List Bool)). vs ++ one) c.loop-number.invariant ∙ sym (marked_more c.args.marks.now c.args.kept.now c.loop-number.number (get_or c.args.marks.now c.loop-number.number false) c.index-kept-number.result on there)
