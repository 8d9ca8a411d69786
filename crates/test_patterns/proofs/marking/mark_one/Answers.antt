use Rattle.std.proofs.Common.{ℕ, List, Option, None, Some, subst, sym, ◌∙◌, ◌≡◌}
use Rattle.std.specs.Prelude.{slice_get}
use Rattle.test_patterns.proofs.Marked.{marked_more}
use Rattle.test_patterns.proofs.marking.mark_one.Goals as goal

pub returns : goal.returns
returns c = λ caught count old there m. marked_more caught c.args.lane c.args.pattern old count c.args.firsts.now.items c.args.any c.args.one there m (sym c.has_lane.ensures ∙ c.if-not-has_lane.false)
    (subst (λ (xs : List (Option ℕ)). slice_get xs c.args.one.at ≡ Some None) c.as_slice.ensures.value (c.is_unmarked.ensures.yes c.if-not-is_unmarked.false))
