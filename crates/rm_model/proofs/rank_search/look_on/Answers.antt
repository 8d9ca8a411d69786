use Rattle.std.proofs.Common.{arith, ◌∙◌, ap, Some, sym, take, ℕ, List}
use Rattle.std.proofs.lemmas.List.{take_more}
use Rattle.rm_model.specs.Inner.Numbers.{rank_over}
use Rattle.rm_model.proofs.DriverLemmas.{rank_over-push}
use Rattle.rm_model.proofs.rank_search.look_on.Goals as goal

pub loop-looked-preserved : goal.loop-looked-preserved
loop-looked-preserved c = (
  omega arith,
  ap (λ (l : List ℕ). rank_over c.args.ranks.now l) (take_more c.args.drivers.now c.loop-looked.looked.count 0 c.loop-looked-test.true)
      ∙ (rank_over-push c.args.ranks.now (take c.loop-looked.looked.count c.args.drivers.now) _ c.loop-looked.looked.least c.in-Some.rank c.loop-looked.invariant.1 c.in-Some.is
      ∙ ap Some (sym c.max.ensures)),
)
