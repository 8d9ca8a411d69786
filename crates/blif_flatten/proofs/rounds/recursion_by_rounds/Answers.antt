use Rattle.std.proofs.Common.{◌∙◌, ap, refl, sym, subst}
use Rattle.rm_base.proofs.Public.{drop_end, read_stands}
use Rattle.blif_flatten.specs.CallFaults.{first_of}
use Rattle.blif_flatten.specs.Recursion.{recursion_at, recursion_from}
use Rattle.blif_flatten.specs.Inner.Rounds.{AreLeading}
use Rattle.blif_flatten.proofs.Levels.{holder-go, holder-here}
use Rattle.blif_flatten.proofs.rounds.recursion_by_rounds.Goals as goal

pub returns-in-Some-clause-some : goal.returns-in-Some-clause-some
returns-in-Some-clause-some c =
    let at = read_stands c.args.modules.now c.loop-holder.holder c.index-modules-holder.result c.loop-holder-test.true c.index-modules-holder.is in
    let leading = subst (λ row. AreLeading c.args.modules.now c.loop-holder.holder row) (sym c.as_slice.ensures.value) c.in_ok-leading.ensures in
    holder-here c.args.modules.now c.loop-holder.holder c.index-modules-holder.result _ at
    (ap (first_of (recursion_at c.args.modules.now c.loop-holder.holder)) (sym c.items.ensures) ∙ c.in-Some.ensures.some c.args.modules.now leading) c.loop-holder.invariant

pub loop-holder-preserved : goal.loop-holder-preserved
loop-holder-preserved c =
    let at = read_stands c.args.modules.now c.loop-holder.holder c.index-modules-holder.result c.loop-holder-test.true c.index-modules-holder.is in
    let leading = subst (λ row. AreLeading c.args.modules.now c.loop-holder.holder row) (sym c.as_slice.ensures.value) c.in_ok-leading.ensures in
    holder-go c.args.modules.now c.loop-holder.holder c.index-modules-holder.result at
    (ap (first_of (recursion_at c.args.modules.now c.loop-holder.holder)) (sym c.items.ensures) ∙ c.in-None.ensures.none c.args.modules.now leading refl) c.loop-holder.invariant

pub returns-clause-none : goal.returns-clause-none
returns-clause-none c = λ _. c.loop-holder.invariant ∙ ap (recursion_from c.args.modules.now c.loop-holder.holder) (drop_end c.args.modules.now c.loop-holder.holder c.loop-holder-test.false)
