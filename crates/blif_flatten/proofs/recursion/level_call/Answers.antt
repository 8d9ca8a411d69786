use Rattle.std.proofs.Common.{◌≡◌, ◌∙◌, sym, subst, ap, refl, true, ℕ}
use Rattle.rm_base.proofs.Public.{read_stands}
use Rattle.blif_flatten.specs.CallFaults.{first_of}
use Rattle.blif_flatten.specs.Recursion.{is_recursive_call, recursion_at}
use Rattle.blif_flatten.proofs.Levels.{holder-go, holder-here}
use Rattle.blif_flatten.proofs.recursion.level_call.Goals as goal

pub returns-in-Some : goal.returns-in-Some
returns-in-Some c = λ level rec.
    let at = read_stands c.args.modules.now c.loop-holder.holder c.index-modules-holder.result c.loop-holder-test.true c.index-modules-holder.is in
    holder-here c.args.modules.now c.loop-holder.holder c.index-modules-holder.result _ at
    (ap (first_of (recursion_at c.args.modules.now c.loop-holder.holder)) (sym c.items.ensures)
    ∙ c.in-Some.ensures.some c.args.modules.now level (record { module_is = c.index-modules-holder.result; there = at; links_are = sym c.items.ensures }) (subst (λ (k : ℕ). is_recursive_call c.args.modules.now k c.in-Some.call.called ≡ true) c.in-Some.ensures.holder rec))
    (c.loop-holder.invariant level)

pub loop-holder-preserved : goal.loop-holder-preserved
loop-holder-preserved c = λ level.
    let at = read_stands c.args.modules.now c.loop-holder.holder c.index-modules-holder.result c.loop-holder-test.true c.index-modules-holder.is in
    holder-go c.args.modules.now c.loop-holder.holder c.index-modules-holder.result at
    (ap (first_of (recursion_at c.args.modules.now c.loop-holder.holder)) (sym c.items.ensures)
    ∙ c.in-None.ensures.none c.args.modules.now level (record { module_is = c.index-modules-holder.result; there = at; links_are = sym c.items.ensures }) refl)
    (c.loop-holder.invariant level)
