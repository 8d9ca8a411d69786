use Rattle.std.proofs.Common.{◌∙◌, sym, ap, Some}
use Rattle.rm_base.proofs.Public.{one_stands, read_stands}
use Rattle.blif_flatten.specs.declared.modules.Module.{Module}
use Rattle.blif_format.specs.declared.refusal.ReadRefusal.TheVariants.{Limit}
use Rattle.blif_format.specs.declared.refusal.Quantity.TheVariants.{Flat}
use Rattle.blif_flatten.proofs.Joined.{size-over, size-under}
use Rattle.blif_flatten.proofs.reading.check_size.Goals as goal

pub returns-then-count-most-clause-err : goal.returns-then-count-most-clause-err
returns-then-count-most-clause-err c = λ top at.
    let is = c.in-Ok.ensures c.requires.ranked.0 top c.requires.ranked.1 at in
    let same = one_stands c.args.modules.now 0 c.index-modules-0.result top (read_stands c.args.modules.now 0 c.index-modules-0.result c.requires.some c.index-modules-0.is) at in
    size-over c.args.most c.args.modules.now top c.in-Ok.count is c.if-count-most.true ∙ ap (λ (m : Module). Some (Limit Flat c.in-Ok.count m.place)) (sym same ∙ c.index-modules-0.is)

pub returns-clause-ok : goal.returns-clause-ok
returns-clause-ok c = λ top at.
    let is = c.in-Ok.ensures c.requires.ranked.0 top c.requires.ranked.1 at in
    size-under c.args.most c.args.modules.now top c.in-Ok.count is c.if-count-most.false
