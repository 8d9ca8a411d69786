use Rattle.std.proofs.Common.{refl}
use Rattle.blif_flatten.proofs.Leads.{marked-by, nothing-marked, on-ok}
use Rattle.blif_flatten.proofs.lead.mark_name.Goals as goal

pub returns-in_default-clause-marked : goal.returns-in_default-clause-marked
returns-in_default-clause-marked c = nothing-marked c.args.marks.now.items c.args.name.now (c.in_default.ensures.none refl)

pub returns-clause-marked : goal.returns-clause-marked
returns-clause-marked c =
    on-ok c.mark_head.result _ _ (marked-by c.in-Some.before.now c.args.name.now c.in-Some.field-0-1.now c.args.marks.now.items c.mark_head.new.marks.items c.in-Some.ensures.some) c.mark_head.ensures.marked
