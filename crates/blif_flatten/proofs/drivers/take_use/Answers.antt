use Rattle.std.proofs.Common.{◌∙◌, sym}
use Rattle.blif_flatten.specs.Inner.Uses.{use_at}
use Rattle.blif_flatten.proofs.Refusals.{told}
use Rattle.blif_flatten.proofs.TwiceDriven.{clash, driven-refused}
use Rattle.blif_flatten.proofs.drivers.take_use.Goals as goal

pub returns-then-is_driven_twice-clause-err : goal.returns-then-is_driven_twice-clause-err
returns-then-is_driven_twice-clause-err c = λ had are.
    told c.fault.result _ _ c.fault.ensures (driven-refused had (use_at c.args.this.now) (sym (clash had c.args.drivers.now (use_at c.args.this.now) are) ∙ (sym c.is_driven_twice.ensures ∙ c.if-is_driven_twice.true)))

pub returns-in-Ok-clause-ok : goal.returns-in-Ok-clause-ok
returns-in-Ok-clause-ok c = λ had are. sym (clash had c.args.drivers.now (use_at c.args.this.now) are) ∙ (sym c.is_driven_twice.ensures ∙ c.if-is_driven_twice.false)
