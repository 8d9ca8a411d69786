use Rattle.std.proofs.Common.{subst}
use Rattle.std.specs.Prelude.{IfErr, IfOk, IfSome, Option}
use Rattle.rm_base.specs.Files.{Files}
use Rattle.window_parts.specs.Part.{IsPartOf}
use Rattle.window_parts.specs.Refusals.{IsRefusedPart}
use Rattle.window_parts.proofs.part.part_of.Goals as goal

pub returns-clause-part : goal.returns-clause-part
returns-clause-part g c =
    subst (λ (o : Option Files). IfOk c.part_by.result (λ p. IfSome o (IsPartOf c.args.window.now c.args.journal.now p.model p.replayed))) c.in_ok-has_no_byte.ensures.files c.part_by.ensures.part

pub returns-clause-refused : goal.returns-clause-refused
returns-clause-refused g c =
    subst (λ (o : Option Files). IfErr c.part_by.result (λ e. IfSome o (IsRefusedPart c.args.window.now c.args.journal.now e))) c.in_ok-has_no_byte.ensures.files c.part_by.ensures.refused
