use Rattle.std.proofs.Common.{◌∙◌}
use Rattle.rambo_cli.proofs.SewTexts.{journal_long}
use Rattle.rambo_cli.proofs.stitching.part_at.Goals as goal

pub returns-in-Err-TooLong-clause-cause : goal.returns-in-Err-TooLong-clause-cause
returns-in-Err-TooLong-clause-cause g c =
    journal_long c.args.prefix.now c.args.number c.args.window.now (g.S.Shelf.files c.args.shelf.now) c.as_str.result.now c.in-Err-TooLong.field-0 (c.as_str.ensures.value ∙ c.in_ok-journal.ensures) c.in-Err-TooLong.field-0-is
    c.in-Err-TooLong.ensures.refused
