use Rattle.std.proofs.Common.{◌∙◌, sym, ap}
use Rattle.blif_format.specs.Uses.{command_of}
use Rattle.blif_reader.proofs.ReadLaws.{added_command, added_row}
use Rattle.blif_reader.proofs.draft.add_line.Goals as goal

pub returns-in-Some : goal.returns-in-Some
returns-in-Some c said lines is none = added_command c.add_command.result c.args.text.now said lines c.args.draft.now c.add_command.new.draft c.args.first.now c.args.rest.now c.in-Some.command is none (ap command_of (sym c.word_of.ensures) ∙ sym c.in-Some.ensures) c.add_command.ensures

pub returns-in-None : goal.returns-in-None
returns-in-None c said lines is none = added_row c.add_row.result c.args.text.now said lines c.args.draft.now c.add_row.new.draft c.args.first.now c.args.rest.now is none (ap command_of (sym c.word_of.ensures) ∙ sym c.in-None.ensures) c.add_row.ensures
