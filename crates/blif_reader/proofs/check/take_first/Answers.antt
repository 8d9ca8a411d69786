use Rattle.std.proofs.Common.{◌∙◌, sym, ap, map}
use Rattle.std.specs.Prelude.{codes}
use Rattle.rm_model.specs.Words.{is_word}
use Rattle.blif_lines.specs.Reading.{spot_of}
use Rattle.blif_format.specs.declared.words.Command.TheVariants.{Model}
use Rattle.blif_format.specs.FirstFault.{first_line_fault, command_fault}
use Rattle.blif_reader.proofs.LineLaws.{first_is, on_ok, if_err}
use Rattle.blif_reader.proofs.check.take_first.Goals as goal
use Rattle.rm_base.specs.Words.{Word}

pub returns-clause-ok : goal.returns-clause-ok
returns-clause-ok c said is = on_ok c.take_command.result _ _ (λ h. record { faultless = sym (first_is said.uses (spot_of c.args.text.now c.args.first.now) (map (spot_of c.args.text.now) c.args.rest.now) (ap (λ (w : Word). is_word (codes ".model") w) (sym c.word_of.ensures) ∙ sym c.is_text.ensures ∙ c.if-not-is_text.false)) ∙ h.faultless; taken = h.taken }) (c.take_command.ensures.ok said is)

pub returns-clause-err : goal.returns-clause-err
returns-clause-err c said is = if_err c.take_command.result (command_fault said.uses (spot_of c.args.text.now c.args.first.now) Model (map (spot_of c.args.text.now) c.args.rest.now)) (first_line_fault (spot_of c.args.text.now c.args.first.now) (map (spot_of c.args.text.now) c.args.rest.now)) (first_is said.uses (spot_of c.args.text.now c.args.first.now) (map (spot_of c.args.text.now) c.args.rest.now) (ap (λ (w : Word). is_word (codes ".model") w) (sym c.word_of.ensures) ∙ sym c.is_text.ensures ∙ c.if-not-is_text.false)) (c.take_command.ensures.err said is)
