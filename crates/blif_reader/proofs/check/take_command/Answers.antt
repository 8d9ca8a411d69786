use Rattle.std.proofs.Common.{◌∙◌, sym, ap, map, ℕ, refl, true, Bool, ◌||◌}
use Rattle.std.proofs.lemmas.List.{length-map}
use Rattle.blif_lines.specs.Reading.{spot_of}
use Rattle.blif_reader.specs.Rows.{cover_for}
use Rattle.blif_reader.proofs.LineLaws.{said_command_line}
use Rattle.blif_reader.proofs.check.take_command.Goals as goal

pub returns-clause-ok : goal.returns-clause-ok
returns-clause-ok c said is =
    let t = c.in-Ok.ensures.ok said.uses is.tally in
    record { faultless = t.faultless; taken = said_command_line said c.args.checker.now (record { began = true; ended = c.either-checker.result; cover = c.cover_behind-checker.result; names = c.take_words.new.names }) c.args.command (spot_of c.args.text.now c.args.first.now) (map (spot_of c.args.text.now) c.args.rest.now) is c.requires.command refl (c.either-checker.ensures ∙ ap (λ (b : Bool). c.args.checker.now.ended || b) c.is_end.ensures) (c.cover_behind-checker.ensures ∙ ap (λ (n : ℕ). cover_for c.args.command n) (sym (length-map c.args.rest.now (spot_of c.args.text.now)))) t.tallied }
