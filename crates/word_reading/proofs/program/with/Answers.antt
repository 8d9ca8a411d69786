use Rattle.std.proofs.Common.{rules, ◌∙◌, ◌||◌, ap}
use Rattle.std.proofs.lemmas.Result.{IfOk-weaker}
use Rattle.std.proofs.Math.Bool.{or-false}
use Rattle.clap.specs.declared.builder.command.Command.TheViews.{out-Command as fields_of}
use Rattle.word_reading.proofs.program.with.Goals as goal

pub returns-clause-globals : goal.returns-clause-globals
returns-clause-globals c = IfOk-weaker c.arg.result _ _
    (λ r h. h.globals ∙ ap (λ b. (fields_of c.args.command).has_globals || b) (search rules) ∙ or-false _) c.arg.ensures
