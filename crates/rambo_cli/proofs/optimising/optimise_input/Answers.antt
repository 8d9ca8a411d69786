use Rattle.std.proofs.Common.{subst}
use Rattle.std.specs.Prelude.{IfSome, Option}
use Rattle.std.specs.Option.{option_map}
use Rattle.std.proofs.lemmas.Result.{IfOk-weaker}
use Rattle.rm_base.specs.Files.{Files}
use Rattle.rambo_cli.proofs.Checked.{optimised}
use Rattle.rambo_cli.specs.Files.{Holds, IfTold}
use Rattle.rambo_cli.specs.Opt.{HasOptimised, HasWritten}
use Rattle.rambo_cli.specs.Written.{IsSaid}
use Rattle.rambo_cli.proofs.optimising.optimise_input.Goals as goal

pub returns-clause-done : goal.returns-clause-done
returns-clause-done g c =
    IfOk-weaker c.optimise_model.result
    (λ figures. IfTold (g.S.Shelf.files c.read_input.new.shelf) (g.S.Shelf.files c.optimise_model.new.shelf) (HasWritten c.in_ok-model.model c.args.names.now.output.now (option_map (λ j. j.now) c.args.names.now.journal) c.args.settings.now figures))
    (λ figures. IfTold (g.S.Shelf.files c.args.shelf.now) (g.S.Shelf.files c.optimise_model.new.shelf) (HasOptimised c.args.names.now.input.now c.args.names.now.output.now (option_map (λ j. j.now) c.args.names.now.journal) c.args.settings.now figures))
    (λ figures w. optimised c.reads_once.ensures c.long_journals_tell.ensures c.args.names.now.input.now c.args.names.now.output.now (option_map (λ j. j.now) c.args.names.now.journal) c.in_ok-model.model c.args.settings.now figures (g.S.Shelf.files c.args.shelf.now) (g.S.Shelf.files c.optimise_model.new.shelf) c.requires.apart
    (λ files told. subst (λ (o : Option Files). IfSome o (λ t. Holds t c.args.names.now.input.now (λ text. IsSaid text c.in_ok-model.model))) told c.in_ok-model.ensures.said)
    (subst (λ (o : Option Files). IfTold o (g.S.Shelf.files c.optimise_model.new.shelf) (HasWritten c.in_ok-model.model c.args.names.now.output.now (option_map (λ j. j.now) c.args.names.now.journal) c.args.settings.now figures)) c.in_ok-model.ensures.files w))
    c.optimise_model.ensures.done
