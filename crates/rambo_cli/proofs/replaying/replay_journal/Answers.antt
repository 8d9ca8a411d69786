use Rattle.std.proofs.Common.{◌∙◌, List, Option, Err, ap, arith, subst, sym}
use Rattle.std.specs.Prelude.{IfSome, IsSome}
use Rattle.journal_check.proofs.Public.{handed_on}
use Rattle.rm_base.specs.Files.{Files}
use Rattle.wire_edit.specs.declared.steps.Step.{Step}
use Rattle.accepted_steps.specs.Taken.{NotTaken, TakenFrom}
use Rattle.cover_decompose.specs.Count.{decomposed}
use Rattle.rambo_cli.specs.Contract.{Caused}
use Rattle.rambo_cli.specs.Problems.{KeepsFiles, piece_problem}
use Rattle.rambo_cli.specs.Replay.{ReplayFinds}
use Rattle.rambo_cli.proofs.Auditing.{too_many}
use Rattle.rambo_cli.proofs.Replayed.{begun_from, read_in_replay, replay_from_kept, replayed_from, steps_not_taken, write_cause}
use Rattle.rambo_cli.proofs.Rising.{risen_after}
use Rattle.rambo_cli.proofs.replaying.replay_journal.Goals as goal

pub returns-in_err-model-clause-cause : goal.returns-in_err-model-clause-cause
returns-in_err-model-clause-cause g c =
    let problem = c.in_err-model.field-0.0 in
    handed_on c.from_residual.result problem (Caused (ReplayFinds c.args.input.now c.args.journal.now (g.S.Shelf.files c.args.shelf.now)) (g.S.Shelf.faults c.args.shelf.now) (g.S.Shelf.faults c.read_input.new.shelf)) c.from_residual.ensures.1
    (read_in_replay c.args.input.now c.args.journal.now (g.S.Shelf.files c.args.shelf.now) (g.S.Shelf.faults c.args.shelf.now) (g.S.Shelf.faults c.read_input.new.shelf) problem c.in_err-model.ensures.cause)

pub returns-in_err-fits-clause-cause : goal.returns-in_err-fits-clause-cause
returns-in_err-fits-clause-cause g c =
    let problem = c.in_err-fits.field-0.0 in
    handed_on c.from_residual-in_err-fits.result problem (Caused (ReplayFinds c.args.input.now c.args.journal.now (g.S.Shelf.files c.args.shelf.now)) (g.S.Shelf.faults c.args.shelf.now) (g.S.Shelf.faults c.read_input.new.shelf)) c.from_residual-in_err-fits.ensures.1
    (read_in_replay c.args.input.now c.args.journal.now (g.S.Shelf.files c.args.shelf.now) (g.S.Shelf.faults c.args.shelf.now) (g.S.Shelf.faults c.read_input.new.shelf) problem
    (too_many decomposed c.in_ok-model.model c.args.input.now (g.S.Shelf.files c.args.shelf.now) (g.S.Shelf.faults c.args.shelf.now) (g.S.Shelf.faults c.read_input.new.shelf) problem c.in_ok-model.ensures.said c.in_err-fits.ensures.cause))

pub returns-in_err-accepted-clause-cause : goal.returns-in_err-accepted-clause-cause
returns-in_err-accepted-clause-cause g c =
    let found = c.in_err-accepted.field-0.0 in
    handed_on c.from_residual-in_err-accepted.result (piece_problem found) (Caused (ReplayFinds c.args.input.now c.args.journal.now (g.S.Shelf.files c.args.shelf.now)) (g.S.Shelf.faults c.args.shelf.now) (g.S.Shelf.faults c.accepted_steps.new.shelf)) c.from_residual-in_err-accepted.ensures.1
    (steps_not_taken found c.args.input.now c.args.journal.now (g.S.Shelf.files c.args.shelf.now) (g.S.Shelf.faults c.args.shelf.now) (g.S.Shelf.faults c.accepted_steps.new.shelf)
    (subst (λ (o : Option Files). IfSome o (λ told. NotTaken c.args.journal.now told found)) c.in_ok-model.ensures.files c.in_err-accepted.ensures.problem)
    (λ e. subst (λ (o : Option Files). IsSome o) c.in_ok-model.ensures.files (c.in_err-accepted.ensures.missing (ap Err e)))
    (λ e. risen_after (g.S.Shelf.faults c.args.shelf.now) (g.S.Shelf.faults c.read_input.new.shelf) (g.S.Shelf.faults c.accepted_steps.new.shelf) c.in_ok-model.ensures.later (c.in_err-accepted.ensures.fault (ap Err e))))

pub returns-in_err-count-clause-cause : goal.returns-in_err-count-clause-cause
returns-in_err-count-clause-cause g c =
    let problem = c.in_err-count.field-0.0 in
    handed_on c.from_residual-in_err-count.result problem (Caused (ReplayFinds c.args.input.now c.args.journal.now (g.S.Shelf.files c.args.shelf.now)) (g.S.Shelf.faults c.args.shelf.now) (g.S.Shelf.faults c.write_replayed.new.shelf)) c.from_residual-in_err-count.ensures.1
    (write_cause c.in_ok-model.model (ReplayFinds c.args.input.now c.args.journal.now (g.S.Shelf.files c.args.shelf.now)) (g.S.Shelf.faults c.args.shelf.now) (g.S.Shelf.faults c.accepted_steps.new.shelf) (g.S.Shelf.faults c.write_replayed.new.shelf) problem c.in_ok-fits.ensures.few
    (omega (arith, c.in_ok-model.ensures.later, c.in_ok-accepted.ensures.later)) c.in_err-count.ensures.cause)

pub returns-in_err-count-clause-unchanged : goal.returns-in_err-count-clause-unchanged
returns-in_err-count-clause-unchanged g c =
    let problem = c.in_err-count.field-0.0 in
    handed_on c.from_residual-in_err-count.result problem (λ p. KeepsFiles p (g.S.Shelf.files c.args.shelf.now) (g.S.Shelf.files c.write_replayed.new.shelf)) c.from_residual-in_err-count.ensures.1
    (subst (λ (o : Option Files). KeepsFiles problem o (g.S.Shelf.files c.write_replayed.new.shelf)) (c.in_ok-accepted.ensures.files ∙ c.in_ok-model.ensures.files) c.in_err-count.ensures.unchanged)

pub returns-in_err-model-clause-safe : goal.returns-in_err-model-clause-safe
returns-in_err-model-clause-safe g c = replay_from_kept c.args.input.now c.args.journal.now c.args.output.now (g.S.Shelf.files c.args.shelf.now) (g.S.Shelf.files c.read_input.new.shelf) c.in_err-model.ensures.files

pub returns-in_err-fits-clause-safe : goal.returns-in_err-fits-clause-safe
returns-in_err-fits-clause-safe g c = replay_from_kept c.args.input.now c.args.journal.now c.args.output.now (g.S.Shelf.files c.args.shelf.now) (g.S.Shelf.files c.read_input.new.shelf) c.in_ok-model.ensures.files

pub returns-in_err-accepted-clause-safe : goal.returns-in_err-accepted-clause-safe
returns-in_err-accepted-clause-safe g c = replay_from_kept c.args.input.now c.args.journal.now c.args.output.now (g.S.Shelf.files c.args.shelf.now) (g.S.Shelf.files c.accepted_steps.new.shelf) (c.in_err-accepted.ensures.files ∙ c.in_ok-model.ensures.files)

pub returns-in_err-count-clause-safe : goal.returns-in_err-count-clause-safe
returns-in_err-count-clause-safe g c =
    begun_from c.in_ok-model.model c.as_slice.result.now c.in_ok-accepted.accepted.stop c.args.input.now c.args.journal.now c.args.output.now (g.S.Shelf.files c.args.shelf.now) (g.S.Shelf.files c.read_input.new.shelf) (g.S.Shelf.files c.accepted_steps.new.shelf) (g.S.Shelf.files c.write_replayed.new.shelf)
    c.in_ok-model.ensures.files c.in_ok-accepted.ensures.files c.in_ok-model.ensures.said
    (subst (λ (s : List Step). IfSome (g.S.Shelf.files c.read_input.new.shelf) (TakenFrom c.in_ok-model.model c.args.journal.now s c.in_ok-accepted.accepted.stop)) (sym c.as_slice.ensures.value) c.in_ok-accepted.ensures.taken)
    c.in_err-count.ensures.safe

pub returns-clause-safe : goal.returns-clause-safe
returns-clause-safe g c =
    begun_from c.in_ok-model.model c.as_slice.result.now c.in_ok-accepted.accepted.stop c.args.input.now c.args.journal.now c.args.output.now (g.S.Shelf.files c.args.shelf.now) (g.S.Shelf.files c.read_input.new.shelf) (g.S.Shelf.files c.accepted_steps.new.shelf) (g.S.Shelf.files c.write_replayed.new.shelf)
    c.in_ok-model.ensures.files c.in_ok-accepted.ensures.files c.in_ok-model.ensures.said
    (subst (λ (s : List Step). IfSome (g.S.Shelf.files c.read_input.new.shelf) (TakenFrom c.in_ok-model.model c.args.journal.now s c.in_ok-accepted.accepted.stop)) (sym c.as_slice.ensures.value) c.in_ok-accepted.ensures.taken)
    c.in_ok-count.ensures.safe

pub returns-clause-done : goal.returns-clause-done
returns-clause-done g c =
    replayed_from c.in_ok-model.model c.as_slice.result.now c.in_ok-accepted.accepted.stop c.args.input.now c.args.journal.now c.args.output.now c.in_ok-count.count (g.S.Shelf.files c.args.shelf.now) (g.S.Shelf.files c.read_input.new.shelf) (g.S.Shelf.files c.accepted_steps.new.shelf) (g.S.Shelf.files c.write_replayed.new.shelf)
    c.in_ok-model.ensures.files c.in_ok-accepted.ensures.files c.in_ok-fits.ensures.few c.in_ok-model.ensures.said
    (subst (λ (s : List Step). IfSome (g.S.Shelf.files c.read_input.new.shelf) (TakenFrom c.in_ok-model.model c.args.journal.now s c.in_ok-accepted.accepted.stop)) (sym c.as_slice.ensures.value) c.in_ok-accepted.ensures.taken)
    c.in_ok-count.ensures.done
