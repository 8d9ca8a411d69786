use Rattle.std.proofs.Common.{List, None, Err, ap, subst, sym}
use Rattle.std.specs.Prelude.{IfSome}
use Rattle.file_pieces.specs.declared.PieceProblem.TheVariants as piece
use Rattle.wire_edit.specs.declared.steps.Step.{Step}
use Rattle.cover_decompose.specs.Decomposition.{net_of_model}
use Rattle.step_replay.specs.Rebuilding.{AreAcceptedSteps}
use Rattle.window_parts.specs.Refusals.{IsRefusedPart}
use Rattle.window_parts.specs.declared.refusal.PartRefusal.{PartRefusal}
use Rattle.window_parts.specs.declared.refusal.PartRefusal.TheVariants.{Fault}
use Rattle.window_parts.proofs.Taking.{handed_error, handed_not_ok, handed_on, not_taken_for, refused_by, stop_is_no_fault, taken_whole}
use Rattle.window_parts.proofs.replaying.steps_in.Goals as goal

pub returns-in_ok-steps-in-Ok-clause-run : goal.returns-in_ok-steps-in-Ok-clause-run
returns-in_ok-steps-in-Ok-clause-run g c = subst (λ (l : List Step). AreAcceptedSteps (net_of_model c.args.model.now) l) (sym c.in_ok-steps-in-Ok.ensures.ok) c.in-Ok.ensures.steps

pub returns-in_ok-steps-in-Ok-clause-taken : goal.returns-in_ok-steps-in-Ok-clause-taken
returns-in_ok-steps-in-Ok-clause-taken g c =
    taken_whole c.args.model.now c.args.journal.now (g.S.Shelf.files c.args.shelf.now) c.in-Ok.found.steps.items c.in_ok-steps-in-Ok.steps.items c.in-Ok.found.stop c.in_ok-steps-in-Ok.ensures.ok c.in_ok-steps-in-Ok.ensures.whole c.in-Ok.ensures.taken

pub returns-in_ok-steps-in-Ok-clause-missing : goal.returns-in_ok-steps-in-Ok-clause-missing
returns-in_ok-steps-in-Ok-clause-missing g c = λ e. absurd cc

pub returns-in_err-steps-in-Ok-clause-refused : goal.returns-in_err-steps-in-Ok-clause-refused
returns-in_err-steps-in-Ok-clause-refused g c =
    let e = c.in_err-steps-in-Ok.field-0.0 in
    handed_on c.from_residual.result e (λ (p : PartRefusal). IfSome (g.S.Shelf.files c.args.shelf.now) (IsRefusedPart c.args.model.now c.args.journal.now p)) c.from_residual.ensures.1
    (refused_by c.args.model.now c.args.journal.now (g.S.Shelf.files c.args.shelf.now) c.in-Ok.found.steps.items c.in-Ok.found.stop e c.in_err-steps-in-Ok.ensures.stopped c.in-Ok.ensures.taken)

pub returns-in_err-steps-in-Ok-clause-fault : goal.returns-in_err-steps-in-Ok-clause-fault
returns-in_err-steps-in-Ok-clause-fault g c =
    let e = c.in_err-steps-in-Ok.field-0.0 in
    λ same. absurd (stop_is_no_fault c.in-Ok.found.stop e c.in_err-steps-in-Ok.ensures.stopped (handed_error c.from_residual.result e Fault c.from_residual.ensures.1 same))

pub returns-in_err-steps-in-Ok-clause-missing : goal.returns-in_err-steps-in-Ok-clause-missing
returns-in_err-steps-in-Ok-clause-missing g c = λ same. absurd (handed_not_ok c.from_residual.result c.in_err-steps-in-Ok.field-0.0 None c.from_residual.ensures.1 same)

pub returns-in-Err-Missing-clause-missing : goal.returns-in-Err-Missing-clause-missing
returns-in-Err-Missing-clause-missing g c = λ e. not_taken_for c.args.journal.now (g.S.Shelf.files c.args.shelf.now) c.in-Err-Missing.field-0 piece.Missing c.in-Err-Missing.field-0-is c.in-Err-Missing.ensures.problem

pub returns-in-Err-TooLong-clause-refused : goal.returns-in-Err-TooLong-clause-refused
returns-in-Err-TooLong-clause-refused g c = not_taken_for c.args.journal.now (g.S.Shelf.files c.args.shelf.now) c.in-Err-TooLong.field-0 piece.TooLong c.in-Err-TooLong.field-0-is c.in-Err-TooLong.ensures.problem

pub returns-in-Err-Failed-clause-refused : goal.returns-in-Err-Failed-clause-refused
returns-in-Err-Failed-clause-refused g c = not_taken_for c.args.journal.now (g.S.Shelf.files c.args.shelf.now) c.in-Err-Failed.field-0 piece.Failed c.in-Err-Failed.field-0-is c.in-Err-Failed.ensures.problem

pub returns-in-Err-Failed-clause-fault : goal.returns-in-Err-Failed-clause-fault
returns-in-Err-Failed-clause-fault g c = λ e. c.in-Err-Failed.ensures.fault (ap Err c.in-Err-Failed.field-0-is)

pub returns-in-Err-NoMemory-clause-refused : goal.returns-in-Err-NoMemory-clause-refused
returns-in-Err-NoMemory-clause-refused g c = not_taken_for c.args.journal.now (g.S.Shelf.files c.args.shelf.now) c.in-Err-NoMemory.field-0 piece.NoMemory c.in-Err-NoMemory.field-0-is c.in-Err-NoMemory.ensures.problem
