use Rattle.std.proofs.Common.{Ok, Err, List, ap, subst, sym}
use Rattle.std.specs.Prelude.{IfSome, None}
use Rattle.wire_edit.specs.declared.steps.Step.{Step}
use Rattle.cover_decompose.specs.Decomposition.{net_of_model}
use Rattle.step_replay.specs.Rebuilding.{AreAcceptedSteps}
use Rattle.accepted_steps.specs.Taken.{TakenFrom}
use Rattle.window_parts.specs.Refusals.{IsRefusedPart}
use Rattle.window_parts.specs.declared.refusal.PartRefusal.{PartRefusal}
use Rattle.window_parts.specs.declared.refusal.PartRefusal.TheVariants as refusal
use Rattle.window_parts.proofs.Taking.{handed_error, handed_not_ok, handed_on, held_of, led_to, memory_is_no_fault, memory_refused}
use Rattle.window_parts.proofs.replaying.replay_journal.Goals as goal

pub replayed-requires-clause-run : goal.replayed-requires-clause-run
replayed-requires-clause-run g c =
    subst (λ (l : List Step). AreAcceptedSteps (net_of_model c.args.model.now) l) (sym c.as_slice.ensures.value)
    (held_of c.in_ok-steps.field-0 c.in-Some.steps (λ s. AreAcceptedSteps (net_of_model c.args.model.now) s.items) c.in-Some.is c.in_ok-steps.ensures.run)

pub returns-in_err-steps-clause-refused : goal.returns-in_err-steps-clause-refused
returns-in_err-steps-clause-refused g c =
    handed_on c.from_residual.result c.in_err-steps.field-0.0 (λ (p : PartRefusal). IfSome (g.S.Shelf.files c.args.shelf.now) (IsRefusedPart c.args.model.now c.args.journal.now p)) c.from_residual.ensures.1 c.in_err-steps.ensures.refused

pub returns-in_err-steps-clause-fault : goal.returns-in_err-steps-clause-fault
returns-in_err-steps-clause-fault g c = λ same. c.in_err-steps.ensures.fault (ap Err (handed_error c.from_residual.result c.in_err-steps.field-0.0 refusal.Fault c.from_residual.ensures.1 same))

pub returns-in_err-steps-clause-missing : goal.returns-in_err-steps-clause-missing
returns-in_err-steps-clause-missing g c = λ same. absurd (handed_not_ok c.from_residual.result c.in_err-steps.field-0.0 None c.from_residual.ensures.1 same)

pub returns-in_default-clause-missing : goal.returns-in_default-clause-missing
returns-in_default-clause-missing g c = λ e. c.in_ok-steps.ensures.missing (ap Ok c.in_default.is)

pub returns-in_err-part-clause-refused : goal.returns-in_err-part-clause-refused
returns-in_err-part-clause-refused g c =
    handed_on c.from_residual-in_err-part.result refusal.NoMemory (λ (p : PartRefusal). IfSome (g.S.Shelf.files c.args.shelf.now) (IsRefusedPart c.args.model.now c.args.journal.now p)) c.from_residual-in_err-part.ensures.1
    (memory_refused c.args.model.now c.args.journal.now (g.S.Shelf.files c.args.shelf.now))

pub returns-in_err-part-clause-fault : goal.returns-in_err-part-clause-fault
returns-in_err-part-clause-fault g c = λ same. absurd (memory_is_no_fault c.from_residual-in_err-part.result c.from_residual-in_err-part.ensures.1 same)

pub returns-in_err-part-clause-missing : goal.returns-in_err-part-clause-missing
returns-in_err-part-clause-missing g c = λ same. absurd (handed_not_ok c.from_residual-in_err-part.result refusal.NoMemory None c.from_residual-in_err-part.ensures.1 same)

pub returns-clause-missing : goal.returns-clause-missing
returns-clause-missing g c = λ e. absurd cc

pub returns-clause-led : goal.returns-clause-led
returns-clause-led g c =
    led_to c.args.model.now c.args.journal.now (g.S.Shelf.files c.args.shelf.now) c.in-Some.steps.items c.as_slice.result.now c.in_ok-part.part c.as_slice.ensures.value
    (held_of c.in_ok-steps.field-0 c.in-Some.steps (λ s. IfSome (g.S.Shelf.files c.args.shelf.now) (TakenFrom c.args.model.now c.args.journal.now s.items None)) c.in-Some.is c.in_ok-steps.ensures.taken)
    c.in_ok-part.ensures.comes

pub returns-clause-replacement : goal.returns-clause-replacement
returns-clause-replacement g c = c.in_ok-part.ensures.replacement
