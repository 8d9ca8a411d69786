use Rattle.std.proofs.Common.{Err, Ok, ap, subst, sym}
use Rattle.std.specs.Prelude.{IfSome}
use Rattle.rm_model.specs.declared.parts.Model.{Model}
use Rattle.sewing.specs.Laws.{IsReplacement}
use Rattle.window_parts.specs.Part.{IsReplayed}
use Rattle.window_parts.specs.Refusals.{IsRefusedPart}
use Rattle.window_parts.specs.declared.refusal.PartRefusal.{PartRefusal}
use Rattle.window_parts.specs.declared.refusal.PartRefusal.TheVariants as refusal
use Rattle.window_parts.proofs.Staying.{stays_part}
use Rattle.window_parts.proofs.Taking.{handed_error, handed_on, held_of, memory_is_no_fault, memory_refused}
use Rattle.window_parts.proofs.part.part_by.Goals as goal

pub returns-in_err-found-clause-refused : goal.returns-in_err-found-clause-refused
returns-in_err-found-clause-refused g c =
    handed_on c.from_residual.result c.in_err-found.field-0.0 (λ (p : PartRefusal). IfSome (g.S.Shelf.files c.args.shelf.now) (IsRefusedPart c.args.window.now c.args.journal.now p)) c.from_residual.ensures.1 c.in_err-found.ensures.refused

pub returns-in_err-found-clause-fault : goal.returns-in_err-found-clause-fault
returns-in_err-found-clause-fault g c = λ same. c.in_err-found.ensures.fault (ap Err (handed_error c.from_residual.result c.in_err-found.field-0.0 refusal.Fault c.from_residual.ensures.1 same))

pub returns-in-Some-clause-part : goal.returns-in-Some-clause-part
returns-in-Some-clause-part g c =
    held_of c.in_ok-found.found c.in-Some.model (λ m. IfSome (g.S.Shelf.files c.args.shelf.now) (IsReplayed c.args.window.now c.args.journal.now m)) c.in-Some.is c.in_ok-found.ensures.replayed

pub returns-in-Some-clause-replacement : goal.returns-in-Some-clause-replacement
returns-in-Some-clause-replacement g c = held_of c.in_ok-found.found c.in-Some.model (λ m. IsReplacement c.args.window.now m) c.in-Some.is c.in_ok-found.ensures.replacement

pub returns-in_ok-part-in-None-clause-part : goal.returns-in_ok-part-in-None-clause-part
returns-in_ok-part-in-None-clause-part g c =
    stays_part c.args.window.now c.args.journal.now (g.S.Shelf.files c.args.shelf.now) c.in_ok-part-in-None.part.model c.in_ok-part-in-None.part.replayed c.in_ok-part-in-None.ensures.same c.in_ok-part-in-None.ensures.stays (c.in_ok-found.ensures.left (ap Ok c.in-None.is))

pub returns-in_ok-part-in-None-clause-replacement : goal.returns-in_ok-part-in-None-clause-replacement
returns-in_ok-part-in-None-clause-replacement g c =
    subst (λ (m : Model). IsReplacement c.args.window.now m) (sym c.in_ok-part-in-None.ensures.same) (c.windows_may_stay.ensures c.args.window.now c.requires.formed c.requires.ranked)

pub returns-in_err-part-in-None-clause-refused : goal.returns-in_err-part-in-None-clause-refused
returns-in_err-part-in-None-clause-refused g c =
    handed_on c.from_residual-in_err-part-in-None.result refusal.NoMemory (λ (p : PartRefusal). IfSome (g.S.Shelf.files c.args.shelf.now) (IsRefusedPart c.args.window.now c.args.journal.now p)) c.from_residual-in_err-part-in-None.ensures.1
    (memory_refused c.args.window.now c.args.journal.now (g.S.Shelf.files c.args.shelf.now))

pub returns-in_err-part-in-None-clause-fault : goal.returns-in_err-part-in-None-clause-fault
returns-in_err-part-in-None-clause-fault g c = λ same. absurd (memory_is_no_fault c.from_residual-in_err-part-in-None.result c.from_residual-in_err-part-in-None.ensures.1 same)
