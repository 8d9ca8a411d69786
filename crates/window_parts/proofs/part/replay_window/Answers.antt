use Rattle.std.proofs.Common.{◌≡◌, Ok, ap, subst}
use Rattle.std.specs.Prelude.{IfErr, IfOk, IfSome, None}
use Rattle.rm_model.specs.declared.parts.Model.{Model}
use Rattle.sewing.specs.Laws.{IsReplacement}
use Rattle.window_parts.specs.Part.{IsWithinRun}
use Rattle.window_parts.specs.Refusals.{IsRefusedPart}
use Rattle.window_parts.specs.declared.refusal.PartRefusal.{PartRefusal}
use Rattle.window_parts.specs.declared.refusal.PartRefusal.TheVariants as refusal
use Rattle.window_parts.proofs.Staying.{all_replayed, missing_left, over_left}
use Rattle.window_parts.proofs.Taking.{handed_not_ok, handed_on, held_of, memory_is_no_fault, memory_refused}
use Rattle.window_parts.proofs.part.replay_window.Goals as goal

pub returns-in_err-ranked-clause-refused : goal.returns-in_err-ranked-clause-refused
returns-in_err-ranked-clause-refused g c =
    handed_on c.from_residual.result refusal.NoMemory (λ (p : PartRefusal). IfSome (g.S.Shelf.files c.args.shelf.now) (IsRefusedPart c.args.window.now c.args.journal.now p)) c.from_residual.ensures.1
    (memory_refused c.args.window.now c.args.journal.now (g.S.Shelf.files c.args.shelf.now))

pub returns-in_err-ranked-clause-fault : goal.returns-in_err-ranked-clause-fault
returns-in_err-ranked-clause-fault g c = λ same. absurd (memory_is_no_fault c.from_residual.result c.from_residual.ensures.1 same)

pub returns-in_err-ranked-clause-left : goal.returns-in_err-ranked-clause-left
returns-in_err-ranked-clause-left g c = λ same. absurd (handed_not_ok c.from_residual.result refusal.NoMemory None c.from_residual.ensures.1 same)

pub returns-in_default-clause-left : goal.returns-in_default-clause-left
returns-in_default-clause-left g c = λ e. over_left c.args.window.now c.args.journal.now (g.S.Shelf.files c.args.shelf.now) (c.in_ok-ranked.ensures.over (ap Ok c.in_default.is))

pub returns-clause-replayed : goal.returns-clause-replayed
returns-clause-replayed g c =
    let same = held_of c.in_ok-ranked.field-0 c.in-Some.ranked (λ m. m ≡ c.args.window.now) c.in-Some.is c.in_ok-ranked.ensures.same in
    let within = held_of c.in_ok-ranked.field-0 c.in-Some.ranked (λ m. IsWithinRun c.args.window.now) c.in-Some.is c.in_ok-ranked.ensures.within in
    all_replayed c.args.window.now c.in-Some.ranked c.args.journal.now (g.S.Shelf.files c.args.shelf.now) c.replay_journal.result same within c.replay_journal.ensures.led

pub returns-clause-replacement : goal.returns-clause-replacement
returns-clause-replacement g c =
    let same = held_of c.in_ok-ranked.field-0 c.in-Some.ranked (λ m. m ≡ c.args.window.now) c.in-Some.is c.in_ok-ranked.ensures.same in
    subst (λ (m : Model). IfOk c.replay_journal.result (λ found. IfSome found (λ part. IsReplacement m part))) same c.replay_journal.ensures.replacement

pub returns-clause-left : goal.returns-clause-left
returns-clause-left g c = λ e. missing_left c.args.window.now c.args.journal.now (g.S.Shelf.files c.args.shelf.now) (c.replay_journal.ensures.missing e)

pub returns-clause-refused : goal.returns-clause-refused
returns-clause-refused g c =
    let same = held_of c.in_ok-ranked.field-0 c.in-Some.ranked (λ m. m ≡ c.args.window.now) c.in-Some.is c.in_ok-ranked.ensures.same in
    subst (λ (m : Model). IfErr c.replay_journal.result (λ e. IfSome (g.S.Shelf.files c.args.shelf.now) (IsRefusedPart m c.args.journal.now e))) same c.replay_journal.ensures.refused

pub returns-clause-fault : goal.returns-clause-fault
returns-clause-fault g c = c.replay_journal.ensures.fault
