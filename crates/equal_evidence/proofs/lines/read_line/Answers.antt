use Rattle.std.proofs.Common.{List, [], refl, subst, sym, ℕ, ◌++◌, ◌∙◌, ◌∷◌, ◌≡◌, ◌≢◌}
use Rattle.equal_evidence.specs.Inner.Lines.{journal_with}
use Rattle.journal_text.specs.Faults.{IsJournal}
use Rattle.journal_text.specs.Text.{IsEntry, entry_line}
use Rattle.journal_text.specs.declared.faults.JournalFault.{JournalFault}
use Rattle.journal_text.specs.declared.faults.JournalFault.TheVariants as fault
use Rattle.journal_text.specs.declared.record.Entry.TheVariants as entry
use Rattle.journal_text.specs.declared.record.Record.{Record}
use Rattle.equal_evidence.proofs.Journals.{line_entry, line_journal, line_read}
use Rattle.equal_evidence.proofs.Readings.{handed_on, only_record}
use Rattle.equal_evidence.proofs.lines.read_line.Goals as goal

pub returns-in_err-_budget-clause-refused : goal.returns-in_err-_budget-clause-refused
returns-in_err-_budget-clause-refused c =
    let line : List ℕ = c.args.front.now ++ c.args.line.now in
    handed_on c.from_residual-in_err-_budget.result c.in_err-_budget.field-0.0 (λ (f : JournalFault). f ≢ fault.NoMemory → (r : Record) → IsEntry (entry.Record r) → line ≢ entry_line (entry.Record r)) c.from_residual-in_err-_budget.ensures.1
    (λ ne r v e. c.in_err-_budget.ensures.refused ne 1 (r ∷ [])
    (subst (λ (l : List ℕ). IsJournal (journal_with l) 1 (r ∷ [])) (sym (c.as_slice.ensures.value ∙ c.in_ok-lines.ensures)) (line_journal c.lines_read.ensures line r v e)))

pub returns-in-Some-clause-entry : goal.returns-in-Some-clause-entry
returns-in-Some-clause-entry c =
    line_entry c.lines_read.ensures c.as_slice.result.now c.in_ok-_budget._budget c.in-Some.given
    (subst (λ (rs : List Record). IsJournal (journal_with c.as_slice.result.now) c.in_ok-_budget._budget rs) c.in-Some.ensures.some c.in_ok-_budget.ensures.read)

pub returns-in-Some-clause-read : goal.returns-in-Some-clause-read
returns-in-Some-clause-read c =
    let line : List ℕ = c.args.front.now ++ c.args.line.now in
    line_read c.lines_read.ensures line c.in_ok-_budget._budget c.in-Some.given
    (subst (λ (l : List ℕ). IsJournal (journal_with l) c.in_ok-_budget._budget (c.in-Some.given ∷ [])) (c.as_slice.ensures.value ∙ c.in_ok-lines.ensures)
    (subst (λ (rs : List Record). IsJournal (journal_with c.as_slice.result.now) c.in_ok-_budget._budget rs) c.in-Some.ensures.some c.in_ok-_budget.ensures.read))

pub returns-clause-refused : goal.returns-clause-refused
returns-clause-refused c = λ ne r v e.
    let line : List ℕ = c.args.front.now ++ c.args.line.now in
    c.in-None.ensures.none refl r
    (only_record c.lines_read.ensures c.journals_are_one.ensures line c.in_ok-_budget._budget c.in_ok-_budget.records.items r
    (subst (λ (l : List ℕ). IsJournal (journal_with l) c.in_ok-_budget._budget c.in_ok-_budget.records.items) (c.as_slice.ensures.value ∙ c.in_ok-lines.ensures) c.in_ok-_budget.ensures.read) v e)
