use Rattle.std.proofs.Common.{List, [], subst, sym, ℕ, ◌∙◌, ◌≡◌, ◌≢◌, ◌≤◌}
use Rattle.std.specs.Prelude.{decimal}
use Rattle.equal_evidence.specs.Inner.Lines.{journal_with}
use Rattle.journal_text.specs.Faults.{IsJournal}
use Rattle.journal_text.specs.declared.faults.JournalFault.{JournalFault}
use Rattle.journal_text.specs.declared.faults.JournalFault.TheVariants as fault
use Rattle.equal_evidence.proofs.Journals.{budget_journal, budget_read}
use Rattle.equal_evidence.proofs.Readings.{handed_on}
use Rattle.equal_evidence.proofs.lines.read_budget.Goals as goal

pub returns-in_err-budget-clause-refused : goal.returns-in_err-budget-clause-refused
returns-in_err-budget-clause-refused c =
    handed_on c.from_residual-in_err-budget.result c.in_err-budget.field-0.0 (λ (f : JournalFault). f ≢ fault.NoMemory → (b : ℕ) → 1 ≤ b → b ≤ 1048576 → c.args.word.now ≢ decimal b) c.from_residual-in_err-budget.ensures.1
    (λ ne b least most e. c.in_err-budget.ensures.refused ne b []
    (subst (λ (l : List ℕ). IsJournal (journal_with l) b []) (sym (c.as_slice.ensures.value ∙ c.in_ok-lines.ensures)) (budget_journal c.lines_read.ensures c.args.word.now b least most e)))

pub returns-clause-least : goal.returns-clause-least
returns-clause-least c = c.in_ok-budget.ensures.read.valid.0.writable.0

pub returns-clause-most : goal.returns-clause-most
returns-clause-most c = c.in_ok-budget.ensures.read.valid.0.writable.1

pub returns-clause-read : goal.returns-clause-read
returns-clause-read c =
    budget_read c.lines_read.ensures c.args.word.now c.in_ok-budget.budget c.in_ok-budget._records.items c.requires
    (subst (λ (l : List ℕ). IsJournal (journal_with l) c.in_ok-budget.budget c.in_ok-budget._records.items) (c.as_slice.ensures.value ∙ c.in_ok-lines.ensures) c.in_ok-budget.ensures.read)
