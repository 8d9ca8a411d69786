use Rattle.std.proofs.Common.{List, subst, sym, ℕ, ◌∙◌}
use Rattle.journal_text.specs.Faults.{IsJournal}
use Rattle.equal_evidence.proofs.lines.read_steps.Goals as goal

pub returns-in-Ok-clause-read : goal.returns-in-Ok-clause-read
returns-in-Ok-clause-read c = subst (λ (t : List ℕ). IsJournal t c.in-Ok.read.0 c.in-Ok.read.1.items) (c.as_slice.ensures.value ∙ c.in_ok-text.ensures) c.in-Ok.ensures.read

pub returns-clause-refused : goal.returns-clause-refused
returns-clause-refused c = λ ne b rs j.
    ne (c.early.ensures (c.in-Err.ensures.journal b rs (subst (λ (t : List ℕ). IsJournal t b rs) (sym (c.as_slice.ensures.value ∙ c.in_ok-text.ensures)) j)).1)
