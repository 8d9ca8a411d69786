-- What is decided of two models: its status, and what is printed of it.
use Rattle.std.specs.Prelude.{ℕ, List, ◌++◌, length}
use Rattle.equal_evidence.specs.declared.evidence.Evidence.{Evidence}
use Rattle.equal_evidence.specs.declared.evidence.Evidence.TheVariants.{Merged, Plain}
use Rattle.equal_miter.specs.Proof.{differ_line}
use Rattle.equal_miter.specs.declared.likeness.Likeness.{Likeness}
use Rattle.equal_miter.specs.declared.likeness.Likeness.TheVariants as likeness
use Rattle.rambo_cli.specs.Lines.{accepted_line, equal_line, undecided_line}
use Rattle.rambo_cli.specs.declared.verdict.Verdict.{Verdict}
use Rattle.rambo_cli.specs.declared.verdict.Verdict.TheVariants.{Equal, Differ, Undecided}

-- 0: they compute the same; 7: they differ; 8: a search has spent its budget
abbrev pub verdict_status : Verdict → ℕ
verdict_status Equal = 0
verdict_status (Differ bits) = 7
verdict_status (Undecided budget) = 8

-- what a tree or a vector says
abbrev pub likeness_verdict : ℕ → Likeness → Verdict
likeness_verdict budget (likeness.Same items) = Equal
likeness_verdict budget (likeness.Differ bits) = Differ bits
likeness_verdict budget (likeness.Undecided items) = Undecided budget

-- what evidence says: steps are only there for models that compute the same
abbrev pub verdict_of : ℕ → Evidence → Verdict
verdict_of budget (Plain l) = likeness_verdict budget l
verdict_of budget (Merged records) = Equal

-- how many lines of a proof are evidence: that of a tree or a vector, or one for each step
abbrev pub records_in : Evidence → ℕ
records_in (Plain l) = 1
records_in (Merged records) = length records

-- `equal`, `differ BITS` or `undecided BUDGET`
abbrev pub verdict_line : Verdict → List ℕ
verdict_line Equal = equal_line
verdict_line (Differ bits) = differ_line bits
verdict_line (Undecided budget) = undecided_line budget

-- `accepted N`, how many lines of a proof are evidence that is accepted, and what it says
abbrev pub judged_lines : ℕ → Verdict → List ℕ
judged_lines count verdict = accepted_line count ++ verdict_line verdict
