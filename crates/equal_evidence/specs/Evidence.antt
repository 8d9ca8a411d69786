-- The text of the evidence on two models.
use Rattle.std.specs.Prelude.{List, [], codes, decimal, ℕ, ◌++◌, ◌∷◌, ◌≡◌, ◌≢◌, ◌≤◌}
use Rattle.equal_evidence.specs.declared.evidence.Evidence.{Evidence}
use Rattle.equal_evidence.specs.declared.evidence.Evidence.TheVariants.{Merged, Plain}
use Rattle.equal_miter.specs.Proof.{proof_text}
use Rattle.equal_miter.specs.declared.likeness.Likeness.TheVariants.{Differ, Same, Undecided}
use Rattle.journal_text.specs.Runs.{AreWritable, records_text}
use Rattle.journal_text.specs.Text.{AreEntries, AreItems, record_entries}
use Rattle.journal_text.specs.declared.record.Record.{Record}

-- `rambo-equal 2 BUDGET`, the lines of the steps, and `equal`
abbrev pub merged_text : ℕ → List Record → List ℕ
merged_text budget records = codes "rambo-equal 2 " ++ (decimal budget ++ 10 ∷ (records_text records ++ codes "equal\n"))

-- the text of a budget and evidence: that of a proof, or of merging
abbrev pub evidence_text : ℕ → Evidence → List ℕ
evidence_text budget (Plain l) = proof_text budget l
evidence_text budget (Merged records) = merged_text budget records

-- each record has a line
abbrev pub IsWritable : Evidence → Type 0
IsWritable (Plain l) = Unit {0}
IsWritable (Merged records) = AreWritable records

-- its numbers are those of the program, at most 32 bits, a tree has an item, and a step that needs a tree has one
abbrev pub IsWritten : Evidence → Type 0
IsWritten (Plain (Same items)) = (items ≢ []) × AreItems items
IsWritten (Plain (Differ bits)) = Unit {0}
IsWritten (Plain (Undecided items)) = (items ≢ []) × AreItems items
IsWritten (Merged records) = AreEntries (record_entries records)

-- the text is that of a budget and evidence
pub record IsProof (text : List ℕ) (budget : ℕ) (e : Evidence) : Type 0 where
  pub some_budget : 1 ≤ budget
  pub few_budget : budget ≤ 1048576
  pub written : IsWritten e
  pub is : text ≡ evidence_text budget e
