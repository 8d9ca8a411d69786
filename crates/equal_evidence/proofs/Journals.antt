-- The text of steps, as that of a journal.
use Rattle.std.proofs.Common.{List, [], ap, arith, refl, subst, sym, ℕ, ◌++◌, ◌∙◌, ◌∷◌, ◌≡◌, ◌≤◌}
use Rattle.std.specs.Prelude.{codes, decimal}
use Rattle.std.specs.Fmt.{digits}
use Rattle.std.proofs.lemmas.List.{append-nil, append_assoc, append_cancel_left, append_cancel_right}
use Rattle.equal_evidence.specs.Evidence.{IsProof, merged_text}
use Rattle.equal_evidence.specs.Inner.Lines.{journal_with}
use Rattle.equal_evidence.specs.declared.evidence.Evidence.TheVariants.{Merged}
use Rattle.journal_text.specs.Faults.{IsJournal}
use Rattle.journal_text.specs.Laws.{LinesRead}
use Rattle.journal_text.specs.Pieces.{HasNo}
use Rattle.journal_text.specs.Runs.{records_text}
use Rattle.journal_text.specs.Text.{AreEntries, IsEntry, entries_text, entry_line, entry_text, journal_entries, journal_text, record_entries}
use Rattle.journal_text.specs.declared.record.Entry.TheVariants as entry
use Rattle.journal_text.specs.declared.record.Record.{Record}
use Rattle.equal_evidence.proofs.Cuts.{cut_once, has_right, lacks_none}

pub header_line : (b : ℕ) → entry_line (entry.Header b) ≡ codes "rambo 1 " ++ decimal b
header_line b = ap (λ (l : List ℕ). codes "rambo 1 " ++ l) (append-nil (decimal b))

entries_then : (rs : List Record) → entries_text (record_entries rs ++ entry.End ∷ []) ≡ records_text rs ++ codes "end\n"
entries_then [] = refl
entries_then (r ∷ rs) =
    ap (λ (l : List ℕ). entry_text (entry.Record r) ++ l) (entries_then rs) ∙ sym (append_assoc (entry_text (entry.Record r)) (records_text rs) (codes "end\n"))

-- a budget and the lines of records behind it
abbrev pub budget_lines : ℕ → List Record → List ℕ
budget_lines b rs = decimal b ++ 10 ∷ records_text rs

pub journal_parts : (b : ℕ) (rs : List Record) → journal_text b rs ≡ journal_with (budget_lines b rs)
journal_parts b rs =
    ap (λ (l : List ℕ). (l ++ 10 ∷ []) ++ entries_text (record_entries rs ++ entry.End ∷ [])) (header_line b)
    ∙ (ap (λ (l : List ℕ). ((codes "rambo 1 " ++ decimal b) ++ 10 ∷ []) ++ l) (entries_then rs)
    ∙ by_parts (decimal b) (records_text rs))
  where
    by_parts : (d t : List ℕ) → ((codes "rambo 1 " ++ d) ++ 10 ∷ []) ++ (t ++ codes "end\n") ≡ codes "rambo 1 " ++ ((d ++ 10 ∷ t) ++ codes "end\n")
    by_parts d t =
        ap (λ (l : List ℕ). codes "rambo 1 " ++ l) (append_assoc d (10 ∷ []) (t ++ codes "end\n") ∙ sym (append_assoc d (10 ∷ t) (codes "end\n")))

entries_first : (rs : List Record) → AreEntries (record_entries rs ++ entry.End ∷ []) → AreEntries (record_entries rs)
entries_first [] v = tt
entries_first (r ∷ rs) v = (v.0, entries_first rs v.1)

entries_all : (rs : List Record) → AreEntries (record_entries rs) → AreEntries (record_entries rs ++ entry.End ∷ [])
entries_all [] v = (record { writable = tt; fits = tt }, tt)
entries_all (r ∷ rs) v = (v.0, entries_all rs v.1)

-- a journal with these bytes between its version and its end has the budget and the lines of its records there
pub lines_are : (lines : List ℕ) (b : ℕ) (rs : List Record) → IsJournal (journal_with lines) b rs → lines ≡ budget_lines b rs
lines_are lines b rs j =
    append_cancel_right lines (budget_lines b rs) (codes "end\n")
    (append_cancel_left (codes "rambo 1 ") (lines ++ codes "end\n") (budget_lines b rs ++ codes "end\n") (j.is ∙ journal_parts b rs))

pub journal_is : (lines : List ℕ) (b : ℕ) (rs : List Record) → 1 ≤ b → b ≤ 1048576 → AreEntries (record_entries rs) → lines ≡ budget_lines b rs → IsJournal (journal_with lines) b rs
journal_is lines b rs least most are e = record {
  valid = (record { writable = (least, most); fits = tt }, entries_all rs are);
  is = ap journal_with e ∙ sym (journal_parts b rs);
}

-- the text of merging has the same lines before `equal`
pub merged_parts : (b : ℕ) (rs : List Record) → merged_text b rs ≡ codes "rambo-equal 2 " ++ (budget_lines b rs ++ codes "equal\n")
merged_parts b rs = ap (λ (l : List ℕ). codes "rambo-equal 2 " ++ l) (sym (append_assoc (decimal b) (10 ∷ records_text rs) (codes "equal\n")))

pub merged_read : (rest lines : List ℕ) (b : ℕ) (rs : List Record) → rest ≡ lines ++ codes "equal\n" → IsJournal (journal_with lines) b rs → IsProof (codes "rambo-equal 2 " ++ rest) b (Merged rs)
merged_read rest lines b rs e j = record {
  some_budget = j.valid.0.writable.0;
  few_budget = j.valid.0.writable.1;
  written = entries_first rs j.valid.1;
  is = ap (λ (l : List ℕ). codes "rambo-equal 2 " ++ l) (e ∙ ap (λ (l : List ℕ). l ++ codes "equal\n") (lines_are lines b rs j)) ∙ sym (merged_parts b rs);
}

rest_is : (rest : List ℕ) (b : ℕ) (rs : List Record) → IsProof (codes "rambo-equal 2 " ++ rest) b (Merged rs) → rest ≡ budget_lines b rs ++ codes "equal\n"
rest_is rest b rs p = append_cancel_left (codes "rambo-equal 2 ") rest (budget_lines b rs ++ codes "equal\n") (p.is ∙ merged_parts b rs)

-- a text of merging ends with `equal`
pub merged_ends : (rest : List ℕ) (b : ℕ) (rs : List Record) → IsProof (codes "rambo-equal 2 " ++ rest) b (Merged rs) → ((front : List ℕ) → rest ≡ front ++ codes "equal\n" → ⊥) → ⊥
merged_ends rest b rs p none = none (budget_lines b rs) (rest_is rest b rs p)

-- and its other lines are read as a journal
pub merged_journal : (rest lines : List ℕ) (b : ℕ) (rs : List Record) → rest ≡ lines ++ codes "equal\n" → IsProof (codes "rambo-equal 2 " ++ rest) b (Merged rs) → IsJournal (journal_with lines) b rs
merged_journal rest lines b rs e p =
    journal_is lines b rs p.some_budget p.few_budget p.written (append_cancel_right lines (budget_lines b rs) (codes "equal\n") (sym e ∙ rest_is rest b rs p))

module _ (laws : LinesRead) where
  pub decimal_lacks : (b : ℕ) → 1 ≤ b → b ≤ 1048576 → HasNo 10 (decimal b)
  decimal_lacks b least most =
      has_right 10 (codes "rambo 1 ") (decimal b) (subst (λ (l : List ℕ). HasNo 10 l) (header_line b) (laws.lacks (entry.Header b) (record { writable = (least, most); fits = tt })))

  -- the budget of a journal whose first line is this word
  pub budget_read : (word : List ℕ) (b : ℕ) (rs : List Record) → HasNo 10 word → IsJournal (journal_with (word ++ 10 ∷ [])) b rs → word ≡ decimal b
  budget_read word b rs h j =
      (cut_once 10 word (decimal b) [] (records_text rs) h (decimal_lacks b j.valid.0.writable.0 j.valid.0.writable.1) (lines_are (word ++ 10 ∷ []) b rs j)).0

  pub budget_journal : (word : List ℕ) (b : ℕ) → 1 ≤ b → b ≤ 1048576 → word ≡ decimal b → IsJournal (journal_with (word ++ 10 ∷ [])) b []
  budget_journal word b least most e = journal_is (word ++ 10 ∷ []) b [] least most tt (ap (λ (l : List ℕ). l ++ 10 ∷ []) e)

  -- the one record of a journal whose second line is this
  pub line_read : (line : List ℕ) (b : ℕ) (r : Record) → IsJournal (journal_with (49 ∷ 10 ∷ (line ++ 10 ∷ []))) b (r ∷ []) → line ≡ entry_line (entry.Record r)
  line_read line b r j =
      let cut = cut_once 10 (49 ∷ []) (decimal b) (line ++ 10 ∷ []) (records_text (r ∷ [])) (lacks_none 10 (49 ∷ []) refl) (decimal_lacks b j.valid.0.writable.0 j.valid.0.writable.1) (lines_are (49 ∷ 10 ∷ (line ++ 10 ∷ [])) b (r ∷ []) j) in
      append_cancel_right line (entry_line (entry.Record r)) (10 ∷ []) (cut.1 ∙ append-nil (entry_text (entry.Record r)))

  pub line_entry : (line : List ℕ) (b : ℕ) (r : Record) → IsJournal (journal_with line) b (r ∷ []) → IsEntry (entry.Record r)
  line_entry line b r j = j.valid.1.0

  pub line_journal : (line : List ℕ) (r : Record) → IsEntry (entry.Record r) → line ≡ entry_line (entry.Record r) → IsJournal (journal_with (49 ∷ 10 ∷ (line ++ 10 ∷ []))) 1 (r ∷ [])
  unfolding digits
  line_journal line r v e =
      journal_is (49 ∷ 10 ∷ (line ++ 10 ∷ [])) 1 (r ∷ []) (omega arith) (omega arith) (v, tt)
      (ap (λ (l : List ℕ). 49 ∷ 10 ∷ l) (ap (λ (l : List ℕ). l ++ 10 ∷ []) e ∙ sym (append-nil (entry_text (entry.Record r)))))
