-- A text is the journal of one budget and one list of records at most, and has no fault then.
use Rattle.std.proofs.Common.{◌≡◌, ◌≢◌, ℕ, List, [], ◌∷◌, ◌++◌, map, Some, refl, ap, sym, ◌∙◌, ◌⊎◌, inl, inr}
use Rattle.std.proofs.lemmas.List.{append-nil}
use Rattle.journal_text.specs.declared.record.Record.{Record}
use Rattle.journal_text.specs.declared.record.Entry.{Entry}
use Rattle.journal_text.specs.declared.record.Entry.TheVariants as entry
use Rattle.journal_text.specs.declared.faults.JournalFault.{JournalFault}
use Rattle.journal_text.specs.declared.faults.JournalFault.TheVariants as fault
use Rattle.journal_text.specs.Reading.{entry_of}
use Rattle.journal_text.specs.Text.{IsEntry, AreEntries, entry_line, entries_text, journal_entries, record_entries}
use Rattle.journal_text.specs.Faults.{IsFault, IsJournal, IsBadHeader, HasMore, IsNoRecord, Opens, whole_lines, rest_of}
use Rattle.journal_text.specs.Laws.{LinesRead}
use Rattle.journal_text.proofs.FaultLaws.{lines_before, rest_before}
use Rattle.rm_base.specs.Words.{Word}

pub head_is : {A : Type 0} (x y : A) (xs ys : List A) → x ∷ xs ≡ y ∷ ys → x ≡ y
head_is x y xs ys e = cc

pub tail_is : {A : Type 0} (x y : A) (xs ys : List A) → x ∷ xs ≡ y ∷ ys → xs ≡ ys
tail_is x y xs ys e = cc

pub some_entry : (d e : Entry) → Some d ≡ Some e → d ≡ e
some_entry d e f = cc

pub line_one : LinesRead → (d e : Entry) → IsEntry d → IsEntry e → entry_line d ≡ entry_line e → d ≡ e
line_one laws d e v w f = some_entry d e (sym (laws.reads d v) ∙ ap entry_of f ∙ laws.reads e w)

lines_one : LinesRead → (ds es : List Entry) → AreEntries ds → AreEntries es → map entry_line ds ≡ map entry_line es → ds ≡ es
lines_one laws [] [] v w f = refl
lines_one laws [] (e ∷ es) v w f = cc
lines_one laws (d ∷ ds) [] v w f = cc
lines_one laws (d ∷ ds) (e ∷ es) v w f =
    ap (λ (x : Entry). x ∷ ds) (line_one laws d e v.0 w.0 (head_is (entry_line d) (entry_line e) (map entry_line ds) (map entry_line es) f))
    ∙ ap (λ (xs : List Entry). e ∷ xs) (lines_one laws ds es v.1 w.1 (tail_is (entry_line d) (entry_line e) (map entry_line ds) (map entry_line es) f))

-- the lines of a journal
lines_of : LinesRead → (text : List ℕ) (b : ℕ) (rs : List Record) → IsJournal text b rs → whole_lines text ≡ map entry_line (journal_entries b rs)
lines_of laws text b rs j =
    ap whole_lines (j.is ∙ sym (append-nil (entries_text (journal_entries b rs)))) ∙ lines_before laws (journal_entries b rs) [] j.valid ∙ append-nil (map entry_line (journal_entries b rs))

rest_is : LinesRead → (text : List ℕ) (b : ℕ) (rs : List Record) → IsJournal text b rs → rest_of text ≡ []
rest_is laws text b rs j = ap rest_of (j.is ∙ sym (append-nil (entries_text (journal_entries b rs)))) ∙ rest_before laws (journal_entries b rs) [] j.valid

pub record_is : (r q : Record) → entry.Record r ≡ entry.Record q → r ≡ q
record_is r q e = cc

records_one : (rs qs : List Record) → record_entries rs ++ entry.End ∷ [] ≡ record_entries qs ++ entry.End ∷ [] → rs ≡ qs
records_one [] [] e = refl
records_one [] (q ∷ qs) e = cc
records_one (r ∷ rs) [] e = cc
records_one (r ∷ rs) (q ∷ qs) e =
    let first : r ≡ q = record_is r q (head_is (entry.Record r) (entry.Record q) (record_entries rs ++ entry.End ∷ []) (record_entries qs ++ entry.End ∷ []) e) in
    let rest = records_one rs qs (tail_is (entry.Record r) (entry.Record q) (record_entries rs ++ entry.End ∷ []) (record_entries qs ++ entry.End ∷ []) e) in
    ap (λ (x : Record). x ∷ rs) first ∙ ap (λ (xs : List Record). q ∷ xs) rest

budget_is : (b c : ℕ) → entry.Header b ≡ entry.Header c → b ≡ c
budget_is b c e = cc

pub journal_one : LinesRead → (text : List ℕ) (b c : ℕ) (rs qs : List Record) → IsJournal text b rs → IsJournal text c qs → (b ≡ c) × (rs ≡ qs)
journal_one laws text b c rs qs j k =
    let same = lines_one laws (journal_entries b rs) (journal_entries c qs) j.valid k.valid (sym (lines_of laws text b rs j) ∙ lines_of laws text c qs k) in (
      budget_is b c (head_is (entry.Header b) (entry.Header c) (record_entries rs ++ entry.End ∷ []) (record_entries qs ++ entry.End ∷ []) same),
      records_one rs qs (tail_is (entry.Header b) (entry.Header c) (record_entries rs ++ entry.End ∷ []) (record_entries qs ++ entry.End ∷ []) same),
    )

-- each line behind the header is a record or the end
none_behind : (rs : List Record) (before : List Word) (line : Word) (after : List Word) → AreEntries (record_entries rs ++ entry.End ∷ []) → map entry_line (record_entries rs ++ entry.End ∷ []) ≡ before ++ line ∷ after → IsNoRecord line → ⊥
none_behind [] [] line after v e n = n.end_none (sym (head_is (entry_line entry.End) line [] after e))
none_behind [] (w ∷ []) line after v e n = cc
none_behind [] (w ∷ u ∷ ws) line after v e n = cc
none_behind (r ∷ rs) [] line after v e n = n.record_none r v.0 (sym (head_is (entry_line (entry.Record r)) line (map entry_line (record_entries rs ++ entry.End ∷ [])) after e))
none_behind (r ∷ rs) (w ∷ ws) line after v e n = none_behind rs ws line after v.1 (tail_is (entry_line (entry.Record r)) w (map entry_line (record_entries rs ++ entry.End ∷ [])) (ws ++ line ∷ after) e) n

-- records alone don't end
no_end : LinesRead → (qs rs : List Record) → AreEntries (record_entries qs) → AreEntries (record_entries rs ++ entry.End ∷ []) → map entry_line (record_entries qs) ≡ map entry_line (record_entries rs ++ entry.End ∷ []) → ⊥
no_end laws [] [] v w e = cc
no_end laws [] (r ∷ rs) v w e = cc
no_end laws (q ∷ qs) [] v w e =
    let same = line_one laws (entry.Record q) entry.End v.0 w.0 (head_is (entry_line (entry.Record q)) (entry_line entry.End) (map entry_line (record_entries qs)) [] e) in cc
no_end laws (q ∷ qs) (r ∷ rs) v w e = no_end laws qs rs v.1 w.1 (tail_is (entry_line (entry.Record q)) (entry_line (entry.Record r)) (map entry_line (record_entries qs)) (map entry_line (record_entries rs ++ entry.End ∷ [])) e)

-- nothing follows the end
end_last : LinesRead → (qs rs : List Record) (after : List Word) → AreEntries (record_entries qs) → AreEntries (record_entries rs ++ entry.End ∷ []) → map entry_line (record_entries rs ++ entry.End ∷ []) ≡ map entry_line (record_entries qs) ++ entry_line entry.End ∷ after → after ≡ []
end_last laws [] [] after v w e = sym (tail_is (entry_line entry.End) (entry_line entry.End) [] after e)
end_last laws [] (r ∷ rs) after v w e =
    let same = line_one laws (entry.Record r) entry.End w.0 (record { writable = tt; fits = tt }) (head_is (entry_line (entry.Record r)) (entry_line entry.End) (map entry_line (record_entries rs ++ entry.End ∷ [])) after e) in cc
end_last laws (q ∷ qs) [] after v w e =
    let same = line_one laws entry.End (entry.Record q) w.0 v.0 (head_is (entry_line entry.End) (entry_line (entry.Record q)) [] (map entry_line (record_entries qs) ++ entry_line entry.End ∷ after) e) in cc
end_last laws (q ∷ qs) (r ∷ rs) after v w e = end_last laws qs rs after v.1 w.1 (tail_is (entry_line (entry.Record r)) (entry_line (entry.Record q)) (map entry_line (record_entries rs ++ entry.End ∷ [])) (map entry_line (record_entries qs) ++ entry_line entry.End ∷ after) e)

no_header : LinesRead → (text : List ℕ) (b : ℕ) (rs : List Record) (n : ℕ) → IsJournal text b rs → IsBadHeader text n → ⊥
no_header laws text b rs n j f =
    let e = sym (lines_of laws text b rs j) ∙ f.lines in
    f.none b j.valid.0 (sym (head_is (entry_line (entry.Header b)) f.line (map entry_line (record_entries rs ++ entry.End ∷ [])) f.after e))

no_record_at : (b : ℕ) (rs : List Record) (before : List Word) (line : Word) (after : List Word) → AreEntries (journal_entries b rs) → Opens before → map entry_line (journal_entries b rs) ≡ before ++ line ∷ after → IsNoRecord line → ⊥
no_record_at b rs [] line after v o e n = let f = o.is in cc
no_record_at b rs (w ∷ ws) line after v o e n = none_behind rs ws line after v.1 (tail_is (entry_line (entry.Header b)) w (map entry_line (record_entries rs ++ entry.End ∷ [])) (ws ++ line ∷ after) e) n

cut_case : LinesRead → (b : ℕ) (rs : List Record) (lines : List Word) → AreEntries (journal_entries b rs) → lines ≡ map entry_line (journal_entries b rs) → (lines ≡ []) ⊎ Opens lines → ⊥
cut_case laws b rs lines v e (inl h) = let f = sym h ∙ e in cc
cut_case laws b rs lines v e (inr o) =
    let f = sym o.is ∙ e in
    no_end laws o.records rs o.valid.1 v.1 (tail_is (entry_line (entry.Header o.budget)) (entry_line (entry.Header b)) (map entry_line (record_entries o.records)) (map entry_line (record_entries rs ++ entry.End ∷ [])) f)

more_case : LinesRead → (text : List ℕ) (b : ℕ) (rs : List Record) (n : ℕ) → IsJournal text b rs → (f : HasMore text n) → (f.after ≢ []) ⊎ (rest_of text ≢ []) → ⊥
more_case laws text b rs n j f (inr h) = h (rest_is laws text b rs j)
more_case laws text b rs n j f (inl h) =
    let e = sym (lines_of laws text b rs j) ∙ f.lines ∙ ap (λ (ws : List Word). ws ++ entry_line entry.End ∷ f.after) f.opens.is in
    h (end_last laws f.opens.records rs f.after f.opens.valid.1 j.valid.1
    (tail_is (entry_line (entry.Header b)) (entry_line (entry.Header f.opens.budget)) (map entry_line (record_entries rs ++ entry.End ∷ [])) (map entry_line (record_entries f.opens.records) ++ entry_line entry.End ∷ f.after) e))

pub journal_faultless : LinesRead → (text : List ℕ) (b : ℕ) (rs : List Record) (f : JournalFault) → IsJournal text b rs → IsFault text f → ⊥
journal_faultless laws text b rs (fault.BadHeader n) j f = no_header laws text b rs n j f
journal_faultless laws text b rs (fault.BadRecord n) j f = no_record_at b rs f.before f.line f.after j.valid f.opens (sym (lines_of laws text b rs j) ∙ f.lines) f.none
journal_faultless laws text b rs (fault.Truncated n) j f = cut_case laws b rs (whole_lines text) j.valid (lines_of laws text b rs j) f.opens
journal_faultless laws text b rs (fault.AfterEnd n) j f = more_case laws text b rs n j f f.more
journal_faultless laws text b rs fault.NoMemory j f = f
