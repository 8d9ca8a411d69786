-- A text is the journal of one budget and one list of records at most, begins with no others, and has no fault then.
use Rattle.std.proofs.Common.{◌≡◌, ◌⊎◌, inl, inr, ℕ, List, [], ◌∷◌, ◌++◌, map, length, Option, Some, None, refl, ap, sym, subst, ◌∙◌, append_assoc}
use Rattle.std.proofs.lemmas.List.{append-nil}
use Rattle.journal_text.proofs.Public.{line_one, lines_before, record_is}
use Rattle.journal_text.specs.Cutting.{FaultsAreOne as LineFaults, JournalsAreOne as LineJournals}
use Rattle.journal_text.specs.Faults.{IsFault as IsLineFault, IsJournal as IsLinesOf, opening, whole_lines}
use Rattle.journal_text.specs.Laws.{LinesRead}
use Rattle.journal_text.specs.Text.{AreEntries, entries_text, entry_line, journal_entries, record_entries}
use Rattle.journal_text.specs.declared.record.Record.{Record}
use Rattle.journal_text.specs.declared.record.Entry.{Entry}
use Rattle.journal_text.specs.declared.record.Entry.TheVariants as entry
use Rattle.journal_text.specs.declared.faults.JournalFault.{JournalFault as LineFault}
use Rattle.journal_text.specs.declared.faults.JournalFault.TheVariants as line
use Rattle.journal_binary.specs.Binary.{magic}
use Rattle.journal_binary.specs.Faults.{IsBody, IsBodyFault, Opens}
use Rattle.journal_binary.specs.Laws.{BodiesAreOne, FaultsAreOne as BodyFaults}
use Rattle.journal_binary.specs.declared.faults.BinaryFault.{BinaryFault}
use Rattle.journal_binary.specs.declared.faults.BinaryFault.TheVariants as body_fault
use Rattle.journal_reading.specs.Faults.{BeginsOpen, BeginsWhole, BeginsWith, IsFault, IsJournal, IsOfLines, OfBody}
use Rattle.journal_reading.specs.Laws.{FaultsAreOne, JournalsAreOne}
use Rattle.journal_reading.specs.Streams.{behind}
use Rattle.journal_reading.specs.Inner.Faults.{of_bytes, of_lines}
use Rattle.journal_reading.specs.declared.faults.JournalFault.{JournalFault}
use Rattle.journal_reading.specs.declared.faults.JournalFault.TheVariants as fault
use Rattle.journal_reading.specs.declared.faults.Version.TheVariants.{One, Two}
use Rattle.journal_reading.proofs.Magic.{behind_append, behind_is, behind_none, header_tells}

word_head : (x y : List ℕ) (xs ys : List (List ℕ)) → x ∷ xs ≡ y ∷ ys → x ≡ y
word_head x y xs ys e = cc

word_tail : (x y : List ℕ) (xs ys : List (List ℕ)) → x ∷ xs ≡ y ∷ ys → xs ≡ ys
word_tail x y xs ys e = cc

entry_head : (x y : Entry) (xs ys : List Entry) → x ∷ xs ≡ y ∷ ys → x ≡ y
entry_head x y xs ys e = cc

entry_tail : (x y : Entry) (xs ys : List Entry) → x ∷ xs ≡ y ∷ ys → xs ≡ ys
entry_tail x y xs ys e = cc

header_is : (b c : ℕ) → entry.Header b ≡ entry.Header c → b ≡ c
header_is b c e = cc

-- LINES
entries_begin : LinesRead → (es ds : List Entry) (more : List (List ℕ)) → AreEntries es → AreEntries ds → map entry_line es ++ more ≡ map entry_line ds → (tail : List Entry) × (ds ≡ es ++ tail)
entries_begin laws [] ds more v w e = (ds, refl)
entries_begin laws (x ∷ es) [] more v w e = cc
entries_begin laws (x ∷ es) (d ∷ ds) more v w e =
    let first : x ≡ d = line_one laws x d v.0 w.0 (word_head (entry_line x) (entry_line d) (map entry_line es ++ more) (map entry_line ds) e) in
    let rest = entries_begin laws es ds more v.1 w.1 (word_tail (entry_line x) (entry_line d) (map entry_line es ++ more) (map entry_line ds) e) in
    (rest.0, ap (λ (y : Entry). y ∷ ds) (sym first) ∙ ap (λ (ys : List Entry). x ∷ ys) rest.1)

-- the entries of a journal that begins so
journal_begins : LinesRead → (text : List ℕ) (es : List Entry) (b : ℕ) (rs : List Record) → BeginsWith text es → IsLinesOf text b rs → (tail : List Entry) × (journal_entries b rs ≡ es ++ tail)
journal_begins laws text es b rs begins j =
    let whole : whole_lines text ≡ map entry_line (journal_entries b rs) =
    ap whole_lines (j.is ∙ sym (append-nil (entries_text (journal_entries b rs)))) ∙ lines_before laws (journal_entries b rs) [] j.valid ∙ append-nil (map entry_line (journal_entries b rs)) in
    let lines : whole_lines text ≡ map entry_line es ++ whole_lines begins.rest = ap whole_lines begins.is ∙ lines_before laws es begins.rest begins.valid in
    entries_begin laws es (journal_entries b rs) (whole_lines begins.rest) begins.valid j.valid (sym lines ∙ whole)

records_begin : (qs xs : List Record) (tail : List Entry) → record_entries qs ++ entry.End ∷ [] ≡ record_entries xs ++ tail → (more : List Record) × (qs ≡ xs ++ more)
records_begin qs [] tail e = (qs, refl)
records_begin [] (x ∷ xs) tail e = cc
records_begin (q ∷ qs) (x ∷ xs) tail e =
    let first : q ≡ x = record_is q x (entry_head (entry.Record q) (entry.Record x) (record_entries qs ++ entry.End ∷ []) (record_entries xs ++ tail) e) in
    let rest = records_begin qs xs tail (entry_tail (entry.Record q) (entry.Record x) (record_entries qs ++ entry.End ∷ []) (record_entries xs ++ tail) e) in
    (rest.0, ap (λ (r : Record). r ∷ qs) first ∙ ap (λ (rs : List Record). x ∷ rs) rest.1)

records_end : (qs xs : List Record) (tail : List Entry) → record_entries qs ++ entry.End ∷ [] ≡ (record_entries xs ++ entry.End ∷ []) ++ tail → qs ≡ xs
records_end [] [] tail e = refl
records_end [] (x ∷ xs) tail e = cc
records_end (q ∷ qs) [] tail e = cc
records_end (q ∷ qs) (x ∷ xs) tail e =
    let first : q ≡ x = record_is q x (entry_head (entry.Record q) (entry.Record x) (record_entries qs ++ entry.End ∷ []) ((record_entries xs ++ entry.End ∷ []) ++ tail) e) in
    ap (λ (r : Record). r ∷ qs) first ∙ ap (λ (rs : List Record). x ∷ rs) (records_end qs xs tail (entry_tail (entry.Record q) (entry.Record x) (record_entries qs ++ entry.End ∷ []) ((record_entries xs ++ entry.End ∷ []) ++ tail) e))

lines_open : LinesRead → (text : List ℕ) (b c : ℕ) (rs qs : List Record) → IsLinesOf text b rs → BeginsWith text (opening c qs) → (b ≡ c) × ((more : List Record) × (rs ≡ qs ++ more))
lines_open laws text b c rs qs j begins =
    let tail = journal_begins laws text (opening c qs) b rs begins j in (
      header_is b c (entry_head (entry.Header b) (entry.Header c) (record_entries rs ++ entry.End ∷ []) (record_entries qs ++ tail.0) tail.1),
      records_begin rs qs tail.0 (entry_tail (entry.Header b) (entry.Header c) (record_entries rs ++ entry.End ∷ []) (record_entries qs ++ tail.0) tail.1),
    )

lines_whole : LinesRead → (text : List ℕ) (b c : ℕ) (rs qs : List Record) → IsLinesOf text b rs → BeginsWith text (journal_entries c qs) → (b ≡ c) × (rs ≡ qs)
lines_whole laws text b c rs qs j begins =
    let tail = journal_begins laws text (journal_entries c qs) b rs begins j in (
      header_is b c (entry_head (entry.Header b) (entry.Header c) (record_entries rs ++ entry.End ∷ []) ((record_entries qs ++ entry.End ∷ []) ++ tail.0) tail.1),
      records_end rs qs tail.0 (entry_tail (entry.Header b) (entry.Header c) (record_entries rs ++ entry.End ∷ []) ((record_entries qs ++ entry.End ∷ []) ++ tail.0) tail.1),
    )

-- a journal of version 1 isn't one of version 2
journal_lines : (text : List ℕ) (b : ℕ) (rs : List Record) → IsLinesOf text b rs → IsOfLines text
journal_lines text b rs j body e = header_tells b (record_entries rs ++ entry.End ∷ []) [] body (append-nil (entries_text (journal_entries b rs)) ∙ sym j.is ∙ e)

begins_lines : (text : List ℕ) (b : ℕ) (es : List Entry) → BeginsWith text (entry.Header b ∷ es) → IsOfLines text
begins_lines text b es begins body e = header_tells b es begins.rest body (sym begins.is ∙ e)

-- VERSION 2
some_body : (bytes body : List ℕ) → Some bytes ≡ Some body → bytes ≡ body
some_body bytes body e = cc

-- what stands behind the eight bytes is one
pub same_body : (text body other : List ℕ) → text ≡ magic ++ body → text ≡ magic ++ other → body ≡ other
same_body text body other e f = some_body body other (sym (behind_append magic body) ∙ ap (behind magic) (sym e ∙ f) ∙ behind_append magic other)

bytes_open : BodiesAreOne → (text body other rest : List ℕ) (b c : ℕ) (rs qs : List Record) (left : ℕ) → text ≡ magic ++ body → text ≡ magic ++ other → IsBody body b rs → Opens other c qs left rest
    → (b ≡ c) × ((more : List Record) × ((rs ≡ qs ++ more) × (left ≡ length more)))
bytes_open ones text body other rest b c rs qs left e f j o = ones.opened body rest b c rs qs left j (subst (λ (x : List ℕ). Opens x c qs left rest) (sym (same_body text body other e f)) o)

none_left : (more : List Record) → 0 ≡ length more → more ≡ []
none_left [] e = refl
none_left (r ∷ more) e = cc

bytes_whole : BodiesAreOne → (text body other rest : List ℕ) (b c : ℕ) (rs qs : List Record) → text ≡ magic ++ body → text ≡ magic ++ other → IsBody body b rs → Opens other c qs 0 rest → (b ≡ c) × (rs ≡ qs)
bytes_whole ones text body other rest b c rs qs e f j o =
    let r = bytes_open ones text body other rest b c rs qs 0 e f j o in
    (r.0, r.1.1.0 ∙ ap (λ (more : List Record). qs ++ more) (none_left r.1.0 r.1.1.1) ∙ append-nil qs)

-- BOTH
one : LineJournals → BodiesAreOne → (text : List ℕ) (b c : ℕ) (rs qs : List Record) → IsJournal text b rs → IsJournal text c qs → (b ≡ c) × (rs ≡ qs)
one jl ones text b c rs qs (inl j) (inl k) = jl.one text b c rs qs j k
one jl ones text b c rs qs (inl j) (inr k) = absurd (journal_lines text b rs j k.0 k.1.0)
one jl ones text b c rs qs (inr j) (inl k) = absurd (journal_lines text c qs k j.0 j.1.0)
one jl ones text b c rs qs (inr j) (inr k) = bytes_whole ones text j.0 k.0 [] b c rs qs j.1.0 k.1.0 j.1.1 k.1.1

opens : LinesRead → BodiesAreOne → (text : List ℕ) (b c : ℕ) (rs qs : List Record) → IsJournal text b rs → BeginsOpen text c qs → (b ≡ c) × ((more : List Record) × (rs ≡ qs ++ more))
opens laws ones text b c rs qs (inl j) (inl k) = lines_open laws text b c rs qs j k
opens laws ones text b c rs qs (inl j) (inr k) = absurd (journal_lines text b rs j k.0 k.1.0)
opens laws ones text b c rs qs (inr j) (inl k) = absurd (begins_lines text c (record_entries qs) k j.0 j.1.0)
opens laws ones text b c rs qs (inr j) (inr k) =
    let r = bytes_open ones text j.0 k.0 k.1.1.1.0 b c rs qs k.1.1.0 j.1.0 k.1.0 j.1.1 k.1.1.1.1 in
    (r.0, (r.1.0, r.1.1.0))

whole : LinesRead → BodiesAreOne → (text : List ℕ) (b c : ℕ) (rs qs : List Record) → IsJournal text b rs → BeginsWhole text c qs → (b ≡ c) × (rs ≡ qs)
whole laws ones text b c rs qs (inl j) (inl k) = lines_whole laws text b c rs qs j k
whole laws ones text b c rs qs (inl j) (inr k) = absurd (journal_lines text b rs j k.0 k.1.0)
whole laws ones text b c rs qs (inr j) (inl k) = absurd (begins_lines text c (record_entries qs ++ entry.End ∷ []) k j.0 j.1.0)
whole laws ones text b c rs qs (inr j) (inr k) = bytes_whole ones text j.0 k.0 k.1.1.0 b c rs qs j.1.0 k.1.0 j.1.1 k.1.1.1

-- A FAULT IS ONE OF ITS VERSION
abbrev InLines : List ℕ → JournalFault → Type 0
InLines text f = IsOfLines text × ((g : LineFault) × (IsLineFault text g × (f ≡ of_lines g)))

abbrev InBytes : List ℕ → JournalFault → Type 0
InBytes text f = OfBody text (λ body. (g : BinaryFault) × (IsBodyFault body g × (f ≡ of_bytes g)))

parted : (text : List ℕ) (f : JournalFault) → IsFault text f → InLines text f ⊎ InBytes text f
parted text (fault.BadHeader One n) h = inl (h.0, (line.BadHeader n, (h.1, refl)))
parted text (fault.BadHeader Two n) h = inr (h.0.0, (h.0.1.0, (body_fault.BadHeader, (h.0.1.1, ap (λ (k : ℕ). fault.BadHeader Two k) h.1))))
parted text (fault.BadRecord One n) h = inl (h.0, (line.BadRecord n, (h.1, refl)))
parted text (fault.BadRecord Two n) h = inr (h.0, (h.1.0, (body_fault.BadRecord n, (h.1.1, refl))))
parted text (fault.Truncated One n) h = inl (h.0, (line.Truncated n, (h.1, refl)))
parted text (fault.Truncated Two n) h = inr (h.0, (h.1.0, (body_fault.Truncated n, (h.1.1, refl))))
parted text (fault.AfterEnd One n) h = inl (h.0, (line.AfterEnd n, (h.1, refl)))
parted text (fault.AfterEnd Two n) h = inr (h.0, (h.1.0, (body_fault.AfterEnd n, (h.1.1, refl))))
parted text fault.NoMemory h = absurd h

free : LineJournals → BodiesAreOne → (text : List ℕ) (b : ℕ) (rs : List Record) (f : JournalFault) → IsJournal text b rs → InLines text f ⊎ InBytes text f → ⊥
free jl ones text b rs f (inl j) (inl h) = jl.faultless text b rs h.1.0 j h.1.1.0
free jl ones text b rs f (inl j) (inr h) = journal_lines text b rs j h.0 h.1.0
free jl ones text b rs f (inr j) (inl h) = h.0 j.0 j.1.0
free jl ones text b rs f (inr j) (inr h) = ones.faultless j.0 b rs h.1.1.0 j.1.1 (subst (λ (x : List ℕ). IsBodyFault x h.1.1.0) (sym (same_body text j.0 h.0 j.1.0 h.1.0)) h.1.1.1.0)

pub journals_are_one : LinesRead → LineJournals → BodiesAreOne → JournalsAreOne
journals_are_one laws jl ones = record {
  one = one jl ones;
  faultless = λ text b rs f j h. free jl ones text b rs f j (parted text f h);
  opens = opens laws ones;
  whole = whole laws ones;
}

-- FAULTS
same_fault : LineFaults → BodyFaults → (text : List ℕ) (f g : JournalFault) → InLines text f ⊎ InBytes text f → InLines text g ⊎ InBytes text g → f ≡ g
same_fault fl fb text f g (inl h) (inl k) = h.1.1.1 ∙ ap of_lines (fl.one text h.1.0 k.1.0 h.1.1.0 k.1.1.0) ∙ sym k.1.1.1
same_fault fl fb text f g (inl h) (inr k) = absurd (h.0 k.0 k.1.0)
same_fault fl fb text f g (inr h) (inl k) = absurd (k.0 h.0 h.1.0)
same_fault fl fb text f g (inr h) (inr k) =
    let at : IsBodyFault k.0 h.1.1.0 = subst (λ (x : List ℕ). IsBodyFault x h.1.1.0) (same_body text h.0 k.0 h.1.0 k.1.0) h.1.1.1.0 in
    h.1.1.1.1 ∙ ap of_bytes (fb.one k.0 h.1.1.0 k.1.1.0 at k.1.1.1.0) ∙ sym k.1.1.1.1

lines_fault : (text : List ℕ) (g : LineFault) → IsOfLines text → IsLineFault text g → IsFault text (of_lines g)
lines_fault text (line.BadHeader n) o h = (o, h)
lines_fault text (line.BadRecord n) o h = (o, h)
lines_fault text (line.Truncated n) o h = (o, h)
lines_fault text (line.AfterEnd n) o h = (o, h)
lines_fault text line.NoMemory o h = absurd h

bytes_fault : (text body : List ℕ) (g : BinaryFault) → text ≡ magic ++ body → IsBodyFault body g → IsFault text (of_bytes g)
bytes_fault text body body_fault.BadHeader e h = ((body, (e, h)), refl)
bytes_fault text body (body_fault.BadRecord n) e h = (body, (e, h))
bytes_fault text body (body_fault.Truncated n) e h = (body, (e, h))
bytes_fault text body (body_fault.AfterEnd n) e h = (body, (e, h))
bytes_fault text body body_fault.NoMemory e h = absurd h

abbrev SomeOf : List ℕ → Type 0
SomeOf text = ((b : ℕ) × ((rs : List Record) × IsJournal text b rs)) ⊎ ((f : JournalFault) × IsFault text f)

lines_some : (text : List ℕ) → IsOfLines text → ((b : ℕ) × ((rs : List Record) × IsLinesOf text b rs)) ⊎ ((g : LineFault) × IsLineFault text g) → SomeOf text
lines_some text o (inl j) = inl (j.0, (j.1.0, inl j.1.1))
lines_some text o (inr h) = inr (of_lines h.0, lines_fault text h.0 o h.1)

bytes_some : (text body : List ℕ) → text ≡ magic ++ body → ((b : ℕ) × ((rs : List Record) × IsBody body b rs)) ⊎ ((g : BinaryFault) × IsBodyFault body g) → SomeOf text
bytes_some text body e (inl j) = inl (j.0, (j.1.0, inr (body, (e, j.1.1))))
bytes_some text body e (inr h) = inr (of_bytes h.0, bytes_fault text body h.0 e h.1)

some_at : LineFaults → BodyFaults → (text : List ℕ) (o : Option (List ℕ)) → behind magic text ≡ o → SomeOf text
some_at fl fb text None at = lines_some text (λ body e. behind_none magic text at body e) (fl.some text)
some_at fl fb text (Some body) at = bytes_some text body (behind_is magic text body at) (fb.some body)

pub faults_are_one : LineFaults → BodyFaults → FaultsAreOne
faults_are_one fl fb = record {
  one = λ text f g h k. same_fault fl fb text f g (parted text f h) (parted text g k);
  some = λ text. some_at fl fb text (behind magic text) refl;
}
