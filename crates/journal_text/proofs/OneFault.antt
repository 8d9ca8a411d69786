-- A text has one fault at most, and where it has none it is a journal.
use Rattle.std.proofs.Common.{◌≡◌, ◌≢◌, ℕ, suc, ◌+◌, List, [], ◌∷◌, ◌++◌, map, length, Option, Some, None, Result, Ok, Err, refl, ap, sym, subst, ◌∙◌, ◌⊎◌, inl, inr, append_assoc}
use Rattle.std.specs.Prelude.{IfOk, IfErr}
use Rattle.std.proofs.lemmas.List.{append-nil, map-append}
use Rattle.journal_text.specs.declared.record.Record.{Record}
use Rattle.journal_text.specs.declared.record.Entry.{Entry}
use Rattle.journal_text.specs.declared.record.Entry.TheVariants as entry
use Rattle.journal_text.specs.declared.faults.JournalFault.{JournalFault}
use Rattle.journal_text.specs.declared.faults.JournalFault.TheVariants as fault
use Rattle.journal_text.specs.Pieces.{behind, joined, pieces}
use Rattle.journal_text.specs.Reading.{entry_of}
use Rattle.journal_text.specs.Text.{IsEntry, AreEntries, entry_line, entries_text, journal_entries, record_entries}
use Rattle.journal_text.specs.Faults.{IsFault, IsJournal, IsBadRecord, HasMore, IsNoHeader, IsNoRecord, Opens, opening, but_last, last_of, whole_lines, rest_of}
use Rattle.journal_text.specs.Laws.{LinesRead}
use Rattle.journal_text.specs.Cutting.{FaultsAreOne, JournalsAreOne}
use Rattle.journal_text.proofs.OneLaws.{head_is, line_one, tail_is}
use Rattle.journal_text.proofs.PieceLaws.{pieces_join, pieces_some}
use Rattle.rm_base.proofs.Public.{all_append, some_is}
use Rattle.rm_base.specs.Words.{Word}

abbrev lines_of : List Record → List Word
lines_of rs = map entry_line (record_entries rs)

-- the line isn't that of a record
abbrev LacksRecord : Word → Type 0
LacksRecord line = (r : Record) → IsEntry (entry.Record r) → line ≢ entry_line (entry.Record r)

end_lacks : LinesRead → LacksRecord (entry_line entry.End)
end_lacks laws r v e = let same : entry.End ≡ entry.Record r = line_one laws entry.End (entry.Record r) (record { writable = tt; fits = tt }) v e in cc

-- records that are followed by such a line are followed by it in one place alone
parted : (qs rs : List Record) (l m : Word) (a c : List Word) → AreEntries (record_entries qs) → AreEntries (record_entries rs) → LacksRecord l → LacksRecord m → lines_of qs ++ l ∷ a ≡ lines_of rs ++ m ∷ c → (length (lines_of qs) ≡ length (lines_of rs)) × (l ≡ m)
parted [] [] l m a c v w n k e = (refl, head_is l m a c e)
parted [] (r ∷ rs) l m a c v w n k e = absurd (n r w.0 (head_is l (entry_line (entry.Record r)) a (lines_of rs ++ m ∷ c) e))
parted (q ∷ qs) [] l m a c v w n k e = absurd (k q v.0 (sym (head_is (entry_line (entry.Record q)) m (lines_of qs ++ l ∷ a) c e)))
parted (q ∷ qs) (r ∷ rs) l m a c v w n k e =
    let rest : (length (lines_of qs) ≡ length (lines_of rs)) × (l ≡ m) = parted qs rs l m a c v.1 w.1 n k (tail_is (entry_line (entry.Record q)) (entry_line (entry.Record r)) (lines_of qs ++ l ∷ a) (lines_of rs ++ m ∷ c) e) in
    (ap suc rest.0, rest.1)

-- records alone have no such line
unparted : (qs rs : List Record) (l : Word) (a : List Word) → AreEntries (record_entries rs) → LacksRecord l → lines_of qs ++ l ∷ a ≡ lines_of rs → ⊥
unparted [] [] l a w n e = cc
unparted [] (r ∷ rs) l a w n e = n r w.0 (head_is l (entry_line (entry.Record r)) a (lines_of rs) e)
unparted (q ∷ qs) [] l a w n e = cc
unparted (q ∷ qs) (r ∷ rs) l a w n e = unparted qs rs l a w.1 n (tail_is (entry_line (entry.Record q)) (entry_line (entry.Record r)) (lines_of qs ++ l ∷ a) (lines_of rs) e)

-- the lines part behind a header and records
record Parts (lines : List Word) (l : Word) (n : ℕ) : Type 0 where
  pub before : List Word
  pub after : List Word
  pub is : lines ≡ before ++ l ∷ after
  pub opens : Opens before
  pub lacks : LacksRecord l
  pub number : n ≡ length before

parts_one : (lines : List Word) (l m : Word) (n k : ℕ) → Parts lines l n → Parts lines m k → (n ≡ k) × (l ≡ m)
parts_one lines l m n k p q =
    let left : lines ≡ entry_line (entry.Header p.opens.budget) ∷ (lines_of p.opens.records ++ l ∷ p.after) = p.is ∙ ap (λ (ws : List Word). ws ++ l ∷ p.after) p.opens.is in
    let right : lines ≡ entry_line (entry.Header q.opens.budget) ∷ (lines_of q.opens.records ++ m ∷ q.after) = q.is ∙ ap (λ (ws : List Word). ws ++ m ∷ q.after) q.opens.is in
    let both : (length (lines_of p.opens.records) ≡ length (lines_of q.opens.records)) × (l ≡ m) =
    parted p.opens.records q.opens.records l m p.after q.after p.opens.valid.1 q.opens.valid.1 p.lacks q.lacks
    (tail_is (entry_line (entry.Header p.opens.budget)) (entry_line (entry.Header q.opens.budget)) (lines_of p.opens.records ++ l ∷ p.after) (lines_of q.opens.records ++ m ∷ q.after) (sym left ∙ right)) in
    (p.number ∙ ap (λ (ws : List Word). length ws) p.opens.is ∙ ap suc both.0 ∙ sym (ap (λ (ws : List Word). length ws) q.opens.is) ∙ sym q.number, both.1)

-- lines that part have a header, and more than a header and records
parts_header : (lines : List Word) (l h : Word) (n : ℕ) (after : List Word) → Parts lines l n → lines ≡ h ∷ after → IsNoHeader h → ⊥
parts_header lines l h n after p e none =
    let left : lines ≡ entry_line (entry.Header p.opens.budget) ∷ (lines_of p.opens.records ++ l ∷ p.after) = p.is ∙ ap (λ (ws : List Word). ws ++ l ∷ p.after) p.opens.is in
    none p.opens.budget p.opens.valid.0 (head_is h (entry_line (entry.Header p.opens.budget)) after (lines_of p.opens.records ++ l ∷ p.after) (sym e ∙ left))

parts_cut : (lines : List Word) (l : Word) (n : ℕ) → Parts lines l n → (lines ≡ []) ⊎ Opens lines → ⊥
parts_cut lines l n p (inl h) =
    let left : lines ≡ entry_line (entry.Header p.opens.budget) ∷ (lines_of p.opens.records ++ l ∷ p.after) = p.is ∙ ap (λ (ws : List Word). ws ++ l ∷ p.after) p.opens.is in
    let e : entry_line (entry.Header p.opens.budget) ∷ (lines_of p.opens.records ++ l ∷ p.after) ≡ [] = sym left ∙ h in cc
parts_cut lines l n p (inr o) =
    let left : lines ≡ entry_line (entry.Header p.opens.budget) ∷ (lines_of p.opens.records ++ l ∷ p.after) = p.is ∙ ap (λ (ws : List Word). ws ++ l ∷ p.after) p.opens.is in
    unparted p.opens.records o.records l p.after o.valid.1 p.lacks
    (tail_is (entry_line (entry.Header p.opens.budget)) (entry_line (entry.Header o.budget)) (lines_of p.opens.records ++ l ∷ p.after) (lines_of o.records) (sym left ∙ o.is))

header_cut : (lines : List Word) (h : Word) (after : List Word) → lines ≡ h ∷ after → IsNoHeader h → (lines ≡ []) ⊎ Opens lines → ⊥
header_cut lines h after e none (inl f) = let g : h ∷ after ≡ [] = sym e ∙ f in cc
header_cut lines h after e none (inr o) = none o.budget o.valid.0 (head_is h (entry_line (entry.Header o.budget)) after (lines_of o.records) (sym e ∙ o.is))

record_parts : (text : List ℕ) (n : ℕ) (f : IsBadRecord text n) → Parts (whole_lines text) f.line (length f.before)
record_parts text n f = record { before = f.before; after = f.after; is = f.lines; opens = f.opens; lacks = f.none.record_none; number = refl }

more_parts : LinesRead → (text : List ℕ) (n : ℕ) (f : HasMore text n) → Parts (whole_lines text) (entry_line entry.End) (length f.before)
more_parts laws text n f = record { before = f.before; after = f.after; is = f.lines; opens = f.opens; lacks = end_lacks laws; number = refl }

record_more : LinesRead → (text : List ℕ) (n m : ℕ) → IsBadRecord text n → HasMore text m → ⊥
record_more laws text n m f g =
    f.none.end_none (parts_one (whole_lines text) f.line (entry_line entry.End) (length f.before) (length g.before) (record_parts text n f) (more_parts laws text m g)).1

pub fault_one : LinesRead → (text : List ℕ) (f g : JournalFault) → IsFault text f → IsFault text g → f ≡ g
fault_one laws text (fault.BadHeader n) (fault.BadHeader m) f g = ap (λ (k : ℕ). fault.BadHeader k) (f.number ∙ sym g.number)
fault_one laws text (fault.BadHeader n) (fault.BadRecord m) f g = absurd (parts_header (whole_lines text) g.line f.line (length g.before) f.after (record_parts text m g) f.lines f.none)
fault_one laws text (fault.BadHeader n) (fault.Truncated m) f g = absurd (header_cut (whole_lines text) f.line f.after f.lines f.none g.opens)
fault_one laws text (fault.BadHeader n) (fault.AfterEnd m) f g = absurd (parts_header (whole_lines text) (entry_line entry.End) f.line (length g.before) f.after (more_parts laws text m g) f.lines f.none)
fault_one laws text (fault.BadRecord n) (fault.BadHeader m) f g = absurd (parts_header (whole_lines text) f.line g.line (length f.before) g.after (record_parts text n f) g.lines g.none)
fault_one laws text (fault.BadRecord n) (fault.BadRecord m) f g =
    ap (λ (k : ℕ). fault.BadRecord k)
    (f.number ∙ ap (λ (k : ℕ). 1 + k) (parts_one (whole_lines text) f.line g.line (length f.before) (length g.before) (record_parts text n f) (record_parts text m g)).0 ∙ sym g.number)
fault_one laws text (fault.BadRecord n) (fault.Truncated m) f g = absurd (parts_cut (whole_lines text) f.line (length f.before) (record_parts text n f) g.opens)
fault_one laws text (fault.BadRecord n) (fault.AfterEnd m) f g = absurd (record_more laws text n m f g)
fault_one laws text (fault.Truncated n) (fault.BadHeader m) f g = absurd (header_cut (whole_lines text) g.line g.after g.lines g.none f.opens)
fault_one laws text (fault.Truncated n) (fault.BadRecord m) f g = absurd (parts_cut (whole_lines text) g.line (length g.before) (record_parts text m g) f.opens)
fault_one laws text (fault.Truncated n) (fault.Truncated m) f g = ap (λ (k : ℕ). fault.Truncated k) (f.number ∙ sym g.number)
fault_one laws text (fault.Truncated n) (fault.AfterEnd m) f g = absurd (parts_cut (whole_lines text) (entry_line entry.End) (length g.before) (more_parts laws text m g) f.opens)
fault_one laws text (fault.AfterEnd n) (fault.BadHeader m) f g = absurd (parts_header (whole_lines text) (entry_line entry.End) g.line (length f.before) g.after (more_parts laws text n f) g.lines g.none)
fault_one laws text (fault.AfterEnd n) (fault.BadRecord m) f g = absurd (record_more laws text m n g f)
fault_one laws text (fault.AfterEnd n) (fault.Truncated m) f g = absurd (parts_cut (whole_lines text) (entry_line entry.End) (length f.before) (more_parts laws text n f) g.opens)
fault_one laws text (fault.AfterEnd n) (fault.AfterEnd m) f g =
    ap (λ (k : ℕ). fault.AfterEnd k)
    (f.number ∙ ap (λ (k : ℕ). 2 + k) (parts_one (whole_lines text) (entry_line entry.End) (entry_line entry.End) (length f.before) (length g.before) (more_parts laws text n f) (more_parts laws text m g)).0 ∙ sym g.number)
fault_one laws text fault.NoMemory g f h = absurd f
fault_one laws text (fault.BadHeader n) fault.NoMemory f g = absurd g
fault_one laws text (fault.BadRecord n) fault.NoMemory f g = absurd g
fault_one laws text (fault.Truncated n) fault.NoMemory f g = absurd g
fault_one laws text (fault.AfterEnd n) fault.NoMemory f g = absurd g

-- A FAULT OR A JOURNAL
abbrev Judged : List ℕ → Type 0
Judged text = ((b : ℕ) × ((rs : List Record) × IsJournal text b rs)) ⊎ ((f : JournalFault) × IsFault text f)

-- the lines with an LF behind each
abbrev ended : List Word → List ℕ
ended [] = []
ended (w ∷ ws) = w ++ 10 ∷ ended ws

ended_rest : (ws : List Word) → ws ≢ [] → joined 10 ws ≡ ended (but_last ws) ++ last_of ws
ended_rest [] n = absurd (n refl)
ended_rest (w ∷ []) n = append-nil w
ended_rest (w ∷ v ∷ ws) n =
    let rest : v ++ behind 10 ws ≡ ended (but_last (v ∷ ws)) ++ last_of (v ∷ ws) = ended_rest (v ∷ ws) (λ e. cc) in
    ap (λ (xs : List ℕ). w ++ 10 ∷ xs) rest ∙ sym (append_assoc w (10 ∷ ended (but_last (v ∷ ws))) (last_of (v ∷ ws)))

ended_entries : (es : List Entry) → ended (map entry_line es) ≡ entries_text es
ended_entries [] = refl
ended_entries (e ∷ es) = ap (λ (xs : List ℕ). entry_line e ++ 10 ∷ xs) (ended_entries es) ∙ sym (append_assoc (entry_line e) (10 ∷ []) (entries_text es))

text_is : (text : List ℕ) → text ≡ ended (whole_lines text) ++ rest_of text
text_is text = sym (pieces_join 10 text) ∙ ended_rest (pieces 10 text) (pieces_some 10 text)

-- a line that no entry may be, by what is read there
no_entry : LinesRead → (line : Word) (d e : Entry) → IsEntry e → entry_of line ≡ Some d → line ≡ entry_line e → d ≡ e
no_entry laws line d e v is same = some_is d e (sym is ∙ ap entry_of same ∙ laws.reads e v)

none_read : LinesRead → (line : Word) (e : Entry) → IsEntry e → entry_of line ≡ None → line ≡ entry_line e → ⊥
none_read laws line e v is same = let f : ◌≡◌ {A = Option Entry} None (Some e) = sym is ∙ ap entry_of same ∙ laws.reads e v in cc

opening_more : (b : ℕ) (rs : List Record) (r : Record) (ls : List Word) → map entry_line (opening b rs) ++ entry_line (entry.Record r) ∷ ls ≡ map entry_line (opening b (rs ++ r ∷ [])) ++ ls
opening_more b rs r ls =
    sym (append_assoc (map entry_line (opening b rs)) (entry_line (entry.Record r) ∷ []) ls)
    ∙ ap (λ (ws : List Word). ws ++ ls) (sym (map-append entry_line (opening b rs) (entry.Record r ∷ [])) ∙ ap (λ (es : List Entry). map entry_line (entry.Header b ∷ es)) (sym (map-append (λ (x : Record). entry.Record x) rs (r ∷ []))))

opening_valid : (b : ℕ) (rs : List Record) (r : Record) → AreEntries (opening b rs) → IsEntry (entry.Record r) → AreEntries (opening b (rs ++ r ∷ []))
opening_valid b rs r v w = subst (λ (es : List Entry). AreEntries (entry.Header b ∷ es)) (sym (map-append (λ (x : Record). entry.Record x) rs (r ∷ []))) (all_append IsEntry (opening b rs) (entry.Record r ∷ []) v (w, tt))

end_valid : IsEntry entry.End
end_valid = record { writable = tt; fits = tt }

-- at the end's line
at_end : (text : List ℕ) (b : ℕ) (rs : List Record) (ls : List Word) → AreEntries (opening b rs) → whole_lines text ≡ map entry_line (opening b rs) ++ entry_line entry.End ∷ ls → Judged text
at_end text b rs (l ∷ ls) v e = inr (
  fault.AfterEnd (2 + length (map entry_line (opening b rs))),
  record {
    before = map entry_line (opening b rs);
    after = l ∷ ls;
    lines = e;
    opens = record { budget = b; records = rs; valid = v; is = refl };
    more = inl (λ f. cc);
    number = refl;
  },
)
at_end text b rs [] v e = by_rest (rest_of text) refl
  where
    by_rest : (rest : List ℕ) → rest_of text ≡ rest → Judged text
    by_rest (x ∷ xs) r = inr (
      fault.AfterEnd (2 + length (map entry_line (opening b rs))),
      record {
        before = map entry_line (opening b rs);
        after = [];
        lines = e;
        opens = record { budget = b; records = rs; valid = v; is = refl };
        more = inr (λ f. cc (r, f));
        number = refl;
      },
    )
    by_rest [] r = inl (
      b,
      (
        rs,
        record {
          valid = all_append IsEntry (opening b rs) (entry.End ∷ []) v (end_valid, tt);
          is = text_is text ∙ ap (λ (xs : List ℕ). ended (whole_lines text) ++ xs) r ∙ append-nil (ended (whole_lines text))
              ∙ ap ended (e ∙ sym (map-append entry_line (opening b rs) (entry.End ∷ []))) ∙ ended_entries (journal_entries b rs);
        },
      ),
    )

bad_line : (text : List ℕ) (b : ℕ) (rs : List Record) (l : Word) (ls : List Word) → AreEntries (opening b rs) → whole_lines text ≡ map entry_line (opening b rs) ++ l ∷ ls → IsNoRecord l → Judged text
bad_line text b rs l ls v e none = inr (
  fault.BadRecord (1 + length (map entry_line (opening b rs))),
  record {
    before = map entry_line (opening b rs);
    line = l;
    after = ls;
    lines = e;
    opens = record { budget = b; records = rs; valid = v; is = refl };
    none = none;
    number = refl;
  },
)

-- behind a header and records
read_on : LinesRead → (text : List ℕ) (b : ℕ) (rs : List Record) (l : Word) (ls : List Word) (o : Option Entry) → entry_of l ≡ o → AreEntries (opening b rs) → whole_lines text ≡ map entry_line (opening b rs) ++ l ∷ ls
    → ((r : Record) → IsEntry (entry.Record r) → l ≡ entry_line (entry.Record r) → Judged text) → Judged text
read_on laws text b rs l ls None is v e next = bad_line text b rs l ls v e (record {
  record_none = λ r w same. none_read laws l (entry.Record r) w is same;
  end_none = λ same. none_read laws l entry.End end_valid is same;
})
read_on laws text b rs l ls (Some (entry.Header c)) is v e next = bad_line text b rs l ls v e (record {
  record_none = λ r w same. (let f : entry.Header c ≡ entry.Record r = no_entry laws l (entry.Header c) (entry.Record r) w is same in cc);
  end_none = λ same. (let f : entry.Header c ≡ entry.End = no_entry laws l (entry.Header c) entry.End end_valid is same in cc);
})
read_on laws text b rs l ls (Some (entry.Record r)) is v e next = let o : IsEntry (entry.Record r) × (l ≡ entry_line (entry.Record r)) = laws.only l (entry.Record r) is in next r o.0 o.1
read_on laws text b rs l ls (Some entry.End) is v e next =
    let o : IsEntry entry.End × (l ≡ entry_line entry.End) = laws.only l entry.End is in
    at_end text b rs ls v (e ∙ ap (λ (w : Word). map entry_line (opening b rs) ++ w ∷ ls) o.1)

go_on : LinesRead → (text : List ℕ) (b : ℕ) (rs : List Record) (ls : List Word) → AreEntries (opening b rs) → whole_lines text ≡ map entry_line (opening b rs) ++ ls → Judged text
go_on laws text b rs [] v e = inr (
  fault.Truncated (1 + length (whole_lines text)),
  record {
    opens = inr (record { budget = b; records = rs; valid = v; is = e ∙ append-nil (map entry_line (opening b rs)) });
    number = refl;
  },
)
go_on laws text b rs (l ∷ ls) v e = read_on laws text b rs l ls (entry_of l) refl v e
    (λ r w same. go_on laws text b (rs ++ r ∷ []) ls (opening_valid b rs r v w)
    (e ∙ ap (λ (u : Word). map entry_line (opening b rs) ++ u ∷ ls) same ∙ opening_more b rs r ls))

bad_first : (text : List ℕ) (l : Word) (ls : List Word) → whole_lines text ≡ l ∷ ls → IsNoHeader l → Judged text
bad_first text l ls e none = inr (fault.BadHeader 1, record { line = l; after = ls; lines = e; none = none; number = refl })

first_line : LinesRead → (text : List ℕ) (l : Word) (ls : List Word) (o : Option Entry) → entry_of l ≡ o → whole_lines text ≡ l ∷ ls → Judged text
first_line laws text l ls None is e = bad_first text l ls e (λ b w same. none_read laws l (entry.Header b) w is same)
first_line laws text l ls (Some (entry.Header b)) is e =
    let o : IsEntry (entry.Header b) × (l ≡ entry_line (entry.Header b)) = laws.only l (entry.Header b) is in
    go_on laws text b [] ls (o.0, tt) (e ∙ ap (λ (w : Word). w ∷ ls) o.1)
first_line laws text l ls (Some (entry.Record r)) is e = bad_first text l ls e (λ b w same. (let f : entry.Record r ≡ entry.Header b = no_entry laws l (entry.Record r) (entry.Header b) w is same in cc))
first_line laws text l ls (Some entry.End) is e = bad_first text l ls e (λ b w same. (let f : entry.End ≡ entry.Header b = no_entry laws l entry.End (entry.Header b) w is same in cc))

by_lines : LinesRead → (text : List ℕ) (ls : List Word) → whole_lines text ≡ ls → Judged text
by_lines laws text [] e = inr (fault.Truncated (1 + length (whole_lines text)), record { opens = inl e; number = refl })
by_lines laws text (l ∷ ls) e = first_line laws text l ls (entry_of l) refl e

pub judged : LinesRead → (text : List ℕ) → Judged text
judged laws text = by_lines laws text (whole_lines text) refl

-- WHAT A READER OF THE WHOLE ANSWERS
pub only_records : {V : Type 0} (text : List ℕ) (budget : V → ℕ) (records : V → List Record) (r : Result V JournalFault) (b : ℕ) (rs : List Record) → JournalsAreOne → IfOk r (λ p. IsJournal text (budget p) (records p)) → IfErr r (λ f. f ≢ fault.NoMemory → IsFault text f)
    → IsJournal text b rs → IfOk r (λ p. (budget p ≡ b) × (records p ≡ rs)) × IfErr r (λ f. f ≡ fault.NoMemory)
only_records text budget records (Ok p) b rs laws ok err j = (laws.one text (budget p) b (records p) rs ok j, tt)
only_records text budget records (Err (fault.BadHeader n)) b rs laws ok err j = (tt, absurd (laws.faultless text b rs (fault.BadHeader n) j (err (λ e. cc))))
only_records text budget records (Err (fault.BadRecord n)) b rs laws ok err j = (tt, absurd (laws.faultless text b rs (fault.BadRecord n) j (err (λ e. cc))))
only_records text budget records (Err (fault.Truncated n)) b rs laws ok err j = (tt, absurd (laws.faultless text b rs (fault.Truncated n) j (err (λ e. cc))))
only_records text budget records (Err (fault.AfterEnd n)) b rs laws ok err j = (tt, absurd (laws.faultless text b rs (fault.AfterEnd n) j (err (λ e. cc))))
only_records text budget records (Err fault.NoMemory) b rs laws ok err j = (tt, refl)

pub only_fault : {V : Type 0} (text : List ℕ) (budget : V → ℕ) (records : V → List Record) (r : Result V JournalFault) (f : JournalFault) → JournalsAreOne → FaultsAreOne → IfOk r (λ p. IsJournal text (budget p) (records p)) → IfErr r (λ g. g ≢ fault.NoMemory → IsFault text g)
    → IsFault text f → IfOk r (λ p. ⊥) × IfErr r (λ g. g ≢ fault.NoMemory → g ≡ f)
only_fault text budget records (Ok p) f laws one ok err is = (laws.faultless text (budget p) (records p) f ok is, tt)
only_fault text budget records (Err g) f laws one ok err is = (tt, λ some. one.one text g f (err some) is)
