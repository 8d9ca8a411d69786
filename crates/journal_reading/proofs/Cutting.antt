-- However a text is cut into pieces, a reader gives the entries and the fault of the whole.
use Rattle.std.proofs.Common.{◌≡◌, ◌≢◌, ◌⊎◌, inl, inr, ℕ, ◌+◌, ◌<◌, ◌≤◌, ◌^◌, ◌-◌, min, true, List, [], ◌∷◌, ◌++◌, length, Option, Some, None, Ok, Err, refl, ap, sym, subst, ◌∙◌, arith, append_assoc, length-append}
use Rattle.std.proofs.lemmas.List.{append-nil}
use Rattle.journal_text.specs.Cutting.{CutsAgree as LineCuts}
use Rattle.journal_text.specs.Faults.{opening}
use Rattle.journal_text.specs.Streams.{GivesEntry, IsReadTo as AreLinesReadTo, Pending as Lines, RefusesHeader, Stands, awaited_after, begins, budget_with, comes, given_at, records_of}
use Rattle.journal_text.specs.Text.{IsWritable, entries_text, entry_line, entry_text, journal_entries, record_entries}
use Rattle.journal_text.specs.declared.record.Record.{Record}
use Rattle.journal_text.specs.declared.record.Entry.{Entry}
use Rattle.journal_text.specs.declared.record.Entry.TheVariants as entry
use Rattle.journal_text.specs.declared.reader.Awaited.{Awaited}
use Rattle.journal_text.specs.declared.reader.Awaited.TheVariants as awaited
use Rattle.journal_text.specs.declared.faults.JournalFault.TheVariants as line
use Rattle.journal_binary.specs.Binary.{magic}
use Rattle.journal_binary.specs.Laws.{CutsAgree as BodyCuts}
use Rattle.journal_binary.specs.Streams.{IsReadTo as AreBytesReadTo, Waiting, gives, measure as bytes_measure, turn, waits}
use Rattle.journal_binary.specs.declared.faults.BinaryFault.TheVariants as body_fault
use Rattle.journal_reading.specs.Faults.{IsFault, IsJournal, IsOfLines, OfBody}
use Rattle.journal_reading.specs.Laws.{CutsAgree, IsNext}
use Rattle.journal_reading.specs.Streams.{BytesGive, FinishGives, GivesNone, HeaderGives, HeaderGivesNone, IsReadTo, LinesGive, NextGives, Pending, awaited_of, behind, binary, cut_header, first_body, first_lines, header, lines, measure, pushed}
use Rattle.journal_reading.specs.declared.faults.JournalFault.{JournalFault}
use Rattle.journal_reading.specs.declared.faults.JournalFault.TheVariants as fault
use Rattle.journal_reading.specs.declared.faults.Version.TheVariants.{One, Two}
use Rattle.journal_reading.proofs.Magic.{behind_is, behind_none, header_tells, line_tells}
use Rattle.journal_reading.proofs.Turns.{given, never_header}

-- before the first entry
pub first_read : (bytes : List ℕ) (b : ℕ) → AreLinesReadTo bytes b [] (first_lines bytes)
first_read bytes b = record { stands = record { valid = tt; order = begins; counts = omega arith; text = refl }; none = λ e. refl }

pub first_bytes : (bytes : List ℕ) (b : ℕ) → AreBytesReadTo bytes b [] (first_body bytes)
first_bytes bytes b = (refl, (refl, refl))

longer : (text body piece : List ℕ) → text ≡ magic ++ body → text ++ piece ≡ magic ++ (body ++ piece)
longer text body piece e = ap (λ (xs : List ℕ). xs ++ piece) e ∙ append_assoc magic body piece

-- A PIECE MORE
pushes : LineCuts → BodyCuts → (text piece : List ℕ) (b : ℕ) (rs : List Record) (p : Pending) → IsReadTo text b rs p → IsReadTo (text ++ piece) b rs (pushed p piece)
pushes cl cb text piece b rs (header bytes) r = (r.0, ap (λ (xs : List ℕ). xs ++ piece) r.1)
pushes cl cb text piece b rs (lines p) r = (r.0, cl.pushes text piece b rs p r.1)
pushes cl cb text piece b rs (binary w) r = (r.0, (r.1.0 ++ piece, (longer text r.1.0 piece r.1.1.0, cb.pushes r.1.0 piece b rs w r.1.1.1)))

-- AN ENTRY MORE
lines_more : LineCuts → (text : List ℕ) (b : ℕ) (rs : List Record) (old : Pending) (p : Lines) (new : Pending) (e : Entry) → AreLinesReadTo text b rs p → LinesGive old p new (Ok (Some e)) → IsReadTo text (budget_with b e) (rs ++ records_of e) new
lines_more cl text b rs old p new e r g =
    subst (IsReadTo text (budget_with b e) (rs ++ records_of e)) (sym g.1.0) (λ h. never_header e (sym g.1.1.awaits ∙ h), cl.gives text b rs p g.0 e r g.1.1)

bytes_more : BodyCuts → (text body : List ℕ) (b : ℕ) (rs : List Record) (old : Pending) (w : Waiting) (new : Pending) (e : Entry) → text ≡ magic ++ body → AreBytesReadTo body b rs w → BytesGive old w new (Ok (Some e)) → IsReadTo text (budget_with b e) (rs ++ records_of e) new
bytes_more cb text body b rs old w new e is r g =
    subst (IsReadTo text (budget_with b e) (rs ++ records_of e)) (sym g.1.0) (λ h. never_header e (sym (given w g.0 e g.1.1).awaits ∙ h), (body, (is, cb.gives body b rs w g.0 e r g.1.1)))

header_more : LineCuts → BodyCuts → (text bytes : List ℕ) (b : ℕ) (o : Option (List ℕ)) (new : Pending) (e : Entry) → behind magic bytes ≡ o → text ≡ bytes → HeaderGives o bytes new (Ok (Some e)) → IsReadTo text (budget_with b e) (records_of e) new
header_more cl cb text bytes b None new e at same g = lines_more cl text b [] (header bytes) (first_lines bytes) new e (subst (λ (t : List ℕ). AreLinesReadTo t b [] (first_lines bytes)) (sym same) (first_read bytes b)) g
header_more cl cb text bytes b (Some body) new e at same g = bytes_more cb text body b [] (header bytes) (first_body body) new e (same ∙ behind_is magic bytes body at) (first_bytes body b) g

gives_more : LineCuts → BodyCuts → (text : List ℕ) (b : ℕ) (rs : List Record) (old new : Pending) (e : Entry) → IsReadTo text b rs old → NextGives old new (Ok (Some e)) → IsReadTo text (budget_with b e) (rs ++ records_of e) new
gives_more cl cb text b rs (header bytes) new e r g =
    subst (λ (qs : List Record). IsReadTo text (budget_with b e) (qs ++ records_of e) new) (sym r.0) (header_more cl cb text bytes b (behind magic bytes) new e refl r.1 g)
gives_more cl cb text b rs (lines p) new e r g = lines_more cl text b rs (lines p) p new e r.1 g
gives_more cl cb text b rs (binary w) new e r g = bytes_more cb text r.1.0 b rs (binary w) w new e r.1.1.0 r.1.1.1 g

-- WHAT AN ENTRY IS
entry_long : (e : Entry) (rest : List ℕ) → length rest < length (entry_text e ++ rest)
entry_long e rest =
    let a : _ ≡ _ = length-append (entry_text e) rest in
    let b : _ ≡ _ = length-append (entry_line e) (10 ∷ []) in
    omega (arith, a, b)

lines_next : (old : Pending) (p : Lines) (new : Pending) (e : Entry) → awaited_of old ≡ p.awaited → 1 + length p.held ≤ measure old → LinesGive old p new (Ok (Some e)) → IsNext old new e
lines_next old p new e at big g =
    let entry = g.1.1 in
    let shorter : length g.0.held < length p.held = subst (λ (xs : List ℕ). length g.0.held < length xs) (sym entry.text) (entry_long e g.0.held) in
    record {
      writable = entry.valid.writable;
      comes_there = subst (λ (a : Awaited). comes a e ≡ true) (sym at) entry.comes_there;
      awaits = ap awaited_of g.1.0 ∙ entry.awaits;
      less = subst (λ (q : Pending). measure q < measure old) (sym g.1.0) (omega (arith, shorter, big));
    }

bytes_next : BodyCuts → (old : Pending) (w : Waiting) (new : Pending) (e : Entry) → awaited_of old ≡ w.awaited → bytes_measure w ≤ measure old → BytesGive old w new (Ok (Some e)) → IsNext old new e
bytes_next cb old w new e at big g =
    let is = given w g.0 e g.1.1 in
    let shorter : _ < _ = cb.less w g.0 e g.1.1 in
    record {
      writable = cb.writable w g.0 e g.1.1;
      comes_there = subst (λ (a : Awaited). comes a e ≡ true) (sym at) is.comes_there;
      awaits = ap awaited_of g.1.0 ∙ is.awaits;
      less = subst (λ (q : Pending). measure q < measure old) (sym g.1.0) (omega (arith, shorter, big));
    }

header_next : BodyCuts → (bytes : List ℕ) (o : Option (List ℕ)) (new : Pending) (e : Entry) → behind magic bytes ≡ o → HeaderGives o bytes new (Ok (Some e)) → IsNext (header bytes) new e
header_next cb bytes None new e at g = lines_next (header bytes) (first_lines bytes) new e refl (omega arith) g
header_next cb bytes (Some body) new e at g =
    let size : length bytes ≡ length (magic ++ body) = ap length (behind_is magic bytes body at) in
    let parts : length (magic ++ body) ≡ 8 + length body = length-append magic body in
    bytes_next cb (header bytes) (first_body body) new e refl (omega (arith, size, parts)) g

next_is : BodyCuts → (old new : Pending) (e : Entry) → NextGives old new (Ok (Some e)) → IsNext old new e
next_is cb (header bytes) new e g = header_next cb bytes (behind magic bytes) new e refl g
next_is cb (lines p) new e g = lines_next (lines p) p new e refl (omega arith) g
next_is cb (binary w) new e g = bytes_next cb (binary w) w new e refl (omega arith) g

-- FAULTS
-- behind a header of version 1
given_lines : (a : Awaited) (b : ℕ) (rs : List Record) (rest : List ℕ) → a ≢ awaited.Header → IsOfLines (entries_text (given_at a b rs) ++ rest)
given_lines awaited.Header b rs rest n = absurd (n refl)
given_lines awaited.Record b rs rest n = header_tells b (record_entries rs) rest
given_lines awaited.Nothing b rs rest n = header_tells b (record_entries rs ++ entry.End ∷ []) rest

pub are_lines : (text more : List ℕ) (b : ℕ) (rs : List Record) (p : Lines) → p.awaited ≢ awaited.Header → AreLinesReadTo text b rs p → IsOfLines (text ++ more)
are_lines text more b rs p n r =
    subst IsOfLines (sym (ap (λ (xs : List ℕ). xs ++ more) r.stands.text ∙ append_assoc (entries_text (given_at p.awaited b rs)) p.held more))
    (given_lines p.awaited b rs (p.held ++ more) n)

lines_fault : LineCuts → (text more : List ℕ) (b : ℕ) (rs : List Record) (old : Pending) (p : Lines) (new : Pending) (f : JournalFault) → AreLinesReadTo text b rs p → length text < 2 ^ 63
    → ((n : ℕ) → RefusesHeader p n → IsOfLines (text ++ more)) → (p.awaited ≢ awaited.Header → IsOfLines (text ++ more)) → LinesGive old p new (Err f) → f ≢ fault.NoMemory → IsFault (text ++ more) f
lines_fault cl text more b rs old p new (fault.BadHeader One n) r l h k g m = (h n g.1, cl.faults text more b rs p p (line.BadHeader n) r l (refl, g.1) (λ e. cc))
lines_fault cl text more b rs old p new (fault.BadHeader Two n) r l h k g m = absurd g
lines_fault cl text more b rs old p new (fault.BadRecord One n) r l h k g m = (k (λ e. let f : awaited.Record ≡ awaited.Header = sym g.1.awaits ∙ e in cc), cl.faults text more b rs p p (line.BadRecord n) r l (refl, g.1) (λ e. cc))
lines_fault cl text more b rs old p new (fault.BadRecord Two n) r l h k g m = absurd g
lines_fault cl text more b rs old p new (fault.Truncated One n) r l h k g m = absurd g
lines_fault cl text more b rs old p new (fault.Truncated Two n) r l h k g m = absurd g
lines_fault cl text more b rs old p new (fault.AfterEnd One n) r l h k g m = (k (λ e. let f : awaited.Nothing ≡ awaited.Header = sym g.1.awaits ∙ e in cc), cl.faults text more b rs p p (line.AfterEnd n) r l (refl, g.1) (λ e. cc))
lines_fault cl text more b rs old p new (fault.AfterEnd Two n) r l h k g m = absurd g
lines_fault cl text more b rs old p new fault.NoMemory r l h k g m = absurd (m refl)

shorter_body : (text body : List ℕ) → text ≡ magic ++ body → length text < 2 ^ 63 → length body < 2 ^ 63
shorter_body text body e l =
    let size : length text ≡ length (magic ++ body) = ap length e in
    let parts : length (magic ++ body) ≡ 8 + length body = length-append magic body in
    omega (arith, l, size, parts)

bytes_fault : BodyCuts → (text more body : List ℕ) (b : ℕ) (rs : List Record) (old : Pending) (w : Waiting) (new : Pending) (f : JournalFault) → text ≡ magic ++ body → AreBytesReadTo body b rs w → length body < 2 ^ 63
    → BytesGive old w new (Err f) → f ≢ fault.NoMemory → IsFault (text ++ more) f
bytes_fault cb text more body b rs old w new (fault.BadHeader One n) is r l g m = absurd g
bytes_fault cb text more body b rs old w new (fault.BadHeader Two n) is r l g m = ((body ++ more, (longer text body more is, cb.faults body more b rs w w body_fault.BadHeader r l (refl, g.1.1) (λ e. cc))), g.1.0)
bytes_fault cb text more body b rs old w new (fault.BadRecord One n) is r l g m = absurd g
bytes_fault cb text more body b rs old w new (fault.BadRecord Two n) is r l g m = (body ++ more, (longer text body more is, cb.faults body more b rs w w (body_fault.BadRecord n) r l (refl, g.1) (λ e. cc)))
bytes_fault cb text more body b rs old w new (fault.Truncated One n) is r l g m = absurd g
bytes_fault cb text more body b rs old w new (fault.Truncated Two n) is r l g m = absurd g
bytes_fault cb text more body b rs old w new (fault.AfterEnd One n) is r l g m = absurd g
bytes_fault cb text more body b rs old w new (fault.AfterEnd Two n) is r l g m = (body ++ more, (longer text body more is, cb.faults body more b rs w w (body_fault.AfterEnd n) r l (refl, g.1) (λ e. cc)))
bytes_fault cb text more body b rs old w new fault.NoMemory is r l g m = absurd (m refl)

header_fault : LineCuts → BodyCuts → (text more bytes : List ℕ) (b : ℕ) (o : Option (List ℕ)) (new : Pending) (f : JournalFault) → behind magic bytes ≡ o → bytes ≡ text → length text < 2 ^ 63 → HeaderGives o bytes new (Err f) → f ≢ fault.NoMemory → IsFault (text ++ more) f
header_fault cl cb text more bytes b None new f at same l g m =
    subst (λ (t : List ℕ). IsFault (t ++ more) f) same
    (lines_fault cl bytes more b [] (header bytes) (first_lines bytes) new f (first_read bytes b) (subst (λ (t : List ℕ). length t < 2 ^ 63) (sym same) l) (λ n h. line_tells bytes more h.line h.has at) (λ h. absurd (h refl)) g m)
header_fault cl cb text more bytes b (Some body) new f at same l g m =
    let is : text ≡ magic ++ body = sym same ∙ behind_is magic bytes body at in
    bytes_fault cb text more body b [] (header bytes) (first_body body) new f is (first_bytes body b) (shorter_body text body is l) g m

faults : LineCuts → BodyCuts → (text more : List ℕ) (b : ℕ) (rs : List Record) (old new : Pending) (f : JournalFault) → IsReadTo text b rs old → length text < 2 ^ 63 → NextGives old new (Err f) → f ≢ fault.NoMemory → IsFault (text ++ more) f
faults cl cb text more b rs (header bytes) new f r l g m = header_fault cl cb text more bytes b (behind magic bytes) new f refl (sym r.1) l g m
faults cl cb text more b rs (lines p) new f r l g m =
    lines_fault cl text more b rs (lines p) p new f r.1 l (λ n h. absurd (r.0 h.awaits)) (λ n. are_lines text more b rs p n r.1) g m
faults cl cb text more b rs (binary w) new f r l g m = bytes_fault cb text more r.1.0 b rs (binary w) w new f r.1.1.0 r.1.1.1 (shorter_body text r.1.0 r.1.1.0 l) g m

-- THE END
ends : LineCuts → BodyCuts → (text : List ℕ) (b : ℕ) (rs : List Record) (p : Pending) → IsReadTo text b rs p → GivesNone p → awaited_of p ≡ awaited.Nothing → IsJournal text b rs
ends cl cb text b rs (header bytes) r none e = cc
ends cl cb text b rs (lines p) r none e = inl (cl.ends text b rs p r.1 none e)
ends cl cb text b rs (binary w) r none e = inr (r.1.0, (r.1.1.0, cb.ends r.1.0 b rs w r.1.1.1 none e))

no_more : (text : List ℕ) → IsOfLines (text ++ []) → IsOfLines text
no_more text h body e = h body (ap (λ (xs : List ℕ). xs ++ []) e ∙ append_assoc magic body [] ∙ ap (λ (xs : List ℕ). magic ++ xs) (append-nil body))

cut_head : LineCuts → BodyCuts → (text : List ℕ) (b : ℕ) (o : Option (List ℕ)) → behind magic text ≡ o → length text < 2 ^ 63 → HeaderGivesNone o text → IsFault text (cut_header o)
cut_head cl cb text b None at l none = (λ body e. behind_none magic text at body e, cl.cuts text b [] (first_lines text) (line.Truncated 1) (first_read text b) l none (λ e. cc, refl))
cut_head cl cb text b (Some body) at l none =
    let is : text ≡ magic ++ body = behind_is magic text body at in
    (body, (is, cb.cuts body b [] (first_body body) (body_fault.Truncated 0) (first_bytes body b) (shorter_body text body is l) none (λ e. cc, refl)))

cuts : LineCuts → BodyCuts → (text : List ℕ) (b : ℕ) (rs : List Record) (p : Pending) (f : JournalFault) → IsReadTo text b rs p → length text < 2 ^ 63 → GivesNone p → FinishGives p f → IsFault text f
cuts cl cb text b rs (header bytes) f r l none h =
    let whole : IsFault text (cut_header (behind magic text)) = cut_head cl cb text b (behind magic text) refl l (subst (λ (t : List ℕ). HeaderGivesNone (behind magic t) t) (sym r.1) none) in
    subst (IsFault text) (sym (h ∙ ap (λ (t : List ℕ). cut_header (behind magic t)) (sym r.1))) whole
cuts cl cb text b rs (lines p) f r l none h =
    subst (IsFault text) (sym h.1) (no_more text (are_lines text [] b rs p r.0 r.1), cl.cuts text b rs p (line.Truncated p.line) r.1 l none (h.0, refl))
cuts cl cb text b rs (binary w) f r l none h =
    subst (IsFault text) (sym h.1) (r.1.0, (r.1.1.0, cb.cuts r.1.0 b rs w (body_fault.Truncated w.number) r.1.1.1 (shorter_body text r.1.0 r.1.1.0 l) none (h.0, refl)))

pub cuts_agree : LineCuts → BodyCuts → CutsAgree
cuts_agree cl cb = record {
  begins = (refl, refl);
  pushes = pushes cl cb;
  gives = gives_more cl cb;
  next = next_is cb;
  faults = faults cl cb;
  ends = ends cl cb;
  cuts = cuts cl cb;
}
