-- What a text that is read so far begins with, and the numbers of what is wrong there.
use Rattle.std.proofs.Common.{◌≡◌, ◌≢◌, ◌⊎◌, inl, inr, ℕ, suc, ◌+◌, ◌<◌, ◌≤◌, ◌^◌, ◌-◌, min, List, [], ◌∷◌, ◌++◌, map, length, Option, Some, None, Ok, Err, refl, ap, sym, subst, ◌∙◌, arith, append_assoc, length-append}
use Rattle.journal_text.specs.Faults.{opening}
use Rattle.journal_text.specs.Streams.{IsReadTo as AreLinesReadTo, Pending as Lines, Stands, given_at}
use Rattle.journal_text.specs.Text.{AreEntries, entries_text, entry_line, entry_text, journal_entries}
use Rattle.journal_text.specs.declared.record.Record.{Record}
use Rattle.journal_text.specs.declared.record.Entry.{Entry}
use Rattle.journal_text.specs.declared.record.Entry.TheVariants as entry
use Rattle.journal_text.specs.declared.reader.Awaited.{Awaited}
use Rattle.journal_text.specs.declared.reader.Awaited.TheVariants as awaited
use Rattle.journal_binary.specs.Binary.{magic}
use Rattle.journal_binary.specs.Faults.{Opens}
use Rattle.journal_binary.specs.Laws.{CutsAgree as BodyCuts}
use Rattle.journal_binary.specs.Streams.{IsReadTo as AreBytesReadTo, ReadAt, Waiting, head_turn, refuses, turn}
use Rattle.journal_binary.specs.declared.faults.BinaryFault.TheVariants as body_fault
use Rattle.journal_reading.specs.Faults.{BeginsOpen, BeginsWhole, BeginsWith, end_number, header_number, record_number}
use Rattle.journal_reading.specs.Laws.{PlacesTell}
use Rattle.journal_reading.specs.Streams.{FinishGives, HeaderGives, IsReadTo, LinesGive, BytesGive, NextGives, Pending, awaited_of, behind, binary, cut_header, first_body, first_lines, header, lines}
use Rattle.journal_reading.specs.declared.faults.JournalFault.{JournalFault}
use Rattle.journal_reading.specs.declared.faults.JournalFault.TheVariants as fault
use Rattle.journal_reading.specs.declared.faults.Version.{Version}
use Rattle.journal_reading.specs.declared.faults.Version.TheVariants.{One, Two}
use Rattle.journal_reading.proofs.Turns.{more_refused, record_refused}

-- EACH LINE HAS A BYTE
texts_long : (es : List Entry) → length es ≤ length (entries_text es)
texts_long [] = omega arith
texts_long (e ∷ es) =
    let rest : length es ≤ length (entries_text es) = texts_long es in
    let a : length (entry_text e ++ entries_text es) ≡ length (entry_text e) + length (entries_text es) = length-append (entry_text e) (entries_text es) in
    let b : length (entry_text e) ≡ length (entry_line e) + 1 = length-append (entry_line e) (10 ∷ []) in
    omega (arith, rest, a, b)

length_kept : (rs : List Record) → length (map (λ (r : Record). entry.Record r) rs) ≡ length rs
length_kept [] = refl
length_kept (r ∷ rs) = ap suc (length_kept rs)

length_opening : (b : ℕ) (rs : List Record) → length (opening b rs) ≡ 1 + length rs
length_opening b rs = let k : _ ≡ _ = length_kept rs in omega (arith, k)

length_whole : (b : ℕ) (rs : List Record) → length (journal_entries b rs) ≡ 2 + length rs
length_whole b rs =
    let k : _ ≡ _ = length_kept rs in
    let a : _ ≡ _ = length-append (map (λ (r : Record). entry.Record r) rs) (entry.End ∷ []) in
    omega (arith, k, a)

given_long : (a : Awaited) (b : ℕ) (rs : List Record) → (a ≡ awaited.Header → rs ≡ []) → length rs ≤ length (given_at a b rs)
given_long awaited.Header b rs none = let e : length rs ≡ 0 = ap (λ (xs : List Record). length xs) (none refl) in omega (arith, e)
given_long awaited.Record b rs none = let e : _ ≡ _ = length_opening b rs in omega (arith, e)
given_long awaited.Nothing b rs none = let e : _ ≡ _ = length_whole b rs in omega (arith, e)

given_short : (text : List ℕ) (es : List Entry) (held : List ℕ) → text ≡ entries_text es ++ held → length es ≤ length text
given_short text es held e =
    let a : length text ≡ length (entries_text es ++ held) = ap (λ (xs : List ℕ). length xs) e in
    let b : length (entries_text es ++ held) ≡ length (entries_text es) + length held = length-append (entries_text es) held in
    let c : length es ≤ length (entries_text es) = texts_long es in
    omega (arith, a, b, c)

lines_few : (text : List ℕ) (b : ℕ) (rs : List Record) (p : Lines) → AreLinesReadTo text b rs p → length rs ≤ length text
lines_few text b rs p r =
    let a : length rs ≤ length (given_at p.awaited b rs) = given_long p.awaited b rs r.none in
    let c : length (given_at p.awaited b rs) ≤ length text = given_short text (given_at p.awaited b rs) p.held r.stands.text in
    omega (arith, a, c)

-- EACH RECORD HAS ONE TOO
bytes_at : BodyCuts → (a : Awaited) (body : List ℕ) (b : ℕ) (rs : List Record) (w : Waiting) → ReadAt a body b rs w → length rs ≤ length body
bytes_at cb awaited.Header body b rs w r = let e : length rs ≡ 0 = ap (λ (xs : List Record). length xs) r.0 in omega (arith, e)
bytes_at cb awaited.Record body b rs w r = cb.small body w.held b rs w.left r.1
bytes_at cb awaited.Nothing body b rs w r = cb.small body w.held b rs 0 r.1.1

body_short : (text body : List ℕ) → text ≡ magic ++ body → length body ≤ length text
body_short text body e =
    let size : length text ≡ length (magic ++ body) = ap length e in
    let parts : length (magic ++ body) ≡ 8 + length body = length-append magic body in
    omega (arith, size, parts)

few : BodyCuts → (text : List ℕ) (b : ℕ) (rs : List Record) (p : Pending) → IsReadTo text b rs p → length rs ≤ length text
few cb text b rs (header bytes) r = let e : length rs ≡ 0 = ap (λ (xs : List Record). length xs) r.0 in omega (arith, e)
few cb text b rs (lines p) r = lines_few text b rs p r.1
few cb text b rs (binary w) r =
    let a : length rs ≤ length r.1.0 = bytes_at cb w.awaited r.1.0 b rs w r.1.1.1 in
    let c : length r.1.0 ≤ length text = body_short text r.1.0 r.1.1.0 in
    omega (arith, a, c)

-- WHAT A LONGER TEXT BEGINS WITH
stands_at : (text : List ℕ) (p : Lines) (a : Awaited) (b : ℕ) (rs : List Record) → AreLinesReadTo text b rs p → p.awaited ≡ a → Stands text (given_at a b rs) p
stands_at text p a b rs r e = subst (λ (x : Awaited). Stands text (given_at x b rs) p) e r.stands

begins_more : (text more : List ℕ) (es : List Entry) (p : Lines) → Stands text es p → BeginsWith (text ++ more) es
begins_more text more es p s = record { valid = s.valid; rest = p.held ++ more; is = ap (λ (xs : List ℕ). xs ++ more) s.text ∙ append_assoc (entries_text es) p.held more }

longer : (text body piece : List ℕ) → text ≡ magic ++ body → text ++ piece ≡ magic ++ (body ++ piece)
longer text body piece e = ap (λ (xs : List ℕ). xs ++ piece) e ∙ append_assoc magic body piece

opens : BodyCuts → (text more : List ℕ) (b : ℕ) (rs : List Record) (p : Pending) → IsReadTo text b rs p → awaited_of p ≡ awaited.Record → BeginsOpen (text ++ more) b rs
opens cb text more b rs (header bytes) r e = cc
opens cb text more b rs (lines p) r e = inl (begins_more text more (opening b rs) p (stands_at text p awaited.Record b rs r.1 e))
opens cb text more b rs (binary w) r e =
    let read = subst (λ (a : Awaited). ReadAt a r.1.0 b rs w) e r.1.1.1 in
    inr (r.1.0 ++ more, (longer text r.1.0 more r.1.1.0, (w.left, (w.held ++ more, cb.stays r.1.0 w.held more b rs w.left read.1))))

whole : BodyCuts → (text more : List ℕ) (b : ℕ) (rs : List Record) (p : Pending) → IsReadTo text b rs p → awaited_of p ≡ awaited.Nothing → BeginsWhole (text ++ more) b rs
whole cb text more b rs (header bytes) r e = cc
whole cb text more b rs (lines p) r e = inl (begins_more text more (journal_entries b rs) p (stands_at text p awaited.Nothing b rs r.1 e))
whole cb text more b rs (binary w) r e =
    let read = subst (λ (a : Awaited). ReadAt a r.1.0 b rs w) e r.1.1.1 in
    inr (r.1.0 ++ more, (longer text r.1.0 more r.1.1.0, (w.held ++ more, cb.stays r.1.0 w.held more b rs 0 read.1.1)))

-- NUMBERS
line_is : (text : List ℕ) (es : List Entry) (p : Lines) (n : ℕ) → Stands text es p → length text < 2 ^ 63 → n ≡ p.line → n ≡ 1 + length es
line_is text es p n stands l e =
    let k : p.line ≡ min (1 + length es) (2 ^ 64 - 1) = stands.counts in
    let s : length es ≤ length text = given_short text es p.held stands.text in
    omega (arith, k, s, l, e)

lines_record : (text : List ℕ) (b : ℕ) (rs : List Record) (p : Lines) (n : ℕ) → AreLinesReadTo text b rs p → length text < 2 ^ 63 → p.awaited ≡ awaited.Record → n ≡ p.line → n ≡ 2 + length rs
lines_record text b rs p n r l a e =
    let at : n ≡ 1 + length (opening b rs) = line_is text (opening b rs) p n (stands_at text p awaited.Record b rs r a) l e in
    omega (arith, at, length_opening b rs)

lines_end : (text : List ℕ) (b : ℕ) (rs : List Record) (p : Lines) (n : ℕ) → AreLinesReadTo text b rs p → length text < 2 ^ 63 → p.awaited ≡ awaited.Nothing → n ≡ p.line → n ≡ 3 + length rs
lines_end text b rs p n r l a e =
    let at : n ≡ 1 + length (journal_entries b rs) = line_is text (journal_entries b rs) p n (stands_at text p awaited.Nothing b rs r a) l e in
    omega (arith, at, length_whole b rs)

bytes_number : BodyCuts → (a : Awaited) (body : List ℕ) (b : ℕ) (rs : List Record) (w : Waiting) (n : ℕ) → a ≢ awaited.Header → ReadAt a body b rs w → length body < 2 ^ 63 → n ≡ w.number → n ≡ 1 + length rs
bytes_number cb awaited.Header body b rs w n h r l e = absurd (h refl)
bytes_number cb awaited.Record body b rs w n h r l e =
    let s : length rs ≤ length body = cb.small body w.held b rs w.left r.1 in
    let k : w.number ≡ min (1 + length rs) (2 ^ 64 - 1) = r.0 in
    omega (arith, k, s, l, e)
bytes_number cb awaited.Nothing body b rs w n h r l e =
    let s : length rs ≤ length body = cb.small body w.held b rs 0 r.1.1 in
    let k : w.number ≡ min (1 + length rs) (2 ^ 64 - 1) = r.0 in
    omega (arith, k, s, l, e)

body_less : (text body : List ℕ) → text ≡ magic ++ body → length text < 2 ^ 63 → length body < 2 ^ 63
body_less text body e l = let s : length body ≤ length text = body_short text body e in omega (arith, s, l)

never_so : (n : ℕ) (body : List ℕ) → turn (first_body body) ≡ refuses (body_fault.BadRecord n) → ⊥
never_so n body e = let h : awaited.Header ≡ awaited.Record = (record_refused (first_body body) n e).0 in cc

never_end : (n : ℕ) (body : List ℕ) → turn (first_body body) ≡ refuses (body_fault.AfterEnd n) → ⊥
never_end n body e = let h : awaited.Header ≡ awaited.Nothing = (more_refused (first_body body) n e).0 in cc

header_record : (bytes : List ℕ) (o : Option (List ℕ)) (new : Pending) (v : Version) (n : ℕ) → HeaderGives o bytes new (Err (fault.BadRecord v n)) → ⊥
header_record bytes None new One n g = let h : awaited.Header ≡ awaited.Record = g.1.awaits in cc
header_record bytes None new Two n g = g
header_record bytes (Some body) new One n g = g
header_record bytes (Some body) new Two n g = never_so n body g.1

header_end : (bytes : List ℕ) (o : Option (List ℕ)) (new : Pending) (v : Version) (n : ℕ) → HeaderGives o bytes new (Err (fault.AfterEnd v n)) → ⊥
header_end bytes None new One n g = let h : awaited.Header ≡ awaited.Nothing = g.1.awaits in cc
header_end bytes None new Two n g = g
header_end bytes (Some body) new One n g = g
header_end bytes (Some body) new Two n g = never_end n body g.1

no_record : BodyCuts → (text : List ℕ) (b : ℕ) (rs : List Record) (old new : Pending) (v : Version) (n : ℕ) → IsReadTo text b rs old → length text < 2 ^ 63 → NextGives old new (Err (fault.BadRecord v n)) → (awaited_of old ≡ awaited.Record) × (n ≡ record_number v (length rs))
no_record cb text b rs (header bytes) new v n r l g = absurd (header_record bytes (behind magic bytes) new v n g)
no_record cb text b rs (lines p) new One n r l g = (g.1.awaits, lines_record text b rs p n r.1 l g.1.awaits g.1.number)
no_record cb text b rs (lines p) new Two n r l g = absurd g
no_record cb text b rs (binary w) new One n r l g = absurd g
no_record cb text b rs (binary w) new Two n r l g =
    let at = record_refused w n g.1 in
    (at.0, bytes_number cb w.awaited r.1.0 b rs w n r.0 r.1.1.1 (body_less text r.1.0 r.1.1.0 l) at.1)

more_at : BodyCuts → (text : List ℕ) (b : ℕ) (rs : List Record) (old new : Pending) (v : Version) (n : ℕ) → IsReadTo text b rs old → length text < 2 ^ 63 → NextGives old new (Err (fault.AfterEnd v n)) → (awaited_of old ≡ awaited.Nothing) × (n ≡ end_number v (length rs))
more_at cb text b rs (header bytes) new v n r l g = absurd (header_end bytes (behind magic bytes) new v n g)
more_at cb text b rs (lines p) new One n r l g = (g.1.awaits, lines_end text b rs p n r.1 l g.1.awaits g.1.number)
more_at cb text b rs (lines p) new Two n r l g = absurd g
more_at cb text b rs (binary w) new One n r l g = absurd g
more_at cb text b rs (binary w) new Two n r l g =
    let at = more_refused w n g.1 in
    (at.0, bytes_number cb w.awaited r.1.0 b rs w n r.0 r.1.1.1 (body_less text r.1.0 r.1.1.0 l) at.1)

header_never : (bytes : List ℕ) (o : Option (List ℕ)) (new : Pending) (v : Version) (n : ℕ) → HeaderGives o bytes new (Err (fault.Truncated v n)) → ⊥
header_never bytes None new One n g = g
header_never bytes None new Two n g = g
header_never bytes (Some body) new One n g = g
header_never bytes (Some body) new Two n g = g

never : (old new : Pending) (v : Version) (n : ℕ) → NextGives old new (Err (fault.Truncated v n)) → ⊥
never (header bytes) new v n g = header_never bytes (behind magic bytes) new v n g
never (lines p) new One n g = g
never (lines p) new Two n g = g
never (binary w) new One n g = g
never (binary w) new Two n g = g

-- WHERE A TEXT ENDS EARLY
abbrev Cut : JournalFault → Awaited → ℕ → Type 0
Cut f a count = (v : Version) × ((n : ℕ) × ((f ≡ fault.Truncated v n) × ((n ≡ header_number v) ⊎ ((a ≡ awaited.Record) × (n ≡ record_number v count)))))

header_cut : (o : Option (List ℕ)) (f : JournalFault) (count : ℕ) → f ≡ cut_header o → Cut f awaited.Header count
header_cut None f count e = (One, (1, (e, inl refl)))
header_cut (Some body) f count e = (Two, (0, (e, inl refl)))

is_record : (a : Awaited) → a ≢ awaited.Header → a ≢ awaited.Nothing → a ≡ awaited.Record
is_record awaited.Header n m = absurd (n refl)
is_record awaited.Record n m = refl
is_record awaited.Nothing n m = absurd (m refl)

cut : BodyCuts → (text : List ℕ) (b : ℕ) (rs : List Record) (p : Pending) (f : JournalFault) → IsReadTo text b rs p → length text < 2 ^ 63 → FinishGives p f → Cut f (awaited_of p) (length rs)
cut cb text b rs (header bytes) f r l h = header_cut (behind magic bytes) f (length rs) h
cut cb text b rs (lines p) f r l h =
    let at = is_record p.awaited r.0 h.0 in
    (One, (p.line, (h.1, inr (at, lines_record text b rs p p.line r.1 l at refl))))
cut cb text b rs (binary w) f r l h =
    let at = is_record w.awaited r.0 h.0 in
    (Two, (w.number, (h.1, inr (at, bytes_number cb w.awaited r.1.0 b rs w w.number r.0 r.1.1.1 (body_less text r.1.0 r.1.1.0 l) refl))))

pub places_tell : BodyCuts → PlacesTell
places_tell cb = record {
  few = few cb;
  opens = opens cb;
  whole = whole cb;
  no_record = no_record cb;
  more = more_at cb;
  never = never;
  cut = cut cb;
}
