-- What a reader of one version gives, as a reader of either.
use Rattle.std.proofs.Common.{◌≡◌, ◌≢◌, ℕ, true, false, List, [], ◌∷◌, ◌++◌, Option, Some, None, Result, Ok, Err, refl, ap, sym, subst, ◌∙◌}
use Rattle.journal_text.specs.Streams.{NextGives as LinesNext, Pending as Lines}
use Rattle.journal_text.specs.declared.record.Entry.{Entry}
use Rattle.journal_text.specs.declared.reader.Awaited.{Awaited}
use Rattle.journal_text.specs.declared.reader.Awaited.TheVariants as awaited
use Rattle.journal_text.specs.declared.faults.JournalFault.{JournalFault as LineFault}
use Rattle.journal_text.specs.declared.faults.JournalFault.TheVariants as line
use Rattle.journal_binary.specs.Binary.{magic}
use Rattle.journal_binary.specs.Streams.{NextGives as BytesNext, Waiting}
use Rattle.journal_binary.specs.declared.faults.BinaryFault.{BinaryFault}
use Rattle.journal_binary.specs.declared.faults.BinaryFault.TheVariants as body_fault
use Rattle.journal_reading.specs.Inner.Faults.{of_bytes, of_lines}
use Rattle.journal_reading.specs.Inner.Readers.{AreBytes, AreLines, bytes_at, lines_at, parts}
use Rattle.journal_reading.specs.Streams.{BytesGive, FinishGives, GivesNone, HeaderGives, LinesGive, NextGives, Pending, behind, binary, first_body, first_lines, header, lines}
use Rattle.journal_reading.specs.declared.faults.JournalFault.{JournalFault}
use Rattle.journal_reading.proofs.Magic.{behind_append, parts_none}
use Rattle.journal_reading.proofs.Turns.{given, never_header}

-- LINES
lines_behind : (a : Awaited) (p : Lines) → a ≢ awaited.Header → lines_at a p ≡ lines p
lines_behind awaited.Header p n = absurd (n refl)
lines_behind awaited.Record p n = refl
lines_behind awaited.Nothing p n = refl

pub lines_none : (old new : Lines) → LinesNext old new (Ok None) → LinesGive (lines_at old.awaited old) old (lines_at new.awaited new) (Ok None)
lines_none old new g = (ap (λ (p : Lines). lines_at p.awaited p) g.0, g.1)

pub lines_some : (old new : Lines) (e : Entry) → LinesNext old new (Ok (Some e)) → LinesGive (lines_at old.awaited old) old (lines_at new.awaited new) (Ok (Some e))
lines_some old new e g = (new, (lines_behind new.awaited new (λ h. never_header e (sym g.awaits ∙ h)), g))

pub lines_err : (old new : Lines) (f : LineFault) → LinesNext old new (Err f) → LinesGive (lines_at old.awaited old) old (lines_at new.awaited new) (Err (of_lines f))
lines_err old new (line.BadHeader n) g = (ap (λ (p : Lines). lines_at p.awaited p) g.0, g.1)
lines_err old new (line.BadRecord n) g = (ap (λ (p : Lines). lines_at p.awaited p) g.0, g.1)
lines_err old new (line.Truncated n) g = g
lines_err old new (line.AfterEnd n) g = (ap (λ (p : Lines). lines_at p.awaited p) g.0, g.1)
lines_err old new line.NoMemory g = ap (λ (p : Lines). lines_at p.awaited p) g

are_behind : (a : Awaited) (p : Lines) → a ≢ awaited.Header → AreLines a p
are_behind awaited.Header p n = absurd (n refl)
are_behind awaited.Record p n = tt
are_behind awaited.Nothing p n = tt

pub lines_some_kept : (old new : Lines) (e : Entry) → LinesNext old new (Ok (Some e)) → AreLines new.awaited new
lines_some_kept old new e g = are_behind new.awaited new (λ h. never_header e (sym g.awaits ∙ h))

same_kept : (old new : Lines) → new ≡ old → AreLines old.awaited old → AreLines new.awaited new
same_kept old new e k = subst (λ (p : Lines). AreLines p.awaited p) (sym e) k

pub lines_kept : (old new : Lines) (r : Result (Option Entry) LineFault) → LinesNext old new r → AreLines old.awaited old → AreLines new.awaited new
lines_kept old new (Ok None) g k = same_kept old new g.0 k
lines_kept old new (Ok (Some e)) g k = lines_some_kept old new e g
lines_kept old new (Err (line.BadHeader n)) g k = same_kept old new g.0 k
lines_kept old new (Err (line.BadRecord n)) g k = same_kept old new g.0 k
lines_kept old new (Err (line.Truncated n)) g k = absurd g
lines_kept old new (Err (line.AfterEnd n)) g k = same_kept old new g.0 k
lines_kept old new (Err line.NoMemory) g k = same_kept old new g k

first_case : (old : Pending) (held : List ℕ) (ln : ℕ) (new : Pending) (r : Result (Option Entry) JournalFault) → ln ≡ 1 → LinesGive old (record { awaited = awaited.Header; line = ln; held = held }) new r → LinesGive old (first_lines held) new r
first_case old held ln new r e g = subst (λ (n : ℕ). LinesGive old (record { awaited = awaited.Header; line = n; held = held }) new r) e g

lines_case : (a : Awaited) (ln : ℕ) (held : List ℕ) (new : Pending) (r : Result (Option Entry) JournalFault) → AreLines a (record { awaited = a; line = ln; held = held })
    → LinesGive (lines_at a (record { awaited = a; line = ln; held = held })) (record { awaited = a; line = ln; held = held }) new r → NextGives (lines_at a (record { awaited = a; line = ln; held = held })) new r
lines_case awaited.Header ln held new r k g =
    subst (λ (o : Option (List ℕ)). HeaderGives o held new r) (sym (parts_none magic held k.1)) (first_case (header held) held ln new r k.0 g)
lines_case awaited.Record ln held new r k g = g
lines_case awaited.Nothing ln held new r k g = g

-- as a reader of either version
pub lines_next : (p : Lines) (new : Pending) (r : Result (Option Entry) JournalFault) → AreLines p.awaited p → LinesGive (lines_at p.awaited p) p new r → NextGives (lines_at p.awaited p) new r
lines_next p new r k g = lines_case p.awaited p.line p.held new r k g

-- VERSION 2
bytes_behind : (a : Awaited) (w : Waiting) → a ≢ awaited.Header → bytes_at a w ≡ binary w
bytes_behind awaited.Header w n = absurd (n refl)
bytes_behind awaited.Record w n = refl
bytes_behind awaited.Nothing w n = refl

pub bytes_none : (old new : Waiting) → BytesNext old new (Ok None) → BytesGive (bytes_at old.awaited old) old (bytes_at new.awaited new) (Ok None)
bytes_none old new g = (ap (λ (w : Waiting). bytes_at w.awaited w) g.0, g.1)

pub bytes_some : (old new : Waiting) (e : Entry) → BytesNext old new (Ok (Some e)) → BytesGive (bytes_at old.awaited old) old (bytes_at new.awaited new) (Ok (Some e))
bytes_some old new e g = (new, (bytes_behind new.awaited new (λ h. never_header e (sym (given old new e g).awaits ∙ h)), g))

pub bytes_err : (old new : Waiting) (f : BinaryFault) → BytesNext old new (Err f) → BytesGive (bytes_at old.awaited old) old (bytes_at new.awaited new) (Err (of_bytes f))
bytes_err old new body_fault.BadHeader g = (ap (λ (w : Waiting). bytes_at w.awaited w) g.0, (refl, g.1))
bytes_err old new (body_fault.BadRecord n) g = (ap (λ (w : Waiting). bytes_at w.awaited w) g.0, g.1)
bytes_err old new (body_fault.Truncated n) g = g
bytes_err old new (body_fault.AfterEnd n) g = (ap (λ (w : Waiting). bytes_at w.awaited w) g.0, g.1)
bytes_err old new body_fault.NoMemory g = ap (λ (w : Waiting). bytes_at w.awaited w) g

are_bytes_behind : (a : Awaited) (w : Waiting) → a ≢ awaited.Header → AreBytes a w
are_bytes_behind awaited.Header w n = absurd (n refl)
are_bytes_behind awaited.Record w n = tt
are_bytes_behind awaited.Nothing w n = tt

same_bytes : (old new : Waiting) → new ≡ old → AreBytes old.awaited old → AreBytes new.awaited new
same_bytes old new e k = subst (λ (w : Waiting). AreBytes w.awaited w) (sym e) k

pub bytes_kept : (old new : Waiting) (r : Result (Option Entry) BinaryFault) → BytesNext old new r → AreBytes old.awaited old → AreBytes new.awaited new
bytes_kept old new (Ok None) g k = same_bytes old new g.0 k
bytes_kept old new (Ok (Some e)) g k = are_bytes_behind new.awaited new (λ h. never_header e (sym (given old new e g).awaits ∙ h))
bytes_kept old new (Err body_fault.BadHeader) g k = same_bytes old new g.0 k
bytes_kept old new (Err (body_fault.BadRecord n)) g k = same_bytes old new g.0 k
bytes_kept old new (Err (body_fault.Truncated n)) g k = absurd g
bytes_kept old new (Err (body_fault.AfterEnd n)) g k = same_bytes old new g.0 k
bytes_kept old new (Err body_fault.NoMemory) g k = same_bytes old new g k

body_case : (old : Pending) (n l : ℕ) (held : List ℕ) (new : Pending) (r : Result (Option Entry) JournalFault) → n ≡ 0 → l ≡ 0 → BytesGive old (record { awaited = awaited.Header; number = n; left = l; held = held }) new r → BytesGive old (first_body held) new r
body_case old n l held new r e f g =
    subst (λ (k : ℕ). BytesGive old (record { awaited = awaited.Header; number = 0; left = k; held = held }) new r) f
    (subst (λ (k : ℕ). BytesGive old (record { awaited = awaited.Header; number = k; left = l; held = held }) new r) e g)

bytes_case : (a : Awaited) (n l : ℕ) (held : List ℕ) (new : Pending) (r : Result (Option Entry) JournalFault) → AreBytes a (record { awaited = a; number = n; left = l; held = held })
    → BytesGive (bytes_at a (record { awaited = a; number = n; left = l; held = held })) (record { awaited = a; number = n; left = l; held = held }) new r
    → NextGives (bytes_at a (record { awaited = a; number = n; left = l; held = held })) new r
bytes_case awaited.Header n l held new r k g =
    subst (λ (o : Option (List ℕ)). HeaderGives o (magic ++ held) new r) (sym (behind_append magic held)) (body_case (header (magic ++ held)) n l held new r k.0 k.1 g)
bytes_case awaited.Record n l held new r k g = g
bytes_case awaited.Nothing n l held new r k g = g

pub bytes_next : (w : Waiting) (new : Pending) (r : Result (Option Entry) JournalFault) → AreBytes w.awaited w → BytesGive (bytes_at w.awaited w) w new r → NextGives (bytes_at w.awaited w) new r
bytes_next w new r k g = bytes_case w.awaited w.number w.left w.held new r k g
