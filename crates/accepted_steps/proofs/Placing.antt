-- Where a fault of the text stands.
use Rattle.std.proofs.Common.{◌≡◌, ◌≢◌, ◌⊎◌, ℕ, zero, suc, ◌+◌, ◌-◌, ◌^◌, ◌<◌, ◌≤◌, min, List, [], ◌∷◌, ◌++◌, length, Option, None, Some, Ok, Err, refl, ap, sym, subst, ◌∙◌, inl, inr, arith}
use Rattle.journal_text.specs.Faults.{opening}
use Rattle.journal_text.specs.Streams.{IsReadTo as AreLinesReadTo, Pending as Lines, Stands, given_at}
use Rattle.journal_text.specs.declared.record.Record.{Record}
use Rattle.journal_text.specs.declared.reader.Awaited.{Awaited}
use Rattle.journal_text.specs.declared.reader.Awaited.TheVariants as awaited
use Rattle.journal_binary.specs.Fronts.{Front, bad, got, read_record, short}
use Rattle.journal_binary.specs.Streams.{ReadAt, Waiting, one_turn, record_turn, refuses, rest_turn, turn_at}
use Rattle.journal_binary.specs.declared.faults.BinaryFault.TheVariants as binary_fault
use Rattle.journal_reading.specs.Faults.{header_number, record_number}
use Rattle.journal_reading.specs.Laws.{PlacesTell}
use Rattle.journal_reading.specs.Streams.{FinishGives, IsReadTo, NextGives, Pending, awaited_of, behind, binary, cut_header, header, lines}
use Rattle.journal_reading.specs.declared.faults.JournalFault.{JournalFault}
use Rattle.journal_reading.specs.declared.faults.JournalFault.TheVariants as fault
use Rattle.journal_reading.specs.declared.faults.Version.{Version}
use Rattle.journal_reading.specs.declared.faults.Version.TheVariants.{One, Two}
use Rattle.journal_binary.specs.Binary.{magic}
use Rattle.accepted_steps.specs.Taken.{StandsBehind}

-- NO HEADER: NOTHING WAS READ
one_refused : (w : Waiting) (n : ℕ) (front : Front Record) → one_turn w n front ≡ refuses binary_fault.BadHeader → ⊥
one_refused w n (got r rest) e = cc
one_refused w n bad e = cc
one_refused w n short e = cc

record_refused : (w : Waiting) (n : ℕ) → record_turn w n ≡ refuses binary_fault.BadHeader → ⊥
record_refused w zero e = cc
record_refused w (suc n) e = one_refused w n (read_record w.held) e

rest_refused : (w : Waiting) (bytes : List ℕ) → rest_turn w bytes ≡ refuses binary_fault.BadHeader → ⊥
rest_refused w [] e = cc
rest_refused w (x ∷ xs) e = cc

header_awaited : (a : Awaited) (w : Waiting) → turn_at a w ≡ refuses binary_fault.BadHeader → a ≡ awaited.Header
header_awaited awaited.Header w e = refl
header_awaited awaited.Record w e = absurd (record_refused w w.left e)
header_awaited awaited.Nothing w e = absurd (rest_refused w w.held e)

pub no_header : (text : List ℕ) (b : ℕ) (rs : List Record) (p q : Pending) (v : Version) (n : ℕ) → IsReadTo text b rs p → NextGives p q (Err (fault.BadHeader v n)) → rs ≡ []
no_header text b rs (header bytes) q v n r g = r.0
no_header text b rs (lines p) q One n r g = absurd (r.0 g.1.awaits)
no_header text b rs (lines p) q Two n r g = absurd g
no_header text b rs (binary w) q One n r g = absurd g
no_header text b rs (binary w) q Two n r g = absurd (r.0 (header_awaited w.awaited w g.1.1))

-- THE TEXT ENDS EARLY
lines_behind : (text : List ℕ) (b : ℕ) (rs : List Record) (p : Lines) → AreLinesReadTo text b rs p → p.awaited ≡ awaited.Record → 1 < p.line
lines_behind text b rs p r e =
    let s : Stands text (opening b rs) p = subst (λ (a : Awaited). Stands text (given_at a b rs) p) e r.stands in
    let k : p.line ≡ min (1 + length (opening b rs)) (2 ^ 64 - 1) = s.counts in
    omega (arith, k)

bytes_behind : (body : List ℕ) (b : ℕ) (rs : List Record) (w : Waiting) → ReadAt w.awaited body b rs w → w.awaited ≡ awaited.Record → 0 < w.number
bytes_behind body b rs w r e =
    let read = subst (λ (a : Awaited). ReadAt a body b rs w) e r in
    let k : w.number ≡ min (1 + length rs) (2 ^ 64 - 1) = read.0 in
    omega (arith, k)

pub behind_header : (text : List ℕ) (b : ℕ) (rs : List Record) (p : Pending) (n : ℕ) (v : Version) → IsReadTo text b rs p → awaited_of p ≡ awaited.Record → FinishGives p (fault.Truncated v n) → n ≡ header_number v → ⊥
behind_header text b rs (header bytes) n v r e g h = cc
behind_header text b rs (lines p) n v r e g h =
    let l : 1 < p.line = lines_behind text b rs p r.1 e in
    line_case n v p.line l g.1 h
  where
    line_case : (k : ℕ) (u : Version) (line : ℕ) → 1 < line → fault.Truncated u k ≡ fault.Truncated One line → k ≡ header_number u → ⊥
    line_case k One line l e h = let f : k ≡ line = cc in omega (arith, l, f, h)
    line_case k Two line l e h = cc
behind_header text b rs (binary w) n v r e g h =
    let l : 0 < w.number = bytes_behind r.1.0 b rs w r.1.1.1 e in
    number_case n v w.number l g.1 h
  where
    number_case : (k : ℕ) (u : Version) (number : ℕ) → 0 < number → fault.Truncated u k ≡ fault.Truncated Two number → k ≡ header_number u → ⊥
    number_case k One number l e h = cc
    number_case k Two number l e h = let f : k ≡ number = cc in omega (arith, l, f, h)
