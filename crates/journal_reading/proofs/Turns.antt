-- What a turn of version 2 tells.
use Rattle.std.proofs.Common.{◌≡◌, ◌≢◌, ℕ, zero, suc, true, List, [], ◌∷◌, Option, Some, None, Ok, Err, refl, ap, sym, subst, ◌∙◌}
use Rattle.journal_text.specs.Streams.{awaited_after, comes}
use Rattle.journal_text.specs.declared.record.Record.{Record}
use Rattle.journal_text.specs.declared.record.Entry.{Entry}
use Rattle.journal_text.specs.declared.record.Entry.TheVariants as entry
use Rattle.journal_text.specs.declared.reader.Awaited.{Awaited}
use Rattle.journal_text.specs.declared.reader.Awaited.TheVariants as awaited
use Rattle.journal_binary.specs.Fronts.{Front, bad, got, read_head, read_record, short}
use Rattle.journal_binary.specs.Streams.{Turn, Waiting, gives, head_turn, one_turn, record_turn, refuses, rest_turn, turn, turn_at, waits}
use Rattle.journal_binary.specs.declared.faults.BinaryFault.{BinaryFault}
use Rattle.journal_binary.specs.declared.faults.BinaryFault.TheVariants as fault

-- an entry is one that may come there
pub record Given (old new : Waiting) (e : Entry) : Type 0 where
  pub comes_there : comes old.awaited e ≡ true
  pub awaits : new.awaited ≡ awaited_after e

abbrev entry_in : Turn → Entry
entry_in (gives e w) = e
entry_in _ = entry.End

abbrev state_in : Waiting → Turn → Waiting
state_in old (gives e w) = w
state_in old _ = old

given_is : (a : Awaited) (old new mid : Waiting) (e f : Entry) → comes a f ≡ true → mid.awaited ≡ awaited_after f → gives f mid ≡ gives e new → (comes a e ≡ true) × (new.awaited ≡ awaited_after e)
given_is a old new mid e f c w g =
    let same : f ≡ e = ap entry_in g in
    let state : mid ≡ new = ap (state_in old) g in
    (subst (λ (x : Entry). comes a x ≡ true) same c, sym (ap (λ (x : Waiting). x.awaited) state) ∙ w ∙ ap awaited_after same)

head_given : (old new : Waiting) (e : Entry) (f : Front (ℕ × ℕ)) → head_turn old f ≡ gives e new → (comes awaited.Header e ≡ true) × (new.awaited ≡ awaited_after e)
head_given old new e (got head rest) g = given_is awaited.Header old new _ e (entry.Header head.0) refl refl g
head_given old new e bad g = cc
head_given old new e short g = cc

one_given : (old new : Waiting) (left : ℕ) (e : Entry) (f : Front Record) → one_turn old left f ≡ gives e new → (comes awaited.Record e ≡ true) × (new.awaited ≡ awaited_after e)
one_given old new left e (got r rest) g = given_is awaited.Record old new _ e (entry.Record r) refl refl g
one_given old new left e bad g = cc
one_given old new left e short g = cc

record_given : (old new : Waiting) (left : ℕ) (e : Entry) → record_turn old left ≡ gives e new → (comes awaited.Record e ≡ true) × (new.awaited ≡ awaited_after e)
record_given old new zero e g = given_is awaited.Record old new _ e entry.End refl refl g
record_given old new (suc left) e g = one_given old new left e (read_record old.held) g

rest_given : (old new : Waiting) (bytes : List ℕ) (e : Entry) → rest_turn old bytes ≡ gives e new → ⊥
rest_given old new [] e g = cc
rest_given old new (b ∷ bytes) e g = cc

at_given : (a : Awaited) (old new : Waiting) (e : Entry) → turn_at a old ≡ gives e new → (comes a e ≡ true) × (new.awaited ≡ awaited_after e)
at_given awaited.Header old new e g = head_given old new e (read_head old.held) g
at_given awaited.Record old new e g = record_given old new old.left e g
at_given awaited.Nothing old new e g = absurd (rest_given old new old.held e g)

pub given : (old new : Waiting) (e : Entry) → turn old ≡ gives e new → Given old new e
given old new e g = let r = at_given old.awaited old new e g in record { comes_there = r.0; awaits = r.1 }

-- WHERE A FAULT STANDS
head_refuses : (w : Waiting) (f : Front (ℕ × ℕ)) (g : BinaryFault) → head_turn w f ≡ refuses g → g ≡ fault.BadHeader
head_refuses w (got head rest) g e = cc
head_refuses w bad g e = cc
head_refuses w short g e = cc

one_refuses : (w : Waiting) (left : ℕ) (f : Front Record) (g : BinaryFault) → one_turn w left f ≡ refuses g → g ≡ fault.BadRecord w.number
one_refuses w left (got r rest) g e = cc
one_refuses w left bad g e = cc
one_refuses w left short g e = cc

record_refuses : (w : Waiting) (left : ℕ) (g : BinaryFault) → record_turn w left ≡ refuses g → g ≡ fault.BadRecord w.number
record_refuses w zero g e = cc
record_refuses w (suc left) g e = one_refuses w left (read_record w.held) g e

rest_refuses : (w : Waiting) (bytes : List ℕ) (g : BinaryFault) → rest_turn w bytes ≡ refuses g → g ≡ fault.AfterEnd w.number
rest_refuses w [] g e = cc
rest_refuses w (b ∷ bytes) g e = cc

bad_is : (n m : ℕ) → fault.BadRecord n ≡ fault.BadRecord m → n ≡ m
bad_is n m e = cc

after_is : (n m : ℕ) → fault.AfterEnd n ≡ fault.AfterEnd m → n ≡ m
after_is n m e = cc

record_at : (a : Awaited) (w : Waiting) (n : ℕ) → turn_at a w ≡ refuses (fault.BadRecord n) → (a ≡ awaited.Record) × (n ≡ w.number)
record_at awaited.Header w n e = let h : fault.BadRecord n ≡ fault.BadHeader = head_refuses w (read_head w.held) (fault.BadRecord n) e in cc
record_at awaited.Record w n e = (refl, bad_is n w.number (record_refuses w w.left (fault.BadRecord n) e))
record_at awaited.Nothing w n e = let h : fault.BadRecord n ≡ fault.AfterEnd w.number = rest_refuses w w.held (fault.BadRecord n) e in cc

pub record_refused : (w : Waiting) (n : ℕ) → turn w ≡ refuses (fault.BadRecord n) → (w.awaited ≡ awaited.Record) × (n ≡ w.number)
record_refused w n e = record_at w.awaited w n e

after_at : (a : Awaited) (w : Waiting) (n : ℕ) → turn_at a w ≡ refuses (fault.AfterEnd n) → (a ≡ awaited.Nothing) × (n ≡ w.number)
after_at awaited.Header w n e = let h : fault.AfterEnd n ≡ fault.BadHeader = head_refuses w (read_head w.held) (fault.AfterEnd n) e in cc
after_at awaited.Record w n e = let h : fault.AfterEnd n ≡ fault.BadRecord w.number = record_refuses w w.left (fault.AfterEnd n) e in cc
after_at awaited.Nothing w n e = (refl, after_is n w.number (rest_refuses w w.held (fault.AfterEnd n) e))

pub more_refused : (w : Waiting) (n : ℕ) → turn w ≡ refuses (fault.AfterEnd n) → (w.awaited ≡ awaited.Nothing) × (n ≡ w.number)
more_refused w n e = after_at w.awaited w n e

-- behind the header another is never awaited
pub never_header : (e : Entry) → awaited_after e ≢ awaited.Header
never_header (entry.Header b) = λ e. cc
never_header (entry.Record r) = λ e. cc
never_header entry.End = λ e. cc
