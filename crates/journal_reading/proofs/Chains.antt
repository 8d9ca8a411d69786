-- Entries, one after another.
use Rattle.std.proofs.Common.{◌≡◌, ◌≢◌, ℕ, List, [], ◌∷◌, ◌++◌, Option, Some, None, Result, Ok, Err, IfOk, refl, sym, subst, ◌∙◌}
use Rattle.journal_text.specs.Streams.{Pending as Lines}
use Rattle.journal_text.specs.declared.record.Entry.{Entry}
use Rattle.journal_binary.specs.Binary.{magic}
use Rattle.journal_binary.specs.Streams.{Waiting}
use Rattle.journal_reading.specs.Streams.{BytesGive, Gathers, GivesAll, GivesNone, HeaderGives, HeaderGivesNone, LinesGive, NextGives, Pending, behind, binary, first_body, first_lines, header, lines}
use Rattle.journal_reading.specs.declared.faults.JournalFault.{JournalFault}
use Rattle.journal_reading.specs.declared.faults.JournalFault.TheVariants as fault
use Rattle.journal_reading.specs.declared.faults.Version.TheVariants.{One, Two}

-- and one more
pub one_more : (old mid new : Pending) (es : List Entry) (e : Entry) → GivesAll old es mid → NextGives mid new (Ok (Some e)) → GivesAll old (es ++ e ∷ []) new
one_more old mid new [] e g n = (new, (subst (λ (p : Pending). NextGives p new (Ok (Some e))) g n, refl))
one_more old mid new (x ∷ es) e g n = (g.0, (g.1.0, one_more g.0 mid new es e g.1.1 n))

-- a fault changes nothing
lines_stay : (old : Pending) (p : Lines) (new : Pending) (f : JournalFault) → LinesGive old p new (Err f) → new ≡ old
lines_stay old p new (fault.BadHeader One n) g = g.0
lines_stay old p new (fault.BadHeader Two n) g = absurd g
lines_stay old p new (fault.BadRecord One n) g = g.0
lines_stay old p new (fault.BadRecord Two n) g = absurd g
lines_stay old p new (fault.Truncated One n) g = absurd g
lines_stay old p new (fault.Truncated Two n) g = absurd g
lines_stay old p new (fault.AfterEnd One n) g = g.0
lines_stay old p new (fault.AfterEnd Two n) g = absurd g
lines_stay old p new fault.NoMemory g = g

bytes_stay : (old : Pending) (w : Waiting) (new : Pending) (f : JournalFault) → BytesGive old w new (Err f) → new ≡ old
bytes_stay old w new (fault.BadHeader One n) g = absurd g
bytes_stay old w new (fault.BadHeader Two n) g = g.0
bytes_stay old w new (fault.BadRecord One n) g = absurd g
bytes_stay old w new (fault.BadRecord Two n) g = g.0
bytes_stay old w new (fault.Truncated One n) g = absurd g
bytes_stay old w new (fault.Truncated Two n) g = absurd g
bytes_stay old w new (fault.AfterEnd One n) g = absurd g
bytes_stay old w new (fault.AfterEnd Two n) g = g.0
bytes_stay old w new fault.NoMemory g = g

header_stays : (o : Option (List ℕ)) (bytes : List ℕ) (new : Pending) (f : JournalFault) → HeaderGives o bytes new (Err f) → new ≡ header bytes
header_stays None bytes new f g = lines_stay (header bytes) (first_lines bytes) new f g
header_stays (Some body) bytes new f g = bytes_stay (header bytes) (first_body body) new f g

stays : (old new : Pending) (f : JournalFault) → NextGives old new (Err f) → new ≡ old
stays (header bytes) new f g = header_stays (behind magic bytes) bytes new f g
stays (lines p) new f g = lines_stay (lines p) p new f g
stays (binary w) new f g = bytes_stay (binary w) w new f g

again : (old new : Pending) (f : JournalFault) → NextGives old new (Err f) → NextGives new new (Err f)
again old new f g = subst (λ (p : Pending). NextGives p new (Err f)) (sym (stays old new f g)) g

pub gathers_broken : (old mid new : Pending) (es ds : List Entry) (f : JournalFault) (o : Option JournalFault) → GivesAll old es mid → NextGives mid new (Err f) → ds ≡ es → o ≡ Some f → f ≢ fault.NoMemory → Gathers old ds o new
gathers_broken old mid new es ds f o g n same is plain =
    subst (λ (o : Option JournalFault). Gathers old ds o new) (sym is)
    (subst (λ (xs : List Entry). GivesAll old xs new) (sym same) (subst (GivesAll old es) (sym (stays mid new f n)) g), (plain, again mid new f n))

pub header_none : (o : Option (List ℕ)) (bytes : List ℕ) (new : Pending) → HeaderGives o bytes new (Ok None) → new ≡ header bytes
header_none None bytes new g = g.0
header_none (Some body) bytes new g = g.0

pub none_stays : (old new : Pending) → NextGives old new (Ok None) → new ≡ old
none_stays (header bytes) new g = header_none (behind magic bytes) bytes new g
none_stays (lines p) new g = g.0
none_stays (binary w) new g = g.0

header_gives : (o : Option (List ℕ)) (bytes : List ℕ) (new : Pending) → HeaderGives o bytes new (Ok None) → HeaderGivesNone o bytes
header_gives None bytes new g = g.1
header_gives (Some body) bytes new g = g.1

pub gives_none : (old new : Pending) → NextGives old new (Ok None) → GivesNone old
gives_none (header bytes) new g = header_gives (behind magic bytes) bytes new g
gives_none (lines p) new g = g.1
gives_none (binary w) new g = g.1

pub gathers_all : (old mid new : Pending) (es : List Entry) → GivesAll old es mid → NextGives mid new (Ok None) → Gathers old es None new
gathers_all old mid new es g n =
    let same = none_stays mid new n in
    (subst (GivesAll old es) (sym same) g, subst GivesNone (sym same) (gives_none mid new n))

pub ok_weaker : {V E : Type 0} (r : Result V E) (P Q : V → Type 0) → ((v : V) → P v → Q v) → IfOk r P → IfOk r Q
ok_weaker (Ok x) P Q f h = f x h
ok_weaker (Err e) P Q f h = tt
