-- A text whose steps are taken so far.
use Rattle.std.proofs.Common.{◌≡◌, ◌≢◌, ◌⊎◌, ℕ, ◌+◌, ◌^◌, ◌≤◌, true, List, [], ◌∷◌, ◌++◌, length, Option, None, Some, IfOk, IfSome, IsSome, Result, Ok, Err, refl, ap, sym, subst, ◌∙◌, inl, inr, arith}
use Rattle.std.proofs.lemmas.List.{append-nil, length-append}
use Rattle.rm_model.specs.declared.parts.Model.{Model}
use Rattle.wire_edit.specs.declared.steps.Step.{Step}
use Rattle.cover_decompose.specs.Decomposition.{net_of_model}
use Rattle.journal_text.specs.Streams.{awaited_after, budget_with, comes, records_of}
use Rattle.journal_text.specs.declared.record.Record.{Record}
use Rattle.journal_text.specs.declared.record.Entry.{Entry}
use Rattle.journal_text.specs.declared.record.Entry.TheVariants as entry
use Rattle.journal_text.specs.declared.reader.Awaited.{Awaited}
use Rattle.journal_text.specs.declared.reader.Awaited.TheVariants as awaited
use Rattle.journal_reading.specs.Faults.{BeginsOpen, header_number, record_number}
use Rattle.journal_reading.specs.Laws.{CutsAgree, PlacesTell}
use Rattle.journal_reading.specs.Streams.{FinishGives, Gathers, GivesAll, GivesNone, IsReadTo, NextGives, Pending, awaited_of, binary, empty_reader, header, lines, pushed as pushed_on}
use Rattle.journal_reading.specs.declared.faults.JournalFault.{JournalFault}
use Rattle.journal_reading.specs.declared.faults.JournalFault.TheVariants as fault
use Rattle.journal_reading.specs.declared.faults.Version.{Version}
use Rattle.journal_check.specs.Replaying.{editing}
use Rattle.journal_audit.specs.Judging.{GoesTo, NoneBefore}
use Rattle.accepted_steps.specs.Taken.{AreLed, EndsBy, StandsBehind}
use Rattle.accepted_steps.specs.Inner.Stops.{stop_of}
use Rattle.accepted_steps.specs.Inner.Taking.{EndsAt, EndsSo, EntrySays, IsTaking, MayTake, TakenAt, TakesOne}
use Rattle.accepted_steps.specs.declared.stop.Ended.{Ended}
use Rattle.accepted_steps.specs.declared.stop.Ended.TheVariants.{AtFault, AtRefusal, AtVerdict}
use Rattle.accepted_steps.specs.declared.stop.Stop.TheVariants.{Text}
use Rattle.accepted_steps.specs.declared.taking.Taking.{Taking}
use Rattle.accepted_steps.proofs.Leading.{led_in, led_none}
use Rattle.accepted_steps.proofs.Placing.{behind_header, no_header}

-- THE BEGINNING, A PIECE MORE, AN ENTRY MORE
pub begins : CutsAgree → (m : Model) (t : Taking) → TakenAt m 0 [] awaited.Header t → IsTaking m [] empty_reader t
begins cuts m t h = record { budget = 0; records = []; short = omega arith; read = cuts.begins; is = h }

awaited_pushed : (p : Pending) (piece : List ℕ) → awaited_of (pushed_on p piece) ≡ awaited_of p
awaited_pushed (header bytes) piece = refl
awaited_pushed (lines q) piece = refl
awaited_pushed (binary w) piece = refl

pub pushed : CutsAgree → (m : Model) (text piece : List ℕ) (p q : Pending) (t : Taking) → length text + length piece ≤ 2 ^ 62 → q ≡ pushed_on p piece → IsTaking m text p t → IsTaking m (text ++ piece) q t
pushed cuts m text piece p q t l e j =
    let a : length (text ++ piece) ≡ length text + length piece = length-append text piece in
    subst (λ (x : Pending). IsTaking m (text ++ piece) x t) (sym e)
    (record {
      budget = j.budget;
      records = j.records;
      short = omega (arith, a, l);
      read = cuts.pushes text piece j.budget j.records p j.read;
      is = subst (λ (a : Awaited). TakenAt m j.budget j.records a t) (sym (awaited_pushed p piece)) j.is;
    })

few : PlacesTell → (m : Model) (text : List ℕ) (p : Pending) (t : Taking) → (j : IsTaking m text p t) → length j.records ≤ 2 ^ 62
few places m text p t j =
    let l : length j.records ≤ length text = places.few text j.budget j.records p j.read in
    omega (arith, l, j.short)

pub may_take : CutsAgree → PlacesTell → (m : Model) (text : List ℕ) (old new : Pending) (t : Taking) (e : Entry) → IsTaking m text old t → NextGives old new (Ok (Some e)) → MayTake m t e
may_take cuts places m text old new t e j next = (j.budget, (j.records, (awaited_of old, (j.is, ((cuts.next old new e next).comes_there, few places m text old t j)))))

pub says_of : CutsAgree → PlacesTell → (m : Model) (text : List ℕ) (old new : Pending) (t after : Taking) (e : Entry) (o : Option Ended) → (j : IsTaking m text old t) → NextGives old new (Ok (Some e)) → TakesOne m t e after o → EntrySays m j.budget j.records e after o
says_of cuts places m text old new t after e o j next says = says j.budget j.records (awaited_of old) j.is (cuts.next old new e next).comes_there (few places m text old t j)

pub entered : CutsAgree → (m : Model) (text : List ℕ) (old new : Pending) (t after : Taking) (e : Entry) → (j : IsTaking m text old t) → NextGives old new (Ok (Some e)) → EntrySays m j.budget j.records e after None → IsTaking m text new after
entered cuts m text old new t after e j next says = record {
  budget = budget_with j.budget e;
  records = j.records ++ records_of e;
  short = j.short;
  read = cuts.gives text j.budget j.records old new e j.read next;
  is = subst (λ (a : Awaited). TakenAt m (budget_with j.budget e) (j.records ++ records_of e) a after) (sym (cuts.next old new e next).awaits) says;
}

-- AN ENTRY THAT ENDS THE STEPS
abbrev EndsNow : Model → List ℕ → List Step → Ended → Type 0
EndsNow m text steps ended = (budget : ℕ) × ((records : List Record) × (AreLed m budget records steps × EndsBy m text budget records (stop_of ended)))

pub entry_ends : CutsAgree → PlacesTell → (m : Model) (text more : List ℕ) (old new : Pending) (t : Taking) (e : Entry) (ended : Ended) (steps : List Step) → (j : IsTaking m text old t) → NextGives old new (Ok (Some e)) → EndsAt m j.budget j.records e ended steps → EndsNow m (text ++ more) steps ended
entry_ends cuts places m text more old new t (entry.Header b) ended steps j next says = absurd says
entry_ends cuts places m text more old new t (entry.Record r) AtVerdict steps j next says =
    let read = cuts.gives text j.budget j.records old new (entry.Record r) j.read next in
    (j.budget, (j.records, (says.1, inl (r, (says.0, places.opens text more j.budget (j.records ++ r ∷ []) new read (cuts.next old new (entry.Record r) next).awaits)))))
entry_ends cuts places m text more old new t (entry.Record r) (AtRefusal refusal) steps j next says =
    let read = cuts.gives text j.budget j.records old new (entry.Record r) j.read next in (
      j.budget,
      (
        j.records,
        (
          says.led,
          (
            inl (record {
              budget = j.budget;
              records = j.records;
              given = r;
              begins = places.opens text more j.budget (j.records ++ r ∷ []) new read (cuts.next old new (entry.Record r) next).awaits;
              position = editing says.led.last;
              leads = says.led.leads;
              refuses = says.refuses;
              number = says.number;
            }),
            says.number,
          ),
        ),
      ),
    )
entry_ends cuts places m text more old new t (entry.Record r) (AtFault f) steps j next says = absurd says
entry_ends cuts places m text more old new t entry.End AtVerdict steps j next says =
    let read = cuts.gives text j.budget j.records old new entry.End j.read next in
    let same : j.records ++ [] ≡ j.records = append-nil j.records in
    (j.budget, (j.records, (says, inr (places.whole text more j.budget j.records new (subst (λ (rs : List Record). IsReadTo text j.budget rs new) same read) (cuts.next old new entry.End next).awaits))))
entry_ends cuts places m text more old new t entry.End (AtRefusal refusal) steps j next says = absurd says
entry_ends cuts places m text more old new t entry.End (AtFault f) steps j next says = absurd says

-- THE RECORDS SO FAR
led_header : (m : Model) (b : ℕ) (rs : List Record) (steps : List Step) → rs ≡ [] → steps ≡ [] → AreLed m b rs steps
led_header m b rs steps e f = subst (λ (ss : List Step). AreLed m b rs ss) (sym f) (subst (λ (xs : List Record). AreLed m b xs []) (sym e) (led_none m b))

led_at : (m : Model) (b : ℕ) (rs : List Record) (a : Awaited) (t : Taking) → TakenAt m b rs a t → AreLed m b rs t.steps.items
led_at m b rs awaited.Header t is = led_header m b rs t.steps.items is.0 is.1.1
led_at m b rs awaited.Record t is = led_in m b rs t.steps.items t.replay is
led_at m b rs awaited.Nothing t is = absurd is

taken_at : (m : Model) (text : List ℕ) (p : Pending) (t : Taking) (a : Awaited) → (j : IsTaking m text p t) → awaited_of p ≡ a → TakenAt m j.budget j.records a t
taken_at m text p t a j e = subst (λ (x : Awaited). TakenAt m j.budget j.records x t) e j.is

pub not_whole : (m : Model) (text : List ℕ) (p : Pending) (t : Taking) → IsTaking m text p t → awaited_of p ≡ awaited.Nothing → ⊥
not_whole m text p t j e = taken_at m text p t awaited.Nothing j e

goes_to : (m : Model) (text : List ℕ) (b : ℕ) (rs : List Record) (n : ℕ) (v : Version) (steps : List Step) → BeginsOpen text b rs → AreLed m b rs steps → n ≡ record_number v (length rs) → (count : ℕ) × (GoesTo m text count × (n ≡ record_number v count))
goes_to m text b rs n v steps begins led e = (length rs, (record { budget = b; records = rs; begins = begins; position = editing led.last; leads = led.leads; counts = refl }, e))

-- A FAULT OF THE TEXT
none_before : PlacesTell → (m : Model) (text more : List ℕ) (p q : Pending) (t : Taking) (f : JournalFault) → (j : IsTaking m text p t) → NextGives p q (Err f) → f ≢ fault.NoMemory → NoneBefore m (text ++ more) f
none_before places m text more p q t (fault.BadHeader v n) j next plain = tt
none_before places m text more p q t (fault.BadRecord v n) j next plain =
    let at = places.no_record text j.budget j.records p q v n j.read (omega (arith, j.short)) next in
    goes_to m (text ++ more) j.budget j.records n v t.steps.items (places.opens text more j.budget j.records p j.read at.0) (led_at m j.budget j.records (awaited_of p) t j.is) at.1
none_before places m text more p q t (fault.Truncated v n) j next plain = absurd (places.never p q v n next)
none_before places m text more p q t (fault.AfterEnd v n) j next plain =
    let at = places.more text j.budget j.records p q v n j.read (omega (arith, j.short)) next in
    absurd (not_whole m text p t j at.0)
none_before places m text more p q t fault.NoMemory j next plain = absurd (plain refl)

stands_behind : PlacesTell → (m : Model) (text : List ℕ) (p q : Pending) (t : Taking) (f : JournalFault) → (j : IsTaking m text p t) → NextGives p q (Err f) → f ≢ fault.NoMemory → StandsBehind f (length j.records)
stands_behind places m text p q t (fault.BadHeader v n) j next plain = ap (λ (rs : List Record). length rs) (no_header text j.budget j.records p q v n j.read next)
stands_behind places m text p q t (fault.BadRecord v n) j next plain = (places.no_record text j.budget j.records p q v n j.read (omega (arith, j.short)) next).1
stands_behind places m text p q t (fault.Truncated v n) j next plain = absurd (places.never p q v n next)
stands_behind places m text p q t (fault.AfterEnd v n) j next plain =
    let at = places.more text j.budget j.records p q v n j.read (omega (arith, j.short)) next in
    absurd (not_whole m text p t j at.0)
stands_behind places m text p q t fault.NoMemory j next plain = absurd (plain refl)

fault_ends : CutsAgree → PlacesTell → (m : Model) (text more : List ℕ) (p q : Pending) (t : Taking) (f : JournalFault) → IsTaking m text p t → NextGives p q (Err f) → f ≢ fault.NoMemory → EndsNow m (text ++ more) t.steps.items (AtFault f)
fault_ends cuts places m text more p q t f j next plain = (
  j.budget,
  (
    j.records,
    (
      led_at m j.budget j.records (awaited_of p) t j.is,
      (
        record {
          fault_is = cuts.faults text more j.budget j.records p q f j.read (omega (arith, j.short)) next plain;
          none_before = none_before places m text more p q t f j next plain;
        },
        stands_behind places m text p q t f j next plain,
      ),
    ),
  ),
)

pub fault_so : CutsAgree → PlacesTell → (m : Model) (text : List ℕ) (p q : Pending) (t : Taking) (f : JournalFault) → IsTaking m text p t → NextGives p q (Err f) → f ≢ fault.NoMemory → EndsSo m text t.steps.items (AtFault f)
fault_so cuts places m text p q t f j next plain = λ more. fault_ends cuts places m text more p q t f j next plain

-- AT THE END OF THE TEXT
abbrev CutAt : Version → ℕ → Awaited → ℕ → Type 0
CutAt v n a count = (n ≡ header_number v) ⊎ ((a ≡ awaited.Record) × (n ≡ record_number v count))

cut_before : PlacesTell → (m : Model) (text : List ℕ) (p : Pending) (t : Taking) (v : Version) (n : ℕ) → (j : IsTaking m text p t) → CutAt v n (awaited_of p) (length j.records) → NoneBefore m text (fault.Truncated v n)
cut_before places m text p t v n j (inl e) = inl e
cut_before places m text p t v n j (inr e) =
    inr (goes_to m text j.budget j.records n v t.steps.items (subst (λ (x : List ℕ). BeginsOpen x j.budget j.records) (append-nil text) (places.opens text [] j.budget j.records p j.read e.0)) (led_at m j.budget j.records (awaited_of p) t j.is) e.1)

header_case : (m : Model) (text : List ℕ) (p : Pending) (t : Taking) (v : Version) (n : ℕ) (a : Awaited) → (j : IsTaking m text p t) → FinishGives p (fault.Truncated v n) → n ≡ header_number v → awaited_of p ≡ a → StandsBehind (fault.Truncated v n) (length j.records)
header_case m text p t v n awaited.Header j g e h = inl (e, ap (λ (rs : List Record). length rs) (taken_at m text p t awaited.Header j h).0)
header_case m text p t v n awaited.Record j g e h = absurd (behind_header text j.budget j.records p n v j.read h g e)
header_case m text p t v n awaited.Nothing j g e h = absurd (not_whole m text p t j h)

cut_behind : (m : Model) (text : List ℕ) (p : Pending) (t : Taking) (v : Version) (n : ℕ) → (j : IsTaking m text p t) → FinishGives p (fault.Truncated v n) → CutAt v n (awaited_of p) (length j.records) → StandsBehind (fault.Truncated v n) (length j.records)
cut_behind m text p t v n j g (inl e) = header_case m text p t v n (awaited_of p) j g e refl
cut_behind m text p t v n j g (inr e) = inr e.1

pub cut_off : CutsAgree → PlacesTell → (m : Model) (text : List ℕ) (p : Pending) (t : Taking) (f : JournalFault) → IsTaking m text p t → GivesNone p → FinishGives p f → (budget : ℕ) × ((records : List Record) × (AreLed m budget records t.steps.items × EndsBy m text budget records (Some (Text f))))
cut_off cuts places m text p t f j none h =
    let at = places.cut text j.budget j.records p f j.read (omega (arith, j.short)) h in (
      j.budget,
      (
        j.records,
        (
          led_at m j.budget j.records (awaited_of p) t j.is,
          (
            record {
              fault_is = cuts.cuts text j.budget j.records p f j.read (omega (arith, j.short)) none h;
              none_before = subst (NoneBefore m text) (sym at.1.1.0) (cut_before places m text p t at.0 at.1.0 j at.1.1.1);
            },
            subst (λ (x : JournalFault). StandsBehind x (length j.records)) (sym at.1.1.0)
                (cut_behind m text p t at.0 at.1.0 j (subst (FinishGives p) at.1.1.0 h) at.1.1.1),
          ),
        ),
      ),
    )
