-- A text that is read and judged so far.
use Rattle.std.proofs.Common.{◌≡◌, ◌≢◌, ℕ, ◌+◌, ◌^◌, ◌≤◌, List, [], ◌∷◌, ◌++◌, length, Some, Ok, Err, refl, ap, sym, subst, ◌∙◌, inl, inr, ◌⊎◌, arith}
use Rattle.std.proofs.lemmas.List.{append-nil, length-append}
use Rattle.rm_model.specs.declared.parts.Model.{Model}
use Rattle.gate_graph.specs.Circuit.{Circuit, net_of}
use Rattle.journal_text.specs.declared.record.Record.{Record}
use Rattle.journal_text.specs.declared.record.Entry.{Entry}
use Rattle.journal_text.specs.declared.record.Entry.TheVariants as entry
use Rattle.journal_text.specs.declared.reader.Awaited.{Awaited}
use Rattle.journal_text.specs.declared.reader.Awaited.TheVariants as awaited
use Rattle.journal_text.specs.Streams.{awaited_after, budget_with, records_of}
use Rattle.journal_reading.specs.declared.faults.JournalFault.{JournalFault}
use Rattle.journal_reading.specs.declared.faults.JournalFault.TheVariants as fault
use Rattle.journal_reading.specs.declared.faults.Version.{Version}
use Rattle.journal_reading.specs.Faults.{BeginsOpen, BeginsWhole, end_number, header_number, record_number}
use Rattle.journal_reading.specs.Laws.{CutsAgree, PlacesTell}
use Rattle.journal_reading.specs.Streams.{FinishGives, GivesNone, IsReadTo, NextGives, Pending, awaited_of, binary, empty_reader, header, lines, pushed as pushed_on}
use Rattle.journal_check.specs.declared.refusal.JournalRefusal.{JournalRefusal}
use Rattle.journal_audit.specs.Judging.{BeginsAccepted, GoesTo, IsFaultyText, IsOpen, IsRefusedText, LeadSoFar, NoneBefore}
use Rattle.journal_audit.specs.Inner.Stages.{EntryRefused, IsJudged, StageIs, TakenSays}
use Rattle.journal_audit.specs.Inner.Tallies.{IsAcceptedWith}
use Rattle.journal_audit.specs.declared.tally.Tally.{Tally}
use Rattle.journal_audit.specs.declared.stage.Stage.{Stage}
use Rattle.journal_audit.specs.declared.stage.Stage.TheVariants.{Ended, Header, Records}

-- THE BEGINNING, A PIECE MORE, AN ENTRY MORE
pub begins : CutsAgree → (m : Model) → IsJudged m [] empty_reader Header
begins cuts m = record { budget = 0; records = []; short = omega arith; read = cuts.begins; is = refl }

awaited_pushed : (p : Pending) (piece : List ℕ) → awaited_of (pushed_on p piece) ≡ awaited_of p
awaited_pushed (header bytes) piece = refl
awaited_pushed (lines q) piece = refl
awaited_pushed (binary w) piece = refl

pub pushed : CutsAgree → (m : Model) (text piece : List ℕ) (p : Pending) (stage : Stage) → length text + length piece ≤ 2 ^ 62 → IsJudged m text p stage → IsJudged m (text ++ piece) (pushed_on p piece) stage
pushed cuts m text piece p stage l j =
    let a : length (text ++ piece) ≡ length text + length piece = length-append text piece in
    record {
      budget = j.budget;
      records = j.records;
      short = omega (arith, a, l);
      read = cuts.pushes text piece j.budget j.records p j.read;
      is = subst (λ (a : Awaited). StageIs m j.budget j.records a stage) (sym (awaited_pushed p piece)) j.is;
    }

pub entered : CutsAgree → (m : Model) (text : List ℕ) (old new : Pending) (stage after : Stage) (e : Entry) → (j : IsJudged m text old stage) → NextGives old new (Ok (Some e)) → TakenSays m j.budget j.records e (Ok after) → IsJudged m text new after
entered cuts m text old new stage after e j next says = record {
  budget = budget_with j.budget e;
  records = j.records ++ records_of e;
  short = j.short;
  read = cuts.gives text j.budget j.records old new e j.read next;
  is = subst (λ (a : Awaited). StageIs m (budget_with j.budget e) (j.records ++ records_of e) a after) (sym (cuts.next old new e next).awaits) says;
}

-- A REFUSAL
pub refused_entry : CutsAgree → PlacesTell → (m : Model) (text more : List ℕ) (old new : Pending) (stage : Stage) (e : Entry) (refusal : JournalRefusal) → (j : IsJudged m text old stage) → NextGives old new (Ok (Some e)) → EntryRefused m j.budget j.records e refusal → IsRefusedText m (text ++ more) refusal
refused_entry cuts places m text more old new stage (entry.Header budget) refusal j next says = absurd says
refused_entry cuts places m text more old new stage (entry.Record r) refusal j next says =
    let read = cuts.gives text j.budget j.records old new (entry.Record r) j.read next in
    inl (record {
      budget = j.budget;
      records = j.records;
      given = r;
      begins = places.opens text more j.budget (j.records ++ r ∷ []) new read (cuts.next old new (entry.Record r) next).awaits;
      position = says.position;
      leads = says.leads;
      refuses = says.refuses;
      number = says.number;
    })
refused_entry cuts places m text more old new stage entry.End refusal j next says =
    let read = cuts.gives text j.budget j.records old new entry.End j.read next in
    let same : j.records ++ [] ≡ j.records = append-nil j.records in
    inr (record {
      budget = j.budget;
      records = j.records;
      begins = places.whole text more j.budget j.records new (subst (λ (rs : List Record). IsReadTo text j.budget rs new) same read) (cuts.next old new entry.End next).awaits;
      position = says.position;
      leads = says.leads;
      refuses = says.refuses;
      number = says.number;
    })

-- FAULTS OF THE TEXT
stage_at : (m : Model) (text : List ℕ) (p : Pending) (stage : Stage) (a : Awaited) → (j : IsJudged m text p stage) → awaited_of p ≡ a → StageIs m j.budget j.records a stage
stage_at m text p stage a j e = subst (λ (x : Awaited). StageIs m j.budget j.records x stage) e j.is

goes_to : (m : Model) (text : List ℕ) (b : ℕ) (rs : List Record) (n : ℕ) (v : Version) (stage : Stage) → BeginsOpen text b rs → StageIs m b rs awaited.Record stage → n ≡ record_number v (length rs) → (count : ℕ) × (GoesTo m text count × (n ≡ record_number v count))
goes_to m text b rs n v Header begins is e = absurd is
goes_to m text b rs n v (Ended g k) begins is e = absurd is
goes_to m text b rs n v (Records replay k) begins is e =
    (length rs, (record { budget = b; records = rs; begins = begins; position = replay.position; leads = is.0.leads; counts = refl }, e))

begins_accepted : (m : Model) (text : List ℕ) (b : ℕ) (rs : List Record) (n : ℕ) (v : Version) (stage : Stage) → BeginsWhole text b rs → StageIs m b rs awaited.Nothing stage → n ≡ end_number v (length rs) → (count : ℕ) × (BeginsAccepted m text count × (n ≡ end_number v count))
begins_accepted m text b rs n v Header begins is e = absurd is
begins_accepted m text b rs n v (Records replay k) begins is e = absurd is
begins_accepted m text b rs n v (Ended g k) begins is e =
    (length rs, (record { budget = b; records = rs; begins = begins; last = net_of g; accepted = is.0; counts = refl }, e))

none_before : PlacesTell → (m : Model) (text more : List ℕ) (old new : Pending) (stage : Stage) (f : JournalFault) → (j : IsJudged m text old stage) → NextGives old new (Err f) → f ≢ fault.NoMemory → NoneBefore m (text ++ more) f
none_before places m text more old new stage (fault.BadHeader v n) j next plain = tt
none_before places m text more old new stage (fault.BadRecord v n) j next plain =
    let at = places.no_record text j.budget j.records old new v n j.read (omega (arith, j.short)) next in
    goes_to m (text ++ more) j.budget j.records n v stage (places.opens text more j.budget j.records old j.read at.0) (stage_at m text old stage awaited.Record j at.0) at.1
none_before places m text more old new stage (fault.Truncated v n) j next plain = absurd (places.never old new v n next)
none_before places m text more old new stage (fault.AfterEnd v n) j next plain =
    let at = places.more text j.budget j.records old new v n j.read (omega (arith, j.short)) next in
    begins_accepted m (text ++ more) j.budget j.records n v stage (places.whole text more j.budget j.records old j.read at.0) (stage_at m text old stage awaited.Nothing j at.0) at.1
none_before places m text more old new stage fault.NoMemory j next plain = absurd (plain refl)

pub faulty : CutsAgree → PlacesTell → (m : Model) (text more : List ℕ) (old new : Pending) (stage : Stage) (f : JournalFault) → IsJudged m text old stage → NextGives old new (Err f) → f ≢ fault.NoMemory → IsFaultyText m (text ++ more) f
faulty cuts places m text more old new stage f j next plain = record {
  fault_is = cuts.faults text more j.budget j.records old new f j.read (omega (arith, j.short)) next plain;
  none_before = none_before places m text more old new stage f j next plain;
}

-- AT THE END OF THE TEXT
abbrev CutAt : Version → ℕ → Awaited → ℕ → Type 0
CutAt v n a count = (n ≡ header_number v) ⊎ ((a ≡ awaited.Record) × (n ≡ record_number v count))

cut_case : PlacesTell → (m : Model) (text : List ℕ) (p : Pending) (stage : Stage) (v : Version) (n : ℕ) → (j : IsJudged m text p stage) → CutAt v n (awaited_of p) (length j.records) → NoneBefore m text (fault.Truncated v n)
cut_case places m text p stage v n j (inl e) = inl e
cut_case places m text p stage v n j (inr e) =
    inr (goes_to m text j.budget j.records n v stage (subst (λ (t : List ℕ). BeginsOpen t j.budget j.records) (append-nil text) (places.opens text [] j.budget j.records p j.read e.0)) (stage_at m text p stage awaited.Record j e.0) e.1)

pub cut_off : CutsAgree → PlacesTell → (m : Model) (text : List ℕ) (p : Pending) (stage : Stage) (f : JournalFault) → IsJudged m text p stage → GivesNone p → FinishGives p f → IsFaultyText m text f
cut_off cuts places m text p stage f j none h =
    let at = places.cut text j.budget j.records p f j.read (omega (arith, j.short)) h in
    record {
      fault_is = cuts.cuts text j.budget j.records p f j.read (omega (arith, j.short)) none h;
      none_before = subst (NoneBefore m text) (sym at.1.1.0) (cut_case places m text p stage at.0 at.1.0 j at.1.1.1);
    }

ended_case : CutsAgree → (m : Model) (text : List ℕ) (p : Pending) (g : Circuit) (count : Tally) (a : Awaited) → (j : IsJudged m text p (Ended g count)) → GivesNone p → awaited_of p ≡ a → StageIs m j.budget j.records a (Ended g count) → IsAcceptedWith m text (net_of g) count
ended_case cuts m text p g count awaited.Header j none e is = absurd is
ended_case cuts m text p g count awaited.Record j none e is = absurd is
ended_case cuts m text p g count awaited.Nothing j none e is = record {
  accepted = record {
    budget = j.budget;
    records = j.records;
    journal = cuts.ends text j.budget j.records p j.read none e;
    accepted = is.0;
    counts = is.1.counts;
  };
  said = is.1.said;
}

pub ended : CutsAgree → (m : Model) (text : List ℕ) (p : Pending) (g : Circuit) (count : Tally) → IsJudged m text p (Ended g count) → GivesNone p → IsAcceptedWith m text (net_of g) count
ended cuts m text p g count j none = ended_case cuts m text p g count (awaited_of p) j none refl j.is

-- which stage it is
stage_ended : (m : Model) (b : ℕ) (rs : List Record) (stage : Stage) → StageIs m b rs awaited.Nothing stage → (g : Circuit) × ((count : Tally) × (stage ≡ Ended g count))
stage_ended m b rs Header is = absurd is
stage_ended m b rs (Records replay count) is = absurd is
stage_ended m b rs (Ended g count) is = (g, (count, refl))

pub ended_stage : (m : Model) (text : List ℕ) (p : Pending) (stage : Stage) → IsJudged m text p stage → awaited_of p ≡ awaited.Nothing → (g : Circuit) × ((count : Tally) × (stage ≡ Ended g count))
ended_stage m text p stage j e = stage_ended m j.budget j.records stage (stage_at m text p stage awaited.Nothing j e)

open_case : (m : Model) (b : ℕ) (rs : List Record) (stage : Stage) (a : Awaited) → StageIs m b rs a stage → LeadSoFar m b rs a
open_case m b rs Header awaited.Header is = is
open_case m b rs (Records replay k) awaited.Header is = absurd is
open_case m b rs (Ended g k) awaited.Header is = absurd is
open_case m b rs Header awaited.Record is = absurd is
open_case m b rs (Records replay k) awaited.Record is = (replay.position, is.0.leads)
open_case m b rs (Ended g k) awaited.Record is = absurd is
open_case m b rs Header awaited.Nothing is = absurd is
open_case m b rs (Records replay k) awaited.Nothing is = absurd is
open_case m b rs (Ended g k) awaited.Nothing is = (net_of g, is.0)

pub opened : (m : Model) (text : List ℕ) (p : Pending) (stage : Stage) → IsJudged m text p stage → GivesNone p → IsOpen m text
opened m text p stage j none = record {
  budget = j.budget;
  records = j.records;
  state = p;
  read = j.read;
  none = none;
  so_far = open_case m j.budget j.records stage (awaited_of p) j.is;
}
