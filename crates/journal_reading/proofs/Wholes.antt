-- What a reader of the whole text answers.
use Rattle.std.proofs.Common.{◌≡◌, ◌≢◌, ℕ, List, Result, Ok, Err, IfOk, IfErr, refl}
use Rattle.journal_text.specs.declared.record.Record.{Record}
use Rattle.journal_reading.specs.Faults.{IsFault, IsJournal}
use Rattle.journal_reading.specs.Laws.{FaultsAreOne, JournalsAreOne}
use Rattle.journal_reading.specs.declared.faults.JournalFault.{JournalFault}
use Rattle.journal_reading.specs.declared.faults.JournalFault.TheVariants as fault

pub only_records : {V : Type 0} (text : List ℕ) (budget : V → ℕ) (records : V → List Record) (r : Result V JournalFault) (b : ℕ) (rs : List Record) → JournalsAreOne → IfOk r (λ p. IsJournal text (budget p) (records p)) → IfErr r (λ f. f ≢ fault.NoMemory → IsFault text f)
    → IsJournal text b rs → IfOk r (λ p. (budget p ≡ b) × (records p ≡ rs)) × IfErr r (λ f. f ≡ fault.NoMemory)
only_records text budget records (Ok p) b rs laws ok err j = (laws.one text (budget p) b (records p) rs ok j, tt)
only_records text budget records (Err (fault.BadHeader v n)) b rs laws ok err j = (tt, absurd (laws.faultless text b rs (fault.BadHeader v n) j (err (λ e. cc))))
only_records text budget records (Err (fault.BadRecord v n)) b rs laws ok err j = (tt, absurd (laws.faultless text b rs (fault.BadRecord v n) j (err (λ e. cc))))
only_records text budget records (Err (fault.Truncated v n)) b rs laws ok err j = (tt, absurd (laws.faultless text b rs (fault.Truncated v n) j (err (λ e. cc))))
only_records text budget records (Err (fault.AfterEnd v n)) b rs laws ok err j = (tt, absurd (laws.faultless text b rs (fault.AfterEnd v n) j (err (λ e. cc))))
only_records text budget records (Err fault.NoMemory) b rs laws ok err j = (tt, refl)

pub only_fault : {V : Type 0} (text : List ℕ) (budget : V → ℕ) (records : V → List Record) (r : Result V JournalFault) (f : JournalFault) → JournalsAreOne → FaultsAreOne → IfOk r (λ p. IsJournal text (budget p) (records p)) → IfErr r (λ g. g ≢ fault.NoMemory → IsFault text g)
    → IsFault text f → IfOk r (λ p. ⊥) × IfErr r (λ g. g ≢ fault.NoMemory → g ≡ f)
only_fault text budget records (Ok p) f laws one ok err is = (laws.faultless text (budget p) (records p) f ok is, tt)
only_fault text budget records (Err g) f laws one ok err is = (tt, λ some. one.one text g f (err some) is)
