-- What a contract sees of a replay.
use Rattle.std.specs.Prelude.{◌≡◌, ◌≢◌, ℕ, [], Option, Some, None, Result, Ok, Err}
use Rattle.gate_graph.specs.Circuit.{Circuit, net_of}
use Rattle.journal_text.specs.declared.record.Record.{Record}
use Rattle.journal_check.specs.declared.refusal.Why.TheVariants as why
use Rattle.journal_check.specs.declared.refusal.JournalRefusal.{JournalRefusal}
use Rattle.journal_check.specs.Replaying.{Position, settling, goes_on, refused, Leads, EndLeads, next_number}

-- where the replay stands, the number of the next record, and the refusal that every later call answers
pub record Standing : Type 0 where
  pub position : Position
  pub budget : ℕ
  pub number : ℕ
  pub refusal : Option JournalRefusal

-- all but the position stays
pub record KeepsOthers (old new : Standing) : Type 0 where
  pub budget : new.budget ≡ old.budget
  pub number : new.number ≡ old.number
  pub refusal : new.refusal ≡ old.refusal

-- a record of a replay that refused nothing: it goes on, or is refused; want of memory changes nothing
abbrev pub StepsOn : Standing → Record → Standing → Result (Unit {0}) JournalRefusal → Type 0
StepsOn old r new (Ok _) =
    Leads old.budget old.position r (goes_on new.position) × (new ≡ record old { position = new.position; number = next_number old.number })
StepsOn old r new (Err e) =
    (e.number ≡ old.number)
    × ((e.why ≡ why.NoMemory → new ≡ old) × (e.why ≢ why.NoMemory → Leads old.budget old.position r (refused e.why) × (new ≡ record old { refusal = Some e })))

-- what a step answers and leaves: after a refusal the same again
abbrev pub Steps : Option JournalRefusal → Standing → Record → Standing → Result (Unit {0}) JournalRefusal → Type 0
Steps (Some e) old r new answer = (new ≡ old) × (answer ≡ Err e)
Steps None old r new answer = StepsOn old r new answer

-- what the end answers: the last net, or a refusal
abbrev pub Finishes : Option JournalRefusal → Standing → Result Circuit JournalRefusal → Type 0
Finishes (Some e) s answer = answer ≡ Err e
Finishes None s (Ok g) = EndLeads s.position (goes_on (settling (net_of g) []))
Finishes None s (Err e) = (e.number ≡ s.number) × (e.why ≢ why.NoMemory → EndLeads s.position (refused e.why))
