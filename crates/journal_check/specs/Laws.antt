-- Laws of journals.
use Rattle.std.specs.Prelude.{◌≡◌, ℕ, ◌+◌, List, [], ◌∷◌, ◌++◌, None, ◌↔◌, Contains, length}
use Rattle.rm_base.specs.declared.numbers.Fault.{Fault}
use Rattle.rm_model.specs.Ranks.{first_without_rank}
use Rattle.rm_model.specs.WellFormed.{IsWellFormed}
use Rattle.rm_model.specs.declared.parts.Model.{Model}
use Rattle.gate_net.specs.Faults.{faults_of}
use Rattle.gate_net.specs.Net.{Net, IsWellFormed as IsNetWellFormed}
use Rattle.wire_edit.specs.Order.{IsTidy}
use Rattle.cover_decompose.specs.Decomposition.{net_of_model}
use Rattle.cover_decompose.specs.StandsFor.{HasPoints, StandsFor}
use Rattle.journal_text.specs.declared.record.Record.{Record}
use Rattle.journal_text.specs.Accepted.{Keeps}
use Rattle.journal_text.specs.Text.{IsWritableRecord}
use Rattle.journal_check.specs.declared.refusal.Why.{Why}
use Rattle.journal_check.specs.Accepts.{IsAccepted, IsAcceptedFrom}
use Rattle.journal_check.specs.Replaying.{EndLeads, IsLocalTree, IsRefusedAt, LeadOn, Leads, Position, Replays, editing, goes_on, refused, settling}
use Rattle.journal_check.specs.Verdicts.{Settles}

-- the last net of an accepted journal stands for the model, as its decomposition does
pub record AcceptedStand : Type 0 where
  pub stands : (m : Model) (budget : ℕ) (records : List Record) (last : Net) → IsWellFormed m → first_without_rank m ≡ None → IsAccepted m budget records last → StandsFor last m
  pub points : (m : Model) (budget : ℕ) (records : List Record) (last : Net) → IsWellFormed m → first_without_rank m ≡ None → IsAccepted m budget records last → HasPoints last m

-- records are replayed to a last net exactly where they are accepted
abbrev pub ReplaysAccept : Type 0
ReplaysAccept = (net last : Net) (budget : ℕ) (records : List Record) → Replays budget (editing net) records last ↔ IsAcceptedFrom net budget records last

-- records are replayed one after another, and each leads to one outcome
pub record RecordsReplay : Type 0 where
  pub local : (r : Record) → IsWritableRecord r → IsLocalTree r
  pub more : (budget : ℕ) (p q next : Position) (records : List Record) (r : Record) → LeadOn budget p records q → Leads budget q r (goes_on next) → LeadOn budget p (records ++ r ∷ []) next
  pub ends : (budget : ℕ) (p q : Position) (records : List Record) (last : Net) → LeadOn budget p records q → EndLeads q (goes_on (settling last [])) → Replays budget p records last
  pub refuses : (budget : ℕ) (p q : Position) (records behind : List Record) (r : Record) (w : Why) → LeadOn budget p records q → Leads budget q r (refused w) → IsRefusedAt budget p (records ++ r ∷ behind) 1 (1 + length records) w
  pub refuses_end : (budget : ℕ) (p q : Position) (records : List Record) (w : Why) → LeadOn budget p records q → EndLeads q (refused w) → IsRefusedAt budget p records 1 (1 + length records) w
  pub never : (budget : ℕ) (p : Position) (records behind : List Record) (last : Net) (r : Record) (q : Position) (w : Why) → LeadOn budget p records q → Leads budget q r (refused w) → Replays budget p (records ++ r ∷ behind) last → ⊥
  pub never_end : (budget : ℕ) (p : Position) (records : List Record) (last : Net) (q : Position) (w : Why) → LeadOn budget p records q → EndLeads q (refused w) → Replays budget p records last → ⊥
  pub one : (budget : ℕ) (p : Position) (records : List Record) (last other : Net) → Replays budget p records last → Replays budget p records other → last ≡ other

-- what an accepted journal says of its last net
pub record AcceptedTell (m : Model) (budget : ℕ) (records : List Record) (last : Net) : Type 0 where
  pub form : IsNetWellFormed last
  pub keeps : Keeps (net_of_model m) last
  pub tidy : IsTidy last
  pub settled : (f : Fault) → Contains (faults_of last) f → (r : Record) × (Contains records r × Settles last budget f r)

-- the last net of an accepted journal is well formed, keeps sources, observed places and their values, is tidy, and each of its
-- faults has its verdict in the journal
abbrev pub AcceptedJournalsTell : Type 0
AcceptedJournalsTell = (m : Model) (budget : ℕ) (records : List Record) (last : Net) → IsAccepted m budget records last → AcceptedTell m budget records last
