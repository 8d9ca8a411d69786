-- What the stages of a run have done so far.
use Rattle.std.specs.Prelude.{◌≡◌, ◌≤◌, ◌+◌, ◌-◌, ◌⊎◌, ℕ, Bool, List, [], Option, false}
use Rattle.rm_base.specs.Files.{Files}
use Rattle.rm_base.specs.declared.settings.Made.{Made}
use Rattle.rm_base.specs.declared.settings.Settings.{Settings}
use Rattle.gate_net.specs.Net.{Net, wire_count}
use Rattle.gate_graph.specs.Circuit.{Circuit, live_nodes, net_of, pins_taken}
use Rattle.wire_edit.specs.Order.{IsTidy}
use Rattle.journal_text.specs.Runs.{AcceptedTo, HasAppended, made_by, none_made, records_text, steps_of}
use Rattle.journal_ranges.specs.Ranges.{AreFit}
use Rattle.journal_text.specs.declared.record.Record.{Record}
use Rattle.closing_pass.specs.Reports.{AreClosed}
use Rattle.optimisation.specs.Inner.Ended.{HasEnded}
use Rattle.optimisation.specs.Inner.Ran.{sum_of}
use Rattle.optimisation.specs.Stages.{IsStagedRun}
use Rattle.optimisation.specs.declared.rounds.Rounds.{Rounds}

-- so many steps of each kind
pub record AreUpTo (most : ℕ) (made : Made) : Type 0 where
  pub adds : made.adds ≤ most
  pub fixes : made.fixes ≤ most
  pub local : made.local ≤ most

-- accepted steps lead from the one net to the other, which has no more wires; they are recorded with their trees and counted, and
-- where nothing changed there are none
pub record HasMerged (net after : Net) (made : Made) (changed : Bool) (old new : Option Files) (journal : List ℕ) : Type 0 where
  pub records : List Record
  pub accepted : AcceptedTo net records after
  pub fewer : wire_count after ≤ wire_count net
  pub written : HasAppended old new journal (records_text records)
  pub fit : AreFit records
  pub counted : made ≡ made_by none_made (steps_of records)
  pub few : AreUpTo 70368744177664 made
  pub none : changed ≡ false → records ≡ []

-- accepted records lead from the first net to that of the last round; they are a run of stages, and their steps are counted
pub record AreStages (start : Net) (settings : Settings) (records : List Record) (rounds : Rounds) : Type 0 where
  pub accepted : AcceptedTo start records (net_of rounds.last.graph)
  pub run : IsStagedRun start (steps_of records) settings.merge settings.depth rounds.last.limit rounds.last.tries rounds.last.settled
  pub tidy : IsTidy (net_of rounds.last.graph)
  pub fewer : wire_count (net_of rounds.last.graph) ≤ wire_count start
  pub within : pins_taken rounds.last.graph + live_nodes rounds.last.graph ≤ 1048576
  pub counted : rounds.last.made ≡ made_by none_made (steps_of records)

-- their text was appended to the journal, and each fault of the last net has its verdict
pub record HasStages (start : Net) (settings : Settings) (rounds : Rounds) (old new : Option Files) (journal : List ℕ) : Type 0 where
  pub records : List Record
  pub run : AreStages start settings records rounds
  pub written : HasAppended old new journal (records_text records)
  pub fit : AreFit records
  pub closed : AreClosed (net_of rounds.last.graph) settings.budget rounds.report.verdicts.items

-- the settings with the tries that are left, of so many that are allowed
abbrev pub left_of : Settings → ℕ → ℕ → Settings
left_of settings limit tries = record settings { tries = limit - tries }

-- no gate was merged, and all is as it was
pub record AreSame (before after : Rounds) (old new : Option Files) (journal : List ℕ) : Type 0 where
  pub net : net_of after.last.graph ≡ net_of before.last.graph
  pub within : pins_taken after.last.graph + live_nodes after.last.graph ≤ 1048576
  pub made : after.last.made ≡ before.last.made
  pub tries : after.last.tries ≡ before.last.tries
  pub limit : after.last.limit ≡ before.last.limit
  pub settled : after.last.settled ≡ before.last.settled
  pub report : after.report ≡ before.report
  pub written : HasAppended old new journal []

-- some were, and rounds followed with the tries that were left
pub record HaveFollowed (settings : Settings) (before after : Rounds) (old new : Option Files) (journal : List ℕ) : Type 0 where
  pub mid : Circuit
  pub made : Made
  pub changed : Bool
  pub one : Option Files
  pub merged : HasMerged (net_of before.last.graph) (net_of mid) made changed old one journal
  pub rounds : Rounds
  pub ended : HasEnded (net_of mid) (left_of settings before.last.limit before.last.tries) rounds one new journal
  pub within : rounds.last.limit ≤ before.last.limit - before.last.tries
  pub graph : after.last.graph ≡ rounds.last.graph
  pub made_are : after.last.made ≡ sum_of (sum_of before.last.made made) rounds.last.made
  pub tries : after.last.tries ≡ before.last.tries + rounds.last.tries
  pub limit : after.last.limit ≡ before.last.tries + rounds.last.limit
  pub settled : after.last.settled ≡ rounds.last.settled
  pub report : after.report ≡ rounds.report

abbrev pub HasGoneFurther : Settings → Rounds → Rounds → Option Files → Option Files → List ℕ → Type 0
HasGoneFurther settings before after old new journal = AreSame before after old new journal ⊎ HaveFollowed settings before after old new journal
