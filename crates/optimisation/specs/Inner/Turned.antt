-- What the turns of a run have done so far.
use Rattle.std.specs.Prelude.{◌≡◌, ◌≤◌, ◌+◌, ◌-◌, ℕ, Bool, List, Option, true, false}
use Rattle.rm_base.specs.Files.{Files}
use Rattle.rm_base.specs.declared.settings.Made.{Made}
use Rattle.rm_base.specs.declared.settings.Settings.{Settings}
use Rattle.gate_net.specs.Net.{Net, wire_count}
use Rattle.gate_graph.specs.Circuit.{Circuit, live_nodes, net_of, pins_taken}
use Rattle.wire_edit.specs.Order.{IsTidy}
use Rattle.journal_text.specs.Runs.{AcceptedTo, HasAppended, made_by, none_made, records_text, steps_of}
use Rattle.journal_ranges.specs.Ranges.{AreFit}
use Rattle.journal_text.specs.declared.record.Record.{Record}
use Rattle.closing_pass.specs.Reports.{AreClosed}
use Rattle.rar_loop.specs.Perturbed.{HasPerturbed}
use Rattle.optimisation.specs.Inner.Ended.{HasEnded}
use Rattle.optimisation.specs.Inner.Ran.{sum_of}
use Rattle.optimisation.specs.Inner.Staged.{left_of}
use Rattle.optimisation.specs.Turns.{IsTurnedRun}
use Rattle.optimisation.specs.declared.rounds.Rounds.{Rounds}

-- accepted records lead from the first net to that of the last round; they are a run of turns, and their steps are counted
pub record AreTurns (start : Net) (settings : Settings) (perturb : ℕ) (records : List Record) (rounds : Rounds) : Type 0 where
  pub accepted : AcceptedTo start records (net_of rounds.last.graph)
  pub run : IsTurnedRun start (steps_of records) settings.merge perturb settings.depth rounds.last.limit rounds.last.tries rounds.last.settled
  pub tidy : IsTidy (net_of rounds.last.graph)
  pub fewer : wire_count (net_of rounds.last.graph) ≤ wire_count start
  pub within : pins_taken rounds.last.graph + live_nodes rounds.last.graph ≤ 1048576
  pub counted : rounds.last.made ≡ made_by none_made (steps_of records)

-- their text was appended to the journal, and each fault of the last net has its verdict
pub record HasTurns (start : Net) (settings : Settings) (perturb : ℕ) (rounds : Rounds) (old new : Option Files) (journal : List ℕ) : Type 0 where
  pub records : List Record
  pub run : AreTurns start settings perturb records rounds
  pub written : HasAppended old new journal (records_text records)
  pub fit : AreFit records
  pub closed : AreClosed (net_of rounds.last.graph) settings.budget rounds.report.verdicts.items

-- a turn in which nothing was exchanged, so that all but the number of tries is as it was
pub record HasTurnedInVain (settings : Settings) (before after : Rounds) (old new : Option Files) (journal : List ℕ) : Type 0 where
  pub spent : ℕ
  pub made : Made
  pub perturbed : HasPerturbed (net_of before.last.graph) (net_of after.last.graph) settings.depth (before.last.limit - before.last.tries) spent made old new journal
  pub none : made.adds + made.fixes + made.local ≡ 0
  pub within : pins_taken after.last.graph + live_nodes after.last.graph ≤ 1048576
  pub made_are : after.last.made ≡ before.last.made
  pub tries : after.last.tries ≡ before.last.tries + spent
  pub limit : after.last.limit ≡ before.last.limit
  pub settled : after.last.settled ≡ before.last.settled
  pub report : after.report ≡ before.report

-- rounds behind a net, with the tries that are left of those that are allowed, are counted on from these steps and tries
pub record HaveFollowed (settings : Settings) (mid : Circuit) (made : Made) (tries limit : ℕ) (after : Rounds) (old new : Option Files) (journal : List ℕ) : Type 0 where
  pub rounds : Rounds
  pub ended : HasEnded (net_of mid) (left_of settings limit tries) rounds old new journal
  pub within : rounds.last.limit ≤ limit - tries
  pub graph : after.last.graph ≡ rounds.last.graph
  pub made_are : after.last.made ≡ sum_of made rounds.last.made
  pub tries_are : after.last.tries ≡ tries + rounds.last.tries
  pub limit_is : after.last.limit ≡ tries + rounds.last.limit
  pub settled : after.last.settled ≡ rounds.last.settled
  pub report : after.report ≡ rounds.report

-- a turn, and rounds behind it
pub record HasTurnedOn (settings : Settings) (before after : Rounds) (old new : Option Files) (journal : List ℕ) : Type 0 where
  pub mid : Circuit
  pub spent : ℕ
  pub made : Made
  pub one : Option Files
  pub perturbed : HasPerturbed (net_of before.last.graph) (net_of mid) settings.depth (before.last.limit - before.last.tries) spent made old one journal
  pub followed : HaveFollowed settings mid (sum_of before.last.made made) (before.last.tries + spent) before.last.limit after one new journal

-- the one where nothing was exchanged, and else the other
abbrev pub HasTurned : Settings → Rounds → Rounds → Bool → Option Files → Option Files → List ℕ → Type 0
HasTurned settings before after false old new journal = HasTurnedInVain settings before after old new journal
HasTurned settings before after true old new journal = HasTurnedOn settings before after old new journal
