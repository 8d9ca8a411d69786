-- What a closing pass has done so far.
use Rattle.std.specs.Prelude.{◌≡◌, ◌≤◌, ◌+◌, ℕ, List, Option, length}
use Rattle.gate_graph.specs.Circuit.{net_of}
use Rattle.gate_graph.specs.Holds.{HoldsOn}
use Rattle.gate_net.specs.Net.{Net}
use Rattle.journal_text.specs.Runs.{AcceptedTo, AreRemovals, HasAppended, made_by, records_text, steps_of}
use Rattle.journal_ranges.specs.Ranges.{AreFit}
use Rattle.journal_text.specs.declared.record.Record.{Record}
use Rattle.rm_base.specs.Files.{Files}
use Rattle.rm_base.specs.declared.settings.Made.{Made}
use Rattle.wire_edit.specs.Tried.{Tried}
use Rattle.wire_edit.specs.Work.{work}
use Rattle.recorded_removals.specs.Going.{IsNoLarger}
use Rattle.closing_pass.specs.Reports.{IsRemovedTo}

-- there is room for all steps that may follow, and nothing grew
pub record Went (old new : Tried) : Type 0 where
  pub no_larger : IsNoLarger (net_of old.graph) (net_of new.graph)
  pub held : HoldsOn old.graph new.graph old.trail.entries new.trail.entries
  pub room : work (net_of old.graph) ≤ old.room.steps → work (net_of new.graph) ≤ new.room.steps

-- one pin was fixed and the net tidied, and the records of that were appended and counted
pub record HasRecordedFix (net after : Net) (made made' : Made) (old new : Option Files) (journal : List ℕ) : Type 0 where
  pub records : List Record
  pub accepted : AcceptedTo net records after
  pub removals : AreRemovals (steps_of records)
  pub spent : length records + work after ≤ work net
  pub written : HasAppended old new journal (records_text records)
  pub fit : AreFit records
  pub counted : made' ≡ made_by made (steps_of records)
  pub one : made'.fixes ≡ made.fixes + 1

-- accepted removals led from the net at the beginning to the present one, recorded and counted
pub record HasGone (net after : Net) (made : Made) (old new : Option Files) (journal : List ℕ) : Type 0 where
  pub records : List Record
  pub steps : IsRemovedTo net after records made
  pub spent : length records + work after ≤ work net
  pub written : HasAppended old new journal (records_text records)
  pub fit : AreFit records
