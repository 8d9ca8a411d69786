-- What is redundant without any addition is removed.
use Rattle.std.specs.Prelude.{◌≡◌, ◌≤◌, ◌+◌, ℕ, List, Option}
use Rattle.rm_base.specs.Files.{Files}
use Rattle.rm_base.specs.declared.settings.Made.{Made}
use Rattle.gate_net.specs.Net.{Net, wire_count}
use Rattle.journal_ranges.specs.Ranges.{AreFit}
use Rattle.journal_text.specs.declared.record.Record.{Record}
use Rattle.journal_text.specs.Runs.{AcceptedTo, AreRemovals, HasAppended, made_by, none_made, records_text, steps_of}
use Rattle.rar_loop.specs.Sizes.{most_steps}
use Rattle.rar_loop.specs.Swept.{IsSwept}

-- accepted removals lead to a swept net; they are recorded with their trees, nothing else changed, and they are counted
pub record HasRemoved (net after : Net) (depth : ℕ) (made : Made) (old new : Option Files) (journal : List ℕ) : Type 0 where
  pub records : List Record
  pub accepted : AcceptedTo net records after
  pub removals : AreRemovals (steps_of records)
  pub swept : IsSwept after depth
  pub fewer : wire_count after ≤ wire_count net
  pub written : HasAppended old new journal (records_text records)
  pub fit : AreFit records
  pub counted : made ≡ made_by none_made (steps_of records)
  pub few : made.adds + made.fixes + made.local ≤ most_steps
