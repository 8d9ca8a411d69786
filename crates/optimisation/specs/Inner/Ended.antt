-- How the rounds of a run end.
use Rattle.std.specs.Prelude.{ℕ, List, Option}
use Rattle.rm_base.specs.Files.{Files}
use Rattle.rm_base.specs.declared.settings.Settings.{Settings}
use Rattle.gate_net.specs.Net.{Net}
use Rattle.gate_graph.specs.Circuit.{net_of}
use Rattle.closing_pass.specs.Reports.{AreClosed}
use Rattle.optimisation.specs.Inner.Ran.{HasRecorded}
use Rattle.optimisation.specs.declared.rounds.Rounds.{Rounds}

-- the last round is recorded, and each fault of its net has its verdict
pub record HasEnded (start : Net) (settings : Settings) (rounds : Rounds) (old new : Option Files) (journal : List ℕ) : Type 0 where
  pub recorded : HasRecorded start settings rounds.last old new journal
  pub closed : AreClosed (net_of rounds.last.graph) settings.budget rounds.report.verdicts.items
