-- What a whole run over a model has done.
use Rattle.std.specs.Prelude.{◌≡◌, ℕ, ◌≤◌, ◌++◌, List, Option}
use Rattle.std.specs.Option.{option_map}
use Rattle.rm_base.specs.Files.{Files, put_file}
use Rattle.rm_base.specs.declared.settings.Settings.{Settings}
use Rattle.rm_model.specs.declared.parts.Model.{Model}
use Rattle.gate_net.specs.Net.{Net, gate_count, wire_count}
use Rattle.gate_net.specs.Faults.{faults_of}
use Rattle.wire_edit.specs.Order.{IsTidy}
use Rattle.cover_decompose.specs.Count.{decomposed}
use Rattle.cover_decompose.specs.Decomposition.{net_of_model}
use Rattle.journal_text.specs.Accepted.{Keeps}
use Rattle.journal_text.specs.Runs.{AcceptedTo, made_by, none_made, steps_of}
use Rattle.journal_text.specs.Text.{AreEntries, journal_entries, journal_text}
use Rattle.journal_text.specs.declared.record.Record.{Record}
use Rattle.journal_check.specs.Verdicts.{SettleAll}
use Rattle.optimisation.specs.declared.optimised.Figures.{Figures}
use Rattle.optimisation.specs.Allowed.{IsAllowed}
use Rattle.optimisation.specs.Turns.{IsTurnedRun}
use Rattle.optimisation.specs.Tests.{AreSearched, hits_among, spents_among}

-- the figures are those of the decomposition, of the last net, of the steps and of the verdicts
pub record AreFigures (m : Model) (net : Net) (steps verdicts : List Record) (f : Figures) : Type 0 where
  pub wires_before : f.wires_before ≡ decomposed m
  pub gates_before : f.gates_before ≡ gate_count (net_of_model m)
  pub wires : f.wires ≡ wire_count net
  pub gates : f.gates ≡ gate_count net
  pub made : f.made ≡ made_by none_made (steps_of steps)
  pub tested : f.tested ≡ hits_among verdicts
  pub spent : f.spent ≡ spents_among verdicts

-- accepted steps lead from the decomposition to a tidy net with no more wires, of which each fault has its verdict; the steps are
-- a run of turns with the tries that are allowed, the figures tell of all that, and the records are entries of a journal
pub record IsRunOver (m : Model) (settings : Settings) (net : Net) (steps verdicts : List Record) (f : Figures) : Type 0 where
  pub led : AcceptedTo (net_of_model m) steps net
  pub tidy : IsTidy net
  pub keeps : Keeps (net_of_model m) net
  pub fewer : wire_count net ≤ decomposed m
  pub settled : SettleAll net settings.budget (faults_of net) verdicts
  pub searched : AreSearched net settings.budget verdicts
  pub limit : ℕ
  pub allowed : IsAllowed settings limit f.work
  pub run : IsTurnedRun (net_of_model m) (steps_of steps) settings.merge settings.perturb settings.depth limit f.tries f.settled
  pub figures : AreFigures m net steps verdicts f
  pub valid : AreEntries (journal_entries settings.budget (steps ++ verdicts))

-- and the journal is the text of these records
pub record IsWhole (m : Model) (settings : Settings) (net : Net) (f : Figures) (old new : Option Files) (journal : List ℕ) : Type 0 where
  pub steps : List Record
  pub verdicts : List Record
  pub over : IsRunOver m settings net steps verdicts f
  pub written : new ≡ option_map (put_file journal (journal_text settings.budget (steps ++ verdicts))) old
