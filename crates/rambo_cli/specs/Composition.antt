-- How the layers compose: from a run over a model, or from accepted steps, to the text that is written for it.
use Rattle.std.specs.Prelude.{◌≡◌, ◌≤◌, ◌++◌, ℕ, List}
use Rattle.rm_base.specs.declared.settings.Settings.{Settings}
use Rattle.rm_model.specs.Value.{IsRanked}
use Rattle.rm_model.specs.WellFormed.{IsWellFormed as IsModel}
use Rattle.rm_model.specs.declared.parts.Model.{Model}
use Rattle.gate_net.specs.Net.{Net, IsWellFormed, wire_count}
use Rattle.wire_edit.specs.declared.steps.Step.{Step}
use Rattle.blif_format.specs.Text.{text_of}
use Rattle.blif_reader.specs.Limits.{IsWithinLimits}
use Rattle.cover_decompose.specs.Decomposition.{net_of_model}
use Rattle.cover_decompose.specs.Count.{decomposed}
use Rattle.cover_decompose.specs.StandsFor.{StandsFor, HasPoints}
use Rattle.graph_to_model.specs.NetModel.{model_of_net}
use Rattle.graph_to_model.specs.Fits.{Fits}
use Rattle.graph_to_model.specs.Laws.{AreFew}
use Rattle.journal_text.specs.Accepted.{Keeps}
use Rattle.journal_text.specs.Text.{journal_text}
use Rattle.journal_text.specs.declared.record.Record.{Record}
use Rattle.optimisation.specs.Whole.{IsRunOver}
use Rattle.optimisation.specs.declared.optimised.Figures.{Figures}
use Rattle.step_replay.specs.Rebuilding.{IsRebuilt}
use Rattle.rambo_cli.specs.Headline.{IsOptimisedInto}
use Rattle.rambo_cli.specs.Replay.{IsReplayedInto}
use Rattle.rambo_cli.specs.Written.{most_pins}

-- what holds of the decomposition of a model
pub record IsDecomposed (m : Model) : Type 0 where
  pub formed : IsWellFormed (net_of_model m)
  pub stands : StandsFor (net_of_model m) m
  pub points : HasPoints (net_of_model m) m
  pub wires : wire_count (net_of_model m) ≡ decomposed m

-- a net that keeps what is observed of the decomposition has the sources and the observed points of the model
abbrev pub KeptNetsFit : Type 0
KeptNetsFit = (m : Model) (last : Net) → IsDecomposed m → Keeps (net_of_model m) last → Fits last m

-- the journal and the text of the last net of a run over a model are what the headline says
abbrev pub RunsAreWritten : Type 0
RunsAreWritten =
    (m : Model) (settings : Settings) (net : Net) (steps verdicts : List Record) (figures : Figures) → IsModel m → IsRanked m → IsDecomposed m → AreFew net m → IsWithinLimits m
    → decomposed m ≤ most_pins → IsRunOver m settings net steps verdicts figures
    → IsOptimisedInto m settings figures (journal_text settings.budget (steps ++ verdicts)) (text_of (model_of_net m net))

-- the text of the net to which accepted steps lead, tidied, is what is written for them
abbrev pub ReplaysAreWritten : Type 0
ReplaysAreWritten =
    (m : Model) (steps : List Step) (count : ℕ) (net : Net) → IsModel m → IsRanked m → IsDecomposed m → AreFew net m → IsWithinLimits m → decomposed m ≤ most_pins → IsRebuilt m steps count net
    → IsReplayedInto m steps count (text_of (model_of_net m net))
