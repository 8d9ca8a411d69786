-- What a model has that was read, and what a whole run over it leaves.
use Rattle.std.specs.Prelude.{◌≡◌, ◌^◌, ◌<◌, ◌≤◌, ◌++◌, ℕ, List, Option, length, None, Some}
use Rattle.std.specs.Option.{option_map}
use Rattle.rm_base.specs.Files.{Files}
use Rattle.rm_base.specs.declared.settings.Settings.{Settings}
use Rattle.rm_base.specs.Words.{Word}
use Rattle.gate_net.specs.Net.{Net}
use Rattle.journal_text.specs.Text.{journal_text}
use Rattle.journal_text.specs.declared.record.Record.{Record}
use Rattle.optimisation.specs.Begun.{HasBegun}
use Rattle.optimisation.specs.Whole.{IsRunOver}
use Rattle.optimisation.specs.declared.optimised.Figures.{Figures}
use Rattle.rambo_cli.specs.Opt.{with_journal}
use Rattle.rm_model.specs.Ranks.{first_without_rank}
use Rattle.rm_model.specs.Value.{IsRanked, observed_names, source_names}
use Rattle.rm_model.specs.WellFormed.{IsWellFormed}
use Rattle.rm_model.specs.declared.parts.Model.{Model}
use Rattle.blif_reader.specs.Limits.{IsWithinLimits}
use Rattle.cover_decompose.specs.Count.{decomposed}

-- what a model that was read has, so that it can be decomposed
pub record IsUsable (m : Model) : Type 0 where
  pub formed : IsWellFormed m
  pub ranked : IsRanked m
  pub ranks : first_without_rank m ≡ None
  pub covers : length m.covers < 2 ^ 32
  pub sources : length (source_names m) ≤ 1024
  pub observed : length (observed_names m) ≤ 4096
  pub limits : IsWithinLimits m
  pub fits : decomposed m < 2 ^ 64

-- a whole run over the model, whose journal stands in the named file
pub record IsRecorded (m : Model) (settings : Settings) (net : Net) (f : Figures) (old new : Option Files) (journal : Option Word) : Type 0 where
  pub steps : List Record
  pub verdicts : List Record
  pub over : IsRunOver m settings net steps verdicts f
  pub written : new ≡ option_map (with_journal journal (journal_text settings.budget (steps ++ verdicts))) old

-- or what one leaves that ended early
abbrev pub BeginsRecord : Model → ℕ → Option Word → Option Files → Option Files → Type 0
BeginsRecord m budget None old new = new ≡ old
BeginsRecord m budget (Some journal) old new = HasBegun m budget journal old new
