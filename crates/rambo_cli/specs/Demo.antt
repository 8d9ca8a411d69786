-- The command `demo SEED`.
use Rattle.std.specs.Prelude.{◌≡◌, ℕ, List, Option, false}
use Rattle.rm_base.specs.Files.{Files}
use Rattle.rm_base.specs.declared.settings.Settings.{Settings}
use Rattle.gate_net.specs.Net.{Net}
use Rattle.demo_generator.specs.Generator.{model_of_seed}
use Rattle.journal_text.specs.declared.record.Record.{Record}
use Rattle.optimisation.specs.Whole.{IsRunOver}
use Rattle.optimisation.specs.declared.optimised.Figures.{Figures}
use Rattle.rambo_cli.specs.Contract.{Contract}
use Rattle.rambo_cli.specs.declared.work.Done.{Done}
use Rattle.rambo_cli.specs.declared.work.Done.TheVariants.{Optimised}

-- the figures are those of a run over the model of the seed
pub record HasShown (seed : ℕ) (settings : Settings) (figures : Figures) : Type 0 where
  pub net : Net
  pub steps : List Record
  pub verdicts : List Record
  pub over : IsRunOver (model_of_seed seed) settings net steps verdicts figures

abbrev pub DemoDoes : ℕ → Settings → Option Files → Option Files → Done → Type 0
DemoDoes seed settings old new (Optimised figures) = HasShown seed settings figures
DemoDoes seed settings old new _ = ⊥

abbrev pub demo_contract : ℕ → Settings → Contract
demo_contract seed settings = record {
  Does = DemoDoes seed settings;
  Finds = λ files problem. ⊥;
  Leaves = λ old new. new ≡ old;
  needs_files = false;
  IsGood = λ files. Unit {0};
  IsJudged = λ files. ⊥;
  IsCompared = λ files. ⊥;
}
