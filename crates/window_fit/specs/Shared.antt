-- The windows of a model of any size: its equal covers are merged, and what is left is cut.
use Rattle.std.specs.Prelude.{ℕ, List}
use Rattle.rm_model.specs.declared.parts.Model.{Model}
use Rattle.cover_sharing.specs.Shared.{shared}
use Rattle.sewing.specs.Sewn.{sewn}
use Rattle.window_cut.specs.Windows.{window_models}

abbrev pub shared_windows : ℕ → ℕ → Model → List Model
shared_windows width shift m = window_models width shift (shared m)

-- the model with these parts in place of those windows
abbrev pub sewn_again : Model → List Model → Model
sewn_again m parts = sewn (shared m) parts
