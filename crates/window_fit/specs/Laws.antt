-- The windows that are cut of a model are windows that can be sewn.
use Rattle.std.specs.Prelude.{◌<◌, ◌^◌, ℕ, All, List, length}
use Rattle.rm_model.specs.Value.{IsRanked}
use Rattle.rm_model.specs.WellFormed.{IsWellFormed}
use Rattle.rm_model.specs.declared.parts.Model.{Model}
use Rattle.sewing.specs.Windows.{IsWindowed}
use Rattle.sewing.specs.Sewn.{sewn}
use Rattle.sewing.specs.Laws.{AreFew, AreParts, IsReplacement}
use Rattle.cover_sharing.specs.Shared.{shared}
use Rattle.window_cut.specs.Laws.{IsStandalone}
use Rattle.window_cut.specs.Windows.{window_models}
use Rattle.window_fit.specs.Shared.{sewn_again, shared_windows}

abbrev pub CutsCanBeSewn : Type 0
CutsCanBeSewn =
    (width shift : ℕ) (m : Model) → IsWellFormed m → IsRanked m → length (window_models width shift m) < 2 ^ 64
    → IsWindowed m (window_models width shift m)

-- what is sewn of replacements for the windows of a cut computes what the model does
abbrev pub CutsCompose : Type 0
CutsCompose =
    (width shift : ℕ) (m : Model) (parts : List Model) → IsWellFormed m → IsRanked m → length (window_models width shift m) < 2 ^ 64
    → AreParts (window_models width shift m) parts → AreFew m parts → IsReplacement m (sewn m parts)

-- the windows of a model whose equal covers are merged stand alone
abbrev pub SharedWindowsStandAlone : Type 0
SharedWindowsStandAlone = (width shift : ℕ) (m : Model) → IsWellFormed m → IsRanked m → length (shared_windows width shift m) < 2 ^ 64 → All IsStandalone (shared_windows width shift m)

-- and what is sewn of replacements for them computes what the model does
abbrev pub SharedWindowsCompose : Type 0
SharedWindowsCompose =
    (width shift : ℕ) (m : Model) (parts : List Model) → IsWellFormed m → IsRanked m → length (shared_windows width shift m) < 2 ^ 64
    → AreParts (shared_windows width shift m) parts → AreFew (shared m) parts → IsReplacement m (sewn_again m parts)
