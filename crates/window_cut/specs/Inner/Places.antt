-- Windows by the places of their covers, and how far a cut is.
use Rattle.std.specs.Prelude.{◌≡◌, ◌<◌, ◌^◌, ◌++◌, ℕ, List, length, map, Vec}
use Rattle.std.proofs.Common.{Global}
use Rattle.rm_model.specs.declared.parts.Cover.{Cover}
use Rattle.window_cut.specs.Cut.{weight, windows_from}
use Rattle.window_cut.specs.Inner.Weights.{capped}
use Rattle.window_cut.specs.Order.{covers_at}
use Rattle.window_cut.specs.declared.cutting.Cutting.{Cutting}

-- the windows of covers at these places
abbrev pub windows_at : List Cover → List (Vec ℕ Global) → List (List Cover)
windows_at cs ws = map (λ (w : Vec ℕ Global). covers_at cs w.items) ws

-- the windows that come of a cut with the covers that are left
abbrev pub windows_with : List Cover → ℕ → Cutting → List Cover → List (List Cover)
windows_with cs width s rest = windows_at cs s.windows.items ++ windows_from s.least width (covers_at cs s.begun.items) rest

-- the window that is begun has places of covers, and the weight of these
pub record IsWeighed (cs : List Cover) (s : Cutting) : Type 0 where
  pub placed : length (covers_at cs s.begun.items) ≡ length s.begun.items
  pub weighs : s.weight ≡ capped (weight (covers_at cs s.begun.items))
  pub small : s.least < 2 ^ 32

-- the cut is taken on by some covers
pub record TakesOn (cs : List Cover) (width : ℕ) (s : Cutting) (some : List Cover) (t : Cutting) : Type 0 where
  pub weighed : IsWeighed cs t
  pub same : (rest : List Cover) → windows_with cs width t rest ≡ windows_with cs width s (some ++ rest)
