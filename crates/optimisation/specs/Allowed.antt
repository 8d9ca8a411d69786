-- How many tries a run may make where its work has a limit.
use Rattle.std.specs.Prelude.{◌≡◌, ◌⊎◌, ℕ, ◌≤◌}
use Rattle.rm_base.specs.Work.{IsWorkedOff}
use Rattle.rm_base.specs.declared.settings.Settings.{Settings}

-- so many tries are allowed to a run of so much work: as many as the settings say, and fewer only where the work has reached the
-- limit that is set
pub record IsAllowed (settings : Settings) (limit work : ℕ) : Type 0 where
  pub within : limit ≤ settings.tries
  pub cut_short : (limit ≡ settings.tries) ⊎ IsWorkedOff settings work
