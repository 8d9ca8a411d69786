-- The limit of work of a run.
use Rattle.std.specs.Prelude.{◌<◌, ◌≤◌, ◌*◌, ℕ}
use Rattle.rm_base.specs.declared.settings.Settings.{Settings}

-- there is a limit, in millions, and so many units of work reach it
abbrev pub IsWorkedOff : Settings → ℕ → Type 0
IsWorkedOff settings done = (0 < settings.work) × (settings.work * 1000000 ≤ done)
