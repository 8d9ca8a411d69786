-- Settings within their ranges.
use Rattle.std.specs.Prelude.{◌≤◌}
use Rattle.rm_base.specs.declared.settings.Settings.{Settings}

pub record AreSettings (s : Settings) : Type 0 where
  pub depth : s.depth ≤ 2
  pub budget : (1 ≤ s.budget) × (s.budget ≤ 1048576)
  pub tries : s.tries ≤ 1000000
  pub workers : (1 ≤ s.workers) × (s.workers ≤ 64)
