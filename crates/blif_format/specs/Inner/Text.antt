-- Beside Text.antt: what only private contracts, invariants and laws speak of.
use Rattle.std.specs.Prelude.{codes, Option, None, Some, IfSome, ◌≢◌}
use Rattle.rm_model.specs.declared.parts.Timing.{Timing}
use Rattle.rm_base.specs.Words.{Word}

-- a control isn't spelled `NIL`, which stands for none
abbrev pub IsControlName : Option Word → Type 0
IsControlName o = IfSome o (λ x. x ≢ codes "NIL")

-- the control of a timing, if both are there
abbrev pub timing_control : Option Timing → Option Word
timing_control None = None
timing_control (Some t) = t.control
