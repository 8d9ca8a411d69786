-- A pass through the faults of a net.
use Rattle.std.specs.Prelude.{ℕ, Bool, List}
use Rattle.gate_net.specs.Net.{Net}
use Rattle.closing_pass.specs.declared.passing.Passed.{Passed}
use Rattle.closing_pass.specs.declared.passing.Passed.TheVariants.{Closed, Refuted}
use Rattle.closing_pass.specs.Inner.Blocks.{AreKept}
use Rattle.closing_pass.specs.Inner.Findings.{IsRefuted}
use Rattle.closing_pass.specs.Reports.{AreClosed}

-- every fault is closed, or one is refuted
abbrev pub IsPassed : Net → ℕ → Passed → Type 0
IsPassed net budget (Closed verdicts) = AreClosed net budget verdicts.items
IsPassed net budget (Refuted fault tree) = IsRefuted net (fault, tree)

-- where every fault is closed, its vectors are among the kept ones
abbrev pub AreKeptOf : List (List Bool) → Passed → Type 0
AreKeptOf kept (Closed verdicts) = AreKept kept verdicts.items
AreKeptOf kept (Refuted fault tree) = Unit {0}
