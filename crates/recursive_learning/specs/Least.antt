-- Least sets of facts that are closed at a depth, and what refuting answers.
use Rattle.std.specs.Prelude.{ℕ}
use Rattle.gate_net.specs.Net.{Net}
use Rattle.refutation.specs.Closing.{IsClashFree, IsWithin}
use Rattle.refutation.specs.Facts.{Held}
use Rattle.refutation.specs.Learning.{IsClosedAt}
use Rattle.rm_base.specs.declared.numbers.Fault.{Fault}

-- each set without a clash that contains the facts at the start and is closed at the depth contains these
abbrev pub AreForced : Net → Fault → ℕ → Held → Held → Type 0
AreForced net fault depth start now = (s : Held) → IsWithin start s → IsClashFree s → IsClosedAt net fault depth s → IsWithin now s

-- the least set without a clash that contains the facts at the start and is closed at the depth
pub record IsLeastAt (net : Net) (fault : Fault) (depth : ℕ) (start held : Held) : Type 0 where
  pub within : IsWithin start held
  pub free : IsClashFree held
  pub closed : IsClosedAt net fault depth held
  pub least : AreForced net fault depth start held
