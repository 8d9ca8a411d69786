-- Beside Answers.antt: what only private contracts, invariants and laws speak of.
use Rattle.std.specs.Prelude.{Option}
use Rattle.gate_net.specs.Net.{Net}
use Rattle.refutation.specs.Facts.{Held}
use Rattle.refutation.specs.declared.reasoning.Fact.{Fact}
use Rattle.refutation.specs.declared.reasoning.Line.{Line}
use Rattle.refutation.specs.declared.reasoning.Line.TheVariants.{Chain, Out}
use Rattle.rm_base.specs.declared.numbers.Fault.{Fault}
use Rattle.rm_base.specs.declared.numbers.NodeId.{NodeId}
use Rattle.refutation.specs.Answers.{IsAnswer}

-- the answer of a line that looks at no more than one gate; no matter what for the others
abbrev pub IsNearAnswer : Net → Fault → Held → Line → Option (NodeId × Fact) → Type 0
IsNearAnswer net fault held (Chain y) o = Unit {0}
IsNearAnswer net fault held (Out y) o = Unit {0}
IsNearAnswer net fault held l o = IsAnswer net fault held l o
