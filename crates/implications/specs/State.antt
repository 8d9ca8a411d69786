-- What a contract sees of an engine.
use Rattle.std.specs.Prelude.{List, ℕ}
use Rattle.refutation.specs.declared.reasoning.Fact.{Fact}
use Rattle.refutation.specs.declared.reasoning.Line.{Line}
use Rattle.rm_base.specs.declared.numbers.NodeId.{NodeId}

-- for how many node numbers it was made, the lines of its last call, and the facts added and not taken back, the last at the end
pub record EngineState : Type 0 where
  pub numbers : ℕ
  pub lines : List Line
  pub trail : List (NodeId × Fact)
