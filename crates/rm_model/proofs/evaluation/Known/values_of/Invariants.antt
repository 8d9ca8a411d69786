use Rattle.std.proofs.Common.{◌≡◌, Bool, length, map, take}
use Rattle.rm_model.proofs.evaluation.Known.values_of.Given as goal
use Rattle.rm_base.specs.Words.{Word}

abbrev pub invariant-loop-name : goal.invariant-loop-name
invariant-loop-name l = record {
  length : length l.values.items ≡ l.name-index;
  values : (v : Word → Bool) → map v l.self.names ≡ l.self.values.items → l.values.items ≡ map v (take l.name-index l.names);
}
