use Rattle.std.proofs.Common.{◌≡◌, ◌++◌, Bool, length, map, take}
use Rattle.std.specs.Prelude.{All}
use Rattle.rm_model.specs.Value.{value_of}
use Rattle.rm_model.specs.Inner.Search.{list_at}
use Rattle.rm_model.proofs.evaluation.add_covers.Given as goal
use Rattle.rm_base.specs.Words.{Word}

abbrev pub invariant-loop-place : goal.invariant-loop-place
invariant-loop-place l = record {
  names : l.known.names ≡ l.initial.known.names ++ map (list_at (map (λ c. c.output) l.covers)) (take l.place-index l.order);
  values : (v : Word → Bool) → All (λ c. v c.output ≡ value_of c (map v c.inputs)) l.covers → map v l.initial.known.names ≡ l.initial.known.values.items → map v l.known.names ≡ l.known.values.items;
  paired : length l.known.names ≡ length l.known.values.items;
}
