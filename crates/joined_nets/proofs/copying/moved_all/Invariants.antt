use Rattle.std.proofs.Common.{map, ℕ, ◌++◌, ◌+◌, ◌≡◌, ◌≤◌}
use Rattle.std.specs.Prelude.{Some, slice_get}
use Rattle.rm_base.specs.Numbers.{number_bound}
use Rattle.joined_nets.specs.Joined.{moved}
use Rattle.joined_nets.proofs.copying.moved_all.Given as goal

abbrev pub invariant-loop-node : goal.invariant-loop-node
invariant-loop-node l = record {
  small : (p x : ℕ) → slice_get l.node-iterator p ≡ Some x → l.count + x ≤ number_bound;
  made : map (λ n. n.0) l.numbers.items ++ map (moved l.first l.count) l.node-iterator ≡ map (moved l.first l.count) l.fn.nodes;
}
