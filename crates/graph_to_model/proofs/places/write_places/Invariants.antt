use Rattle.std.proofs.Common.{◌≡◌, ◌≤◌, ◌+◌, ℕ, drop, get_or, length, None}
use Rattle.std.specs.Option.{option_map}
use Rattle.graph_to_model.specs.Inner.Making.{place_in}
use Rattle.graph_to_model.proofs.places.write_places.Given as goal

abbrev pub invariant-loop-left : goal.invariant-loop-left
invariant-loop-left l = record {
  each : (n : ℕ) → get_or l.places n None ≡ option_map (λ j. l.left + j) (place_in (drop l.left l.nodes) n);
  within : l.left ≤ length l.nodes;
}

abbrev pub decreases-loop-left : goal.decreases-loop-left
decreases-loop-left l = l.left
