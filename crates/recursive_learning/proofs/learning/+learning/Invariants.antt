use Rattle.std.proofs.Common.{Some, false, map, ℕ, ◌*◌, ◌+◌, ◌-◌, ◌<◌, ◌≡◌, ◌≢◌}
use Rattle.std.specs.Prelude.{slice_get}
use Rattle.gate_graph.specs.Circuit.{net_of}
use Rattle.recursive_learning.proofs.Holdings.{IsBefore}
use Rattle.recursive_learning.proofs.Rounds.{Learning}
use Rattle.recursive_learning.specs.Inner.JustifiedValues.{AreCommon, IsRound}
use Rattle.recursive_learning.specs.Watching.{LeavesList}
use Rattle.recursive_learning.specs.Inner.Watching.{HasNoneListed, IsCovered, IsKnown, IsWatching, Lengthens, looks_left}
use Rattle.recursive_learning.specs.Inner.Working.{AreSettled, Keeps}
use Rattle.recursive_learning.specs.declared.justified_values.Round.TheVariants.{Clash}
use Rattle.refutation.specs.FactSets.{held_by, missing}
use Rattle.recursive_learning.proofs.learning.+learning.Given as goal

abbrev pub decreases-take : goal.decreases-take
decreases-take l = 10 * l.depth + 1

abbrev pub decreases-one_more : goal.decreases-one_more
decreases-one_more l = 10 * l.depth + 2

abbrev pub decreases-in_common : goal.decreases-in_common
decreases-in_common l = 10 * l.depth + 3

abbrev pub decreases-justified_at : goal.decreases-justified_at
decreases-justified_at l = 10 * l.depth + 4

abbrev pub decreases-visit : goal.decreases-visit
decreases-visit l = 10 * l.depth + 5

abbrev pub decreases-look_at : goal.decreases-look_at
decreases-look_at l = 6

abbrev pub decreases-visit_deep : goal.decreases-visit_deep
decreases-visit_deep l = 10 * l.depth + 6

abbrev pub decreases-visit_each : goal.decreases-visit_each
decreases-visit_each l = 10 * l.depth + 7

abbrev pub decreases-visit_goods : goal.decreases-visit_goods
decreases-visit_goods l = 10 * l.depth + 8

abbrev pub decreases-learn_one : goal.decreases-learn_one
decreases-learn_one l = 7

abbrev pub decreases-learn_deeper : goal.decreases-learn_deeper
decreases-learn_deeper l = 10 * l.depth - 1

abbrev pub decreases-learn : goal.decreases-learn
decreases-learn l = 10 * l.depth

abbrev pub invariant-learn_one-loop-gate : goal.invariant-learn_one-loop-gate
invariant-learn_one-loop-gate l = record {
  learning : Learning (net_of l.question.graph.now) l.question.fault 1 l.fn.engine l.engine l.fn.facts l.facts;
  known : (y : ℕ) → IsKnown (net_of l.question.graph.now) l.question.fault (held_by l.facts) l.watch y;
  all : l.watch.all ≡ false;
  lengthens : Lengthens l.fn.watch l.watch;
}

abbrev pub decreases-learn_one-loop-gate : goal.decreases-learn_one-loop-gate
decreases-learn_one-loop-gate l = looks_left l.facts l.watch.listed

abbrev pub invariant-learn_deeper-loop : goal.invariant-learn_deeper-loop
invariant-learn_deeper-loop l = record {
  learning : Learning (net_of l.question.graph.now) l.question.fault l.depth l.fn.engine l.engine l.fn.facts l.facts;
  watching : IsWatching (net_of l.question.graph.now) l.question.fault (held_by l.facts) l.watch;
  none : HasNoneListed l.watch;
  lengthens : Lengthens l.fn.watch l.watch;
}

abbrev pub decreases-learn_deeper-loop : goal.decreases-learn_deeper-loop
decreases-learn_deeper-loop l = missing l.facts

abbrev pub invariant-visit_each-loop-gate : goal.invariant-visit_each-loop-gate
invariant-visit_each-loop-gate l = record {
  keeps : Keeps l.initial.engine l.engine l.initial.facts l.facts;
  round : IsRound (net_of l.question.graph.now) l.question.fault l.depth (IsBefore l.gates l.gate-index) l.initial.facts l.all l.facts;
  free : l.all ≢ Clash;
  settled : AreSettled (net_of l.question.graph.now) l.question.fault (held_by l.facts);
  watching : IsWatching (net_of l.question.graph.now) l.question.fault (held_by l.facts) l.watch;
  none : HasNoneListed l.watch;
  lengthens : Lengthens l.fn.watch l.watch;
}

abbrev pub invariant-in_common-loop-driver : goal.invariant-in_common-loop-driver
invariant-in_common-loop-driver l = record {
  keeps : Keeps l.initial.engine l.engine l.initial.facts l.facts;
  same : l.facts ≡ l.initial.facts;
  leaves : LeavesList l.initial.watch l.watch;
  common : AreCommon (net_of l.question.graph.now) l.question.fault l.depth (held_by l.initial.facts) l.choice.value (map (λ n. n.0) l.choice.drivers.now) l.driver-index l.common.found l.common.goods.items;
  covered : l.depth ≡ 0 → l.initial.watch.all ≡ false → (k d : ℕ) → k < l.driver-index → slice_get (map (λ n. n.0) l.choice.drivers.now) k ≡ Some d → IsCovered (net_of l.question.graph.now) l.question.fault (held_by l.initial.facts) l.choice.value d l.watch.rests.entries l.gate.0;
}
