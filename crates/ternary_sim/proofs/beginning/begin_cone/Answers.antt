use Rattle.std.proofs.Common.{Bool, List, Some, ap, arith, false, get_or, inl, inr, length, refl, subst, sym, true, ℕ, ◌+◌, ◌-◌, ◌<◌, ◌∙◌, ◌≡◌}
use Rattle.std.proofs.lemmas.Bool.{cases_lt}
use Rattle.std.proofs.lemmas.List.{length-replicate}
use Rattle.std.proofs.lemmas.Option.{slice_get_within}
use Rattle.std.specs.Prelude.{slice_get, slice_set}
use Rattle.gate_graph.specs.Circuit.{net_of}
use Rattle.gate_graph.proofs.Public.{none_seen, seen_cases, seen_kept, seen_new}
use Rattle.gate_graph.specs.Search.{IsSeen}
use Rattle.local_evaluation.proofs.Public.{kind_live}
use Rattle.ternary_sim.proofs.Beginnings.{begun_first, get_or_there, next_below, next_touched}
use Rattle.ternary_sim.proofs.beginning.begin_cone.Goals as goal
use Rattle.ternary_sim.specs.Regions.{IsTouched}

pub loop-place-init : goal.loop-place-init
loop-place-init c = record {
  begun = λ base e. begun_first base c.args.table.now.marks c.args.worklist.now (length (net_of c.args.graph.now).nodes) e c.requires.worklist;
  on = λ k x there late. absurd (let within : k < length c.reached_numbers-reached.result.now = slice_get_within c.reached_numbers-reached.result.now k x there in omega (arith, late, within));
  only = λ x there. absurd (none_seen (length (net_of c.args.graph.now).nodes) x (rw c.requires.worklist at there));
  before = refl;
  first = refl;
  inside = c.requires.inside;
  size = refl;
  watched = refl;
  room = refl;
}

pub begin_node-requires-clause-marks : goal.begin_node-requires-clause-marks
begin_node-requires-clause-marks c =
    let below = next_below (net_of c.args.graph.now) c.args.gate.0 c.args.site.now.reached c.reached_numbers-reached.result.now (length c.reached_numbers-reached.result.now - 1 - c.loop-place.place) c.requires.site c.reached_numbers-reached.ensures (omega (arith, c.loop-place-test.true)) in
    omega (arith, below, c.requires.size, c.loop-place.invariant.size)

pub begin_node-requires-clause-worklist : goal.begin_node-requires-clause-worklist
begin_node-requires-clause-worklist c =
    let below = next_below (net_of c.args.graph.now) c.args.gate.0 c.args.site.now.reached c.reached_numbers-reached.result.now (length c.reached_numbers-reached.result.now - 1 - c.loop-place.place) c.requires.site c.reached_numbers-reached.ensures (omega (arith, c.loop-place-test.true)) in
    let long : length c.args.worklist.now ≡ length (net_of c.args.graph.now).nodes = ap (λ (bs : List Bool). length bs) c.requires.worklist ∙ length-replicate (length (net_of c.args.graph.now).nodes) false in
    omega (arith, below, long, c.loop-place.invariant.room)

pub loop-place-preserved : goal.loop-place-preserved
loop-place-preserved c =
    let below = next_below (net_of c.args.graph.now) c.args.gate.0 c.args.site.now.reached c.reached_numbers-reached.result.now (length c.reached_numbers-reached.result.now - 1 - c.loop-place.place) c.requires.site c.reached_numbers-reached.ensures (omega (arith, c.loop-place-test.true)) in
    let long : length c.args.worklist.now ≡ length (net_of c.args.graph.now).nodes = ap (λ (bs : List Bool). length bs) c.requires.worklist ∙ length-replicate (length (net_of c.args.graph.now).nodes) false in
    let next : ℕ = get_or c.reached_numbers-reached.result.now (length c.reached_numbers-reached.result.now - 1 - c.loop-place.place) 0 in
    record {
      begun = λ base e. c.in_ok-begin_node.ensures.begun base (c.loop-place.invariant.begun base e);
      on = λ k x there late. rw c.in_ok-begin_node.ensures.on (elim (cases_lt (length c.reached_numbers-reached.result.now) (k + c.loop-place.place + 1)) [
        | inl before ↦ seen_kept c.loop-place.worklist next x (c.loop-place.invariant.on k x there (omega (arith, before)))
        | inr not_yet ↦
            let is : length c.reached_numbers-reached.result.now - 1 - c.loop-place.place ≡ k = omega (arith, late, not_yet) in
            let same : next ≡ x = ap (λ (n : ℕ). get_or c.reached_numbers-reached.result.now n 0) is ∙ get_or_there c.reached_numbers-reached.result.now k x there in
            subst (IsSeen (slice_set c.loop-place.worklist next true)) same (seen_new c.loop-place.worklist next (omega (arith, below, long, c.loop-place.invariant.room)))
      ]);
      only = λ x there. elim (seen_cases c.loop-place.worklist next x (rw c.in_ok-begin_node.ensures.on at there)) [
        | inl before ↦ c.loop-place.invariant.only x before
        | inr is ↦ subst (IsTouched (net_of c.args.graph.now) c.args.gate.0) (sym is) (next_touched (net_of c.args.graph.now) c.args.gate.0 c.args.site.now.reached c.reached_numbers-reached.result.now (length c.reached_numbers-reached.result.now - 1 - c.loop-place.place) c.requires.site c.reached_numbers-reached.ensures (omega (arith, c.loop-place-test.true)))
      ];
      before = c.begin_node.ensures.before ∙ c.loop-place.invariant.before;
      first = c.begin_node.ensures.first ∙ c.loop-place.invariant.first;
      inside = c.begin_node.ensures.inside;
      size = c.begin_node.ensures.size ∙ c.loop-place.invariant.size;
      watched = c.begin_node.ensures.watched ∙ c.loop-place.invariant.watched;
      room = c.begin_node.ensures.room ∙ c.loop-place.invariant.room;
    }

pub begin_node-requires-2-clause-marks : goal.begin_node-requires-2-clause-marks
begin_node-requires-2-clause-marks c =
    let below : c.args.gate.0 < length (net_of c.args.graph.now).nodes = kind_live (net_of c.args.graph.now) c.args.gate.0 c.requires.gate in
    omega (arith, below, c.requires.size, c.loop-place.invariant.size)

pub begin_node-requires-2-clause-worklist : goal.begin_node-requires-2-clause-worklist
begin_node-requires-2-clause-worklist c =
    let below : c.args.gate.0 < length (net_of c.args.graph.now).nodes = kind_live (net_of c.args.graph.now) c.args.gate.0 c.requires.gate in
    let long : length c.args.worklist.now ≡ length (net_of c.args.graph.now).nodes = ap (λ (bs : List Bool). length bs) c.requires.worklist ∙ length-replicate (length (net_of c.args.graph.now).nodes) false in
    omega (arith, below, long, c.loop-place.invariant.room)

pub returns-clause-on : goal.returns-clause-on
returns-clause-on c x touched =
    let below : c.args.gate.0 < length (net_of c.args.graph.now).nodes = kind_live (net_of c.args.graph.now) c.args.gate.0 c.requires.gate in
    let long : length c.args.worklist.now ≡ length (net_of c.args.graph.now).nodes = ap (λ (bs : List Bool). length bs) c.requires.worklist ∙ length-replicate (length (net_of c.args.graph.now).nodes) false in
    rw c.in_ok-begin_node-2.ensures.on (elim touched [
      | inl is ↦ rw is (seen_new c.loop-place.worklist c.args.gate.0 (omega (arith, below, long, c.loop-place.invariant.room)))
      | inr path ↦
          let listed : (k : ℕ) × (slice_get c.reached_numbers-reached.result.now k ≡ Some x) = c.reached_numbers-reached.ensures.all x (c.requires.site.all x path) in
          seen_kept c.loop-place.worklist c.args.gate.0 x (c.loop-place.invariant.on listed.0 x listed.1 (omega (arith, c.loop-place-test.false)))
    ])

pub returns-clause-only : goal.returns-clause-only
returns-clause-only c x there = elim (seen_cases c.loop-place.worklist c.args.gate.0 x (rw c.in_ok-begin_node-2.ensures.on at there)) [
  | inl before ↦ c.loop-place.invariant.only x before
  | inr is ↦ inl is
]
