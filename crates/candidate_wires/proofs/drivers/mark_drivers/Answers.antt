use Rattle.std.proofs.Common.{Some, [], ap, arith, false, inl, inr, length, length-set, map, refl, sym, ◌++◌, ◌<◌, ◌∙◌, ◌∷◌, ◌≡◌}
use Rattle.std.proofs.lemmas.List.{length-replicate, map-append}
use Rattle.gate_graph.specs.Circuit.{net_of}
use Rattle.gate_graph.proofs.Public.{none_seen, seen_cases, seen_kept, seen_new}
use Rattle.gate_net.specs.Net.{drivers_of}
use Rattle.refutation.proofs.Public.{yielded_at, yielded_more}
use Rattle.rm_base.specs.declared.numbers.NodeId.{NodeId}
use Rattle.candidate_wires.proofs.Appending.{only_one, stands_either}
use Rattle.candidate_wires.proofs.drivers.mark_drivers.Goals as goal
use Rattle.rm_base.proofs.Public.{back_stands, front_stands}

pub loop-driver-init : goal.loop-driver-init
loop-driver-init c = record {
  all = sym (c.into_iter-driver-iterator.ensures.into_iter_gives ∙ c.gate_pins-driver-items.ensures.drivers);
  size = ap (λ bs. length bs) c.clear.ensures ∙ length-replicate (length c.args.driving.now) false;
  marked = λ j x e. absurd (cc);
  sound = λ x seen. absurd (none_seen (length c.args.driving.now) x (rw c.clear.ensures at seen));
}

pub set-requires : goal.set-requires
set-requires c =
    let there = yielded_at (λ d. d.0) (drivers_of (net_of c.args.graph.now) c.args.gate.0) c.loop-driver.yielded c.in-Some.driver _ _ c.loop-driver.invariant.all c.in-Some.ensures.steps in
    let below : c.in-Some.driver.0 < length (net_of c.args.graph.now).nodes = c.gate_pins-driver-items.ensures.within _ _ there in
    omega (arith, below, c.requires.room, c.loop-driver.invariant.size)

pub loop-driver-preserved : goal.loop-driver-preserved
loop-driver-preserved c =
    let there = yielded_at (λ d. d.0) (drivers_of (net_of c.args.graph.now) c.args.gate.0) c.loop-driver.yielded c.in-Some.driver _ _ c.loop-driver.invariant.all c.in-Some.ensures.steps in
    let below : c.in-Some.driver.0 < length (net_of c.args.graph.now).nodes = c.gate_pins-driver-items.ensures.within _ _ there in
    let inside : c.in-Some.driver.0 < length c.loop-driver.driving = omega (arith, below, c.requires.room, c.loop-driver.invariant.size) in
    let split : map (λ (d : NodeId). d.0) (c.loop-driver.yielded ++ c.in-Some.driver ∷ []) ≡ map (λ (d : NodeId). d.0) c.loop-driver.yielded ++ c.in-Some.driver.0 ∷ [] = map-append (λ (d : NodeId). d.0) c.loop-driver.yielded (c.in-Some.driver ∷ []) in
    record {
      all = yielded_more (λ d. d.0) (drivers_of (net_of c.args.graph.now) c.args.gate.0) c.loop-driver.yielded c.in-Some.driver _ _ c.loop-driver.invariant.all c.in-Some.ensures.steps;
      size = ap (λ bs. length bs) c.set.ensures ∙ length-set c.loop-driver.driving _ _ ∙ c.loop-driver.invariant.size;
      marked = λ j x e. rw c.set.ensures (elim (stands_either (map (λ (d : NodeId). d.0) c.loop-driver.yielded) (c.in-Some.driver.0 ∷ []) j x (rw split at e)) [
        | inl front ↦ seen_kept c.loop-driver.driving c.in-Some.driver.0 x (c.loop-driver.invariant.marked j x front.1)
        | inr back ↦ rw (sym (only_one c.in-Some.driver.0 x back.0 back.1.1).1) (seen_new c.loop-driver.driving c.in-Some.driver.0 inside)
      ]);
      sound = λ x seen. elim (seen_cases c.loop-driver.driving c.in-Some.driver.0 x (rw c.set.ensures at seen)) [
        | inl old ↦
            let at = c.loop-driver.invariant.sound x old in
            (at.0, rw split (front_stands (map (λ (d : NodeId). d.0) c.loop-driver.yielded) (c.in-Some.driver.0 ∷ []) at.0 x at.1))
        | inr is ↦
            let last = back_stands (map (λ (d : NodeId). d.0) c.loop-driver.yielded) (c.in-Some.driver.0 ∷ []) 0 c.in-Some.driver.0 refl in
            (last.0, rw split (last.1 ∙ ap Some (sym is)))
      ];
    }
