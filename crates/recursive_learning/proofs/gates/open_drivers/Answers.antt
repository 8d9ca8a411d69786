use Rattle.std.proofs.Common.{List, None, ap, arith, rules, length, map, subst, sym, ◌<◌, ◌∙◌, ◌≡◌, ℕ}
use Rattle.std.specs.List.{list_any}
use Rattle.std.specs.Prelude.{is_some, nat_eq}
use Rattle.std.proofs.lemmas.List.{length-map, map-append}
use Rattle.gate_graph.specs.Circuit.{net_of}
use Rattle.gate_net.specs.Net.{Reads, drivers_of}
use Rattle.refutation.specs.FactSets.{held_by}
use Rattle.refutation.specs.Facts.{known_good}
use Rattle.refutation.proofs.Public.{yielded_at, yielded_more}
use Rattle.recursive_learning.proofs.OpenDrivers.{OpenTo, all_yielded, known_skip, listed_map, open_all, open_none, open_push, open_skip, too_many}
use Rattle.rm_base.specs.declared.numbers.NodeId.{NodeId}
use Rattle.recursive_learning.proofs.gates.open_drivers.Goals as goal
use Rattle.rm_base.proofs.Public.{not_some}

pub known_of-requires : goal.known_of-requires
known_of-requires c =
    let below : c.in-Some.driver.0 < length (net_of c.args.graph.now).nodes = c.gate_pins-driver-items.ensures.within _ _ (yielded_at (λ d. d.0) (drivers_of (net_of c.args.graph.now) c.args.gate.0) c.loop-driver.yielded c.in-Some.driver _ _ c.loop-driver.invariant.all c.in-Some.ensures.steps) in
    omega (arith, below, c.requires.facts)

pub loop-driver-init : goal.loop-driver-init
loop-driver-init c = record {
  all = sym c.gate_pins-driver-items.ensures.drivers ∙ sym c.into_iter-driver-iterator.ensures.into_iter_gives;
  drivers = rw c.new-open.ensures.items (open_none (net_of c.args.graph.now) (held_by c.args.facts.now) c.args.gate.0);
}

pub loop-driver-preserved-then-is_some : goal.loop-driver-preserved-then-is_some
loop-driver-preserved-then-is_some c = record {
  all = yielded_more (λ d. d.0) (drivers_of (net_of c.args.graph.now) c.args.gate.0) c.loop-driver.yielded c.in-Some.driver _ _ c.loop-driver.invariant.all c.in-Some.ensures.steps;
  drivers = rw map-append (open_skip (net_of c.args.graph.now) (held_by c.args.facts.now) c.args.gate.0 (map (λ d. d.0) c.loop-driver.yielded) (map (λ d. d.0) c.loop-driver.open.items) c.in-Some.driver.0 c.loop-driver.invariant.drivers
      (known_skip (known_good (held_by c.args.facts.now) c.in-Some.driver.0) _ (ap is_some (sym c.known_of.ensures) ∙ sym c.is_some.ensures ∙ c.if-is_some.true)));
}

pub loop-driver-preserved-then-is_listed : goal.loop-driver-preserved-then-is_listed
loop-driver-preserved-then-is_listed c = record {
  all = yielded_more (λ d. d.0) (drivers_of (net_of c.args.graph.now) c.args.gate.0) c.loop-driver.yielded c.in-Some.driver _ _ c.loop-driver.invariant.all c.in-Some.ensures.steps;
  drivers = rw map-append (open_skip (net_of c.args.graph.now) (held_by c.args.facts.now) c.args.gate.0 (map (λ d. d.0) c.loop-driver.yielded) (map (λ d. d.0) c.loop-driver.open.items) c.in-Some.driver.0 c.loop-driver.invariant.drivers
      (λ none. sym (listed_map c.in-Some.driver.0 c.loop-driver.open.items) ∙ ap (list_any (λ (n : NodeId). nat_eq c.in-Some.driver.0 n.0)) (sym c.deref.ensures.value) ∙ sym c.is_listed.ensures ∙ c.if-is_listed.true));
}

pub returns-then-len-eq8 : goal.returns-then-len-eq8
returns-then-len-eq8 c few =
    let reads : Reads (net_of c.args.graph.now) c.args.gate.0 (length c.loop-driver.yielded) c.in-Some.driver.0 = yielded_at (λ d. d.0) (drivers_of (net_of c.args.graph.now) c.args.gate.0) c.loop-driver.yielded c.in-Some.driver _ _ c.loop-driver.invariant.all c.in-Some.ensures.steps in
    let unknown : known_good (held_by c.args.facts.now) c.in-Some.driver.0 ≡ None = not_some (known_good (held_by c.args.facts.now) c.in-Some.driver.0) (ap is_some (sym c.known_of.ensures) ∙ sym c.is_some.ensures ∙ c.if-is_some.false) in
    too_many (net_of c.args.graph.now) (held_by c.args.facts.now) c.args.gate.0 (map (λ d. d.0) c.loop-driver.yielded) (map (λ d. d.0) c.loop-driver.open.items) c.in-Some.driver.0 c.loop-driver.invariant.drivers
    ((_, reads), unknown) (sym (listed_map c.in-Some.driver.0 c.loop-driver.open.items) ∙ ap (list_any (λ (n : NodeId). nat_eq c.in-Some.driver.0 n.0)) (sym c.deref.ensures.value) ∙ sym c.is_listed.ensures ∙ c.if-is_listed.false) (rw length-map (search rules)) few

pub loop-driver-preserved : goal.loop-driver-preserved
loop-driver-preserved c =
    let reads : Reads (net_of c.args.graph.now) c.args.gate.0 (length c.loop-driver.yielded) c.in-Some.driver.0 = yielded_at (λ d. d.0) (drivers_of (net_of c.args.graph.now) c.args.gate.0) c.loop-driver.yielded c.in-Some.driver _ _ c.loop-driver.invariant.all c.in-Some.ensures.steps in
    let unknown : known_good (held_by c.args.facts.now) c.in-Some.driver.0 ≡ None = not_some (known_good (held_by c.args.facts.now) c.in-Some.driver.0) (ap is_some (sym c.known_of.ensures) ∙ sym c.is_some.ensures ∙ c.if-is_some.false) in
    record {
      all = yielded_more (λ d. d.0) (drivers_of (net_of c.args.graph.now) c.args.gate.0) c.loop-driver.yielded c.in-Some.driver _ _ c.loop-driver.invariant.all c.in-Some.ensures.steps;
      drivers = rw (map-append, c.in_ok-push.ensures.items, map-append) (open_push (net_of c.args.graph.now) (held_by c.args.facts.now) c.args.gate.0 (map (λ d. d.0) c.loop-driver.yielded) (map (λ d. d.0) c.loop-driver.open.items) c.in-Some.driver.0 c.loop-driver.invariant.drivers
          ((_, reads), unknown) (sym (listed_map c.in-Some.driver.0 c.loop-driver.open.items) ∙ ap (list_any (λ (n : NodeId). nat_eq c.in-Some.driver.0 n.0)) (sym c.deref.ensures.value) ∙ sym c.is_listed.ensures ∙ c.if-is_listed.false) (rw length-map (search rules)));
    }

pub returns : goal.returns
returns c = open_all (net_of c.args.graph.now) (held_by c.args.facts.now) c.args.gate.0 (map (λ d. d.0) c.loop-driver.open.items)
    (subst (λ (before : List ℕ). OpenTo (net_of c.args.graph.now) (held_by c.args.facts.now) c.args.gate.0 before (map (λ d. d.0) c.loop-driver.open.items)) (all_yielded (λ (d : NodeId). d.0) (drivers_of (net_of c.args.graph.now) c.args.gate.0) c.loop-driver.yielded _ c.loop-driver.invariant.all c.in-None.ensures.steps.0) c.loop-driver.invariant.drivers)
