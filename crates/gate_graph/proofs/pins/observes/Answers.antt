use Rattle.std.proofs.Common.{ℕ, ◌++◌, List, map, sym, ap, ◌∙◌, inl, inr}
use Rattle.std.proofs.lemmas.Bool.{false_from_ne_true}
use Rattle.pin_pool.specs.Ring.{has}
use Rattle.pin_pool.specs.Pins.{list_of}
use Rattle.pin_pool.specs.declared.names.PinNo.{PinNo}
use Rattle.gate_graph.proofs.Placed.{map-push, has-middle, has-pushed}
use Rattle.gate_graph.proofs.pins.observes.Goals as goal

pub gate_of-requires : goal.gate_of-requires
gate_of-requires c =
    let i = c.loop-pin.invariant in
    c.requires.linked c.in-Some.pin.0 (has-middle _ (map (λ (p : PinNo). p.0) c.loop-pin.yielded) c.next.new.self c.in-Some.pin.0 (i.all ∙ ap (λ (l : List ℕ). map (λ (p : PinNo). p.0) c.loop-pin.yielded ++ l) c.in-Some.ensures.steps))

pub returns-then-gate_of-eq0-clause-found : goal.returns-then-gate_of-eq0-clause-found
returns-then-gate_of-eq0-clause-found c e =
    let i = c.loop-pin.invariant in (
      c.in-Some.pin.0,
      (
        has-middle _ (map (λ (p : PinNo). p.0) c.loop-pin.yielded) c.next.new.self c.in-Some.pin.0 (i.all ∙ ap (λ (l : List ℕ). map (λ (p : PinNo). p.0) c.loop-pin.yielded ++ l) c.in-Some.ensures.steps),
        ap (λ (n : ℕ). has c.in-Some.pin.0 (list_of c.args.pool.now.inputs n)) (sym c.if-gate_of-eq0.true) ∙ c.gate_of.ensures.gate,
      ),
    )

pub loop-pin-preserved : goal.loop-pin-preserved
loop-pin-preserved c =
    let i = c.loop-pin.invariant in
    record {
      all = i.all ∙ ap (λ (l : List ℕ). map (λ (p : PinNo). p.0) c.loop-pin.yielded ++ l) c.in-Some.ensures.steps ∙ map-push (λ (p : PinNo). p.0) c.loop-pin.yielded c.in-Some.pin c.next.new.self;
      none = λ p h. elim (has-pushed (λ (q : PinNo). q.0) c.loop-pin.yielded c.in-Some.pin p h) [
        | inl old ↦ i.none p old
        | inr is ↦ false_from_ne_true _ (λ k. c.if-gate_of-eq0.false (c.tell_rings.ensures.rings.inputs.one c.gate_of.result 0 c.in-Some.pin.0 c.gate_of.ensures.gate (ap (λ (q : ℕ). has q (list_of c.args.pool.now.inputs 0)) (sym is) ∙ k)))
      ];
    }
