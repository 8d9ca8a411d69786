use Rattle.std.proofs.Common.{◌≡◌, ℕ, sym, ap, ◌∙◌, true}
use Rattle.std.proofs.lemmas.Bool.{or_right, false_from_ne_true}
use Rattle.pin_pool.specs.Ring.{has}
use Rattle.pin_pool.specs.Pins.{list_of}
use Rattle.gate_graph.proofs.Placed.{skipped, kept-first, has-front}
use Rattle.gate_graph.proofs.pins.next_reading.Goals as goal

pub gate_of-requires : goal.gate_of-requires
gate_of-requires c = c.loop-pin.invariant.linked c.in-Some.pin.0 (has-front _ _ c.in-Some.pin.0 c.in-Some.ensures.steps)

pub returns-then-gate_of-ne0-clause-linked : goal.returns-then-gate_of-ne0-clause-linked
returns-then-gate_of-ne0-clause-linked c = c.loop-pin.invariant.linked c.in-Some.pin.0 (has-front _ _ c.in-Some.pin.0 c.in-Some.ensures.steps)

pub returns-then-gate_of-ne0-clause-reads : goal.returns-then-gate_of-ne0-clause-reads
returns-then-gate_of-ne0-clause-reads c = false_from_ne_true _ (λ h. c.if-gate_of-ne0.true (c.tell_rings.ensures.rings.inputs.one c.gate_of.result 0 c.in-Some.pin.0 c.gate_of.ensures.gate h))

pub returns-then-gate_of-ne0-clause-some : goal.returns-then-gate_of-ne0-clause-some
returns-then-gate_of-ne0-clause-some c =
    sym c.loop-pin.invariant.same
    ∙ kept-first (list_of c.args.pool.now.inputs 0) _ _ c.in-Some.pin.0 c.in-Some.ensures.steps (false_from_ne_true _ (λ h. c.if-gate_of-ne0.true (c.tell_rings.ensures.rings.inputs.one c.gate_of.result 0 c.in-Some.pin.0 c.gate_of.ensures.gate h)))

pub returns-then-gate_of-ne0-clause-kept : goal.returns-then-gate_of-ne0-clause-kept
returns-then-gate_of-ne0-clause-kept c p h = c.loop-pin.invariant.kept p (ap (has p) c.in-Some.ensures.steps ∙ or_right _ _ h)

pub loop-pin-preserved : goal.loop-pin-preserved
loop-pin-preserved c =
    let i = c.loop-pin.invariant in
    let there : has c.in-Some.pin.0 (list_of c.args.pool.now.inputs 0) ≡ true = ap (λ (n : ℕ). has c.in-Some.pin.0 (list_of c.args.pool.now.inputs n)) (sym c.if-gate_of-ne0.false) ∙ c.gate_of.ensures.gate in
    record {
      same = skipped (list_of c.args.pool.now.inputs 0) _ _ c.in-Some.pin.0 c.in-Some.ensures.steps there ∙ i.same;
      linked = λ p h. i.linked p (ap (has p) c.in-Some.ensures.steps ∙ or_right _ _ h);
      kept = λ p h. i.kept p (ap (has p) c.in-Some.ensures.steps ∙ or_right _ _ h);
    }
