use Rattle.std.proofs.Common.{◌≡◌, ◌≢◌, ℕ, ◌∷◌, ◌++◌, List, map, sym, ap, ◌∙◌, arith}
use Rattle.std.proofs.lemmas.Bool.{eqb-true, eq-eqb, true≢false}
use Rattle.std.proofs.lemmas.List.{length-map}
use Rattle.std.proofs.lemmas.Grind.{common_steps}
use Rattle.pin_pool.specs.declared.names.PinNo.{PinNo}
use Rattle.gate_graph.specs.Circuit.{place_in}
use Rattle.gate_graph.proofs.Placed.{place-found, map-push, has-map-push}
use Rattle.gate_graph.proofs.pins.place_of.Goals as goal

pub returns-then-eq : goal.returns-then-eq
returns-then-eq c =
    let i = c.loop-other.invariant in
    let is : c.in-Some.other.0 ≡ c.args.pin.0 = eqb-true c.in-Some.other.0 c.args.pin.0 (sym c.eq.ensures ∙ c.if-eq.true) in
    let ys : List ℕ = map (λ (p : PinNo). p.0) c.loop-other.yielded in
    i.count ∙ sym (length-map c.loop-other.yielded (λ (p : PinNo). p.0)) ∙ place-found ys _ c.args.pin.0 i.none
    ∙ ap (λ (l : List ℕ). place_in l c.args.pin.0) (sym (i.all ∙ ap (λ (l : List ℕ). ys ++ l) (c.in-Some.ensures.steps ∙ ap (λ (q : ℕ). q ∷ c.next.new.self) is)))

pub loop-other-preserved : goal.loop-other-preserved
loop-other-preserved c =
    let i = c.loop-other.invariant in
    let ne : c.args.pin.0 ≢ c.in-Some.other.0 = λ is. true≢false (sym (eq-eqb c.in-Some.other.0 c.args.pin.0 (sym is)) ∙ sym c.eq.ensures ∙ c.if-eq.false) in
    record {
      all = i.all ∙ ap (λ (l : List ℕ). map (λ (p : PinNo). p.0) c.loop-other.yielded ++ l) c.in-Some.ensures.steps ∙ map-push (λ (p : PinNo). p.0) c.loop-other.yielded c.in-Some.other c.next.new.self;
      count = grind (arith, common_steps, i.count);
      none = has-map-push (λ (p : PinNo). p.0) c.loop-other.yielded c.in-Some.other c.args.pin.0 i.none ne;
    }
