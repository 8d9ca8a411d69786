use Rattle.std.proofs.Common.{◌++◌, ◌||◌, ◌∷◌, [], ℕ, List, map, ap, sym, ◌∙◌}
use Rattle.std.proofs.lemmas.List.{map-append}
use Rattle.pin_pool.specs.Ring.{has}
use Rattle.pin_pool.specs.Inner.Marks.{is_marked}
use Rattle.pin_pool.specs.declared.names.PinNo.{PinNo}
use Rattle.pin_pool.proofs.Copied.{marked-step, names-push, within-next}
use Rattle.pin_pool.proofs.copying.mark_ring.Goals as goal

pub bounds-marks-pin : goal.bounds-marks-pin
bounds-marks-pin c =
    let ys : List ℕ = map (λ (p : PinNo). p.0) c.loop-pin.yielded in
    within-next _ ys c.next.new.self c.in-Some.pin.0 _ _ c.requires (sym c.into_iter-pin-iterator.ensures.into_iter_gives ∙ c.loop-pin.invariant.all ∙ ap (λ (l : List ℕ). ys ++ l) c.in-Some.ensures.steps) c.loop-pin.auto.marks

pub loop-pin-preserved : goal.loop-pin-preserved
loop-pin-preserved c =
    let ys : List ℕ = map (λ (p : PinNo). p.0) c.loop-pin.yielded in
    let all = c.loop-pin.invariant.all ∙ ap (λ (l : List ℕ). ys ++ l) c.in-Some.ensures.steps in
    let within = within-next _ ys c.next.new.self c.in-Some.pin.0 _ _ c.requires (sym c.into_iter-pin-iterator.ensures.into_iter_gives ∙ all) c.loop-pin.auto.marks in
    record {
      all = all ∙ names-push c.loop-pin.yielded c.in-Some.pin c.next.new.self;
      marked = λ q. marked-step _ c.loop-pin.marks ys c.in-Some.pin.0 within c.loop-pin.invariant.marked q ∙ ap (λ (l : List ℕ). has q l || is_marked c.args.marks.now q) (sym (map-append (λ (p : PinNo). p.0) c.loop-pin.yielded (c.in-Some.pin ∷ [])));
    }
