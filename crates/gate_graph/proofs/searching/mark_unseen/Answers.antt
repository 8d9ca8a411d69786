use Rattle.std.proofs.Common.{◌≡◌, ◌<◌, ℕ, List, [], ◌∷◌, ◌++◌, length, map, true, false, sym, ap, ◌∙◌, arith}
use Rattle.std.specs.Prelude.{slice_get}
use Rattle.std.proofs.lemmas.List.{map-append}
use Rattle.rm_base.specs.declared.numbers.NodeId.{NodeId}
use Rattle.gate_graph.specs.Search.{AreBelow}
use Rattle.gate_graph.proofs.Placed.{map-push}
use Rattle.gate_graph.proofs.Marking.{marked_again, marked_new, fits, is_at, middle_at, marked-list}
use Rattle.gate_graph.proofs.searching.mark_unseen.Goals as goal

below : (start given ys rest : List ℕ) (d n m : ℕ) → AreBelow given n → start ≡ given → start ≡ ys ++ d ∷ rest → m ≡ n → d < m
below start given ys rest d n m within same e len =
    let less : d < n = within (length ys) d (ap (λ (l : List ℕ). slice_get l (length ys)) (sym same) ∙ middle_at (λ k. k) start ys rest d e) in
    omega (arith, less, len)

pub bounds-seen-place : goal.bounds-seen-place
bounds-seen-place c =
    let ys : List ℕ = map (λ (n : NodeId). n.0) c.loop-driver.yielded in
    below _ _ ys c.next.new.self c.in-Some.driver.0 _ _ c.requires.within c.into_iter-driver-iterator.ensures.into_iter_gives (c.loop-driver.invariant.all ∙ ap (λ (l : List ℕ). ys ++ l) c.in-Some.ensures.steps) c.loop-driver.auto.seen

pub bounds-seen-place-then-not-seen-place : goal.bounds-seen-place-then-not-seen-place
bounds-seen-place-then-not-seen-place c =
    let ys : List ℕ = map (λ (n : NodeId). n.0) c.loop-driver.yielded in
    below _ _ ys c.next.new.self c.in-Some.driver.0 _ _ c.requires.within c.into_iter-driver-iterator.ensures.into_iter_gives (c.loop-driver.invariant.all ∙ ap (λ (l : List ℕ). ys ++ l) c.in-Some.ensures.steps) c.loop-driver.auto.seen

pub bounds-queue-end : goal.bounds-queue-end
bounds-queue-end c =
    let ys : List ℕ = map (λ (n : NodeId). n.0) c.loop-driver.yielded in
    let within = below _ _ ys c.next.new.self c.in-Some.driver.0 _ _ c.requires.within c.into_iter-driver-iterator.ensures.into_iter_gives (c.loop-driver.invariant.all ∙ ap (λ (l : List ℕ). ys ++ l) c.in-Some.ensures.steps) c.loop-driver.auto.seen in
    fits _ _ _ _ _ _ _ c.in-Some.driver.0 c.loop-driver.invariant.marked (is_at c.loop-driver.seen c.in-Some.driver.0 false within c.if-not-seen-place.true) c.loop-driver.auto.queue

pub loop-driver-preserved-then-not-seen-place : goal.loop-driver-preserved-then-not-seen-place
loop-driver-preserved-then-not-seen-place c =
    let ys : List ℕ = map (λ (n : NodeId). n.0) c.loop-driver.yielded in
    let all = c.loop-driver.invariant.all ∙ ap (λ (l : List ℕ). ys ++ l) c.in-Some.ensures.steps in
    let within = below _ _ ys c.next.new.self c.in-Some.driver.0 _ _ c.requires.within c.into_iter-driver-iterator.ensures.into_iter_gives all c.loop-driver.auto.seen in
    record {
      all = all ∙ map-push (λ (n : NodeId). n.0) c.loop-driver.yielded c.in-Some.driver c.next.new.self;
      marked = marked-list _ _ _ _ _ _ _ _ (sym (map-append (λ (n : NodeId). n.0) c.loop-driver.yielded (c.in-Some.driver ∷ [])))
          (marked_new _ _ _ _ _ _ _ c.in-Some.driver.0 c.loop-driver.invariant.marked (is_at c.loop-driver.seen c.in-Some.driver.0 false within c.if-not-seen-place.true) c.loop-driver.auto.queue);
    }

pub loop-driver-preserved : goal.loop-driver-preserved
loop-driver-preserved c =
    let ys : List ℕ = map (λ (n : NodeId). n.0) c.loop-driver.yielded in
    let all = c.loop-driver.invariant.all ∙ ap (λ (l : List ℕ). ys ++ l) c.in-Some.ensures.steps in
    let within = below _ _ ys c.next.new.self c.in-Some.driver.0 _ _ c.requires.within c.into_iter-driver-iterator.ensures.into_iter_gives all c.loop-driver.auto.seen in
    record {
      all = all ∙ map-push (λ (n : NodeId). n.0) c.loop-driver.yielded c.in-Some.driver c.next.new.self;
      marked = marked-list _ _ _ _ _ _ _ _ (sym (map-append (λ (n : NodeId). n.0) c.loop-driver.yielded (c.in-Some.driver ∷ [])))
          (marked_again _ _ _ _ _ _ _ c.in-Some.driver.0 c.loop-driver.invariant.marked (is_at c.loop-driver.seen c.in-Some.driver.0 true within c.if-not-seen-place.false));
    }
