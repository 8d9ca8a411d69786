use Rattle.std.proofs.Common.{List, not, Some, [], ◌∷◌, ◌++◌, ap, length, length-append, map, sym, take, ℕ, ◌+◌, ◌∙◌, ◌≡◌}
use Rattle.std.proofs.Math.Seq.{take-length}
use Rattle.std.proofs.lemmas.List.{length-map}
use Rattle.std.specs.List.{fold}
use Rattle.std.specs.Prelude.{slice_get, slice_index}
use Rattle.refutation.proofs.Public.{yielded_all, yielded_at, yielded_more}
use Rattle.fault_sim.proofs.Lists.{fold_take}
use Rattle.fault_sim.specs.Inner.Words.{join_word, word_of}
use Rattle.fault_sim.proofs.good_reading.good_junction.Goals as goal
use Rattle.rm_base.proofs.Public.{map_at}

pub good_at-requires : goal.good_at-requires
good_at-requires c = c.requires.within _ _ (yielded_at (λ d. d.0) c.args.drivers c.loop-driver.yielded c.in-Some.driver _ _ c.loop-driver.invariant.all c.in-Some.ensures.steps)

pub loop-driver-preserved : goal.loop-driver-preserved
loop-driver-preserved c =
    let there : slice_get c.args.drivers (length c.loop-driver.yielded) ≡ Some c.in-Some.driver.0 = yielded_at (λ d. d.0) c.args.drivers c.loop-driver.yielded c.in-Some.driver _ _ c.loop-driver.invariant.all c.in-Some.ensures.steps in
    let more : length (c.loop-driver.yielded ++ c.in-Some.driver ∷ []) ≡ length c.loop-driver.yielded + 1 = length-append c.loop-driver.yielded (c.in-Some.driver ∷ []) in
    record {
      all = yielded_more (λ d. d.0) c.args.drivers c.loop-driver.yielded c.in-Some.driver _ _ c.loop-driver.invariant.all c.in-Some.ensures.steps;
      word = c.join-word.ensures
          ∙ ap (λ (w : ℕ). join_word c.args.controlling c.loop-driver.word w) c.good_at.ensures
          ∙ ap (λ (w : ℕ). join_word c.args.controlling w (slice_index c.args.good.now c.in-Some.driver.0)) c.loop-driver.invariant.word
          ∙ sym (fold_take (join_word c.args.controlling) (word_of (not c.args.controlling)) (map (slice_index c.args.good.now) c.args.drivers) (length c.loop-driver.yielded) _ (map_at (slice_index c.args.good.now) c.args.drivers (length c.loop-driver.yielded) c.in-Some.driver.0 there))
          ∙ ap (λ (n : ℕ). fold (join_word c.args.controlling) (word_of (not c.args.controlling)) (take n (map (slice_index c.args.good.now) c.args.drivers))) (sym more);
    }

pub returns : goal.returns
returns c =
    let all : length c.args.drivers ≡ length c.loop-driver.yielded = yielded_all (λ d. d.0) c.args.drivers c.loop-driver.yielded _ c.loop-driver.invariant.all c.in-None.ensures.steps.0 in
    let count : length c.loop-driver.yielded ≡ length (map (slice_index c.args.good.now) c.args.drivers) = sym all ∙ sym (length-map c.args.drivers (slice_index c.args.good.now)) in
    c.loop-driver.invariant.word
    ∙ ap (λ (xs : List ℕ). fold (join_word c.args.controlling) (word_of (not c.args.controlling)) xs)
    (ap (λ (n : ℕ). take n (map (slice_index c.args.good.now) c.args.drivers)) count ∙ take-length (map (slice_index c.args.good.now) c.args.drivers))
