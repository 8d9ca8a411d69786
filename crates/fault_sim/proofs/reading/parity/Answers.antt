use Rattle.std.proofs.Common.{List, Some, ap, arith, length, length-append, map, refl, sym, take, ℕ, ◌+◌, ◌∙◌, ◌≡◌, ◌≤◌}
use Rattle.std.proofs.Math.Seq.{take-length}
use Rattle.std.specs.List.{fold}
use Rattle.std.specs.Prelude.{bit_xor, slice_get}
use Rattle.refutation.proofs.Public.{yielded_all, yielded_at, yielded_below, yielded_more}
use Rattle.fault_sim.proofs.Lists.{fold_take, length_reads, pin_at}
use Rattle.fault_sim.specs.Inner.Words.{word_of}
use Rattle.fault_sim.specs.Inner.Spreading.{pin_word, spread_word, stuck_reads}
use Rattle.fault_sim.proofs.reading.parity.Goals as goal

pub word_at-requires-clause-within : goal.word_at-requires-clause-within
word_at-requires-clause-within c = c.requires.within _ _ (yielded_at (λ d. d.0) c.args.drivers c.loop-driver.yielded c.in-Some.driver _ _ c.loop-driver.invariant.all c.in-Some.ensures.steps)

pub overflow_add-q : goal.overflow_add-q
overflow_add-q c =
    let few : length c.loop-driver.yielded + 1 ≤ length c.args.drivers = yielded_below (λ d. d.0) c.args.drivers c.loop-driver.yielded c.in-Some.driver _ _ c.loop-driver.invariant.all c.in-Some.ensures.steps in
    omega (arith, few, c.requires.few, c.loop-driver.invariant.count)

pub loop-driver-preserved : goal.loop-driver-preserved
loop-driver-preserved c =
    let there : slice_get c.args.drivers (length c.loop-driver.yielded) ≡ Some c.in-Some.driver.0 = yielded_at (λ d. d.0) c.args.drivers c.loop-driver.yielded c.in-Some.driver _ _ c.loop-driver.invariant.all c.in-Some.ensures.steps in
    let at_q : slice_get c.args.drivers c.loop-driver.q ≡ Some c.in-Some.driver.0 = rw c.loop-driver.invariant.count there in
    record {
      all = yielded_more (λ d. d.0) c.args.drivers c.loop-driver.yielded c.in-Some.driver _ _ c.loop-driver.invariant.all c.in-Some.ensures.steps;
      count = rw (length-append, c.loop-driver.invariant.count) refl;
      word = ap (λ (w : ℕ). bit_xor c.loop-driver.word w) (c.at_pin-word.ensures ∙ ap (pin_word c.args.stuck c.loop-driver.q) c.word_at.ensures)
          ∙ ap (λ (w : ℕ). bit_xor w (pin_word c.args.stuck c.loop-driver.q (spread_word c.args.good.now c.args.spread.now c.in-Some.driver.0))) c.loop-driver.invariant.word
          ∙ sym (fold_take bit_xor (word_of c.args.inverts) (stuck_reads c.args.stuck (map (spread_word c.args.good.now c.args.spread.now) c.args.drivers)) c.loop-driver.q _ (pin_at c.args.stuck (spread_word c.args.good.now c.args.spread.now) c.args.drivers c.loop-driver.q c.in-Some.driver.0 at_q));
    }

pub returns : goal.returns
returns c =
    let all : length c.args.drivers ≡ length c.loop-driver.yielded = yielded_all (λ d. d.0) c.args.drivers c.loop-driver.yielded _ c.loop-driver.invariant.all c.in-None.ensures.steps.0 in
    let count : c.loop-driver.q ≡ length (stuck_reads c.args.stuck (map (spread_word c.args.good.now c.args.spread.now) c.args.drivers)) =
    c.loop-driver.invariant.count ∙ sym all ∙ sym (length_reads c.args.stuck (spread_word c.args.good.now c.args.spread.now) c.args.drivers) in
    c.loop-driver.invariant.word
    ∙ ap (λ (xs : List ℕ). fold bit_xor (word_of c.args.inverts) xs)
    (ap (λ (n : ℕ). take n (stuck_reads c.args.stuck (map (spread_word c.args.good.now c.args.spread.now) c.args.drivers))) count ∙ take-length (stuck_reads c.args.stuck (map (spread_word c.args.good.now c.args.spread.now) c.args.drivers)))
