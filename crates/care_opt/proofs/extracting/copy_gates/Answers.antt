use Rattle.std.proofs.Common.{List, ap, arith, length, sym, ℕ, ◌+◌, ◌∙◌, ◌≡◌}
use Rattle.std.specs.Prelude.{Some, slice_get}
use Rattle.std.proofs.lemmas.List.{length_push}
use Rattle.gate_graph.specs.Circuit.{net_of}
use Rattle.joined_nets.specs.Joined.{first_gate}
use Rattle.care_opt.specs.Extract.{main_nodes, new_number}
use Rattle.care_opt.specs.Inner.Looking.{with_main}
use Rattle.care_opt.proofs.Looking.{first_same, gate_above, looked_low, main_end, main_step, next_number, node_fits, numbers_step}
use Rattle.care_opt.proofs.extracting.copy_gates.Goals as goal

pub copy_main-requires-clause-gate : goal.copy_main-requires-clause-gate
copy_main-requires-clause-gate c = gate_above (net_of c.args.graph.now) c.loop-number.number c.well_formed-2.ensures.net c.loop-number.invariant.after

pub copy_main-requires-clause-lower : goal.copy_main-requires-clause-lower
copy_main-requires-clause-lower c = λ p x reads.
    looked_low c.args.bound (net_of c.args.graph.now) c.loop-number.number c.loop-number-test.true c.well_formed-2.ensures.net c.requires.stands c.as_slice.result.now (length (net_of c.loop-number.small).nodes) p x reads
    (λ y lt. ap (λ (l : List ℕ). slice_get l y) c.as_slice.ensures.value ∙ c.loop-number.invariant.numbers y lt) c.loop-number.invariant.next

pub copy_main-requires-clause-fits : goal.copy_main-requires-clause-fits
copy_main-requires-clause-fits c =
    node_fits c.args.bound (net_of c.args.graph.now) c.loop-number.number c.loop-number-test.true c.as_slice.result.now (λ y lt. ap (λ (l : List ℕ). slice_get l y) c.as_slice.ensures.value ∙ c.loop-number.invariant.numbers y lt)
    (λ p x r. c.requires.stands.order c.loop-number.number p x c.loop-number-test.true r) (net_of c.loop-number.small) (with_main (net_of c.args.small.now) (first_gate (net_of c.args.graph.now)) c.args.bound (net_of c.args.graph.now)) c.loop-number.invariant.left c.requires.fits

pub loop-number-init : goal.loop-number-init
loop-number-init c = record {
  whole = c.requires.whole;
  after = let first = c.source_count-first.ensures in omega (arith, first);
  within = let first = c.source_count-first.ensures in let early = c.requires.stands.early in omega (arith, first, early);
  size = c.in_ok-numbers.ensures.size;
  numbers = λ x lt. c.in_ok-numbers.ensures.numbers x lt ∙ ap (λ (i : ℕ). Some i) (sym (first_same c.args.bound (net_of c.args.graph.now) c.well_formed-2.ensures.net c.requires.stands.early x (let first = c.source_count-first.ensures in omega (arith, lt, first))));
  next = c.requires.size ∙ (let first = c.source_count-first.ensures in sym (first_same c.args.bound (net_of c.args.graph.now) c.well_formed-2.ensures.net c.requires.stands.early (first_gate (net_of c.args.graph.now)) (omega arith)) ∙ ap (λ (i : ℕ). new_number (main_nodes c.args.bound (net_of c.args.graph.now)) (2 + i)) (sym first));
  left = ap (λ (i : ℕ). with_main (net_of c.args.small.now) (2 + i) c.args.bound (net_of c.args.graph.now)) c.source_count-first.ensures;
}

pub loop-number-preserved : goal.loop-number-preserved
loop-number-preserved c =
    record {
      whole = c.in_ok-copy_main.ensures.whole;
      after = let before = c.loop-number.invariant.after in omega (arith, before);
      within = let low = c.loop-number-test.true in omega (arith, low);
      size = ap (λ (l : List ℕ). length l) c.in_ok-push.ensures.items ∙ (length_push c.loop-number.numbers.items c.node_bound-next.result ∙ (let same = c.loop-number.invariant.size in let done : length c.loop-number.numbers.items + 1 ≡ c.loop-number.number + 1 = omega (arith, same) in done));
      numbers = numbers_step c.args.bound (net_of c.args.graph.now) c.loop-number.number c.loop-number.numbers.items c.push.new.self.items c.node_bound-next.result c.loop-number.invariant.size c.in_ok-push.ensures.items (c.node_bound-next.ensures ∙ c.loop-number.invariant.next) c.loop-number.invariant.numbers;
      next = next_number c.args.bound (net_of c.args.graph.now) c.loop-number.number c.loop-number-test.true c.as_slice.result.now (λ y lt. ap (λ (l : List ℕ). slice_get l y) c.as_slice.ensures.value ∙ c.loop-number.invariant.numbers y lt)
          (λ p x r. c.requires.stands.order c.loop-number.number p x c.loop-number-test.true r) (net_of c.loop-number.small) (with_main (net_of c.args.small.now) (first_gate (net_of c.args.graph.now)) c.args.bound (net_of c.args.graph.now)) c.loop-number.invariant.left
          (net_of c.copy_main.new.small) c.in_ok-copy_main.ensures.net c.loop-number.invariant.next;
      left = main_step c.args.bound (net_of c.args.graph.now) c.loop-number.number c.loop-number-test.true c.as_slice.result.now (λ y lt. ap (λ (l : List ℕ). slice_get l y) c.as_slice.ensures.value ∙ c.loop-number.invariant.numbers y lt)
          (λ p x r. c.requires.stands.order c.loop-number.number p x c.loop-number-test.true r) (net_of c.loop-number.small) (with_main (net_of c.args.small.now) (first_gate (net_of c.args.graph.now)) c.args.bound (net_of c.args.graph.now)) c.loop-number.invariant.left
          (net_of c.copy_main.new.small) c.in_ok-copy_main.ensures.net;
    }

pub returns-clause-net : goal.returns-clause-net
returns-clause-net c = sym (main_end c.args.bound (net_of c.args.graph.now) (net_of c.loop-number.small) c.loop-number.number c.loop-number-test.false) ∙ c.loop-number.invariant.left

pub returns-clause-count : goal.returns-clause-count
returns-clause-count c = let size = c.loop-number.invariant.size in let past = c.loop-number-test.false in let most = c.loop-number.invariant.within in omega (arith, size, past, most)

pub returns-clause-numbers : goal.returns-clause-numbers
returns-clause-numbers c = λ x lt. c.loop-number.invariant.numbers x (let past = c.loop-number-test.false in omega (arith, lt, past))

pub returns-clause-whole : goal.returns-clause-whole
returns-clause-whole c = c.loop-number.invariant.whole
