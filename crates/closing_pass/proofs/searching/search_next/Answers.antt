use Rattle.std.proofs.Common.{◌≤◌, ◌<◌, ◌∙◌, List, [], drop, length, sym, subst, arith}
use Rattle.std.proofs.lemmas.Option.{slice_get_within}
use Rattle.std.specs.List.{AllZip}
use Rattle.std.specs.Vec.Iter.{into_iter_items}
use Rattle.gate_graph.specs.Circuit.{net_of}
use Rattle.podem.specs.declared.verdict.Verdict.{Verdict}
use Rattle.closing_pass.specs.Inner.Findings.{AreChosen}
use Rattle.closing_pass.specs.Verdicts.{HavePins, IsAnswer}
use Rattle.closing_pass.proofs.Standing.{empty_is, zip_end}
use Rattle.closing_pass.proofs.Taking.{IsNext, chosen_pins, next_is, next_refuted, taken_all, taking_more}
use Rattle.closing_pass.proofs.searching.search_next.Goals as goal

pub answer_batch-requires-clause-pins : goal.answer_batch-requires-clause-pins
answer_batch-requires-clause-pins g c κs within =
    let of : AreChosen c.args.faults.now c.args.found.now.items c.args.next.now c.in_ok-chosen.chosen = rw c.deref.ensures.value at c.in_ok-chosen.ensures.chosen in
    subst (HavePins (net_of c.args.graph.now)) (sym c.as_slice.ensures.value) (chosen_pins (net_of c.args.graph.now) c.args.faults.now c.args.found.now.items c.args.next.now c.in_ok-chosen.chosen of c.requires.pins)

pub take_one-requires : goal.take_one-requires
take_one-requires g c =
    let of : AreChosen c.args.faults.now c.args.found.now.items c.args.next.now c.in_ok-chosen.chosen = rw c.deref.ensures.value at c.in_ok-chosen.ensures.chosen in
    let n : IsNext (net_of c.args.graph.now) c.args.settings.now.budget c.args.faults.now c.args.found.now.items c.in_ok-chosen.chosen c.loop-verdict.at c.index.result.now c.in-Some.verdict (into_iter_items c.next.new.self) =
    next_is (net_of c.args.graph.now) c.args.settings.now.budget c.args.faults.now c.args.found.now.items c.args.next.now c.in_ok-chosen.chosen c.loop-verdict.at c.index.result.now (into_iter_items c.loop-verdict.verdict-iterator) c.in-Some.verdict (into_iter_items c.next.new.self) of c.loop-verdict.invariant.rest c.in-Some.ensures.steps.0 c.index.ensures in
    let lt : c.index.result.now < length c.args.faults.now = slice_get_within c.args.faults.now c.index.result.now n.fault n.fault_is in
    record { place = omega (arith, lt, c.loop-verdict.invariant.taking.findings.size) }

pub returns-in-Some-2-clause-searched : goal.returns-in-Some-2-clause-searched
returns-in-Some-2-clause-searched g c =
    let of : AreChosen c.args.faults.now c.args.found.now.items c.args.next.now c.in_ok-chosen.chosen = rw c.deref.ensures.value at c.in_ok-chosen.ensures.chosen in
    let n : IsNext (net_of c.args.graph.now) c.args.settings.now.budget c.args.faults.now c.args.found.now.items c.in_ok-chosen.chosen c.loop-verdict.at c.index.result.now c.in-Some.verdict (into_iter_items c.next.new.self) =
    next_is (net_of c.args.graph.now) c.args.settings.now.budget c.args.faults.now c.args.found.now.items c.args.next.now c.in_ok-chosen.chosen c.loop-verdict.at c.index.result.now (into_iter_items c.loop-verdict.verdict-iterator) c.in-Some.verdict (into_iter_items c.next.new.self) of c.loop-verdict.invariant.rest c.in-Some.ensures.steps.0 c.index.ensures in
    next_refuted (net_of c.args.graph.now) c.args.settings.now.budget c.args.faults.now c.args.found.now.items c.in_ok-chosen.chosen c.loop-verdict.at c.index.result.now c.in-Some.verdict (into_iter_items c.next.new.self) c.index-in-Some-2.result.now c.in-Some-2.tree c.requires.pins n c.index-in-Some-2.ensures
    (sym c.in_ok-tree.ensures.tree ∙ c.in-Some-2.is)

pub loop-verdict-preserved : goal.loop-verdict-preserved
loop-verdict-preserved g c =
    let of : AreChosen c.args.faults.now c.args.found.now.items c.args.next.now c.in_ok-chosen.chosen = rw c.deref.ensures.value at c.in_ok-chosen.ensures.chosen in
    let n : IsNext (net_of c.args.graph.now) c.args.settings.now.budget c.args.faults.now c.args.found.now.items c.in_ok-chosen.chosen c.loop-verdict.at c.index.result.now c.in-Some.verdict (into_iter_items c.next.new.self) =
    next_is (net_of c.args.graph.now) c.args.settings.now.budget c.args.faults.now c.args.found.now.items c.args.next.now c.in_ok-chosen.chosen c.loop-verdict.at c.index.result.now (into_iter_items c.loop-verdict.verdict-iterator) c.in-Some.verdict (into_iter_items c.next.new.self) of c.loop-verdict.invariant.rest c.in-Some.ensures.steps.0 c.index.ensures in
    record {
      rest = n.others;
      taking = taking_more (net_of c.args.graph.now) c.args.settings.now.budget (length c.args.kept.now.items) c.loop-verdict.kept.items c.take_one.new.kept.items c.args.faults.now c.args.found.now.items c.loop-verdict.found.items c.take_one.new.found.items
          c.in_ok-chosen.chosen.places.items c.loop-verdict.at c.index.result.now n.fault c.in-Some.verdict c.loop-verdict.invariant.taking n.place_is n.fault_is n.was n.answer (sym c.in_ok-tree.ensures.tree ∙ c.in_default.is) c.in_ok-tree.ensures.taken;
    }

pub returns-clause-searched : goal.returns-clause-searched
returns-clause-searched g c =
    let of : AreChosen c.args.faults.now c.args.found.now.items c.args.next.now c.in_ok-chosen.chosen = rw c.deref.ensures.value at c.in_ok-chosen.ensures.chosen in
    let none : AllZip (IsAnswer (net_of c.args.graph.now) c.args.settings.now.budget) (drop c.loop-verdict.at c.in_ok-chosen.chosen.faults.items) [] =
    subst (λ (vs : List Verdict). AllZip (IsAnswer (net_of c.args.graph.now) c.args.settings.now.budget) (drop c.loop-verdict.at c.in_ok-chosen.chosen.faults.items) vs)
    (empty_is (into_iter_items c.loop-verdict.verdict-iterator) (omega (arith, c.in-None.ensures.steps.0, c.loop-verdict.verdict-iterator.rest.ok.0))) c.loop-verdict.invariant.rest in
    let le : length c.in_ok-chosen.chosen.faults.items ≤ c.loop-verdict.at = zip_end (IsAnswer (net_of c.args.graph.now) c.args.settings.now.budget) c.in_ok-chosen.chosen.faults.items c.loop-verdict.at none in (
      taken_all (net_of c.args.graph.now) c.args.settings.now.budget (length c.args.kept.now.items) c.loop-verdict.kept.items c.args.faults.now c.args.found.now.items c.loop-verdict.found.items c.args.next.now c.in_ok-chosen.chosen c.loop-verdict.at
          c.loop-verdict.invariant.taking (omega (arith, le, of.same)) of c.requires.come.closed,
      c.in_ok-chosen.ensures.next,
    )
