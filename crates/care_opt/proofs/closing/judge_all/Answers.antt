use Rattle.std.proofs.Common.{List, [], arith, false, get_or, subst, sym}
use Rattle.std.specs.List.{AllZip}
use Rattle.std.proofs.lemmas.Option.{slice_get-get_or}
use Rattle.gate_graph.specs.Circuit.{net_of}
use Rattle.journal_text.specs.declared.record.Record.{Record}
use Rattle.refutation.specs.Detected.{HasOpenSet}
use Rattle.rm_base.specs.declared.numbers.Fault.{Fault}
use Rattle.care_opt.specs.Done.{IsRecordOf}
use Rattle.care_opt.proofs.Going.{is_none_of, told}
use Rattle.care_opt.proofs.Refuted.{all_judged, open_more, zip_one_more}
use Rattle.care_opt.proofs.closing.judge_all.Goals as goal

abbrev no_fault : Fault
no_fault = record { gate = record { 0 = 0 }; position = 0; value = false }

pub invariant_of-question : goal.invariant_of-question
invariant_of-question c = record { pin = c.requires.pins c.loop-at.at (get_or c.args.faults.now c.loop-at.at no_fault) (slice_get-get_or c.args.faults.now c.loop-at.at no_fault c.loop-at-test.true) }

pub loop-at-init : goal.loop-at-init
loop-at-init c = record { within = omega arith; records = subst (λ (rs : List Record). AllZip (IsRecordOf (net_of c.args.graph.now) c.args.budget) [] rs) (sym c.new-records.ensures.items) tt; unrefuted = λ k fault lt at. absurd (omega (arith, lt)); refutes = c.requires.refutes; kept = c.requires.kept; searches = c.requires.searches; fits = c.requires.fits }

pub returns-in_default-clause-judged : goal.returns-in_default-clause-judged
returns-in_default-clause-judged c =
    ((c.loop-at.at, slice_get-get_or c.args.faults.now c.loop-at.at no_fault c.loop-at-test.true), c.in_ok-found.ensures.refuted (is_none_of c.in_ok-found.found c.in_default.not-Some))

pub loop-at-preserved : goal.loop-at-preserved
loop-at-preserved c = record {
  within = let low = c.loop-at-test.true in omega (arith, low);
  records =
      zip_one_more (IsRecordOf (net_of c.args.graph.now) c.args.budget) c.args.faults.now c.loop-at.records.items c.push.new.self.items c.loop-at.at (get_or c.args.faults.now c.loop-at.at no_fault) c.in-Some.record
      (slice_get-get_or c.args.faults.now c.loop-at.at no_fault c.loop-at-test.true) c.in_ok-push.ensures.items c.loop-at.invariant.records (told (IsRecordOf (net_of c.args.graph.now) c.args.budget (get_or c.args.faults.now c.loop-at.at no_fault)) c.in_ok-found.found c.in-Some.record c.in-Some.is c.in_ok-found.ensures.record);
  unrefuted = open_more (net_of c.args.graph.now) c.args.depth c.args.faults.now c.loop-at.at (get_or c.args.faults.now c.loop-at.at no_fault) (slice_get-get_or c.args.faults.now c.loop-at.at no_fault c.loop-at-test.true) c.loop-at.invariant.unrefuted (told (λ _. HasOpenSet (net_of c.args.graph.now) (get_or c.args.faults.now c.loop-at.at no_fault) c.args.depth) c.in_ok-found.found c.in-Some.record c.in-Some.is c.in_ok-found.ensures.unrefuted);
  refutes = c.in_ok-found.ensures.refutes;
  kept = c.in_ok-found.ensures.kept;
  searches = c.in_ok-found.ensures.searches;
  fits = c.in_ok-found.ensures.fits;
}

pub returns-clause-judged : goal.returns-clause-judged
returns-clause-judged c = all_judged (net_of c.args.graph.now) c.args.depth c.args.budget c.args.faults.now c.loop-at.at c.loop-at.records.items c.loop-at-test.false c.loop-at.invariant.records c.loop-at.invariant.unrefuted
