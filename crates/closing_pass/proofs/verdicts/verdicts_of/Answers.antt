use Rattle.std.proofs.Common.{◌≡◌, ◌<◌, ◌∙◌, Some, false, get_or, slice_get, length, ap, arith}
use Rattle.std.proofs.lemmas.Option.{slice_get-get_or}
use Rattle.rm_base.specs.declared.numbers.Fault.{Fault}
use Rattle.closing_pass.proofs.LastOnes.{verdicts_more}
use Rattle.closing_pass.proofs.Standing.{yielded_below, yielded_more}
use Rattle.closing_pass.proofs.verdicts.verdicts_of.Goals as goal

pub loop-finding-preserved : goal.loop-finding-preserved
loop-finding-preserved c =
    let lt : length c.loop-finding.yielded < length c.args.found.items = yielded_below c.args.found.items c.loop-finding.yielded _ _ c.in-Some.finding c.loop-finding.invariant.all c.in-Some.ensures.steps.0 in
    let d : Fault = record { gate = record { 0 = 0 }; position = 0; value = false } in
    let same : length c.loop-finding.verdicts.items ≡ c.len.result = omega (arith, c.len.ensures, c.loop-finding.verdicts.ok) in
    let there : slice_get c.args.faults.now (length c.loop-finding.verdicts.items) ≡ Some (get_or c.args.faults.now c.len.result d) =
    ap (slice_get c.args.faults.now) same ∙ slice_get-get_or c.args.faults.now c.len.result d (omega (arith, lt, same, c.loop-finding.invariant.done.size, c.requires.size)) in
    record {
      all = yielded_more c.args.found.items c.loop-finding.yielded _ _ c.in-Some.finding c.loop-finding.invariant.all c.in-Some.ensures.steps.0;
      done = rw c.in_ok-push.ensures.items (verdicts_more c.args.kept.now c.args.faults.now c.loop-finding.yielded c.in-Some.finding c.loop-finding.verdicts.items (get_or c.args.faults.now c.len.result d) c.in_ok-verdict.verdict c.loop-finding.invariant.done there c.in_ok-verdict.ensures);
    }
