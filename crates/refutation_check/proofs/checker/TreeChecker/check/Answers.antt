use Rattle.std.proofs.Common.{Err, ap, arith, inl, inr, subst, ◌≡◌, ◌≢◌, ◌≤◌}
use Rattle.std.proofs.lemmas.Result.{err_from_is_err_and}
use Rattle.gate_graph.specs.Circuit.{net_of}
use Rattle.gate_net.specs.Net.{source_count}
use Rattle.refutation.specs.declared.items.Form.{Form}
use Rattle.refutation_check.proofs.OneRefusal.{memory_or}
use Rattle.refutation_check.proofs.Sizes.{accepted_small}
use Rattle.refutation_check.specs.FirstRefusal.{IsAcceptedAs}
use Rattle.refutation_check.specs.declared.refusals.CheckRefusal.TheVariants.{NoMemory}
use Rattle.refutation_check.proofs.checker.TreeChecker.check.Goals as goal

pub shape_of-requires : goal.shape_of-requires
shape_of-requires c =
    let few : source_count (net_of c.args.question.now.graph.now) ≤ 4294967295 = omega arith in
    accepted_small c.edges_are_few.ensures.untried (net_of c.args.question.now.graph.now) c.args.question.now.fault c.args.form c.items-items.result.now c.well_formed-2.ensures.net.sources few
    ((c.readings_accept.ensures (net_of c.args.question.now.graph.now) c.args.question.now.fault c.args.form c.items-items.result.now).0 c.in_ok-read.ensures.ok)

pub returns-clause-undetected : goal.returns-clause-undetected
returns-clause-undetected c closed =
    let P : Form → Type 0 = λ form. IsAcceptedAs form (net_of c.args.question.now.graph.now) c.args.question.now.fault c.items-items.result.now in
    let accepted : P c.args.form = (c.readings_accept.ensures (net_of c.args.question.now.graph.now) c.args.question.now.fault c.args.form c.items-items.result.now).0 c.in_ok-read.ensures.ok in
    c.trees_refute.ensures (net_of c.args.question.now.graph.now) c.args.question.now.fault c.args.question.now.pin.0 c.items-items.result.now c.well_formed-2.ensures.net.acyclic c.args.question.now.pin.1 (subst P closed accepted)

pub returns-in_err-read-clause-first : goal.returns-in_err-read-clause-first
returns-in_err-read-clause-first c r first =
    let p = err_from_is_err_and c.from_residual.result c.from_residual.ensures.1 in
    let same : c.in_err-read.field-0.0 ≢ NoMemory → c.in_err-read.field-0.0 ≡ r =
    λ ne. c.refusals_agree.ensures.one (net_of c.args.question.now.graph.now) c.args.question.now.fault c.args.form c.items-items.result.now c.in_err-read.field-0.0 r (c.in_err-read.ensures.err ne) (rw c.items-items.ensures first) in
    rw (p.1, p.2)
    (elim (memory_or c.in_err-read.field-0.0 r same) [
      | inl e ↦ inl (ap Err e)
      | inr e ↦ inr (ap Err e)
    ])

pub returns-clause-first : goal.returns-clause-first
returns-clause-first c r first =
    absurd (c.refusals_agree.ensures.none (net_of c.args.question.now.graph.now) c.args.question.now.fault c.args.form c.items-items.result.now r ((c.readings_accept.ensures (net_of c.args.question.now.graph.now) c.args.question.now.fault c.args.form c.items-items.result.now).0 c.in_ok-read.ensures.ok) (rw c.items-items.ensures first))
