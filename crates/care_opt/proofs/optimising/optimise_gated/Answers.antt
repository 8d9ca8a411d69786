use Rattle.std.proofs.Common.{ap, arith, length, subst, sym, ◌∙◌}
use Rattle.gate_graph.specs.Circuit.{Circuit, net_of}
use Rattle.gate_net.specs.Net.{wire_count}
use Rattle.journal_text.specs.Runs.{none_made}
use Rattle.care_opt.specs.Extract.{extract}
use Rattle.care_opt.specs.Inner.Standing.{IsExtractable}
use Rattle.care_opt.proofs.Finishing.{extractable, few_observed, few_wires, worked_on}
use Rattle.care_opt.proofs.optimising.optimise_gated.Goals as goal

pub work_alone-requires-clause-few : goal.work_alone-requires-clause-few
work_alone-requires-clause-few c = let few = c.in_ok-trial.ensures.few in omega (arith, few)

pub step_count-requires : goal.step_count-requires
step_count-requires c =
    let few = c.in_ok-trial.ensures.few in
    let spent = c.in_ok-records.ensures.works.spent in
    omega (arith, few, spent)

pub extract_graph-requires-clause-stands : goal.extract_graph-requires-clause-stands
extract_graph-requires-clause-stands c =
    subst (λ (v : Circuit). IsExtractable c.args.bound (net_of v)) (sym c.graph.ensures)
    (extractable c.steps_keep.ensures.form c.steps_keep.ensures.sources c.args.bound (net_of c.args.graph) c.in_ok-trial.trial c.work_alone.new.trial none_made c.work_alone.new.made c.requires.gated c.in_ok-trial.ensures.net c.in_ok-records.ensures.works)

pub extract_graph-requires-clause-wires : goal.extract_graph-requires-clause-wires
extract_graph-requires-clause-wires c =
    let wires = few_wires c.steps_keep.ensures.form c.tidying_ends.ensures.wires c.args.bound (net_of c.args.graph) c.in_ok-trial.trial c.work_alone.new.trial none_made c.work_alone.new.made c.well_formed-2.ensures.net c.in_ok-trial.ensures.net c.in_ok-records.ensures.works in
    let same = ap (λ (v : Circuit). wire_count (net_of v)) c.graph.ensures in
    let pins = c.well_formed-2.ensures.pins in
    let few = c.requires.few in
    omega (arith, wires, same, pins, few)

pub extract_graph-requires-clause-observed : goal.extract_graph-requires-clause-observed
extract_graph-requires-clause-observed c =
    let few = few_observed c.steps_keep.ensures.form c.steps_keep.ensures.sources c.args.bound (net_of c.args.graph) c.in_ok-trial.trial c.work_alone.new.trial none_made c.work_alone.new.made c.requires.gated c.in_ok-trial.ensures.net c.in_ok-records.ensures.works in
    let size = ap (λ (v : Circuit). length (net_of v).observed) c.graph.ensures in
    omega (arith, few, size)

pub returns : goal.returns
returns c = (
  net_of c.work_alone.new.trial.graph,
  (
    worked_on c.args.bound (net_of c.args.graph) c.args.depth c.args.budget c.in_ok-trial.trial c.work_alone.new.trial c.work_alone.new.made c.step_count.result c.in_ok-records.records.items c.step_count.ensures c.in_ok-trial.ensures.net c.in_ok-records.ensures.works c.in_ok-records.ensures.tidy
        c.in_ok-records.ensures.records c.in_ok-records.ensures.unrefuted,
    c.in_ok-small.ensures.net ∙ ap (λ (v : Circuit). extract c.args.bound (net_of v)) c.graph.ensures,
  ),
)
