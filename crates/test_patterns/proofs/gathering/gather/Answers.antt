use Rattle.std.proofs.Common.{◌+◌, ◌∙◌, refl, subst, sym}
use Rattle.gate_graph.specs.Circuit.{net_of}
use Rattle.fault_sim.specs.LaneStates.{LaneState}
use Rattle.test_patterns.specs.Inner.Groups.{AreGatheredBefore}
use Rattle.test_patterns.proofs.Gathered.{gathered_all, gathered_none}
use Rattle.test_patterns.proofs.gathering.gather.Goals as goal

pub loop-at-init : goal.loop-at-init
loop-at-init c = (rw c.new-caught.ensures.items (gathered_none (net_of c.args.graph.now) c.args.faults.now c.args.numbers.now c.args.firsts.now c.args.lanes.now.words), refl)

pub loop-at-preserved : goal.loop-at-preserved
loop-at-preserved c =
    let before = subst (λ (s : LaneState). AreGatheredBefore (net_of c.args.graph.now) c.args.faults.now c.args.numbers.now c.args.firsts.now s.words c.loop-at.caught.items c.loop-at.at) (sym c.loop-at.invariant.1) c.loop-at.invariant.0 in (
      subst (λ (s : LaneState). AreGatheredBefore (net_of c.args.graph.now) c.args.faults.now c.args.numbers.now c.args.firsts.now s.words c.gather_one.new.caught.items (c.loop-at.at + 1)) c.loop-at.invariant.1
          (c.in_ok-gather_one.ensures.gathered before),
      c.gather_one.ensures.same ∙ c.loop-at.invariant.1,
    )

pub returns-clause-gathered : goal.returns-clause-gathered
returns-clause-gathered c = gathered_all (net_of c.args.graph.now) c.args.faults.now c.args.numbers.now c.args.firsts.now c.args.lanes.now.words c.loop-at.caught.items c.loop-at.at c.loop-at-test.false c.loop-at.invariant.0
