use Rattle.std.proofs.Common.{ap, arith, false, length, length-set, ℕ, ◌<◌, ◌∙◌, ◌≡◌, ◌≤◌}
use Rattle.gate_graph.specs.Circuit.{net_of}
use Rattle.refutation.proofs.Public.{clear_less}
use Rattle.implications.proofs.Steps.{all_settled, keeps_join, outcome_none, work_take, works_join}
use Rattle.implications.proofs.settling.work_off.Goals as goal
use Rattle.implications.specs.Inner.Working.{work}

pub returns-in_err-clash-clause-keeps : goal.returns-in_err-clash-clause-keeps
returns-in_err-clash-clause-keeps c = keeps_join c.args.facts.now c.args.log.now.trail.items c.loop-node.facts c.loop-node.log.trail.items c.settle.new.facts c.settle.new.log.trail.items c.loop-node.invariant.state.keeps c.settle.ensures.keeps

pub returns-in-Some-2-clause-keeps : goal.returns-in-Some-2-clause-keeps
returns-in-Some-2-clause-keeps c = keeps_join c.args.facts.now c.args.log.now.trail.items c.loop-node.facts c.loop-node.log.trail.items c.settle.new.facts c.settle.new.log.trail.items c.loop-node.invariant.state.keeps c.settle.ensures.keeps

pub loop-node-smaller : goal.loop-node-smaller
loop-node-smaller c =
    let same : length c.take.new.self ≡ length c.loop-node.worklist = ap (λ xs. length xs) c.in-Some.ensures.1 ∙ length-set c.loop-node.worklist c.in-Some.node.0 false in
    let taken : work c.loop-node.facts c.take.new.self < work c.loop-node.facts c.loop-node.worklist = work_take c.loop-node.facts c.loop-node.worklist c.take.new.self same (clear_less c.loop-node.worklist c.take.new.self c.in-Some.node.0 c.in-Some.ensures) in
    let less : work c.settle.new.facts c.settle.new.worklist ≤ work c.loop-node.facts c.take.new.self = c.in_ok-clash.ensures.less in
    at (work c.settle.new.facts c.settle.new.worklist) (work c.loop-node.facts c.take.new.self) (work c.loop-node.facts c.loop-node.worklist) less taken
  where
    at : (a b d : ℕ) → a ≤ b → b < d → a < d
    at a b d h k = omega arith

pub loop-node-preserved : goal.loop-node-preserved
loop-node-preserved c =
    let outcome = outcome_none (net_of c.args.question.now.graph.now) c.args.question.now.fault c.settle.new.facts c.settle.new.worklist c.in_ok-clash.field-0 c.in-None.is c.in_ok-clash.ensures.outcome in
    let same : length c.take.new.self ≡ length c.loop-node.worklist = ap (λ xs. length xs) c.in-Some.ensures.1 ∙ length-set c.loop-node.worklist c.in-Some.node.0 false in
    record {
      state = record {
        works = works_join (net_of c.args.question.now.graph.now) c.args.question.now.fault c.args.facts.now c.args.log.now.lines.items c.loop-node.facts c.loop-node.log.lines.items c.settle.new.facts c.settle.new.log.lines.items c.loop-node.invariant.state.works c.in_ok-clash.ensures.works;
        keeps = keeps_join c.args.facts.now c.args.log.now.trail.items c.loop-node.facts c.loop-node.log.trail.items c.settle.new.facts c.settle.new.log.trail.items c.loop-node.invariant.state.keeps c.settle.ensures.keeps;
        pending = outcome.0;
        free = outcome.1;
        same = c.settle.ensures.size ∙ same ∙ c.loop-node.invariant.state.same;
      };
      tallied = c.in_ok-clash.ensures.tallied;
      room = c.settle.ensures.room ∙ c.loop-node.invariant.room;
    }

pub returns-clause-ending : goal.returns-clause-ending
returns-clause-ending c = (all_settled (net_of c.args.question.now.graph.now) c.args.question.now.fault c.loop-node.facts c.loop-node.worklist c.loop-node.invariant.state.pending c.in_default.ensures.1, c.loop-node.invariant.state.free)

pub returns-in_err-clash-clause-room : goal.returns-in_err-clash-clause-room
returns-in_err-clash-clause-room c = c.settle.ensures.room ∙ c.loop-node.invariant.room

pub returns-in-Some-2-clause-room : goal.returns-in-Some-2-clause-room
returns-in-Some-2-clause-room c = c.settle.ensures.room ∙ c.loop-node.invariant.room
