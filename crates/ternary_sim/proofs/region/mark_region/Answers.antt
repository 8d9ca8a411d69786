use Rattle.std.proofs.Common.{ap, false, length, length-set, replicate, sym, ◌∙◌, ◌≡◌}
use Rattle.gate_graph.specs.Circuit.{net_of}
use Rattle.local_evaluation.proofs.Public.{none_marked, search_less}
use Rattle.ternary_sim.proofs.Spreading.{concerned_live, spread_ends, spread_more}
use Rattle.ternary_sim.proofs.region.mark_region.Goals as goal

pub mark_drivers-requires-clause-node : goal.mark_drivers-requires-clause-node
mark_drivers-requires-clause-node c =
    concerned_live (net_of c.args.question.now.graph.now) c.args.question.now.fault c.well_formed-2.ensures.net c.requires.gate c.in-Some.node.0 (c.loop-node.invariant.spread.sound c.in-Some.node.0 (c.loop-node.invariant.spread.within c.in-Some.node.0 c.in-Some.ensures.0))

pub loop-node-smaller : goal.loop-node-smaller
loop-node-smaller c =
    search_less c.loop-node.marks c.mark_drivers.new.marks c.loop-node.waiting c.take.new.self c.mark_drivers.new.waiting c.in-Some.node.0 c.in-Some.ensures c.mark_drivers.ensures.marked.less

pub loop-node-preserved : goal.loop-node-preserved
loop-node-preserved c =
    let taken : length c.take.new.self ≡ length c.loop-node.waiting = ap (λ xs. length xs) c.in-Some.ensures.1 ∙ length-set c.loop-node.waiting c.in-Some.node.0 false in
    record {
      spread = spread_more (net_of c.args.question.now.graph.now) c.args.question.now.fault c.loop-node.marks c.mark_drivers.new.marks c.loop-node.waiting c.mark_drivers.new.waiting c.in-Some.node.0 c.loop-node.invariant.spread c.in-Some.ensures.0
          (rw (← c.in-Some.ensures.1) c.mark_drivers.ensures.marked);
      size = c.mark_drivers.ensures.size ∙ c.loop-node.invariant.size;
      room = c.mark_drivers.ensures.room ∙ taken ∙ c.loop-node.invariant.room;
    }

pub returns-clause-marked : goal.returns-clause-marked
returns-clause-marked c = spread_ends (net_of c.args.question.now.graph.now) c.args.question.now.fault c.loop-node.marks c.loop-node.waiting c.loop-node.invariant.spread c.in_default.ensures.1

pub returns-clause-waiting : goal.returns-clause-waiting
returns-clause-waiting c =
    c.in_default.ensures.0 ∙ none_marked c.loop-node.waiting c.in_default.ensures.1 ∙ ap (λ n. replicate n false) (c.loop-node.invariant.room ∙ c.mark_touched.ensures.room) ∙ sym c.requires.none
