use Rattle.std.proofs.Common.{ap, arith, false, length, length-set, refl, replicate, sym, ◌∙◌, ◌≡◌}
use Rattle.std.proofs.lemmas.List.{length-replicate}
use Rattle.gate_graph.specs.Circuit.{net_of}
use Rattle.local_evaluation.proofs.Worklists.{none_marked}
use Rattle.local_evaluation.proofs.Reaches.{reached_live, search_ends, search_first, search_less, search_more}
use Rattle.local_evaluation.proofs.reaching.mark_reached.Goals as goal
use Rattle.local_evaluation.specs.Reaching.{MarksReaders}

pub loop-node-init : goal.loop-node-init
loop-node-init c =
    let marked : MarksReaders (net_of c.args.graph.now) c.args.gate.0 (replicate (length c.args.reached.now) false) c.mark_readers.new.reached (replicate (length c.args.worklist.now) false) c.mark_readers.new.worklist =
    rw (← c.clear.ensures, ← c.requires.none) c.mark_readers.ensures.marked in
    record {
      search = search_first (net_of c.args.graph.now) c.args.gate.0 (length c.args.reached.now) (length c.args.worklist.now) c.mark_readers.new.reached c.mark_readers.new.worklist marked;
      size = refl;
      room = refl;
    }

pub mark_readers-requires-in-Some-clause-node : goal.mark_readers-requires-in-Some-clause-node
mark_readers-requires-in-Some-clause-node c =
    reached_live (net_of c.args.graph.now) c.args.gate.0 c.in-Some.node.0 (c.loop-node.invariant.search.sound c.in-Some.node.0 (c.loop-node.invariant.search.within c.in-Some.node.0 c.in-Some.ensures.0))

pub mark_readers-requires-in-Some-clause-marks : goal.mark_readers-requires-in-Some-clause-marks
mark_readers-requires-in-Some-clause-marks c =
    let cleared : length c.clear.new.self ≡ length c.args.reached.now = ap (λ xs. length xs) c.clear.ensures ∙ length-replicate (length c.args.reached.now) false in
    omega (arith, c.requires.marks, c.loop-node.invariant.size, c.mark_readers.ensures.size)

pub mark_readers-requires-in-Some-clause-worklist : goal.mark_readers-requires-in-Some-clause-worklist
mark_readers-requires-in-Some-clause-worklist c =
    let taken : length c.take.new.self ≡ length c.loop-node.worklist = ap (λ xs. length xs) c.in-Some.ensures.1 ∙ length-set c.loop-node.worklist c.in-Some.node.0 false in
    omega (arith, c.requires.worklist, c.loop-node.invariant.room, c.mark_readers.ensures.worklist)

pub loop-node-smaller : goal.loop-node-smaller
loop-node-smaller c =
    search_less c.loop-node.reached c.mark_readers-in-Some.new.reached c.loop-node.worklist c.take.new.self c.mark_readers-in-Some.new.worklist c.in-Some.node.0 c.in-Some.ensures c.mark_readers-in-Some.ensures.marked.less

pub loop-node-preserved : goal.loop-node-preserved
loop-node-preserved c =
    let taken : length c.take.new.self ≡ length c.loop-node.worklist = ap (λ xs. length xs) c.in-Some.ensures.1 ∙ length-set c.loop-node.worklist c.in-Some.node.0 false in
    record {
      search = search_more (net_of c.args.graph.now) c.args.gate.0 c.loop-node.reached c.mark_readers-in-Some.new.reached c.loop-node.worklist c.mark_readers-in-Some.new.worklist c.in-Some.node.0 c.loop-node.invariant.search c.in-Some.ensures.0
          (rw (← c.in-Some.ensures.1) c.mark_readers-in-Some.ensures.marked);
      size = c.mark_readers-in-Some.ensures.size ∙ c.loop-node.invariant.size;
      room = c.mark_readers-in-Some.ensures.worklist ∙ taken ∙ c.loop-node.invariant.room;
    }

pub returns-clause-marked : goal.returns-clause-marked
returns-clause-marked c = search_ends (net_of c.args.graph.now) c.args.gate.0 c.loop-node.reached c.loop-node.worklist c.loop-node.invariant.search c.in_default.ensures.1

pub returns-clause-size : goal.returns-clause-size
returns-clause-size c =
    let cleared : length c.clear.new.self ≡ length c.args.reached.now = ap (λ xs. length xs) c.clear.ensures ∙ length-replicate (length c.args.reached.now) false in
    c.loop-node.invariant.size ∙ c.mark_readers.ensures.size ∙ cleared

pub returns-clause-worklist : goal.returns-clause-worklist
returns-clause-worklist c =
    c.in_default.ensures.0 ∙ none_marked c.loop-node.worklist c.in_default.ensures.1 ∙ ap (λ n. replicate n false) (c.loop-node.invariant.room ∙ c.mark_readers.ensures.worklist) ∙ sym c.requires.none
