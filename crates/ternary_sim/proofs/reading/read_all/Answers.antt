use Rattle.std.proofs.Common.{◌<◌, ◌∙◌, length-set, List, subst, get_or, sym, arith}
use Rattle.gate_graph.specs.Circuit.{net_of}
use Rattle.local_evaluation.specs.Pins.{AreBelow}
use Rattle.gate_net.specs.Net.{drivers_of}
use Rattle.std.proofs.Common.{length}
use Rattle.ternary_sim.specs.declared.marks.NodeMarks.{NodeMarks}
use Rattle.ternary_sim.specs.Marks.{IsReadAt, known_source, marking}
use Rattle.ternary_sim.proofs.InOrder.{read_more, walk_from}
use Rattle.ternary_sim.proofs.Loops.{drivers_marked, marked_more}
use Rattle.ternary_sim.proofs.reading.read_all.Goals as goal
use Rattle.rm_base.proofs.Public.{number_at}
use Rattle.rm_base.specs.Numbers.{numbers_of}
use Rattle.rm_base.specs.Inner.Numbers.{default_node}

pub read_node-read-requires-clause-live : goal.read_node-read-requires-clause-live
read_node-read-requires-clause-live c =
    (walk_from (net_of c.args.graph.now) (numbers_of c.args.order.now) c.well_formed-2.ensures.net c.requires.order).live c.loop-node.node-index (get_or c.args.order.now c.loop-node.node-index default_node).0 (number_at c.args.order.now c.loop-node.node-index default_node c.loop-node-test.true)

pub read_node-read-requires-clause-drivers : goal.read_node-read-requires-clause-drivers
read_node-read-requires-clause-drivers c =
    let P : List NodeMarks → Type 0 = λ ms. AreBelow (drivers_of (net_of c.args.graph.now) (get_or c.args.order.now c.loop-node.node-index default_node).0) (length ms) in
    subst P (sym c.as_slice.ensures.value)
    (drivers_marked (net_of c.args.graph.now) (numbers_of c.args.order.now) c.loop-node.marks.items (walk_from (net_of c.args.graph.now) (numbers_of c.args.order.now) c.well_formed-2.ensures.net c.requires.order) c.loop-node.invariant.marked c.loop-node.node-index
    (get_or c.args.order.now c.loop-node.node-index default_node).0 (number_at c.args.order.now c.loop-node.node-index default_node c.loop-node-test.true))

pub index_mut-requires : goal.index_mut-requires
index_mut-requires c =
    let within : (get_or c.args.order.now c.loop-node.node-index default_node).0 < length c.loop-node.marks.items = c.loop-node.invariant.marked.within c.loop-node.node-index (get_or c.args.order.now c.loop-node.node-index default_node).0 (number_at c.args.order.now c.loop-node.node-index default_node c.loop-node-test.true) in
    omega (arith, within)

pub loop-node-preserved : goal.loop-node-preserved
loop-node-preserved c =
    let P : List NodeMarks → Type 0 = λ ms. IsReadAt (net_of c.args.graph.now) c.args.fault.now (known_source c.args.sources.now) (marking ms) (get_or c.args.order.now c.loop-node.node-index default_node).0 c.read_node-read.result in
    record {
      read = read_more (net_of c.args.graph.now) c.args.fault.now (known_source c.args.sources.now) (numbers_of c.args.order.now) (walk_from (net_of c.args.graph.now) (numbers_of c.args.order.now) c.well_formed-2.ensures.net c.requires.order) c.loop-node.marks.items c.loop-node.node-index
          (get_or c.args.order.now c.loop-node.node-index default_node).0 c.read_node-read.result
          (number_at c.args.order.now c.loop-node.node-index default_node c.loop-node-test.true)
          (c.loop-node.invariant.marked.within c.loop-node.node-index (get_or c.args.order.now c.loop-node.node-index default_node).0 (number_at c.args.order.now c.loop-node.node-index default_node c.loop-node-test.true))
          c.loop-node.invariant.read (subst P c.as_slice.ensures.value c.read_node-read.ensures);
      marked = marked_more (numbers_of c.args.order.now) c.loop-node.marks.items c.loop-node.node-index (get_or c.args.order.now c.loop-node.node-index default_node).0 c.read_node-read.result
          (number_at c.args.order.now c.loop-node.node-index default_node c.loop-node-test.true) c.loop-node.invariant.marked;
      size = length-set c.loop-node.marks.items (get_or c.args.order.now c.loop-node.node-index default_node).0 c.read_node-read.result ∙ c.loop-node.invariant.size;
    }
