use Rattle.std.proofs.Common.{List, ap, arith, drop, length, map, refl, sym, ℕ, ◌+◌, ◌<◌, ◌∙◌, ◌≡◌, ◌≤◌}
use Rattle.gate_graph.specs.Circuit.{net_of}
use Rattle.gate_net.specs.Net.{Node, node_at}
use Rattle.rm_base.proofs.Public.{drop_end}
use Rattle.std.specs.Prelude.{Option}
use Rattle.joined_nets.specs.Growing.{with_nodes}
use Rattle.joined_nets.specs.Joined.{node_moved}
use Rattle.joined_nets.proofs.Both.{copy_step, is_gate, one_longer, step_fits}
use Rattle.joined_nets.proofs.Growing.{with_none}
use Rattle.joined_nets.proofs.copying.add_gates.Goals as goal

pub copy_gate-requires-clause-gate : goal.copy_gate-requires-clause-gate
copy_gate-requires-clause-gate c =
    let lt : c.loop-number.number < length (net_of c.args.from.now).nodes = let low = c.loop-number-test.true in let bound = c.node_bound-number-end.ensures in omega (arith, low, bound) in
    is_gate (net_of c.args.from.now) c.loop-number.number c.well_formed-2.ensures.net c.requires.order.no_gaps
    (let after = c.loop-number.invariant.after in let first = c.requires.first in omega (arith, after, first)) lt

pub copy_gate-requires-clause-next : goal.copy_gate-requires-clause-next
copy_gate-requires-clause-next c = c.loop-number.invariant.next

pub copy_gate-requires-clause-small : goal.copy_gate-requires-clause-small
copy_gate-requires-clause-small c =
    let low = c.loop-number-test.true in
    let bound = c.node_bound-number-end.ensures in
    let small = c.requires.small in
    omega (arith, low, bound, small)

pub copy_gate-requires-clause-fits : goal.copy_gate-requires-clause-fits
copy_gate-requires-clause-fits c =
    let lt : c.loop-number.number < length (net_of c.args.from.now).nodes = let low = c.loop-number-test.true in let bound = c.node_bound-number-end.ensures in omega (arith, low, bound) in
    step_fits (net_of c.loop-number.graph) (with_nodes (net_of c.args.graph.now) (map (node_moved c.args.first c.args.count) (drop c.args.first (net_of c.args.from.now).nodes))) (net_of c.args.from.now)
    (node_moved c.args.first c.args.count) c.loop-number.number lt c.loop-number.invariant.left c.requires.fits

pub loop-number-init : goal.loop-number-init
loop-number-init c = record {
  whole = c.requires.whole;
  after = let same : c.args.first ≡ c.args.first = refl in omega (arith, same);
  next = ap (λ (i : ℕ). i + c.args.first) (sym c.requires.count);
  left = refl;
}

pub loop-number-preserved : goal.loop-number-preserved
loop-number-preserved c =
    let lt : c.loop-number.number < length (net_of c.args.from.now).nodes = let low = c.loop-number-test.true in let bound = c.node_bound-number-end.ensures in omega (arith, low, bound) in
    let f = node_moved c.args.first c.args.count in
    record {
      whole = c.in_ok-copy_gate.ensures.whole;
      after = let before = c.loop-number.invariant.after in omega (arith, before);
      next =
          let longer = one_longer (net_of c.loop-number.graph) (net_of c.copy_gate.new.graph) (f (node_at (net_of c.args.from.now) c.loop-number.number)) c.in_ok-copy_gate.ensures.net in
          let before = c.loop-number.invariant.next in omega (arith, longer, before);
      left =
          copy_step (net_of c.loop-number.graph) (with_nodes (net_of c.args.graph.now) (map f (drop c.args.first (net_of c.args.from.now).nodes))) (net_of c.args.from.now) f c.loop-number.number lt c.loop-number.invariant.left
          (net_of c.copy_gate.new.graph) c.in_ok-copy_gate.ensures.net;
    }

pub returns-clause-net : goal.returns-clause-net
returns-clause-net c =
    let f = node_moved c.args.first c.args.count in
    let ended : length (net_of c.args.from.now).nodes ≤ c.loop-number.number = let past = c.loop-number-test.false in let bound = c.node_bound-number-end.ensures in omega (arith, past, bound) in
    sym (with_none (net_of c.loop-number.graph))
    ∙ (ap (λ (l : List (Option Node)). with_nodes (net_of c.loop-number.graph) (map f l)) (sym (drop_end (net_of c.args.from.now).nodes c.loop-number.number ended)) ∙ c.loop-number.invariant.left)

pub returns-clause-whole : goal.returns-clause-whole
returns-clause-whole c = c.loop-number.invariant.whole
