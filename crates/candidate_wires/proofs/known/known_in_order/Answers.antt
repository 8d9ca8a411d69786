use Rattle.std.proofs.Common.{Some, arith, get_or, length, subst, ℕ, ◌≡◌}
use Rattle.std.specs.Prelude.{slice_get}
use Rattle.std.proofs.lemmas.Option.{slice_get-get_or}
use Rattle.gate_graph.specs.Circuit.{net_of}
use Rattle.refutation.specs.FactSets.{held_by}
use Rattle.candidate_wires.proofs.InOrder.{AreSeen, known_on, none_after, none_between, seen_more}
use Rattle.candidate_wires.proofs.known.known_in_order.Goals as goal

pub loop-number-preserved : goal.loop-number-preserved
loop-number-preserved c =
    let inv = c.loop-number.invariant in
    let at : slice_get c.args.numbers.now c.loop-number.number-index ≡ Some (get_or c.args.numbers.now c.loop-number.number-index _) = slice_get-get_or c.args.numbers.now c.loop-number.number-index _ c.loop-number-test.true in
    record {
      known = c.in_ok-look_on.ensures.known inv.known (λ below. none_between (net_of c.args.graph.now) (held_by c.args.facts.now) c.args.numbers.now c.loop-number.number-index _ c.loop-number.next c.requires.order c.requires.all inv.seen at below);
      bound = c.in_ok-look_on.ensures.bound;
      seen = seen_more (net_of c.args.graph.now) c.args.numbers.now c.loop-number.number-index _ c.loop-number.next c.look_on.new.next inv.seen at c.in_ok-look_on.ensures.grows c.in_ok-look_on.ensures.seen;
    }

pub returns : goal.returns
returns c =
    let inv = c.loop-number.invariant in
    let all : c.loop-number.number-index ≡ length c.args.numbers.now = omega (arith, c.loop-number-test.false, c.loop-number.auto.number-index-end) in
    known_on (net_of c.args.graph.now) (held_by c.args.facts.now) c.loop-number.next _ c.loop-number.nodes.items inv.known inv.bound
    (none_after (net_of c.args.graph.now) (held_by c.args.facts.now) c.args.numbers.now c.loop-number.next c.requires.all (subst (λ (n : ℕ). AreSeen (net_of c.args.graph.now) c.args.numbers.now n c.loop-number.next) all inv.seen))
