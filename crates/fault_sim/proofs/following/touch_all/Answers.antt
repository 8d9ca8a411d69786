use Rattle.std.proofs.Common.{arith, get_or, length, refl, subst, ℕ, ◌<◌, ◌∙◌, ◌≡◌}
use Rattle.std.specs.Prelude.{slice_index}
use Rattle.gate_graph.specs.Circuit.{net_of}
use Rattle.fault_sim.proofs.CatchingUp.{place_below, place_within, touched_more, touched_none}
use Rattle.fault_sim.specs.Following.{AreTouched}
use Rattle.fault_sim.proofs.following.touch_all.Goals as goal
use Rattle.rm_base.proofs.Public.{number_at}
use Rattle.rm_base.specs.Numbers.{numbers_of}
use Rattle.rm_base.specs.Inner.Numbers.{default_node}

pub touch-requires-clause-within : goal.touch-requires-clause-within
touch-requires-clause-within c live = place_within (net_of c.args.graph.now) (numbers_of c.args.order.now) c.args.places.now c.requires.order c.requires.within _ live

pub touch-requires-clause-room : goal.touch-requires-clause-room
touch-requires-clause-room c live =
    let below : slice_index c.args.places.now (get_or c.args.changed.now c.loop-node.node-index default_node).0 < length (numbers_of c.args.order.now) = place_below (net_of c.args.graph.now) (numbers_of c.args.order.now) c.args.places.now c.requires.order c.requires.places _ live in
    omega (arith, below, c.requires.room, c.loop-node.invariant.pending)

pub loop-node-init : goal.loop-node-init
loop-node-init c = record {
  touched = touched_none (net_of c.args.graph.now) (numbers_of c.args.order.now) c.args.places.now (numbers_of c.args.changed.now) c.args.good.now.items c.args.pending.now.items c.requires.idle;
  good = refl;
  pending = refl;
}

pub loop-node-preserved : goal.loop-node-preserved
loop-node-preserved c = record {
  touched = touched_more (net_of c.args.graph.now) (numbers_of c.args.order.now) c.args.places.now (numbers_of c.args.changed.now) c.args.good.now.items c.loop-node.good.items c.loop-node.pending.items c.touch.new.good.items c.touch.new.pending.items
      c.loop-node.node-index _ c.requires.order c.requires.places (number_at c.args.changed.now c.loop-node.node-index default_node c.loop-node-test.true)
      (record { live = c.touch.ensures.live; dead = c.touch.ensures.dead; idle = c.touch.ensures.idle; kept = c.touch.ensures.kept }) c.loop-node.invariant.touched;
  good = c.touch.ensures.words ∙ c.loop-node.invariant.good;
  pending = c.touch.ensures.size ∙ c.loop-node.invariant.pending;
}

pub returns-clause-touched : goal.returns-clause-touched
returns-clause-touched c =
    let all : c.loop-node.node-index ≡ length c.args.changed.now = omega arith in
    subst (λ (n : ℕ). AreTouched (net_of c.args.graph.now) (numbers_of c.args.order.now) c.args.places.now (numbers_of c.args.changed.now) c.args.good.now.items c.loop-node.good.items c.loop-node.pending.items n) all c.loop-node.invariant.touched
