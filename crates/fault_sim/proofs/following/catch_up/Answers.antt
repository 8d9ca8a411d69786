use Rattle.std.proofs.Common.{length, refl, sym, ◌∙◌}
use Rattle.std.proofs.lemmas.List.{length-map}
use Rattle.gate_graph.specs.Circuit.{net_of}
use Rattle.rm_base.specs.declared.numbers.NodeId.{NodeId}
use Rattle.fault_sim.proofs.Blocking.{placed_again}
use Rattle.fault_sim.proofs.CatchingUp.{all_right, begin, lanes_touched, others_false, rests}
use Rattle.fault_sim.proofs.following.catch_up.Goals as goal
use Rattle.rm_base.specs.Numbers.{numbers_of}

pub reread-requires-clause-lanes : goal.reread-requires-clause-lanes
reread-requires-clause-lanes c =
    lanes_touched (numbers_of c.args.order.now) c.args.places.now c.touch_all.new.good.items c.args.spread.now
    (record { stamp = c.args.spread.now.stamp; stamps = c.args.spread.now.stamps; faulty = c.args.spread.now.faulty; pending = c.touch_all.new.pending }) c.requires.placed (c.touch_all.ensures.good ∙ c.requires.size)
    (others_false (net_of c.args.graph.now) c.args.words.now (numbers_of c.args.order.now) c.args.places.now (numbers_of c.args.changed.now) c.args.good.now.items c.touch_all.new.good.items c.touch_all.new.pending.items (length c.args.changed.now)
    (sym (length-map c.args.changed.now (λ (n : NodeId). n.0))) c.requires.were c.touch_all.ensures.touched c.requires.order) refl refl c.touch_all.ensures.pending

pub reread-requires-clause-unstamped : goal.reread-requires-clause-unstamped
reread-requires-clause-unstamped c = record { positive = c.requires.placed.rested.positive; stamps = c.requires.placed.rested.stamps }

pub reread-requires-clause-rereading : goal.reread-requires-clause-rereading
reread-requires-clause-rereading c =
    begin (net_of c.args.graph.now) c.args.words.now (numbers_of c.args.order.now) c.args.places.now (numbers_of c.args.changed.now) c.args.good.now.items c.touch_all.new.good.items c.touch_all.new.pending.items (length c.args.changed.now)
    (sym (length-map c.args.changed.now (λ (n : NodeId). n.0))) c.requires.were c.touch_all.ensures.touched c.well_formed-2.ensures.net c.requires.placed.places_are

pub returns-clause-good : goal.returns-clause-good
returns-clause-good c =
    all_right (net_of c.args.graph.now) c.args.words.now (numbers_of c.args.order.now) c.well_formed-2.ensures.net c.requires.order c.reread.new.good.items c.reread.new.spread.pending.items (length c.args.order.now)
    (sym (length-map c.args.order.now (λ (n : NodeId). n.0))) c.reread.ensures.lanes.others c.reread.ensures.rereading

pub returns-clause-block : goal.returns-clause-block
returns-clause-block c = record { size = c.reread.ensures.size ∙ c.touch_all.ensures.good ∙ c.requires.size; others = c.reread.ensures.lanes.others }

pub returns-clause-placed : goal.returns-clause-placed
returns-clause-placed c =
    placed_again (numbers_of c.args.order.now) c.args.places.now c.reread.new.good.items c.args.spread.now c.reread.new.spread c.requires.placed
    (record { size = c.reread.ensures.size ∙ c.touch_all.ensures.good ∙ c.requires.size; others = c.reread.ensures.lanes.others }) c.reread.ensures.lanes
    (rests (net_of c.args.graph.now) c.args.words.now (numbers_of c.args.order.now) c.reread.new.good.items c.reread.new.spread (length c.args.order.now) (sym (length-map c.args.order.now (λ (n : NodeId). n.0))) c.reread.ensures.unstamped c.reread.ensures.rereading)
