use Rattle.std.proofs.Common.{List, ap, map, refl, suc, ℕ, ◌∙◌}
use Rattle.std.specs.Prelude.{slice_get}
use Rattle.joined_nets.specs.Joined.{moved}
use Rattle.joined_nets.proofs.Moving.{moved_step}
use Rattle.joined_nets.proofs.copying.moved_all.Goals as goal

pub moved-requires : goal.moved-requires
moved-requires c = c.loop-node.invariant.small 0 c.in-Some.node.0 (rw c.in-Some.ensures.steps refl)

pub loop-node-preserved : goal.loop-node-preserved
loop-node-preserved c = record {
  small = λ p x e. c.loop-node.invariant.small (suc p) x (ap (λ (l : List ℕ). slice_get l (suc p)) c.in-Some.ensures.steps ∙ e);
  made = moved_step (moved c.args.first c.args.count) c.loop-node.numbers.items c.push.new.self.items c.loop-node.node-iterator c.next.new.self (map (moved c.args.first c.args.count) c.args.nodes) c.in-Some.node c.moved.result c.in_ok-push.ensures.items c.in-Some.ensures.steps c.moved.ensures c.loop-node.invariant.made;
}
