use Rattle.std.proofs.Common.{List, ap, map, suc, ℕ, ◌++◌, ◌∙◌, ◌≡◌, sym}
use Rattle.std.specs.Prelude.{slice_get}
use Rattle.gate_graph.specs.Circuit.{net_of}
use Rattle.gate_net.specs.Net.{drivers_of}
use Rattle.rm_base.specs.declared.numbers.NodeId.{NodeId}
use Rattle.wire_edit.specs.Steps.{or_zero}
use Rattle.care_opt.specs.Inner.Looking.{looked}
use Rattle.care_opt.proofs.Looking.{driver_none, driver_some, gated_step}
use Rattle.care_opt.proofs.extracting.gated_numbers.Goals as goal

pub loop-gate-init : goal.loop-gate-init
loop-gate-init c =
    let read : c.into_iter-gate-iterator.result ≡ (net_of c.args.graph.now).observed = c.into_iter-gate-iterator.ensures.into_iter_gives ∙ c.observed_points-gate-items.ensures.observed in
    record {
      gates = λ k y e. c.requires.gates k y (ap (λ (l : List ℕ). slice_get l k) (sym read) ∙ e);
      made =
          ap (λ (l : List NodeId). map (λ (n : NodeId). n.0) l ++ map (looked c.args.numbers.now) (map (λ (y : ℕ). or_zero (slice_get (drivers_of (net_of c.args.graph.now) y) 0)) c.into_iter-gate-iterator.result)) c.new-nodes.ensures.items
          ∙ ap (λ (l : List ℕ). map (looked c.args.numbers.now) (map (λ (y : ℕ). or_zero (slice_get (drivers_of (net_of c.args.graph.now) y) 0)) l)) read;
    }

pub unreachable-requires : goal.unreachable-requires
unreachable-requires c = driver_none (net_of c.args.graph.now) c.in-Some.gate.0 c.driver.result c.in_default.not-Some c.driver.ensures (c.loop-gate.invariant.gates 0 c.in-Some.gate.0 (ap (λ (l : List ℕ). slice_get l 0) c.in-Some.ensures.steps))

pub loop-gate-preserved : goal.loop-gate-preserved
loop-gate-preserved c = record {
  gates = λ k y e. c.loop-gate.invariant.gates (suc k) y (ap (λ (l : List ℕ). slice_get l (suc k)) c.in-Some.ensures.steps ∙ e);
  made =
      gated_step (net_of c.args.graph.now) c.args.numbers.now c.loop-gate.nodes.items c.push.new.self.items c.loop-gate.gate-iterator c.next.new.self c.in-Some.gate.0 c.in-Some-driver.driver.0 c.look.result _ c.in_ok-push.ensures.items c.in-Some.ensures.steps
      (driver_some (net_of c.args.graph.now) c.in-Some.gate.0 c.driver.result c.in-Some-driver.driver c.in-Some-driver.is c.driver.ensures) c.look.ensures c.loop-gate.invariant.made;
}
