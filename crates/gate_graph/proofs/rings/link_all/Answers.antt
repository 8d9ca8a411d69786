use Rattle.std.proofs.Common.{arith, sym, ◌∙◌, ℕ, List, subst}
use Rattle.gate_graph.specs.Inner.Filled.{IsFilled}
use Rattle.gate_graph.proofs.Filling.{has-nth, next-driver, filled-step}
use Rattle.gate_graph.proofs.rings.link_all.Goals as goal

pub link_new-pin-requires-clause-driver : goal.link_new-pin-requires-clause-driver
link_new-pin-requires-clause-driver c =
    omega (arith, c.requires.drivers _ (has-nth c.args.drivers.now c.loop-driver.driver-index (record { 0 = 0 }) c.loop-driver-test.true), c.loop-driver.invariant.nodes)

pub loop-driver-preserved : goal.loop-driver-preserved
loop-driver-preserved c =
    let i = c.loop-driver.invariant in
    record {
      filled = subst (λ (l : List ℕ). IsFilled c.args.pool.now c.link_new-pin.new.pool c.args.gate l) (sym (next-driver c.args.drivers.now c.loop-driver.driver-index (record { 0 = 0 }) c.loop-driver-test.true))
          (filled-step c.args.pool.now c.loop-driver.pool c.link_new-pin.new.pool c.args.gate c.link_new-pin.result.0 _ _ c.requires.apart i.filled c.link_new-pin.ensures.rings c.tell_rings-in-loop-driver.ensures.rings c.link_new-pin.ensures.fresh);
      nodes = c.link_new-pin.ensures.nodes ∙ i.nodes;
      taken = omega (arith, i.taken, c.link_new-pin.ensures.taken);
      spare = omega (arith, i.spare, c.link_new-pin.ensures.spare);
    }
