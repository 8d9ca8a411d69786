use Rattle.rar_loop.proofs.perturbing.perturb_gates.Goals as goal

pub perturb_gate-requires-clause-way : goal.perturb_gate-requires-clause-way
perturb_gate-requires-clause-way g c =
    let way = c.requires.way in
    (way.0, (way.1.0, c.loop-number.invariant.on way.0 way.1.0 way.1.1))
