use Rattle.rar_loop.proofs.perturbing.perturb_gate.Goals as goal

pub perturb_at-requires-clause-way : goal.perturb_at-requires-clause-way
perturb_at-requires-clause-way g c =
    let way = c.requires.way in
    (way.0, (way.1.0, c.loop-position.invariant.on way.0 way.1.0 way.1.1))
