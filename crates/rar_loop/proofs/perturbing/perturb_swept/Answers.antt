use Rattle.std.proofs.Common.{◌≡◌, ◌-◌, ℕ, length, subst, arith}
use Rattle.gate_graph.specs.Circuit.{net_of}
use Rattle.rar_loop.specs.Inner.Perturbing.{IsPerturbing}
use Rattle.rar_loop.proofs.Turning.{turn_left}
use Rattle.rar_loop.proofs.perturbing.perturb_swept.Goals as goal

pub overflow_sub-result : goal.overflow_sub-result
overflow_sub-result g c =
    let way = c.requires.way in
    turn_left way.0 c.perturb_gates.new.space.trial.graph c.args.limits.now.settings.depth c.args.limits.now.settings.tries c.perturb_gates.new.left _ 0 c.perturb_gates.new.made way.1.0 (g.S.Shelf.files c.perturb_gates.new.shelf) c.args.journal.now (c.in_ok-perturb_gates.ensures.on way.0 way.1.0 way.1.1)

pub returns-clause-on : goal.returns-clause-on
returns-clause-on g c =
    let way = c.requires.way in
    let le = turn_left way.0 c.perturb_gates.new.space.trial.graph c.args.limits.now.settings.depth c.args.limits.now.settings.tries c.perturb_gates.new.left _ 0 c.perturb_gates.new.made way.1.0 (g.S.Shelf.files c.perturb_gates.new.shelf) c.args.journal.now (c.in_ok-perturb_gates.ensures.on way.0 way.1.0 way.1.1) in
    let e : c.perturb_gates.new.left ≡ c.args.limits.now.settings.tries - (c.args.limits.now.settings.tries - c.perturb_gates.new.left) = omega (arith, le) in
    (length (net_of c.args.space.now.trial.graph).nodes, λ before old p. subst (λ (k : ℕ). IsPerturbing before c.args.limits.now.settings.depth c.args.limits.now.settings.tries k (length (net_of c.args.space.now.trial.graph).nodes) 0 c.perturb_gates.new.space.trial.graph c.perturb_gates.new.made old (g.S.Shelf.files c.perturb_gates.new.shelf) c.args.journal.now) e (c.in_ok-perturb_gates.ensures.on before old p))
