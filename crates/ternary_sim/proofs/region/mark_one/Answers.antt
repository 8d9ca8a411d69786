use Rattle.std.proofs.Common.{true, ◌≡◌}
use Rattle.local_evaluation.proofs.Public.{not_seen}
use Rattle.ternary_sim.proofs.Spreading.{more_one}
use Rattle.ternary_sim.proofs.region.mark_one.Goals as goal

pub returns-then-not-has-clause-marked : goal.returns-then-not-has-clause-marked
returns-then-not-has-clause-marked c =
    rw (c.add.ensures, c.add-then-not-has.ensures)
    (more_one c.args.marks.now c.args.waiting.now c.args.node.0
    (not_seen c.args.marks.now c.args.node.0 c.requires.marks (λ seen. let wrong : c.has.result ≡ true = c.has.ensures.1 seen in cc))
    c.requires.waiting)
