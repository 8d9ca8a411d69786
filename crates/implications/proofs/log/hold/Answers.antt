use Rattle.implications.proofs.Steps.{keeps_hold}
use Rattle.implications.proofs.log.hold.Goals as goal

pub returns-clause-keeps : goal.returns-clause-keeps
returns-clause-keeps c =
    keeps_hold c.args.facts.now c.args.log.now.trail.items c.insert.new.self c.push-2.new.self.items c.args.found.node c.args.found.fact c.requires.new c.insert.ensures.facts c.in_ok-push-2.ensures.items
