use Rattle.implications.proofs.Steps.{keeps_join}
use Rattle.implications.proofs.closing.grow_all_lines.Goals as goal

pub returns-clause-keeps : goal.returns-clause-keeps
returns-clause-keeps c = keeps_join c.args.facts.now c.args.log.now.trail.items c.give_outside.new.facts c.give_outside.new.log.trail.items c.add_all_lines.new.facts c.add_all_lines.new.log.trail.items c.give_outside.ensures.keeps c.add_all_lines.ensures.keeps
