use Rattle.std.proofs.Common.{ap, false, replicate, ◌∙◌}
use Rattle.implications.proofs.Bases.{putting_more}
use Rattle.implications.proofs.basis.put_back.Goals as goal
use Rattle.refutation.proofs.Public.{clear_less, none_marked}
use Rattle.refutation.specs.FactSets.{held_by}

pub loop-node-smaller : goal.loop-node-smaller
loop-node-smaller c = clear_less c.loop-node.taken c.take.new.self c.in-Some.node.0 c.in-Some.ensures

pub loop-node-preserved : goal.loop-node-preserved
loop-node-preserved c = record {
  putting = putting_more c.args.taken.now (held_by c.args.facts.now) c.loop-node.taken c.take.new.self c.loop-node.facts c.insert.new.self c.in-Some.node.0 c.loop-node.invariant.putting c.in-Some.ensures c.insert.ensures.facts;
  size = c.insert.ensures.facts.size ∙ c.loop-node.invariant.size;
}

pub returns-clause-none : goal.returns-clause-none
returns-clause-none c = c.in_default.ensures.0 ∙ none_marked c.loop-node.taken c.in_default.ensures.1 ∙ ap (λ n. replicate n false) c.loop-node.invariant.putting.room
