use Rattle.std.proofs.Common.{arith, false, length, true, ◌≡◌, ◌≤◌}
use Rattle.implications.proofs.Public.{held_past}
use Rattle.refutation.specs.FactSets.{held_by}
use Rattle.refutation.specs.declared.reasoning.Fact.TheVariants.{Good}
use Rattle.recursive_learning.proofs.justified_values.is_good.Goals as goal

pub returns-then-node-len : goal.returns-then-node-len
returns-then-node-len c e =
    let past : length c.args.facts.now ≤ c.args.node.0 = omega arith in
    let zero : held_by c.args.facts.now c.args.node.0 (Good false) ≡ false = held_past c.args.facts.now c.args.node.0 (Good false) past in
    let one = held_past c.args.facts.now c.args.node.0 (Good true) past in
    let wrong = rw (zero, one) at e in
    cc
