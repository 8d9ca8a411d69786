use Rattle.std.proofs.Common.{subst, sym}
use Rattle.refutation.specs.FactLists.{HasAllGoods}
use Rattle.recursive_learning.proofs.Servings.{goods_added}
use Rattle.recursive_learning.proofs.refuter.Refuter.added_facts.Goals as goal
use Rattle.refutation.specs.FactSets.{held_by}

pub returns-clause-goods : goal.returns-clause-goods
returns-clause-goods c net serving = subst (HasAllGoods (held_by c.args.self.now.basis.facts)) (sym c.added_facts.ensures) (goods_added net c.args.self.now.engine c.args.self.now.basis serving.serves)
