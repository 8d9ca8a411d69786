use Rattle.blif_flatten.proofs.Falling.{falling-calm, falling-ranked, ok-of}
use Rattle.blif_flatten.proofs.ranks.rank_modules.Goals as goal

pub returns-then-are_falling-clause-ranked : goal.returns-then-are_falling-clause-ranked
returns-then-are_falling-clause-ranked c = falling-ranked c.as_slice.result.now c.args.modules.now (c.are_falling.ensures c.if-are_falling.true) c.requires

pub returns-then-are_falling-clause-ok : goal.returns-then-are_falling-clause-ok
returns-then-are_falling-clause-ok c = falling-calm c.as_slice.result.now c.args.modules.now (c.are_falling.ensures c.if-are_falling.true) c.requires

pub returns-clause-ranked : goal.returns-clause-ranked
returns-clause-ranked c = ok-of c.rank_anew.result (λ anew falling. falling-ranked anew.items c.args.modules.now falling c.requires) c.rank_anew.ensures.falling

pub returns-clause-ok : goal.returns-clause-ok
returns-clause-ok c = ok-of c.rank_anew.result (λ anew falling. falling-calm anew.items c.args.modules.now falling c.requires) c.rank_anew.ensures.falling
