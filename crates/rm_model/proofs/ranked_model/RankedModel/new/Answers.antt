use Rattle.std.proofs.Common.{List, ℕ, Option, ap, sym, ◌∙◌}
use Rattle.std.specs.Prelude.{position, is_none}
use Rattle.rm_model.proofs.RankingLemmas.{none-missing}
use Rattle.rm_model.proofs.ranked_model.RankedModel.new.Goals as goal

pub returns-clause-ranked : goal.returns-clause-ranked
returns-clause-ranked c = ap (λ (l : List (Option ℕ)). position is_none l) (sym c.in_ok-ranks.ensures.ranks) ∙ none-missing c.in_ok-ranks.ranks.items
