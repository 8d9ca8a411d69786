use Rattle.std.proofs.Common.{◌≡◌, map, Vec, Global, List, ℕ, Option, Some, subst, ◌∙◌, IfOk, IfErr}
use Rattle.std.specs.Prelude.{position, is_none}
use Rattle.rm_model.specs.RankFaults.{IsRefused}
use Rattle.rm_model.specs.Ranks.{ranks_of}
use Rattle.rm_model.specs.declared.ranking.RankFault.{RankFault}
use Rattle.rm_model.proofs.RankingLemmas.{fixed-ranks}
use Rattle.rm_model.proofs.ranking.rank_numbered.Goals as goal

pub returns-clause-ranks : goal.returns-clause-ranks
returns-clause-ranks c =
    let is : c.as_slice.result.now ≡ ranks_of c.args.model.now = c.as_slice.ensures.value ∙ fixed-ranks c.args.model.now c.in_ok-found.found.ranks.items c.in_ok-found.ensures in
    subst (λ (l : List (Option ℕ)). IfOk c.all_ranks.result (λ (all : Vec ℕ Global). map Some all.items ≡ l)) is c.all_ranks.ensures.ranks

pub returns-clause-refused : goal.returns-clause-refused
returns-clause-refused c =
    let is : c.as_slice.result.now ≡ ranks_of c.args.model.now = c.as_slice.ensures.value ∙ fixed-ranks c.args.model.now c.in_ok-found.found.ranks.items c.in_ok-found.ensures in
    subst (λ (l : List (Option ℕ)). IfErr c.all_ranks.result (λ (fault : RankFault). IsRefused (position is_none l) fault)) is c.all_ranks.ensures.refused
