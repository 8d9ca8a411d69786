use Rattle.std.proofs.Common.{◌≡◌, map, Vec, Global, List, ℕ, Option, Some, subst, sym, ◌∙◌, true, IfOk, IfErr}
use Rattle.std.specs.Prelude.{position, is_none}
use Rattle.rm_model.specs.Inner.Numbers.{IsFixed}
use Rattle.rm_model.specs.Ranks.{ranks_of, AreRanks}
use Rattle.rm_model.specs.RankFaults.{IsRefused}
use Rattle.rm_model.specs.Value.{source_names, outputs_of}
use Rattle.rm_model.specs.WellFormed.{is_distinct}
use Rattle.rm_model.specs.declared.parts.Cover.{Cover}
use Rattle.rm_model.specs.declared.ranking.RankFault.{RankFault}
use Rattle.rm_model.proofs.CoverLemmas.{distinct-right}
use Rattle.rm_model.proofs.RankLaws.{ranks_are_fixed}
use Rattle.rm_model.proofs.RankingLemmas.{fixed-ranks, if_ok_map}
use Rattle.rm_model.proofs.ranking.rank.Goals as goal

pub search_covers-requires-clause-once : goal.search_covers-requires-clause-once
search_covers-requires-clause-once c = subst (λ (cs : List Cover). is_distinct (outputs_of cs) ≡ true) (sym c.items.ensures) (distinct-right (source_names c.args.model.now) (outputs_of c.args.model.now.covers) c.requires.well_formed.driven_once)

pub returns-clause-ranks : goal.returns-clause-ranks
returns-clause-ranks c =
    let fixed : IsFixed c.args.model.now.covers c.in_ok-found.found.ranks.items = subst (λ (cs : List Cover). IsFixed cs c.in_ok-found.found.ranks.items) c.items.ensures c.in_ok-found.ensures.ranks in
    let is : c.as_slice.result.now ≡ ranks_of c.args.model.now = c.as_slice.ensures.value ∙ fixed-ranks c.args.model.now c.in_ok-found.found.ranks.items fixed in
    subst (λ (l : List (Option ℕ)). IfOk c.all_ranks.result (λ (all : Vec ℕ Global). map Some all.items ≡ l)) is c.all_ranks.ensures.ranks

pub returns-clause-follow : goal.returns-clause-follow
returns-clause-follow c =
    let fixed : IsFixed c.args.model.now.covers c.in_ok-found.found.ranks.items = subst (λ (cs : List Cover). IsFixed cs c.in_ok-found.found.ranks.items) c.items.ensures c.in_ok-found.ensures.ranks in
    let is : c.as_slice.result.now ≡ ranks_of c.args.model.now = c.as_slice.ensures.value ∙ fixed-ranks c.args.model.now c.in_ok-found.found.ranks.items fixed in
    if_ok_map (λ (all : Vec ℕ Global). map Some all.items ≡ c.as_slice.result.now) (λ (all : Vec ℕ Global). AreRanks c.args.model.now (map Some all.items)) c.all_ranks.result (λ all e. subst (AreRanks c.args.model.now) (sym (e ∙ is)) (ranks_are_fixed c.args.model.now)) c.all_ranks.ensures.ranks

pub returns-clause-refused : goal.returns-clause-refused
returns-clause-refused c =
    let fixed : IsFixed c.args.model.now.covers c.in_ok-found.found.ranks.items = subst (λ (cs : List Cover). IsFixed cs c.in_ok-found.found.ranks.items) c.items.ensures c.in_ok-found.ensures.ranks in
    let is : c.as_slice.result.now ≡ ranks_of c.args.model.now = c.as_slice.ensures.value ∙ fixed-ranks c.args.model.now c.in_ok-found.found.ranks.items fixed in
    subst (λ (l : List (Option ℕ)). IfErr c.all_ranks.result (λ (fault : RankFault). IsRefused (position is_none l) fault)) is c.all_ranks.ensures.refused
