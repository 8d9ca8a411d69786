use Rattle.std.proofs.Common.{get_or, subst}
use Rattle.std.specs.Prelude.{is_none, position}
use Rattle.rm_model.specs.RankFaults.{IsRefused}
use Rattle.rm_model.specs.declared.ranking.RankFault.{RankFault}
use Rattle.blif_reader.proofs.Public.{unranked_at}
use Rattle.blif_flatten.proofs.Formals.{token-at}
use Rattle.blif_flatten.proofs.reading.rank_refusal.Goals as goal

pub returns : goal.returns
returns c = λ ranks e. unranked_at c.args.places.now ranks c.in-NoRank.cover (get_or c.args.places.now c.in-NoRank.cover (record { line = 0; column = 0 })) (subst (λ (r : RankFault). IsRefused (position is_none ranks) r) c.in-NoRank.is e) (token-at c.args.places.now c.in-NoRank.cover (record { line = 0; column = 0 }) (c.requires c.in-NoRank.cover c.in-NoRank.is))
