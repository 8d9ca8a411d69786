use Rattle.std.proofs.Common.{map, Vec, Global, ℕ, inl}
use Rattle.rm_model.specs.Inner.SearchView.{state_of}
use Rattle.rm_model.specs.Ranks.{rank_at}
use Rattle.rm_model.proofs.SearchLemmas.{leads-stays}
use Rattle.rm_model.proofs.LookLemmas.{rank-there, rank-missing}
use Rattle.rm_model.proofs.rank_search.Search.look_at.Goals as goal

pub look_at_unranked-requires-clause-unknown : goal.look_at_unranked-requires-clause-unknown
look_at_unranked-requires-clause-unknown c = rank-missing (rank_at c.args.self.now.ranks.items c.args.cover) c.has_rank.result c.has_rank.ensures c.if-has_rank.false

pub returns-then-has_rank : goal.returns-then-has_rank
returns-then-has_rank c = record {
  leads = leads-stays (map (λ (d : Vec ℕ Global). d.items) c.args.drivers.now) (state_of c.args.self.now) c.requires.sound;
  settled = λ place. inl (rank-there (rank_at c.args.self.now.ranks.items c.args.cover) c.has_rank.result c.has_rank.ensures c.if-has_rank.true);
}
