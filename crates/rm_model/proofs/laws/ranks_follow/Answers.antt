use Rattle.rm_model.proofs.RankLaws.{ranks-length, ranks_are_fixed, ranks_are_only, ranks_are_small}
use Rattle.rm_model.proofs.laws.ranks_follow.Goals as goal

pub returns : goal.returns
returns c = record {
  length = ranks-length;
  follow = ranks_are_fixed;
  only = λ m r are. ranks_are_only m r _ are (ranks_are_fixed m);
  small = ranks_are_small;
}
