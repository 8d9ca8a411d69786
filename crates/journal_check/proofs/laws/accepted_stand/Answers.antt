use Rattle.cover_decompose.specs.Decomposition.{net_of_model}
use Rattle.journal_check.proofs.StandLaws.{last_stands}
use Rattle.journal_check.proofs.laws.accepted_stand.Goals as goal

pub returns : goal.returns
returns c = record {
  stands = λ m b rs last good ranked a.
      (last_stands c.values_exist.ensures c.accepted_runs_keep.ensures m (net_of_model m) b rs last (c.decompositions_are_formed.ensures.formed m) (c.decompositions_stand.ensures.stands m good ranked) (c.decompositions_stand.ensures.points m good ranked) a).0;
  points = λ m b rs last good ranked a.
      (last_stands c.values_exist.ensures c.accepted_runs_keep.ensures m (net_of_model m) b rs last (c.decompositions_are_formed.ensures.formed m) (c.decompositions_stand.ensures.stands m good ranked) (c.decompositions_stand.ensures.points m good ranked) a).1;
}
