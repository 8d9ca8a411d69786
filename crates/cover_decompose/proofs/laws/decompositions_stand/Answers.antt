use Rattle.cover_decompose.proofs.Points.{points}
use Rattle.cover_decompose.proofs.Counted.{wires_are, observed_count}
use Rattle.cover_decompose.proofs.Stands.{observed_values}
use Rattle.cover_decompose.proofs.WellFormed.{sources_are}
use Rattle.cover_decompose.proofs.laws.decompositions_stand.Goals as goal

pub returns-clause-stands : goal.returns-clause-stands
returns-clause-stands c = λ m w r. record {
  sources = sources_are m;
  observed = observed_count m;
  values = λ a val v good consistent same. observed_values m a val v (record { formed = w; all = r; follow = c.ranks_follow.ensures.follow m; small = c.ranks_follow.ensures.small m }) good consistent same;
}

pub returns-clause-points : goal.returns-clause-points
returns-clause-points c = λ m w r. points m (record { formed = w; all = r; follow = c.ranks_follow.ensures.follow m; small = c.ranks_follow.ensures.small m })

pub returns-clause-wires : goal.returns-clause-wires
returns-clause-wires c = λ m w r. wires_are m (record { formed = w; all = r; follow = c.ranks_follow.ensures.follow m; small = c.ranks_follow.ensures.small m })
