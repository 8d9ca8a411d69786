use Rattle.refutation.proofs.Edges.{edges_are_counted, partials_are_small, untrieds_are_few}
use Rattle.refutation.proofs.laws.edges_are_few.Goals as goal

pub returns-clause-counted : goal.returns-clause-counted
returns-clause-counted c = edges_are_counted

pub returns-clause-few : goal.returns-clause-few
returns-clause-few c = partials_are_small

pub returns-clause-untried : goal.returns-clause-untried
returns-clause-untried c = untrieds_are_few
