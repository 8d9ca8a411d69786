use Rattle.rm_model.proofs.RankedLaws.{ranked-none, none-ranked, ranks-lower}
use Rattle.rm_model.proofs.laws.ranks_exist.Goals as goal

pub returns : goal.returns
returns c = record { ranked = λ m once. (ranked-none m, none-ranked m once); lower = ranks-lower }
