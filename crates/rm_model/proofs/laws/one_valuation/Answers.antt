use Rattle.rm_model.proofs.ValuationLaws.{valuation-exists, valuation-unique}
use Rattle.rm_model.proofs.laws.one_valuation.Goals as goal

pub returns : goal.returns
returns c = record {
  exists = λ m values formed ranked same. valuation-exists m values formed.driven_once ranked same;
  only = λ m v w x formed ranked first second agree. valuation-unique m formed ranked v w first second agree x;
}
