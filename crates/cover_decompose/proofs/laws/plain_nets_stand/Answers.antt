use Rattle.cover_decompose.specs.Spelled.{spelled}
use Rattle.cover_decompose.proofs.Spelled.{consistent_spelled}
use Rattle.cover_decompose.proofs.laws.plain_nets_stand.Goals as goal

pub returns-clause-stands : goal.returns-clause-stands
returns-clause-stands c = λ m w r. (
    let s = c.decompositions_stand.ensures.stands (spelled m) (c.spelled_models_stay.ensures.formed m w) (c.spelled_models_stay.ensures.ranked m w r) in
    record {
      sources = s.sources;
      observed = s.observed;
      values = λ a val v good consistent same. s.values a val v good (consistent_spelled m v consistent) same;
    })

pub returns-clause-wires : goal.returns-clause-wires
returns-clause-wires c = λ m w r. c.decompositions_stand.ensures.wires (spelled m) (c.spelled_models_stay.ensures.formed m w) (c.spelled_models_stay.ensures.ranked m w r)
