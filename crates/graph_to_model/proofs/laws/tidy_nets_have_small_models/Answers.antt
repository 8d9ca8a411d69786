use Rattle.graph_to_model.proofs.TidyFacts.{lean}
use Rattle.graph_to_model.proofs.Small.{small}
use Rattle.graph_to_model.proofs.laws.tidy_nets_have_small_models.Goals as goal
use Rattle.graph_to_model.specs.Inner.Writable.{IsWritable}

pub returns : goal.returns
returns c = λ net m formed tidy well fit few.
    let w : IsWritable m net = record { formed = formed; lean = lean c.order_tells.ensures.tidy net formed tidy; well = well; fit = fit; few = few } in
    small m net w
