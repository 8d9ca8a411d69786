use Rattle.graph_to_model.proofs.TidyFacts.{lean}
use Rattle.graph_to_model.proofs.Formed.{well_formed}
use Rattle.graph_to_model.proofs.Rank.{ranked}
use Rattle.graph_to_model.proofs.Standing.{stands}
use Rattle.graph_to_model.proofs.Pins.{wires_are}
use Rattle.graph_to_model.proofs.laws.tidy_nets_have_models.Goals as goal
use Rattle.graph_to_model.specs.Inner.Writable.{IsWritable}

pub returns : goal.returns
returns c = λ net m formed tidy well fit few.
    let w : IsWritable m net = record { formed = formed; lean = lean c.order_tells.ensures.tidy net formed tidy; well = well; fit = fit; few = few } in
    record { well_formed = well_formed m net w; ranked = ranked m net w; stands = stands m net w; wires = wires_are m net w }
