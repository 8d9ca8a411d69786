use Rattle.std.proofs.Common.{refl, arith}
use Rattle.rambo_cli.proofs.Composed.{fits, equivalent}
use Rattle.blif_format.specs.FirstFault.{first_fault}
use Rattle.blif_format.specs.Text.{text_of}
use Rattle.graph_to_model.specs.NetModel.{model_of_net}
use Rattle.rambo_cli.proofs.Limited.{no_fault, written_within}
use Rattle.rambo_cli.proofs.laws.replays_are_written.Goals as goal

pub returns : goal.returns
returns c = λ m steps count net model ranked parts few limits most rebuilt.
    let fit = fits c.values_exist.ensures m net parts rebuilt.keeps in
    let is = c.tidy_nets_have_models.ensures net m rebuilt.keeps.form rebuilt.tidy model fit few in
    let text = c.written_texts_read.ensures (model_of_net m net) is.well_formed is.ranked in
    let small = c.tidy_nets_have_small_models.ensures net m rebuilt.keeps.form rebuilt.tidy model fit few in
    let within = written_within m model limits net small (omega (arith, parts.wires, rebuilt.fewer, most)) in
    record {
      net = net;
      spelled = refl;
      of_the_grammar = text.1;
      acyclic = is.ranked;
      faultless = no_fault (first_fault (text_of (model_of_net m net))) (c.read_texts_are_faultless.ensures (text_of (model_of_net m net)) (model_of_net m net) text.0 text.1) (c.texts_keep_limits.ensures.kept (text_of (model_of_net m net)) (model_of_net m net) text.1 within);
      same_function = equivalent c.values_exist.ensures m net parts rebuilt.keeps is ranked;
      no_more_wires = omega (arith, is.wires, rebuilt.fewer);
      rebuilt = rebuilt;
    }
