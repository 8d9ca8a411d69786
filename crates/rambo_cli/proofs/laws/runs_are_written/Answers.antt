use Rattle.std.proofs.Common.{◌≤◌, ◌+◌, ◌^◌, ℕ, refl, sym, subst, arith}
use Rattle.rambo_cli.proofs.Composed.{fits, equivalent}
use Rattle.blif_format.specs.FirstFault.{first_fault}
use Rattle.rambo_cli.proofs.Limited.{no_fault, written_within}
use Rattle.rambo_cli.proofs.Tested.{tested}
use Rattle.rambo_cli.proofs.laws.runs_are_written.Goals as goal
use Rattle.graph_to_model.specs.NetModel.{model_of_net}
use Rattle.blif_format.specs.Text.{text_of}

pub returns : goal.returns
returns c = λ m settings net steps verdicts figures model ranked parts few limits most over.
    let fit = fits c.values_exist.ensures m net parts over.keeps in
    let is = c.tidy_nets_have_models.ensures net m over.keeps.form over.tidy model fit few in
    let text = c.written_texts_read.ensures (model_of_net m net) is.well_formed is.ranked in
    let faults = c.tidy_nets_have_model_faults.ensures.faults net m over.keeps.form over.tidy model fit few in
    let small = c.tidy_nets_have_small_models.ensures net m over.keeps.form over.tidy model fit few in
    let within = written_within m model limits net small (omega (arith, parts.wires, over.fewer, most)) in
    record {
      net = net;
      steps = steps;
      verdicts = verdicts;
      spelled = refl;
      of_the_grammar = text.1;
      acyclic = is.ranked;
      faultless = no_fault (first_fault (text_of (model_of_net m net))) (c.read_texts_are_faultless.ensures (text_of (model_of_net m net)) (model_of_net m net) text.0 text.1) (c.texts_keep_limits.ensures.kept (text_of (model_of_net m net)) (model_of_net m net) text.1 within);
      same_function = equivalent c.values_exist.ensures m net parts over.keeps is ranked;
      no_more_wires = omega (arith, is.wires, over.fewer);
      recorded = refl;
      accepted = record { steps = steps; verdicts = verdicts; parts = refl; leads = over.led; tidy = over.tidy; settled = over.settled };
      valid = over.valid;
      small = few;
      tested = tested net (model_of_net m net) settings.budget verdicts faults (c.tidy_nets_have_model_faults.ensures.once net) c.tidy_nets_have_model_faults.ensures.vectors over.settled over.searched;
      decided = λ enough. over.searched.decided (subst (λ (n : ℕ). 2 ^ (n + 1) ≤ settings.budget) (sym fit.sources) enough);
      limit = over.limit;
      run = over.run;
      allowed = over.allowed;
      figures_are = over.figures;
    }
