use Rattle.std.proofs.Common.{◌∙◌}
use Rattle.std.specs.Option.{option_map}
use Rattle.gate_graph.specs.Circuit.{net_of}
use Rattle.rambo_cli.proofs.Writing.{early_begun, output_begun, output_written, whole_begun}
use Rattle.rambo_cli.proofs.optimising.optimise_model.Goals as goal

pub returns-in_err-text-clause-safe : goal.returns-in_err-text-clause-safe
returns-in_err-text-clause-safe g c =
    whole_begun c.args.model.now c.args.settings.now (net_of c.in_ok-run.run'.graph) c.in_ok-run.run'.figures (g.S.Shelf.files c.args.shelf.now) (g.S.Shelf.files c.whole_run.new.shelf) c.args.output.now (option_map (λ j. j.now) c.args.journal) c.in_ok-run.ensures.recorded

pub returns-in_err-replace-clause-safe : goal.returns-in_err-replace-clause-safe
returns-in_err-replace-clause-safe g c =
    output_begun c.runs_are_written.ensures c.args.model.now c.args.settings.now (net_of c.in_ok-run.run'.graph) c.in_ok-run.run'.figures (g.S.Shelf.files c.args.shelf.now) (g.S.Shelf.files c.whole_run.new.shelf) (g.S.Shelf.files c.replace.new.shelf) c.args.output.now (option_map (λ j. j.now) c.args.journal) c.as_slice.result.now
    c.requires.usable
    (record {
      formed = c.decompositions_are_formed.ensures.formed c.args.model.now;
      stands = c.decompositions_stand.ensures.stands c.args.model.now c.requires.usable.formed c.requires.usable.ranks;
      points = c.decompositions_stand.ensures.points c.args.model.now c.requires.usable.formed c.requires.usable.ranks;
      wires = c.decompositions_stand.ensures.wires c.args.model.now c.requires.usable.formed c.requires.usable.ranks;
    })
    c.in_ok-text.ensures.few c.in_ok-run.ensures.within c.in_ok-run.ensures.recorded (c.as_slice.ensures.value ∙ c.in_ok-text.ensures.text) c.in_err-replace.ensures.begun

pub returns-clause-done : goal.returns-clause-done
returns-clause-done g c =
    output_written c.runs_are_written.ensures c.args.model.now c.args.settings.now (net_of c.in_ok-run.run'.graph) c.in_ok-run.run'.figures (g.S.Shelf.files c.args.shelf.now) (g.S.Shelf.files c.whole_run.new.shelf) (g.S.Shelf.files c.replace.new.shelf) c.args.output.now (option_map (λ j. j.now) c.args.journal) c.as_slice.result.now
    c.requires.usable
    (record {
      formed = c.decompositions_are_formed.ensures.formed c.args.model.now;
      stands = c.decompositions_stand.ensures.stands c.args.model.now c.requires.usable.formed c.requires.usable.ranks;
      points = c.decompositions_stand.ensures.points c.args.model.now c.requires.usable.formed c.requires.usable.ranks;
      wires = c.decompositions_stand.ensures.wires c.args.model.now c.requires.usable.formed c.requires.usable.ranks;
    })
    c.in_ok-text.ensures.few c.in_ok-run.ensures.within c.in_ok-run.ensures.recorded (c.as_slice.ensures.value ∙ c.in_ok-text.ensures.text) c.in_ok-replace.ensures.done

pub returns-clause-safe : goal.returns-clause-safe
returns-clause-safe g c =
    output_begun c.runs_are_written.ensures c.args.model.now c.args.settings.now (net_of c.in_ok-run.run'.graph) c.in_ok-run.run'.figures (g.S.Shelf.files c.args.shelf.now) (g.S.Shelf.files c.whole_run.new.shelf) (g.S.Shelf.files c.replace.new.shelf) c.args.output.now (option_map (λ j. j.now) c.args.journal) c.as_slice.result.now
    c.requires.usable
    (record {
      formed = c.decompositions_are_formed.ensures.formed c.args.model.now;
      stands = c.decompositions_stand.ensures.stands c.args.model.now c.requires.usable.formed c.requires.usable.ranks;
      points = c.decompositions_stand.ensures.points c.args.model.now c.requires.usable.formed c.requires.usable.ranks;
      wires = c.decompositions_stand.ensures.wires c.args.model.now c.requires.usable.formed c.requires.usable.ranks;
    })
    c.in_ok-text.ensures.few c.in_ok-run.ensures.within c.in_ok-run.ensures.recorded (c.as_slice.ensures.value ∙ c.in_ok-text.ensures.text) c.in_ok-replace.ensures.begun

pub returns-in_err-run-clause-safe : goal.returns-in_err-run-clause-safe
returns-in_err-run-clause-safe g c =
    early_begun c.args.model.now c.args.settings.now (g.S.Shelf.files c.args.shelf.now) (g.S.Shelf.files c.whole_run.new.shelf) c.args.output.now (option_map (λ j. j.now) c.args.journal) c.in_err-run.ensures.begun
