use Rattle.std.proofs.Common.{◌∙◌, refl}
use Rattle.gate_graph.specs.Circuit.{net_of}
use Rattle.rambo_cli.proofs.Replayed.{replay_begun, replay_kept, replay_written, replayed_into}
use Rattle.rambo_cli.proofs.replaying.write_replayed.Goals as goal

pub returns-in_err-rebuilt-clause-safe : goal.returns-in_err-rebuilt-clause-safe
returns-in_err-rebuilt-clause-safe g c = replay_kept c.args.model.now c.args.steps.now c.args.output.now (g.S.Shelf.files c.args.shelf.now) (g.S.Shelf.files c.args.shelf.now) refl

pub returns-in_err-text-clause-safe : goal.returns-in_err-text-clause-safe
returns-in_err-text-clause-safe g c = replay_kept c.args.model.now c.args.steps.now c.args.output.now (g.S.Shelf.files c.args.shelf.now) (g.S.Shelf.files c.args.shelf.now) refl

pub returns-in_err-replace-clause-safe : goal.returns-in_err-replace-clause-safe
returns-in_err-replace-clause-safe g c =
    replay_begun c.args.model.now c.args.steps.now c.in_ok-rebuilt.rebuilt.taken c.args.output.now c.as_slice.result.now (g.S.Shelf.files c.args.shelf.now) (g.S.Shelf.files c.replace.new.shelf)
    (replayed_into c.replays_are_written.ensures c.args.model.now c.args.steps.now c.in_ok-rebuilt.rebuilt.taken (net_of c.in_ok-rebuilt.rebuilt.graph) c.as_slice.result.now c.requires.usable
    (record {
      formed = c.decompositions_are_formed.ensures.formed c.args.model.now;
      stands = c.decompositions_stand.ensures.stands c.args.model.now c.requires.usable.formed c.requires.usable.ranks;
      points = c.decompositions_stand.ensures.points c.args.model.now c.requires.usable.formed c.requires.usable.ranks;
      wires = c.decompositions_stand.ensures.wires c.args.model.now c.requires.usable.formed c.requires.usable.ranks;
    })
    c.in_ok-text.ensures.few c.requires.few c.in_ok-rebuilt.ensures.rebuilt (c.as_slice.ensures.value ∙ c.in_ok-text.ensures.text))
    c.in_err-replace.ensures.begun

pub returns-clause-done : goal.returns-clause-done
returns-clause-done g c =
    replay_written c.args.model.now c.args.steps.now c.in_ok-rebuilt.rebuilt.taken c.args.output.now c.as_slice.result.now (g.S.Shelf.files c.args.shelf.now) (g.S.Shelf.files c.replace.new.shelf)
    (replayed_into c.replays_are_written.ensures c.args.model.now c.args.steps.now c.in_ok-rebuilt.rebuilt.taken (net_of c.in_ok-rebuilt.rebuilt.graph) c.as_slice.result.now c.requires.usable
    (record {
      formed = c.decompositions_are_formed.ensures.formed c.args.model.now;
      stands = c.decompositions_stand.ensures.stands c.args.model.now c.requires.usable.formed c.requires.usable.ranks;
      points = c.decompositions_stand.ensures.points c.args.model.now c.requires.usable.formed c.requires.usable.ranks;
      wires = c.decompositions_stand.ensures.wires c.args.model.now c.requires.usable.formed c.requires.usable.ranks;
    })
    c.in_ok-text.ensures.few c.requires.few c.in_ok-rebuilt.ensures.rebuilt (c.as_slice.ensures.value ∙ c.in_ok-text.ensures.text))
    c.in_ok-replace.ensures.done

pub returns-clause-safe : goal.returns-clause-safe
returns-clause-safe g c =
    replay_begun c.args.model.now c.args.steps.now c.in_ok-rebuilt.rebuilt.taken c.args.output.now c.as_slice.result.now (g.S.Shelf.files c.args.shelf.now) (g.S.Shelf.files c.replace.new.shelf)
    (replayed_into c.replays_are_written.ensures c.args.model.now c.args.steps.now c.in_ok-rebuilt.rebuilt.taken (net_of c.in_ok-rebuilt.rebuilt.graph) c.as_slice.result.now c.requires.usable
    (record {
      formed = c.decompositions_are_formed.ensures.formed c.args.model.now;
      stands = c.decompositions_stand.ensures.stands c.args.model.now c.requires.usable.formed c.requires.usable.ranks;
      points = c.decompositions_stand.ensures.points c.args.model.now c.requires.usable.formed c.requires.usable.ranks;
      wires = c.decompositions_stand.ensures.wires c.args.model.now c.requires.usable.formed c.requires.usable.ranks;
    })
    c.in_ok-text.ensures.few c.requires.few c.in_ok-rebuilt.ensures.rebuilt (c.as_slice.ensures.value ∙ c.in_ok-text.ensures.text))
    c.in_ok-replace.ensures.begun
