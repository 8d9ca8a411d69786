use Rattle.journal_check.proofs.DecompositionLaws.{decomposed_within}
use Rattle.journal_check.proofs.replaying.Replay.new.Goals as goal

pub over-requires : goal.over-requires
over-requires c = record {
  held = c.in_ok-graph.ensures.held;
  within = decomposed_within c.args.model.now c.in_ok-graph.graph c.in_ok-graph.ensures.net (c.decompositions_stand.ensures.wires c.args.model.now c.requires.formed c.requires.ranked) c.in_ok-graph.ensures.within c.in_ok-graph.ensures.nodes c.in_ok-graph.ensures.few c.requires.observed;
}
