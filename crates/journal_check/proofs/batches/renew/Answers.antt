use Rattle.std.proofs.Common.{◌∙◌}
use Rattle.gate_graph.specs.Circuit.{net_of}
use Rattle.journal_check.proofs.batches.renew.Goals as goal

pub returns : goal.returns
returns c = record {
  fits = c.simulate64.ensures.fits (net_of c.args.graph.now) c.requires.batch.fits;
  simulated = c.simulate64.ensures.simulated;
  words = c.simulate64.ensures.words ∙ c.as_slice.ensures.value;
  shown = c.requires.shown (net_of c.args.graph.now) c.simulate64.new.self.words;
}
