use Rattle.std.proofs.Common.{◌∙◌}
use Rattle.gate_graph.specs.Circuit.{net_of}
use Rattle.journal_check.proofs.batches.Batches.add.Goals as goal

pub returns : goal.returns
returns c = record {
  batches = c.keep.ensures (net_of c.args.graph.now) (rw c.in_ok-words.ensures.kept c.requires.batches)
      (record {
        fits = c.simulate64.ensures.fits (net_of c.args.graph.now) c.in_ok-lanes.ensures;
        simulated = c.simulate64.ensures.simulated;
        words = c.simulate64.ensures.words ∙ c.as_slice-2.ensures.value;
        shown = c.in_ok-shown.ensures (net_of c.args.graph.now) c.simulate64.new.self.words;
      });
}
