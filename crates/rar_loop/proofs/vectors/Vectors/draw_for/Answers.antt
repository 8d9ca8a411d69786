use Rattle.std.proofs.Common.{List, Option, ℕ, sym, ◌∙◌, ap, slice_get}
use Rattle.gate_graph.specs.Circuit.{net_of}
use Rattle.rar_loop.proofs.Filtering.{none_kept}
use Rattle.rar_loop.proofs.vectors.Vectors.draw_for.Goals as goal

pub returns : goal.returns
returns c = record {
  fits = c.simulate64.ensures.fits (net_of c.args.graph.now) c.in_ok-lanes.ensures;
  simulated = c.simulate64.ensures.simulated;
  noted = c.in_ok-notes.ensures.right (net_of c.args.graph.now) c.simulate64.new.self.words;
  turned = λ gate word e i h t. absurd (none_kept _ gate word (sym (ap (λ (xs : List (Option ℕ)). slice_get xs gate) c.in_ok-turned.ensures) ∙ e));
  listed = λ gate word e. absurd (none_kept _ gate word (sym (ap (λ (xs : List (Option ℕ)). slice_get xs gate) c.in_ok-turned.ensures) ∙ e));
  found = c.keep_all.ensures.simulated;
  seeks = tt;
}
