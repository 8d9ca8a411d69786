use Rattle.std.proofs.Common.{◌≤◌, ap, subst, sym, ◌∙◌}
use Rattle.std.specs.Prelude.{All, IfSome}
use Rattle.rm_model.specs.WellFormed.{IsWellFormed}
use Rattle.rm_model.specs.declared.parts.Model.{Model}
use Rattle.rm_model.specs.declared.parts.Latch.{Latch}
use Rattle.blif_format.specs.Text.{text_of}
use Rattle.gate_graph.specs.Circuit.{net_of}
use Rattle.graph_to_model.specs.Fits.{Fits}
use Rattle.graph_to_model.specs.Laws.{AreFew}
use Rattle.graph_to_model.specs.NetModel.{model_of_net}
use Rattle.net_writer.proofs.net_text.Goals as goal

pub model_of_tidy-requires-clause-formed : goal.model_of_tidy-requires-clause-formed
model_of_tidy-requires-clause-formed c = subst IsWellFormed (sym c.model.ensures) c.requires.formed

pub model_of_tidy-requires-clause-fits : goal.model_of_tidy-requires-clause-fits
model_of_tidy-requires-clause-fits c = subst (λ (m : Model). Fits (net_of c.args.graph.now) m) (sym c.model.ensures) c.requires.fits

pub write_model-requires : goal.write_model-requires
write_model-requires c =
    subst (λ (m : Model). All (λ (l : Latch). IfSome l.init (λ n. n ≤ 3)) m.latches)
    (sym (c.in_ok-made.ensures.model ∙ ap (λ (m : Model). model_of_net m (net_of c.args.graph.now)) c.model.ensures)) c.requires.formed.inits

pub returns-clause-text : goal.returns-clause-text
returns-clause-text c = c.in_ok-text.ensures.text ∙ ap (λ (m : Model). text_of m) (c.in_ok-made.ensures.model ∙ ap (λ (m : Model). model_of_net m (net_of c.args.graph.now)) c.model.ensures)

pub returns-clause-few : goal.returns-clause-few
returns-clause-few c = subst (λ (m : Model). AreFew (net_of c.args.graph.now) m) c.model.ensures c.in_ok-made.ensures.few
