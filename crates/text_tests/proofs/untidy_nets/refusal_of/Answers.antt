use Rattle.std.proofs.Common.{None, length, rules, subst, sym, ◌∙◌, ◌≡◌, ◌≤◌}
use Rattle.rm_model.specs.Value.{source_names}
use Rattle.rm_model.specs.WellFormed.{IsWellFormed}
use Rattle.rm_model.specs.declared.parts.Model.{Model}
use Rattle.gate_net.specs.Net.{Net}
use Rattle.gate_graph.specs.Circuit.{net_of}
use Rattle.cover_decompose.specs.Decomposition.{net_of_model}
use Rattle.rm_model.specs.Ranks.{first_without_rank}
use Rattle.graph_to_model.specs.Fits.{Fits}
use Rattle.text_tests.proofs.untidy_nets.refusal_of.Goals as goal

pub decompose-requires-clause-formed : goal.decompose-requires-clause-formed
decompose-requires-clause-formed c =
    let formed : IsWellFormed c.args.model = search rules in
    subst IsWellFormed (sym c.in-Ok.ensures.same) formed

pub decompose-requires-clause-sources : goal.decompose-requires-clause-sources
decompose-requires-clause-sources c =
    let few : length (source_names c.args.model) ≤ 1024 = search rules in
    subst (λ (m : Model). length (source_names m) ≤ 1024) (sym c.in-Ok.ensures.same) few

pub model_of-requires-clause-formed : goal.model_of-requires-clause-formed
model_of-requires-clause-formed c =
    let formed : IsWellFormed c.args.model = search rules in
    subst IsWellFormed (sym (c.model.ensures ∙ c.in-Ok.ensures.same)) formed

pub model_of-requires-clause-fits : goal.model_of-requires-clause-fits
model_of-requires-clause-fits c =
    let m : Model = c.in-Ok.ranked in
    let given : IsWellFormed c.args.model = search rules in
    let formed : IsWellFormed m = subst IsWellFormed (sym c.in-Ok.ensures.same) given in
    let ranked : first_without_rank m ≡ None = subst (λ (m : Model). first_without_rank m ≡ None) (sym c.in-Ok.ensures.same) c.in-Ok.ensures.ranked in
    let stands = c.decompositions_stand.ensures.stands m formed ranked in
    let fits : Fits (net_of_model m) m = record { sources = stands.sources; observed = stands.observed; points = c.decompositions_stand.ensures.points m formed ranked } in
    subst (Fits (net_of c.in-Ok-decompose.graph)) (sym c.model.ensures) (subst (λ (n : Net). Fits n m) (sym c.in-Ok-decompose.ensures.net) fits)
