use Rattle.std.proofs.Common.{length, rules, subst, sym, ◌≤◌}
use Rattle.rm_model.specs.Value.{source_names}
use Rattle.rm_model.specs.WellFormed.{IsWellFormed}
use Rattle.rm_model.specs.declared.parts.Model.{Model}
use Rattle.text_tests.proofs.covers.decompose_formed.Goals as goal

pub decompose-requires-clause-formed : goal.decompose-requires-clause-formed
decompose-requires-clause-formed c =
    let formed : IsWellFormed c.args.model = search rules in
    subst IsWellFormed (sym c.in-Ok.ensures.same) formed

pub decompose-requires-clause-sources : goal.decompose-requires-clause-sources
decompose-requires-clause-sources c =
    let few : length (source_names c.args.model) ≤ 1024 = search rules in
    subst (λ (m : Model). length (source_names m) ≤ 1024) (sym c.in-Ok.ensures.same) few
