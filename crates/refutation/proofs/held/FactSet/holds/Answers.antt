use Rattle.std.proofs.Common.{ap, ◌∙◌}
use Rattle.refutation.specs.FactSets.{is_marked, held_by}
use Rattle.refutation.proofs.FactMarks.{held_read}
use Rattle.refutation.proofs.held.FactSet.holds.Goals as goal

pub returns : goal.returns
returns c =
    c.mark_of.ensures ∙ ap (λ m. is_marked m c.args.fact) c.index.ensures
    ∙ held_read c.self.inside.nodes.items c.args.node.0 c.index.result.now c.args.fact (rw (← c.self.view_is) at c.requires)
    ∙ ap (λ marks. held_by marks c.args.node.0 c.args.fact) c.self.view_is
