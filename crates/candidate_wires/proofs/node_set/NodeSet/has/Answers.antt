use Rattle.std.proofs.Common.{subst}
use Rattle.std.proofs.Common.{◌∙◌, ap, sym}
use Rattle.std.specs.Prelude.{slice_index}
use Rattle.gate_graph.specs.Search.{IsSeen}
use Rattle.candidate_wires.proofs.StampLists.{seen_is}
use Rattle.candidate_wires.proofs.node_set.NodeSet.has.Goals as goal

pub returns : goal.returns
returns c =
    let same = seen_is c.self.inside.present c.self.inside.stamps.items c.args.node.0 c.self.invariant.some in (
      λ t. subst (λ bs. IsSeen bs c.args.node.0) c.self.view_is (same.0 (ap (λ xs. slice_index xs c.args.node.0) (sym c.as_slice.ensures.value) ∙ c.has_stamp.ensures.0 t)),
      λ seen. c.has_stamp.ensures.1 (ap (λ xs. slice_index xs c.args.node.0) c.as_slice.ensures.value ∙ same.1 (subst (λ bs. IsSeen bs c.args.node.0) (sym c.self.view_is) seen)),
    )
