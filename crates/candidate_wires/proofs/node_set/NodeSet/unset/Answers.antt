use Rattle.std.proofs.Common.{ap, arith, false, length, sym, ◌∙◌, ◌≡◌}
use Rattle.std.specs.Prelude.{slice_set}
use Rattle.candidate_wires.proofs.StampLists.{marks-length, marks-unset}
use Rattle.candidate_wires.proofs.node_set.NodeSet.unset.Goals as goal

pub index_mut-requires : goal.index_mut-requires
index_mut-requires c =
    let long : length c.args.self.now ≡ length c.self.inside.stamps.items = ap (λ bs. length bs) (sym c.self.view_is) ∙ marks-length c.self.inside.present c.self.inside.stamps.items in
    omega (arith, long, c.requires, c.self.inside.stamps.ok.0)

pub returns : goal.returns
returns c = marks-unset c.self.inside.present c.self.inside.stamps.items c.args.node.0 c.self.invariant.some ∙ ap (λ bs. slice_set bs c.args.node.0 false) c.self.view_is
