use Rattle.std.proofs.Common.{ap, arith, length, sym, true, ◌∙◌, ◌≡◌}
use Rattle.std.specs.Prelude.{slice_set}
use Rattle.candidate_wires.proofs.StampLists.{marks-length, marks-set}
use Rattle.candidate_wires.proofs.node_set.NodeSet.set.Goals as goal

pub index_mut-requires : goal.index_mut-requires
index_mut-requires c =
    let long : length c.args.self.now ≡ length c.self.inside.stamps.items = ap (λ bs. length bs) (sym c.self.view_is) ∙ marks-length c.self.inside.present c.self.inside.stamps.items in
    omega (arith, long, c.requires, c.self.inside.stamps.ok.0)

pub returns : goal.returns
returns c = marks-set c.self.inside.present c.self.inside.stamps.items c.args.node.0 ∙ ap (λ bs. slice_set bs c.args.node.0 true) c.self.view_is
