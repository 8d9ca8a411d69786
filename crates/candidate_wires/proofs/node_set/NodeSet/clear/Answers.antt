use Rattle.std.proofs.Common.{ap, arith, ◌+◌, false, length, replicate, sym, ◌∙◌, ◌≡◌, ◌≤◌}
use Rattle.std.specs.Prelude.{slice_index}
use Rattle.candidate_wires.proofs.StampLists.{marks-length, marks-none}
use Rattle.candidate_wires.proofs.node_set.NodeSet.clear.Goals as goal

pub returns-else-self : goal.returns-else-self
returns-else-self c =
    let long : length c.self.inside.stamps.items ≡ length c.args.self.now = sym (marks-length c.self.inside.present c.self.inside.stamps.items) ∙ ap (λ bs. length bs) c.self.view_is in
    marks-none (c.self.inside.present + 1) c.self.inside.stamps.items (λ x. let le : slice_index c.self.inside.stamps.items x ≤ c.self.inside.present = c.self.invariant.below x in omega (arith, le)) ∙ ap (λ n. replicate n false) long

pub returns-then-self : goal.returns-then-self
returns-then-self c =
    let same : length c.clear_all.new.stamps.items ≡ length c.self.inside.stamps.items = c.clear_all.ensures.size in
    let long : length c.self.inside.stamps.items ≡ length c.args.self.now = sym (marks-length c.self.inside.present c.self.inside.stamps.items) ∙ ap (λ bs. length bs) c.self.view_is in
    marks-none 1 c.clear_all.new.stamps.items (λ x. let none : slice_index c.clear_all.new.stamps.items x ≡ 0 = c.clear_all.ensures.none x in omega (arith, none)) ∙ ap (λ n. replicate n false) (same ∙ long)
