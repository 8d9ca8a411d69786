use Rattle.std.proofs.Common.{◌≡◌, replicate}
use Rattle.refutation.proofs.FactMarks.{none, none_in, none_marked}
use Rattle.refutation.proofs.held.FactSet.for_numbers.Goals as goal

pub returns-clause-none : goal.returns-clause-none
returns-clause-none c =
    let e : c.in_ok-nodes.nodes.items ≡ replicate c.args.numbers none = c.in_ok-nodes.ensures.items_if_clones_equal (λ y e. e) in
    rw e (none_in c.args.numbers none none_marked)
