use Rattle.std.proofs.Common.{length, rules, ◌≡◌}
use Rattle.refutation_check.proofs.Branchings.{none_left, none_pending}
use Rattle.refutation_check.proofs.branches.Branches.is_end.Goals as goal

pub returns-then-self : goal.returns-then-self
returns-then-self c = (
  λ h. none_left c.args.self.now c.if-self.true (search rules),
  λ none. let empty : length c.args.self.now.pending.items ≡ 0 = none_pending c.args.self.now c.if-self.true none in search (empty, rules),
)
