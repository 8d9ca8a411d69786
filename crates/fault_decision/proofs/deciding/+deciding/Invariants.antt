use Rattle.std.proofs.Common.{◌*◌, ◌+◌}
use Rattle.fault_decision.proofs.deciding.+deciding.Given as goal

abbrev pub decreases-decide_open : goal.decreases-decide_open
decreases-decide_open l = 3 * l.depth

abbrev pub decreases-decide_with : goal.decreases-decide_with
decreases-decide_with l = 3 * l.depth + 1

abbrev pub decreases-split : goal.decreases-split
decreases-split l = 3 * l.depth + 2
