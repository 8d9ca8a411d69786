use Rattle.std.proofs.Common.{ap, ℕ, ◌*◌, ◌+◌, ◌%◌, ◌^◌}
use Rattle.rm_model.specs.Inner.PlacedNames.{mixed}
use Rattle.rm_model.proofs.ordered_names.mix.Goals as goal

pub returns : goal.returns
unfolding mixed
returns c = ap (λ (b : ℕ). ((c.args.hash * 6364136223846793005) % 2 ^ 64 + b) % 2 ^ 64) c.from.ensures
