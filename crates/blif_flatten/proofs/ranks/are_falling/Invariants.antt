use Rattle.std.proofs.Common.{◌≡◌, ℕ, Some, length, take}
use Rattle.std.specs.Prelude.{slice_get}
use Rattle.blif_flatten.specs.declared.modules.Module.{Module}
use Rattle.blif_flatten.specs.Inner.Ranks.{Falls}
use Rattle.blif_flatten.proofs.ranks.are_falling.Given as goal

abbrev pub invariant-loop-place : goal.invariant-loop-place
invariant-loop-place l = (k : ℕ) (m : Module) → slice_get (take l.place l.modules) k ≡ Some m → Falls l.numbers (length l.modules) k m
