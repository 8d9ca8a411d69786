use Rattle.std.proofs.Common.{◌≡◌, ◌≤◌, ℕ, Some, take}
use Rattle.std.specs.Prelude.{slice_get}
use Rattle.blif_flatten.specs.declared.modules.Link.{Link}
use Rattle.blif_flatten.specs.declared.modules.Module.{Module}
use Rattle.blif_flatten.specs.Inner.Ranks.{number_of}
use Rattle.blif_flatten.proofs.recursion.rise_nowhere.Given as goal

abbrev pub invariant-loop-place : goal.invariant-loop-place
invariant-loop-place l = (k : ℕ) (m : Module) → slice_get (take l.place l.modules) k ≡ Some m → (j : ℕ) (i : Link) → slice_get m.links j ≡ Some i → number_of l.numbers i.called ≤ number_of l.numbers k
