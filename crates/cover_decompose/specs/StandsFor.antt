-- When a net stands for a model.
use Rattle.std.specs.Prelude.{◌≡◌, ℕ, ◌+◌, Bool, map, length, Some, slice_get}
use Rattle.rm_model.specs.Value.{source_names, observed_names, IsConsistent}
use Rattle.rm_model.specs.declared.parts.Model.{Model}
use Rattle.gate_net.specs.Net.{Net, source_count}
use Rattle.gate_net.specs.Values.{AreGoodValues}
use Rattle.rm_base.specs.Words.{Word}
use Rattle.rm_base.specs.Numbers.{first_source}

-- each source has the same boolean at its node and at its name
abbrev pub SameAssignment : Model → (ℕ → Bool) → (Word → Bool) → Type 0
SameAssignment m a v = (k : ℕ) (x : Word) → slice_get (source_names m) k ≡ Some x → a (first_source + k) ≡ v x

-- the net has as many sources and observed points, and each observed node has the value of the observed name at the same place
pub record StandsFor (net : Net) (m : Model) : Type 0 where
  pub sources : source_count net ≡ length (source_names m)
  pub observed : length net.observed ≡ length (observed_names m)
  pub values : (a values : ℕ → Bool) (v : Word → Bool) → AreGoodValues net a values → IsConsistent m v → SameAssignment m a v → map values net.observed ≡ map v (observed_names m)

-- equal observed names stand on one node, and a source's own name on its node
pub record HasPoints (net : Net) (m : Model) : Type 0 where
  pub same : (i j : ℕ) (x : Word) → slice_get (observed_names m) i ≡ Some x → slice_get (observed_names m) j ≡ Some x → slice_get net.observed i ≡ slice_get net.observed j
  pub own : (i k : ℕ) (x : Word) → slice_get (observed_names m) i ≡ Some x → slice_get (source_names m) k ≡ Some x → slice_get net.observed i ≡ Some (first_source + k)
