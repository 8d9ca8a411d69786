-- Vectors of a net.
use Rattle.std.specs.Prelude.{◌≡◌, ℕ, Bool, List, Some, length, slice_get}
use Rattle.gate_net.specs.Net.{Net, source_count}

-- each vector has a value for each source
abbrev pub HaveValues : Net → List (List Bool) → Type 0
HaveValues net vectors = (k : ℕ) (v : List Bool) → slice_get vectors k ≡ Some v → length v ≡ source_count net
