-- Laws of searches.
use Rattle.std.specs.Prelude.{Bool, None, Option, ℕ, ◌≡◌}
use Rattle.refutation.specs.OpenSearch.{Matters}
use Rattle.gate_net.specs.Forward.{IsForwardReading, Marking, MarksDetected, MarksQuiet}
use Rattle.gate_net.specs.Net.{IsKind, IsWellFormed, Net}
use Rattle.gate_net.specs.Values.{HasPin}
use Rattle.gate_net.specs.declared.Kind.TheVariants.{Source}
use Rattle.rm_base.specs.declared.numbers.Fault.{Fault}

-- where each source that matters is known, a forward reading has found a test, or is quiet
abbrev pub KnownSourcesDecide : Type 0
KnownSourcesDecide =
    (net : Net) (fault : Fault) → IsWellFormed net → HasPin net fault → (known : ℕ → Option Bool) (m : Marking) → IsForwardReading net fault known m
    → ((x : ℕ) → IsKind net x Source → known x ≡ None → Matters net fault x → ⊥) → (MarksDetected net m → ⊥) → MarksQuiet net m
