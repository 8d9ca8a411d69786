-- The fact that a line gives, computed.
use Rattle.std.specs.Prelude.{Bool, None, Option, Some, slice_get, ℕ}
pub use Rattle.local_evaluation.specs.Chains.{GoesOnTo}
use Rattle.gate_net.specs.Forward.{value_back, value_forward}
use Rattle.gate_net.specs.Net.{Net, drivers_of, kind_of}
use Rattle.refutation.specs.Facts.{Held}
use Rattle.refutation.specs.Lines.{Concludes}
use Rattle.refutation.specs.Pins.{known_on, pins_of}
use Rattle.refutation.specs.declared.pins.Aspect.{Aspect}
use Rattle.local_evaluation.specs.declared.pins.Stuck.{Stuck}
use Rattle.refutation.specs.declared.reasoning.Fact.{Fact}
use Rattle.refutation.specs.declared.reasoning.Line.{Line}
use Rattle.rm_base.specs.declared.numbers.Fault.{Fault}
use Rattle.rm_base.specs.declared.numbers.NodeId.{NodeId}

-- the answer of a line: its node and fact, or None exactly where its condition fails
abbrev pub IsAnswer : Net → Fault → Held → Line → Option (NodeId × Fact) → Type 0
IsAnswer net fault held l None = (x : ℕ) (fact : Fact) → Concludes net fault held l x fact → ⊥
IsAnswer net fault held l (Some r) = Concludes net fault held l r.0.0 r.1

abbrev pub bind : {A B : Type 0} → Option A → (A → Option B) → Option B
bind None f = None
bind (Some a) f = f a

-- the value of the gate that follows
abbrev pub forward_at : Net → Option Stuck → Aspect → Held → ℕ → Option Bool
forward_at net stuck aspect held y = bind (kind_of net y) (λ kind. value_forward kind (pins_of stuck aspect held (drivers_of net y)))

-- the driver of the pin, and the value that follows for it
abbrev pub backward_at : Net → Option Stuck → Aspect → Held → ℕ → ℕ → Option (ℕ × Bool)
backward_at net stuck aspect held y q =
    bind (kind_of net y) (λ kind. bind (known_on aspect held y) (λ value. bind (slice_get (drivers_of net y) q) (λ d. bind (value_back kind value (pins_of stuck aspect held (drivers_of net y)) q) (λ b. Some (d, b)))))

-- two things that are known of one live node
abbrev pub both_at : Net → Aspect → Aspect → Held → ℕ → Option (Bool × Bool)
both_at net one other held y = bind (kind_of net y) (λ _. bind (known_on one held y) (λ a. bind (known_on other held y) (λ b. Some (a, b))))

abbrev pub seen_pull : Option (NodeId × Bool) → Option (ℕ × Bool)
seen_pull None = None
seen_pull (Some r) = Some (r.0.0, r.1)
