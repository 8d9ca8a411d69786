-- The tidying order: which step comes next.
use Rattle.std.specs.Prelude.{◌≡◌, ℕ, zero, suc, Option, Some, None, [], ◌∷◌, length, if◌then◌else◌}
use Rattle.rm_base.specs.declared.numbers.NodeId.{NodeId}
use Rattle.gate_net.specs.Net.{Net, drivers_of}
use Rattle.wire_edit.specs.declared.steps.Step.{Step}
use Rattle.wire_edit.specs.declared.steps.Step.TheVariants.{Const, Same, NoPins, OnePin, Twice, Twin, Dead}
use Rattle.wire_edit.specs.Steps.{rule_applies}
use Rattle.wire_edit.specs.Refusals.{or_else, first_of}

abbrev pub node : ℕ → NodeId
node x = record { 0 = x }

-- the rule, where it applies
abbrev pub where_met : Net → Step → Option Step
where_met net step = if rule_applies net step then Some step else None

-- the first that there is at so many numbers from that one on
abbrev pub first_from : (ℕ → Option Step) → ℕ → ℕ → Option Step
first_from at from zero = None
first_from at from (suc count) = or_else (at from) (first_from at (suc from) count)

-- the rule that comes first at the gate, if one applies there
unfoldable pub rule_at : Net → ℕ → Option Step
rule_at net gate =
    first_of (
    first_from (λ position. where_met net (Const (node gate) position)) 0 (length (drivers_of net gate))
    ∷ first_from (λ position. where_met net (Same (node gate) position)) 0 (length (drivers_of net gate))
    ∷ where_met net (NoPins (node gate))
    ∷ where_met net (OnePin (node gate))
    ∷ where_met net (Twice (node gate))
    ∷ first_from (λ other. where_met net (Twin (node gate) (node other))) 0 gate
    ∷ where_met net (Dead (node gate))
    ∷ []
    )

-- the rule at the least gate where one applies
abbrev pub next_step : Net → Option Step
next_step net = first_from (rule_at net) 0 (length net.nodes)

-- no local rule but NewNot applies
abbrev pub IsTidy : Net → Type 0
IsTidy net = next_step net ≡ None
