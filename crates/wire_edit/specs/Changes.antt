-- The changes of which steps are made: one of them for each step.
use Rattle.std.specs.Prelude.{ℕ, Bool, Option, Some, None, List, [], ◌∷◌, slice_set}
use Rattle.gate_net.specs.declared.Kind.TheVariants.{Not}
use Rattle.gate_net.specs.Net.{Node, Net, trimmed}
use Rattle.gate_net.specs.Edits.{with_pin, without_pin, fixed, with_readers_moved, turned_to_not}

pub data Change : Type 0 where
  append : (gate driver : ℕ) → Change
  remove : (gate position : ℕ) → Change
  fix : (gate position : ℕ) (value : Bool) → Change
  readers : (from to : ℕ) → Change
  new_not : (driver : ℕ) → Change
  retire : (gate : ℕ) → Change
  to_not : (gate position : ℕ) → Change

-- the node has the least number that no live node has
abbrev pub with_least_free : List (Option Node) → Node → List (Option Node)
with_least_free [] n = Some n ∷ []
with_least_free (None ∷ os) n = Some n ∷ os
with_least_free (Some m ∷ os) n = Some m ∷ with_least_free os n

-- a Not of the node has the least free number
abbrev pub with_new_not : Net → ℕ → Net
with_new_not net x = record net { nodes = with_least_free net.nodes (record { kind = Not; drivers = x ∷ [] }) }

-- the node and its pins are gone
abbrev pub without_node : Net → ℕ → Net
without_node net x = record net { nodes = trimmed (slice_set net.nodes x None) }

-- the net after a change
abbrev pub changed : Net → Change → Net
changed net (append gate driver) = with_pin net gate driver
changed net (remove gate position) = without_pin net gate position
changed net (fix gate position value) = fixed net (record { gate = record { 0 = gate }; position = position; value = value })
changed net (readers from to) = with_readers_moved net from to
changed net (new_not driver) = with_new_not net driver
changed net (retire gate) = without_node net gate
changed net (to_not gate position) = turned_to_not net gate position
