-- Tests of the nodes of a net.
use Rattle.std.specs.Prelude.{ℕ, zero, suc, Bool, true, false, ◌||◌, Option, Some, None, List, [], ◌∷◌, option_and_then, slice_get, take, nat_eq}
use Rattle.gate_net.specs.declared.Kind.{Kind}
use Rattle.gate_net.specs.declared.Kind.TheVariants.{Not, Xor}
use Rattle.gate_net.specs.declared.Family.{Family}
use Rattle.gate_net.specs.declared.Family.TheVariants.{Input}
use Rattle.gate_net.specs.Meaning.{constant_value, controlling, family, is_gate_family}
use Rattle.gate_net.specs.Net.{Node, Net, node_at, kind_of, drivers_in, drivers_of}

abbrev pub is_present : {A : Type 0} → Option A → Bool
is_present None = false
is_present (Some x) = true

abbrev pub is_live : Net → ℕ → Bool
is_live net x = is_present (node_at net x)

abbrev pub gate_control : Option Kind → Option Bool
gate_control None = None
gate_control (Some kind) = controlling kind

-- the controlling value of an And or an Or
abbrev pub control_of : Net → ℕ → Option Bool
control_of net x = gate_control (kind_of net x)

-- an And or an Or
abbrev pub is_junction : Net → ℕ → Bool
is_junction net x = is_present (control_of net x)

abbrev pub is_not_kind : Option Kind → Bool
is_not_kind (Some Not) = true
is_not_kind _ = false

abbrev pub is_not : Net → ℕ → Bool
is_not net x = is_not_kind (kind_of net x)

abbrev pub is_xor_kind : Option Kind → Bool
is_xor_kind (Some Xor) = true
is_xor_kind _ = false

abbrev pub is_xor : Net → ℕ → Bool
is_xor net x = is_xor_kind (kind_of net x)

-- an And, an Or or an Xor
abbrev pub reads_several : Net → ℕ → Bool
reads_several net x = is_junction net x || is_xor net x

abbrev pub family_in : Option Kind → Family
family_in None = Input
family_in (Some kind) = family kind

-- what the node is, where a number without one is as a source
abbrev pub family_of : Net → ℕ → Family
family_of net x = family_in (kind_of net x)

abbrev pub is_gate : Net → ℕ → Bool
is_gate net x = is_gate_family (family_of net x)

abbrev pub kind_constant : Option Kind → Option Bool
kind_constant None = None
kind_constant (Some kind) = constant_value kind

-- the value of a constant
abbrev pub constant_of : Net → ℕ → Option Bool
constant_of net x = kind_constant (kind_of net x)

abbrev pub driver_at : Net → ℕ → ℕ → Option ℕ
driver_at net gate position = slice_get (drivers_of net gate) position

-- the position of the other of two pins
abbrev pub other_position : ℕ → ℕ
other_position zero = 1
other_position (suc position) = 0

-- the constant that the pin reads
abbrev pub constant_at : Net → ℕ → ℕ → Option Bool
constant_at net gate position = option_and_then (constant_of net) (driver_at net gate position)

-- the driver of the driver
abbrev pub second_driver : Net → ℕ → Option ℕ
second_driver net gate = option_and_then (λ inner. driver_at net inner 0) (driver_at net gate 0)

abbrev pub is_among : ℕ → List ℕ → Bool
is_among x [] = false
is_among x (y ∷ ys) = nat_eq y x || is_among x ys

abbrev pub is_read_in : List (Option Node) → ℕ → Bool
is_read_in [] x = false
is_read_in (o ∷ os) x = is_among x (drivers_in o) || is_read_in os x

-- some pin reads the node, or it is observed
abbrev pub is_in_use : Net → ℕ → Bool
is_in_use net x = is_read_in net.nodes x || is_among x net.observed

abbrev pub is_some_among : Option ℕ → List ℕ → Bool
is_some_among None xs = false
is_some_among (Some x) xs = is_among x xs

-- an earlier place of the list has the same number
abbrev pub is_repeated : List ℕ → ℕ → Bool
is_repeated xs k = is_some_among (slice_get xs k) (take k xs)

abbrev pub live_in : Option Node → ℕ
live_in None = 0
live_in (Some n) = 1
