-- What each kind of node means: its value from those of its pins, and what follows there from what is known. All else of a kind follows from these.
use Rattle.std.specs.List.{list_all, list_any}
use Rattle.std.specs.Prelude.{Bool, List, None, Option, Some, T, [], false, if◌then◌else◌, not, suc, true, zero, ℕ, ◌&&◌, ◌∷◌}
use Rattle.gate_net.specs.declared.Family.{Family}
use Rattle.gate_net.specs.declared.Family.TheVariants.{Constant, Input, Junction, Parity}
use Rattle.gate_net.specs.declared.Kind.{Kind}
use Rattle.gate_net.specs.declared.Kind.TheVariants.{And, Not, One, Or, Source, Xor, Zero}

abbrev pub family : Kind → Family
family Source = Input
family Zero = Constant false
family One = Constant true
family And = Junction false
family Or = Junction true
family Not = Parity true
family Xor = Parity false

abbrev pub is_gate_family : Family → Bool
is_gate_family Input = false
is_gate_family (Constant b) = false
is_gate_family (Junction c) = true
is_gate_family (Parity i) = true

abbrev pub is_gate_kind : Kind → Bool
is_gate_kind kind = is_gate_family (family kind)

abbrev pub IsGateKind : Kind → Type 0
IsGateKind kind = T (is_gate_kind kind)

abbrev pub constant_in : Family → Option Bool
constant_in (Constant b) = Some b
constant_in _ = None

-- the value of a constant
abbrev pub constant_value : Kind → Option Bool
constant_value kind = constant_in (family kind)

abbrev pub controlling_in : Family → Option Bool
controlling_in (Junction c) = Some c
controlling_in _ = None

-- the controlling value of an And or an Or
abbrev pub controlling : Kind → Option Bool
controlling kind = controlling_in (family kind)

abbrev pub inversion_in : Family → Option Bool
inversion_in (Parity i) = Some i
inversion_in _ = None

-- whether a Not or an Xor inverts the parity of its pins
abbrev pub inversion : Kind → Option Bool
inversion kind = inversion_in (family kind)

-- VALUES
abbrev pub same_bool : Bool → Bool → Bool
same_bool true b = b
same_bool false b = not b

-- c where some pin has it, and else its opposite
abbrev pub junction : Bool → List Bool → Bool
junction c [] = not c
junction c (b ∷ bs) = if same_bool b c then c else junction c bs

-- the opposite where the one is 1
abbrev pub turned : Bool → Bool → Bool
turned b value = if b then not value else value

-- the inversion, turned by each pin
abbrev pub parity : Bool → List Bool → Bool
parity i [] = i
parity i (b ∷ bs) = parity (turned b i) bs

abbrev pub family_value : Family → Bool → List Bool → Bool
family_value Input assigned reads = assigned
family_value (Constant b) assigned reads = b
family_value (Junction c) assigned reads = junction c reads
family_value (Parity i) assigned reads = parity i reads

-- the value of a node that reads these
abbrev pub gate_value : Kind → Bool → List Bool → Bool
gate_value kind assigned reads = family_value (family kind) assigned reads

-- WHAT FOLLOWS FROM WHAT IS KNOWN
-- whether the value is known and is this
abbrev pub is_known : Bool → Option Bool → Bool
is_known b None = false
is_known b (Some c) = same_bool b c

-- c where some pin is known to have it, and its opposite where all pins are known to have that
abbrev pub junction_follows : Bool → List (Option Bool) → Option Bool
junction_follows c os =
    if list_any (is_known c) os then Some c else (if list_all (is_known (not c)) os then Some (not c) else None)

-- the parity where all pins are known
abbrev pub parity_follows : Bool → List (Option Bool) → Option Bool
parity_follows i [] = Some i
parity_follows i (None ∷ os) = None
parity_follows i (Some b ∷ os) = parity_follows (turned b i) os

abbrev pub family_forward : Family → List (Option Bool) → Option Bool
family_forward (Junction c) os = junction_follows c os
family_forward (Parity i) os = parity_follows i os
family_forward _ os = None

-- the value of a gate that follows from the known values of its pins
abbrev pub value_forward : Kind → List (Option Bool) → Option Bool
value_forward kind os = family_forward (family kind) os

-- whether every element but that at q passes
abbrev pub all_but : {A : Type 0} → (A → Bool) → ℕ → List A → Bool
all_but test q [] = true
all_but test zero (x ∷ xs) = list_all test xs
all_but test (suc q) (x ∷ xs) = test x && all_but test q xs

abbrev pub junction_back : Bool → Bool → List (Option Bool) → ℕ → Option Bool
junction_back c value os q =
    if same_bool value c then (if all_but (is_known (not c)) q os then Some c else None) else Some (not c)

-- the parity of all pins but that at q, where they are known
abbrev pub parity_back : Bool → List (Option Bool) → ℕ → Option Bool
parity_back i [] q = None
parity_back i (o ∷ os) zero = parity_follows i os
parity_back i (None ∷ os) (suc q) = None
parity_back i (Some b ∷ os) (suc q) = parity_back (turned b i) os q

abbrev pub family_back : Family → Bool → List (Option Bool) → ℕ → Option Bool
family_back (Junction c) value os q = junction_back c value os q
family_back (Parity i) value os q = parity_back (turned value i) os q
family_back _ value os q = None

-- the value at pin q that follows from that of the gate and the known values of the other pins
abbrev pub value_back : Kind → Bool → List (Option Bool) → ℕ → Option Bool
value_back kind value os q = family_back (family kind) value os q

abbrev pub known_forward : Family → Option Bool → List (Option Bool) → Option Bool
known_forward Input known os = known
known_forward (Constant b) known os = Some b
known_forward family known os = family_forward family os

-- what follows forward for a node; a source has what is known of it
abbrev pub kind_forward : Kind → Option Bool → List (Option Bool) → Option Bool
kind_forward kind known os = known_forward (family kind) known os
