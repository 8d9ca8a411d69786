-- The lines of reasoning: the condition of each, and the node and the fact that it gives.
use Rattle.std.specs.List.{list_all}
use Rattle.std.specs.Prelude.{Bool, IsTrue, List, Some, [], false, if◌then◌else◌, map, not, slice_get, true, ℕ, ◌∷◌, ◌≡◌, ◌≢◌}
use Rattle.gate_net.specs.Forward.{IsForwardReading, Marking, MarksQuiet, all_but, is_known, value_back, value_forward}
use Rattle.gate_net.specs.Net.{IsGate, IsKind, IsLive, Net, Reads, drivers_of}
use Rattle.gate_net.specs.Paths.{IsInChain, Reaches}
use Rattle.gate_net.specs.Values.{controlling, faulty_reads, inversion, same_bool}
use Rattle.gate_net.specs.declared.Kind.{Kind}
use Rattle.gate_net.specs.declared.Kind.TheVariants.{Not, One, Zero}
use Rattle.refutation.specs.Facts.{Held, known_equal, known_faulty, known_good}
use Rattle.refutation.specs.declared.reasoning.Fact.{Fact}
use Rattle.refutation.specs.declared.reasoning.Fact.TheVariants.{Differs, Equal, Faulty, Good}
use Rattle.refutation.specs.declared.reasoning.Line.{Line}
use Rattle.refutation.specs.declared.reasoning.Line.TheVariants.{Act, Chain, Compare, Constant, DiffersBack, EqualForward, FaultyBack, FaultyForward, GoodBack, GoodForward, NotDiffers, NotEqual, Out, Side, Site, ToFaulty, ToGood}
use Rattle.rm_base.specs.declared.numbers.Fault.{Fault}

-- the pin is the stuck one
abbrev pub IsStuckPin : Fault → ℕ → ℕ → Type 0
IsStuckPin fault y q = (y ≡ fault.gate.0) × (q ≡ fault.position)

-- a Not, which inverts the parity of its pins, or an Xor
abbrev pub IsParity : Net → ℕ → Bool → Type 0
IsParity net gate inverts = (kind : Kind) × IsKind net gate kind × (inversion kind ≡ Some inverts)

-- the driver of one pin is known to differ, and those of all other pins to be equal
abbrev pub OneDiffers : Held → List ℕ → Type 0
OneDiffers held drivers =
    (q : ℕ) × (driver : ℕ) × (slice_get drivers q ≡ Some driver) × (known_equal held driver ≡ Some false)
    × IsTrue (all_but (is_known true) q (map (known_equal held) drivers))

-- the line's condition is met with these facts held, and it gives that fact on node x
abbrev pub Concludes : Net → Fault → Held → Line → ℕ → Fact → Type 0
-- the driver of the stuck pin has the opposite value
Concludes net fault held Act x fact = Reads net fault.gate.0 fault.position x × (fact ≡ Good (not fault.value))
-- the faulty gate differs
Concludes net fault held Site x fact = (x ≡ fault.gate.0) × (fact ≡ Differs)
-- each node of the chain differs
Concludes net fault held (Chain y) x fact = IsInChain net fault.gate.0 y.0 × (x ≡ y.0) × (fact ≡ Differs)
-- what the faulty gate doesn't reach is equal
Concludes net fault held (Out y) x fact =
    IsLive net x × (x ≢ fault.gate.0) × (Reaches net fault.gate.0 x → ⊥) × (x ≡ y.0) × (fact ≡ Equal)
-- the gate's value follows from the good values of its drivers
Concludes net fault held (GoodForward y) x fact =
    (kind : Kind) × (value : Bool) × IsKind net x kind
    × (value_forward kind (map (known_good held) (drivers_of net x)) ≡ Some value)
    × (x ≡ y.0) × (fact ≡ Good value)
-- the value at the pin follows from the good values of the gate and the other drivers
Concludes net fault held (GoodBack y q) x fact =
    (kind : Kind) × (value : Bool) × (other : Bool) × IsKind net y.0 kind × (known_good held y.0 ≡ Some value)
    × (value_back kind value (map (known_good held) (drivers_of net y.0)) q ≡ Some other)
    × Reads net y.0 q x × (fact ≡ Good other)
-- both values are known
Concludes net fault held (Compare y) x fact =
    IsLive net x × (good : Bool) × (faulty : Bool) × (known_good held x ≡ Some good) × (known_faulty held x ≡ Some faulty)
    × (x ≡ y.0) × (fact ≡ (if same_bool good faulty then Equal else Differs))
-- all drivers of a gate that isn't the faulty one are equal
Concludes net fault held (EqualForward y) x fact =
    IsGate net x × (x ≢ fault.gate.0) × IsTrue (list_all (is_known true) (map (known_equal held) (drivers_of net x)))
    × (x ≡ y.0) × (fact ≡ Equal)
-- a gate that isn't the faulty one differs, and the drivers of all its other pins are equal
Concludes net fault held (DiffersBack y q) x fact =
    IsGate net y.0 × (y.0 ≢ fault.gate.0) × (known_equal held y.0 ≡ Some false)
    × IsTrue (all_but (is_known true) q (map (known_equal held) (drivers_of net y.0)))
    × Reads net y.0 q x × (fact ≡ Differs)
-- an And or an Or differs, so an equal driver doesn't control it
Concludes net fault held (Side y q) x fact =
    (kind : Kind) × (c : Bool) × IsKind net y.0 kind × (controlling kind ≡ Some c) × (known_equal held y.0 ≡ Some false)
    × (IsStuckPin fault y.0 q → ⊥) × (known_equal held x ≡ Some true)
    × Reads net y.0 q x × (fact ≡ Good (not c))
-- a constant has its value
Concludes net fault held (Constant y) x fact =
    (value : Bool) × IsKind net x (if value then One else Zero) × (x ≡ y.0) × (fact ≡ Good value)
-- the same as GoodForward with faulty values, the stuck pin reading what it is stuck at
Concludes net fault held (FaultyForward y) x fact =
    (kind : Kind) × (value : Bool) × IsKind net x kind
    × (value_forward kind (faulty_reads net fault Some (known_faulty held) x) ≡ Some value)
    × (x ≡ y.0) × (fact ≡ Faulty value)
-- the same as GoodBack with faulty values, at any pin but the stuck one
Concludes net fault held (FaultyBack y q) x fact =
    (kind : Kind) × (value : Bool) × (other : Bool) × IsKind net y.0 kind × (known_faulty held y.0 ≡ Some value)
    × (value_back kind value (faulty_reads net fault Some (known_faulty held) y.0) q ≡ Some other)
    × (IsStuckPin fault y.0 q → ⊥) × Reads net y.0 q x × (fact ≡ Faulty other)
-- the faulty value from the good one, where the node is known to be equal or to differ
Concludes net fault held (ToFaulty y) x fact =
    IsLive net x × (value : Bool) × (equal : Bool) × (known_good held x ≡ Some value) × (known_equal held x ≡ Some equal)
    × (x ≡ y.0) × (fact ≡ Faulty (same_bool equal value))
-- the good value from the faulty one
Concludes net fault held (ToGood y) x fact =
    IsLive net x × (value : Bool) × (equal : Bool) × (known_faulty held x ≡ Some value) × (known_equal held x ≡ Some equal)
    × (x ≡ y.0) × (fact ≡ Good (same_bool equal value))
-- a Not or an Xor that isn't the faulty gate differs where one driver does and all others are equal
Concludes net fault held (NotDiffers y) x fact =
    (inverts : Bool) × IsParity net x inverts × (x ≢ fault.gate.0) × OneDiffers held (drivers_of net x) × (x ≡ y.0) × (fact ≡ Differs)
-- the driver of a Not that isn't the faulty gate is equal where the Not is
Concludes net fault held (NotEqual y) x fact =
    IsKind net y.0 Not × (y.0 ≢ fault.gate.0) × (known_equal held y.0 ≡ Some true) × (drivers_of net y.0 ≡ x ∷ []) × (fact ≡ Equal)

-- forward reading from the known sources marks every observed node equal
abbrev pub IsQuiet : Net → Fault → Held → Type 0
IsQuiet net fault held = (m : Marking) × IsForwardReading net fault (known_good held) m × MarksQuiet net m
