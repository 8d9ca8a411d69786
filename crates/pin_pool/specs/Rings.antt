-- The lists of pins by node number, however many are admitted, and what each call makes of them.
use Rattle.std.specs.Prelude.{◌≡◌, ◌≢◌, ℕ, ◌+◌, ◌-◌, ◌<◌, ◌≤◌, ◌==◌, Bool, true, false, List, [], ◌∷◌, ◌++◌, length, take, drop, if◌then◌else◌}
use Rattle.std.specs.FinSet as set
use Rattle.pin_pool.specs.Ring.{has, without, IsApart}
use Rattle.pin_pool.specs.Pins.{Pins, admitted, list_of, put_after, before_in, StandsIn}
use Rattle.pin_pool.specs.declared.names.Slot.{Slot}
use Rattle.pin_pool.specs.declared.names.Splice.{Splice}
use Rattle.rm_base.specs.Numbers.{number_bound}

-- the inputs and the fanouts of each node number, and which pins are taken
pub record Rings : Type 0 where
  pub inputs : ℕ → List ℕ
  pub fanouts : ℕ → List ℕ
  pub taken : ℕ → Bool

abbrev pub rings_of : Pins → Rings
rings_of v = record { inputs = λ n. list_of v.inputs n; fanouts = λ n. list_of v.fanouts n; taken = λ p. set.contains v.taken p }

-- no pin is taken
abbrev pub no_rings : Rings
no_rings = record { inputs = λ n. []; fanouts = λ n. []; taken = λ p. false }

-- another value at one number
abbrev pub changed : {A : Type 0} → (ℕ → A) → ℕ → A → ℕ → A
changed f n x m = if m == n then x else f m

abbrev pub all_without : ℕ → (ℕ → List ℕ) → ℕ → List ℕ
all_without p f n = without p (f n)

-- a free pin is taken
abbrev pub claimed : ℕ → Rings → Rings
claimed p r = record r { taken = changed r.taken p true }

-- a taken pin is free again
abbrev pub returned : ℕ → Rings → Rings
returned p r = record r { taken = changed r.taken p false }

-- a taken pin is the last of a gate and of a driver
abbrev pub joined : ℕ → ℕ → ℕ → Rings → Rings
joined p gate driver r = record r {
  inputs = changed r.inputs gate (r.inputs gate ++ p ∷ []);
  fanouts = changed r.fanouts driver (r.fanouts driver ++ p ∷ []);
}

abbrev pub unlinked : ℕ → Rings → Rings
unlinked p r = record r { inputs = all_without p r.inputs; fanouts = all_without p r.fanouts }

-- a pin is put just after the pins that the slot names
abbrev pub relinked : ℕ → Slot → Rings → Rings
relinked p slot r = record r {
  inputs = changed r.inputs slot.gate (put_after (r.inputs slot.gate) slot.in_gate p);
  fanouts = changed r.fanouts slot.driver (put_after (r.fanouts slot.driver) slot.in_driver p);
}

-- a pin is the last of another driver
abbrev pub redriven : ℕ → ℕ → Rings → Rings
redriven p driver r = record r {
  fanouts = changed (all_without p r.fanouts) driver (without p (r.fanouts driver) ++ p ∷ []);
}

-- a pin is put into the list of another driver, just after the pin that the slot names
abbrev pub restored : ℕ → Slot → Rings → Rings
restored p slot r = record r {
  fanouts = changed (all_without p r.fanouts) slot.driver (put_after (without p (r.fanouts slot.driver)) slot.in_driver p);
}

-- all fanouts of a driver are the last of another
abbrev pub moved : ℕ → ℕ → Rings → Rings
moved from to r = record r { fanouts = changed (changed r.fanouts from []) to (r.fanouts to ++ r.fanouts from) }

-- the last fanouts of a driver are those of another
abbrev pub moved_back : Splice → Rings → Rings
moved_back s r = record r {
  fanouts = changed (changed r.fanouts s.to (take (length (r.fanouts s.to) - s.count) (r.fanouts s.to))) s.from (drop (length (r.fanouts s.to) - s.count) (r.fanouts s.to));
}

-- a new pin is the last of a gate and of a driver
abbrev pub linked : ℕ → ℕ → ℕ → Rings → Rings
linked p gate driver r = joined p gate driver (claimed p r)

-- a pin goes for good
abbrev pub dropped : ℕ → Rings → Rings
dropped p r = returned p (unlinked p r)

abbrev pub IsIn : (ℕ → List ℕ) → ℕ → Type 0
IsIn f p = (n : ℕ) × (has p (f n) ≡ true)

abbrev pub IsOut : (ℕ → List ℕ) → ℕ → Type 0
IsOut f p = (n : ℕ) → has p (f n) ≡ false

-- no pin stands twice, and each that stands is taken
pub record AreOnce (f : ℕ → List ℕ) (taken : ℕ → Bool) : Type 0 where
  pub apart : (n : ℕ) → IsApart (f n)
  pub one : (m n q : ℕ) → has q (f m) ≡ true → has q (f n) ≡ true → m ≡ n
  pub members : (n q : ℕ) → has q (f n) ≡ true → taken q ≡ true

-- a pin stands in the list of a gate exactly if it stands in that of a driver
pub record AreRings (r : Rings) : Type 0 where
  pub inputs : AreOnce r.inputs r.taken
  pub fanouts : AreOnce r.fanouts r.taken
  pub driven : (p : ℕ) → IsIn r.inputs p → IsIn r.fanouts p
  pub read : (p : ℕ) → IsIn r.fanouts p → IsIn r.inputs p

-- the pin stands in the list of a gate, and so in that of a driver
abbrev pub IsLinked : Rings → ℕ → Type 0
IsLinked r p = IsIn r.inputs p

-- the pin is taken and stands in the list of no gate, and so in that of no driver
abbrev pub IsLoose : Rings → ℕ → Type 0
IsLoose r p = (r.taken p ≡ true) × IsOut r.inputs p

-- where p stood
pub record Stood (r : Rings) (p : ℕ) (slot : Slot) : Type 0 where
  pub in_gate : has p (r.inputs slot.gate) ≡ true
  pub in_driver : has p (r.fanouts slot.driver) ≡ true
  pub after_gate : slot.in_gate ≡ before_in (r.inputs slot.gate) p
  pub after_driver : slot.in_driver ≡ before_in (r.fanouts slot.driver) p

-- what holds of every pool
pub record IsValid (v : Pins) : Type 0 where
  pub rings : AreRings (rings_of v)
  pub nodes : length v.fanouts ≡ length v.inputs
  pub few : set.len v.taken + v.spare ≤ number_bound

-- p may be put where the slot says
pub record CanRelink (v : Pins) (p : ℕ) (slot : Slot) : Type 0 where
  pub loose : IsLoose (rings_of v) p
  pub gate : slot.gate < admitted v
  pub driver : slot.driver < admitted v
  pub in_gate : StandsIn ((rings_of v).inputs slot.gate) slot.in_gate
  pub in_driver : StandsIn ((rings_of v).fanouts slot.driver) slot.in_driver

-- p may get the driver that the slot says
pub record CanRestore (v : Pins) (p : ℕ) (slot : Slot) : Type 0 where
  pub linked : IsLinked (rings_of v) p
  pub driver : slot.driver < admitted v
  pub in_driver : StandsIn (without p ((rings_of v).fanouts slot.driver)) slot.in_driver

-- so many fanouts may be moved back
pub record CanMoveBack (v : Pins) (splice : Splice) : Type 0 where
  pub from : splice.from < admitted v
  pub to : splice.to < admitted v
  pub apart : splice.from ≢ splice.to
  pub empty : (rings_of v).fanouts splice.from ≡ []
  pub enough : splice.count ≤ length ((rings_of v).fanouts splice.to)
