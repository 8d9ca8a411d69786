-- What is known of the pins of a gate.
use Rattle.std.specs.Prelude.{◌≡◌, ℕ, ◌<◌, false, Option, Some, None, List, Bool, take}
use Rattle.gate_net.specs.Net.{Net, drivers_of}
use Rattle.wire_edit.specs.Tests.{is_among, is_repeated}
use Rattle.wire_edit.specs.Inner.Marked.{is_marked, IsBlank}
use Rattle.wire_edit.specs.Inner.Firsts.{reads_constant, ReadsNoConstant}
use Rattle.wire_edit.specs.declared.kept.Kept.{Kept}

-- exactly the first numbers of the list are marked
abbrev pub MarksFirst : List ℕ → ℕ → List Bool → Type 0
MarksFirst ds n marks = (x : ℕ) → is_marked marks x ≡ is_among x (take n ds)

-- no pin before the position reads a constant, or none at all
abbrev pub IsPlainBefore : Net → ℕ → Option ℕ → Type 0
IsPlainBefore net gate None = ReadsNoConstant net gate
IsPlainBefore net gate (Some position) = (k : ℕ) → k < position → reads_constant net gate k ≡ false

-- no pin before one position reads a constant, and none before another repeats a driver, as the marks tell
pub record IsKept (net : Net) (kept : Kept) : Type 0 where
  pub plain : IsPlainBefore net kept.gate.0 kept.plain
  pub apart : (k : ℕ) → k < kept.apart → is_repeated (drivers_of net kept.gate.0) k ≡ false
  pub marks : MarksFirst (drivers_of net kept.gate.0) kept.apart kept.marks.items

-- nothing is known
pub record IsFresh (kept : Kept) : Type 0 where
  pub plain : kept.plain ≡ Some 0
  pub apart : kept.apart ≡ 0
  pub blank : IsBlank kept.marks.items
