-- Facts to which lines lead, and sets of facts that are closed under every line.
use Rattle.std.specs.Prelude.{IsTrue, List, [], ℕ, ◌&&◌, ◌∷◌, ◌≡◌}
use Rattle.gate_net.specs.Net.{Net}
use Rattle.refutation.specs.Facts.{AreOpposed, Held, none_held, with_fact}
use Rattle.refutation.specs.Lines.{Concludes}
use Rattle.refutation.specs.declared.reasoning.Fact.{Fact}
use Rattle.refutation.specs.declared.reasoning.Line.{Line}
use Rattle.rm_base.specs.declared.numbers.Fault.{Fault}

-- the second set holds each fact of the first
abbrev pub IsWithin : Held → Held → Type 0
IsWithin held more = (x : ℕ) (fact : Fact) → IsTrue (held x fact) → IsTrue (more x fact)

-- no node has two opposed facts
abbrev pub IsClashFree : Held → Type 0
IsClashFree held = (x : ℕ) → AreOpposed held x → ⊥

abbrev pub IsClosedUnderLines : Net → Fault → Held → Type 0
IsClosedUnderLines net fault held = (l : Line) (x : ℕ) (fact : Fact) → Concludes net fault held l x fact → IsTrue (held x fact)

-- the lines, one after another, lead from the facts to those facts
abbrev pub LinesLead : Net → Fault → Held → List Line → Held → Type 0
LinesLead net fault held [] after = after ≡ held
LinesLead net fault held (l ∷ lines) after =
    (x : ℕ) × ((fact : Fact) × (Concludes net fault held l x fact × LinesLead net fault (with_fact held x fact) lines after))

-- some list of lines leads to the fact
abbrev pub IsDerivable : Net → Fault → ℕ → Fact → Type 0
IsDerivable net fault x fact = (lines : List Line) × ((after : Held) × (LinesLead net fault none_held lines after × IsTrue (after x fact)))

-- some list of lines leads from the facts to two opposed facts on one node
abbrev pub ClashFrom : Net → Fault → Held → Type 0
ClashFrom net fault held = (lines : List Line) × ((after : Held) × (LinesLead net fault held lines after × ((x : ℕ) × AreOpposed after x)))

abbrev pub Clashes : Net → Fault → Type 0
Clashes net fault = ClashFrom net fault none_held

-- what two sets share
abbrev pub both_hold : Held → Held → Held
both_hold s t x fact = s x fact && t x fact
