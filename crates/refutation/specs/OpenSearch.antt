-- Partial trees that a search leaves: each split had to be made.
use Rattle.std.specs.Prelude.{not, ℕ}
use Rattle.gate_net.specs.Forward.{IsForwardReading, Marking, MarksDetected, MarksQuiet}
use Rattle.gate_net.specs.Net.{Net}
pub use Rattle.local_evaluation.specs.Reaching.{Matters}
use Rattle.refutation.specs.Branches.{Branch, here, line, split}
use Rattle.refutation.specs.Facts.{Held, known_good, with_fact}
use Rattle.refutation.specs.Lines.{Concludes}
use Rattle.refutation.specs.declared.reasoning.Fact.{Fact}
use Rattle.refutation.specs.declared.reasoning.Fact.TheVariants.{Good}
use Rattle.rm_base.specs.declared.numbers.Fault.{Fault}

-- forward reading from the known sources has no observed node known to differ
abbrev pub IsUndetectedYet : Net → Fault → Held → Type 0
IsUndetectedYet net fault held = (m : Marking) × (IsForwardReading net fault (known_good held) m × (MarksDetected net m → ⊥))

-- and leaves some observed node without the equal mark
abbrev pub IsOpenYet : Net → Fault → Held → Type 0
IsOpenYet net fault held =
    (m : Marking) × (IsForwardReading net fault (known_good held) m × ((MarksDetected net m → ⊥) × (MarksQuiet net m → ⊥)))

-- each split of the tree had to be made, and its Here isn't detected
abbrev pub IsOpenSearch : Net → Fault → Held → Branch → Type 0
IsOpenSearch net fault held (line l t) =
    (x : ℕ) × (fact : Fact) × Concludes net fault held l x fact × IsOpenSearch net fault (with_fact held x fact) t
IsOpenSearch net fault held (split x first t u) =
    (IsOpenYet net fault held × Matters net fault x.0)
    × (IsOpenSearch net fault (with_fact held x.0 (Good first)) t × IsOpenSearch net fault (with_fact held x.0 (Good (not first))) u)
IsOpenSearch net fault held here = IsUndetectedYet net fault held
IsOpenSearch net fault held _ = Unit {0}
