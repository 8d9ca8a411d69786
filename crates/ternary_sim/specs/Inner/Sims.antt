-- Beside Sims.antt: what only private contracts, invariants and laws speak of.
use Rattle.std.specs.Prelude.{Bool, List, Option, Some, length, slice_get, ℕ, ◌<◌, ◌≡◌}
use Rattle.gate_net.specs.Net.{Net}
use Rattle.rm_base.specs.declared.numbers.Fault.{Fault}
use Rattle.ternary_sim.specs.Marks.{IsReadAt, mark_at, marking, no_marks}
use Rattle.ternary_sim.specs.declared.marks.NodeMarks.{NodeMarks}

-- what a simulator keeps: marks for each node of the order, and none for other numbers
pub record IsMarked (order : List ℕ) (marks : List NodeMarks) : Type 0 where
  pub within : (k x : ℕ) → slice_get order k ≡ Some x → x < length marks
  pub others : (x : ℕ) → ((k : ℕ) → slice_get order k ≡ Some x → ⊥) → mark_at marks x ≡ no_marks

-- the first nodes of the order have been read
abbrev pub AreRead : Net → Fault → (ℕ → Option Bool) → List ℕ → List NodeMarks → ℕ → Type 0
AreRead net fault known order marks i = (k x : ℕ) → k < i → slice_get order k ≡ Some x → IsReadAt net fault known (marking marks) x (mark_at marks x)
