-- Marks by number.
use Rattle.std.specs.Prelude.{◌≡◌, ℕ, zero, suc, ◌<◌, ◌≤◌, ◌+◌, ◌*◌, ◌/◌, Bool, true, false, Option, Some, List, [], ◌∷◌, length, None}
use Rattle.gate_net.specs.Net.{Net}
use Rattle.wire_edit.specs.Order.{rule_at}
use Rattle.wire_edit.specs.Changes.{Change}
use Rattle.wire_edit.specs.Inner.Touched.{IsTouched}
use Rattle.rm_base.specs.Numbers.{number_bound, one_if}

abbrev pub is_marked : List Bool → ℕ → Bool
is_marked [] k = false
is_marked (b ∷ bs) zero = b
is_marked (b ∷ bs) (suc k) = is_marked bs k

abbrev pub marks_left : List Bool → ℕ
marks_left [] = 0
marks_left (b ∷ bs) = one_if b + marks_left bs

-- marks are only added
pub record KeepsMarks (old new : List Bool) : Type 0 where
  pub count : length new ≡ length old
  pub kept : (k : ℕ) → is_marked old k ≡ true → is_marked new k ≡ true

-- no rule applies at a number without a mark
abbrev pub IsQuiet : Net → List Bool → Type 0
IsQuiet net marks = (x : ℕ) → is_marked marks x ≡ false → rule_at net x ≡ None

-- no rule applies at a lower number
abbrev pub IsQuietBelow : Net → ℕ → Type 0
IsQuietBelow net gate = (x : ℕ) → x < gate → rule_at net x ≡ None

-- all that the change touches is marked
abbrev pub MarksTouched : Net → Change → List Bool → Type 0
MarksTouched net change marks = (x : ℕ) → IsTouched net change x → x < length marks → is_marked marks x ≡ true

-- no mark is set
abbrev pub IsBlank : List Bool → Type 0
IsBlank marks = (k : ℕ) → is_marked marks k ≡ false

-- the first mark from one number on, and before another
abbrev pub IsFirstMark : List Bool → ℕ → ℕ → Option ℕ → Type 0
IsFirstMark marks from end None = (k : ℕ) → from ≤ k → k < end → is_marked marks k ≡ false
IsFirstMark marks from end (Some x) = (from ≤ x) × ((x < end) × ((is_marked marks x ≡ true) × ((k : ℕ) → from ≤ k → k < x → is_marked marks k ≡ false)))

-- each number with a mark is in a block with a mark, and there are blocks for all numbers
pub record IsBlocked (marks blocks : List Bool) : Type 0 where
  pub has : (k : ℕ) → is_marked marks k ≡ true → is_marked blocks (k / 256) ≡ true
  pub enough : length marks < 256 * length blocks
  pub few : length marks ≤ number_bound
  pub few_blocks : length blocks ≤ 16777216
