-- Blocks of marks.
use Rattle.std.proofs.Common.{◌≡◌, ℕ, zero, suc, ◌+◌, ◌*◌, ◌/◌, ◌<◌, ◌≤◌, Bool, true, false, inl, inr, List, [], ◌∷◌, length, sym, ◌∙◌, ap, subst, arith}
use Rattle.std.specs.Prelude.{set}
use Rattle.std.proofs.lemmas.Bool.{both_ways, cases_eq, cases_lt, false_from_ne_true}
use Rattle.wire_edit.specs.Inner.Marked.{is_marked, IsBlocked}
use Rattle.wire_edit.proofs.Marking.{marked_within, set_marked, set_other_mark, set_count, set_keeps}

block_within : (k blocks count : ℕ) → k < count → count < 256 * blocks → k / 256 < blocks
block_within k blocks count lt most = omega (arith, lt, most)

-- a mark is set, and that of its block
pub block_set : (marks blocks : List Bool) (k : ℕ) → IsBlocked marks blocks → k < length marks → IsBlocked (set marks k true) (set blocks (k / 256) true)
block_set marks blocks k b lt = record {
  has = λ j e. elim (cases_eq j k) [
    | inl is ↦ ap (λ (n : ℕ). is_marked (set blocks (k / 256) true) (n / 256)) is ∙ set_marked blocks (k / 256) true within
    | inr ne ↦ (set_keeps blocks (k / 256) within).kept (j / 256) (b.has j (sym (set_other_mark marks k j true ne) ∙ e))
  ];
  enough = omega (arith, b.enough, set_count marks k true, set_count blocks (k / 256) true);
  few = omega (arith, b.few, set_count marks k true);
  few_blocks = omega (arith, b.few_blocks, set_count blocks (k / 256) true);
}
  where
    within : k / 256 < length blocks
    within = block_within k (length blocks) (length marks) lt b.enough

-- what is marked once a mark is gone was marked before
pub still_marked : (marks : List Bool) (x k : ℕ) → is_marked (set marks x false) k ≡ true → is_marked marks k ≡ true
still_marked [] x k e = e
still_marked (b ∷ bs) zero zero e = cc
still_marked (b ∷ bs) zero (suc k) e = e
still_marked (b ∷ bs) (suc x) zero e = e
still_marked (b ∷ bs) (suc x) (suc k) e = still_marked bs x k e

pub block_cleared : (marks blocks : List Bool) (k : ℕ) → IsBlocked marks blocks → IsBlocked (set marks k false) blocks
block_cleared marks blocks k b = record {
  has = λ j e. b.has j (still_marked marks k j e);
  enough = omega (arith, b.enough, set_count marks k false);
  few = omega (arith, b.few, set_count marks k false);
  few_blocks = b.few_blocks;
}

-- a block in which no number has a mark
pub block_emptied : (marks blocks : List Bool) (block end : ℕ) → IsBlocked marks blocks → (length marks ≤ end → end ≡ length marks) → (end < length marks → end ≡ 256 * block + 256) → ((k : ℕ) → 256 * block ≤ k → k < end → is_marked marks k ≡ false) → IsBlocked marks (set blocks block false)
block_emptied marks blocks block end b most or_all none = record {
  has = λ k e. elim (cases_eq (k / 256) block) [
    | inl is ↦
        let lt : k < length marks = marked_within marks k e in
        let first : 256 * block ≤ k = omega (arith, is) in
        let last : k < 256 * block + 256 = omega (arith, is) in
        let before : k < end = elim (cases_lt end (length marks)) [ inl less ↦ omega (arith, or_all less, last) | inr le ↦ omega (arith, most le, lt) ] in
        absurd (both_ways (is_marked marks k) (none k first before) e)
    | inr ne ↦ set_other_mark blocks block (k / 256) false ne ∙ b.has k e
  ];
  enough = omega (arith, b.enough, set_count blocks block false);
  few = b.few;
  few_blocks = omega (arith, b.few_blocks, set_count blocks block false);
}

-- the first mark of the first block with one is the first of all
pub first_of_block : (marks blocks : List Bool) (block x : ℕ) → IsBlocked marks blocks → ((k : ℕ) → k < block → is_marked blocks k ≡ false) → ((k : ℕ) → 256 * block ≤ k → k < x → is_marked marks k ≡ false) → (k : ℕ) → k < x → is_marked marks k ≡ false
first_of_block marks blocks block x b before none k lt = elim (cases_lt k (256 * block)) [
  | inl less ↦ false_from_ne_true (is_marked marks k) (λ e.
      let under : k / 256 < block = omega (arith, less) in
      both_ways (is_marked blocks (k / 256)) (before (k / 256) under) (b.has k e))
  | inr le ↦ none k le lt
]

-- no mark where no block has one
pub none_blocked : (marks blocks : List Bool) → IsBlocked marks blocks → ((k : ℕ) → k < length blocks → is_marked blocks k ≡ false) → (k : ℕ) → is_marked marks k ≡ false
none_blocked marks blocks b none k = false_from_ne_true (is_marked marks k) (λ e.
    let is : is_marked blocks (k / 256) ≡ true = b.has k e in
    both_ways (is_marked blocks (k / 256)) (none (k / 256) (marked_within blocks (k / 256) is)) is)

pub all_blocked : (marks blocks : List Bool) (count : ℕ) (b : Bool) → count ≤ 4294967295 → length marks ≡ count → length blocks ≡ count / 256 + 1 → ((k : ℕ) → k < length marks → is_marked marks k ≡ b) → ((k : ℕ) → k < length blocks → is_marked blocks k ≡ b) → IsBlocked marks blocks
all_blocked marks blocks count b few is are each all = record {
  has = λ k e.
      let lt : k < length marks = marked_within marks k e in
      all (k / 256) (omega (arith, lt, is, are)) ∙ sym (each k lt) ∙ e;
  enough = omega (arith, is, are);
  few = omega (arith, few, is);
  few_blocks = omega (arith, few, are);
}

-- where every block has a mark
pub block_all : (marks next blocks after : List Bool) → IsBlocked marks blocks → length next ≡ length marks → length after ≡ length blocks → ((k : ℕ) → k < length after → is_marked after k ≡ true) → IsBlocked next after
block_all marks next blocks after b same long all = record {
  has = λ k e.
      let lt : k < length next = marked_within next k e in
      all (k / 256) (block_within k (length after) (length next) lt (omega (arith, b.enough, same, long)));
  enough = omega (arith, b.enough, same, long);
  few = omega (arith, b.few, same);
  few_blocks = omega (arith, b.few_blocks, long);
}

-- a mark is taken away
pub block_unmarked : (marks next blocks : List Bool) (k : ℕ) → IsBlocked marks blocks → next ≡ set marks k false → IsBlocked next blocks
block_unmarked marks next blocks k b e = subst (λ (bs : List Bool). IsBlocked bs blocks) (sym e) (block_cleared marks blocks k b)
