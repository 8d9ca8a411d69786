use Rattle.std.proofs.Common.{Bool, List, false, not, true, ℕ, ◌-◌, ◌∙◌, ◌≡◌}
use Rattle.implications.proofs.Counted.{rest_counted}
use Rattle.implications.proofs.counts.count_not_passing.Goals as goal
use Rattle.implications.proofs.counts.count_not_passing.Goals.{else-c, then-c}
use Rattle.implications.specs.Inner.Counts.{is_not_passing}
use Rattle.implications.specs.Inner.Tallies.{IsTally, counting}
use Rattle.implications.specs.declared.tallies.Tally.{Tally}
use Rattle.refutation.specs.Facts.{Held}

for_yes : (held : Held) (position : ℕ) (ds : List ℕ) (t : Tally) (c : Bool) (r passing : ℕ) → IsTally held position ds t → c ≡ true → passing ≡ t.passing_0 → r ≡ t.equal - passing → r ≡ counting (is_not_passing held (not c)) ds
for_yes held position ds t c r passing h is p e = rw is (e ∙ rest_counted held false ds t.equal passing h.equal (p ∙ h.passing_0))

for_no : (held : Held) (position : ℕ) (ds : List ℕ) (t : Tally) (c : Bool) (r passing : ℕ) → IsTally held position ds t → c ≡ false → passing ≡ t.passing_1 → r ≡ t.equal - passing → r ≡ counting (is_not_passing held (not c)) ds
for_no held position ds t c r passing h is p e = rw is (e ∙ rest_counted held true ds t.equal passing h.equal (p ∙ h.passing_1))

pub returns : goal.returns
returns c held position ds h = elim c.if-c.branch [
  | then-c w ↦ for_yes held position ds c.args.tally.now c.args.c c.saturating_sub.result c.if-c.passing h w.if-c.true w.passing-is c.saturating_sub.ensures
  | else-c w ↦ for_no held position ds c.args.tally.now c.args.c c.saturating_sub.result c.if-c.passing h w.if-c.false w.passing-is c.saturating_sub.ensures
]
