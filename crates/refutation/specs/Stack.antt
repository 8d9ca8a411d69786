-- How the items of a tree are read: what each leads to.
use Rattle.std.specs.Prelude.{List, [], map, not, suc, ℕ, ◌∷◌, ◌≡◌, ◌≢◌}
use Rattle.gate_net.specs.Net.{Net}
use Rattle.refutation.specs.Branches.{AreAccepted, AreAcceptedPartial, MaySplit, SplitsSource}
use Rattle.refutation.specs.Facts.{AreOpposed, Held, none_held, with_fact}
use Rattle.refutation.specs.Lines.{Concludes, IsQuiet}
use Rattle.refutation.specs.declared.items.Form.{Form}
use Rattle.refutation.specs.declared.items.Form.TheVariants.{Closed, Partial}
use Rattle.refutation.specs.declared.items.Item.{Item}
use Rattle.refutation.specs.declared.items.Item.TheVariants.{Clash, Here, Line, Quiet, Split, Untried}
use Rattle.refutation.specs.declared.reasoning.Fact.{Fact}
use Rattle.refutation.specs.declared.reasoning.Fact.TheVariants.{Good}
use Rattle.rm_base.specs.declared.numbers.Fault.{Fault}

-- what is to be read next: a tree with these facts held, or the Untried of a branch that wasn't entered
pub data Due : Type 0 where
  tree : Held → Due
  no_tree : Due

-- an Untried for each of them
abbrev pub untried_for : List Due → List Due
untried_for left = map (λ d. no_tree) left

-- where a tree of the form may split
abbrev pub MaySplitIn : Form → Net → Held → ℕ → Type 0
MaySplitIn Closed net held x = MaySplit net held x
MaySplitIn Partial net held x = SplitsSource net held x

-- the last branch of a partial tree ends with its Here alone
abbrev pub MayEnd : Form → List Due → Type 0
MayEnd Closed left = Unit {0}
MayEnd Partial left = left ≢ []

-- the items are read one after another, and lead from what is left to be read before them to what is left after
abbrev pub AreRead : Net → Fault → Form → List Due → List Item → List Due → Type 0
AreRead net fault form left [] after = left ≡ after
AreRead net fault form (tree held ∷ left) (Line l ∷ items) after =
    (x : ℕ) × (fact : Fact) × Concludes net fault held l x fact × AreRead net fault form (tree (with_fact held x fact) ∷ left) items after
AreRead net fault form (tree held ∷ left) (Split x first ∷ items) after =
    MaySplitIn form net held x.0 × AreRead net fault form (tree (with_fact held x.0 (Good first)) ∷ tree (with_fact held x.0 (Good (not first))) ∷ left) items after
AreRead net fault form (tree held ∷ left) (Clash x ∷ items) after = AreOpposed held x.0 × MayEnd form left × AreRead net fault form left items after
AreRead net fault form (tree held ∷ left) (Quiet ∷ items) after = IsQuiet net fault held × MayEnd form left × AreRead net fault form left items after
AreRead net fault form (tree held ∷ left) (Here ∷ items) after = (form ≡ Partial) × AreRead net fault form (untried_for left) items after
AreRead net fault form (no_tree ∷ left) (Untried ∷ items) after = AreRead net fault form left items after
AreRead net fault form left (i ∷ items) after = ⊥

-- the items are read from one branch without a fact to the end
abbrev pub AreReadToEnd : Net → Fault → Form → List Item → Type 0
AreReadToEnd net fault form items = AreRead net fault form (tree none_held ∷ []) items []

-- the tree is accepted in that form
abbrev pub IsAcceptedAs : Form → Net → Fault → List Item → Type 0
IsAcceptedAs Closed net fault items = AreAccepted net fault items
IsAcceptedAs Partial net fault items = AreAcceptedPartial net fault items

-- how many items of a list are splits, and how many are Untried
abbrev pub splits_among : List Item → ℕ
splits_among [] = 0
splits_among (Split x first ∷ items) = suc (splits_among items)
splits_among (_ ∷ items) = splits_among items

abbrev pub untrieds_among : List Item → ℕ
untrieds_among [] = 0
untrieds_among (Untried ∷ items) = suc (untrieds_among items)
untrieds_among (_ ∷ items) = untrieds_among items
