-- How large a tree is.
use Rattle.std.specs.Prelude.{List, [], suc, ℕ, ◌*◌, ◌-◌, ◌∷◌, ◌≡◌}
use Rattle.refutation.specs.Stack.{splits_among, untrieds_among}
use Rattle.refutation.specs.declared.items.Item.{Item}
use Rattle.refutation.specs.declared.items.Item.TheVariants.{Here}
use Rattle.refutation.specs.declared.items.Shape.{Shape}

abbrev pub heres_among : List Item → ℕ
heres_among [] = 0
heres_among (Here ∷ items) = suc (heres_among items)
heres_among (_ ∷ items) = heres_among items

-- two edges for each split, less one for each Untried
pub record IsShapeOf (items : List Item) (s : Shape) : Type 0 where
  pub edges : s.edges ≡ 2 * splits_among items - untrieds_among items
  pub here : s.here ≡ heres_among items
  pub untried : s.untried ≡ untrieds_among items
