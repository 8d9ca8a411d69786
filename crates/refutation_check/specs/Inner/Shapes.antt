-- Beside Shapes.antt: what only private contracts, invariants and laws speak of.
use Rattle.std.specs.Prelude.{List, length, ℕ, ◌*◌, ◌≡◌, ◌≤◌}
use Rattle.refutation.specs.Stack.{splits_among, untrieds_among}
use Rattle.refutation.specs.declared.items.Form.{Form}
use Rattle.refutation.specs.declared.items.Form.TheVariants.{Closed, Partial}
use Rattle.refutation.specs.declared.items.Item.{Item}
use Rattle.refutation_check.specs.Shapes.{heres_among}

-- how many Heres a tree of the form has
abbrev pub heres_in : Form → ℕ
heres_in Closed = 0
heres_in Partial = 1

-- what holds of the items of a tree that is accepted in the form
pub record IsSmall (form : Form) (items : List Item) : Type 0 where
  pub splits : 2 * splits_among items ≤ length items
  pub fewer : untrieds_among items ≤ splits_among items
  pub untrieds : untrieds_among items ≤ 4294967295
  pub heres : heres_among items ≡ heres_in form
