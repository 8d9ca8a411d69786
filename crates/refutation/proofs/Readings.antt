-- Reading items one after another.
use Rattle.std.proofs.Common.{List, [], refl, subst, sym, ◌++◌, ◌∷◌}
use Rattle.gate_net.specs.Net.{Net}
use Rattle.refutation.specs.Stack.{AreRead, Due, no_tree, tree}
use Rattle.refutation.specs.declared.items.Form.{Form}
use Rattle.refutation.specs.declared.items.Item.{Item}
use Rattle.refutation.specs.declared.items.Item.TheVariants.{Clash, Here, Line, Quiet, Split, Untried}
use Rattle.rm_base.specs.declared.numbers.Fault.{Fault}

module _ (net : Net) (fault : Fault) (form : Form) where
  -- items, and then those that follow
  pub reads_join : (items more : List Item) (left middle after : List Due) → AreRead net fault form left items middle → AreRead net fault form middle more after → AreRead net fault form left (items ++ more) after
  reads_join [] more left middle after e k = subst (λ (l : List Due). AreRead net fault form l more after) (sym e) k
  reads_join (i ∷ items) more [] middle after h k = absurd h
  reads_join (Line l ∷ items) more (tree held ∷ left) middle after (x, fact, c, h) k = (x, fact, c, reads_join items more _ middle after h k)
  reads_join (Split x first ∷ items) more (tree held ∷ left) middle after (may, h) k = (may, reads_join items more _ middle after h k)
  reads_join (Clash x ∷ items) more (tree held ∷ left) middle after (opposed, may, h) k = (opposed, may, reads_join items more left middle after h k)
  reads_join (Quiet ∷ items) more (tree held ∷ left) middle after (is, may, h) k = (is, may, reads_join items more left middle after h k)
  reads_join (Here ∷ items) more (tree held ∷ left) middle after (is, h) k = (is, reads_join items more _ middle after h k)
  reads_join (Untried ∷ items) more (tree held ∷ left) middle after h k = absurd h
  reads_join (Untried ∷ items) more (no_tree ∷ left) middle after h k = reads_join items more left middle after h k
  reads_join (Line l ∷ items) more (no_tree ∷ left) middle after h k = absurd h
  reads_join (Split x first ∷ items) more (no_tree ∷ left) middle after h k = absurd h
  reads_join (Clash x ∷ items) more (no_tree ∷ left) middle after h k = absurd h
  reads_join (Quiet ∷ items) more (no_tree ∷ left) middle after h k = absurd h
  reads_join (Here ∷ items) more (no_tree ∷ left) middle after h k = absurd h

  -- the first item, and then the others
  pub reads_first : (i : Item) (items : List Item) (left after : List Due) → AreRead net fault form left (i ∷ items) after → (middle : List Due) × (AreRead net fault form left (i ∷ []) middle × AreRead net fault form middle items after)
  reads_first i items [] after h = absurd h
  reads_first (Line l) items (tree held ∷ left) after (x, fact, c, h) = (_, ((x, fact, c, refl), h))
  reads_first (Split x first) items (tree held ∷ left) after (may, h) = (_, ((may, refl), h))
  reads_first (Clash x) items (tree held ∷ left) after (opposed, may, h) = (left, ((opposed, may, refl), h))
  reads_first Quiet items (tree held ∷ left) after (is, may, h) = (left, ((is, may, refl), h))
  reads_first Here items (tree held ∷ left) after (is, h) = (_, ((is, refl), h))
  reads_first Untried items (tree held ∷ left) after h = absurd h
  reads_first Untried items (no_tree ∷ left) after h = (left, (refl, h))
  reads_first (Line l) items (no_tree ∷ left) after h = absurd h
  reads_first (Split x first) items (no_tree ∷ left) after h = absurd h
  reads_first (Clash x) items (no_tree ∷ left) after h = absurd h
  reads_first Quiet items (no_tree ∷ left) after h = absurd h
  reads_first Here items (no_tree ∷ left) after h = absurd h
