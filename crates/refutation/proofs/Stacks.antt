-- Reading a closed tree.
use Rattle.std.proofs.Common.{Bool, List, [], ap, append-nil, append_assoc, not, refl, sym, ℕ, ◌++◌, ◌∙◌, ◌∷◌, ◌≡◌}
use Rattle.gate_net.specs.Net.{Net}
use Rattle.refutation.proofs.Readings.{reads_join}
use Rattle.refutation.specs.Branches.{AreAccepted, Branch, IsClosed, MaySplit, clash, here, items_of, line, quiet, split, untried}
use Rattle.refutation.specs.Facts.{Held, none_held, with_fact}
use Rattle.refutation.specs.Lines.{Concludes}
use Rattle.refutation.specs.Stack.{AreRead, AreReadToEnd, Due, tree}
use Rattle.refutation.specs.declared.items.Form.TheVariants.{Closed}
use Rattle.refutation.specs.declared.items.Item.{Item}
use Rattle.refutation.specs.declared.items.Item.TheVariants.{Clash, Here, Line, Quiet, Split, Untried}
use Rattle.refutation.specs.declared.reasoning.Fact.{Fact}
use Rattle.refutation.specs.declared.reasoning.Fact.TheVariants.{Good}
use Rattle.refutation.specs.declared.reasoning.Line.{Line as OneLine}
use Rattle.rm_base.specs.declared.numbers.Fault.{Fault}
use Rattle.rm_base.specs.declared.numbers.NodeId.{NodeId}

-- a tree for each set of facts
abbrev pub trees_for : List Held → List Due
trees_for [] = []
trees_for (held ∷ others) = tree held ∷ trees_for others

-- an accepted tree is read, and leaves what was left beside it
pub reads_tree : (net : Net) (fault : Fault) (t : Branch) (held : Held) (left : List Due) → IsClosed net fault held t → AreRead net fault Closed (tree held ∷ left) (items_of t) left
reads_tree net fault (line l t) held left h = (h.0, h.1, h.2, reads_tree net fault t (with_fact held h.0 h.1) left h.3)
reads_tree net fault (split x first t u) held left h = (
  h.0,
  reads_join net fault Closed (items_of t) (items_of u) (tree (with_fact held x.0 (Good first)) ∷ tree (with_fact held x.0 (Good (not first))) ∷ left) (tree (with_fact held x.0 (Good (not first))) ∷ left) left
      (reads_tree net fault t (with_fact held x.0 (Good first)) (tree (with_fact held x.0 (Good (not first))) ∷ left) h.1) (reads_tree net fault u (with_fact held x.0 (Good (not first))) left h.2),
)
reads_tree net fault (clash x) held left h = (h, tt, refl)
reads_tree net fault quiet held left h = (h, tt, refl)
reads_tree net fault here held left h = absurd h
reads_tree net fault untried held left h = absurd h

-- closed trees, one for each set of facts
abbrev pub ClosedTrees : Net → Fault → List Held → List Item → Type 0
ClosedTrees net fault [] items = items ≡ []
ClosedTrees net fault (held ∷ others) items =
    (t : Branch) × ((rest : List Item) × (IsClosed net fault held t × ((items ≡ items_of t ++ rest) × ClosedTrees net fault others rest)))

more_line : (net : Net) (fault : Fault) (held : Held) (others : List Held) (l : OneLine) (x : ℕ) (fact : Fact) (items : List Item) → Concludes net fault held l x fact → ClosedTrees net fault (with_fact held x fact ∷ others) items → ClosedTrees net fault (held ∷ others) (Line l ∷ items)
more_line net fault held others l x fact items c (t, (rest, (h, (e, k)))) = (line l t, (rest, ((x, fact, c, h), (ap (λ is. Line l ∷ is) e, k))))

more_split : (net : Net) (fault : Fault) (held : Held) (others : List Held) (x : NodeId) (first : Bool) (items : List Item) → MaySplit net held x.0 → ClosedTrees net fault (with_fact held x.0 (Good first) ∷ with_fact held x.0 (Good (not first)) ∷ others) items → ClosedTrees net fault (held ∷ others) (Split x first ∷ items)
more_split net fault held others x first items may (t, (rest, (h, (e, (u, (rest', (k, (e', f)))))))) =
    (split x first t u, (rest', ((may, h, k), (ap (λ is. Split x first ∷ is) (e ∙ ap (λ is. items_of t ++ is) e' ∙ sym (append_assoc (items_of t) (items_of u) rest')), f))))

trees_read : (net : Net) (fault : Fault) (items : List Item) (stack : List Held) → AreRead net fault Closed (trees_for stack) items [] → ClosedTrees net fault stack items
trees_read net fault [] [] h = refl
trees_read net fault [] (held ∷ others) h = cc
trees_read net fault (i ∷ items) [] h = absurd h
trees_read net fault (Line l ∷ items) (held ∷ others) h = more_line net fault held others l h.0 h.1 items h.2 (trees_read net fault items (with_fact held h.0 h.1 ∷ others) h.3)
trees_read net fault (Split x first ∷ items) (held ∷ others) h =
    more_split net fault held others x first items h.0 (trees_read net fault items (with_fact held x.0 (Good first) ∷ with_fact held x.0 (Good (not first)) ∷ others) h.1)
trees_read net fault (Clash x ∷ items) (held ∷ others) h = (clash x, (items, (h.0, (refl, trees_read net fault items others h.2))))
trees_read net fault (Quiet ∷ items) (held ∷ others) h = (quiet, (items, (h.0, (refl, trees_read net fault items others h.2))))
trees_read net fault (Here ∷ items) (held ∷ others) h = cc
trees_read net fault (Untried ∷ items) (held ∷ others) h = absurd h

one_tree : (net : Net) (fault : Fault) (items : List Item) → ClosedTrees net fault (none_held ∷ []) items → (t : Branch) × ((items ≡ items_of t) × IsClosed net fault none_held t)
one_tree net fault items (t, (rest, (h, (e, none)))) = (t, (e ∙ ap (λ (is : List Item). items_of t ++ is) none ∙ append-nil (items_of t), h))

pub closed_reads : (net : Net) (fault : Fault) (items : List Item) → (AreReadToEnd net fault Closed items → AreAccepted net fault items) × (AreAccepted net fault items → AreReadToEnd net fault Closed items)
closed_reads net fault items = (
  λ h. one_tree net fault items (trees_read net fault items (none_held ∷ []) h),
  λ h. rw h.1.0 (reads_tree net fault h.0 none_held [] h.1.1),
)
