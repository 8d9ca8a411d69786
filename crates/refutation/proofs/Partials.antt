-- Reading a partial tree.
use Rattle.std.proofs.Common.{Bool, List, [], ap, append-nil, append_assoc, inl, inr, not, refl, sym, ℕ, ◌++◌, ◌∙◌, ◌∷◌, ◌≡◌, ◌≢◌, ◌⊎◌}
use Rattle.gate_net.specs.Net.{Net}
use Rattle.refutation.proofs.Readings.{reads_join}
use Rattle.refutation.proofs.Stacks.{closed_reads, trees_for}
use Rattle.refutation.specs.Branches.{Branch, IsClosedOnSources, IsPartial, SplitsSource, clash, here, items_of, line, quiet, split, untried}
use Rattle.refutation.specs.Facts.{Held, none_held, with_fact}
use Rattle.refutation.specs.Laws.{ReadingsAccept}
use Rattle.refutation.specs.Lines.{Concludes}
use Rattle.refutation.specs.Stack.{AreRead, Due, no_tree, tree, untried_for}
use Rattle.refutation.specs.declared.items.Form.TheVariants.{Closed, Partial}
use Rattle.refutation.specs.declared.items.Item.{Item}
use Rattle.refutation.specs.declared.items.Item.TheVariants.{Clash, Here, Line, Quiet, Split, Untried}
use Rattle.refutation.specs.declared.reasoning.Fact.{Fact}
use Rattle.refutation.specs.declared.reasoning.Fact.TheVariants.{Good}
use Rattle.refutation.specs.declared.reasoning.Line.{Line as OneLine}
use Rattle.rm_base.specs.declared.numbers.Fault.{Fault}
use Rattle.rm_base.specs.declared.numbers.NodeId.{NodeId}

-- a closed tree before others
closed_read : (net : Net) (fault : Fault) (t : Branch) (held : Held) (left : List Due) → left ≢ [] → IsClosedOnSources net fault held t → AreRead net fault Partial (tree held ∷ left) (items_of t) left
closed_read net fault (line l t) held left some h = (h.0, h.1, h.2, closed_read net fault t (with_fact held h.0 h.1) left some h.3)
closed_read net fault (split x first t u) held left some h = (
  h.0,
  reads_join net fault Partial (items_of t) (items_of u) (tree (with_fact held x.0 (Good first)) ∷ tree (with_fact held x.0 (Good (not first))) ∷ left) (tree (with_fact held x.0 (Good (not first))) ∷ left) left
      (closed_read net fault t (with_fact held x.0 (Good first)) (tree (with_fact held x.0 (Good (not first))) ∷ left) (λ e. cc) h.1) (closed_read net fault u (with_fact held x.0 (Good (not first))) left some h.2),
)
closed_read net fault (clash x) held left some h = (h, some, refl)
closed_read net fault quiet held left some h = (h, some, refl)
closed_read net fault here held left some h = absurd h
closed_read net fault untried held left some h = absurd h

partial_read : (net : Net) (fault : Fault) (t : Branch) (held : Held) (left : List Due) → IsPartial net fault held t → AreRead net fault Partial (tree held ∷ left) (items_of t) (untried_for left)
partial_read net fault (line l t) held left h = (h.0, h.1, h.2, partial_read net fault t (with_fact held h.0 h.1) left h.3)
partial_read net fault (split x first t u) held left h =
    let one : Due = tree (with_fact held x.0 (Good first)) in
    let other : Due = tree (with_fact held x.0 (Good (not first))) in
    elim h.1 [
      | inl first_open ↦ (
        h.0,
        rw first_open.1
            (reads_join net fault Partial (items_of t) (Untried ∷ []) (one ∷ other ∷ left) (no_tree ∷ untried_for left) (untried_for left) (partial_read net fault t (with_fact held x.0 (Good first)) (other ∷ left) first_open.0) refl),
      )
      | inr second ↦ (
        h.0,
        reads_join net fault Partial (items_of t) (items_of u) (one ∷ other ∷ left) (other ∷ left) (untried_for left)
            (closed_read net fault t (with_fact held x.0 (Good first)) (other ∷ left) (λ e. cc) second.0) (partial_read net fault u (with_fact held x.0 (Good (not first))) left second.1),
      )
    ]
partial_read net fault here held left h = (refl, refl)
partial_read net fault (clash x) held left h = absurd h
partial_read net fault quiet held left h = absurd h
partial_read net fault untried held left h = absurd h

-- an Untried for each set of facts
abbrev pub untried_items : List Held → List Item
untried_items [] = []
untried_items (held ∷ others) = Untried ∷ untried_items others

untried_read : (net : Net) (fault : Fault) (items : List Item) (others : List Held) → AreRead net fault Partial (untried_for (trees_for others)) items [] → items ≡ untried_items others
untried_read net fault [] [] h = refl
untried_read net fault [] (held ∷ others) h = cc
untried_read net fault (i ∷ items) [] h = absurd h
untried_read net fault (Untried ∷ items) (held ∷ others) h = ap (λ is. Untried ∷ is) (untried_read net fault items others h)
untried_read net fault (Line l ∷ items) (held ∷ others) h = absurd h
untried_read net fault (Split x first ∷ items) (held ∷ others) h = absurd h
untried_read net fault (Clash x ∷ items) (held ∷ others) h = absurd h
untried_read net fault (Quiet ∷ items) (held ∷ others) h = absurd h
untried_read net fault (Here ∷ items) (held ∷ others) h = absurd h

-- closed trees for the first sets of facts, a partial one for the next, and an Untried for each of the others
abbrev pub FoundTrees : Net → Fault → List Held → List Item → Type 0
FoundTrees net fault [] items = ⊥
FoundTrees net fault (held ∷ others) items =
    ((t : Branch) × (IsPartial net fault held t × (items ≡ items_of t ++ untried_items others)))
    ⊎ ((t : Branch) × ((rest : List Item) × (IsClosedOnSources net fault held t × ((items ≡ items_of t ++ rest) × FoundTrees net fault others rest))))

found_line : (net : Net) (fault : Fault) (held : Held) (others : List Held) (l : OneLine) (x : ℕ) (fact : Fact) (items : List Item) → Concludes net fault held l x fact → FoundTrees net fault (with_fact held x fact ∷ others) items → FoundTrees net fault (held ∷ others) (Line l ∷ items)
found_line net fault held others l x fact items c (inl (t, (h, e))) = inl (line l t, ((x, fact, c, h), ap (λ is. Line l ∷ is) e))
found_line net fault held others l x fact items c (inr (t, (rest, (h, (e, f))))) = inr (line l t, (rest, ((x, fact, c, h), (ap (λ is. Line l ∷ is) e, f))))

found_split : (net : Net) (fault : Fault) (held : Held) (others : List Held) (x : NodeId) (first : Bool) (items : List Item) → SplitsSource net held x.0 → FoundTrees net fault (with_fact held x.0 (Good first) ∷ with_fact held x.0 (Good (not first)) ∷ others) items → FoundTrees net fault (held ∷ others) (Split x first ∷ items)
found_split net fault held others x first items may (inl (t, (h, e))) =
    inl (split x first t untried, ((may, inl (h, refl)), ap (λ is. Split x first ∷ is) (e ∙ sym (append_assoc (items_of t) (Untried ∷ []) (untried_items others)))))
found_split net fault held others x first items may (inr (t, (rest, (h, (e, inl (u, (k, e'))))))) =
    inl (split x first t u, ((may, inr (h, k)), ap (λ is. Split x first ∷ is) (e ∙ ap (λ is. items_of t ++ is) e' ∙ sym (append_assoc (items_of t) (items_of u) (untried_items others)))))
found_split net fault held others x first items may (inr (t, (rest, (h, (e, inr (u, (rest', (k, (e', f))))))))) =
    inr (split x first t u, (rest', ((may, h, k), (ap (λ is. Split x first ∷ is) (e ∙ ap (λ is. items_of t ++ is) e' ∙ sym (append_assoc (items_of t) (items_of u) rest')), f))))

found : (net : Net) (fault : Fault) (items : List Item) (stack : List Held) → stack ≢ [] → AreRead net fault Partial (trees_for stack) items [] → FoundTrees net fault stack items
found net fault [] [] some h = absurd (some refl)
found net fault (i ∷ items) [] some h = absurd h
found net fault [] (held ∷ others) some h = cc
found net fault (Line l ∷ items) (held ∷ others) some h = found_line net fault held others l h.0 h.1 items h.2 (found net fault items (with_fact held h.0 h.1 ∷ others) (λ e. cc) h.3)
found net fault (Split x first ∷ items) (held ∷ others) some h =
    found_split net fault held others x first items h.0 (found net fault items (with_fact held x.0 (Good first) ∷ with_fact held x.0 (Good (not first)) ∷ others) (λ e. cc) h.1)
found net fault (Clash x ∷ items) (held ∷ others) some h = inr (clash x, (items, (h.0, (refl, found net fault items others (λ e. h.1 (ap trees_for e)) h.2))))
found net fault (Quiet ∷ items) (held ∷ others) some h = inr (quiet, (items, (h.0, (refl, found net fault items others (λ e. h.1 (ap trees_for e)) h.2))))
found net fault (Here ∷ items) (held ∷ others) some h = inl (here, (tt, ap (λ is. Here ∷ is) (untried_read net fault items others h.1)))
found net fault (Untried ∷ items) (held ∷ others) some h = absurd h

one_partial : (net : Net) (fault : Fault) (items : List Item) → FoundTrees net fault (none_held ∷ []) items → (t : Branch) × ((items ≡ items_of t) × IsPartial net fault none_held t)
one_partial net fault items (inl (t, (h, e))) = (t, (e ∙ append-nil (items_of t), h))
one_partial net fault items (inr (t, (rest, (h, (e, f))))) = absurd f

pub readings_accept : ReadingsAccept
readings_accept net fault Closed items = closed_reads net fault items
readings_accept net fault Partial items = (
  λ h. one_partial net fault items (found net fault items (none_held ∷ []) (λ e. cc) h),
  λ h. rw h.1.0 (partial_read net fault h.0 none_held [] h.1.1),
)
