-- How large accepted trees are.
use Rattle.std.proofs.Common.{List, [], arith, inl, inr, length, length-append, not, refl, ℕ, ◌*◌, ◌++◌, ◌+◌, ◌∷◌, ◌≡◌, ◌≤◌}
use Rattle.gate_net.specs.Net.{HasSources, Net, source_count}
use Rattle.refutation.specs.Branches.{Branch, IsClosed, IsClosedOnSources, IsPartial, clash, here, items_of, line, quiet, split, untried}
use Rattle.refutation.specs.Facts.{Held, none_held, with_fact}
use Rattle.refutation.specs.Laws.{UntriedsAreFew}
use Rattle.refutation.specs.Stack.{splits_among, untrieds_among}
use Rattle.refutation.specs.declared.items.Form.{Form}
use Rattle.refutation.specs.declared.items.Form.TheVariants.{Closed, Partial}
use Rattle.refutation.specs.declared.items.Item.{Item}
use Rattle.refutation.specs.declared.items.Item.TheVariants.{Clash, Here, Line, Quiet, Split, Untried}
use Rattle.refutation.specs.declared.reasoning.Fact.TheVariants.{Good}
use Rattle.refutation_check.specs.FirstRefusal.{IsAcceptedAs}
use Rattle.refutation_check.specs.Shapes.{heres_among}
use Rattle.refutation_check.specs.Inner.Shapes.{IsSmall}
use Rattle.rm_base.specs.declared.numbers.Fault.{Fault}

-- what is counted in two lists is counted in one after the other
pub record Adds (xs ys : List Item) : Type 0 where
  pub splits : splits_among (xs ++ ys) ≡ splits_among xs + splits_among ys
  pub untrieds : untrieds_among (xs ++ ys) ≡ untrieds_among xs + untrieds_among ys
  pub heres : heres_among (xs ++ ys) ≡ heres_among xs + heres_among ys
  pub size : length (xs ++ ys) ≡ length xs + length ys

adds : (xs ys : List Item) → Adds xs ys
adds [] ys = record { splits = omega arith; untrieds = omega arith; heres = omega arith; size = length-append [] ys }
adds (Line l ∷ xs) ys = let r : Adds xs ys = adds xs ys in record { splits = r.splits; untrieds = r.untrieds; heres = r.heres; size = length-append (Line l ∷ xs) ys }
adds (Split x first ∷ xs) ys = let r : Adds xs ys = adds xs ys in record { splits = omega (arith, r.splits); untrieds = r.untrieds; heres = r.heres; size = length-append (Split x first ∷ xs) ys }
adds (Clash x ∷ xs) ys = let r : Adds xs ys = adds xs ys in record { splits = r.splits; untrieds = r.untrieds; heres = r.heres; size = length-append (Clash x ∷ xs) ys }
adds (Quiet ∷ xs) ys = let r : Adds xs ys = adds xs ys in record { splits = r.splits; untrieds = r.untrieds; heres = r.heres; size = length-append (Quiet ∷ xs) ys }
adds (Here ∷ xs) ys = let r : Adds xs ys = adds xs ys in record { splits = r.splits; untrieds = r.untrieds; heres = omega (arith, r.heres); size = length-append (Here ∷ xs) ys }
adds (Untried ∷ xs) ys = let r : Adds xs ys = adds xs ys in record { splits = r.splits; untrieds = omega (arith, r.untrieds); heres = r.heres; size = length-append (Untried ∷ xs) ys }

-- each split has two branches, and each branch an end
pub split_size : (t : Branch) → 2 * splits_among (items_of t) + 1 ≤ length (items_of t)
split_size (line l t) = omega (arith, split_size t)
split_size (split x first t u) = let r : Adds (items_of t) (items_of u) = adds (items_of t) (items_of u) in omega (arith, split_size t, split_size u, r.splits, r.size)
split_size (clash x) = omega arith
split_size quiet = omega arith
split_size here = omega arith
split_size untried = omega arith

-- so many Heres, and no more Untrieds than that
pub record Has (items : List Item) (heres most : ℕ) : Type 0 where
  pub heres_are : heres_among items ≡ heres
  pub untrieds_are : untrieds_among items ≤ most

module _ (net : Net) (fault : Fault) where
  closed_has : (t : Branch) (held : Held) → IsClosed net fault held t → Has (items_of t) 0 0
  closed_has (line l t) held c = let r : Has (items_of t) 0 0 = closed_has t (with_fact held c.0 c.1) c.3 in record { heres_are = r.heres_are; untrieds_are = r.untrieds_are }
  closed_has (split x first t u) held c =
      let r : Adds (items_of t) (items_of u) = adds (items_of t) (items_of u) in
      let a : Has (items_of t) 0 0 = closed_has t (with_fact held x.0 (Good first)) c.1 in
      let b : Has (items_of u) 0 0 = closed_has u (with_fact held x.0 (Good (not first))) c.2 in
      record { heres_are = omega (arith, r.heres); untrieds_are = omega (arith, r.untrieds) }
  closed_has (clash x) held c = record { heres_are = refl; untrieds_are = omega arith }
  closed_has quiet held c = record { heres_are = refl; untrieds_are = omega arith }
  closed_has here held c = absurd c
  closed_has untried held c = absurd c

  sources_has : (t : Branch) (held : Held) → IsClosedOnSources net fault held t → Has (items_of t) 0 0
  sources_has (line l t) held c = let r : Has (items_of t) 0 0 = sources_has t (with_fact held c.0 c.1) c.3 in record { heres_are = r.heres_are; untrieds_are = r.untrieds_are }
  sources_has (split x first t u) held c =
      let r : Adds (items_of t) (items_of u) = adds (items_of t) (items_of u) in
      let a : Has (items_of t) 0 0 = sources_has t (with_fact held x.0 (Good first)) c.1 in
      let b : Has (items_of u) 0 0 = sources_has u (with_fact held x.0 (Good (not first))) c.2 in
      record { heres_are = omega (arith, r.heres); untrieds_are = omega (arith, r.untrieds) }
  sources_has (clash x) held c = record { heres_are = refl; untrieds_are = omega arith }
  sources_has quiet held c = record { heres_are = refl; untrieds_are = omega arith }
  sources_has here held c = absurd c
  sources_has untried held c = absurd c

  partial_has : (t : Branch) (held : Held) → IsPartial net fault held t → Has (items_of t) 1 (splits_among (items_of t))
  partial_has (line l t) held c = let r : Has (items_of t) 1 (splits_among (items_of t)) = partial_has t (with_fact held c.0 c.1) c.3 in record { heres_are = r.heres_are; untrieds_are = r.untrieds_are }
  partial_has (split x first t u) held c =
      let r : Adds (items_of t) (items_of u) = adds (items_of t) (items_of u) in
      elim c.1 [
        | inl open' ↦
            let a : Has (items_of t) 1 (splits_among (items_of t)) = partial_has t (with_fact held x.0 (Good first)) open'.0 in
            rw open'.1
            (let s : Adds (items_of t) (Untried ∷ []) = adds (items_of t) (Untried ∷ []) in
            record { heres_are = omega (arith, s.heres, a.heres_are); untrieds_are = omega (arith, s.untrieds, s.splits, a.untrieds_are) })
        | inr closed ↦
            let a : Has (items_of t) 0 0 = sources_has t (with_fact held x.0 (Good first)) closed.0 in
            let b : Has (items_of u) 1 (splits_among (items_of u)) = partial_has u (with_fact held x.0 (Good (not first))) closed.1 in
            record { heres_are = omega (arith, r.heres, a.heres_are, b.heres_are); untrieds_are = omega (arith, r.untrieds, r.splits, a.untrieds_are, b.untrieds_are) }
      ]
  partial_has here held c = record { heres_are = refl; untrieds_are = omega arith }
  partial_has (clash x) held c = absurd c
  partial_has quiet held c = absurd c
  partial_has untried held c = absurd c

pub accepted_small : UntriedsAreFew → (net : Net) (fault : Fault) (form : Form) (items : List Item) → HasSources net → source_count net ≤ 4294967295 → IsAcceptedAs form net fault items → IsSmall form items
accepted_small few net fault Closed items has bound (t, (is, closed)) =
    let r : Has (items_of t) 0 0 = closed_has net fault t none_held closed in
    rw is (record { splits = omega (arith, split_size t); fewer = omega (arith, r.untrieds_are); untrieds = omega (arith, r.untrieds_are); heres = r.heres_are })
accepted_small few net fault Partial items has bound (t, (is, partial)) =
    let r : Has (items_of t) 1 (splits_among (items_of t)) = partial_has net fault t none_held partial in
    let most : untrieds_among items ≤ source_count net = few net fault items has (t, (is, partial)) in
    let most' : untrieds_among (items_of t) ≤ source_count net = rw is at most in
    rw is (record { splits = omega (arith, split_size t); fewer = r.untrieds_are; untrieds = omega (arith, most'); heres = r.heres_are })
