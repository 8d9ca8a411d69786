-- The items of a tree tell the tree.
use Rattle.std.proofs.Common.{List, ap, refl, ◌++◌, ◌∙◌, ◌≡◌, sym}
use Rattle.std.proofs.lemmas.List.{append_assoc}
use Rattle.refutation.specs.Branches.{Branch, clash, here, items_of, line, quiet, split, untried}
use Rattle.refutation.specs.declared.items.Item.{Item}

-- two trees with the same items before whatever follows are one, and the same follows
pub items_tell : (t u : Branch) (r s : List Item) → items_of t ++ r ≡ items_of u ++ s → (t ≡ u) × (r ≡ s)
items_tell (line l t) (line m u) r s e =
    let head : l ≡ m = cc in
    let rest : items_of t ++ r ≡ items_of u ++ s = cc in
    let both : (t ≡ u) × (r ≡ s) = items_tell t u r s rest in
    (cc (head, both.0), both.1)
items_tell (split x f t1 t2) (split y g u1 u2) r s e =
    let node : x ≡ y = cc in
    let first : f ≡ g = cc in
    let rest : (items_of t1 ++ items_of t2) ++ r ≡ (items_of u1 ++ items_of u2) ++ s = cc in
    let again : items_of t1 ++ (items_of t2 ++ r) ≡ items_of u1 ++ (items_of u2 ++ s) =
    sym (append_assoc (items_of t1) (items_of t2) r) ∙ rest ∙ append_assoc (items_of u1) (items_of u2) s in
    let one : (t1 ≡ u1) × (items_of t2 ++ r ≡ items_of u2 ++ s) = items_tell t1 u1 (items_of t2 ++ r) (items_of u2 ++ s) again in
    let two : (t2 ≡ u2) × (r ≡ s) = items_tell t2 u2 r s one.1 in
    (cc (node, first, one.0, two.0), two.1)
items_tell (clash x) (clash y) r s e = let same : x ≡ y = cc in (ap clash same, cc)
items_tell quiet quiet r s e = (refl, cc)
items_tell here here r s e = (refl, cc)
items_tell untried untried r s e = (refl, cc)
items_tell (line l t) (split y g u1 u2) r s e = cc
items_tell (line l t) (clash y) r s e = cc
items_tell (line l t) quiet r s e = cc
items_tell (line l t) here r s e = cc
items_tell (line l t) untried r s e = cc
items_tell (split x f t1 t2) (line m u) r s e = cc
items_tell (split x f t1 t2) (clash y) r s e = cc
items_tell (split x f t1 t2) quiet r s e = cc
items_tell (split x f t1 t2) here r s e = cc
items_tell (split x f t1 t2) untried r s e = cc
items_tell (clash x) (line m u) r s e = cc
items_tell (clash x) (split y g u1 u2) r s e = cc
items_tell (clash x) quiet r s e = cc
items_tell (clash x) here r s e = cc
items_tell (clash x) untried r s e = cc
items_tell quiet (line m u) r s e = cc
items_tell quiet (split y g u1 u2) r s e = cc
items_tell quiet (clash y) r s e = cc
items_tell quiet here r s e = cc
items_tell quiet untried r s e = cc
items_tell here (line m u) r s e = cc
items_tell here (split y g u1 u2) r s e = cc
items_tell here (clash y) r s e = cc
items_tell here quiet r s e = cc
items_tell here untried r s e = cc
items_tell untried (line m u) r s e = cc
items_tell untried (split y g u1 u2) r s e = cc
items_tell untried (clash y) r s e = cc
items_tell untried quiet r s e = cc
items_tell untried here r s e = cc
