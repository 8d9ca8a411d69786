-- Lists of live nodes.
use Rattle.std.proofs.Common.{◌≡◌, ℕ, ◌⊎◌, inl, inr, Bool, true, false, Option, Some, None, List, [], ◌∷◌, ◌++◌, refl, sym, ◌∙◌, ap, subst, eqb-true}
use Rattle.std.specs.Prelude.{eqb}
use Rattle.rm_base.specs.declared.numbers.NodeId.{NodeId}
use Rattle.gate_net.specs.declared.Kind.{Kind}
use Rattle.gate_net.specs.Net.{Net, Node, IsKind, IsLive, kind_in, kind_of, node_at}
use Rattle.pin_pool.specs.Ring.{has}
use Rattle.rm_base.specs.Numbers.{numbers_of}
use Rattle.rm_base.proofs.Public.{some_same}

-- a node with a kind is live
pub live_if : (net : Net) (x : ℕ) (kind : Kind) → kind_of net x ≡ Some kind → IsLive net x
live_if net x kind is = at (node_at net x) refl
  where
    none : None ≡ Some kind → IsLive net x
    none e = absurd (cc)

    at : (o : Option Node) → node_at net x ≡ o → IsLive net x
    at None e = none (ap kind_in (sym e) ∙ is)
    at (Some n) e = (n.kind, (n.drivers, e))

-- and of that kind
pub kind_if : (net : Net) (x : ℕ) (kind : Kind) → kind_of net x ≡ Some kind → IsKind net x kind
kind_if net x kind is = at (node_at net x) refl
  where
    at : (o : Option Node) → node_at net x ≡ o → IsKind net x kind
    at None e = let none : None ≡ Some kind = sym (ap kind_in e) ∙ is in absurd (cc)
    at (Some n) e = subst (λ (k : Kind). IsKind net x k) (some_same (sym (ap kind_in e) ∙ is)) (n.drivers, e)

-- what is in a list with one more is in the list or is the last
pub has_more : (d : ℕ) (xs : List NodeId) (y : NodeId) → has d (numbers_of (xs ++ y ∷ [])) ≡ true → (has d (numbers_of xs) ≡ true) ⊎ (d ≡ y.0)
has_more d [] y e = at (eqb d y.0) refl
  where
    at : (b : Bool) → eqb d y.0 ≡ b → (has d [] ≡ true) ⊎ (d ≡ y.0)
    at true is = inr (eqb-true d y.0 is)
    at false is = let wrong : false ≡ true = rw is at e in absurd (cc)
has_more d (x ∷ xs) y e = at (has_more d xs y) (eqb d x.0) refl
  where
    at : (has d (numbers_of (xs ++ y ∷ [])) ≡ true → (has d (numbers_of xs) ≡ true) ⊎ (d ≡ y.0)) → (b : Bool) → eqb d x.0 ≡ b → (has d (numbers_of (x ∷ xs)) ≡ true) ⊎ (d ≡ y.0)
    at further true is = inl (rw is refl)
    at further false is =
        let later : has d (numbers_of (xs ++ y ∷ [])) ≡ true = rw is at e in
        elim (further later) [
          | inl more ↦ inl (rw (is, more) refl)
          | inr last ↦ inr last
        ]

-- so a list of live nodes stays one with another live node
pub live_more : (net : Net) (xs : List NodeId) (y : NodeId) → ((d : ℕ) → has d (numbers_of xs) ≡ true → IsLive net d) → IsLive net y.0 → (d : ℕ) → has d (numbers_of (xs ++ y ∷ [])) ≡ true → IsLive net d
live_more net xs y all last d e = elim (has_more d xs y e) [
  | inl more ↦ all d more
  | inr is ↦ subst (IsLive net) (sym is) last
]
