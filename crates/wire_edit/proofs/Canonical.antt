-- Lists of nodes without dead numbers at the end.
use Rattle.std.proofs.Common.{◌≡◌, ◌≢◌, ℕ, zero, suc, ◌<◌, Option, Some, None, List, [], ◌∷◌, map, refl, sym, ◌∙◌, ap, arith}
use Rattle.std.specs.Prelude.{slice_get, slice_set}
use Rattle.gate_net.specs.Net.{Node, flatten_option, before_dead, trimmed}
use Rattle.gate_net.specs.Edits.{node_redirected}
use Rattle.wire_edit.specs.Changes.{with_least_free}
use Rattle.wire_edit.specs.Inner.Changes.{least_free}
use Rattle.rm_base.proofs.Public.{set_other, set_there, tail_same}

pub tail_canonical : (o : Option Node) (os : List (Option Node)) → trimmed (o ∷ os) ≡ o ∷ os → trimmed os ≡ os
tail_canonical (Some n) os e = tail_same e
tail_canonical None os e = at (trimmed os) refl e
  where
    at : (ps : List (Option Node)) → trimmed os ≡ ps → before_dead None ps ≡ None ∷ os → trimmed os ≡ os
    at [] is e = cc
    at (p ∷ ps) is e = is ∙ tail_same e

before_there : (o : Option Node) (zs : List (Option Node)) (p : ℕ) (z : Option Node) → slice_get zs p ≡ Some z → before_dead o zs ≡ o ∷ zs
before_there o [] p z e = cc
before_there None (y ∷ ys) p z e = refl
before_there (Some n) (y ∷ ys) p z e = refl

pub canonical_trimmed : (os : List (Option Node)) → trimmed (trimmed os) ≡ trimmed os
canonical_trimmed [] = refl
canonical_trimmed (Some n ∷ os) = ap (λ ps. Some n ∷ ps) (canonical_trimmed os)
canonical_trimmed (None ∷ os) = at (trimmed os) (canonical_trimmed os)
  where
    at : (ps : List (Option Node)) → trimmed ps ≡ ps → trimmed (before_dead None ps) ≡ before_dead None ps
    at [] is = refl
    at (p ∷ ps) is = ap (before_dead None) is

pub canonical_set : (os : List (Option Node)) (x : ℕ) (n m : Node) → trimmed os ≡ os → slice_get os x ≡ Some (Some n) → trimmed (slice_set os x (Some m)) ≡ slice_set os x (Some m)
canonical_set [] x n m is e = cc
canonical_set (o ∷ os) zero n m is e = ap (λ ps. Some m ∷ ps) (tail_canonical o os is)
canonical_set (o ∷ os) (suc x) n m is e =
    ap (before_dead o) (canonical_set os x n m (tail_canonical o os is) e) ∙ before_there o (slice_set os x (Some m)) x (Some m) (set_there os x (Some n) (Some m) e)

before_map : (from to : ℕ) (o : Option Node) (os : List (Option Node)) → before_dead (node_redirected from to o) (map (node_redirected from to) os) ≡ map (node_redirected from to) (before_dead o os)
before_map from to None [] = refl
before_map from to None (p ∷ os) = refl
before_map from to (Some n) os = refl

trimmed_map : (from to : ℕ) (os : List (Option Node)) → trimmed (map (node_redirected from to) os) ≡ map (node_redirected from to) (trimmed os)
trimmed_map from to [] = refl
trimmed_map from to (o ∷ os) = ap (before_dead (node_redirected from to o)) (trimmed_map from to os) ∙ before_map from to o (trimmed os)

pub canonical_map : (from to : ℕ) (os : List (Option Node)) → trimmed os ≡ os → trimmed (map (node_redirected from to) os) ≡ map (node_redirected from to) os
canonical_map from to os is = trimmed_map from to os ∙ ap (map (node_redirected from to)) is

pub canonical_least : (os : List (Option Node)) (n : Node) → trimmed os ≡ os → trimmed (with_least_free os n) ≡ with_least_free os n
canonical_least [] n is = refl
canonical_least (None ∷ os) n is = ap (λ ps. Some n ∷ ps) (tail_canonical None os is)
canonical_least (Some m ∷ os) n is = ap (λ ps. Some m ∷ ps) (canonical_least os n (tail_canonical (Some m) os is))

-- trimming changes no node
pub flatten-trimmed : (os : List (Option Node)) (x : ℕ) → flatten_option (slice_get (trimmed os) x) ≡ flatten_option (slice_get os x)
flatten-trimmed [] x = refl
flatten-trimmed (o ∷ os) x = at o (trimmed os) x (λ y. flatten-trimmed os y)
  where
    at : (o : Option Node) (ps : List (Option Node)) (x : ℕ) → ((y : ℕ) → flatten_option (slice_get ps y) ≡ flatten_option (slice_get os y)) → flatten_option (slice_get (before_dead o ps) x) ≡ flatten_option (slice_get (o ∷ os) x)
    at None [] zero h = refl
    at None [] (suc x) h = h x
    at None (p ∷ ps) zero h = refl
    at None (p ∷ ps) (suc x) h = h x
    at (Some n) ps zero h = refl
    at (Some n) ps (suc x) h = h x

-- THE LEAST FREE NUMBER
pub least_is_free : (os : List (Option Node)) → flatten_option (slice_get os (least_free os)) ≡ None
least_is_free [] = refl
least_is_free (None ∷ os) = refl
least_is_free (Some n ∷ os) = least_is_free os

pub below_is_live : (os : List (Option Node)) (x : ℕ) → x < least_free os → flatten_option (slice_get os x) ≢ None
below_is_live [] x lt = absurd (omega arith)
below_is_live (None ∷ os) x lt = absurd (omega arith)
below_is_live (Some n ∷ os) zero lt = λ e. cc
below_is_live (Some n ∷ os) (suc x) lt = below_is_live os x (omega arith)

pub least-there : (os : List (Option Node)) (n : Node) → flatten_option (slice_get (with_least_free os n) (least_free os)) ≡ Some n
least-there [] n = refl
least-there (None ∷ os) n = refl
least-there (Some m ∷ os) n = least-there os n

pub least-other : (os : List (Option Node)) (n : Node) (x : ℕ) → x ≢ least_free os → flatten_option (slice_get (with_least_free os n) x) ≡ flatten_option (slice_get os x)
least-other [] n zero ne = absurd (ne refl)
least-other [] n (suc x) ne = refl
least-other (None ∷ os) n zero ne = absurd (ne refl)
least-other (None ∷ os) n (suc x) ne = refl
least-other (Some m ∷ os) n zero ne = refl
least-other (Some m ∷ os) n (suc x) ne = least-other os n x (λ e. ne (ap suc e))

-- the node that is gone
pub gone-other : (os : List (Option Node)) (gate x : ℕ) → x ≢ gate → flatten_option (slice_get (trimmed (slice_set os gate None)) x) ≡ flatten_option (slice_get os x)
gone-other os gate x ne = flatten-trimmed (slice_set os gate None) x ∙ ap flatten_option (set_other os gate x None ne)

pub gone-there : (os : List (Option Node)) (gate : ℕ) → flatten_option (slice_get (trimmed (slice_set os gate None)) gate) ≡ None
gone-there os gate = flatten-trimmed (slice_set os gate None) gate ∙ set_none os gate
  where
    set_none : (os : List (Option Node)) (x : ℕ) → flatten_option (slice_get (slice_set os x None) x) ≡ None
    set_none [] x = refl
    set_none (o ∷ os) zero = refl
    set_none (o ∷ os) (suc x) = set_none os x

-- LISTS THAT TELL THE SAME
all_dead : (os : List (Option Node)) → ((x : ℕ) → flatten_option (slice_get os x) ≡ None) → trimmed os ≡ []
all_dead [] h = refl
all_dead (None ∷ os) h = ap (before_dead None) (all_dead os (λ x. h (suc x)))
all_dead (Some n ∷ os) h = let wrong : Some n ≡ None = h 0 in cc

pub same_nodes : (os ps : List (Option Node)) → trimmed os ≡ os → trimmed ps ≡ ps → ((x : ℕ) → flatten_option (slice_get os x) ≡ flatten_option (slice_get ps x)) → os ≡ ps
same_nodes [] ps a b h = sym (all_dead ps (λ x. sym (h x))) ∙ b
same_nodes (o ∷ os) [] a b h = sym a ∙ all_dead (o ∷ os) h
same_nodes (o ∷ os) (p ∷ ps) a b h =
    let first : o ≡ p = h 0 in
    let rest : os ≡ ps = same_nodes os ps (tail_canonical o os a) (tail_canonical p ps b) (λ x. h (suc x)) in
    cc
