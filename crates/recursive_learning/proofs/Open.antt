-- Drivers that may give a gate its value.
use Rattle.std.proofs.Common.{Bool, List, Option, Some, [], ap, false, inl, inr, map, refl, suc, sym, true, zero, ℕ, ◌∙◌, ◌∷◌, ◌≡◌}
use Rattle.std.specs.List.{list_any}
use Rattle.std.specs.Prelude.{slice_get}
use Rattle.std.proofs.Math.Bool.{or-true}
use Rattle.gate_net.specs.Forward.{is_known}
use Rattle.gate_net.proofs.Public.{is_known_true}
use Rattle.gate_net.specs.Net.{Net, drivers_of, kind_in, kind_of}
use Rattle.gate_net.specs.Values.{controlling}
use Rattle.gate_net.specs.declared.Kind.{Kind}
use Rattle.recursive_learning.specs.Inner.Gates.{NoneGives}
use Rattle.refutation.specs.Facts.{Held, known_good}
use Rattle.refutation.specs.Learning.{IsUnjustified}
use Rattle.refutation.proofs.Public.{find, is_known_some}

any_there : (test : Option Bool → Bool) (k : ℕ → Option Bool) (ds : List ℕ) (p d : ℕ) → slice_get ds p ≡ Some d → test (k d) ≡ true → list_any test (map k ds) ≡ true
any_there test k [] p d e is = cc
any_there test k (x ∷ xs) zero d e is = let same : x ≡ d = cc in rw (same, is) refl
any_there test k (x ∷ xs) (suc p) d e is = rw (any_there test k xs p d e is) (or-true (test (k x)))

none_there : (test : Option Bool → Bool) (k : ℕ → Option Bool) (ds : List ℕ) → ((p d : ℕ) → slice_get ds p ≡ Some d → test (k d) ≡ false) → list_any test (map k ds) ≡ false
none_there test k [] h = refl
none_there test k (x ∷ xs) h = rw (h 0 x refl) (none_there test k xs (λ p d e. h (suc p) d e))

pub none_gives : (net : Net) (held : Held) (y : ℕ) (c : Bool) → list_any (is_known c) (map (known_good held) (drivers_of net y)) ≡ false → NoneGives net held y c
none_gives net held y c none p d reads is =
    let any : list_any (is_known c) (map (known_good held) (drivers_of net y)) ≡ true = any_there (is_known c) (known_good held) (drivers_of net y) p d reads (is_known_some c (known_good held d) is) in
    let wrong : false ≡ true = sym none ∙ any in
    cc

pub some_gives : (net : Net) (held : Held) (y : ℕ) (c : Bool) → list_any (is_known c) (map (known_good held) (drivers_of net y)) ≡ true → NoneGives net held y c → ⊥
some_gives net held y c any none = elim (find (λ d. is_known c (known_good held d)) (drivers_of net y)) [
  | inl found ↦ none found.0 found.1.0 found.1.1.0 (is_known_true c (known_good held found.1.0) found.1.1.1)
  | inr rest ↦ let wrong : false ≡ true = sym (none_there (is_known c) (known_good held) (drivers_of net y) rest) ∙ any in cc
]

-- an unjustified gate has the controlling value of its kind
pub same_value : (net : Net) (held : Held) (y : ℕ) (kind : Kind) (c c' : Bool) → Some kind ≡ kind_of net y → Some c ≡ controlling kind → IsUnjustified net held y c' → c' ≡ c
same_value net held y kind c c' is value u =
    let there : kind_of net y ≡ Some u.junction.0 = ap kind_in u.junction.1.0.1 in
    let same : kind ≡ u.junction.0 = cc in
    let other : controlling u.junction.0 ≡ Some c' = u.junction.1.1 in
    let this : Some c ≡ controlling u.junction.0 = rw same at value in
    cc
