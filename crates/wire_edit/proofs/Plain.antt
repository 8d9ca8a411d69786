-- Sources and constants stay as they are.
use Rattle.std.proofs.Common.{◌≡◌, ℕ, ◌+◌, ◌-◌, ◌<◌, ◌≤◌, Option, Some, None, List, [], refl, sym, ◌∙◌, ap, arith}
use Rattle.gate_net.specs.declared.Kind.{Kind}
use Rattle.gate_net.specs.declared.Kind.TheVariants.{Source, Zero, One, And, Or, Not, Xor}
use Rattle.gate_net.specs.Net.{Node, Net, node_at, drivers_in, IsKind, IsGateKind, HasConstants, HasSources, IsWellFormed, plain_node, count_in, source_in, source_count}

pub some_none : {n : Node} → ◌≡◌ {A = Option Node} (Some n) None → ⊥
some_none e = cc

-- SOURCES AND CONSTANTS
abbrev pub source_weight : Option Node → ℕ
source_weight o = count_in o source_in

pub gate_weight : (kind : Kind) → IsGateKind kind → source_in kind ≡ 0
gate_weight Source k = absurd k
gate_weight Zero k = absurd k
gate_weight One k = absurd k
gate_weight And k = refl
gate_weight Or k = refl
gate_weight Not k = refl
gate_weight Xor k = refl

-- sources and constants have no pins
pub plain_drivers : (net : Net) → IsWellFormed net → (x : ℕ) (kind : Kind) (ds : List ℕ) → node_at net x ≡ Some (record { kind = kind; drivers = ds }) → (IsGateKind kind → ⊥) → ds ≡ []
plain_drivers net well x Source ds is k =
    let at : (2 ≤ x) × (x < 2 + source_count net) = well.sources.only x (ds, is) in
    let same : 2 + (x - 2) ≡ x = omega (arith, at.0) in
    let here : node_at net x ≡ plain_node Source = rw same at (well.sources.first (x - 2) (omega (arith, at.0, at.1))) in
    ap drivers_in (sym is ∙ here)
plain_drivers net well x Zero ds is k = let e : x ≡ 0 = well.only_zero x (ds, is) in ap drivers_in (sym is ∙ ap (node_at net) e ∙ well.constants.zero_is)
plain_drivers net well x One ds is k = let e : x ≡ 1 = well.only_one x (ds, is) in ap drivers_in (sym is ∙ ap (node_at net) e ∙ well.constants.one_is)
plain_drivers net well x And ds is k = absurd (k tt)
plain_drivers net well x Or ds is k = absurd (k tt)
plain_drivers net well x Not ds is k = absurd (k tt)
plain_drivers net well x Xor ds is k = absurd (k tt)

-- sources and constants are the same in both nets
pub record KeepsPlain (net after : Net) : Type 0 where
  pub forth : (x : ℕ) (kind : Kind) → node_at net x ≡ plain_node kind → (IsGateKind kind → ⊥) → node_at after x ≡ plain_node kind
  pub back : (x : ℕ) (kind : Kind) → IsKind after x kind → (IsGateKind kind → ⊥) → IsKind net x kind
  pub count : source_count after ≡ source_count net

pub plain_constants : (net after : Net) → IsWellFormed net → KeepsPlain net after → HasConstants after
plain_constants net after well k = record { zero_is = k.forth 0 Zero well.constants.zero_is (λ e. e); one_is = k.forth 1 One well.constants.one_is (λ e. e) }

pub plain_sources : (net after : Net) → IsWellFormed net → KeepsPlain net after → HasSources after
plain_sources net after well k = record {
  first = λ n lt. k.forth (2 + n) Source (well.sources.first n (rw k.count at lt)) (λ e. e);
  only = λ x is. rw k.count (well.sources.only x (k.back x Source is (λ e. e)));
}
