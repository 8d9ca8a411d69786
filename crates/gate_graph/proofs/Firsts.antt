-- The first numbers stay the constants and the sources.
use Rattle.std.proofs.Common.{◌≡◌, ℕ, ◌+◌, Option, Some, None, sym, ap, ◌∙◌, inl, inr}
use Rattle.std.proofs.lemmas.Bool.{cases_eq}
use Rattle.gate_net.specs.declared.Kind.{Kind}
use Rattle.gate_net.specs.declared.Kind.TheVariants.{Source, Zero, One}
use Rattle.gate_net.specs.Net.{IsGateKind}
use Rattle.pin_pool.proofs.Public.{changed-other, changed-same}
use Rattle.pin_pool.specs.Rings.{changed}
use Rattle.gate_graph.specs.Wirings.{AreFirst}

-- no node, or a gate
abbrev pub IsNoFirst : Option Kind → Type 0
IsNoFirst o = (k : Kind) → o ≡ Some k → IsGateKind k

pub none-no_first : IsNoFirst None
none-no_first k e = cc

pub gate-no_first : (kind : Kind) → IsGateKind kind → IsNoFirst (Some kind)
gate-no_first kind g k e = let same : kind ≡ k = cc in rw (← same) g

pub first-changed : (kind : ℕ → Option Kind) (n s : ℕ) (o : Option Kind) → AreFirst kind s → IsNoFirst (kind n) → IsNoFirst o → AreFirst (changed kind n o) s
first-changed kind n s o f old new =
    let back : (m : ℕ) (k : Kind) → (IsGateKind k → ⊥) → changed kind n o m ≡ Some k → kind m ≡ Some k =
    λ m k no e. elim (cases_eq m n) [
      | inl is ↦ absurd (no (new k (sym (changed-same kind n o) ∙ ap (changed kind n o) (sym is) ∙ e)))
      | inr ne ↦ sym (changed-other kind n o m ne) ∙ e
    ] in
    record {
      source_is = λ k h. changed-other kind n o (2 + k) (λ is. old Source (ap kind (sym is) ∙ f.source_is k h)) ∙ f.source_is k h;
      only_source = λ m e. f.only_source m (back m Source (λ h. h) e);
      only_zero = λ m e. f.only_zero m (back m Zero (λ h. h) e);
      only_one = λ m e. f.only_one m (back m One (λ h. h) e);
    }
