-- Undos lead on where the new entry can be taken back.
use Rattle.std.proofs.Common.{◌≡◌, ◌≢◌, ℕ, List, ◌∷◌, length, refl, sym, ap, ◌∙◌, subst, Option, Some, None, Bool}
use Rattle.gate_net.specs.declared.Kind.{Kind}
use Rattle.gate_net.specs.declared.Family.{Family}
use Rattle.gate_net.specs.declared.Family.TheVariants.{Constant, Input, Junction, Parity}
use Rattle.gate_net.specs.declared.Kind.TheVariants.{Zero, One, Source}
use Rattle.gate_net.specs.Net.{node_at}
use Rattle.gate_net.specs.Net.{IsLive}
use Rattle.gate_net.specs.Meaning.{controlling, controlling_in, family, inversion, inversion_in}
use Rattle.gate_graph.specs.declared.undo_list.Undo.{Undo}
use Rattle.pin_pool.specs.Rings.{Rings, rings_of}
use Rattle.gate_graph.specs.Wirings.{Wiring, kind_at, IsShaped}
use Rattle.gate_graph.specs.Undoing.{taken_back, CanTakeBack, CanGoBack, back_to, LeadOn, AreWithin, IsWithin}
use Rattle.gate_graph.specs.Circuit.{Circuit, wiring, net_of, node_with}
use Rattle.gate_graph.proofs.NetOf.{node_at-net}
use Rattle.gate_net.specs.Net.{Node}

pub lead-on : (v w : Circuit) (entry : Undo) (es : List Undo) → CanTakeBack (wiring w) entry → taken_back entry (wiring w) ≡ wiring v → (AreWithin (length v.kinds) es → AreWithin (length w.kinds) (entry ∷ es)) → LeadOn v w es (entry ∷ es)
lead-on v w entry es can back within = record {
  back = λ go. (can, subst (λ (x : Wiring). CanGoBack x es) (sym back) go);
  to = ap (λ (x : Wiring). back_to x es) back;
  within = within;
}

pub within-same : (ks ls : List (Option Kind)) (es : List Undo) → ks ≡ ls → AreWithin (length ls) es → AreWithin (length ks) es
within-same ks ls es e h = subst (λ (l : List (Option Kind)). AreWithin (length l) es) (sym e) h

pub back-rings : (v w : Circuit) (f : Rings → Rings) (r : Rings) → w.kinds ≡ v.kinds → rings_of w.pool ≡ r → f r ≡ rings_of v.pool → (let x : Wiring = record { kind = λ n. kind_at w.kinds n; rings = f (rings_of w.pool) } in x ≡ wiring v)
back-rings v w f r same e back = rw (same, e, back) refl

-- the same for an entry that leaves the kinds
pub lead-rings : (v w : Circuit) (entry : Undo) (es : List Undo) (r : Rings) → w.kinds ≡ v.kinds → rings_of w.pool ≡ r → (let x : Wiring = record { kind = λ n. kind_at v.kinds n; rings = r } in CanTakeBack x entry × (taken_back entry x ≡ wiring v)) → IsWithin (length v.kinds) entry → LeadOn v w es (entry ∷ es)
lead-rings v w entry es r same e back within =
    let x : Wiring = record { kind = λ n. kind_at v.kinds n; rings = r } in
    let now : wiring w ≡ x = rw (same, e) refl in
    lead-on v w entry es (subst (λ (y : Wiring). CanTakeBack y entry) (sym now) back.0) (ap (taken_back entry) now ∙ back.1)
    (λ all. (subst (λ (l : List (Option Kind)). IsWithin (length l) entry) (sym same) within, within-same w.kinds v.kinds es same all))

pub lead-by : (v w : Circuit) (entry : Undo) (es : List Undo) (x : Wiring) → wiring w ≡ x → CanTakeBack x entry → taken_back entry x ≡ wiring v → (AreWithin (length v.kinds) es → AreWithin (length w.kinds) (entry ∷ es)) → LeadOn v w es (entry ∷ es)
lead-by v w entry es x now can back within =
    lead-on v w entry es (subst (λ (y : Wiring). CanTakeBack y entry) (sym now) can) (ap (taken_back entry) now ∙ back) within

pub lead-trans : (u v w : Circuit) (es fs gs : List Undo) → LeadOn u v es fs → LeadOn v w fs gs → LeadOn u w es gs
lead-trans u v w es fs gs a b = record {
  back = λ go. b.back (a.back go);
  to = b.to ∙ a.to;
  within = λ h. b.within (a.within h);
}

pub within-length : (m n : ℕ) (es : List Undo) → n ≡ m → AreWithin m es → AreWithin n es
within-length m n es e h = subst (λ (k : ℕ). AreWithin k es) (sym e) h

kind-with : (o : Option Kind) (ds : List ℕ) (n : Node) → node_with o ds ≡ Some n → o ≡ Some n.kind
kind-with None ds n e = cc
kind-with (Some k) ds n e = let same : n ≡ record { kind = k; drivers = ds } = cc in rw same refl

pub kind-of : (v : Circuit) (x : ℕ) (n : Node) → node_at (net_of v) x ≡ Some n → kind_at v.kinds x ≡ Some n.kind
kind-of v x n e = kind-with (kind_at v.kinds x) _ n (sym (node_at-net v x) ∙ e)

pub live-in : (v : Circuit) (x : ℕ) → IsLive (net_of v) x → kind_at v.kinds x ≢ None
live-in v x l none = let some = kind-of v x _ l.1.1 in (let wrong : Some l.0 ≡ None = sym some ∙ none in cc)

no-inversion : (f : Family) (c : Bool) → controlling_in f ≡ Some c → inversion_in f ≡ None
no-inversion Input c e = cc
no-inversion (Constant b) c e = cc
no-inversion (Junction b) c e = refl
no-inversion (Parity i) c e = cc

-- a junction is no parity, no source and no constant
pub no-parity : (k : Kind) (c : Bool) → controlling k ≡ Some c → inversion k ≡ None
no-parity k = no-inversion (family k)

pub not-source : (k : Kind) (c : Bool) → controlling k ≡ Some c → k ≢ Source
not-source k c e is = let none : None ≡ Some c = ap controlling (sym is) ∙ e in cc

not-zero-kind : (k : Kind) (c : Bool) → controlling k ≡ Some c → (k ≢ Zero) × (k ≢ One)
not-zero-kind k c e = (λ is. let none : None ≡ Some c = ap controlling (sym is) ∙ e in cc, λ is. let none : None ≡ Some c = ap controlling (sym is) ∙ e in cc)

-- one number has one kind
pub one-parity : (o : Option Kind) (j k : Kind) (i : Bool) → o ≡ Some j → inversion j ≡ None → o ≡ Some k → inversion k ≡ Some i → ⊥
one-parity o j k i is none is' some =
    let same : j ≡ k = (let both : Some j ≡ Some k = sym is ∙ is' in cc) in
    let wrong : None ≡ Some i = sym none ∙ ap inversion same ∙ some in cc

pub not-constant : (v : Circuit) → IsShaped (wiring v) → (x : ℕ) (k : Kind) (c : Bool) → kind_at v.kinds x ≡ Some k → controlling k ≡ Some c → (x ≢ 0) × (x ≢ 1)
not-constant v s x k c e j =
    let ne = not-zero-kind k c j in
    (λ is. ne.0 (let both : Some k ≡ Some Zero = sym e ∙ ap (kind_at v.kinds) is ∙ s.zero_is in cc), λ is. ne.1 (let both : Some k ≡ Some One = sym e ∙ ap (kind_at v.kinds) is ∙ s.one_is in cc))
