-- Nodes that are known.
use Rattle.std.proofs.Common.{Bool, List, [], ap, arith, inl, inr, length, refl, subst, sym, ℕ, ◌++◌, ◌+◌, ◌<◌, ◌∙◌, ◌∷◌, ◌≡◌, ◌≢◌}
use Rattle.std.proofs.lemmas.Bool.Decides.{eqb_tells}
use Rattle.gate_net.specs.Net.{Net}
use Rattle.refutation.specs.Facts.{Held}
use Rattle.candidate_wires.proofs.Appending.{only_one, stands_either}
use Rattle.candidate_wires.specs.Inner.Parts.{AreKnown, IsKnown, IsUsable}
use Rattle.candidate_wires.specs.declared.known.Known.{Known}
use Rattle.rm_base.proofs.Public.{back_stands, front_stands}

pub known_first : (net : Net) (held : Held) → AreKnown net held 0 []
known_first net held = record { each = λ m k e. absurd (cc); all = λ x value less usable. absurd (omega arith); sorted = λ l m k j less e f. absurd (cc) }

pub known_none : (net : Net) (held : Held) (n : ℕ) (ks : List Known) → AreKnown net held n ks → ((value : Bool) → IsUsable net held n value → ⊥) → AreKnown net held (n + 1) ks
known_none net held n ks known not_usable = record {
  each = λ m k e. let old = known.each m k e in (let less : k.node.0 < n = old.0 in omega arith, old.1);
  all = λ x value less usable. elim (eqb_tells x n) [
    | inl t ↦ absurd (not_usable value (subst (λ y. IsUsable net held y value) t.1 usable))
    | inr t ↦ let ne : x ≢ n = t.1 in known.all x value (omega arith) usable
  ];
  sorted = known.sorted;
}

pub known_more : (net : Net) (held : Held) (n : ℕ) (ks : List Known) (k : Known) → AreKnown net held n ks → k.node.0 ≡ n → IsKnown net held k → AreKnown net held (n + 1) (ks ++ k ∷ [])
known_more net held n ks k known number is = record {
  each = λ m j e. elim (stands_either ks (k ∷ []) m j e) [
    | inl front ↦ let old = known.each m j front.1 in (let less : j.node.0 < n = old.0 in omega arith, old.1)
    | inr back ↦ let one : k ≡ j = (only_one k j back.0 back.1.1).1 in subst (λ (z : Known). (z.node.0 < n + 1) × IsKnown net held z) one (omega arith, is)
  ];
  all = λ x value less usable. elim (eqb_tells x n) [
    | inl t ↦ let last = back_stands ks (k ∷ []) 0 k refl in (last.0, (k, (last.1, number ∙ sym t.1)))
    | inr t ↦ let ne : x ≢ n = t.1 in let old = known.all x value (omega arith) usable in (old.0, (old.1.0, (front_stands ks (k ∷ []) old.0 old.1.0 old.1.1.0, old.1.1.1)))
  ];
  sorted = λ l m i j less e f. elim (stands_either ks (k ∷ []) m j f) [
    | inl front ↦ elim (stands_either ks (k ∷ []) l i e) [
      | inl first ↦ known.sorted l m i j less first.1 front.1
      | inr back ↦ let at : l ≡ length ks + back.0 = back.1.0 in let below : m < length ks = front.0 in absurd (omega arith)
    ]
    | inr back ↦
        let one : (back.0 ≡ 0) × (k ≡ j) = only_one k j back.0 back.1.1 in
        elim (stands_either ks (k ∷ []) l i e) [
          | inl first ↦ let below : i.node.0 < n = (known.each l i first.1).0 in let same : j.node.0 ≡ n = ap (λ (z : Known). z.node.0) (sym one.1) ∙ number in omega arith
          | inr other ↦ let at : l ≡ length ks + other.0 = other.1.0 in let at' : m ≡ length ks + back.0 = back.1.0 in let zero' = one.0 in let zero'' = (only_one k i other.0 other.1.1).0 in absurd (omega arith)
        ]
  ];
}
