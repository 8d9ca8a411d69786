use Rattle.std.proofs.Common.{◌≡◌, ◌++◌, ◌∷◌, [], ℕ, true, false, length, List, refl, ap, sym, ◌∙◌, arith}
use Rattle.std.specs.Prelude.{is_some}
use Rattle.rm_model.specs.Numbers.{place_of}
use Rattle.rm_model.specs.declared.parts.Cover.{Cover}
use Rattle.cover_sharing.specs.Inner.Placed.{at_bytes, encodings}
use Rattle.cover_sharing.specs.declared.kept_covers.KeptCovers.TheInside.{Inside}
use Rattle.cover_sharing.proofs.Encodings.{placed-again, placed-new}
use Rattle.cover_sharing.proofs.kept_covers.KeptCovers.push.Goals as goal
use Rattle.cover_sharing.proofs.kept_covers.KeptCovers.push.Goals.{then-not-contains_key+in_ok-insert, else-not-contains_key}

pub invariant_of-self-2 : goal.invariant_of-self-2
invariant_of-self-2 c =
    let had : c.contains_key.result ≡ is_some (at_bytes c.self.inside.places c.args.bytes.items) = c.contains_key.ensures ∙ ap (λ (q : List ℕ). is_some (at_bytes c.self.inside.places q)) c.as_slice.ensures.value in
    let items : (i : Inside) → c.if-not-contains_key.self-inside ≡ i → i.covers.items ≡ c.reserve.new.self.items → c.push.new.self.items ≡ c.self.inside.covers.items ++ c.args.cover ∷ [] =
    λ i e f. c.in_ok-push.ensures.items ∙ (ap (λ (j : Inside). j.covers.items ++ c.args.cover ∷ []) e ∙ ap (λ (l : List Cover). l ++ c.args.cover ∷ []) (f ∙ c.reserve.ensures.items)) in
    record {
      at = λ q. elim c.if-not-contains_key.branch [
        | then-not-contains_key+in_ok-insert w ↦
            ap (λ (i : Inside). at_bytes i.places q) w.self-inside-is
            ∙ (placed-new c.self.inside.places w.insert.new.self c.self.inside.covers.items c.args.cover c.args.bytes.items w.len.result c.self.invariant.at c.requires
            (sym had ∙ w.if-not-contains_key.true) (omega (arith, w.len.ensures, c.reserve.ensures.len, c.self.inside.covers.ok.0)) w.in_ok-insert.ensures.updates q
            ∙ ap (λ (l : List Cover). place_of (encodings l) q) (sym (items _ w.self-inside-is refl)))
        | else-not-contains_key w ↦
            ap (λ (i : Inside). at_bytes i.places q) w.self-inside-is
            ∙ (placed-again c.self.inside.places c.self.inside.covers.items c.args.cover c.args.bytes.items c.self.invariant.at c.requires
            (sym had ∙ w.if-not-contains_key.false) q
            ∙ ap (λ (l : List Cover). place_of (encodings l) q) (sym (items _ w.self-inside-is refl)))
      ];
    }
