-- Covers each of which reads what is there before it.
use Rattle.std.proofs.Common.{◌≡◌, ℕ, zero, suc, List, [], ◌∷◌, ◌++◌, take, refl, sym, subst, append_assoc, append-nil, inl, inr}
use Rattle.std.specs.Prelude.{Some, slice_get}
use Rattle.rm_base.proofs.Public.{in_append, in_left}
use Rattle.rm_base.specs.Members.{In}
use Rattle.rm_base.specs.Words.{Word}
use Rattle.rm_model.specs.Value.{outputs_of}
use Rattle.rm_model.specs.declared.parts.Cover.{Cover}
use Rattle.window_cut.specs.Inner.Reading.{Reading}
use Rattle.window_cut.specs.Windows.{read_names}

pub reading_append : (there : List Word) (cs ds : List Cover) → Reading there cs → Reading (there ++ outputs_of cs) ds → Reading there (cs ++ ds)
reading_append there [] ds r s = subst (λ (l : List Word). Reading l ds) (append-nil there) s
reading_append there (c ∷ cs) ds r s = (r.0, reading_append (there ++ c.output ∷ []) cs ds r.1 (subst (λ (l : List Word). Reading l ds) (sym (append_assoc there (c.output ∷ []) (outputs_of cs))) s))

pub reading_parts : (there : List Word) (cs ds : List Cover) → Reading there (cs ++ ds) → Reading there cs × Reading (there ++ outputs_of cs) ds
reading_parts there [] ds r = (tt, subst (λ (l : List Word). Reading l ds) (sym (append-nil there)) r)
reading_parts there (c ∷ cs) ds r =
    let p = reading_parts (there ++ c.output ∷ []) cs ds r.1 in
    ((r.0, p.0), subst (λ (l : List Word). Reading l ds) (append_assoc there (c.output ∷ []) (outputs_of cs)) p.1)

pub before_reading : (there : List Word) (cs : List Cover) (k : ℕ) (c : Cover) (x : Word) → Reading there cs → slice_get cs k ≡ Some c → In c.inputs x → In (there ++ outputs_of (take k cs)) x
before_reading there [] k c x r e i = absurd cc
before_reading there (d ∷ cs) zero c x r e i = let is : c ≡ d = cc in in_left there [] x (r.0 x (subst (λ (b : Cover). In b.inputs x) is i))
before_reading there (d ∷ cs) (suc k) c x r e i = subst (λ (l : List Word). In l x) (append_assoc there (d.output ∷ []) (outputs_of (take k cs))) (before_reading (there ++ d.output ∷ []) cs k c x r.1 e i)

pub reading_before : (there : List Word) (cs : List Cover) → ((k : ℕ) (c : Cover) (x : Word) → slice_get cs k ≡ Some c → In c.inputs x → In (there ++ outputs_of (take k cs)) x) → Reading there cs
reading_before there [] h = tt
reading_before there (d ∷ cs) h = (
  (λ x i. subst (λ (l : List Word). In l x) (append-nil there) (h 0 d x refl i)),
  reading_before (there ++ d.output ∷ []) cs (λ k c x e i. subst (λ (l : List Word). In l x) (sym (append_assoc there (d.output ∷ []) (outputs_of (take k cs)))) (h (suc k) c x e i)),
)

-- what covers read is there, or one of them gives it
pub reading_within : (there : List Word) (cs : List Cover) (x : Word) → Reading there cs → In (read_names cs) x → In (there ++ outputs_of cs) x
reading_within there [] x r i = absurd i
reading_within there (c ∷ cs) x r i = elim (in_append c.inputs (read_names cs) x i) [
  | inl a ↦ in_left there (c.output ∷ outputs_of cs) x (r.0 x a)
  | inr b ↦ subst (λ (l : List Word). In l x) (append_assoc there (c.output ∷ []) (outputs_of cs)) (reading_within (there ++ c.output ∷ []) cs x r.1 b)
]
