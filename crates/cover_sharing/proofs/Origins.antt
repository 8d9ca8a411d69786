-- What an origin is: it is known, and has the cover's value.
use Rattle.std.proofs.Common.{◌≡◌, Bool, true, false, cond, ◌&&◌, List, [], ◌∷◌, map, Option, Some, None, ◌⊎◌, inl, inr, refl, sym, ap, ◌∙◌, subst}
use Rattle.std.specs.Bool.{beq}
use Rattle.std.specs.Cmp.{booleans_Decides}
use Rattle.std.specs.Cmp.Lexicographic.{pointwise, pointwise_decides}
use Rattle.std.proofs.lemmas.Bool.{and_parts}
use Rattle.std.proofs.lemmas.Slice.Eq.{bytes_eq-Decides}
use Rattle.rm_model.specs.Words.{is_word}
use Rattle.rm_model.specs.Value.{value_of, value_of_rows}
use Rattle.rm_model.specs.declared.parts.Literal.{Literal}
use Rattle.rm_model.specs.declared.parts.Literal.TheVariants.{Zero, One, Any}
use Rattle.rm_model.specs.declared.parts.Cover.{Cover}
use Rattle.rm_base.specs.Members.{In}
use Rattle.rm_base.specs.Words.{Word}
use Rattle.cover_sharing.specs.Shared.{copied, copied_by, copied_of, copy_of, first_same, is_same, is_same_literal, origin, origin_by}

-- COPIES

-- a copy's value is that of the name that it copies
copied-value : (w : Word → Bool) (x : Word) → value_of_rows ((One ∷ []) ∷ []) true (w x ∷ []) ≡ w x
copied-value w x = go (w x)
  where
    go : (b : Bool) → value_of_rows ((One ∷ []) ∷ []) true (b ∷ []) ≡ b
    go true = refl
    go false = refl

pub copy-value : (w : Word → Bool) (x y : Word) → value_of (copy_of x y) (map w (copy_of x y).inputs) ≡ w x
copy-value w x y = copied-value w x

-- what stands where a name is copied
record IsCopied (xs : List Word) (on : Bool) (rows : List (List Literal)) (x : Word) : Type 0 where
  reads : In xs x
  value : (w : Word → Bool) → value_of_rows rows on (map w xs) ≡ w x

copied_row : (xs : List Word) (r : List Literal) (x : Word) → copied_by xs r ≡ Some x → IsCopied xs true (r ∷ []) x
copied_row [] r x e = absurd cc
copied_row (y ∷ []) [] x e = absurd cc
copied_row (y ∷ []) (Zero ∷ ls) x e = absurd cc
copied_row (y ∷ []) (Any ∷ ls) x e = absurd cc
copied_row (y ∷ []) (One ∷ []) x e = let is : y ≡ x = cc in record { reads = inl is; value = λ w. copied-value w y ∙ ap w is }
copied_row (y ∷ []) (One ∷ l ∷ ls) x e = absurd cc
copied_row (y ∷ z ∷ ys) r x e = absurd cc

copied_rows : (xs : List Word) (on : Bool) (rows : List (List Literal)) (x : Word) → copied_of xs on rows ≡ Some x → IsCopied xs on rows x
copied_rows xs false rows x e = absurd cc
copied_rows xs true [] x e = absurd cc
copied_rows xs true (r ∷ []) x e = copied_row xs r x e
copied_rows xs true (r ∷ s ∷ rows) x e = absurd cc

-- EQUAL COVERS

pub literals-decide : (a b : Literal) → (is_same_literal a b ≡ true → a ≡ b) × (a ≡ b → is_same_literal a b ≡ true)
literals-decide Zero Zero = (λ e. refl, λ e. refl)
literals-decide Zero One = (λ e. absurd cc, λ e. subst (λ (l : Literal). is_same_literal Zero l ≡ true) e refl)
literals-decide Zero Any = (λ e. absurd cc, λ e. subst (λ (l : Literal). is_same_literal Zero l ≡ true) e refl)
literals-decide One Zero = (λ e. absurd cc, λ e. subst (λ (l : Literal). is_same_literal One l ≡ true) e refl)
literals-decide One One = (λ e. refl, λ e. refl)
literals-decide One Any = (λ e. absurd cc, λ e. subst (λ (l : Literal). is_same_literal One l ≡ true) e refl)
literals-decide Any Zero = (λ e. absurd cc, λ e. subst (λ (l : Literal). is_same_literal Any l ≡ true) e refl)
literals-decide Any One = (λ e. absurd cc, λ e. subst (λ (l : Literal). is_same_literal Any l ≡ true) e refl)
literals-decide Any Any = (λ e. refl, λ e. refl)

-- all but the outputs are equal
pub record AreSame (c d : Cover) : Type 0 where
  pub inputs : c.inputs ≡ d.inputs
  pub on : c.on ≡ d.on
  pub rows : c.rows ≡ d.rows

pub same_are : (c d : Cover) → is_same c d ≡ true → AreSame c d
same_are c d e =
    let rows_test : Bool = pointwise (pointwise is_same_literal) c.rows d.rows in
    let first = and_parts (pointwise is_word c.inputs d.inputs) (beq c.on d.on && rows_test) e in
    let second = and_parts (beq c.on d.on) rows_test first.1 in
    record {
      inputs = (pointwise_decides (λ (x y : Word). bytes_eq-Decides x y) c.inputs d.inputs).0 first.0;
      on = (booleans_Decides c.on d.on).0 second.0;
      rows = (pointwise_decides (pointwise_decides literals-decide) c.rows d.rows).0 second.1;
    }

-- the first cover that is the same
pub record IsFound (kept : List Cover) (d : Cover) (x : Word) : Type 0 where
  pub cover : Cover
  pub there : In kept cover
  pub output : cover.output ≡ x
  pub same : AreSame cover d

found : (kept : List Cover) (d : Cover) (x : Word) → first_same kept d ≡ Some x → IsFound kept d x
found [] d x e = absurd cc
found (c ∷ cs) d x e = go (is_same c d) refl e (found cs d x)
  where
    go : (b : Bool) → is_same c d ≡ b → cond b (Some c.output) (first_same cs d) ≡ Some x → (first_same cs d ≡ Some x → IsFound cs d x) → IsFound (c ∷ cs) d x
    go true t f rest = record { cover = c; there = inl refl; output = cc; same = same_are c d t }
    go false t f rest = let r = rest f in record { cover = r.cover; there = inr r.there; output = r.output; same = r.same }

-- ORIGINS

-- the covers hold of these values
abbrev pub HoldAll : List Cover → (Word → Bool) → Type 0
HoldAll cs v = (c : Cover) → In cs c → v c.output ≡ value_of c (map v c.inputs)

pub record IsOrigin (kept : List Cover) (d : Cover) (x : Word) : Type 0 where
  pub known : In d.inputs x ⊎ ((c : Cover) × (In kept c × (c.output ≡ x)))
  pub value : (w : Word → Bool) → HoldAll kept w → w x ≡ value_of d (map w d.inputs)

same-value : (w : Word → Bool) (c d : Cover) → AreSame c d → value_of c (map w c.inputs) ≡ value_of d (map w d.inputs)
same-value w c d s =
    ap (λ (rows : List (List Literal)). value_of_rows rows c.on (map w c.inputs)) s.rows
    ∙ (ap (λ (on : Bool). value_of_rows d.rows on (map w c.inputs)) s.on
    ∙ ap (λ (xs : List Word). value_of_rows d.rows d.on (map w xs)) s.inputs)

pub origin_is : (kept : List Cover) (d : Cover) (x : Word) → origin kept d ≡ Some x → IsOrigin kept d x
origin_is kept d x e = go (copied d) refl e
  where
    go : (o : Option Word) → copied d ≡ o → origin_by o kept d ≡ Some x → IsOrigin kept d x
    go (Some y) is f =
        let c : IsCopied d.inputs d.on d.rows x = copied_rows d.inputs d.on d.rows x (is ∙ f) in
        record { known = inl c.reads; value = λ w h. sym (c.value w) }
    go None is f =
        let r : IsFound kept d x = found kept d x f in
        record {
          known = inr (r.cover, (r.there, r.output));
          value = λ w h. ap w (sym r.output) ∙ (h r.cover r.there ∙ same-value w r.cover d r.same);
        }
