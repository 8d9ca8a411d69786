-- What holds after each cover: what stands for a name is known and has its value, and observed names are kept.
use Rattle.std.proofs.Common.{◌≡◌, Bool, true, false, cond, List, [], ◌∷◌, ◌++◌, map, fold, Option, Some, None, ◌⊎◌, inl, inr, refl, sym, ap, ◌∙◌, subst, append_assoc, append-nil}
use Rattle.std.specs.Prelude.{All, if◌then◌else◌}
use Rattle.std.proofs.lemmas.Bool.{false_from_ne_true}
use Rattle.std.proofs.lemmas.List.{length-map}
use Rattle.std.proofs.lemmas.Simd.{map-map}
use Rattle.std.specs.Prelude.{length}
use Rattle.rm_model.specs.Words.{is_word}
use Rattle.rm_model.specs.Value.{is_among, observed_names, outputs_of, source_names, value_of}
use Rattle.rm_model.specs.WellFormed.{IsWellFormedCover}
use Rattle.rm_model.specs.declared.parts.Literal.{Literal}
use Rattle.rm_model.specs.declared.parts.Literal.TheVariants.{One}
use Rattle.rm_model.specs.declared.parts.Cover.{Cover}
use Rattle.rm_model.specs.declared.parts.Model.{Model}
use Rattle.rm_model.proofs.Public.{is_word-same, same_word}
use Rattle.cover_decompose.proofs.Public.{among_in, in_among}
use Rattle.rm_base.specs.Members.{In}
use Rattle.rm_base.specs.Words.{Word}
use Rattle.rm_base.proofs.Public.{in_at, in_left, in_map, in_right, map_agree}
use Rattle.cover_sharing.specs.Shared.{Sharing, copy_if_observed, copy_of, nothing_yet, origin, sharing_of, stand_for, standing, with_cover, with_origin}
use Rattle.cover_sharing.proofs.Names.{all-in, in-all, in-outputs, last_output, not-among, outputs-append, outputs-in, outputs-left, outputs-right}
use Rattle.cover_sharing.proofs.Origins.{HoldAll, IsOrigin, copy-value, origin_is}
use Rattle.cover_sharing.proofs.Sound.{IsSound, Known, nothing_kept, sound_with, sound_without}

-- WHAT STANDS FOR A NAME

pub stand-new : (ps : List (Word × Word)) (y x : Word) → stand_for ((y, x) ∷ ps) y ≡ x
stand-new ps y x = rw (is_word-same y) refl

pub stand-old : (ps : List (Word × Word)) (y x z : Word) → (z ≡ y → ⊥) → stand_for ((y, x) ∷ ps) z ≡ stand_for ps z
stand-old ps y x z ne = rw (false_from_ne_true (is_word z y) (λ e. ne (same_word z y e))) refl

-- STATES

-- values of the model's names, and values of what is kept
pub record Alike (m : Model) (done : List Cover) (s : Sharing) (v w : Word → Bool) : Type 0 where
  pub stood : (x : Word) → Known m done x → v x ≡ w (stand_for s.stands x)
  pub own : (y : Word) → In (outputs_of s.kept) y → v y ≡ w y

pub record Stands (m : Model) (done : List Cover) (s : Sharing) : Type 0 where
  pub sound : IsSound m done s.kept
  pub known : (x : Word) → Known m done x → Known m s.kept (stand_for s.stands x)
  pub others : (x : Word) → (In (outputs_of done) x → ⊥) → stand_for s.stands x ≡ x
  pub seen : (x : Word) → In (observed_names m) x → In (outputs_of done) x → In (outputs_of s.kept) x
  pub alike : (v w : Word → Bool) → HoldAll done v → HoldAll s.kept w → ((x : Word) → In (source_names m) x → v x ≡ w x) → Alike m done s v w

-- a cover that may come next
pub record IsNext (m : Model) (done : List Cover) (c : Cover) : Type 0 where
  pub reads : (x : Word) → In c.inputs x → Known m done x
  pub new : In (outputs_of done) c.output → ⊥
  pub no_source : In (source_names m) c.output → ⊥
  pub formed : IsWellFormedCover c

pub nothing_stands : (m : Model) → Stands m [] nothing_yet
nothing_stands m = record {
  sound = nothing_kept m;
  known = λ x h. h;
  others = λ x h. refl;
  seen = λ x o h. h;
  alike = λ v w hv hw sources. record { stood = λ x h. elim h [ inl s ↦ sources x s | inr z ↦ absurd z ]; own = λ y h. absurd h };
}

formed_like : (c d : Cover) → c.rows ≡ d.rows → c.on ≡ d.on → length c.inputs ≡ length d.inputs → IsWellFormedCover c → IsWellFormedCover d
formed_like c d rows on count f = record {
  no_rows = λ e. sym on ∙ f.no_rows (rows ∙ e);
  row_lengths = in-all (λ (r : List Literal). length r ≡ length d.inputs) d.rows (λ r there. all-in (λ (r : List Literal). length r ≡ length c.inputs) c.rows r f.row_lengths (subst (λ (l : List (List Literal)). In l r) (sym rows) there) ∙ count);
}

copy_formed : (x y : Word) → IsWellFormedCover (copy_of x y)
copy_formed x y = record { no_rows = λ e. refl; row_lengths = in-all (λ (r : List Literal). length r ≡ 1) ((One ∷ []) ∷ []) (λ r h. elim h [ inl e ↦ ap (λ (l : List Literal). length l) (sym e) | inr z ↦ absurd z ]) }

module _ (m : Model) (done : List Cover) (s : Sharing) (c : Cover) (h : Stands m done s) (n : IsNext m done c) where
  -- the cover as it stands
  abbrev now : Cover
  now = standing s.stands c

  now_formed : IsWellFormedCover now
  now_formed = formed_like c now refl refl (sym (length-map c.inputs (stand_for s.stands))) n.formed

  now_reads : (x : Word) → In now.inputs x → Known m s.kept x
  now_reads x i = let r = in_map (stand_for s.stands) c.inputs x i in subst (λ (y : Word). Known m s.kept y) r.1.1 (h.known r.0 (n.reads r.0 r.1.0))

  -- which names are known with one more cover
  known_cases : (x : Word) → Known m (done ++ c ∷ []) x → Known m done x ⊎ (c.output ≡ x)
  known_cases x (inl a) = inl (inl a)
  known_cases x (inr b) = elim (last_output done c x b) [ inl o ↦ inl (inr o) | inr e ↦ inr e ]

  known_is_other : (x : Word) → Known m done x → x ≡ c.output → ⊥
  known_is_other x (inl a) e = n.no_source (subst (λ (y : Word). In (source_names m) y) e a)
  known_is_other x (inr b) e = n.new (subst (λ (y : Word). In (outputs_of done) y) e b)

  known_with : (extra : List Cover) (x : Word) → Known m s.kept x → Known m (s.kept ++ extra) x
  known_with extra x (inl a) = inl a
  known_with extra x (inr b) = inr (outputs-left s.kept extra x b)

  -- the values before
  before : (v w : Word → Bool) (extra : List Cover) → HoldAll (done ++ c ∷ []) v → HoldAll (s.kept ++ extra) w → ((x : Word) → In (source_names m) x → v x ≡ w x) → Alike m done s v w
  before v w extra hv hw sources = h.alike v w (λ d i. hv d (in_left done (c ∷ []) d i)) (λ d i. hw d (in_left s.kept extra d i)) sources

  -- the cover's value is that of the cover as it stands
  now_value : (v w : Word → Bool) → HoldAll (done ++ c ∷ []) v → Alike m done s v w → v c.output ≡ value_of now (map w now.inputs)
  now_value v w hv a =
      hv c (in_right done (c ∷ []) c (inl refl))
      ∙ ap (value_of c) (map_agree v (λ x. w (stand_for s.stands x)) c.inputs (λ i x at. a.stood x (n.reads x (in_at c.inputs i x at))) ∙ sym (map-map w (stand_for s.stands) c.inputs))

  -- THE COVER IS KEPT

  kept_alike : (v w : Word → Bool) → HoldAll (done ++ c ∷ []) v → HoldAll (s.kept ++ now ∷ []) w → Alike m done s v w → Alike m (done ++ c ∷ []) (record s { kept = s.kept ++ now ∷ [] }) v w
  kept_alike v w hv hw a =
      let here : v c.output ≡ w c.output = now_value v w hv a ∙ sym (hw now (in_right s.kept (now ∷ []) now (inl refl))) in
      record {
        stood = λ x k. elim (known_cases x k) [
          | inl old ↦ a.stood x old
          | inr e ↦ subst (λ (y : Word). v y ≡ w (stand_for s.stands y)) e (here ∙ ap w (sym (h.others c.output n.new)))
        ];
        own = λ y i. elim (last_output s.kept now y i) [ inl old ↦ a.own y old | inr e ↦ subst (λ (z : Word). v z ≡ w z) e here ];
      }

  kept_stands : Stands m (done ++ c ∷ []) (record s { kept = s.kept ++ now ∷ [] })
  kept_stands = record {
    sound = sound_with m done s.kept h.sound now n.new n.no_source now_reads c refl now_formed;
    known = λ x k. elim (known_cases x k) [
      | inl old ↦ known_with (now ∷ []) (stand_for s.stands x) (h.known x old)
      | inr e ↦ subst (λ (y : Word). Known m (s.kept ++ now ∷ []) (stand_for s.stands y)) e (subst (λ (y : Word). Known m (s.kept ++ now ∷ []) y) (sym (h.others c.output n.new)) (inr (outputs-right s.kept (now ∷ []) c.output (inl refl))))
    ];
    others = λ x ne. h.others x (λ i. ne (outputs-left done (c ∷ []) x i));
    seen = λ x o i. elim (last_output done c x i) [
      | inl old ↦ outputs-left s.kept (now ∷ []) x (h.seen x o old)
      | inr e ↦ outputs-right s.kept (now ∷ []) x (inl e)
    ];
    alike = λ v w hv hw sources. kept_alike v w hv hw (before v w (now ∷ []) hv hw sources);
  }

  -- ANOTHER NAME STANDS FOR ITS OUTPUT

  module _ (x : Word) (o : IsOrigin s.kept now x) where
    origin_known : Known m s.kept x
    origin_known = elim o.known [
      | inl i ↦ now_reads x i
      | inr r ↦ inr (subst (λ (y : Word). In (outputs_of s.kept) y) r.1.1 (in-outputs s.kept r.0 r.1.0))
    ]

    -- with a copy for the output, or nothing more
    module _ (extra : List Cover) (sound : IsSound m (done ++ c ∷ []) (s.kept ++ extra)) (seen : In (observed_names m) c.output → In (outputs_of extra) c.output)
        (copies : (w : Word → Bool) → HoldAll extra w → (y : Word) → In (outputs_of extra) y → (c.output ≡ y) × (w y ≡ w x)) where
      abbrev merged : Sharing
      merged = record { kept = s.kept ++ extra; stands = (c.output, x) ∷ s.stands }

      merged_alike : (v w : Word → Bool) → HoldAll (done ++ c ∷ []) v → HoldAll (s.kept ++ extra) w → Alike m done s v w → Alike m (done ++ c ∷ []) merged v w
      merged_alike v w hv hw a =
          let here : v c.output ≡ w x = now_value v w hv a ∙ sym (o.value w (λ d i. hw d (in_left s.kept extra d i))) in
          record {
            stood = λ z k. elim (known_cases z k) [
              | inl old ↦ a.stood z old ∙ ap w (sym (stand-old s.stands c.output x z (known_is_other z old)))
              | inr e ↦ subst (λ (y : Word). v y ≡ w (stand_for merged.stands y)) e (here ∙ ap w (sym (stand-new s.stands c.output x)))
            ];
            own = λ y i. elim (outputs-in s.kept extra y i) [
              | inl old ↦ a.own y old
              | inr new ↦ let r = copies w (λ d j. hw d (in_right s.kept extra d j)) y new in ap v (sym r.0) ∙ (here ∙ sym r.1)
            ];
          }

      merged_stands : Stands m (done ++ c ∷ []) merged
      merged_stands = record {
        sound = sound;
        known = λ z k. elim (known_cases z k) [
          | inl old ↦ subst (λ (y : Word). Known m (s.kept ++ extra) y) (sym (stand-old s.stands c.output x z (known_is_other z old))) (known_with extra (stand_for s.stands z) (h.known z old))
          | inr e ↦ subst (λ (y : Word). Known m (s.kept ++ extra) (stand_for merged.stands y)) e (subst (λ (y : Word). Known m (s.kept ++ extra) y) (sym (stand-new s.stands c.output x)) (known_with extra x origin_known))
        ];
        others = λ z ne. (
            let apart : z ≡ c.output → ⊥ = λ e. ne (outputs-right done (c ∷ []) z (inl (sym e))) in
            stand-old s.stands c.output x z apart ∙ h.others z (λ i. ne (outputs-left done (c ∷ []) z i)));
        seen = λ z see i. elim (last_output done c z i) [
          | inl old ↦ outputs-left s.kept extra z (h.seen z see old)
          | inr e ↦ outputs-right s.kept extra z (subst (λ (y : Word). In (outputs_of extra) y) e (seen (subst (λ (y : Word). In (observed_names m) y) (sym e) see)))
        ];
        alike = λ v w hv hw sources. merged_alike v w hv hw (before v w extra hv hw sources);
      }

    copy_alike : (w : Word → Bool) → HoldAll (copy_of x c.output ∷ []) w → (y : Word) → In (outputs_of (copy_of x c.output ∷ [])) y → (c.output ≡ y) × (w y ≡ w x)
    copy_alike w hw y (inl e) = (e, ap w (sym e) ∙ (hw (copy_of x c.output) (inl refl) ∙ copy-value w x c.output))
    copy_alike w hw y (inr z) = absurd z

    copy_reads : (z : Word) → In (copy_of x c.output).inputs z → Known m s.kept z
    copy_reads z (inl e) = subst (λ (y : Word). Known m s.kept y) e origin_known
    copy_reads z (inr i) = absurd i

    origin_stands : Stands m (done ++ c ∷ []) (with_origin (observed_names m) s now (Some x))
    origin_stands = go (is_among (observed_names m) c.output) refl
      where
        go : (b : Bool) → is_among (observed_names m) c.output ≡ b → Stands m (done ++ c ∷ []) (record { kept = s.kept ++ (if b then copy_of x c.output ∷ [] else []); stands = (c.output, x) ∷ s.stands })
        go true e =
            merged_stands (copy_of x c.output ∷ [])
            (sound_with m done s.kept h.sound (copy_of x c.output) n.new n.no_source copy_reads c refl (copy_formed x c.output))
            (λ see. inl refl) copy_alike
        go false e =
            merged_stands []
            (subst (λ (l : List Cover). IsSound m (done ++ c ∷ []) l) (sym (append-nil s.kept)) (sound_without m done s.kept c h.sound))
            (λ see. absurd (let there : is_among (observed_names m) c.output ≡ true = among_in (observed_names m) c.output see in let bad : true ≡ false = sym there ∙ e in cc))
            (λ w hw y i. absurd i)

  pub step_stands : Stands m (done ++ c ∷ []) (with_cover (observed_names m) s c)
  step_stands = go (origin s.kept now) refl
    where
      go : (o : Option Word) → origin s.kept now ≡ o → Stands m (done ++ c ∷ []) (with_origin (observed_names m) s now o)
      go None e = kept_stands
      go (Some x) e = origin_stands x (origin_is s.kept now x e)

-- ALL COVERS

-- each may come next
abbrev pub AreNext : Model → List Cover → List Cover → Type 0
AreNext m done [] = Unit {0}
AreNext m done (c ∷ rest) = IsNext m done c × AreNext m (done ++ c ∷ []) rest

steps_stand : (m : Model) (done rest : List Cover) (s : Sharing) → Stands m done s → AreNext m done rest → Stands m (done ++ rest) (fold (with_cover (observed_names m)) s rest)
steps_stand m done [] s h n = subst (λ (l : List Cover). Stands m l s) (sym (append-nil done)) h
steps_stand m done (c ∷ rest) s h n =
    subst (λ (l : List Cover). Stands m l (fold (with_cover (observed_names m)) s (c ∷ rest))) (append_assoc done (c ∷ []) rest)
    (steps_stand m (done ++ c ∷ []) rest (with_cover (observed_names m) s c) (step_stands m done s c h n.0) n.1)

pub all_stand : (m : Model) (cs : List Cover) → AreNext m [] cs → Stands m cs (sharing_of (observed_names m) cs)
all_stand m cs n = steps_stand m [] cs nothing_yet (nothing_stands m) n
