-- What one more cover leaves in the covers that are kept and in the table of what stands for names.
use Rattle.std.proofs.Common.{◌≡◌, ◌<◌, ◌≤◌, ◌+◌, ℕ, zero, suc, Bool, true, false, cond, not, ◌||◌, List, [], ◌∷◌, ◌++◌, map, length, take, filter_map, fold, replicate, Option, Some, None, inl, inr, refl, sym, ap, ◌∙◌, subst, option_to_list, append-nil, arith}
use Rattle.std.specs.Prelude.{if◌then◌else◌, slice_get, slice_index, slice_index_or, slice_set, get_or}
use Rattle.std.specs.List.{cons_option}
use Rattle.std.specs.Option.{option_map}
use Rattle.std.proofs.lemmas.Bool.{and_parts, false_from_ne_true}
use Rattle.std.proofs.lemmas.List.Elements.{filter_map-append}
use Rattle.std.proofs.lemmas.List.Sums.{fold-append}
use Rattle.rm_model.specs.Numbers.{place_of}
use Rattle.rm_model.specs.Ranks.{cover_of}
use Rattle.rm_model.specs.Words.{is_word}
use Rattle.rm_model.specs.Value.{is_among, outputs_of}
use Rattle.rm_model.specs.WellFormed.{is_distinct}
use Rattle.rm_model.specs.declared.parts.Cover.{Cover}
use Rattle.rm_model.proofs.Public.{among-at, drives-of, drives-own, is_word-same, output-at, same_word}
use Rattle.rm_base.specs.Words.{Word}
use Rattle.rm_base.proofs.Public.{map_pointwise, not_excludes, read_stands, take_one_more}
use Rattle.window_cut.specs.Order.{covers_at}
use Rattle.cover_sharing.specs.Inner.Standing.{IsShown, stand_at, stand_by}
use Rattle.cover_sharing.specs.Shared.{Sharing, copy_if_observed, copy_of, nothing_yet, origin, sharing_of, stand_for, standing, with_cover, with_origin}

-- PLACES OF OUTPUTS

place_of-cover : (cs : List Cover) (x : Word) → place_of (outputs_of cs) x ≡ cover_of cs x
place_of-cover [] x = refl
place_of-cover (c ∷ cs) x = ap (λ (o : Option ℕ). if is_word x c.output then Some 0 else option_map (λ k. suc k) o) (place_of-cover cs x)

-- an output isn't among those before it
pub new_output : (cs : List Cover) (i : ℕ) (c : Cover) → is_distinct (outputs_of cs) ≡ true → slice_get cs i ≡ Some c → is_among (outputs_of (take i cs)) c.output ≡ false
new_output [] i c once e = absurd cc
new_output (d ∷ cs) zero c once e = refl
new_output (d ∷ cs) (suc i) c once e =
    let parts = and_parts (not (is_among (outputs_of cs) d.output)) (is_distinct (outputs_of cs)) once in
    let other : is_word c.output d.output ≡ false = false_from_ne_true (is_word c.output d.output) (λ same.
    let there : is_among (outputs_of cs) c.output ≡ true = among-at (outputs_of cs) i c.output (output-at cs i c e) in
    not_excludes (is_among (outputs_of cs) d.output) parts.0 (subst (λ (x : Word). is_among (outputs_of cs) x ≡ true) (same_word c.output d.output same) there)) in
    rw (other, new_output cs i c parts.1 e) refl

pub place_own : (cs : List Cover) (k : ℕ) (c : Cover) → is_distinct (outputs_of cs) ≡ true → slice_get cs k ≡ Some c → place_of (outputs_of cs) c.output ≡ Some k
place_own cs k c once e = place_of-cover cs c.output ∙ drives-own cs k c once e

pub place_only : (cs : List Cover) (k : ℕ) (c : Cover) (x : Word) → slice_get cs k ≡ Some c → place_of (outputs_of cs) x ≡ Some k → x ≡ c.output
place_only cs k c x e at =
    let d = drives-of cs x k (sym (place_of-cover cs x) ∙ at) in
    let is : d.cover ≡ c = (let there : slice_get cs k ≡ Some d.cover = d.there in cc) in
    d.drives ∙ ap (λ (b : Cover). b.output) is

-- THE TABLE

index_other : {A : Type 0} (xs : List A) (p k : ℕ) (a d : A) → (k ≡ p → ⊥) → slice_index_or (slice_set xs p a) k d ≡ slice_index_or xs k d
index_other [] p k a d ne = refl
index_other (x ∷ xs) zero zero a d ne = absurd (ne refl)
index_other (x ∷ xs) zero (suc k) a d ne = refl
index_other (x ∷ xs) (suc p) zero a d ne = refl
index_other (x ∷ xs) (suc p) (suc k) a d ne = index_other xs p k a d (λ e. ne (ap suc e))

index_own : {A : Type 0} (xs : List A) (p : ℕ) (a d : A) → p < length xs → slice_index_or (slice_set xs p a) p d ≡ a
index_own [] p a d lt = absurd (omega (arith, lt))
index_own (x ∷ xs) zero a d lt = refl
index_own (x ∷ xs) (suc p) a d lt = index_own xs p a d (omega (arith, lt))

abbrev nothing : ℕ → List (Option Word)
nothing n = replicate n None

-- nothing stands for any name
none_stand : (n k : ℕ) → slice_index_or (nothing n) k None ≡ None
none_stand zero k = refl
none_stand (suc n) zero = refl
none_stand (suc n) (suc k) = none_stand n k

pub nothing_shown : (outputs : List Word) (n : ℕ) (kept : List Cover) (table : List (Option Word)) → kept ≡ [] → table ≡ replicate n None → IsShown outputs nothing_yet kept table
nothing_shown outputs n kept table e f = record { kept_is = e; stand_is = λ x. subst (λ (t : List (Option Word)). x ≡ stand_by outputs t x) (sym f) (go x (place_of outputs x)) }
  where
    go : (x : Word) (o : Option ℕ) → x ≡ stand_at (replicate n None) o x
    go x None = refl
    go x (Some k) = rw (none_stand n k) refl

-- another name stands for the output at a place
table_with : (outputs : List Word) (ps : List (Word × Word)) (table : List (Option Word)) (y x : Word) (p : ℕ) → place_of outputs y ≡ Some p → ((z : Word) → place_of outputs z ≡ Some p → z ≡ y) → p < length table
    → ((z : Word) → stand_for ps z ≡ stand_by outputs table z) → (z : Word) → stand_for ((y, x) ∷ ps) z ≡ stand_by outputs (slice_set table p (Some x)) z
table_with outputs ps table y x p own only lt was z = go (is_word z y) refl
  where
    at_other : (o : Option ℕ) → place_of outputs z ≡ o → (z ≡ y → ⊥) → stand_at table o z ≡ stand_at (slice_set table p (Some x)) o z
    at_other None e ne = refl
    at_other (Some k) e ne = rw (index_other table p k (Some x) None (λ is. ne (only z (e ∙ ap (λ (n : ℕ). Some n) is)))) refl

    at_own : stand_at (slice_set table p (Some x)) (Some p) y ≡ x
    at_own = rw (index_own table p (Some x) None lt) refl

    go : (b : Bool) → is_word z y ≡ b → (if b then x else stand_for ps z) ≡ stand_by outputs (slice_set table p (Some x)) z
    go true e =
        let is : z ≡ y = same_word z y e in
        subst (λ (w : Word). x ≡ stand_by outputs (slice_set table p (Some x)) w) (sym is)
        (sym (ap (λ (o : Option ℕ). stand_at (slice_set table p (Some x)) o y) own ∙ at_own))
    go false e = was z ∙ at_other (place_of outputs z) refl (λ is. let bad : is_word z y ≡ true = subst (λ (w : Word). is_word z w ≡ true) is (is_word-same z) in let worse : true ≡ false = sym bad ∙ e in cc)

-- ONE MORE COVER

abbrev pub made_of : List Word → List (Option Word) → Cover → Cover
made_of outputs table c = record c { inputs = map (stand_by outputs table) c.inputs }

module _ (outputs seen : List Word) (s : Sharing) (kept : List Cover) (table : List (Option Word)) (c d : Cover) (shown : IsShown outputs s kept table) (made : d ≡ made_of outputs table c) where
  standing_is : standing s.stands c ≡ d
  standing_is = ap (λ (xs : List Word). record c { inputs = xs }) (map_pointwise (stand_for s.stands) (stand_by outputs table) shown.stand_is c.inputs) ∙ sym made

  next_is : (o : Option Word) → o ≡ origin kept d → with_cover seen s c ≡ with_origin seen s d o
  next_is o e =
      ap (λ (b : Cover). with_origin seen s b (origin s.kept b)) standing_is
      ∙ ap (with_origin seen s d) (ap (λ (l : List Cover). origin l d) (sym shown.kept_is) ∙ sym e)

  pub shown_kept : (kept2 : List Cover) → None ≡ origin kept d → kept2 ≡ kept ++ d ∷ [] → IsShown outputs (with_cover seen s c) kept2 table
  shown_kept kept2 none more = subst (λ (t : Sharing). IsShown outputs t kept2 table) (sym (next_is None none)) (record { kept_is = more ∙ ap (λ (l : List Cover). l ++ d ∷ []) shown.kept_is; stand_is = shown.stand_is })

  pub shown_merged : (kept2 : List Cover) (table2 : List (Option Word)) (x : Word) (p : ℕ) → Some x ≡ origin kept d → kept2 ≡ kept ++ copy_if_observed seen x c.output → table2 ≡ slice_set table p (Some x)
      → place_of outputs c.output ≡ Some p → ((z : Word) → place_of outputs z ≡ Some p → z ≡ c.output) → p < length table → IsShown outputs (with_cover seen s c) kept2 table2
  shown_merged kept2 table2 x p some more put own only lt =
      let output : d.output ≡ c.output = ap (λ (b : Cover). b.output) made in
      subst (λ (t : Sharing). IsShown outputs t kept2 table2) (sym (next_is (Some x) some)) (record {
        kept_is = more ∙ (ap (λ (l : List Cover). l ++ copy_if_observed seen x c.output) shown.kept_is ∙ ap (λ (y : Word). s.kept ++ copy_if_observed seen x y) (sym output));
        stand_is = λ z.
            ap (λ (y : Word). stand_for ((y, x) ∷ s.stands) z) output
            ∙ (table_with outputs s.stands table c.output x p own only lt shown.stand_is z
            ∙ ap (λ (t : List (Option Word)). stand_by outputs t z) (sym put));
      })

-- COVERS AT PLACES

pub none_taken : (seen : List Word) (s : Sharing) (o : Option Cover) → None ≡ o → fold (with_cover seen) s (option_to_list o) ≡ s
none_taken seen s None e = refl
none_taken seen s (Some c) e = absurd cc

pub some_taken : (seen : List Word) (s : Sharing) (c : Cover) (o : Option Cover) → Some c ≡ o → fold (with_cover seen) s (option_to_list o) ≡ with_cover seen s c
some_taken seen s c None e = absurd cc
some_taken seen s c (Some d) e = let is : c ≡ d = cc in ap (with_cover seen s) (sym is)

one_cover : (o : Option Cover) → cons_option o [] ≡ option_to_list o
one_cover None = refl
one_cover (Some c) = refl

same_read : (ks : List ℕ) (i : ℕ) → i < length ks → slice_index ks i ≡ get_or ks i (slice_index ks i)
same_read [] i lt = absurd (omega arith)
same_read (k ∷ ks) zero lt = refl
same_read (k ∷ ks) (suc i) lt = same_read ks i (omega arith)

pub fold-next : (seen : List Word) (s : Sharing) (cs : List Cover) (ks : List ℕ) (i : ℕ) → i < length ks
    → fold (with_cover seen) s (covers_at cs (take (i + 1) ks)) ≡ fold (with_cover seen) (fold (with_cover seen) s (covers_at cs (take i ks))) (option_to_list (slice_get cs (slice_index ks i)))
fold-next seen s cs ks i lt =
    let k : ℕ = slice_index ks i in
    ap (λ (l : List ℕ). fold (with_cover seen) s (covers_at cs l)) (take_one_more ks i k (read_stands ks i k lt (same_read ks i lt)))
    ∙ (ap (fold (with_cover seen) s) (filter_map-append (slice_get cs) (take i ks) (k ∷ []) ∙ ap (λ (l : List Cover). covers_at cs (take i ks) ++ l) (one_cover (slice_get cs k)))
    ∙ fold-append (with_cover seen) s (covers_at cs (take i ks)) (option_to_list (slice_get cs k)))

-- OBSERVED NAMES

-- only which names are observed counts
with_cover-same : (seen other : List Word) → ((x : Word) → is_among seen x ≡ is_among other x) → (s : Sharing) (c : Cover) → with_cover seen s c ≡ with_cover other s c
with_cover-same seen other same s c = go (origin s.kept (standing s.stands c))
  where
    go : (o : Option Word) → with_origin seen s (standing s.stands c) o ≡ with_origin other s (standing s.stands c) o
    go None = refl
    go (Some x) = ap (λ (b : Bool). record { kept = s.kept ++ (if b then copy_of x c.output ∷ [] else []); stands = (c.output, x) ∷ s.stands }) (same c.output)

pub fold-same : (seen other : List Word) → ((x : Word) → is_among seen x ≡ is_among other x) → (s : Sharing) (cs : List Cover) → fold (with_cover seen) s cs ≡ fold (with_cover other) s cs
fold-same seen other same s [] = refl
fold-same seen other same s (c ∷ cs) = ap (λ (t : Sharing). fold (with_cover seen) t cs) (with_cover-same seen other same s c) ∙ fold-same seen other same (with_cover other s c) cs

pub take_all : {A : Type 0} (xs : List A) (n : ℕ) → length xs ≤ n → take n xs ≡ xs
take_all [] zero le = refl
take_all [] (suc n) le = refl
take_all (x ∷ xs) zero le = absurd (omega (arith, le))
take_all {A = A} (x ∷ xs) (suc n) le = ap (λ (l : List A). x ∷ l) (take_all xs n (omega (arith, le)))

-- the covers that are kept, after all
pub all_shared : (outputs names seen : List Word) (cs : List Cover) (kept : List Cover) (table : List (Option Word)) → ((x : Word) → is_among seen x ≡ is_among names x) → IsShown outputs (fold (with_cover seen) nothing_yet cs) kept table → kept ≡ (sharing_of names cs).kept
all_shared outputs names seen cs kept table same shown = shown.kept_is ∙ ap (λ (s : Sharing). s.kept) (fold-same seen names same nothing_yet cs)
