-- Covers that are kept: each reads sources and outputs of kept covers, each output stands once, and they are ranked.
use Rattle.std.proofs.Common.{◌≡◌, ◌<◌, ℕ, Bool, true, false, List, [], ◌∷◌, ◌++◌, ◌⊎◌, inl, inr, refl, sym, ap, ◌∙◌, subst, arith}
use Rattle.std.specs.Prelude.{All, if◌then◌else◌}
use Rattle.std.proofs.lemmas.Bool.{false_from_ne_true}
use Rattle.rm_model.specs.Words.{is_word}
use Rattle.rm_model.specs.Value.{IsRanked, is_cover_output, outputs_of, source_names}
use Rattle.rm_model.specs.WellFormed.{is_distinct, IsWellFormedCover}
use Rattle.rm_model.specs.Inner.Value.{rank_bound}
use Rattle.rm_model.specs.declared.parts.Cover.{Cover}
use Rattle.rm_model.specs.declared.parts.Model.{Model}
use Rattle.rm_model.proofs.Public.{below-high, is_word-same, same_word}
use Rattle.rm_base.specs.Members.{In}
use Rattle.rm_base.specs.Words.{Word}
use Rattle.rm_base.proofs.Public.{in_any, in_append, in_map, place_of_member}
use Rattle.cover_sharing.proofs.Names.{distinct-join, in-all, in-outputs, last_output, outputs-append, outputs-left, outputs-right}

-- a source, or an output of one of these covers
abbrev pub Known : Model → List Cover → Word → Type 0
Known m cs x = In (source_names m) x ⊎ In (outputs_of cs) x

-- each cover has a greater number than the covers of the list that it reads
abbrev pub AreRankedBy : List Cover → (Word → ℕ) → Type 0
AreRankedBy cs r = (c : Cover) (x : Word) → In cs c → In c.inputs x → In (outputs_of cs) x → r x < r c.output

any-output : (m : Model) (x : Word) → is_cover_output m x ≡ true → In (outputs_of m.covers) x
any-output m x e =
    let r : (c : Cover) × (In m.covers c × (is_word x c.output ≡ true)) = in_any (λ (c : Cover). is_word x c.output) m.covers e in
    subst (λ (y : Word). In (outputs_of m.covers) y) (sym (same_word x r.0.output r.1.1)) (in-outputs m.covers r.0 r.1.0)

pub by-ranks : (m : Model) (r : Word → ℕ) → AreRankedBy m.covers r → IsRanked m
by-ranks m r h = (
  r,
  in-all (λ (c : Cover). All (λ x. is_cover_output m x ≡ true → r x < r c.output) c.inputs) m.covers (λ c there.
      in-all (λ (x : Word). is_cover_output m x ≡ true → r x < r c.output) c.inputs (λ x at driven. h c x there at (any-output m x driven))),
)

-- the covers `kept` after those of `done`
pub record IsSound (m : Model) (done kept : List Cover) : Type 0 where
  pub within : (y : Word) → In (outputs_of kept) y → In (outputs_of done) y
  pub once : is_distinct (outputs_of kept) ≡ true
  pub reads : (c : Cover) (x : Word) → In kept c → In c.inputs x → Known m kept x
  pub formed : (c : Cover) → In kept c → IsWellFormedCover c
  pub ranks : (r : Word → ℕ) × AreRankedBy kept r

pub nothing_kept : (m : Model) → IsSound m [] []
nothing_kept m = record { within = λ y h. h; once = refl; reads = λ c x h. absurd h; formed = λ c h. absurd h; ranks = ((λ x. 0), λ c x h. absurd h) }

-- RANKS

later_rank : List Cover → (Word → ℕ) → Word → Word → ℕ
later_rank kept r new y = if is_word y new then rank_bound r kept else r y

other_rank : (kept : List Cover) (r : Word → ℕ) (new y : Word) → (y ≡ new → ⊥) → later_rank kept r new y ≡ r y
unfolding later_rank
other_rank kept r new y ne = rw (false_from_ne_true (is_word y new) (λ e. ne (same_word y new e))) refl

new_rank : (kept : List Cover) (r : Word → ℕ) (new : Word) → later_rank kept r new new ≡ rank_bound r kept
unfolding later_rank
new_rank kept r new = rw (is_word-same new) refl

below-bound : (cs : List Cover) (r : Word → ℕ) (y : Word) → In (outputs_of cs) y → r y < rank_bound r cs
below-bound cs r y h =
    let c : (c : Cover) × (In cs c × (c.output ≡ y)) = in_map (λ (c : Cover). c.output) cs y h in
    let k = place_of_member cs c.0 c.1.0 in
    subst (λ (x : Word). r x < rank_bound r cs) c.1.1 (below-high r cs k.0 c.0 k.1)

module _ (m : Model) (done kept : List Cover) (s : IsSound m done kept) (e : Cover) (new : In (outputs_of done) e.output → ⊥) (no_source : In (source_names m) e.output → ⊥) where
  -- the new output is known by nobody
  unknown : Known m kept e.output → ⊥
  unknown (inl h) = no_source h
  unknown (inr h) = new (s.within e.output h)

  other : (x : Word) → In (outputs_of kept) x → x ≡ e.output → ⊥
  other x h same = unknown (inr (subst (λ (y : Word). In (outputs_of kept) y) same h))

  module _ (known : (x : Word) → In e.inputs x → Known m kept x) where
    ranked_on : AreRankedBy (kept ++ e ∷ []) (later_rank kept s.ranks.0 e.output)
    ranked_on c x there at driven = elim (in_append kept (e ∷ []) c there) [
      | inl old ↦ elim (last_output kept e x driven) [
        | inl own ↦
            let less : s.ranks.0 x < s.ranks.0 c.output = s.ranks.1 c x old at own in
            let left : later_rank kept s.ranks.0 e.output x ≡ s.ranks.0 x = other_rank kept s.ranks.0 e.output x (other x own) in
            let right : later_rank kept s.ranks.0 e.output c.output ≡ s.ranks.0 c.output = other_rank kept s.ranks.0 e.output c.output (other c.output (in-outputs kept c old)) in
            omega (arith, less, left, right)
        | inr same ↦ absurd (unknown (subst (λ (y : Word). Known m kept y) (sym same) (s.reads c x old at)))
      ]
      | inr last ↦ elim last [
        | inl is ↦
            let read : In e.inputs x = subst (λ (d : Cover). In d.inputs x) (sym is) at in
            elim (last_output kept e x driven) [
              | inl own ↦
                  let less : s.ranks.0 x < rank_bound s.ranks.0 kept = below-bound kept s.ranks.0 x own in
                  let left : later_rank kept s.ranks.0 e.output x ≡ s.ranks.0 x = other_rank kept s.ranks.0 e.output x (other x own) in
                  let right : later_rank kept s.ranks.0 e.output c.output ≡ rank_bound s.ranks.0 kept = ap (λ (d : Cover). later_rank kept s.ranks.0 e.output d.output) (sym is) ∙ new_rank kept s.ranks.0 e.output in
                  omega (arith, less, left, right)
              | inr same ↦ absurd (unknown (subst (λ (y : Word). Known m kept y) (sym same) (known x read)))
            ]
        | inr z ↦ absurd z
      ]
    ]

    known_on : (x : Word) → Known m kept x → Known m (kept ++ e ∷ []) x
    known_on x (inl h) = inl h
    known_on x (inr h) = inr (outputs-left kept (e ∷ []) x h)

    -- one more cover is kept
    pub sound_with : (c : Cover) → e.output ≡ c.output → IsWellFormedCover e → IsSound m (done ++ c ∷ []) (kept ++ e ∷ [])
    sound_with c same formed = record {
      within = λ y h. elim (last_output kept e y h) [
        | inl a ↦ outputs-left done (c ∷ []) y (s.within y a)
        | inr b ↦ outputs-right done (c ∷ []) y (inl (sym same ∙ b))
      ];
      once = ap is_distinct (outputs-append kept (e ∷ [])) ∙ distinct-join (outputs_of kept) (e.output ∷ []) s.once refl (λ x a b. elim b [ inl is ↦ other x a (sym is) | inr z ↦ z ]);
      reads = λ d x there at. elim (in_append kept (e ∷ []) d there) [
        | inl old ↦ known_on x (s.reads d x old at)
        | inr last ↦ elim last [ inl is ↦ known_on x (known x (subst (λ (b : Cover). In b.inputs x) (sym is) at)) | inr z ↦ absurd z ]
      ];
      formed = λ d there. elim (in_append kept (e ∷ []) d there) [
        | inl old ↦ s.formed d old
        | inr last ↦ elim last [ inl is ↦ subst IsWellFormedCover is formed | inr z ↦ absurd z ]
      ];
      ranks = (later_rank kept s.ranks.0 e.output, ranked_on);
    }

-- nothing more is kept
pub sound_without : (m : Model) (done kept : List Cover) (c : Cover) → IsSound m done kept → IsSound m (done ++ c ∷ []) kept
sound_without m done kept c s = record { within = λ y h. outputs-left done (c ∷ []) y (s.within y h); once = s.once; reads = s.reads; formed = s.formed; ranks = s.ranks }
