-- Marking one driver more.
use Rattle.std.proofs.Common.{◌≡◌, ◌≢◌, ℕ, zero, suc, ◌<◌, ◌≤◌, ◌+◌, List, [], ◌∷◌, ◌++◌, length, get_or, replicate, Some, Bool, true, false, ◌⊎◌, inl, inr, refl, sym, ◌∙◌, ap, arith, subst}
use Rattle.std.specs.Prelude.{slice_get, slice_set}
use Rattle.std.proofs.lemmas.List.{get_or-set_same, get_or-set_other}
use Rattle.std.proofs.lemmas.Option.{slice_get_within, slice_get-get_or}
use Rattle.std.proofs.lemmas.Bool.{cases_lt}
use Rattle.gate_graph.specs.Search.{IsSeen, unseen}
use Rattle.gate_graph.specs.Inner.Search.{Marked, ListsSeen}
use Rattle.rm_base.proofs.Public.{front_stands, last_cases, last_stands}

pub unseen-set : (s : List Bool) (d : ℕ) → slice_get s d ≡ Some false → suc (unseen (slice_set s d true)) ≡ unseen s
unseen-set [] d e = cc
unseen-set (true ∷ s) zero e = cc
unseen-set (false ∷ s) zero e = refl
unseen-set (true ∷ s) (suc d) e = unseen-set s d e
unseen-set (false ∷ s) (suc d) e = ap suc (unseen-set s d e)

pub seen_or_not : (s : List Bool) (x : ℕ) → IsSeen s x ⊎ (IsSeen s x → ⊥)
seen_or_not [] x = inr (λ e. cc)
seen_or_not (true ∷ s) zero = inl refl
seen_or_not (false ∷ s) zero = inr (λ e. cc)
seen_or_not (b ∷ s) (suc x) = seen_or_not s x

pub seen_kept : (s : List Bool) (d y : ℕ) → IsSeen s y → IsSeen (slice_set s d true) y
seen_kept [] d y e = cc
seen_kept (b ∷ s) zero zero e = refl
seen_kept (b ∷ s) zero (suc y) e = e
seen_kept (b ∷ s) (suc d) zero e = e
seen_kept (b ∷ s) (suc d) (suc y) e = seen_kept s d y e

pub seen_new : (s : List Bool) (d : ℕ) → d < length s → IsSeen (slice_set s d true) d
seen_new [] d h = absurd (omega arith)
seen_new (b ∷ s) zero h = refl
seen_new (b ∷ s) (suc d) h = seen_new s d (omega arith)

pub seen_cases : (s : List Bool) (d y : ℕ) → IsSeen (slice_set s d true) y → IsSeen s y ⊎ (y ≡ d)
seen_cases [] d y e = cc
seen_cases (b ∷ s) zero zero e = inr refl
seen_cases (b ∷ s) zero (suc y) e = inl e
seen_cases (b ∷ s) (suc d) zero e = inl e
seen_cases (b ∷ s) (suc d) (suc y) e = elim (seen_cases s d y e) [ inl h ↦ inl h | inr h ↦ inr (ap suc h) ]

module _ (ds : List ℕ) (s s' : List Bool) (st st' : List ℕ) (t e d : ℕ) (m : Marked ds s s' st st' t e) where
  -- a driver that is marked already
  pub marked_again : IsSeen s' d → Marked (ds ++ d ∷ []) s s' st st' t e
  marked_again is = record {
    room = m.room;
    kept = m.kept;
    all = λ p y there. elim (last_cases ds d p y there) [ inl before ↦ m.all p y before | inr same ↦ rw same is ];
    below = m.below;
    new = λ y h. elim (m.new y h) [ inl old ↦ inl old | inr found ↦ inr ((found.0.0, front_stands ds (d ∷ []) found.0.0 y found.0.1), found.1) ];
    queued = m.queued;
    grows = m.grows;
  }

  -- a driver that is not
  module _ (fresh : slice_get s' d ≡ Some false) (same : length st' ≡ length st) where
    fewer : suc (unseen (slice_set s' d true)) ≡ unseen s'
    fewer = unseen-set s' d fresh

    pub fits : e < length st'
    fits = omega (arith, fewer, m.room, same)

    pub marked_new : Marked (ds ++ d ∷ []) s (slice_set s' d true) st (slice_set st' e d) t (e + 1)
    marked_new = record {
      room = omega (arith, fewer, m.room);
      kept = λ y h. seen_kept s' d y (m.kept y h);
      all = λ p y there. elim (last_cases ds d p y there) [
        | inl before ↦ seen_kept s' d y (m.all p y before)
        | inr is ↦ rw is (seen_new s' d (slice_get_within s' d false fresh))
      ];
      below = λ k h. let ne : k ≢ e = omega (arith, m.grows) in get_or-set_other st' e k d 0 ne ∙ m.below k h;
      new = λ y h. elim (seen_cases s' d y h) [
        | inl before ↦ elim (m.new y before) [
          | inl old ↦ inl old
          | inr found ↦ let ne : found.1.0 ≢ e = omega (arith, found.1.1.0) in
              inr ((found.0.0, front_stands ds (d ∷ []) found.0.0 y found.0.1), (found.1.0, (omega (arith, found.1.1.0), get_or-set_other st' e found.1.0 d 0 ne ∙ found.1.1.1)))
        ]
        | inr is ↦ inr ((length ds, rw is (last_stands ds d)), (e, (omega arith, get_or-set_same st' e d 0 fits ∙ sym is)))
      ];
      queued = λ k low high. elim (cases_lt k e) [
        | inl before ↦ let ne : k ≢ e = omega arith in rw (get_or-set_other st' e k d 0 ne) (seen_kept s' d (get_or st' k 0) (m.queued k low before))
        | inr last ↦ let is : k ≡ e = omega arith in rw (is, get_or-set_same st' e d 0 fits) (seen_new s' d (slice_get_within s' d false fresh))
      ];
      grows = omega (arith, m.grows);
    }

pub is_at : (s : List Bool) (d : ℕ) (b : Bool) → d < length s → get_or s d false ≡ b → slice_get s d ≡ Some b
is_at s d b h e = slice_get-get_or s d false h ∙ ap Some e

pub marked_none : (s : List Bool) (st : List ℕ) (t : ℕ) → t + unseen s ≤ length st → Marked [] s s st st t t
marked_none s st t h = record {
  room = h;
  kept = λ y e. e;
  all = λ p y e. let wrong : slice_get {X = ℕ} [] p ≡ Some y = e in cc;
  below = λ k below. refl;
  new = λ y e. inl e;
  queued = λ k low high. absurd (omega arith);
  grows = omega arith;
}

pub middle_at : (f : ℕ → ℕ) (xs ys rest : List ℕ) (x : ℕ) → xs ≡ ys ++ x ∷ rest → slice_get xs (length ys) ≡ Some x
middle_at f xs [] rest x e = ap (λ (l : List ℕ). slice_get l 0) e
middle_at f xs (y ∷ ys) rest x e = ap (λ (l : List ℕ). slice_get l (length (y ∷ ys))) e ∙ by ys
  where
    by : (ys : List ℕ) → slice_get (ys ++ x ∷ rest) (length ys) ≡ Some x
    by [] = refl
    by (y ∷ ys) = by ys

-- one mark is taken off
pub unmarked : (s : List Bool) (d y : ℕ) → IsSeen (slice_set s d false) y → IsSeen s y × (y ≢ d)
unmarked [] d y e = cc
unmarked (b ∷ s) zero zero e = cc
unmarked (b ∷ s) zero (suc y) e = (e, λ is. absurd (omega arith))
unmarked (b ∷ s) (suc d) zero e = (e, λ is. absurd (omega arith))
unmarked (b ∷ s) (suc d) (suc y) e = let rest = unmarked s d y e in (rest.0, λ is. rest.1 (omega arith))

pub lists-less : (s s' : List Bool) (q : List ℕ) (first end : ℕ) → ListsSeen s q first end → s' ≡ slice_set s (get_or q first 0) false → length s' ≡ length s → ListsSeen s' q (first + 1) end
lists-less s s' q first end l e len = record {
  listed = λ z h.
      let old = unmarked s (get_or q first 0) z (ap (λ (x : List Bool). slice_get x z) (sym e) ∙ h) in
      let at = l.listed z old.0 in
      let ne : at.0 ≢ first = λ is. old.1 (sym at.1.1.1 ∙ ap (λ (k : ℕ). get_or q k 0) is) in
      (at.0, (omega (arith, at.1.0), at.1.1));
  within = λ k h. omega (arith, l.within k h, len);
}

none-false : (s : List Bool) → ((z : ℕ) → IsSeen s z → ⊥) → s ≡ replicate (length s) false
none-false [] h = refl
none-false (true ∷ s) h = absurd (h 0 refl)
none-false (false ∷ s) h = ap (λ (l : List Bool). false ∷ l) (none-false s (λ z e. h (suc z) e))

pub all-unmarked : (s : List Bool) (q : List ℕ) (first end n : ℕ) → ListsSeen s q first end → end ≤ first → length s ≡ n → s ≡ replicate n false
all-unmarked s q first end n l past e = none-false s (λ z h. (let at = l.listed z h in let low = at.1.0 in let high = at.1.1.0 in omega (arith, low, high, past))) ∙ ap (λ (k : ℕ). replicate k false) e

pub marked-list : (ds es : List ℕ) (s s' : List Bool) (q q' : List ℕ) (t e : ℕ) → ds ≡ es → Marked ds s s' q q' t e → Marked es s s' q q' t e
marked-list ds es s s' q q' t e same m = subst (λ (l : List ℕ). Marked l s s' q q' t e) same m
