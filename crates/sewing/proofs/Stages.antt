-- A step of the induction over windows: what is known of the windows and the parts that are left.
use Rattle.std.proofs.Common.{◌≡◌, ◌≤◌, ◌+◌, ◌^◌, ℕ, suc, true, List, [], ◌∷◌, ◌++◌, length, ◌⊎◌, inl, inr, refl, sym, ap, ◌∙◌, subst, append_assoc, arith}
use Rattle.std.specs.List.{flat_map}
use Rattle.rm_model.specs.Value.{IsRanked, outputs_of}
use Rattle.rm_model.specs.WellFormed.{driven_names, is_distinct, used_names, IsWellFormed}
use Rattle.rm_model.specs.declared.parts.Cover.{Cover}
use Rattle.rm_model.specs.declared.parts.Model.{Model}
use Rattle.rm_model.proofs.Public.{distinct-right}
use Rattle.rm_base.specs.Members.{In}
use Rattle.rm_base.specs.Words.{Word}
use Rattle.rm_base.proofs.Public.{in_append, in_left, in_right}
use Rattle.sewing.specs.Windows.{AreWindows, IsWindow, window_covers, window_outputs}
use Rattle.sewing.specs.Laws.{AreParts, IsReplacement, PartsFollow}
use Rattle.sewing.proofs.Members.{all-among, apart, in_flat, outputs-append, outputs-right, plain-sources}

-- as many parts as windows
pub same-length : (ws ps : List Model) → AreParts ws ps → length ws ≡ length ps
same-length [] [] h = refl
same-length [] (p ∷ ps) h = absurd h
same-length (w ∷ ws) [] h = absurd h
same-length (w ∷ ws) (p ∷ ps) h = ap suc (same-length ws ps h.1)

pub parts-follow : PartsFollow
parts-follow [] [] w p parts last = (last, tt)
parts-follow [] (q ∷ ps) w p parts last = absurd parts
parts-follow (v ∷ ws) [] w p parts last = absurd parts
parts-follow (v ∷ ws) (q ∷ ps) w p parts last = (parts.0, parts-follow ws ps w p parts.1 last)

-- before window number k: the known names, and the windows and parts from there on
pub record Stage (lead : Word) (k : ℕ) (known : List Word) (ws ps : List Model) : Type 0 where
  pub windows : AreWindows known ws
  pub parts : AreParts ws ps
  pub once : is_distinct (outputs_of (window_covers ws)) ≡ true
  pub news : (x : Word) → In known x → In (outputs_of (window_covers ws)) x → ⊥
  pub fresh : (x y : Word) → In (known ++ window_outputs ws) x → x ≡ lead ++ y → ⊥
  pub few : k + length ws ≤ 2 ^ 64

once-rest : (w : Model) (ws : List Model) → is_distinct (outputs_of (window_covers (w ∷ ws))) ≡ true → is_distinct (outputs_of w.covers ++ outputs_of (window_covers ws)) ≡ true
once-rest w ws e = subst (λ (l : List Word). is_distinct l ≡ true) (outputs-append w.covers (window_covers ws)) e

pub next : (lead : Word) (k : ℕ) (known : List Word) (w p : Model) (ws ps : List Model) → Stage lead k known (w ∷ ws) (p ∷ ps) → Stage lead (k + 1) (known ++ w.outputs) ws ps
next lead k known w p ws ps s =
    let here : IsWindow known w = s.windows.0 in
    let once : is_distinct (outputs_of w.covers ++ outputs_of (window_covers ws)) ≡ true = once-rest w ws s.once in
    record {
      windows = s.windows.1;
      parts = s.parts.1;
      once = distinct-right (outputs_of w.covers) (outputs_of (window_covers ws)) once;
      news = λ x old new. elim (in_append known w.outputs x old) [
        | inl a ↦ s.news x a (outputs-right w.covers (window_covers ws) x new)
        | inr b ↦ apart (outputs_of w.covers) (outputs_of (window_covers ws)) x once (all-among (outputs_of w.covers) w.outputs x here.gives b) new
      ];
      fresh = λ x y there. s.fresh x y (subst (λ (l : List Word). In l x) (append_assoc known w.outputs (window_outputs ws)) there);
      few = omega (arith, s.few);
    }

-- what a part is, at a stage
pub record Piece (lead : Word) (known : List Word) (p : Model) : Type 0 where
  pub formed : IsWellFormed p
  pub ranked : IsRanked p
  pub no_clocks : p.clocks ≡ []
  pub no_latches : p.latches ≡ []
  pub reads : (x : Word) → In p.inputs x → In known x
  pub gives : (x : Word) → In p.outputs x → In (outputs_of p.covers) x
  pub apart_from : (x : Word) → In p.inputs x → In (outputs_of p.covers) x → ⊥
  pub fresh_inputs : (x y : Word) → In p.inputs x → x ≡ lead ++ y → ⊥
  pub fresh_outputs : (x y : Word) → In p.outputs x → x ≡ lead ++ y → ⊥

-- what is an output of a well-formed model is an input or an output of a cover
used-driven : (p : Model) → IsWellFormed p → p.clocks ≡ [] → p.latches ≡ [] → (x : Word) → In (used_names p) x → In p.inputs x ⊎ In (outputs_of p.covers) x
used-driven p formed e f x h =
    in_append p.inputs (outputs_of p.covers) x
    (subst (λ (l : List Word). In (l ++ outputs_of p.covers) x) (plain-sources p e f) (all-among (driven_names p) (used_names p) x formed.all_driven h))

pub piece : (lead : Word) (k : ℕ) (known : List Word) (w p : Model) (ws ps : List Model) → Stage lead k known (w ∷ ws) (p ∷ ps) → Piece lead known p
piece lead k known w p ws ps s =
    let here : IsWindow known w = s.windows.0 in
    let part : IsReplacement w p = s.parts.0 in
    let no_clocks : p.clocks ≡ [] = sym part.equivalent.clocks ∙ here.no_clocks in
    let no_latches : p.latches ≡ [] = sym part.equivalent.latches ∙ here.no_latches in
    let once : is_distinct (p.inputs ++ outputs_of p.covers) ≡ true = subst (λ (l : List Word). is_distinct (l ++ outputs_of p.covers) ≡ true) (plain-sources p no_clocks no_latches) part.formed.driven_once in
    let window_once : is_distinct (w.inputs ++ outputs_of w.covers) ≡ true = subst (λ (l : List Word). is_distinct (l ++ outputs_of w.covers) ≡ true) (plain-sources w here.no_clocks here.no_latches) here.formed.driven_once in
    record {
      formed = part.formed;
      ranked = part.equivalent.other_ranked;
      no_clocks = no_clocks;
      no_latches = no_latches;
      reads = λ x h. all-among known w.inputs x here.reads (subst (λ (l : List Word). In l x) (sym part.equivalent.inputs) h);
      gives = λ x h. driven x h
          (subst (λ (l : List Word). In l x) (sym part.equivalent.outputs) h)
          (used-driven p part.formed no_clocks no_latches x (first x h));
      apart_from = λ x a b. apart p.inputs (outputs_of p.covers) x once a b;
      fresh_inputs = λ x y h. s.fresh x y (in_left known (window_outputs (w ∷ ws)) x (all-among known w.inputs x here.reads (subst (λ (l : List Word). In l x) (sym part.equivalent.inputs) h)));
      fresh_outputs = λ x y h. s.fresh x y (in_right known (window_outputs (w ∷ ws)) x (in_left w.outputs (window_outputs ws) x (subst (λ (l : List Word). In l x) (sym part.equivalent.outputs) h)));
    }
  where
    first : (x : Word) → In p.outputs x → In (used_names p) x
    first x h = in_left _ _ x (in_left _ _ x (in_left _ _ x h))

    driven : (x : Word) → In p.outputs x → In w.outputs x → In p.inputs x ⊎ In (outputs_of p.covers) x → In (outputs_of p.covers) x
    driven x h given (inr b) = b
    driven x h given (inl a) =
        let here : IsWindow known w = s.windows.0 in
        let part : IsReplacement w p = s.parts.0 in
        let window_once : is_distinct (w.inputs ++ outputs_of w.covers) ≡ true = subst (λ (l : List Word). is_distinct (l ++ outputs_of w.covers) ≡ true) (plain-sources w here.no_clocks here.no_latches) here.formed.driven_once in
        absurd (apart w.inputs (outputs_of w.covers) x window_once (subst (λ (l : List Word). In l x) (sym part.equivalent.inputs) a) (all-among (outputs_of w.covers) w.outputs x here.gives given))

-- the inputs of a part's covers are driven in it
pub inputs-driven : (lead : Word) (known : List Word) (p : Model) → Piece lead known p → (c : Cover) (x : Word) → In p.covers c → In c.inputs x → In p.inputs x ⊎ In (outputs_of p.covers) x
inputs-driven lead known p q c x there h =
    used-driven p q.formed q.no_clocks q.no_latches x
    (in_left _ _ x (in_left _ _ x (in_right p.outputs (flat_map (λ (c : Cover). c.inputs) p.covers) x (in_flat (λ (c : Cover). c.inputs) p.covers c x there h))))
