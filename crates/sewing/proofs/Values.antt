-- Consistent valuations of a model and of what is sewn of its windows agree on the kept names, window by window.
use Rattle.std.proofs.Common.{◌≡◌, ◌+◌, ℕ, Bool, List, [], ◌∷◌, ◌++◌, map, inl, inr, refl, sym, ap, ◌∙◌, subst, append_assoc, append-nil}
use Rattle.rm_model.specs.Value.{IsConsistent, observed_names, source_names, value_of}
use Rattle.rm_model.specs.declared.parts.Cover.{Cover}
use Rattle.rm_model.specs.declared.parts.Model.{Model}
use Rattle.rm_base.specs.Members.{In}
use Rattle.rm_base.specs.Words.{Word}
use Rattle.rm_base.proofs.Public.{in_append, in_at, in_left, in_mapped, in_right, map_agree, place_of_member, same-in-map}
use Rattle.std.proofs.lemmas.Simd.{map-map}
use Rattle.sewing.specs.Windows.{AreWindows, IsWindow, window_covers, window_outputs}
use Rattle.sewing.specs.Names.{edge_names, sewn_name}
use Rattle.sewing.specs.Sewn.{renamed_cover, sewn_covers}
use Rattle.sewing.specs.Laws.{AreParts, IsReplacement}
use Rattle.sewing.proofs.Members.{all-among, in-all, in-among, plain-observed, plain-sources}

-- each cover of a list holds
abbrev pub HoldAll : List Cover → (Word → Bool) → Type 0
HoldAll cs v = (c : Cover) → In cs c → v c.output ≡ value_of c (map v c.inputs)

pub edge-stays : (lead : Word) (k : ℕ) (p : Model) (x : Word) → In (edge_names p) x → sewn_name lead k p x ≡ x
edge-stays lead k p x h = rw (in-among (edge_names p) x h) refl

-- renamed covers hold where the covers hold of the names behind
pub hold-renamed : (f : Word → Word) (u : Word → Bool) (cs : List Cover) → HoldAll (map (renamed_cover f) cs) u → HoldAll cs (λ x. u (f x))
hold-renamed f u cs h c there =
    h (renamed_cover f c) (in_mapped (renamed_cover f) cs c there)
    ∙ ap (value_of c) (map-map u f c.inputs)

pub same-members : (v u : Word → Bool) (xs ys : List Word) → map v xs ≡ map u ys → xs ≡ ys → (x : Word) → In xs x → v x ≡ u x
same-members v u xs ys e f x h = let r = place_of_member xs x h in same-in-map v u xs r.0 x (e ∙ ap (map u) (sym f)) r.1

-- a window and its part, under names that agree on what it reads
window-step : (lead : Word) (k : ℕ) (known : List Word) (w p : Model) (v u : Word → Bool) → IsWindow known w → IsReplacement w p → HoldAll w.covers v → HoldAll (map (renamed_cover (sewn_name lead k p)) p.covers) u → ((x : Word) → In known x → v x ≡ u x) → (x : Word) → In w.outputs x → v x ≡ u x
window-step lead k known w p v u window part holds held agree x there =
    let f : Word → Word = sewn_name lead k p in
    let no_latches : p.latches ≡ [] = sym part.equivalent.latches ∙ window.no_latches in
    let no_clocks : p.clocks ≡ [] = sym part.equivalent.clocks ∙ window.no_clocks in
    let first : IsConsistent w v = in-all (λ (c : Cover). v c.output ≡ value_of c (map v c.inputs)) w.covers holds in
    let second : IsConsistent p (λ x. u (f x)) = in-all (λ (c : Cover). u (f c.output) ≡ value_of c (map (λ x. u (f x)) c.inputs)) p.covers (hold-renamed f u p.covers held) in
    let inputs : map v w.inputs ≡ map (λ x. u (f x)) w.inputs = map_agree v (λ x. u (f x)) w.inputs (λ i y at. agree y (all-among known w.inputs y window.reads (in_at w.inputs i y at))
    ∙ ap u (sym (edge-stays lead k p y (in_left p.inputs p.outputs y (subst (λ (l : List Word). In l y) part.equivalent.inputs (in_at w.inputs i y at)))))) in
    let sources : map v (source_names w) ≡ map (λ x. u (f x)) (source_names p) =
    ap (map v) (plain-sources w window.no_clocks window.no_latches) ∙ (inputs ∙ (ap (map (λ x. u (f x))) part.equivalent.inputs ∙ ap (map (λ x. u (f x))) (sym (plain-sources p no_clocks no_latches)))) in
    let seen : map v (observed_names w) ≡ map (λ x. u (f x)) (observed_names p) = part.equivalent.agree v (λ x. u (f x)) first second sources in
    let outputs : map v w.outputs ≡ map (λ x. u (f x)) p.outputs =
    ap (map v) (sym (plain-observed w window.no_latches)) ∙ (seen ∙ ap (map (λ x. u (f x))) (plain-observed p no_latches)) in
    same-members v (λ x. u (f x)) w.outputs p.outputs outputs part.equivalent.outputs x there
    ∙ ap u (edge-stays lead k p x (in_right p.inputs p.outputs x (subst (λ (l : List Word). In l x) part.equivalent.outputs there)))

pub kept-agree : (lead : Word) (k : ℕ) (known : List Word) (ws ps : List Model) (v u : Word → Bool) → AreWindows known ws → AreParts ws ps → HoldAll (window_covers ws) v → HoldAll (sewn_covers lead k ps) u → ((x : Word) → In known x → v x ≡ u x) → (x : Word) → In (known ++ window_outputs ws) x → v x ≡ u x
kept-agree lead k known [] [] v u windows parts holds held agree x there = agree x (subst (λ (l : List Word). In l x) (append-nil known) there)
kept-agree lead k known [] (p ∷ ps) v u windows parts holds held agree x there = absurd parts
kept-agree lead k known (w ∷ ws) [] v u windows parts holds held agree x there = absurd parts
kept-agree lead k known (w ∷ ws) (p ∷ ps) v u windows parts holds held agree x there =
    let first : List Cover = map (renamed_cover (sewn_name lead k p)) p.covers in
    let step : (x : Word) → In w.outputs x → v x ≡ u x = window-step lead k known w p v u windows.0 parts.0
    (λ c h. holds c (in_left w.covers (window_covers ws) c h))
    (λ c h. held c (in_left first (sewn_covers lead (k + 1) ps) c h)) agree in
    kept-agree lead (k + 1) (known ++ w.outputs) ws ps v u windows.1 parts.1
    (λ c h. holds c (in_right w.covers (window_covers ws) c h))
    (λ c h. held c (in_right first (sewn_covers lead (k + 1) ps) c h))
    (λ x h. elim (in_append known w.outputs x h) [ inl a ↦ agree x a | inr b ↦ step x b ])
    x (subst (λ (l : List Word). In l x) (sym (append_assoc known w.outputs (window_outputs ws))) there)
