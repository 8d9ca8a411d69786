-- What the covers of a sewn model drive: the outputs of the windows and inner names, each once.
use Rattle.std.proofs.Common.{◌≡◌, ◌≤◌, ◌<◌, ◌+◌, ℕ, Bool, true, false, List, [], ◌∷◌, ◌++◌, length, map, ◌⊎◌, inl, inr, refl, sym, ap, ◌∙◌, subst, arith}
use Rattle.std.specs.Fmt.{decimal}
use Rattle.std.proofs.lemmas.List.{append_cancel_left}
use Rattle.rm_model.specs.Value.{is_among, outputs_of, source_names}
use Rattle.rm_model.specs.WellFormed.{is_distinct}
use Rattle.rm_model.specs.declared.parts.Cover.{Cover}
use Rattle.rm_model.specs.declared.parts.Model.{Model}
use Rattle.rm_model.proofs.Public.{distinct-right}
use Rattle.rm_base.specs.Members.{In}
use Rattle.rm_base.specs.Words.{Word}
use Rattle.rm_base.proofs.Public.{in_append, in_left, in_map, in_mapped, in_right}
use Rattle.sewing.specs.Windows.{AreWindows, window_covers, window_outputs}
use Rattle.sewing.specs.Names.{edge_names, inner_name, sewn_name}
use Rattle.sewing.specs.Sewn.{renamed_cover, sewn_covers}
use Rattle.sewing.proofs.Leads.{inner-numbers}
use Rattle.sewing.proofs.Members.{all-among, among-in, distinct-join, distinct-map, outputs-append, outputs-in, outputs-left, outputs-right}
use Rattle.sewing.proofs.Stages.{Piece, Stage, inputs-driven, next, piece}
use Rattle.sewing.proofs.Values.{edge-stays}

-- the covers of one part in the sewn model
abbrev pub piece_covers : Word → ℕ → Model → List Cover
piece_covers lead k p = map (renamed_cover (sewn_name lead k p)) p.covers

pub renamed-outputs : (f : Word → Word) (cs : List Cover) → outputs_of (map (renamed_cover f) cs) ≡ map f (outputs_of cs)
renamed-outputs f [] = refl
renamed-outputs f (c ∷ cs) = ap (λ (xs : List Word). f c.output ∷ xs) (renamed-outputs f cs)

-- a name at the edge stays, and another one is an inner name
pub name-cases : (lead : Word) (k : ℕ) (p : Model) (x : Word) → (In (edge_names p) x × (sewn_name lead k p x ≡ x)) ⊎ (sewn_name lead k p x ≡ inner_name lead k x)
name-cases lead k p x = go (is_among (edge_names p) x) refl
  where
    go : (b : Bool) → is_among (edge_names p) x ≡ b → (In (edge_names p) x × (sewn_name lead k p x ≡ x)) ⊎ (sewn_name lead k p x ≡ inner_name lead k x)
    go true e = inl (among-in (edge_names p) x e, edge-stays lead k p x (among-in (edge_names p) x e))
    go false e = inr (rw e refl)

pub edge-fresh : (lead : Word) (known : List Word) (p : Model) → Piece lead known p → (x y : Word) → In (edge_names p) x → x ≡ lead ++ y → ⊥
edge-fresh lead known p q x y h e = elim (in_append p.inputs p.outputs x h) [ inl a ↦ q.fresh_inputs x y a e | inr b ↦ q.fresh_outputs x y b e ]

pub inner-same : (lead : Word) (k : ℕ) (x y : Word) → inner_name lead k x ≡ inner_name lead k y → x ≡ y
inner-same lead k x y e =
    let cut : 95 ∷ x ≡ 95 ∷ y = append_cancel_left (decimal k) (95 ∷ x) (95 ∷ y) (append_cancel_left lead (decimal k ++ 95 ∷ x) (decimal k ++ 95 ∷ y) e) in
    cc

-- two names of a part stay two
pub names-told : (lead : Word) (k : ℕ) (known : List Word) (p : Model) → Piece lead known p → (x y : Word) → sewn_name lead k p x ≡ sewn_name lead k p y → x ≡ y
names-told lead k known p q x y e = elim (name-cases lead k p x) [
  | inl a ↦ elim (name-cases lead k p y) [
    | inl b ↦ sym a.1 ∙ (e ∙ b.1)
    | inr b ↦ absurd (edge-fresh lead known p q x (decimal k ++ 95 ∷ y) a.0 (sym a.1 ∙ (e ∙ b)))
  ]
  | inr a ↦ elim (name-cases lead k p y) [
    | inl b ↦ absurd (edge-fresh lead known p q y (decimal k ++ 95 ∷ x) b.0 (sym b.1 ∙ (sym e ∙ a)))
    | inr b ↦ inner-same lead k x y (sym a ∙ (e ∙ b))
  ]
]

-- an inner name of a part with a number in this range
pub record IsInner (lead : Word) (first above : ℕ) (y : Word) : Type 0 where
  pub number : ℕ
  pub name : Word
  pub from : first ≤ number
  pub below : number < above
  pub is : y ≡ inner_name lead number name

module _ (lead : Word) where
  -- what a part drives is an output of its window or an inner name
  piece-named : (k : ℕ) (known : List Word) (w p : Model) (ws ps : List Model) → Stage lead k known (w ∷ ws) (p ∷ ps) → (y : Word) → In (outputs_of (piece_covers lead k p)) y → In w.outputs y ⊎ ((x : Word) × (y ≡ inner_name lead k x))
  piece-named k known w p ws ps s y h =
      let f : Word → Word = sewn_name lead k p in
      let q : Piece lead known p = piece lead k known w p ws ps s in
      let r : (x : Word) × (In (outputs_of p.covers) x × (f x ≡ y)) = in_map f (outputs_of p.covers) y (subst (λ (l : List Word). In l y) (renamed-outputs f p.covers) h) in
      elim (name-cases lead k p r.0) [
        | inl a ↦ elim (in_append p.inputs p.outputs r.0 a.0) [
          | inl i ↦ absurd (q.apart_from r.0 i r.1.0)
          | inr o ↦ inl (subst (λ (z : Word). In w.outputs z) (sym a.1 ∙ r.1.1) (subst (λ (l : List Word). In l r.0) (sym s.parts.0.equivalent.outputs) o))
        ]
        | inr b ↦ inr (r.0, sym r.1.1 ∙ b)
      ]

  pub outputs-named : (k : ℕ) (known : List Word) (ws ps : List Model) → Stage lead k known ws ps → (y : Word) → In (outputs_of (sewn_covers lead k ps)) y → In (window_outputs ws) y ⊎ IsInner lead k (k + length ws) y
  outputs-named k known [] [] s y h = absurd h
  outputs-named k known [] (p ∷ ps) s y h = absurd s.parts
  outputs-named k known (w ∷ ws) [] s y h = absurd s.parts
  outputs-named k known (w ∷ ws) (p ∷ ps) s y h = elim (outputs-in (piece_covers lead k p) (sewn_covers lead (k + 1) ps) y h) [
    | inl a ↦ elim (piece-named k known w p ws ps s y a) [
      | inl o ↦ inl (in_left w.outputs (window_outputs ws) y o)
      | inr i ↦ inr (record { number = k; name = i.0; from = omega arith; below = omega arith; is = i.1 })
    ]
    | inr b ↦ elim (outputs-named (k + 1) (known ++ w.outputs) ws ps (next lead k known w p ws ps s) y b) [
      | inl o ↦ inl (in_right w.outputs (window_outputs ws) y o)
      | inr i ↦ inr (record { number = i.number; name = i.name; from = omega (arith, i.from); below = omega (arith, i.below); is = i.is })
    ]
  ]

  -- the outputs of windows are outputs of their covers
  outputs-covered : (known : List Word) (ws : List Model) → AreWindows known ws → (x : Word) → In (window_outputs ws) x → In (outputs_of (window_covers ws)) x
  outputs-covered known [] windows x h = absurd h
  outputs-covered known (w ∷ ws) windows x h = elim (in_append w.outputs (window_outputs ws) x h) [
    | inl a ↦ outputs-left w.covers (window_covers ws) x (all-among (outputs_of w.covers) w.outputs x windows.0.gives a)
    | inr b ↦ outputs-right w.covers (window_covers ws) x (outputs-covered (known ++ w.outputs) ws windows.1 x b)
  ]

  -- known names aren't driven
  pub known-apart : (k : ℕ) (known : List Word) (ws ps : List Model) → Stage lead k known ws ps → (x : Word) → In known x → In (outputs_of (sewn_covers lead k ps)) x → ⊥
  known-apart k known ws ps s x old new = elim (outputs-named k known ws ps s x new) [
    | inl a ↦ s.news x old (outputs-covered known ws s.windows x a)
    | inr b ↦ s.fresh x (decimal b.number ++ 95 ∷ b.name) (in_left known (window_outputs ws) x old) b.is
  ]

  pub pieces-apart : (k : ℕ) (known : List Word) (w p : Model) (ws ps : List Model) → Stage lead k known (w ∷ ws) (p ∷ ps) → (y : Word) → In (outputs_of (piece_covers lead k p)) y → In (outputs_of (sewn_covers lead (k + 1) ps)) y → ⊥
  pieces-apart k known w p ws ps s y a b = elim (piece-named k known w p ws ps s y a) [
    | inl o ↦ known-apart (k + 1) (known ++ w.outputs) ws ps (next lead k known w p ws ps s) y (in_right known w.outputs y o) b
    | inr i ↦ elim (outputs-named (k + 1) (known ++ w.outputs) ws ps (next lead k known w p ws ps s) y b) [
      | inl o ↦ s.fresh y (decimal k ++ 95 ∷ i.0) (in_right known (window_outputs (w ∷ ws)) y (in_right w.outputs (window_outputs ws) y o)) i.1
      | inr j ↦
          let same : k ≡ j.number = inner-numbers lead k j.number i.0 j.name (omega (arith, s.few)) (omega (arith, s.few, j.below)) (sym i.1 ∙ j.is) in
          absurd (omega (arith, same, j.from))
    ]
  ]

  pub outputs-once : (k : ℕ) (known : List Word) (ws ps : List Model) → Stage lead k known ws ps → is_distinct (outputs_of (sewn_covers lead k ps)) ≡ true
  outputs-once k known [] [] s = refl
  outputs-once k known [] (p ∷ ps) s = absurd s.parts
  outputs-once k known (w ∷ ws) [] s = absurd s.parts
  outputs-once k known (w ∷ ws) (p ∷ ps) s =
      let f : Word → Word = sewn_name lead k p in
      let q : Piece lead known p = piece lead k known w p ws ps s in
      let own : is_distinct (map f (outputs_of p.covers)) ≡ true = distinct-map f (outputs_of p.covers) (λ x y a b e. names-told lead k known p q x y e) (distinct-right (source_names p) (outputs_of p.covers) q.formed.driven_once) in
      subst (λ (l : List Word). is_distinct l ≡ true) (sym (outputs-append (piece_covers lead k p) (sewn_covers lead (k + 1) ps)))
      (distinct-join (outputs_of (piece_covers lead k p)) (outputs_of (sewn_covers lead (k + 1) ps))
      (subst (λ (l : List Word). is_distinct l ≡ true) (sym (renamed-outputs f p.covers)) own)
      (outputs-once (k + 1) (known ++ w.outputs) ws ps (next lead k known w p ws ps s))
      (pieces-apart k known w p ws ps s))

  piece-output : (k : ℕ) (p : Model) (x : Word) → In (outputs_of p.covers) x → In (outputs_of (piece_covers lead k p)) (sewn_name lead k p x)
  piece-output k p x h = subst (λ (l : List Word). In l (sewn_name lead k p x)) (sym (renamed-outputs (sewn_name lead k p) p.covers)) (in_mapped (sewn_name lead k p) (outputs_of p.covers) x h)

  -- the outputs of the windows are driven
  pub outputs-given : (k : ℕ) (known : List Word) (ws ps : List Model) → Stage lead k known ws ps → (x : Word) → In (window_outputs ws) x → In (outputs_of (sewn_covers lead k ps)) x
  outputs-given k known [] [] s x h = absurd h
  outputs-given k known [] (p ∷ ps) s x h = absurd h
  outputs-given k known (w ∷ ws) [] s x h = absurd s.parts
  outputs-given k known (w ∷ ws) (p ∷ ps) s x h = elim (in_append w.outputs (window_outputs ws) x h) [
    | inl a ↦
        let q : Piece lead known p = piece lead k known w p ws ps s in
        let own : In p.outputs x = subst (λ (l : List Word). In l x) s.parts.0.equivalent.outputs a in
        outputs-left (piece_covers lead k p) (sewn_covers lead (k + 1) ps) x
        (subst (λ (z : Word). In (outputs_of (piece_covers lead k p)) z) (edge-stays lead k p x (in_right p.inputs p.outputs x own)) (piece-output k p x (q.gives x own)))
    | inr b ↦ outputs-right (piece_covers lead k p) (sewn_covers lead (k + 1) ps) x (outputs-given (k + 1) (known ++ w.outputs) ws ps (next lead k known w p ws ps s) x b)
  ]

  -- what a part reads is known or its own
  pub piece-reads : (k : ℕ) (known : List Word) (p : Model) → Piece lead known p → (c : Cover) (x : Word) → In (piece_covers lead k p) c → In c.inputs x → In known x ⊎ In (outputs_of (piece_covers lead k p)) x
  piece-reads k known p q c x there h =
      let f : Word → Word = sewn_name lead k p in
      let d : (d : Cover) × (In p.covers d × (renamed_cover f d ≡ c)) = in_map (renamed_cover f) p.covers c there in
      let z : (z : Word) × (In d.0.inputs z × (f z ≡ x)) = in_map f d.0.inputs x (subst (λ (e : Cover). In e.inputs x) (sym d.1.1) h) in
      elim (inputs-driven lead known p q d.0 z.0 d.1.0 z.1.0) [
        | inl a ↦ inl (subst (λ (y : Word). In known y) (sym (edge-stays lead k p z.0 (in_left p.inputs p.outputs z.0 a)) ∙ z.1.1) (q.reads z.0 a))
        | inr b ↦ inr (subst (λ (y : Word). In (outputs_of (piece_covers lead k p)) y) z.1.1 (piece-output k p z.0 b))
      ]

  -- what a cover reads is known or driven
  pub inputs-driven-there : (k : ℕ) (known : List Word) (ws ps : List Model) → Stage lead k known ws ps → (c : Cover) (x : Word) → In (sewn_covers lead k ps) c → In c.inputs x → In known x ⊎ In (outputs_of (sewn_covers lead k ps)) x
  inputs-driven-there k known [] [] s c x there h = absurd there
  inputs-driven-there k known [] (p ∷ ps) s c x there h = absurd s.parts
  inputs-driven-there k known (w ∷ ws) [] s c x there h = absurd s.parts
  inputs-driven-there k known (w ∷ ws) (p ∷ ps) s c x there h = elim (in_append (piece_covers lead k p) (sewn_covers lead (k + 1) ps) c there) [
    | inl a ↦ elim (piece-reads k known p (piece lead k known w p ws ps s) c x a h) [
      | inl i ↦ inl i
      | inr o ↦ inr (outputs-left (piece_covers lead k p) (sewn_covers lead (k + 1) ps) x o)
    ]
    | inr b ↦ elim (inputs-driven-there (k + 1) (known ++ w.outputs) ws ps (next lead k known w p ws ps s) c x b h) [
      | inl i ↦ elim (in_append known w.outputs x i) [
        | inl old ↦ inl old
        | inr new ↦ inr (outputs-given k known (w ∷ ws) (p ∷ ps) s x (in_left w.outputs (window_outputs ws) x new))
      ]
      | inr o ↦ inr (outputs-right (piece_covers lead k p) (sewn_covers lead (k + 1) ps) x o)
    ]
  ]
