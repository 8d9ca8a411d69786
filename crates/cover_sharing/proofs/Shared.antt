-- The shared model is well formed, and computes what the model does.
use Rattle.std.proofs.Common.{◌≡◌, ℕ, Bool, true, List, [], ◌∷◌, ◌++◌, length, map, take, ◌⊎◌, inl, inr, refl, sym, ap, ◌∙◌, subst, append_assoc, append-nil}
use Rattle.std.specs.Prelude.{Contains, Some, slice_get}
use Rattle.std.specs.List.{filter_map, flat_map, list_all}
use Rattle.rm_model.specs.Value.{Equivalent, IsConsistent, IsRanked, control_of, is_among, observed_names, outputs_of, source_names, value_of}
use Rattle.rm_model.specs.WellFormed.{driven_names, is_distinct, is_token, names_of, used_names, IsWellFormed, IsWellFormedCover}
use Rattle.rm_model.specs.declared.parts.Cover.{Cover}
use Rattle.rm_model.specs.declared.parts.Latch.{Latch}
use Rattle.rm_model.specs.declared.parts.Model.{Model}
use Rattle.rm_model.proofs.Public.{distinct-left}
use Rattle.cover_decompose.proofs.Public.{among_in, in_among}
use Rattle.cover_decompose.specs.Needed.{IsNeeded, observed}
use Rattle.rm_base.specs.Members.{In}
use Rattle.rm_base.specs.Words.{Word}
use Rattle.rm_base.proofs.Public.{all_pass_in, in_append, in_at, in_contained, in_contains, in_left, in_map, in_right, map_agree, place_of_member, same-in-map, seam_stands}
use Rattle.window_cut.specs.Laws.{AreInOrder}
use Rattle.window_cut.specs.Order.{ordered_covers}
use Rattle.cover_sharing.specs.Shared.{Sharing, shared, sharing_of}
use Rattle.cover_sharing.proofs.Names.{all-in, apart, distinct-join, in-all, in-outputs, outputs-append, pass-all}
use Rattle.cover_sharing.proofs.Origins.{HoldAll}
use Rattle.cover_sharing.proofs.Sound.{IsSound, Known, by-ranks}
use Rattle.cover_sharing.proofs.Steps.{Alike, AreNext, IsNext, Stands, all_stand}

-- THE NAMES OF A MODEL WITH OTHER COVERS

abbrev with_covers : Model → List Cover → Model
with_covers m cs = record m { covers = cs }

abbrev read_names : List Cover → List Word
read_names cs = flat_map (λ (c : Cover). c.inputs) cs

reader : (cs : List Cover) (x : Word) → In (read_names cs) x → (c : Cover) × (In cs c × In c.inputs x)
reader [] x h = absurd h
reader (c ∷ cs) x h = elim (in_append c.inputs (read_names cs) x h) [
  | inl a ↦ (c, (inl refl, a))
  | inr b ↦ let r : (d : Cover) × (In cs d × In d.inputs x) = reader cs x b in (r.0, (inr r.1.0, r.1.1))
]

used-split : (m : Model) (cs : List Cover) (x : Word) → In (used_names (with_covers m cs)) x → In (observed_names m) x ⊎ In (read_names cs) x
used-split m cs x h = elim (in_append ((m.outputs ++ read_names cs) ++ map (λ (l : Latch). l.input) m.latches) (filter_map control_of m.latches) x h) [
  | inl a ↦ elim (in_append (m.outputs ++ read_names cs) (map (λ (l : Latch). l.input) m.latches) x a) [
    | inl b ↦ elim (in_append m.outputs (read_names cs) x b) [
      | inl o ↦ inl (in_left (m.outputs ++ map (λ (l : Latch). l.input) m.latches) (filter_map control_of m.latches) x (in_left m.outputs (map (λ (l : Latch). l.input) m.latches) x o))
      | inr r ↦ inr r
    ]
    | inr i ↦ inl (in_left (m.outputs ++ map (λ (l : Latch). l.input) m.latches) (filter_map control_of m.latches) x (in_right m.outputs (map (λ (l : Latch). l.input) m.latches) x i))
  ]
  | inr c ↦ inl (in_right (m.outputs ++ map (λ (l : Latch). l.input) m.latches) (filter_map control_of m.latches) x c)
]

observed-used : (m : Model) (x : Word) → In (observed_names m) x → In (used_names m) x
observed-used m x h = elim (in_append (m.outputs ++ map (λ (l : Latch). l.input) m.latches) (filter_map control_of m.latches) x h) [
  | inl a ↦ in_left ((m.outputs ++ read_names m.covers) ++ map (λ (l : Latch). l.input) m.latches) (filter_map control_of m.latches) x (elim (in_append m.outputs (map (λ (l : Latch). l.input) m.latches) x a) [
    | inl o ↦ in_left (m.outputs ++ read_names m.covers) (map (λ (l : Latch). l.input) m.latches) x (in_left m.outputs (read_names m.covers) x o)
    | inr i ↦ in_right (m.outputs ++ read_names m.covers) (map (λ (l : Latch). l.input) m.latches) x i
  ])
  | inr c ↦ in_right ((m.outputs ++ read_names m.covers) ++ map (λ (l : Latch). l.input) m.latches) (filter_map control_of m.latches) x c
]

-- a name of the model with other covers: one of the model, or one that these covers give or read
names-split : (m : Model) (cs : List Cover) (x : Word) → In (names_of (with_covers m cs)) x → In (names_of m) x ⊎ (In (outputs_of cs) x ⊎ In (read_names cs) x)
names-split m cs x h = elim (in_append (m.name ∷ driven_names (with_covers m cs)) (m.clocks ++ used_names (with_covers m cs)) x h) [
  | inl a ↦ elim a [
    | inl e ↦ inl (in_left (m.name ∷ driven_names m) (m.clocks ++ used_names m) x (inl e))
    | inr d ↦ elim (in_append (source_names m) (outputs_of cs) x d) [
      | inl s ↦ inl (in_left (m.name ∷ driven_names m) (m.clocks ++ used_names m) x (inr (in_left (source_names m) (outputs_of m.covers) x s)))
      | inr o ↦ inr (inl o)
    ]
  ]
  | inr b ↦ elim (in_append m.clocks (used_names (with_covers m cs)) x b) [
    | inl c ↦ inl (in_right (m.name ∷ driven_names m) (m.clocks ++ used_names m) x (in_left m.clocks (used_names m) x c))
    | inr u ↦ elim (used-split m cs x u) [
      | inl o ↦ inl (in_right (m.name ∷ driven_names m) (m.clocks ++ used_names m) x (in_right m.clocks (used_names m) x (observed-used m x o)))
      | inr r ↦ inr (inr r)
    ]
  ]
]

-- THE COVERS IN ORDER

take-front : {A : Type 0} (xs ys : List A) → take (length xs) (xs ++ ys) ≡ xs
take-front [] [] = refl
take-front [] (y ∷ ys) = refl
take-front {A = A} (x ∷ xs) ys = ap (λ (l : List A). x ∷ l) (take-front xs ys)

module _ (m : Model) (formed : IsWellFormed m) (cs : List Cover) (order : AreInOrder m cs) where
  own : (c : Cover) → In cs c → In m.covers c
  own c h = let r = (order.needed c).0 (in_contains cs c h) in in_contained m.covers c r.0.0 r.0.1 r.0.2

  is_next : (done : List Cover) (c : Cover) (rest : List Cover) → done ++ c ∷ rest ≡ cs → IsNext m done c
  is_next done c rest e =
      let at : slice_get cs (length done) ≡ Some c = ap (λ (l : List Cover). slice_get l (length done)) (sym e) ∙ seam_stands done c rest in
      let there : In cs c = in_at cs (length done) c at in
      let front : take (length done) cs ≡ done = ap (λ (l : List Cover). take (length done) l) (sym e) ∙ take-front done (c ∷ rest) in
      record {
        reads = λ x i. elim (order.before (length done) c x at (among_in c.inputs x i)) [
          | inl s ↦ inl (in_among (source_names m) x s)
          | inr o ↦ inr (in_among (outputs_of done) x (subst (λ (l : List Cover). is_among (outputs_of l) x ≡ true) front o))
        ];
        new = λ i. apart (outputs_of done) (outputs_of (c ∷ rest)) c.output (sym (ap is_distinct (ap (λ (l : List Cover). outputs_of l) (sym e) ∙ outputs-append done (c ∷ rest))) ∙ order.once) i (inl refl);
        no_source = λ i. apart (source_names m) (outputs_of m.covers) c.output formed.driven_once i (in-outputs m.covers c (own c there));
        formed = all-in IsWellFormedCover m.covers c formed.covers (own c there);
      }

  are_next : (done rest : List Cover) → done ++ rest ≡ cs → AreNext m done rest
  are_next done [] e = tt
  are_next done (c ∷ rest) e = (is_next done c rest e, are_next (done ++ c ∷ []) rest (append_assoc done (c ∷ []) rest ∙ e))

  abbrev kept : List Cover
  kept = (sharing_of (observed_names m) cs).kept

  stands : Stands m cs (sharing_of (observed_names m) cs)
  stands = all_stand m cs (are_next [] cs refl)

  -- what is observed is a source, or an output of these covers
  observed_known : (x : Word) → In (observed_names m) x → Known m kept x
  observed_known x h = elim (in_append (source_names m) (outputs_of m.covers) x (in_among (driven_names m) x (all_pass_in (is_among (driven_names m)) (used_names m) x formed.all_driven (observed-used m x h)))) [
    | inl s ↦ inl s
    | inr o ↦
        let r : (c : Cover) × (In m.covers c × (c.output ≡ x)) = in_map (λ (c : Cover). c.output) m.covers x o in
        let need : IsNeeded m r.0.output = observed (subst (λ (y : Word). is_among (observed_names m) y ≡ true) (sym r.1.1) (among_in (observed_names m) x h)) in
        let c = (order.needed r.0).1 (in_contains m.covers r.0 r.1.0, need) in
        inr (stands.seen x h (subst (λ (y : Word). In (outputs_of cs) y) r.1.1 (in-outputs cs r.0 (in_contained cs r.0 c.0 c.1 c.2))))
  ]

  -- WELL-FORMED

  own_output : (x : Word) → In (outputs_of kept) x → In (outputs_of m.covers) x
  own_output x h =
      let r : (c : Cover) × (In cs c × (c.output ≡ x)) = in_map (λ (c : Cover). c.output) cs x (stands.sound.within x h) in
      subst (λ (y : Word). In (outputs_of m.covers) y) r.1.1 (in-outputs m.covers r.0 (own r.0 r.1.0))

  known_driven : (x : Word) → Known m kept x → In (driven_names m) x
  known_driven x (inl s) = in_left (source_names m) (outputs_of m.covers) x s
  known_driven x (inr o) = in_right (source_names m) (outputs_of m.covers) x (own_output x o)

  known_token : (x : Word) → Known m kept x → is_token x ≡ true
  known_token x k = all_pass_in is_token (names_of m) x formed.tokens (in_left (m.name ∷ driven_names m) (m.clocks ++ used_names m) x (inr (known_driven x k)))

  read_known : (x : Word) → In (read_names kept) x → Known m kept x
  read_known x h = let r = reader kept x h in stands.sound.reads r.0 x r.1.0 r.1.1

  known_among : (x : Word) → Known m kept x → is_among (driven_names (with_covers m kept)) x ≡ true
  known_among x (inl s) = among_in (driven_names (with_covers m kept)) x (in_left (source_names m) (outputs_of kept) x s)
  known_among x (inr o) = among_in (driven_names (with_covers m kept)) x (in_right (source_names m) (outputs_of kept) x o)

  shared_formed : IsWellFormed (with_covers m kept)
  shared_formed = record {
    tokens = pass-all is_token (names_of (with_covers m kept)) (λ x h. elim (names-split m kept x h) [
      | inl a ↦ all_pass_in is_token (names_of m) x formed.tokens a
      | inr b ↦ elim b [ inl o ↦ known_token x (inr o) | inr r ↦ known_token x (read_known x r) ]
    ]);
    inputs_once = formed.inputs_once;
    clocks_once = formed.clocks_once;
    driven_once = distinct-join (source_names m) (outputs_of kept) (distinct-left (source_names m) (outputs_of m.covers) formed.driven_once) stands.sound.once (λ x a b. apart (source_names m) (outputs_of m.covers) x formed.driven_once a (own_output x b));
    outputs_once = formed.outputs_once;
    all_driven = pass-all (is_among (driven_names (with_covers m kept))) (used_names (with_covers m kept)) (λ x h. elim (used-split m kept x h) [
      | inl o ↦ known_among x (observed_known x o)
      | inr r ↦ known_among x (read_known x r)
    ]);
    covers = in-all IsWellFormedCover kept stands.sound.formed;
    inits = formed.inits;
    controls = formed.controls;
  }

  -- VALUES

  values_agree : (v w : Word → Bool) → IsConsistent m v → IsConsistent (with_covers m kept) w → map v (source_names m) ≡ map w (source_names m) → map v (observed_names m) ≡ map w (observed_names m)
  values_agree v w first second same =
      let sources : (x : Word) → In (source_names m) x → v x ≡ w x = λ x h. (let r = place_of_member (source_names m) x h in same-in-map v w (source_names m) r.0 x same r.1) in
      let a : Alike m cs (sharing_of (observed_names m) cs) v w = stands.alike v w
      (λ c h. all-in (λ (c : Cover). v c.output ≡ value_of c (map v c.inputs)) m.covers c first (own c h))
      (λ c h. all-in (λ (c : Cover). w c.output ≡ value_of c (map w c.inputs)) kept c second h) sources in
      map_agree v w (observed_names m) (λ i x at. elim (observed_known x (in_at (observed_names m) i x at)) [ inl s ↦ sources x s | inr o ↦ a.own x o ])

  shared_agrees : IsRanked m → Equivalent m (with_covers m kept)
  shared_agrees ranked = record {
    name = refl;
    inputs = refl;
    outputs = refl;
    clocks = refl;
    latches = refl;
    ranked = ranked;
    other_ranked = by-ranks (with_covers m kept) stands.sound.ranks.0 stands.sound.ranks.1;
    agree = values_agree;
  }

pub formed_again : (m : Model) → IsWellFormed m → AreInOrder m (ordered_covers m) → IsWellFormed (shared m)
formed_again m formed order = shared_formed m formed (ordered_covers m) order

pub agrees : (m : Model) → IsWellFormed m → IsRanked m → AreInOrder m (ordered_covers m) → Equivalent m (shared m)
agrees m formed ranked order = shared_agrees m formed (ordered_covers m) order ranked
