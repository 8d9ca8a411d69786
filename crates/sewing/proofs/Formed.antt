-- The covers of a sewn model are well formed, and their names are tokens; which names the model has.
use Rattle.std.proofs.Common.{◌≡◌, ◌<◌, ◌+◌, ◌^◌, ℕ, true, List, [], ◌∷◌, ◌++◌, length, map, ◌⊎◌, inl, inr, refl, sym, ◌∙◌, subst, arith}
use Rattle.std.specs.List.{filter_map, flat_map, list_all}
use Rattle.std.proofs.lemmas.List.{length-map}
use Rattle.rm_model.specs.Value.{control_of, is_among, observed_names, outputs_of, source_names}
use Rattle.rm_model.specs.WellFormed.{driven_names, is_token, names_of, used_names, IsWellFormed, IsWellFormedCover}
use Rattle.rm_model.specs.declared.parts.Literal.{Literal}
use Rattle.rm_model.specs.declared.parts.Cover.{Cover}
use Rattle.rm_model.specs.declared.parts.Latch.{Latch}
use Rattle.rm_model.specs.declared.parts.Model.{Model}
use Rattle.rm_base.specs.Members.{In}
use Rattle.rm_base.specs.Words.{Word, is_word_byte}
use Rattle.rm_base.proofs.Public.{all_pass_in, in_append, in_left, in_map, in_right}
use Rattle.sewing.specs.Names.{sewn_name}
use Rattle.sewing.specs.Sewn.{renamed_cover, sewn_covers}
use Rattle.sewing.proofs.Members.{all-in, in-all, in-outputs, in_flat}
use Rattle.sewing.proofs.Outputs.{piece_covers}
use Rattle.sewing.proofs.Stages.{Stage, next}
use Rattle.sewing.proofs.Tokens.{sewn-token}

-- ONE COVER

pub record IsSoundCover (c : Cover) : Type 0 where
  pub formed : IsWellFormedCover c
  pub output_token : is_token c.output ≡ true
  pub input_tokens : (x : Word) → In c.inputs x → is_token x ≡ true

own-cover : (p : Model) → IsWellFormed p → (c : Cover) → In p.covers c → IsSoundCover c
own-cover p formed c there = record {
  formed = all-in IsWellFormedCover p.covers c formed.covers there;
  output_token = all_pass_in is_token (names_of p) c.output formed.tokens (in_left (p.name ∷ driven_names p) (p.clocks ++ used_names p) c.output (inr (in_right (source_names p) (outputs_of p.covers) c.output (in-outputs p.covers c there))));
  input_tokens = λ x h. all_pass_in is_token (names_of p) x formed.tokens (in_right (p.name ∷ driven_names p) (p.clocks ++ used_names p) x (in_right p.clocks (used_names p) x
      (in_left _ _ x (in_left _ _ x (in_right p.outputs (flat_map (λ (c : Cover). c.inputs) p.covers) x (in_flat (λ (c : Cover). c.inputs) p.covers c x there h))))));
}

renamed-formed : (f : Word → Word) (c : Cover) → IsWellFormedCover c → IsWellFormedCover (renamed_cover f c)
renamed-formed f c formed = record {
  no_rows = formed.no_rows;
  row_lengths = in-all (λ (r : List Literal). length r ≡ length (map f c.inputs)) c.rows (λ r there. all-in (λ (r : List Literal). length r ≡ length c.inputs) c.rows r formed.row_lengths there ∙ sym (length-map c.inputs f));
}

piece-cover : (lead : Word) (k : ℕ) (p : Model) → list_all is_word_byte lead ≡ true → k < 2 ^ 64 → IsWellFormed p → (c : Cover) → In (piece_covers lead k p) c → IsSoundCover c
piece-cover lead k p bytes small formed c there =
    let f : Word → Word = sewn_name lead k p in
    let d : (d : Cover) × (In p.covers d × (renamed_cover f d ≡ c)) = in_map (renamed_cover f) p.covers c there in
    let own : IsSoundCover d.0 = own-cover p formed d.0 d.1.0 in
    subst IsSoundCover d.1.1 (record {
      formed = renamed-formed f d.0 own.formed;
      output_token = sewn-token lead k p d.0.output bytes small own.output_token;
      input_tokens = λ x h. (
          let z : (z : Word) × (In d.0.inputs z × (f z ≡ x)) = in_map f d.0.inputs x h in
          subst (λ (y : Word). is_token y ≡ true) z.1.1 (sewn-token lead k p z.0 bytes small (own.input_tokens z.0 z.1.0)));
    })

-- ALL COVERS

pub covers-sound : (lead : Word) (k : ℕ) (known : List Word) (ws ps : List Model) → list_all is_word_byte lead ≡ true → Stage lead k known ws ps → (c : Cover) → In (sewn_covers lead k ps) c → IsSoundCover c
covers-sound lead k known [] [] bytes s c there = absurd there
covers-sound lead k known [] (p ∷ ps) bytes s c there = absurd s.parts
covers-sound lead k known (w ∷ ws) [] bytes s c there = absurd s.parts
covers-sound lead k known (w ∷ ws) (p ∷ ps) bytes s c there = elim (in_append (piece_covers lead k p) (sewn_covers lead (k + 1) ps) c there) [
  | inl a ↦ piece-cover lead k p bytes (omega (arith, s.few)) s.parts.0.formed c a
  | inr b ↦ covers-sound lead (k + 1) (known ++ w.outputs) ws ps bytes (next lead k known w p ws ps s) c b
]

-- THE NAMES OF A MODEL WITH OTHER COVERS

abbrev pub with_covers : Model → List Cover → Model
with_covers m cs = record m { covers = cs }

abbrev pub read_names : List Cover → List Word
read_names cs = flat_map (λ (c : Cover). c.inputs) cs

pub flat-read : (cs : List Cover) (x : Word) → In (read_names cs) x → (c : Cover) × (In cs c × In c.inputs x)
flat-read [] x h = absurd h
flat-read (c ∷ cs) x h = elim (in_append c.inputs (read_names cs) x h) [
  | inl a ↦ (c, (inl refl, a))
  | inr b ↦ let r : (d : Cover) × (In cs d × In d.inputs x) = flat-read cs x b in (r.0, (inr r.1.0, r.1.1))
]

pub used-split : (m : Model) (cs : List Cover) (x : Word) → In (used_names (with_covers m cs)) x → In (observed_names m) x ⊎ In (read_names cs) x
used-split m cs x h = elim (in_append ((m.outputs ++ read_names cs) ++ map (λ (l : Latch). l.input) m.latches) (filter_map control_of m.latches) x h) [
  | inl a ↦ elim (in_append (m.outputs ++ read_names cs) (map (λ (l : Latch). l.input) m.latches) x a) [
    | inl b ↦ elim (in_append m.outputs (read_names cs) x b) [
      | inl o ↦ inl (in_left (m.outputs ++ map (λ (l : Latch). l.input) m.latches) (filter_map control_of m.latches) x (in_left m.outputs (map (λ (l : Latch). l.input) m.latches) x o))
      | inr r ↦ inr r
    ]
    | inr i ↦ inl (in_left (m.outputs ++ map (λ (l : Latch). l.input) m.latches) (filter_map control_of m.latches) x (in_right m.outputs (map (λ (l : Latch). l.input) m.latches) x i))
  ]
  | inr c ↦ inl (in_right (m.outputs ++ map (λ (l : Latch). l.input) m.latches) (filter_map control_of m.latches) x c)
]

observed-used : (m : Model) (x : Word) → In (observed_names m) x → In (used_names m) x
observed-used m x h = elim (in_append (m.outputs ++ map (λ (l : Latch). l.input) m.latches) (filter_map control_of m.latches) x h) [
  | inl a ↦ in_left ((m.outputs ++ read_names m.covers) ++ map (λ (l : Latch). l.input) m.latches) (filter_map control_of m.latches) x (elim (in_append m.outputs (map (λ (l : Latch). l.input) m.latches) x a) [
    | inl o ↦ in_left (m.outputs ++ read_names m.covers) (map (λ (l : Latch). l.input) m.latches) x (in_left m.outputs (read_names m.covers) x o)
    | inr i ↦ in_right (m.outputs ++ read_names m.covers) (map (λ (l : Latch). l.input) m.latches) x i
  ])
  | inr c ↦ in_right ((m.outputs ++ read_names m.covers) ++ map (λ (l : Latch). l.input) m.latches) (filter_map control_of m.latches) x c
]

-- what is observed is driven
pub observed-driven : (m : Model) → IsWellFormed m → (x : Word) → In (observed_names m) x → is_among (driven_names m) x ≡ true
observed-driven m formed x h = all_pass_in (is_among (driven_names m)) (used_names m) x formed.all_driven (observed-used m x h)

pub names-split : (m : Model) (cs : List Cover) (x : Word) → In (names_of (with_covers m cs)) x → In (names_of m) x ⊎ (In (outputs_of cs) x ⊎ In (read_names cs) x)
names-split m cs x h = elim (in_append (m.name ∷ driven_names (with_covers m cs)) (m.clocks ++ used_names (with_covers m cs)) x h) [
  | inl a ↦ elim a [
    | inl e ↦ inl (in_left (m.name ∷ driven_names m) (m.clocks ++ used_names m) x (inl e))
    | inr d ↦ elim (in_append (source_names m) (outputs_of cs) x d) [
      | inl s ↦ inl (in_left (m.name ∷ driven_names m) (m.clocks ++ used_names m) x (inr (in_left (source_names m) (outputs_of m.covers) x s)))
      | inr o ↦ inr (inl o)
    ]
  ]
  | inr b ↦ elim (in_append m.clocks (used_names (with_covers m cs)) x b) [
    | inl c ↦ inl (in_right (m.name ∷ driven_names m) (m.clocks ++ used_names m) x (in_left m.clocks (used_names m) x c))
    | inr u ↦ elim (used-split m cs x u) [
      | inl o ↦ inl (in_right (m.name ∷ driven_names m) (m.clocks ++ used_names m) x (in_right m.clocks (used_names m) x (observed-used m x o)))
      | inr r ↦ inr (inr r)
    ]
  ]
]
