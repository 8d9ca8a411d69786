-- The model of each window is well formed and ranked, whatever windows have the needed covers in order.
use Rattle.std.proofs.Common.{◌≡◌, ◌<◌, ◌≤◌, ◌+◌, ◌^◌, ℕ, suc, Bool, true, false, not, List, [], ◌∷◌, ◌++◌, length, filter, refl, sym, ap, ◌∙◌, subst, arith, append-nil, inl, inr}
use Rattle.std.specs.Prelude.{◌≢◌, All, Contains, codes, Some, IfSome, slice_get, if◌then◌else◌}
use Rattle.std.specs.List.{AllByRecursion, list_all}
use Rattle.std.proofs.lemmas.Bool.{and_parts}
use Rattle.rm_base.proofs.Public.{all_at, all_from_places, all_in, all_pass_in, any_in, both_and, in_any, in_append, in_at, in_contained, in_contains, in_filter, in_left, in_map, in_mapped, in_right, place_of_member}
use Rattle.rm_base.specs.Members.{In}
use Rattle.rm_base.specs.Words.{Word}
use Rattle.rm_model.specs.Value.{control_of, is_among, is_cover_output, outputs_of, source_names, IsRanked}
use Rattle.rm_model.specs.WellFormed.{driven_names, is_distinct, is_token, names_of, used_names, IsWellFormed, IsWellFormedCover}
use Rattle.rm_model.specs.Words.{is_word}
use Rattle.rm_model.specs.declared.parts.Cover.{Cover}
use Rattle.rm_model.specs.declared.parts.Latch.{Latch}
use Rattle.rm_model.specs.declared.parts.Model.{Model}
use Rattle.cover_decompose.proofs.Public.{among_in, in_among}
use Rattle.window_cut.proofs.Cuts.{HasLast}
use Rattle.window_cut.proofs.Outputs.{window_gives}
use Rattle.window_cut.proofs.Fits.{in_joined, new_distinct, new_read, new_unknown, read_new, window_once}
use Rattle.window_cut.proofs.Ordered.{distinct_join, in_read, read_used, reader_of}
use Rattle.window_cut.proofs.Tokens.{window_token}
use Rattle.window_cut.specs.Cut.{joined}
use Rattle.window_cut.specs.Laws.{AreInOrder, IsStandalone}
use Rattle.window_cut.specs.Windows.{models_from, read_names, wanted_names, window_inputs, window_model, window_name, window_outputs}

pub all_pass : (p : Word → Bool) (xs : List Word) → ((x : Word) → In xs x → p x ≡ true) → list_all p xs ≡ true
all_pass p [] h = refl
all_pass p (x ∷ xs) h = both_and (p x) (list_all p xs) (h x (inl refl)) (all_pass p xs (λ y i. h y (inr i)))

filter_distinct : (p : Word → Bool) (xs : List Word) → is_distinct xs ≡ true → is_distinct (filter p xs) ≡ true
filter_distinct p [] e = refl
filter_distinct p (x ∷ xs) e = by_test (p x) (filter_distinct p xs (and_parts (not (is_among xs x)) (is_distinct xs) e).1)
  where
    apart : (y : Word) → In (x ∷ []) y → In (filter p xs) y → ⊥
    apart y (inl s) j = once (is_among xs x) (and_parts (not (is_among xs x)) (is_distinct xs) e).0 (among_in xs x (subst (λ (z : Word). In xs z) (sym s) (in_filter p xs y j).0))
      where
        once : (b : Bool) → not b ≡ true → b ≡ true → ⊥
        once true n t = cc
        once false n t = cc
    apart y (inr z) j = z

    by_test : (b : Bool) → is_distinct (filter p xs) ≡ true → is_distinct (if b then x ∷ filter p xs else filter p xs) ≡ true
    by_test true f = distinct_join (x ∷ []) (filter p xs) refl f apart
    by_test false f = f

module _ (m : Model) (formed : IsWellFormed m) (ws : List (List Cover)) (order : AreInOrder m (joined ws)) (n : ℕ) (small : n < 2 ^ 64) (w : List Cover) (here : In ws w) where
  -- its covers are covers of the model
  cover_in : (c : Cover) → In w c → In m.covers c
  cover_in c i =
      let there = in_joined ws w c here i in
      let k = place_of_member (joined ws) c there in
      let h = ((order.needed c).0 (contains (joined ws) k.0 c k.1)).0 in
      in_contained m.covers c h.0 h.1 h.2
    where
      contains : (cs : List Cover) (k : ℕ) (c : Cover) → slice_get cs k ≡ Some c → Contains cs c
      contains cs k c e = in_contains cs c (in_at cs k c e)

  sources_are : source_names (window_model m ws n w) ≡ window_inputs w
  sources_are = append-nil (window_inputs w ++ []) ∙ append-nil (window_inputs w)

  driven_are : driven_names (window_model m ws n w) ≡ window_inputs w ++ outputs_of w
  driven_are = ap (λ (l : List Word). l ++ outputs_of w) sources_are

  used_are : used_names (window_model m ws n w) ≡ window_outputs m ws w ++ read_names w
  used_are = append-nil ((window_outputs m ws w ++ read_names w) ++ []) ∙ append-nil (window_outputs m ws w ++ read_names w)

  output_given : (x : Word) → In (window_outputs m ws w) x → In (outputs_of w) x
  output_given x i = (in_filter (is_among (wanted_names m ws)) (outputs_of w) x i).0

  -- names of the model
  read_named : (x : Word) → In (read_names w) x → In (names_of m) x
  read_named x i =
      let r = reader_of w x i in
      in_right (m.name ∷ driven_names m) (m.clocks ++ used_names m) x (in_right m.clocks (used_names m) x (read_used m x (in_read m.covers r.0 x (cover_in r.0 r.1.0) r.1.1)))

  output_named : (x : Word) → In (outputs_of w) x → In (names_of m) x
  output_named x i =
      let r = in_map (λ (c : Cover). c.output) w x i in
      let output : In (outputs_of m.covers) x = subst (λ (y : Word). In (outputs_of m.covers) y) r.1.1 (in_mapped (λ (c : Cover). c.output) m.covers r.0 (cover_in r.0 r.1.0)) in
      in_left (m.name ∷ driven_names m) (m.clocks ++ used_names m) x (inr (in_right (source_names m) (outputs_of m.covers) x output))

  named_token : (x : Word) → In (names_of m) x → is_token x ≡ true
  named_token x i = all_pass_in is_token (names_of m) x formed.tokens i

  driven_token : (x : Word) → In (driven_names (window_model m ws n w)) x → is_token x ≡ true
  driven_token x i = elim (in_append (window_inputs w) (outputs_of w) x (subst (λ (l : List Word). In l x) driven_are i)) [
    | inl a ↦ named_token x (read_named x (new_read (outputs_of w) (read_names w) x a))
    | inr b ↦ named_token x (output_named x b)
  ]

  used_token : (x : Word) → In (used_names (window_model m ws n w)) x → is_token x ≡ true
  used_token x i = elim (in_append (window_outputs m ws w) (read_names w) x (subst (λ (l : List Word). In l x) used_are i)) [
    | inl a ↦ named_token x (output_named x (output_given x a))
    | inr b ↦ named_token x (read_named x b)
  ]

  name_token : (x : Word) → In (names_of (window_model m ws n w)) x → is_token x ≡ true
  name_token x i = elim (in_append (window_name n ∷ driven_names (window_model m ws n w)) (used_names (window_model m ws n w)) x i) [
    | inl a ↦ elim a [ inl s ↦ subst (λ (y : Word). is_token y ≡ true) s (window_token n small) | inr d ↦ driven_token x d ]
    | inr u ↦ used_token x u
  ]

  outputs_once : is_distinct (outputs_of w) ≡ true
  outputs_once = window_once ws w order.once here

  driven : (x : Word) → In (used_names (window_model m ws n w)) x → is_among (driven_names (window_model m ws n w)) x ≡ true
  driven x i =
      subst (λ (l : List Word). is_among l x ≡ true) (sym driven_are) (among_in (window_inputs w ++ outputs_of w) x
      (elim (in_append (window_outputs m ws w) (read_names w) x (subst (λ (l : List Word). In l x) used_are i)) [
        | inl a ↦ in_right (window_inputs w) (outputs_of w) x (output_given x a)
        | inr b ↦ by_output (is_among (outputs_of w) x) refl b
      ]))
    where
      by_output : (b : Bool) → is_among (outputs_of w) x ≡ b → In (read_names w) x → In (window_inputs w ++ outputs_of w) x
      by_output true e r = in_right (window_inputs w) (outputs_of w) x (in_among (outputs_of w) x e)
      by_output false e r = in_left (window_inputs w) (outputs_of w) x (read_new (outputs_of w) (read_names w) x r e)

  pub window_formed : IsWellFormed (window_model m ws n w)
  window_formed = record {
    tokens = all_pass is_token (names_of (window_model m ws n w)) name_token;
    inputs_once = new_distinct (outputs_of w) (read_names w);
    clocks_once = refl;
    driven_once = ap is_distinct driven_are ∙ distinct_join (window_inputs w) (outputs_of w) (new_distinct (outputs_of w) (read_names w)) outputs_once (λ x i j. let bad : true ≡ false = sym (among_in (outputs_of w) x j) ∙ new_unknown (outputs_of w) (read_names w) x i in cc);
    outputs_once = filter_distinct (is_among (wanted_names m ws)) (outputs_of w) outputs_once;
    all_driven = all_pass (is_among (driven_names (window_model m ws n w))) (used_names (window_model m ws n w)) driven;
    covers = all_from_places IsWellFormedCover w (λ k c at. let p = place_of_member m.covers c (cover_in c (in_at w k c at)) in all_at IsWellFormedCover m.covers p.0 c formed.covers p.1);
    inits = all_from_places (λ (l : Latch). IfSome l.init (λ n. n ≤ 3)) [] (λ k l at. absurd cc);
    controls = all_from_places (λ (l : Latch). IfSome (control_of l) (λ x. x ≢ codes "NIL")) [] (λ k l at. absurd cc);
  }

  pub window_ranked : IsRanked m → IsRanked (window_model m ws n w)
  window_ranked ranked = (
    ranked.0,
    all_from_places (λ (c : Cover). All (λ x. is_cover_output (window_model m ws n w) x ≡ true → ranked.0 x < ranked.0 c.output) c.inputs) w (λ k c at.
        let p = place_of_member m.covers c (cover_in c (in_at w k c at)) in
        all_from_places (λ (x : Word). is_cover_output (window_model m ws n w) x ≡ true → ranked.0 x < ranked.0 c.output) c.inputs (λ q x r given.
        let d = in_any (λ (d : Cover). is_word x d.output) w given in
        all_at (λ (x : Word). is_cover_output m x ≡ true → ranked.0 x < ranked.0 c.output) c.inputs q x
        (all_at (λ (c : Cover). All (λ x. is_cover_output m x ≡ true → ranked.0 x < ranked.0 c.output) c.inputs) m.covers p.0 c ranked.1 p.1) r
        (any_in (λ (d : Cover). is_word x d.output) m.covers d.0 (cover_in d.0 d.1.0) d.1.1))),
  )

module _ (m : Model) (formed : IsWellFormed m) (ranked : IsRanked m) (all : List (List Cover)) (order : AreInOrder m (joined all)) (last : (w : List Cover) → In all w → HasLast w) where
  models_standalone : (n : ℕ) (ws : List (List Cover)) → n + length ws ≤ 2 ^ 64 → ((w : List Cover) → In ws w → In all w) → AllByRecursion IsStandalone (models_from m all n ws)
  models_standalone n [] few h = tt
  models_standalone n (w ∷ ws) few h = (
    record {
      formed = window_formed m formed all order n (omega (arith, few)) w (h w (inl refl));
      ranked = window_ranked m formed all order n (omega (arith, few)) w (h w (inl refl)) ranked;
      no_clocks = refl;
      no_latches = refl;
      some_outputs = window_gives m formed all order w (h w (inl refl)) (last w (h w (inl refl)));
      gives = all_pass (is_among (outputs_of w)) (window_outputs m all w) (λ x i. among_in (outputs_of w) x (in_filter (is_among (wanted_names m all)) (outputs_of w) x i).0);
    },
    models_standalone (suc n) ws (omega (arith, few)) (λ v i. h v (inr i)),
  )

  pub all_standalone : length all < 2 ^ 64 → All IsStandalone (models_from m all 1 all)
  all_standalone few = let each = models_standalone 1 all (omega (arith, few)) (λ w i. i) in all_from_places IsStandalone (models_from m all 1 all) (λ k d at. all_in IsStandalone (models_from m all 1 all) d each (in_at (models_from m all 1 all) k d at))
