-- A model whose windows are replaced by models of the same function computes what it did.
use Rattle.std.proofs.Common.{◌≡◌, ◌<◌, ◌^◌, Bool, true, List, [], ◌∷◌, ◌++◌, length, map, inl, inr, refl, sym, ap, subst, arith}
use Rattle.std.specs.Prelude.{Contains}
use Rattle.rm_model.specs.Value.{IsConsistent, IsRanked, is_among, observed_names, outputs_of, source_names, value_of}
use Rattle.rm_model.specs.WellFormed.{is_token, names_of, used_names, IsWellFormed, IsWellFormedCover}
use Rattle.rm_model.specs.declared.parts.Cover.{Cover}
use Rattle.rm_model.specs.declared.parts.Model.{Model}
use Rattle.rm_model.proofs.Public.{distinct-left}
use Rattle.rm_base.specs.Members.{In}
use Rattle.rm_base.specs.Words.{Word}
use Rattle.rm_base.proofs.Public.{all_pass_in, in_append, in_at, in_left, in_map, in_right, map_agree}
use Rattle.sewing.specs.Windows.{IsWindowed, kept_names, window_covers, window_outputs}
use Rattle.sewing.specs.Names.{IsLead, free_lead}
use Rattle.sewing.specs.Sewn.{sewn_covers, sewn_with}
use Rattle.sewing.specs.Laws.{AreParts, IsReplacement, WindowsCompose, WindowsComposeWith}
use Rattle.sewing.proofs.Leads.{free-none}
use Rattle.sewing.proofs.Members.{all-among, all-in, apart, contains-in, distinct-join, in-all, in-among, in-outputs, pass-all}
use Rattle.sewing.proofs.Outputs.{inputs-driven-there, known-apart, outputs-given, outputs-once}
use Rattle.sewing.proofs.Formed.{IsSoundCover, covers-sound, flat-read, names-split, used-split, with_covers}
use Rattle.sewing.proofs.Ranks.{by-ranks, covers-ranked}
use Rattle.sewing.proofs.Stages.{Stage, same-length}
use Rattle.sewing.proofs.Tokens.{leads-are-least}
use Rattle.sewing.proofs.Values.{kept-agree, same-members}

module _ (lead : Word) (m : Model) (windows parts : List Model) (formed : IsWellFormed m) (ranked : IsRanked m) (windowed : IsWindowed m windows) (replaced : AreParts windows parts) (few : length windows < 2 ^ 64) (is_lead : IsLead (kept_names m windows) lead) where
  covers : List Cover
  covers = sewn_covers lead 1 parts

  in-model : (c : Cover) → In (window_covers windows) c → In m.covers c
  in-model c h = contains-in m.covers c (all-in (λ (c : Cover). Contains m.covers c) (window_covers windows) c windowed.taken h)

  pub stage : Stage lead 1 (source_names m) windows parts
  stage = record {
    windows = windowed.in_order;
    parts = replaced;
    once = windowed.once;
    news = λ x source output. (
        let c : (c : Cover) × (In (window_covers windows) c × (c.output ≡ x)) = in_map (λ (c : Cover). c.output) (window_covers windows) x output in
        apart (source_names m) (outputs_of m.covers) x formed.driven_once source (subst (λ (y : Word). In (outputs_of m.covers) y) c.1.1 (in-outputs m.covers c.0 (in-model c.0 c.1.0))));
    fresh = λ x y there e. free-none (kept_names m windows) lead x y is_lead.free there e;
    few = omega (arith, few);
  }

  pub observed-kept : (x : Word) → In (observed_names m) x → In (kept_names m windows) x
  observed-kept x h = all-among (kept_names m windows) (observed_names m) x windowed.observed h

  kept-driven : (x : Word) → In (kept_names m windows) x → In (source_names m ++ outputs_of covers) x
  unfolding covers
  kept-driven x h = elim (in_append (source_names m) (window_outputs windows) x h) [
    | inl a ↦ in_left (source_names m) (outputs_of covers) x a
    | inr b ↦ in_right (source_names m) (outputs_of covers) x (outputs-given lead 1 (source_names m) windows parts stage x b)
  ]

  used-driven : (x : Word) → In (used_names (with_covers m covers)) x → In (source_names m ++ outputs_of covers) x
  unfolding covers
  used-driven x h = elim (used-split m covers x h) [
    | inl a ↦ kept-driven x (observed-kept x a)
    | inr b ↦
        let c : (c : Cover) × (In covers c × In c.inputs x) = flat-read covers x b in
        elim (inputs-driven-there lead 1 (source_names m) windows parts stage c.0 x c.1.0 c.1.1) [
          | inl i ↦ in_left (source_names m) (outputs_of covers) x i
          | inr o ↦ in_right (source_names m) (outputs_of covers) x o
        ]
  ]

  sound : (c : Cover) → In covers c → IsSoundCover c
  unfolding covers
  sound c h = covers-sound lead 1 (source_names m) windows parts is_lead.bytes stage c h

  tokens : (x : Word) → In (names_of (with_covers m covers)) x → is_token x ≡ true
  unfolding covers
  tokens x h = elim (names-split m covers x h) [
    | inl a ↦ all_pass_in is_token (names_of m) x formed.tokens a
    | inr b ↦ elim b [
      | inl o ↦
          let c : (c : Cover) × (In covers c × (c.output ≡ x)) = in_map (λ (c : Cover). c.output) covers x o in
          subst (λ (y : Word). is_token y ≡ true) c.1.1 (sound c.0 c.1.0).output_token
      | inr r ↦ let c : (c : Cover) × (In covers c × In c.inputs x) = flat-read covers x r in (sound c.0 c.1.0).input_tokens x c.1.1
    ]
  ]

  sewn-formed : IsWellFormed (sewn_with lead m parts)
  unfolding covers
  sewn-formed = record {
    tokens = pass-all is_token (names_of (with_covers m covers)) tokens;
    inputs_once = formed.inputs_once;
    clocks_once = formed.clocks_once;
    driven_once = distinct-join (source_names m) (outputs_of covers) (distinct-left (source_names m) (outputs_of m.covers) formed.driven_once) (outputs-once lead 1 (source_names m) windows parts stage) (known-apart lead 1 (source_names m) windows parts stage);
    outputs_once = formed.outputs_once;
    all_driven = pass-all (is_among (source_names m ++ outputs_of covers)) (used_names (with_covers m covers)) (λ x h. in-among (source_names m ++ outputs_of covers) x (used-driven x h));
    covers = in-all IsWellFormedCover covers (λ c h. (sound c h).formed);
    inits = formed.inits;
    controls = formed.controls;
  }

  sewn-ranked : IsRanked (sewn_with lead m parts)
  unfolding covers
  sewn-ranked = let r = covers-ranked lead 1 (source_names m) windows parts stage in by-ranks (sewn_with lead m parts) r.0 r.1

  agree : (v u : Word → Bool) → IsConsistent m v → IsConsistent (sewn_with lead m parts) u → map v (source_names m) ≡ map u (source_names m) → map v (observed_names m) ≡ map u (observed_names m)
  unfolding covers
  agree v u first second sources =
      map_agree v u (observed_names m) (λ i x at.
      kept-agree lead 1 (source_names m) windows parts v u windowed.in_order replaced
      (λ c h. all-in (λ (c : Cover). v c.output ≡ value_of c (map v c.inputs)) m.covers c first (in-model c h))
      (λ c h. all-in (λ (c : Cover). u c.output ≡ value_of c (map u c.inputs)) (sewn_covers lead 1 parts) c second h)
      (same-members v u (source_names m) (source_names m) sources refl)
      x (observed-kept x (in_at (observed_names m) i x at)))

  pub composed : IsReplacement m (sewn_with lead m parts)
  composed = record {
    formed = sewn-formed;
    equivalent = record { name = refl; inputs = refl; outputs = refl; clocks = refl; latches = refl; ranked = ranked; other_ranked = sewn-ranked; agree = agree };
  }

-- a part has the outputs of its window
same-outputs : (windows parts : List Model) → AreParts windows parts → window_outputs windows ≡ window_outputs parts
same-outputs [] [] h = refl
same-outputs [] (p ∷ ps) h = absurd h
same-outputs (w ∷ ws) [] h = absurd h
same-outputs (w ∷ ws) (p ∷ ps) h = rw (h.0.equivalent.outputs, same-outputs ws ps h.1) refl

-- the kept names by the parts are those by the windows
pub same-kept : (m : Model) (windows parts : List Model) → AreParts windows parts → kept_names m parts ≡ kept_names m windows
same-kept m windows parts replaced = ap (λ (xs : List Word). source_names m ++ xs) (sym (same-outputs windows parts replaced))

pub compose-with : WindowsComposeWith
compose-with lead m windows parts formed ranked windowed replaced few is_lead =
    composed lead m windows parts formed ranked windowed replaced (omega (arith, few, same-length windows parts replaced))
    (subst (λ (names : List Word). IsLead names lead) (same-kept m windows parts replaced) is_lead)

pub compose : WindowsCompose
compose m windows parts formed ranked windowed replaced few =
    compose-with (free_lead (kept_names m parts)) m windows parts formed ranked windowed replaced few.parts_counted (leads-are-least (kept_names m parts) few.names_counted).is_lead
