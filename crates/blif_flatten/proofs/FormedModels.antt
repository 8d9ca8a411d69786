-- The model of a section without a fault is sound, with what its calls drive and read.
use Rattle.std.proofs.Common.{◌≡◌, ◌≢◌, ◌≤◌, ◌+◌, List, [], ◌∷◌, ◌++◌, map, Bool, true, false, None, Some, refl, sym, ap, ◌∙◌, arith}
use Rattle.std.specs.Prelude.{All, IfSome, codes, if◌then◌else◌}
use Rattle.std.specs.List.{cons_option, filter_map, flat_map}
use Rattle.std.proofs.lemmas.List.Elements.{All-nil, All-cons}
use Rattle.rm_base.specs.Words.{Word}
use Rattle.rm_model.specs.Words.{is_word}
use Rattle.rm_model.specs.Value.{control_of, is_among, outputs_of}
use Rattle.rm_model.specs.WellFormed.{is_token, used_names}
use Rattle.rm_model.specs.declared.parts.Latch.{Latch}
use Rattle.rm_model.specs.declared.parts.Model.{Model}
use Rattle.rm_model.proofs.Public.{is_word-same}
use Rattle.blif_lines.specs.Layout.{Spot}
use Rattle.blif_format.specs.declared.words.Role.{Role}
use Rattle.blif_format.specs.declared.words.Role.TheVariants.{Input, ClockInput, Output, CoverInput, CoverOutput, LatchInput, LatchOutput, Control}
use Rattle.blif_format.specs.Text.{Line}
use Rattle.blif_format.specs.Uses.{Use, is_driver, wants_driver}
use Rattle.blif_format.specs.FirstFault.{undriven_fault}
use Rattle.blif_reader.specs.Words.{control_from, init_from, latch_from}
use Rattle.blif_flatten.specs.declared.modules.Link.{Link}
use Rattle.blif_flatten.specs.declared.modules.Module.{Module}
use Rattle.blif_flatten.specs.Sections.{latch_in, model_from, words_in_line}
use Rattle.blif_flatten.specs.Calls.{call_of}
use Rattle.blif_flatten.specs.CallFaults.{driven_twice_fault, line_uses}
use Rattle.blif_flatten.specs.Instances.{link_of}
use Rattle.blif_flatten.specs.LineFaults.{body_fault, nothing_said}
use Rattle.blif_flatten.proofs.FormedCounts.{times, times-append, once-distinct}
use Rattle.blif_flatten.proofs.FormedTree.{inner_names, latch_outputs}
use Rattle.blif_flatten.proofs.FormedHeld.{cover_inputs, latch_inputs}
use Rattle.blif_flatten.proofs.FormedFlat.{HasControl, HasInit, IsSoundModel, all_times}
use Rattle.blif_flatten.proofs.FormedCalls.{ins_of, outs_of}
use Rattle.blif_flatten.proofs.FormedLines.{tally, weight}
use Rattle.blif_flatten.proofs.FormedUses.{Clash, body-weight, driven-once, used-weight, whole_weight}
use Rattle.blif_flatten.proofs.FormedBodies.{AreSome, body-fit, covers-formed}
use Rattle.blif_flatten.proofs.FormedOutputs.{outputs-once}
use Rattle.blif_flatten.proofs.FormedNames.{AreTokenLines, body-tokens, use_names, weight-among, weight-token}

-- ROLES THAT CLASH
abbrev of_inputs : Role → Bool
of_inputs ClockInput = false
of_inputs role = is_driver role

abbrev of_clocks : Role → Bool
of_clocks Input = false
of_clocks role = is_driver role

inputs-clash : Clash of_inputs
inputs-clash Input Input e f = refl
inputs-clash Input ClockInput e f = absurd cc
inputs-clash Input Output e f = absurd cc
inputs-clash Input CoverInput e f = absurd cc
inputs-clash Input CoverOutput e f = refl
inputs-clash Input LatchInput e f = absurd cc
inputs-clash Input LatchOutput e f = refl
inputs-clash Input Control e f = absurd cc
inputs-clash ClockInput r e f = absurd cc
inputs-clash Output r e f = absurd cc
inputs-clash CoverInput r e f = absurd cc
inputs-clash CoverOutput Input e f = refl
inputs-clash CoverOutput ClockInput e f = absurd cc
inputs-clash CoverOutput Output e f = absurd cc
inputs-clash CoverOutput CoverInput e f = absurd cc
inputs-clash CoverOutput CoverOutput e f = refl
inputs-clash CoverOutput LatchInput e f = absurd cc
inputs-clash CoverOutput LatchOutput e f = refl
inputs-clash CoverOutput Control e f = absurd cc
inputs-clash LatchInput r e f = absurd cc
inputs-clash LatchOutput Input e f = refl
inputs-clash LatchOutput ClockInput e f = absurd cc
inputs-clash LatchOutput Output e f = absurd cc
inputs-clash LatchOutput CoverInput e f = absurd cc
inputs-clash LatchOutput CoverOutput e f = refl
inputs-clash LatchOutput LatchInput e f = absurd cc
inputs-clash LatchOutput LatchOutput e f = refl
inputs-clash LatchOutput Control e f = absurd cc
inputs-clash Control r e f = absurd cc

clocks-clash : Clash of_clocks
clocks-clash Input r e f = absurd cc
clocks-clash ClockInput Input e f = absurd cc
clocks-clash ClockInput ClockInput e f = refl
clocks-clash ClockInput Output e f = absurd cc
clocks-clash ClockInput CoverInput e f = absurd cc
clocks-clash ClockInput CoverOutput e f = refl
clocks-clash ClockInput LatchInput e f = absurd cc
clocks-clash ClockInput LatchOutput e f = refl
clocks-clash ClockInput Control e f = absurd cc
clocks-clash Output r e f = absurd cc
clocks-clash CoverInput r e f = absurd cc
clocks-clash CoverOutput Input e f = absurd cc
clocks-clash CoverOutput ClockInput e f = refl
clocks-clash CoverOutput Output e f = absurd cc
clocks-clash CoverOutput CoverInput e f = absurd cc
clocks-clash CoverOutput CoverOutput e f = refl
clocks-clash CoverOutput LatchInput e f = absurd cc
clocks-clash CoverOutput LatchOutput e f = refl
clocks-clash CoverOutput Control e f = absurd cc
clocks-clash LatchInput r e f = absurd cc
clocks-clash LatchOutput Input e f = absurd cc
clocks-clash LatchOutput ClockInput e f = refl
clocks-clash LatchOutput Output e f = absurd cc
clocks-clash LatchOutput CoverInput e f = absurd cc
clocks-clash LatchOutput CoverOutput e f = refl
clocks-clash LatchOutput LatchInput e f = absurd cc
clocks-clash LatchOutput LatchOutput e f = refl
clocks-clash LatchOutput Control e f = absurd cc
clocks-clash Control r e f = absurd cc

-- LATCHES
init-small : (w : Word) → init_from w ≤ 3
init-small w = at (is_word (codes "0") w) (is_word (codes "1") w) (is_word (codes "2") w)
  where
    at : (a b c : Bool) → (if a then 0 else (if b then 1 else (if c then 2 else 3))) ≤ 3
    at true b c = omega arith
    at false true c = omega arith
    at false false true = omega arith
    at false false false = omega arith

control-fit : (w : Word) → IfSome (control_from w) (λ x. x ≢ codes "NIL")
control-fit w = at (is_word (codes "NIL") w) refl
  where
    named : is_word (codes "NIL") w ≡ false → w ≢ codes "NIL"
    named e is = let bad : true ≡ false = sym (is_word-same (codes "NIL")) ∙ (ap (is_word (codes "NIL")) (sym is) ∙ e) in absurd cc

    at : (b : Bool) → is_word (codes "NIL") w ≡ b → IfSome (if b then None else Some w) (λ x. x ≢ codes "NIL")
    at true e = tt
    at false e = named e

latch-fit : (ws : List Word) → HasInit (latch_from ws) × HasControl (latch_from ws)
latch-fit [] = (tt, tt)
latch-fit (a ∷ []) = (tt, tt)
latch-fit (a ∷ b ∷ []) = (tt, tt)
latch-fit (a ∷ b ∷ c ∷ []) = (init-small c, tt)
latch-fit (a ∷ b ∷ c ∷ d ∷ []) = (tt, control-fit d)
latch-fit (a ∷ b ∷ c ∷ d ∷ e ∷ ws) = (init-small e, control-fit d)

latches-fit : (P : Latch → Type 0) → ((ws : List Word) → P (latch_from ws)) → (lines : List Line) → All P (filter_map latch_in lines)
latches-fit P h [] = All-nil P
latches-fit P h (l ∷ ls) = one l (latches-fit P h ls)
  where
    one : (l : Line) → All P (filter_map latch_in ls) → All P (cons_option (latch_in l) (filter_map latch_in ls))
    one [] rest = rest
    one (w ∷ []) rest = rest
    one (w ∷ a ∷ []) rest = rest
    one (w ∷ a ∷ b ∷ ws) rest = at (is_word (codes ".latch") w)
      where
        at : (t : Bool) → All P (cons_option (if t then Some (latch_from (a ∷ b ∷ ws)) else None) (filter_map latch_in ls))
        at true = All-cons P (latch_from (a ∷ b ∷ ws)) (filter_map latch_in ls) (h (a ∷ b ∷ ws)) rest
        at false = rest

-- COUNTS
tally-true : (x : Word) (ws : List Word) → tally true x ws ≡ times x ws
tally-true x [] = refl
tally-true x (w ∷ ws) = let h : tally true x ws ≡ times x ws = tally-true x ws in omega (arith, h)

tally-false : (x : Word) (ws : List Word) → tally false x ws ≡ 0
tally-false x [] = refl
tally-false x (w ∷ ws) = let h : tally false x ws ≡ 0 = tally-false x ws in omega (arith, h)

module _ (x : Word) (m : Model) (links : List Link) where
  inner-times : times x (inner_names m (outs_of links)) ≡ times x (latch_outputs m.latches) + (times x (outputs_of m.covers) + times x (outs_of links))
  inner-times = let a = times-append x (latch_outputs m.latches) (outputs_of m.covers ++ outs_of links) in let b = times-append x (outputs_of m.covers) (outs_of links) in omega (arith, a, b)

  input-weight : whole_weight of_inputs x m links ≡ times x m.inputs + times x (inner_names m (outs_of links))
  input-weight =
      let a = tally-true x m.inputs in
      let b = tally-false x m.clocks in
      let c = tally-false x m.outputs in
      let d = tally-false x (cover_inputs m.covers) in
      let e = tally-true x (outputs_of m.covers) in
      let f = tally-false x (latch_inputs m.latches) in
      let g = tally-true x (latch_outputs m.latches) in
      let h = tally-false x (filter_map control_of m.latches) in
      let i = tally-false x (ins_of links) in
      let j = tally-true x (outs_of links) in
      omega (arith, inner-times, a, b, c, d, e, f, g, h, i, j)

  clock-weight : whole_weight of_clocks x m links ≡ times x m.clocks + times x (inner_names m (outs_of links))
  clock-weight =
      let a = tally-false x m.inputs in
      let b = tally-true x m.clocks in
      let c = tally-false x m.outputs in
      let d = tally-false x (cover_inputs m.covers) in
      let e = tally-true x (outputs_of m.covers) in
      let f = tally-false x (latch_inputs m.latches) in
      let g = tally-true x (latch_outputs m.latches) in
      let h = tally-false x (filter_map control_of m.latches) in
      let i = tally-false x (ins_of links) in
      let j = tally-true x (outs_of links) in
      omega (arith, inner-times, a, b, c, d, e, f, g, h, i, j)

  driver-weight : whole_weight is_driver x m links ≡ all_times x m (outs_of links)
  driver-weight =
      let a = tally-true x m.inputs in
      let b = tally-true x m.clocks in
      let c = tally-false x m.outputs in
      let d = tally-false x (cover_inputs m.covers) in
      let e = tally-true x (outputs_of m.covers) in
      let f = tally-false x (latch_inputs m.latches) in
      let g = tally-true x (latch_outputs m.latches) in
      let h = tally-false x (filter_map control_of m.latches) in
      let i = tally-false x (ins_of links) in
      let j = tally-true x (outs_of links) in
      omega (arith, inner-times, a, b, c, d, e, f, g, h, i, j)

  reader-weight : whole_weight wants_driver x m links ≡ times x (used_names m ++ ins_of links)
  reader-weight =
      let a = tally-false x m.inputs in
      let b = tally-false x m.clocks in
      let c = tally-true x m.outputs in
      let d = tally-true x (cover_inputs m.covers) in
      let e = tally-false x (outputs_of m.covers) in
      let f = tally-true x (latch_inputs m.latches) in
      let g = tally-false x (latch_outputs m.latches) in
      let h = tally-true x (filter_map control_of m.latches) in
      let i = tally-true x (ins_of links) in
      let j = tally-false x (outs_of links) in
      let k = times-append x (used_names m) (ins_of links) in
      let l = times-append x ((m.outputs ++ cover_inputs m.covers) ++ latch_inputs m.latches) (filter_map control_of m.latches) in
      let n = times-append x (m.outputs ++ cover_inputs m.covers) (latch_inputs m.latches) in
      let o = times-append x m.outputs (cover_inputs m.covers) in
      omega (arith, a, b, c, d, e, f, g, h, i, j, k, l, n, o)

-- THE MODEL
pub drivers-held : (plains : List Module) (name : Word) (body : List (List Spot)) → body_fault nothing_said body ≡ None → (x : Word)
    → 1 ≤ all_times x (model_from name (map words_in_line body)) (outs_of (filter_map (link_of plains) (filter_map call_of body))) → is_among (use_names (flat_map (line_uses plains) body)) x ≡ true
drivers-held plains name body lines x h =
    let a = body-weight is_driver x plains name body (body-fit nothing_said body lines) in
    let b = driver-weight x (model_from name (map words_in_line body)) (filter_map (link_of plains) (filter_map call_of body)) in
    weight-among is_driver x (flat_map (line_uses plains) body) (omega (arith, a, b, h))

module _ (plains : List Module) (name : Word) (body : List (List Spot)) (lines : body_fault nothing_said body ≡ None) (some : AreSome body) (words : AreTokenLines body) (title : is_token name ≡ true)
    (twice : driven_twice_fault [] (flat_map (line_uses plains) body) ≡ None) (undriven : undriven_fault (flat_map (line_uses plains) body) ≡ None) where
  abbrev uses : List Use
  uses = flat_map (line_uses plains) body

  abbrev model : Model
  model = model_from name (map words_in_line body)

  abbrev links : List Link
  links = filter_map (link_of plains) (filter_map call_of body)

  counted : (t : Role → Bool) (x : Word) → weight t x uses ≡ whole_weight t x model links
  counted t x = body-weight t x plains name body (body-fit nothing_said body lines)

  pub model-sound : IsSoundModel model (outs_of links) (ins_of links)
  model-sound = record {
    inputs_once = λ x. let a = counted of_inputs x in let b = input-weight x model links in let c = driven-once of_inputs inputs-clash x [] uses twice (omega arith) in omega (arith, a, b, c);
    clocks_once = λ x. let a = counted of_clocks x in let b = clock-weight x model links in let c = driven-once of_clocks clocks-clash x [] uses twice (omega arith) in omega (arith, a, b, c);
    reads = λ x h.
        let a = counted wants_driver x in
        let b = reader-weight x model links in
        let c = used-weight uses x undriven (omega (arith, a, b, h)) in
        let d = counted is_driver x in
        let e = driver-weight x model links in
        omega (arith, c, d, e);
    tokens = λ x h.
        let a = counted is_driver x in
        let b = driver-weight x model links in
        weight-token is_driver x uses (body-tokens plains nothing_said body lines words) (omega (arith, a, b, h));
    name = title;
    outputs_once = once-distinct model.outputs (λ x. outputs-once nothing_said body lines (λ y. omega arith) x);
    covers = covers-formed nothing_said body lines some;
    inits = latches-fit HasInit (λ ws. (latch-fit ws).0) (map words_in_line body);
    controls = latches-fit HasControl (λ ws. (latch-fit ws).1) (map words_in_line body);
  }
