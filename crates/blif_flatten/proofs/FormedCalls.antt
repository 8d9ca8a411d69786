-- The instances of modules that are sound are sound.
use Rattle.std.proofs.Common.{◌≡◌, ◌≤◌, ◌<◌, ◌+◌, ℕ, zero, suc, List, [], ◌∷◌, ◌++◌, length, true, inl, inr, Option, Some, refl, sym, ap, ◌∙◌, subst, arith}
use Rattle.std.specs.Prelude.{slice_get}
use Rattle.std.specs.List.{list_all}
use Rattle.std.proofs.lemmas.Bool.{cases_lt}
use Rattle.rm_base.specs.Words.{Word}
use Rattle.rm_base.proofs.Public.{stands_below}
use Rattle.rm_model.specs.Value.{is_among}
use Rattle.rm_model.specs.WellFormed.{is_token}
use Rattle.rm_model.specs.declared.parts.Model.{Model}
use Rattle.blif_flatten.specs.declared.modules.Link.{Link}
use Rattle.blif_flatten.specs.declared.modules.Module.{Module}
use Rattle.blif_flatten.specs.CallFaults.{inward}
use Rattle.blif_flatten.specs.Instances.{Calls, Done, Then, all_calls, then_call, whole}
use Rattle.blif_flatten.specs.Flat.{input_pins, output_pins}
use Rattle.blif_flatten.specs.Laws.{AreRankedBy}
use Rattle.blif_flatten.proofs.FormedCounts.{times, times-append, all-times, times-among}
use Rattle.blif_flatten.proofs.FormedTree.{AreOnce, actuals, formals, inner_names, level_ins, level_outs, own_names}
use Rattle.blif_flatten.proofs.FormedHeld.{AreDriven, IsDriven, read_names}
use Rattle.blif_flatten.proofs.FormedTokens.{AreOwnTokens}
use Rattle.blif_flatten.proofs.FormedFlat.{AreShaped, IsSoundModel, all_times}
use Rattle.blif_flatten.proofs.Walks.{whole-again}

-- the actuals of the output formals of these calls
abbrev pub outs_of : List Link → List Word
outs_of [] = []
outs_of (l ∷ ls) = actuals (output_pins l) ++ outs_of ls

abbrev pub ins_of : List Link → List Word
ins_of [] = []
ins_of (l ∷ ls) = actuals (input_pins l) ++ ins_of ls

-- the call gives each input of the called model once
pub record IsSoundLink (l : Link) (m : Model) : Type 0 where
  pub once : (x : Word) → times x (formals (input_pins l)) ≤ 1
  pub inwards : (x : Word) → 1 ≤ times x (formals (input_pins l)) → 1 ≤ times x (inward m)
  pub given : (x : Word) → 1 ≤ times x (inward m) → 1 ≤ times x (formals (input_pins l))
  pub outward : list_all (is_among m.outputs) (formals (output_pins l)) ≡ true

pub record AreSoundModules (modules : List Module) : Type 0 where
  pub each : (k : ℕ) (m : Module) → slice_get modules k ≡ Some m → IsSoundModel m.model (outs_of m.links) (ins_of m.links)
  pub links : (k j : ℕ) (m d : Module) (l : Link) → slice_get modules k ≡ Some m → slice_get m.links j ≡ Some l → slice_get modules l.called ≡ Some d → IsSoundLink l d.model

abbrev pub AreSoundCalls : Calls → Type 0
AreSoundCalls Done = Unit {0}
AreSoundCalls (Then l m inside behind) = (IsSoundLink l m.model × IsSoundModel m.model (level_outs inside) (level_ins inside)) × (AreSoundCalls inside × AreSoundCalls behind)

-- AN INSTANCE
module _ (l : Link) (m : Module) (inside : Calls) (link : IsSoundLink l m.model) (model : IsSoundModel m.model (level_outs inside) (level_ins inside)) where
  own-once : (x : Word) → times x (own_names l m inside) ≤ 1
  own-once x =
      let all = times-append x (formals (input_pins l)) (inner_names m.model (level_outs inside)) in
      let a = model.inputs_once x in
      let b = model.clocks_once x in
      let c = link.once x in
      elim (cases_lt (times x (formals (input_pins l))) 1) [
        | inl none ↦ omega (arith, all, a, none)
        | inr some ↦ let there = link.inwards x some in let both = times-append x m.model.inputs m.model.clocks in omega (arith, all, a, b, c, there, both)
      ]

  all-own : (x : Word) → 1 ≤ all_times x m.model (level_outs inside) → 1 ≤ times x (own_names l m inside)
  all-own x h =
      let all = times-append x (formals (input_pins l)) (inner_names m.model (level_outs inside)) in
      let both = times-append x m.model.inputs m.model.clocks in
      elim (cases_lt (times x (inward m.model)) 1) [
        | inl none ↦ omega (arith, all, both, none, h)
        | inr some ↦ let there = link.given x some in omega (arith, all, there)
      ]

  own-all : (x : Word) → 1 ≤ times x (own_names l m inside) → 1 ≤ all_times x m.model (level_outs inside)
  own-all x h =
      let all = times-append x (formals (input_pins l)) (inner_names m.model (level_outs inside)) in
      let both = times-append x m.model.inputs m.model.clocks in
      elim (cases_lt (times x (formals (input_pins l))) 1) [
        | inl none ↦ omega (arith, all, none, h)
        | inr some ↦ let there = link.inwards x some in omega (arith, there, both)
      ]

  own-driven : IsDriven l m inside
  own-driven = record {
    reads = all-times (is_among (own_names l m inside)) (read_names m inside) (λ x h. times-among x (own_names l m inside) (all-own x (model.reads x h)));
    outward = link.outward;
  }

  own-tokens : list_all is_token (own_names l m inside) ≡ true
  own-tokens = all-times is_token (own_names l m inside) (λ x h. model.tokens x (own-all x h))

pub calls-once : (calls : Calls) → AreSoundCalls calls → AreOnce calls
calls-once Done h = tt
calls-once (Then l m inside behind) h = (own-once l m inside h.0.0 h.0.1, (calls-once inside h.1.0, calls-once behind h.1.1))

pub calls-driven : (calls : Calls) → AreSoundCalls calls → AreDriven calls
calls-driven Done h = tt
calls-driven (Then l m inside behind) h = (own-driven l m inside h.0.0 h.0.1, (calls-driven inside h.1.0, calls-driven behind h.1.1))

pub calls-tokens : (calls : Calls) → AreSoundCalls calls → AreOwnTokens calls
calls-tokens Done h = tt
calls-tokens (Then l m inside behind) h = (own-tokens l m inside h.0.0 h.0.1, (calls-tokens inside h.1.0, calls-tokens behind h.1.1))

pub calls-shaped : (calls : Calls) → AreSoundCalls calls → AreShaped calls
calls-shaped Done h = tt
calls-shaped (Then l m inside behind) h = ((h.0.1.covers, h.0.1.inits), (calls-shaped inside h.1.0, calls-shaped behind h.1.1))

-- THE TREE OF RANKED MODULES
module _ (modules : List Module) (rank : ℕ → ℕ) (ranked : AreRankedBy modules rank) where
  -- each call goes to a module of the list
  abbrev AreKnown : List Link → Type 0
  AreKnown ls = (j : ℕ) (l : Link) → slice_get ls j ≡ Some l → l.called < length modules

  level-all : (inside : List Link → Calls) (ls : List Link) → AreKnown ls → (level_outs (all_calls inside modules ls) ≡ outs_of ls) × (level_ins (all_calls inside modules ls) ≡ ins_of ls)
  level-all inside [] known = (refl, refl)
  level-all inside (l ∷ ls) known =
      let there = stands_below modules l.called (known zero l refl) in
      let rest = level-all inside ls (λ j a at. known (suc j) a at) in
      let first : all_calls inside modules (l ∷ ls) ≡ Then l there.0 (inside there.0.links) (all_calls inside modules ls) = ap (λ (o : Option Module). then_call l inside o (all_calls inside modules ls)) there.1 in (
        ap level_outs first ∙ ap (λ (ws : List Word). actuals (output_pins l) ++ ws) rest.0,
        ap level_ins first ∙ ap (λ (ws : List Word). actuals (input_pins l) ++ ws) rest.1,
      )

  pub level-whole : (k : ℕ) (m : Module) → slice_get modules k ≡ Some m → (level_outs (whole modules m.links) ≡ outs_of m.links) × (level_ins (whole modules m.links) ≡ ins_of m.links)
  level-whole k m at =
      let again = whole-again modules rank ranked k m at in
      let level = level-all (whole modules) m.links (λ j l there. ranked.known k j m l at there) in
      (ap level_outs again ∙ level.0, ap level_ins again ∙ level.1)

  module _ (sound : AreSoundModules modules) where
    pub model-whole : (k : ℕ) (m : Module) → slice_get modules k ≡ Some m → IsSoundModel m.model (level_outs (whole modules m.links)) (level_ins (whole modules m.links))
    model-whole k m at =
        let level = level-whole k m at in
        subst (λ (ws : List Word). IsSoundModel m.model ws (level_ins (whole modules m.links))) (sym level.0)
        (subst (λ (ws : List Word). IsSoundModel m.model (outs_of m.links) ws) (sym level.1) (sound.each k m at))

    sound-all : (k : ℕ) (m : Module) → slice_get modules k ≡ Some m → ((j : ℕ) (d : Module) → slice_get modules j ≡ Some d → rank j < rank k → AreSoundCalls (whole modules d.links))
        → (ls : List Link) → ((j : ℕ) (l : Link) → slice_get ls j ≡ Some l → (i : ℕ) × (slice_get m.links i ≡ Some l)) → AreSoundCalls (all_calls (whole modules) modules ls)
    sound-all k m at below [] from = tt
    sound-all k m at below (l ∷ ls) from =
        let place = from zero l refl in
        let there = stands_below modules l.called (ranked.known k place.0 m l at place.1) in
        let rest = sound-all k m at below ls (λ j a here. from (suc j) a here) in
        let first : all_calls (whole modules) modules (l ∷ ls) ≡ Then l there.0 (whole modules there.0.links) (all_calls (whole modules) modules ls) = ap (λ (o : Option Module). then_call l (whole modules) o (all_calls (whole modules) modules ls)) there.1 in
        subst AreSoundCalls (sym first) (
          (sound.links k place.0 m there.0 l at place.1 there.1, model-whole l.called there.0 there.1),
          (below l.called there.0 there.1 (ranked.lower k place.0 m l at place.1), rest),
        )

    sound-calls : (n k : ℕ) (m : Module) → slice_get modules k ≡ Some m → rank k < n → AreSoundCalls (whole modules m.links)
    sound-calls zero k m at low = absurd (omega (arith, low))
    sound-calls (suc n) k m at low =
        subst AreSoundCalls (sym (whole-again modules rank ranked k m at))
        (sound-all k m at (λ j d there less. sound-calls n j d there (omega (arith, less, low))) m.links (λ j l here. (j, here)))

    pub sound-whole : (k : ℕ) (m : Module) → slice_get modules k ≡ Some m → AreSoundCalls (whole modules m.links)
    sound-whole k m at = sound-calls (suc (rank k)) k m at (omega arith)
