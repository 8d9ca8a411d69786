-- The decompositions of a model and a care model fit each other.
use Rattle.std.proofs.Common.{List, [], ap, arith, length, refl, subst, sym, ℕ, ◌++◌, ◌∙◌, ◌∷◌, ◌≡◌}
use Rattle.std.specs.Prelude.{None}
use Rattle.std.proofs.lemmas.List.{append-nil}
use Rattle.cover_decompose.specs.Decomposition.{net_of_model}
use Rattle.cover_decompose.specs.StandsFor.{StandsFor}
use Rattle.gate_net.specs.Net.{IsWellFormed as IsNet, Net}
use Rattle.joined_nets.specs.Joined.{ShareSources}
use Rattle.joined_nets.specs.Ready.{IsReady}
use Rattle.rm_base.specs.Words.{Word}
use Rattle.rm_model.specs.Ranks.{first_without_rank}
use Rattle.rm_model.specs.Value.{observed_names, source_names}
use Rattle.rm_model.specs.WellFormed.{IsWellFormed}
use Rattle.rm_model.specs.declared.parts.Model.{Model}
use Rattle.care_opt.specs.EquivalentOn.{HasCareShape, IsCareOf}

pub one_in : {A : Type 0} (xs : List A) → length xs ≡ 1 → (x : A) × (xs ≡ x ∷ [])
one_in [] e = absurd (omega (arith, e))
one_in (x ∷ []) e = (x, refl)
one_in (x ∷ y ∷ xs) e = absurd (omega (arith, e))

pub outputs_are : (c : Model) → HasCareShape c → observed_names c ≡ c.outputs
outputs_are c shape = rw shape.latches (append-nil (c.outputs ++ []) ∙ append-nil c.outputs)

pub inputs_are : (c : Model) → HasCareShape c → source_names c ≡ c.inputs
inputs_are c shape = rw (shape.latches, shape.clocks) (append-nil (c.inputs ++ []) ∙ append-nil c.inputs)

module _ (stands : (m : Model) → IsWellFormed m → first_without_rank m ≡ None → StandsFor (net_of_model m) m) (formed : (m : Model) → IsNet (net_of_model m)) (m c : Model) (ready : IsReady m) (care_ready : IsReady c) (cares : IsCareOf m c) where
  ours : StandsFor (net_of_model m) m
  ours = stands m ready.formed ready.ranked

  theirs : StandsFor (net_of_model c) c
  theirs = stands c care_ready.formed care_ready.ranked

  pub share_of : ShareSources (net_of_model m) (net_of_model c)
  share_of = record {
    first = formed m;
    second = formed c;
    sources = ours.sources ∙ (ap (λ (l : List Word). length l) cares.sources ∙ sym theirs.sources);
  }

  pub one_output : length (net_of_model c).observed ≡ 1
  one_output = theirs.observed ∙ (ap (λ (l : List Word). length l) (outputs_are c cares.shape) ∙ cares.shape.output)

  pub single_of : (d : ℕ) × ((net_of_model c).observed ≡ d ∷ [])
  single_of = one_in (net_of_model c).observed one_output

  -- the same of graphs whose nets are given by equations
  module _ (v w : Net) (is : v ≡ net_of_model m) (are : w ≡ net_of_model c) where
    pub share_made : ShareSources v w
    share_made = subst (λ (x : Net). ShareSources x w) (sym is) (subst (λ (y : Net). ShareSources (net_of_model m) y) (sym are) share_of)

    pub one_made : length w.observed ≡ 1
    one_made = ap (λ (x : Net). length x.observed) are ∙ one_output
