-- The net to which accepted steps lead fits the model, and its model computes what the model does.
use Rattle.std.proofs.Common.{◌≡◌, ◌<◌, ◌+◌, ◌-◌, ℕ, zero, suc, Bool, false, List, [], ◌∷◌, map, length, refl, sym, subst, ◌∙◌, ap, arith}
use Rattle.std.specs.Prelude.{Some, slice_get, unwrap_or}
use Rattle.std.proofs.lemmas.Option.{slice_get_within}
use Rattle.std.proofs.lemmas.List.{length-map}
use Rattle.rm_base.specs.Words.{Word}
use Rattle.rm_model.specs.Value.{source_names, observed_names, IsConsistent, IsRanked, Equivalent}
use Rattle.rm_model.specs.declared.parts.Model.{Model}
use Rattle.gate_net.specs.declared.Kind.TheVariants.{Source}
use Rattle.gate_net.specs.Net.{Net, node_at, plain_node, source_count, IsWellFormed}
use Rattle.gate_net.specs.Laws.{ValuesExist}
use Rattle.wire_edit.specs.Tests.{is_gate}
use Rattle.cover_decompose.specs.Decomposition.{net_of_model}
use Rattle.cover_decompose.specs.StandsFor.{SameAssignment}
use Rattle.graph_to_model.specs.NetModel.{model_of_net}
use Rattle.graph_to_model.specs.Fits.{Fits}
use Rattle.graph_to_model.specs.Laws.{IsModelOf}
use Rattle.journal_text.specs.Accepted.{Keeps}
use Rattle.window_parts.specs.Inner.Laws.{IsDecomposed}

no_gate_below : (net : Net) → IsWellFormed net → (x : ℕ) → x < 2 + source_count net → is_gate net x ≡ false
no_gate_below net formed zero h = rw formed.constants.zero_is refl
no_gate_below net formed (suc zero) h = rw formed.constants.one_is refl
no_gate_below net formed (suc (suc k)) h =
    let place : 2 + k ≡ suc (suc k) = omega arith in
    let plain : node_at net (suc (suc k)) ≡ plain_node Source = subst (λ (z : ℕ). node_at net z ≡ plain_node Source) place (formed.sources.first k (omega arith)) in
    rw plain refl

-- values of the sources by node number
abbrev given : Model → (Word → Bool) → ℕ → Bool
given m v n = v (unwrap_or (slice_get (source_names m) (n - 2)) [])

given_same : (m : Model) (v : Word → Bool) → SameAssignment m (given m v) v
given_same m v k x e = let back : 2 + k - 2 ≡ k = omega arith in rw (back, e) refl

agree_at : (v w : Word → Bool) (xs : List Word) → map v xs ≡ map w xs → (k : ℕ) (x : Word) → slice_get xs k ≡ Some x → v x ≡ w x
agree_at v w [] h zero x e = absurd cc
agree_at v w [] h (suc k) x e = absurd cc
agree_at v w (y ∷ ys) h zero x e = let same : y ≡ x = cc in let first : v y ≡ w y = cc in ap v (sym same) ∙ (first ∙ ap w same)
agree_at v w (y ∷ ys) h (suc k) x e = agree_at v w ys (cc) k x e

module _ (exist : ValuesExist) (m : Model) (last : Net) (parts : IsDecomposed m) (stay : Keeps (net_of_model m) last) where
  same_count : length last.observed ≡ length (net_of_model m).observed
  same_count =
      let a : ℕ → Bool = λ x. false in
      let one = exist (net_of_model m) parts.formed.acyclic a in
      let two = exist last stay.form.acyclic a in
      let places = stay.values a one.0 two.0 one.1.0 two.1.0 in
      sym (length-map last.observed two.0) ∙ (sym (ap length places) ∙ length-map (net_of_model m).observed one.0)

  pub fits : Fits last m
  fits = record {
    sources = stay.sources ∙ parts.stands.sources;
    observed = same_count ∙ parts.stands.observed;
    points = record {
      same = λ i j x e f. stay.observed.together i j (parts.points.same i j x e f);
      own = λ i k x e f.
          let within : k < length (source_names m) = slice_get_within (source_names m) k x f in
          let count : source_count (net_of_model m) ≡ length (source_names m) = parts.stands.sources in
          stay.observed.stays i (2 + k) (parts.points.own i k x e f) (no_gate_below (net_of_model m) parts.formed (2 + k) (omega arith));
    };
  }

  agree : IsModelOf last m → (v w : Word → Bool) → IsConsistent m v → IsConsistent (model_of_net m last) w → map v (source_names m) ≡ map w (source_names m) → map v (observed_names m) ≡ map w (observed_names m)
  agree is v w cv cw same =
      let a = given m v in
      let one = exist (net_of_model m) parts.formed.acyclic a in
      let two = exist last stay.form.acyclic a in
      let first = parts.stands.values a one.0 v one.1.0 cv (given_same m v) in
      let second = is.stands.values a two.0 w two.1.0 cw (λ k x e. given_same m v k x e ∙ agree_at v w (source_names m) same k x e) in
      sym first ∙ (stay.values a one.0 two.0 one.1.0 two.1.0 ∙ second)

  -- its model gives the outputs and the latch pins of the original
  pub equivalent : IsModelOf last m → IsRanked m → Equivalent m (model_of_net m last)
  equivalent is ranked = record {
    name = refl;
    inputs = refl;
    outputs = refl;
    clocks = refl;
    latches = refl;
    ranked = ranked;
    other_ranked = is.ranked;
    agree = agree is;
  }
