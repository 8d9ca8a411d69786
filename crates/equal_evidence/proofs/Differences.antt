-- What tells two models apart detects the fault of their miter.
use Rattle.std.proofs.Common.{Bool, List, [], ap, arith, false, length, map, subst, suc, sym, zero, ℕ, ◌+◌, ◌-◌, ◌∙◌, ◌∷◌, ◌≡◌}
use Rattle.std.specs.Prelude.{None, Some, slice_get, slice_index_or}
use Rattle.std.proofs.lemmas.List.{length-map}
use Rattle.cover_decompose.specs.Spelled.{plain_net}
use Rattle.cover_decompose.specs.StandsFor.{SameAssignment, StandsFor}
use Rattle.gate_net.specs.Faults.{IsTest, assigned}
use Rattle.gate_net.specs.Laws.{ValuesExist}
use Rattle.gate_net.specs.Net.{IsAcyclic, IsWellFormed as IsWellFormedNet, source_count}
use Rattle.rm_base.specs.Words.{Word}
use Rattle.rm_model.specs.Ranks.{first_without_rank}
use Rattle.rm_model.specs.Value.{observed_names, source_names}
use Rattle.rm_model.specs.WellFormed.{IsWellFormed}
use Rattle.rm_model.specs.declared.parts.Model.{Model}
use Rattle.rm_base.proofs.Public.{map_at, map_found}
use Rattle.equal_miter.specs.Equal.{AreComparable, DifferBy, models_fault, models_miter}
use Rattle.equal_miter.specs.Laws.{AreAlike, DifferUnder, MitersTell}
use Rattle.equal_miter.specs.ModelLaws.{MitersHaveSources}

value_of_item : (v : Word → Bool) (xs : List Word) (k : ℕ) (x : Word) → slice_get xs k ≡ Some x → slice_index_or (map v xs) k false ≡ v x
value_of_item v [] k x e = absurd cc
value_of_item v (y ∷ xs) zero x e = let same : y ≡ x = cc in ap v same
value_of_item v (y ∷ xs) (suc k) x e = value_of_item v xs k x e

-- the assignment by a vector gives each source its name's value
gives_names : (m : Model) (v : Word → Bool) (bits : List Bool) → map v (source_names m) ≡ bits → SameAssignment m (assigned bits) v
gives_names m v bits e k x at =
    let place : (2 + k) - 2 ≡ k = omega arith in
    ap (λ (i : ℕ). slice_index_or bits i false) place ∙ (ap (λ (l : List Bool). slice_index_or l k false) (sym e) ∙ value_of_item v (source_names m) k x at)

-- what the laws of the lower crates say of every model
pub record Given : Type 1 where
  pub tell : MitersTell
  pub sources : MitersHaveSources
  pub exist : ValuesExist
  pub stands : (m : Model) → IsWellFormed m → first_without_rank m ≡ None → StandsFor (plain_net m) m
  pub formed : (m : Model) → IsWellFormedNet (plain_net m)

module _ (given : Given) (m n : Model) (h : AreComparable m n) (acyclic : IsAcyclic (models_miter m n)) (bits : List Bool) (d : DifferBy m n bits) where
  ours : StandsFor (plain_net m) m
  ours = given.stands m h.formed h.ranks

  theirs : StandsFor (plain_net n) n
  theirs = given.stands n h.other_formed h.other_ranks

  alike : AreAlike (plain_net m) (plain_net n)
  alike = record {
    first = given.formed m;
    second = given.formed n;
    sources = ours.sources ∙ (ap (λ (l : List Word). length l) h.sources ∙ sym theirs.sources);
    places = ours.observed ∙ (ap (λ (l : List Word). length l) h.observed ∙ sym theirs.observed);
  }

  differ : DifferUnder (plain_net m) (plain_net n) (assigned bits)
  differ =
      let a : ℕ → Bool = assigned bits in
      let u = given.exist (plain_net m) (given.formed m).acyclic a in
      let t = given.exist (plain_net n) (given.formed n).acyclic a in
      let mine : map u.0 (plain_net m).observed ≡ map d.values (observed_names m) = ours.values a u.0 d.values u.1.0 d.consistent (gives_names m d.values bits d.given) in
      let other : map t.0 (plain_net n).observed ≡ map d.others (observed_names n) = theirs.values a t.0 d.others t.1.0 d.other_consistent (gives_names n d.others bits d.other_given) in
      let there : slice_get (observed_names n) d.place ≡ Some d.name = ap (λ (l : List Word). slice_get l d.place) (sym h.observed) ∙ d.is_observed in
      let x = map_found u.0 (plain_net m).observed d.place (d.values d.name) (subst (λ (l : List Bool). slice_get l d.place ≡ Some (d.values d.name)) (sym mine) (map_at d.values (observed_names m) d.place d.name d.is_observed)) in
      let y = map_found t.0 (plain_net n).observed d.place (d.others d.name) (subst (λ (l : List Bool). slice_get l d.place ≡ Some (d.others d.name)) (sym other) (map_at d.others (observed_names n) d.place d.name there)) in
      record {
        values = u.0;
        others = t.0;
        good = u.1.0;
        other_good = t.1.0;
        place = d.place;
        differs = record { ours = x.0; theirs = y.0; ours_is = x.1.0; theirs_is = y.1.0; differs = λ e. d.differs (sym x.1.1 ∙ (e ∙ y.1.1)) };
      }

  pub differences_are_tests : IsTest (models_miter m n) (models_fault m n) bits
  differences_are_tests = record {
    size = ap (λ (l : List Bool). length l) (sym d.given) ∙ (length-map (source_names m) d.values ∙ sym (given.sources m n h));
    detects = (given.tell (plain_net m) (plain_net n) (assigned bits) alike acyclic).1 differ;
  }
