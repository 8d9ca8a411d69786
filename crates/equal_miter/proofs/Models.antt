-- What the miter of two models tells of them.
use Rattle.std.proofs.Common.{Bool, List, [], ap, arith, false, length, map, refl, suc, sym, true, ℕ, ◌∙◌, ◌∷◌, ◌≡◌, ◌≢◌, ◌⊎◌, inl, inr, subst}
use Rattle.std.specs.Prelude.{None, Some, slice_get, ◌↔◌}
use Rattle.cover_decompose.specs.Spelled.{plain_net}
use Rattle.cover_decompose.specs.StandsFor.{StandsFor}
use Rattle.gate_net.specs.Faults.{IsTest, assigned}
use Rattle.gate_net.specs.Laws.{ValuesExist}
use Rattle.gate_net.specs.Net.{IsAcyclic, IsWellFormed as IsWellFormedNet, source_count}
use Rattle.gate_net.specs.Values.{IsUndetected}
use Rattle.rm_base.specs.Words.{Word}
use Rattle.rm_model.specs.Ranks.{first_without_rank}
use Rattle.rm_model.specs.Value.{IsConsistent, IsRanked, observed_names, source_names}
use Rattle.rm_model.specs.WellFormed.{IsWellFormed, driven_names, is_distinct}
use Rattle.rm_model.specs.declared.parts.Model.{Model}
use Rattle.rm_base.proofs.Public.{map_at, map_found, one_stands, same-in-map}
use Rattle.joined_nets.proofs.Public.{gives_names}
use Rattle.equal_miter.proofs.Counting.{miter_sources}
use Rattle.equal_miter.specs.Equal.{AreComparable, DifferBy, SameFunction, models_fault, models_miter}
use Rattle.equal_miter.specs.Laws.{AreAlike, DifferUnder, MitersTell}
use Rattle.equal_miter.specs.ModelLaws.{ApartIsNotSame}

-- two lists of values agree, or differ at some place
agree_or_differ : (v w : ℕ → Bool) (xs ys : List ℕ) → length xs ≡ length ys
    → (map v xs ≡ map w ys) ⊎ ((k : ℕ) × ((x : ℕ) × ((y : ℕ) × ((slice_get xs k ≡ Some x) × ((slice_get ys k ≡ Some y) × (v x ≢ w y))))))
agree_or_differ v w [] [] e = inl refl
agree_or_differ v w [] (y ∷ ys) e = absurd (omega (arith, e))
agree_or_differ v w (x ∷ xs) [] e = absurd (omega (arith, e))
agree_or_differ v w (x ∷ xs) (y ∷ ys) e = by_head (v x) (w y) refl refl (agree_or_differ v w xs ys (omega (arith, e)))
  where
    by_head : (b c : Bool) → v x ≡ b → w y ≡ c → (map v xs ≡ map w ys) ⊎ ((k : ℕ) × ((x : ℕ) × ((y : ℕ) × ((slice_get xs k ≡ Some x) × ((slice_get ys k ≡ Some y) × (v x ≢ w y))))))
        → (map v (x ∷ xs) ≡ map w (y ∷ ys)) ⊎ ((k : ℕ) × ((z : ℕ) × ((u : ℕ) × ((slice_get (x ∷ xs) k ≡ Some z) × ((slice_get (y ∷ ys) k ≡ Some u) × (v z ≢ w u))))))
    by_head false true is other rest = inr (0, (x, (y, (refl, (refl, λ e. let bad : false ≡ true = sym is ∙ (e ∙ other) in absurd cc)))))
    by_head true false is other rest = inr (0, (x, (y, (refl, (refl, λ e. let bad : true ≡ false = sym is ∙ (e ∙ other) in absurd cc)))))
    by_head false false is other (inl same) = inl (rw (is, other, same) refl)
    by_head true true is other (inl same) = inl (rw (is, other, same) refl)
    by_head false false is other (inr (k, (z, (u, (a, (b, ne)))))) = inr (suc k, (z, (u, (a, (b, ne)))))
    by_head true true is other (inr (k, (z, (u, (a, (b, ne)))))) = inr (suc k, (z, (u, (a, (b, ne)))))

-- what the laws of the lower crates say of every model
pub record Given : Type 1 where
  pub tell : MitersTell
  pub exist : ValuesExist
  pub stands : (m : Model) → IsWellFormed m → first_without_rank m ≡ None → StandsFor (plain_net m) m
  pub formed : (m : Model) → IsWellFormedNet (plain_net m)
  pub ranked : (m : Model) → is_distinct (driven_names m) ≡ true → (IsRanked m ↔ (first_without_rank m ≡ None))
  pub valuation : (m : Model) (values : List Bool) → IsWellFormed m → IsRanked m → length values ≡ length (source_names m) → ((v : Word → Bool) × (IsConsistent m v × (map v (source_names m) ≡ values)))

module _ (given : Given) (m n : Model) (h : AreComparable m n) where
  ours : StandsFor (plain_net m) m
  ours = given.stands m h.formed h.ranks

  theirs : StandsFor (plain_net n) n
  theirs = given.stands n h.other_formed h.other_ranks

  pub alike : AreAlike (plain_net m) (plain_net n)
  alike = record {
    first = given.formed m;
    second = given.formed n;
    sources = ours.sources ∙ (ap (λ (l : List Word). length l) h.sources ∙ sym theirs.sources);
    places = ours.observed ∙ (ap (λ (l : List Word). length l) h.observed ∙ sym theirs.observed);
  }

  pub sources_of_miter : source_count (models_miter m n) ≡ length (source_names m)
  sources_of_miter = miter_sources (plain_net m) (plain_net n) alike ∙ ours.sources

  is_ranked : IsRanked m
  is_ranked = (given.ranked m h.formed.driven_once).1 h.ranks

  other_is_ranked : IsRanked n
  other_is_ranked = (given.ranked n h.other_formed.driven_once).1 h.other_ranks

  module _ (acyclic : IsAcyclic (models_miter m n)) where
    agrees : IsUndetected (models_miter m n) (models_fault m n) → (v w : Word → Bool) → IsConsistent m v → IsConsistent n w → map v (source_names m) ≡ map w (source_names n) → map v (observed_names m) ≡ map w (observed_names n)
    agrees undetected v w right right' e =
        let bits : List Bool = map v (source_names m) in
        let a : ℕ → Bool = assigned bits in
        let u = given.exist (plain_net m) (given.formed m).acyclic a in
        let t = given.exist (plain_net n) (given.formed n).acyclic a in
        let mine : map u.0 (plain_net m).observed ≡ map v (observed_names m) = ours.values a u.0 v u.1.0 right (gives_names m v bits refl) in
        let other : map t.0 (plain_net n).observed ≡ map w (observed_names n) = theirs.values a t.0 w t.1.0 right' (gives_names n w bits (sym e)) in
        elim (agree_or_differ u.0 t.0 (plain_net m).observed (plain_net n).observed alike.places) [
          | inl same ↦ sym mine ∙ (same ∙ other)
          | inr d ↦
              let differ : DifferUnder (plain_net m) (plain_net n) a = record {
                values = u.0;
                others = t.0;
                good = u.1.0;
                other_good = t.1.0;
                place = d.0;
                differs = record { ours = d.1.0; theirs = d.1.1.0; ours_is = d.1.1.1.0; theirs_is = d.1.1.1.1.0; differs = d.1.1.1.1.1 };
              } in
              absurd (undetected a ((given.tell (plain_net m) (plain_net n) a alike acyclic).1 differ))
        ]

    pub same_function : IsUndetected (models_miter m n) (models_fault m n) → SameFunction m n
    same_function undetected = record {
      sources = h.sources;
      observed = h.observed;
      ranked = is_ranked;
      other_ranked = other_is_ranked;
      agree = agrees undetected;
    }

    -- the names at the place where the nets differ
    pub told_apart : (bits : List Bool) → IsTest (models_miter m n) (models_fault m n) bits → DifferBy m n bits
    told_apart bits test =
        let d : DifferUnder (plain_net m) (plain_net n) (assigned bits) = (given.tell (plain_net m) (plain_net n) (assigned bits) alike acyclic).0 test.detects in
        let p = d.differs in
        let size : length bits ≡ length (source_names m) = test.size ∙ (miter_sources (plain_net m) (plain_net n) alike ∙ ours.sources) in
        let other_size : length bits ≡ length (source_names n) = size ∙ ap (λ (l : List Word). length l) h.sources in
        let v = given.valuation m bits h.formed is_ranked size in
        let w = given.valuation n bits h.other_formed other_is_ranked other_size in
        let mine : map d.values (plain_net m).observed ≡ map v.0 (observed_names m) = ours.values (assigned bits) d.values v.0 d.good v.1.0 (gives_names m v.0 bits v.1.1) in
        let other : map d.others (plain_net n).observed ≡ map w.0 (observed_names n) = theirs.values (assigned bits) d.others w.0 d.other_good w.1.0 (gives_names n w.0 bits w.1.1) in
        let at : slice_get (map v.0 (observed_names m)) d.place ≡ Some (d.values p.ours) = subst (λ (l : List Bool). slice_get l d.place ≡ Some (d.values p.ours)) mine (map_at d.values (plain_net m).observed d.place p.ours p.ours_is) in
        let x = map_found v.0 (observed_names m) d.place (d.values p.ours) at in
        let at' : slice_get (map w.0 (observed_names n)) d.place ≡ Some (d.others p.theirs) = subst (λ (l : List Bool). slice_get l d.place ≡ Some (d.others p.theirs)) other (map_at d.others (plain_net n).observed d.place p.theirs p.theirs_is) in
        let y = map_found w.0 (observed_names n) d.place (d.others p.theirs) at' in
        let same : x.0 ≡ y.0 = one_stands (observed_names m) d.place x.0 y.0 x.1.0 (ap (λ (l : List Word). slice_get l d.place) h.observed ∙ y.1.0) in
        record {
          values = v.0;
          others = w.0;
          consistent = v.1.0;
          other_consistent = w.1.0;
          given = v.1.1;
          other_given = w.1.1;
          place = d.place;
          name = x.0;
          is_observed = x.1.0;
          differs = λ e. p.differs (sym x.1.1 ∙ (e ∙ (ap w.0 same ∙ y.1.1)));
        }

pub apart_is_not_same : ApartIsNotSame
apart_is_not_same m n bits d same =
    let agree : map d.values (observed_names m) ≡ map d.others (observed_names n) = same.agree d.values d.others d.consistent d.other_consistent (d.given ∙ sym d.other_given) in
    let here : map d.values (observed_names m) ≡ map d.others (observed_names m) = agree ∙ ap (λ (l : List Word). map d.others l) (sym same.observed) in
    d.differs (same-in-map d.values d.others (observed_names m) d.place d.name here d.is_observed)
