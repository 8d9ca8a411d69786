-- What a well-formed model's names and ranks give to whoever takes its covers in order.
use Rattle.std.proofs.Common.{◌≡◌, ℕ, ◌<◌, List, ◌++◌, map, length, Bool, true, Option, Some, None, sym, ap, ◌∙◌, subst}
use Rattle.std.specs.Prelude.{slice_get, All, position, is_none}
use Rattle.std.specs.List.{flat_map, filter_map}
use Rattle.rm_model.specs.Value.{is_among, source_names, observed_names, control_of, IsConsistent, outputs_of}
use Rattle.rm_model.specs.WellFormed.{is_distinct, driven_names, IsWellFormed}
use Rattle.rm_model.specs.Ranks.{rank_at, ranks_of, first_without_rank}
use Rattle.rm_model.specs.Inner.Numbers.{IsFixed}
use Rattle.rm_model.specs.Inner.Search.{State, IsIn, IsOrder, IsSound}
use Rattle.rm_model.specs.declared.parts.Cover.{Cover}
use Rattle.rm_model.specs.declared.parts.Latch.{Latch}
use Rattle.rm_model.specs.declared.parts.Model.{Model}
use Rattle.rm_model.proofs.CoverLemmas.{distinct-right}
use Rattle.rm_model.proofs.NameLemmas.{list_all-inputs}
use Rattle.rm_model.proofs.RankedLaws.{none-some, none-ranked}
use Rattle.rm_model.proofs.RankingLemmas.{fixed-ranks}
use Rattle.rm_model.proofs.SearchLemmas.{order-known}
use Rattle.rm_model.proofs.ValuationLaws.{valuation-exists}
use Rattle.rm_base.proofs.Public.{all_from_places, list_all-parts, list_all-at, list_all-join}
use Rattle.rm_base.specs.Words.{Word}

module _ (m : Model) (formed : IsWellFormed m) where
  inputs-driven : All (λ (c : Cover). All (λ x. is_among (driven_names m) x ≡ true) c.inputs) m.covers
  inputs-driven =
      let test : Word → Bool = is_among (driven_names m) in
      let front = (list_all-parts test ((m.outputs ++ flat_map (λ (c : Cover). c.inputs) m.covers) ++ map (λ (l : Latch). l.input) m.latches) (filter_map control_of m.latches) formed.all_driven).0 in
      let middle = (list_all-parts test (m.outputs ++ flat_map (λ (c : Cover). c.inputs) m.covers) (map (λ (l : Latch). l.input) m.latches) front).0 in
      let covers = (list_all-parts test m.outputs (flat_map (λ (c : Cover). c.inputs) m.covers) middle).1 in
      all_from_places (λ (c : Cover). All (λ x. is_among (driven_names m) x ≡ true) c.inputs) m.covers (λ k c there.
      all_from_places (λ (x : Word). is_among (driven_names m) x ≡ true) c.inputs (λ p x at. list_all-at test c.inputs p x (list_all-inputs test m.covers k c covers there) at))

  pub cover-inputs-driven : (names : List Word) (covers : List Cover) → names ≡ source_names m → covers ≡ m.covers → All (λ (c : Cover). All (λ x. is_among (names ++ outputs_of covers) x ≡ true) c.inputs) covers
  cover-inputs-driven names covers e f =
      subst (λ (cs : List Cover). All (λ (c : Cover). All (λ x. is_among (names ++ outputs_of cs) x ≡ true) c.inputs) cs) (sym f)
      (subst (λ (ns : List Word). All (λ (c : Cover). All (λ x. is_among (ns ++ outputs_of m.covers) x ≡ true) c.inputs) m.covers) (sym e) inputs-driven)

  pub observed-driven : (p : ℕ) (x : Word) → slice_get (observed_names m) p ≡ Some x → is_among (source_names m ++ outputs_of m.covers) x ≡ true
  observed-driven p x at =
      let test : Word → Bool = is_among (driven_names m) in
      let parts = list_all-parts test ((m.outputs ++ flat_map (λ (c : Cover). c.inputs) m.covers) ++ map (λ (l : Latch). l.input) m.latches) (filter_map control_of m.latches) formed.all_driven in
      let middle = list_all-parts test (m.outputs ++ flat_map (λ (c : Cover). c.inputs) m.covers) (map (λ (l : Latch). l.input) m.latches) parts.0 in
      let outputs = (list_all-parts test m.outputs (flat_map (λ (c : Cover). c.inputs) m.covers) middle.0).0 in
      list_all-at test (observed_names m) p x (list_all-join test (m.outputs ++ map (λ (l : Latch). l.input) m.latches) (filter_map control_of m.latches) (list_all-join test m.outputs (map (λ (l : Latch). l.input) m.latches) outputs middle.1) parts.1) at

  pub outputs-once : (covers : List Cover) → covers ≡ m.covers → is_distinct (outputs_of covers) ≡ true
  outputs-once covers e = subst (λ (cs : List Cover). is_distinct (outputs_of cs) ≡ true) (sym e) (distinct-right (source_names m) (outputs_of m.covers) formed.driven_once)

pub first-same : (m : Model) (covers : List Cover) (ranks : List (Option ℕ)) → covers ≡ m.covers → IsFixed covers ranks → position is_none ranks ≡ first_without_rank m
first-same m covers ranks e fixed = ap (position is_none) (fixed-ranks m ranks (subst (λ (cs : List Cover). IsFixed cs ranks) e fixed))

pub order-of : (drivers : List (List ℕ)) (s : State) → IsSound drivers s → IsOrder drivers s.order
order-of drivers s sound = record { within = order-known drivers s sound; once = sound.once; behind = sound.ordered }

pub all-ordered : (m : Model) (covers : List Cover) (drivers : List (List ℕ)) (s : State) → covers ≡ m.covers → IsFixed covers s.ranks → IsSound drivers s → position is_none s.ranks ≡ None → (k : ℕ) → k < length m.covers → IsIn s.order k
all-ordered m covers drivers s e fixed sound none k lt =
    let is : s.ranks ≡ ranks_of m = fixed-ranks m s.ranks (subst (λ (cs : List Cover). IsFixed cs s.ranks) e fixed) in
    let first : first_without_rank m ≡ None = sym (first-same m covers s.ranks e fixed) ∙ none in
    let h = none-some m first k lt in
    sound.listed k h.0 (ap (λ (r : List (Option ℕ)). rank_at r k) is ∙ h.1)

pub value-there : (m : Model) (values : List Bool) → IsWellFormed m → first_without_rank m ≡ None → length values ≡ length (source_names m) → (v : Word → Bool) × (IsConsistent m v × (map v (source_names m) ≡ values))
value-there m values formed none same = valuation-exists m values formed.driven_once (none-ranked m formed.driven_once none) same
