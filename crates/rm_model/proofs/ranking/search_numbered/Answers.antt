use Rattle.std.proofs.Common.{◌≡◌, map, length, Vec, Global, List, ℕ, subst, sym, ap, ◌∙◌, arith}
use Rattle.std.specs.List.{filter_map}
use Rattle.std.proofs.lemmas.List.{length-map}
use Rattle.rm_model.specs.Inner.Numbers.{rank_over, drivers_of, IsFixed}
use Rattle.rm_model.specs.Inner.Search.{AreKnown}
use Rattle.rm_model.specs.Signals.{AreNumbers}
use Rattle.rm_model.specs.Inner.Signals.{cover_at}
use Rattle.rm_model.specs.Value.{source_names}
use Rattle.rm_model.specs.WellFormed.{IsWellFormed}
use Rattle.rm_model.specs.declared.parts.Model.{Model}
use Rattle.rm_model.specs.declared.rank_search.Search.{Search}
use Rattle.rm_model.proofs.NumberingLemmas.{numbered-lists}
use Rattle.rm_model.proofs.RankingLemmas.{drivers-known, map-twice, if_ok_map}
use Rattle.rm_model.proofs.ranking.search_numbered.Goals as goal

-- what is read of the numbers are the drivers
drivers-are : (m : Model) (inputs given lists slice : List (Vec ℕ Global)) (observed : List ℕ) (s : ℕ) → IsWellFormed m → AreNumbers m (map (λ (v : Vec ℕ Global). v.items) inputs) observed → s ≡ length (source_names m)
    → given ≡ inputs → map (λ (v : Vec ℕ Global). v.items) lists ≡ map (λ (v : Vec ℕ Global). filter_map (cover_at s) v.items) given → slice ≡ lists → map (λ (v : Vec ℕ Global). v.items) slice ≡ map (drivers_of m.covers) m.covers
drivers-are m inputs given lists slice observed s formed numbers is g l e =
    ap (λ (l : List (Vec ℕ Global)). map (λ (v : Vec ℕ Global). v.items) l) e
    ∙ (l ∙ (ap (λ (l : List (Vec ℕ Global)). map (λ (v : Vec ℕ Global). filter_map (cover_at s) v.items) l) g
    ∙ numbered-lists m inputs s formed.driven_once is numbers.inputs_are))

pub find_ranks-requires-clause-known : goal.find_ranks-requires-clause-known
find_ranks-requires-clause-known c =
    let lists = drivers-are c.args.model.now c.args.numbering.now.inputs.items c.as_slice.result.now c.in_ok-lists.lists.items c.as_slice-2.result.now c.args.numbering.now.observed.items c.args.numbering.now.sources c.requires.once c.requires.numbers c.requires.sources c.as_slice.ensures.value c.in_ok-lists.ensures c.as_slice-2.ensures.value in
    subst AreKnown (sym lists) (drivers-known c.args.model.now.covers)

pub find_ranks-requires-clause-room : goal.find_ranks-requires-clause-room
find_ranks-requires-clause-room c =
    let lists = drivers-are c.args.model.now c.args.numbering.now.inputs.items c.as_slice.result.now c.in_ok-lists.lists.items c.as_slice-2.result.now c.args.numbering.now.observed.items c.args.numbering.now.sources c.requires.once c.requires.numbers c.requires.sources c.as_slice.ensures.value c.in_ok-lists.ensures c.as_slice-2.ensures.value in
    let same : length (map (λ (v : Vec ℕ Global). v.items) c.as_slice-2.result.now) ≡ length (map (drivers_of c.args.model.now.covers) c.args.model.now.covers) = ap (λ (l : List (List ℕ)). length l) lists in
    omega (arith, same, length-map c.as_slice-2.result.now (λ (v : Vec ℕ Global). v.items), length-map c.args.model.now.covers (drivers_of c.args.model.now.covers), c.requires.room)

pub returns : goal.returns
returns c =
    let lists = drivers-are c.args.model.now c.args.numbering.now.inputs.items c.as_slice.result.now c.in_ok-lists.lists.items c.as_slice-2.result.now c.args.numbering.now.observed.items c.args.numbering.now.sources c.requires.once c.requires.numbers c.requires.sources c.as_slice.ensures.value c.in_ok-lists.ensures c.as_slice-2.ensures.value in
    if_ok_map (λ (s : Search). s.ranks.items ≡ map (rank_over s.ranks.items) (map (λ (v : Vec ℕ Global). v.items) c.as_slice-2.result.now)) (λ (s : Search). IsFixed c.args.model.now.covers s.ranks.items) c.find_ranks.result
    (λ s e. e ∙ (ap (λ (l : List (List ℕ)). map (rank_over s.ranks.items) l) lists ∙ map-twice (rank_over s.ranks.items) (drivers_of c.args.model.now.covers) c.args.model.now.covers))
    c.find_ranks.ensures.ranks
