use Rattle.std.proofs.Common.{◌≡◌, ◌<◌, ◌+◌, All, Global, List, Vec, ap, arith, get_or, length, map, subst, sym, ℕ, ◌∙◌}
use Rattle.rm_model.specs.Value.{source_names}
use Rattle.rm_model.specs.declared.parts.Cover.{Cover}
use Rattle.cover_decompose.specs.Inner.Plan.{Planned}
use Rattle.cover_decompose.proofs.ListingLemmas.{Lists, lists}
use Rattle.cover_decompose.proofs.NumberingLemmas.{all_same, all_unmapped, places_bound}
use Rattle.cover_decompose.proofs.PlanSteps.{length-numbers}
use Rattle.cover_decompose.proofs.listing.list_nodes.Goals as goal

pub covers-requires-clause-places : goal.covers-requires-clause-places
covers-requires-clause-places c =
    let bound = places_bound c.args.model.now.covers _ c.args.places.now c.requires.places in
    let covers : length c.items.result.now ≡ length c.args.model.now.covers = ap (λ (l : List Cover). length l) c.items.ensures in
    λ k d lt. let low : get_or c.args.places.now k d < length c.args.model.now.covers = bound k d lt in omega arith

pub covers-requires-clause-within : goal.covers-requires-clause-within
covers-requires-clause-within c =
    let count : c.len.result ≡ length c.args.model.now.covers = c.len.ensures in
    let sources : c.args.numbering.now.sources ≡ length (source_names c.args.model.now) = c.requires.sources in
    let nodes : length c.in_ok-plan.plan.nodes ≡ c.args.numbering.now.sources + c.len.result = ap (λ (p : Planned). length p.nodes) c.in_ok-plan.ensures ∙ length-numbers 2 c.args.numbering.now.sources c.len.result in
    let fewer : length (source_names c.args.model.now) + length c.args.model.now.covers ≡ length c.in_ok-plan.plan.nodes = omega arith in
    let P : ℕ → Type 0 = λ n. All (λ (v : Vec ℕ Global). All (λ k. k < n) v.items) c.as_slice.result.now in
    subst P fewer
    (all_same (λ (v : Vec ℕ Global). All (λ k. k < length (source_names c.args.model.now) + length c.args.model.now.covers) v.items) (λ (v : Vec ℕ Global). All (λ k. k < length (source_names c.args.model.now) + length c.args.model.now.covers) v.items) c.args.numbering.now.inputs.items c.as_slice.result.now (λ v h. h) (sym c.as_slice.ensures.value)
    (all_unmapped (λ (v : Vec ℕ Global). v.items) (λ (l : List ℕ). All (λ k. k < length (source_names c.args.model.now) + length c.args.model.now.covers) l) c.args.numbering.now.inputs.items c.requires.numbered.within))

pub returns : goal.returns
returns c =
    let is : Lists c.args.model.now c.covers.new.self c.args.numbering.now.observed.items c.args.numbering.now.sources =
    lists c.args.model.now (map (λ (v : Vec ℕ Global). v.items) c.args.numbering.now.inputs.items) (map (λ (v : Vec ℕ Global). v.items) c.as_slice.result.now) c.args.numbering.now.observed.items c.args.places.now c.items.result.now c.args.numbering.now.sources c.len.result
    c.in_ok-plan.plan c.covers.new.self c.requires.numbered c.requires.sources c.len.ensures c.requires.places (ap (λ (l : List (Vec ℕ Global)). map (λ (v : Vec ℕ Global). v.items) l) c.as_slice.ensures.value) c.items.ensures
    c.in_ok-plan.ensures c.in_ok-covers.ensures.plan in
    record { made = is.made; observed = is.observed_is; signals = is.signals }
