use Rattle.std.proofs.Common.{◌≡◌, ◌<◌, ◌+◌, All, Global, List, Vec, ap, arith, get_or, length, map, subst, sym, ℕ, ◌∙◌}
use Rattle.rm_model.specs.Value.{source_names}
use Rattle.rm_model.specs.declared.parts.Cover.{Cover}
use Rattle.cover_decompose.proofs.NumberingLemmas.{all_same, all_unmapped, places_bound, wires_result}
use Rattle.cover_decompose.proofs.numbering.wire_count.Goals as goal

pub wires-requires-clause-places : goal.wires-requires-clause-places
wires-requires-clause-places c =
    let bound = places_bound c.args.model.now.covers _ c.args.places.now c.requires.places in
    let covers : length c.items.result.now ≡ length c.args.model.now.covers = ap (λ (l : List Cover). length l) c.items.ensures in
    λ k d lt. let low : get_or c.args.places.now k d < length c.args.model.now.covers = bound k d lt in omega arith

pub wires-requires-clause-within : goal.wires-requires-clause-within
wires-requires-clause-within c =
    let count : c.len.result ≡ length c.args.model.now.covers = c.len.ensures in
    let sources : c.args.numbering.now.sources ≡ length (source_names c.args.model.now) = c.requires.sources in
    let fewer : length (source_names c.args.model.now) + length c.args.model.now.covers ≡ c.args.numbering.now.sources + c.len.result = omega arith in
    let P : ℕ → Type 0 = λ n. All (λ (v : Vec ℕ Global). All (λ k. k < n) v.items) c.as_slice.result.now in
    subst P fewer
    (all_same (λ (v : Vec ℕ Global). All (λ k. k < length (source_names c.args.model.now) + length c.args.model.now.covers) v.items) (λ (v : Vec ℕ Global). All (λ k. k < length (source_names c.args.model.now) + length c.args.model.now.covers) v.items) c.args.numbering.now.inputs.items c.as_slice.result.now (λ v h. h) (sym c.as_slice.ensures.value)
    (all_unmapped (λ (v : Vec ℕ Global). v.items) (λ (l : List ℕ). All (λ k. k < length (source_names c.args.model.now) + length c.args.model.now.covers) l) c.args.numbering.now.inputs.items c.requires.numbered.within))

wires-are : goal.wires-requires-clause-fits
wires-are c =
    let is = wires_result c.args.model.now (map (λ (v : Vec ℕ Global). v.items) c.args.numbering.now.inputs.items) (map (λ (v : Vec ℕ Global). v.items) c.as_slice.result.now) c.args.numbering.now.observed.items c.args.places.now
    c.args.numbering.now.sources c.len.result c.items.result.now c.requires.numbered c.requires.sources c.len.ensures c.requires.places (ap (λ (l : List (Vec ℕ Global)). map (λ (v : Vec ℕ Global). v.items) l) c.as_slice.ensures.value) c.items.ensures in
    let P : ℕ → Type 0 = λ n. n < 18446744073709551616 in
    subst P (sym is) c.requires.fits

pub wires-requires-clause-fits : goal.wires-requires-clause-fits
wires-requires-clause-fits c = wires-are c

pub returns : goal.returns
returns c =
    c.in_ok-pins.ensures
    ∙ wires_result c.args.model.now (map (λ (v : Vec ℕ Global). v.items) c.args.numbering.now.inputs.items) (map (λ (v : Vec ℕ Global). v.items) c.as_slice.result.now) c.args.numbering.now.observed.items c.args.places.now
    c.args.numbering.now.sources c.len.result c.items.result.now c.requires.numbered c.requires.sources c.len.ensures c.requires.places (ap (λ (l : List (Vec ℕ Global)). map (λ (v : Vec ℕ Global). v.items) l) c.as_slice.ensures.value) c.items.ensures
