use Rattle.std.proofs.Common.{◌≡◌, ◌<◌, ◌+◌, All, Bool, Global, List, Vec, ap, arith, get_or, length, map, subst, sym, ℕ, ◌∙◌}
use Rattle.std.proofs.lemmas.List.{length-map}
use Rattle.rm_model.specs.Value.{source_names}
use Rattle.cover_decompose.proofs.NumberingLemmas.{all_same, all_unmapped, marks_count, places_bound, taken_result}
use Rattle.cover_decompose.proofs.numbering.taken_places.Goals as goal

pub list_needed-requires-clause-places : goal.list_needed-requires-clause-places
list_needed-requires-clause-places c =
    let bound = places_bound c.args.model.now.covers _ c.args.order.now c.requires.order in
    let count : length (map (λ (v : Vec ℕ Global). v.items) c.args.numbering.now.inputs.items) ≡ length c.args.model.now.covers = c.requires.numbered.count in
    let items : length (map (λ (v : Vec ℕ Global). v.items) c.args.numbering.now.inputs.items) ≡ length c.args.numbering.now.inputs.items = length-map c.args.numbering.now.inputs.items (λ (v : Vec ℕ Global). v.items) in
    let slice : length c.as_slice-2.result.now ≡ length c.args.numbering.now.inputs.items = ap (λ (l : List (Vec ℕ Global)). length l) c.as_slice-2.ensures.value in
    λ k d lt. let low : get_or c.args.order.now k d < length c.args.model.now.covers = bound k d lt in omega arith

pub list_needed-requires-clause-within : goal.list_needed-requires-clause-within
list_needed-requires-clause-within c =
    let marks : length c.as_mut_slice.result.now ≡ c.args.numbering.now.sources + c.len.result =
    ap (λ (l : List Bool). length l) (c.as_mut_slice.ensures.value ∙ c.in_ok-marks.ensures) ∙ marks_count (c.args.numbering.now.sources + c.len.result) c.as_slice.result.now in
    let count : c.len.result ≡ length c.args.model.now.covers = c.len.ensures in
    let sources : c.args.numbering.now.sources ≡ length (source_names c.args.model.now) = c.requires.sources in
    let fewer : length (source_names c.args.model.now) + length c.args.model.now.covers ≡ length c.as_mut_slice.result.now = omega arith in
    let P : ℕ → Type 0 = λ n. All (λ (v : Vec ℕ Global). All (λ k. k < n) v.items) c.as_slice-2.result.now in
    subst P fewer
    (all_same (λ (v : Vec ℕ Global). All (λ k. k < length (source_names c.args.model.now) + length c.args.model.now.covers) v.items) (λ (v : Vec ℕ Global). All (λ k. k < length (source_names c.args.model.now) + length c.args.model.now.covers) v.items) c.args.numbering.now.inputs.items c.as_slice-2.result.now (λ v h. h) (sym c.as_slice-2.ensures.value)
    (all_unmapped (λ (v : Vec ℕ Global). v.items) (λ (l : List ℕ). All (λ k. k < length (source_names c.args.model.now) + length c.args.model.now.covers) l) c.args.numbering.now.inputs.items c.requires.numbered.within))

pub list_needed-requires-clause-room : goal.list_needed-requires-clause-room
list_needed-requires-clause-room c =
    let marks : length c.as_mut_slice.result.now ≡ c.args.numbering.now.sources + c.len.result =
    ap (λ (l : List Bool). length l) (c.as_mut_slice.ensures.value ∙ c.in_ok-marks.ensures) ∙ marks_count (c.args.numbering.now.sources + c.len.result) c.as_slice.result.now in
    let len : c.len.result ≡ length c.args.model.now.covers = c.len.ensures in
    let count : length (map (λ (v : Vec ℕ Global). v.items) c.args.numbering.now.inputs.items) ≡ length c.args.model.now.covers = c.requires.numbered.count in
    let items : length (map (λ (v : Vec ℕ Global). v.items) c.args.numbering.now.inputs.items) ≡ length c.args.numbering.now.inputs.items = length-map c.args.numbering.now.inputs.items (λ (v : Vec ℕ Global). v.items) in
    let slice : length c.as_slice-2.result.now ≡ length c.args.numbering.now.inputs.items = ap (λ (l : List (Vec ℕ Global)). length l) c.as_slice-2.ensures.value in
    omega arith

pub returns : goal.returns
returns c =
    taken_result c.args.model.now (map (λ (v : Vec ℕ Global). v.items) c.args.numbering.now.inputs.items) (map (λ (v : Vec ℕ Global). v.items) c.as_slice-2.result.now) c.args.numbering.now.observed.items c.as_slice.result.now c.args.order.now
    c.in_ok-taken.taken.items c.args.numbering.now.sources c.len.result c.as_mut_slice.result.now c.requires.numbered c.requires.sources c.len.ensures c.requires.order c.as_slice.ensures.value
    (c.as_mut_slice.ensures.value ∙ c.in_ok-marks.ensures) (ap (λ (l : List (Vec ℕ Global)). map (λ (v : Vec ℕ Global). v.items) l) c.as_slice-2.ensures.value) c.in_ok-taken.ensures
