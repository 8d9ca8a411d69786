use Rattle.std.proofs.Common.{◌≡◌, ◌<◌, All, Global, List, Vec, ap, arith, length, map, ℕ, subst, sym, ◌∙◌}
use Rattle.std.proofs.lemmas.List.{length-map}
use Rattle.rm_model.specs.declared.parts.Literal.{Literal}
use Rattle.cover_decompose.specs.Inner.Tally.{cover_tally}
use Rattle.cover_decompose.proofs.Steps.{even_at, even_length, item_or, item_there, tally_there}
use Rattle.cover_decompose.proofs.count.wires_at.Goals as goal
use Rattle.rm_base.proofs.Public.{read_stands}

pub bounds-inputs-place : goal.bounds-inputs-place
bounds-inputs-place c =
    let lt : c.args.place < length (map (λ (v : Vec ℕ Global). v.items) c.args.inputs.now) = even_length c.args.covers.now (map (λ (v : Vec ℕ Global). v.items) c.args.inputs.now) c.args.place c.requires.even c.requires.place in
    let e : length (map (λ (v : Vec ℕ Global). v.items) c.args.inputs.now) ≡ length c.args.inputs.now = length-map c.args.inputs.now (λ (v : Vec ℕ Global). v.items) in
    omega arith

pub cover_wires-requires-clause-even : goal.cover_wires-requires-clause-even
cover_wires-requires-clause-even c =
    let lt : c.args.place < length (map (λ (v : Vec ℕ Global). v.items) c.args.inputs.now) = even_length c.args.covers.now (map (λ (v : Vec ℕ Global). v.items) c.args.inputs.now) c.args.place c.requires.even c.requires.place in
    let e : length (map (λ (v : Vec ℕ Global). v.items) c.args.inputs.now) ≡ length c.args.inputs.now = length-map c.args.inputs.now (λ (v : Vec ℕ Global). v.items) in
    let within : c.args.place < length c.args.inputs.now = omega arith in
    let P : List ℕ → Type 0 = λ l. All (λ (r : List Literal). length r ≡ length l) c.index-covers-place.result.rows in
    subst P (sym c.as_slice.ensures.value)
    (even_at c.args.covers.now (map (λ (v : Vec ℕ Global). v.items) c.args.inputs.now) c.args.place c.index-covers-place.result c.index-inputs-place.result.items c.requires.even c.requires.place c.index-covers-place.is
    (item_or (λ (v : Vec ℕ Global). v.items) c.args.inputs.now c.args.place c.index-inputs-place.result within c.index-inputs-place.is))

pub cover_wires-requires-clause-within : goal.cover_wires-requires-clause-within
cover_wires-requires-clause-within c =
    let lt : c.args.place < length (map (λ (v : Vec ℕ Global). v.items) c.args.inputs.now) = even_length c.args.covers.now (map (λ (v : Vec ℕ Global). v.items) c.args.inputs.now) c.args.place c.requires.even c.requires.place in
    let e : length (map (λ (v : Vec ℕ Global). v.items) c.args.inputs.now) ≡ length c.args.inputs.now = length-map c.args.inputs.now (λ (v : Vec ℕ Global). v.items) in
    let within : c.args.place < length c.args.inputs.now = omega arith in
    let P : List ℕ → Type 0 = λ l. All (λ k. k < length c.args.seen.now) l in
    let Q : Vec ℕ Global → Type 0 = λ v. All (λ k. k < length c.args.seen.now) v.items in
    subst P (sym c.as_slice.ensures.value) (subst Q (sym c.index-inputs-place.is) (c.requires.within c.args.place c.index-inputs-place.result within))

pub cover_wires-requires-clause-fits : goal.cover_wires-requires-clause-fits
cover_wires-requires-clause-fits c =
    let lt : c.args.place < length (map (λ (v : Vec ℕ Global). v.items) c.args.inputs.now) = even_length c.args.covers.now (map (λ (v : Vec ℕ Global). v.items) c.args.inputs.now) c.args.place c.requires.even c.requires.place in
    let e : length (map (λ (v : Vec ℕ Global). v.items) c.args.inputs.now) ≡ length c.args.inputs.now = length-map c.args.inputs.now (λ (v : Vec ℕ Global). v.items) in
    let within : c.args.place < length c.args.inputs.now = omega arith in
    let is = tally_there c.args.seen.now (map (λ (v : Vec ℕ Global). v.items) c.args.inputs.now) c.args.covers.now c.args.place c.index-inputs-place.result.items c.index-covers-place.result
    (item_there (λ (v : Vec ℕ Global). v.items) c.args.inputs.now c.args.place c.index-inputs-place.result within c.index-inputs-place.is)
    (read_stands c.args.covers.now c.args.place c.index-covers-place.result c.requires.place c.index-covers-place.is) in
    let P : List ℕ → Type 0 = λ l. (cover_tally c.args.seen.now l c.index-covers-place.result).0 < 18446744073709551616 in
    subst P (sym c.as_slice.ensures.value) (subst (λ (t : ℕ × List _). t.0 < 18446744073709551616) is c.requires.fits)

pub returns : goal.returns
returns c =
    let lt : c.args.place < length (map (λ (v : Vec ℕ Global). v.items) c.args.inputs.now) = even_length c.args.covers.now (map (λ (v : Vec ℕ Global). v.items) c.args.inputs.now) c.args.place c.requires.even c.requires.place in
    let e : length (map (λ (v : Vec ℕ Global). v.items) c.args.inputs.now) ≡ length c.args.inputs.now = length-map c.args.inputs.now (λ (v : Vec ℕ Global). v.items) in
    let within : c.args.place < length c.args.inputs.now = omega arith in
    let is = tally_there c.args.seen.now (map (λ (v : Vec ℕ Global). v.items) c.args.inputs.now) c.args.covers.now c.args.place c.index-inputs-place.result.items c.index-covers-place.result
    (item_there (λ (v : Vec ℕ Global). v.items) c.args.inputs.now c.args.place c.index-inputs-place.result within c.index-inputs-place.is)
    (read_stands c.args.covers.now c.args.place c.index-covers-place.result c.requires.place c.index-covers-place.is) in
    c.cover_wires.ensures ∙ (ap (λ (l : List ℕ). cover_tally c.args.seen.now l c.index-covers-place.result) c.as_slice.ensures.value ∙ sym is)
