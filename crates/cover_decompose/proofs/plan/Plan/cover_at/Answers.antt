use Rattle.std.proofs.Common.{◌≡◌, ◌+◌, ◌<◌, All, Global, List, Vec, ap, arith, length, map, ℕ, subst, sym, ◌∙◌}
use Rattle.std.proofs.lemmas.List.{length-map}
use Rattle.rm_model.specs.declared.parts.Literal.{Literal}
use Rattle.cover_decompose.specs.Inner.Plan.{cover_planned}
use Rattle.cover_decompose.proofs.Steps.{even_at, even_length, item_or, item_there}
use Rattle.cover_decompose.proofs.PlanSteps.{planned_there}
use Rattle.cover_decompose.proofs.plan.Plan.cover_at.Goals as goal
use Rattle.rm_base.proofs.Public.{read_stands}

pub bounds-inputs-place : goal.bounds-inputs-place
bounds-inputs-place c =
    let lt : c.args.place < length (map (λ (v : Vec ℕ Global). v.items) c.args.inputs.now) = even_length c.args.covers.now (map (λ (v : Vec ℕ Global). v.items) c.args.inputs.now) c.args.place c.requires.even c.requires.place in
    let e : length (map (λ (v : Vec ℕ Global). v.items) c.args.inputs.now) ≡ length c.args.inputs.now = length-map c.args.inputs.now (λ (v : Vec ℕ Global). v.items) in
    omega arith

pub cover-requires-clause-even : goal.cover-requires-clause-even
cover-requires-clause-even c =
    let lt : c.args.place < length (map (λ (v : Vec ℕ Global). v.items) c.args.inputs.now) = even_length c.args.covers.now (map (λ (v : Vec ℕ Global). v.items) c.args.inputs.now) c.args.place c.requires.even c.requires.place in
    let e : length (map (λ (v : Vec ℕ Global). v.items) c.args.inputs.now) ≡ length c.args.inputs.now = length-map c.args.inputs.now (λ (v : Vec ℕ Global). v.items) in
    let within : c.args.place < length c.args.inputs.now = omega arith in
    let P : List ℕ → Type 0 = λ l. All (λ (r : List Literal). length r ≡ length l) c.index-covers-place.result.rows in
    subst P (sym c.as_slice.ensures.value)
    (even_at c.args.covers.now (map (λ (v : Vec ℕ Global). v.items) c.args.inputs.now) c.args.place c.index-covers-place.result c.index-inputs-place.result.items c.requires.even c.requires.place c.index-covers-place.is
    (item_or (λ (v : Vec ℕ Global). v.items) c.args.inputs.now c.args.place c.index-inputs-place.result within c.index-inputs-place.is))

pub cover-requires-clause-within : goal.cover-requires-clause-within
cover-requires-clause-within c =
    let lt : c.args.place < length (map (λ (v : Vec ℕ Global). v.items) c.args.inputs.now) = even_length c.args.covers.now (map (λ (v : Vec ℕ Global). v.items) c.args.inputs.now) c.args.place c.requires.even c.requires.place in
    let e : length (map (λ (v : Vec ℕ Global). v.items) c.args.inputs.now) ≡ length c.args.inputs.now = length-map c.args.inputs.now (λ (v : Vec ℕ Global). v.items) in
    let within : c.args.place < length c.args.inputs.now = omega arith in
    let P : List ℕ → Type 0 = λ l. All (λ k. k < length c.args.self.now.nodes) l in
    let Q : Vec ℕ Global → Type 0 = λ v. All (λ k. k < length c.args.self.now.nodes) v.items in
    subst P (sym c.as_slice.ensures.value) (subst Q (sym c.index-inputs-place.is) (c.requires.within c.args.place c.index-inputs-place.result within))

pub returns : goal.returns
returns c =
    let lt : c.args.place < length (map (λ (v : Vec ℕ Global). v.items) c.args.inputs.now) = even_length c.args.covers.now (map (λ (v : Vec ℕ Global). v.items) c.args.inputs.now) c.args.place c.requires.even c.requires.place in
    let e : length (map (λ (v : Vec ℕ Global). v.items) c.args.inputs.now) ≡ length c.args.inputs.now = length-map c.args.inputs.now (λ (v : Vec ℕ Global). v.items) in
    let within : c.args.place < length c.args.inputs.now = omega arith in
    let is = planned_there c.args.self.now c.args.covers.now (map (λ (v : Vec ℕ Global). v.items) c.args.inputs.now) c.args.first c.args.place c.index-covers-place.result c.index-inputs-place.result.items
    (read_stands c.args.covers.now c.args.place c.index-covers-place.result c.requires.place c.index-covers-place.is)
    (item_there (λ (v : Vec ℕ Global). v.items) c.args.inputs.now c.args.place c.index-inputs-place.result within c.index-inputs-place.is) in
    record {
      plan = c.in_ok-cover.ensures.plan ∙ (ap (λ (l : List ℕ). cover_planned c.args.self.now l (c.args.first + c.args.place) c.index-covers-place.result) c.as_slice.ensures.value ∙ sym is);
      kept = c.in_ok-cover.ensures.kept;
    }
