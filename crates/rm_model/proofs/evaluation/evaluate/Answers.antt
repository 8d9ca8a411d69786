use Rattle.std.proofs.Common.{◌≡◌, ◌∙◌, ap, sym, subst, map, List, ℕ, None}
use Rattle.std.specs.Prelude.{position, is_none}
use Rattle.rm_model.specs.Inner.Numbers.{drivers_of}
use Rattle.rm_model.specs.Ranks.{first_without_rank}
use Rattle.rm_model.specs.Inner.Search.{IsIn, IsOrder}
use Rattle.rm_model.specs.Inner.SearchView.{state_of}
use Rattle.rm_model.specs.declared.parts.Cover.{Cover}
use Rattle.rm_model.proofs.ModelLemmas.{outputs-once, first-same, order-of, all-ordered, value-there}
use Rattle.rm_model.proofs.evaluation.evaluate.Goals as goal

pub search_covers-requires-clause-once : goal.search_covers-requires-clause-once
search_covers-requires-clause-once c = outputs-once c.args.model.now c.requires.well_formed c.items.result.now c.items.ensures

pub returns-in-Some-clause-refused : goal.returns-in-Some-clause-refused
returns-in-Some-clause-refused c =
    sym (first-same c.args.model.now c.items.result.now c.in_ok-found.found.ranks.items c.items.ensures c.in_ok-found.ensures.ranks)
    ∙ (ap (position is_none) (sym c.as_slice.ensures.value) ∙ (sym c.first_missing.ensures.first ∙ c.in-Some.is))

pub values_in_order-requires-clause-order : goal.values_in_order-requires-clause-order
values_in_order-requires-clause-order c =
    let found = order-of (map (drivers_of c.items.result.now) c.items.result.now) (state_of c.in_ok-found.found) c.in_ok-found.ensures.sound in
    let covers = subst (λ (cs : List Cover). IsOrder (map (drivers_of cs) cs) c.in_ok-found.found.order.items) c.items.ensures found in
    subst (IsOrder (map (drivers_of c.args.model.now.covers) c.args.model.now.covers)) (sym c.as_slice-2.ensures.value) covers

pub values_in_order-requires-clause-all : goal.values_in_order-requires-clause-all
values_in_order-requires-clause-all c = λ k lt.
    let none : position is_none c.in_ok-found.found.ranks.items ≡ None = ap (position is_none) (sym c.as_slice.ensures.value) ∙ (sym c.first_missing.ensures.first ∙ c.in_default.is) in
    subst (λ (l : List ℕ). IsIn l k) (sym c.as_slice-2.ensures.value) (all-ordered c.args.model.now c.items.result.now (map (drivers_of c.items.result.now) c.items.result.now) (state_of c.in_ok-found.found) c.items.ensures c.in_ok-found.ensures.ranks c.in_ok-found.ensures.sound none k lt)

pub returns-clause-valued : goal.returns-clause-valued
returns-clause-valued c =
    let none : first_without_rank c.args.model.now ≡ None = sym (first-same c.args.model.now c.items.result.now c.in_ok-found.found.ranks.items c.items.ensures c.in_ok-found.ensures.ranks) ∙ (ap (position is_none) (sym c.as_slice.ensures.value) ∙ (sym c.first_missing.ensures.first ∙ c.in_default.is)) in
    let there = value-there c.args.model.now c.args.vector.now c.requires.well_formed none c.requires.sources in
    (there.0, (there.1.0, (there.1.1, c.in_ok-values_in_order.ensures there.0 there.1.0 there.1.1)))

pub returns-clause-ranked : goal.returns-clause-ranked
returns-clause-ranked c = sym (first-same c.args.model.now c.items.result.now c.in_ok-found.found.ranks.items c.items.ensures c.in_ok-found.ensures.ranks) ∙ (ap (position is_none) (sym c.as_slice.ensures.value) ∙ (sym c.first_missing.ensures.first ∙ c.in_default.is))
