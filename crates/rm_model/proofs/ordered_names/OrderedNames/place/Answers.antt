use Rattle.std.proofs.Common.{◌≡◌, ◌∙◌, ◌<◌, ℕ, List, Some, ap, length, subst, sym}
use Rattle.std.specs.Borrow.{Bor}
use Rattle.std.specs.BTreeMap.{get_by}
use Rattle.std.specs.Cmp.Lexicographic.{slice_cmp}
use Rattle.std.specs.Ordering.{nat_cmp, ordering_then}
use Rattle.rm_model.specs.Numbers.{place_of}
use Rattle.rm_model.specs.Inner.PlacedNames.{added_names}
use Rattle.rm_model.proofs.PlacedLemmas.{place-below}
use Rattle.rm_model.proofs.ordered_names.OrderedNames.place.Goals as goal
use Rattle.rm_base.specs.Words.{Word}

pub returns-in-Some-clause-place : goal.returns-in-Some-clause-place
returns-in-Some-clause-place c =
    subst (λ (h : ℕ). Some c.in-Some.place.now ≡ get_by (λ (a : ℕ × Bor Word). ordering_then (nat_cmp h a.0) (slice_cmp nat_cmp c.args.name.now a.1.now)) c.self.inside.places) c.hash_of.ensures c.in-Some.ensures.value
    ∙ (c.self.invariant.at c.args.name.now ∙ ap (λ (l : List Word). place_of l c.args.name.now) c.self.view_is)

pub returns-in-Some-clause-within : goal.returns-in-Some-clause-within
returns-in-Some-clause-within c =
    let value : Some c.in-Some.place.now ≡ place_of (added_names c.self.inside) c.args.name.now =
    subst (λ (h : ℕ). Some c.in-Some.place.now ≡ get_by (λ (a : ℕ × Bor Word). ordering_then (nat_cmp h a.0) (slice_cmp nat_cmp c.args.name.now a.1.now)) c.self.inside.places) c.hash_of.ensures c.in-Some.ensures.value
    ∙ c.self.invariant.at c.args.name.now in
    subst (λ (l : List Word). c.in-Some.place.now < length l) c.self.view_is (place-below (added_names c.self.inside) c.args.name.now c.in-Some.place.now (sym value))
