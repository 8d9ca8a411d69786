use Rattle.std.proofs.Common.{◌≡◌, ◌∙◌, ℕ, ap, subst, List}
use Rattle.std.specs.Prelude.{is_some}
use Rattle.std.specs.Borrow.{Bor}
use Rattle.std.specs.BTreeMap.{get_by}
use Rattle.std.specs.Cmp.Lexicographic.{slice_cmp}
use Rattle.std.specs.Ordering.{nat_cmp, ordering_then}
use Rattle.rm_model.specs.Value.{is_among}
use Rattle.rm_model.specs.Inner.PlacedNames.{added_names}
use Rattle.rm_model.proofs.PlacedLemmas.{place-among}
use Rattle.rm_model.proofs.ordered_names.OrderedNames.has.Goals as goal
use Rattle.rm_base.specs.Words.{Word}

pub returns : goal.returns
returns c =
    subst (λ (h : ℕ). c.contains_key.result ≡ is_some (get_by (λ (a : ℕ × Bor Word). ordering_then (nat_cmp h a.0) (slice_cmp nat_cmp c.args.name.now a.1.now)) c.self.inside.places)) c.hash_of.ensures c.contains_key.ensures
    ∙ (ap is_some (c.self.invariant.at c.args.name.now) ∙ (place-among (added_names c.self.inside) c.args.name.now ∙ ap (λ (l : List Word). is_among l c.args.name.now) c.self.view_is))
