use Rattle.std.proofs.Common.{◌≡◌, ◌∷◌, [], ◌++◌, List, length, false, ap, subst, sym, ℕ, Some, ◌∙◌, arith}
use Rattle.std.specs.BTreeMap.{UpdatesBy}
use Rattle.std.specs.Cmp.Lexicographic.{slice_cmp}
use Rattle.std.specs.Ordering.{nat_cmp, ordering_then}
use Rattle.std.specs.Borrow.{Bor}
use Rattle.rm_model.specs.Value.{is_among}
use Rattle.rm_model.specs.Numbers.{place_of}
use Rattle.rm_model.proofs.PlacedLemmas.{shown, placed-push}
use Rattle.rm_model.proofs.ordered_names.OrderedNames.push.Goals as goal
use Rattle.rm_base.specs.Words.{Word}

pub invariant_of-self-2 : goal.invariant_of-self-2
invariant_of-self-2 c =
    let items : c.push.new.self.items ≡ c.self.inside.names.items ++ c.args.name ∷ [] = c.in_ok-push.ensures.items ∙ ap (λ (l : List (Bor Word)). l ++ c.args.name ∷ []) c.reserve.ensures.items in
    let new : is_among (shown c.self.inside.names.items) c.args.name.now ≡ false = ap (λ (l : List Word). is_among l c.args.name.now) c.self.view_is ∙ c.requires in
    let count : c.len.result ≡ length c.self.inside.names.items = omega (arith, c.len.ensures, c.reserve.ensures.len, c.self.inside.names.ok.0) in
    let by_number = subst (λ (h : ℕ). UpdatesBy (λ (a b : ℕ × Bor Word). ordering_then (nat_cmp a.0 b.0) (slice_cmp nat_cmp a.1.now b.1.now)) (λ (a : ℕ × Bor Word). ordering_then (nat_cmp h a.0) (slice_cmp nat_cmp c.args.name.now a.1.now)) c.self.inside.places c.insert.new.self (Some c.len.result)) c.hash_of.ensures in
    record {
      at = λ x.
          placed-push c.self.inside.names.items c.args.name c.self.inside.places c.insert.new.self c.len.result c.self.invariant.at new count (by_number c.in_ok-insert.ensures.updates) x
          ∙ ap (λ (l : List (Bor Word)). place_of (shown l) x) (sym items);
    }
