-- The rules as clap builds them.
use Rattle.std.proofs.Common.{◌≡◌, ◌==◌, ◌&&◌, ℕ, Bool, true, false, not, cond, refl, subst, List, [], ◌∷◌, Some, None, is_some}
use Rattle.std.specs.Prelude.{codes}
use Rattle.std.specs.List.{AllByRecursion, find}
use Rattle.std.specs.Option.{option_map_or}
use Rattle.clap.specs.Walk.{Row, Rule, Text, arg_by_id, arg_by_short, has_long, has_row, is_multiple, most_values, takes_several, takes_values}
use Rattle.clap.specs.Simple.{built}
use Rattle.clap.specs.Kinds.{or_else}
use Rattle.clap.specs.Faults.{is_simple_and_free, use_fault}
use Rattle.clap.specs.declared.error.kind.ErrorKind.{ErrorKind}
use Rattle.word_reading.specs.Inner.Judged.{clean, leaf, rules}
use Rattle.word_reading.specs.Inner.Program.{program}
use Rattle.word_reading.proofs.Runs.{IsSingle, IsSingles}

pub top_is : (built program).top ≡ leaf (codes "rambo") rules
top_is = refl

pub is_simple_program : is_simple_and_free program ≡ true
is_simple_program = refl

found_all : (p : Rule → Bool) (Q : Rule → Type 0) (xs : List Rule) → AllByRecursion Q xs → (a : Rule) → find p xs ≡ Some a → Q a × (p a ≡ true)
found_all p Q [] all a e = cc
found_all p Q (x ∷ xs) all a e = go (p x) refl (λ f. found_all p Q xs all.1 a f)
  where
    go : (t : Bool) → p x ≡ t → (find p xs ≡ Some a → Q a × (p a ≡ true)) → Q a × (p a ≡ true)
    go true is later =
        let found : Some x ≡ Some a = rw is at e in
        let same : x ≡ a = cc in
        subst (λ y. Q y × (p y ≡ true)) same (all.0, is)
    go false is later = later (rw is at e)

abbrev IsKeyed : Rule → Type 0
IsKeyed a = (k : Text) → (not (is_some a.index) && has_long a k) ≡ true → (rows : List Row) → clean (use_fault false a (codes "-" ∷ []) rows) ≡ false

either : (b : Bool) (x y : ErrorKind) → clean (or_else (cond (b && true) (x ∷ []) []) (y ∷ [])) ≡ false
either true x y = refl
either false x y = refl

abbrev AreSingle : List Rule → Type 0
AreSingle c = AllByRecursion (IsSingle c) c

singles_of : (c : List Rule) → AreSingle c → AllByRecursion IsKeyed c → ((x : ℕ) → arg_by_short c x ≡ None) → IsSingles c
singles_of c single keyed short = record {
  by_index = λ i a e. (found_all (λ r. option_map_or (λ k. k == i) r.index false) (IsSingle c) c single a e).0;
  by_long = λ k a e. (found_all (λ r. not (is_some r.index) && has_long r k) (IsSingle c) c single a e).0;
  no_hyphen = λ k a e.
      let found = found_all (λ r. not (is_some r.index) && has_long r k) IsKeyed c keyed a e in
      found.0 k found.1;
  by_short = short;
}

single : (c : List Rule) (a : Rule) → arg_by_id c a.id ≡ Some a → takes_several a ≡ false → is_multiple a ≡ false → a.trailing_var_arg ≡ false → takes_values a ≡ true
    → most_values a ≡ 1 → ((rows : List Row) → clean (use_fault false a [] rows) ≡ false) → IsSingle c a
single c a f s m t v o w = record { found = f; several = s; multiple = m; trailing = t; takes = v; most = o; wants = w }

are_single : AreSingle rules
are_single = (single _ _ refl refl refl refl refl refl (λ rows. refl), (single _ _ refl refl refl refl refl refl (λ rows. refl), (single _ _ refl refl refl refl refl refl (λ rows. refl), (single _ _ refl refl refl refl refl refl (λ rows. refl), (single _ _ refl refl refl refl refl refl (λ rows. refl), (single _ _ refl refl refl refl refl refl (λ rows. refl), (single _ _ refl refl refl refl refl refl (λ rows. refl), (single _ _ refl refl refl refl refl refl (λ rows. refl), (single _ _ refl refl refl refl refl refl (λ rows. refl), (single _ _ refl refl refl refl refl refl (λ rows. refl), (single _ _ refl refl refl refl refl refl (λ rows. refl), (single _ _ refl refl refl refl refl refl (λ rows. refl), tt))))))))))))

are_keyed : AllByRecursion IsKeyed rules
are_keyed = ((λ k e rows. either (has_row (codes "depth") rows) _ _), ((λ k e rows. either (has_row (codes "budget") rows) _ _), ((λ k e rows. either (has_row (codes "tries") rows) _ _), ((λ k e rows. either (has_row (codes "workers") rows) _ _), ((λ k e rows. either (has_row (codes "merge") rows) _ _), ((λ k e rows. either (has_row (codes "perturb") rows) _ _), ((λ k e rows. either (has_row (codes "work") rows) _ _), ((λ k e rows. either (has_row (codes "shift") rows) _ _), ((λ k e. cc), ((λ k e. cc), ((λ k e. cc), ((λ k e. cc), tt))))))))))))

pub singles : IsSingles rules
singles = singles_of rules are_single are_keyed (λ x. refl)
