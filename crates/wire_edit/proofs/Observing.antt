-- Steps keep what stands together at observed places, and what stands on sources and constants.
use Rattle.std.proofs.Common.{◌≡◌, ℕ, zero, suc, false, Some, List, [], ◌∷◌, map, refl, sym, ◌∙◌, ap, inl, inr}
use Rattle.std.specs.Prelude.{slice_get, option_map}
use Rattle.std.proofs.lemmas.Bool.{both_ways}
use Rattle.std.proofs.lemmas.Bool.Decides.{eqb_tells}
use Rattle.gate_net.specs.Net.{Net}
use Rattle.gate_net.specs.Edits.{redirected}
use Rattle.wire_edit.specs.Tests.{is_gate}
use Rattle.wire_edit.specs.Changes.{Change, append, remove, fix, readers, new_not, retire, to_not, changed}
use Rattle.wire_edit.specs.Inner.Changes.{CanChange}
use Rattle.wire_edit.specs.Laws.{KeepsObserved}
use Rattle.wire_edit.proofs.Tested.{is_gate_there}

get_map : (f : ℕ → ℕ) (xs : List ℕ) (k : ℕ) → slice_get (map f xs) k ≡ option_map f (slice_get xs k)
get_map f [] k = refl
get_map f (x ∷ xs) zero = refl
get_map f (x ∷ xs) (suc k) = get_map f xs k

same_observed : (net after : Net) → after.observed ≡ net.observed → KeepsObserved net after
same_observed net after e = record {
  together = λ j k same. ap (λ xs. slice_get xs j) e ∙ same ∙ sym (ap (λ xs. slice_get xs k) e);
  stays = λ k x is plain. ap (λ xs. slice_get xs k) e ∙ is;
}

pub changes_keep_observed : (net : Net) (change : Change) → CanChange net change → KeepsObserved net (changed net change)
changes_keep_observed net (append gate driver) can = same_observed net (changed net (append gate driver)) refl
changes_keep_observed net (remove gate position) can = same_observed net (changed net (remove gate position)) refl
changes_keep_observed net (fix gate position value) can = same_observed net (changed net (fix gate position value)) refl
changes_keep_observed net (readers from to) can = record { together = together; stays = stays }
  where
    there : (k : ℕ) → slice_get (map (redirected from to) net.observed) k ≡ option_map (redirected from to) (slice_get net.observed k)
    there k = get_map (redirected from to) net.observed k

    together : (j k : ℕ) → slice_get net.observed j ≡ slice_get net.observed k → slice_get (map (redirected from to) net.observed) j ≡ slice_get (map (redirected from to) net.observed) k
    together j k same = there j ∙ ap (option_map (redirected from to)) same ∙ sym (there k)

    away : (x : ℕ) → is_gate net x ≡ false → redirected from to x ≡ x
    away x plain = elim (eqb_tells x from) [
      | inl t ↦ absurd (both_ways (is_gate net x) plain (ap (is_gate net) t.1 ∙ is_gate_there net from can.0))
      | inr t ↦ rw t.0 refl
    ]

    stays : (k x : ℕ) → slice_get net.observed k ≡ Some x → is_gate net x ≡ false → slice_get (map (redirected from to) net.observed) k ≡ Some x
    stays k x is plain = there k ∙ ap (option_map (redirected from to)) is ∙ ap Some (away x plain)
changes_keep_observed net (new_not driver) can = same_observed net (changed net (new_not driver)) refl
changes_keep_observed net (retire gate) can = same_observed net (changed net (retire gate)) refl
changes_keep_observed net (to_not gate position) can = same_observed net (changed net (to_not gate position)) refl
