-- One item more of a tree.
use Rattle.std.proofs.Common.{List, [], add-one, arith, drop, drop-cons, get_or, length, refl, subst, suc, sym, take, ℕ, ◌+◌, ◌<◌, ◌∷◌, ◌≡◌, ◌≢◌, ◌≤◌}
use Rattle.std.proofs.lemmas.List.{drop_all, length-take-le, take-append-drop, take_all, take_more}
use Rattle.gate_net.specs.Net.{Net}
use Rattle.refutation.proofs.Public.{reads_join}
use Rattle.refutation.specs.Facts.{none_held}
use Rattle.refutation.specs.Stack.{AreRead, AreReadToEnd, Due, tree}
use Rattle.refutation.specs.declared.items.Form.{Form}
use Rattle.refutation.specs.declared.items.Item.{Item}
use Rattle.refutation_check.specs.FirstRefusal.{IsFirstRefusal, IsRefused}
use Rattle.refutation_check.specs.declared.refusals.CheckRefusal.{CheckRefusal}
use Rattle.refutation_check.specs.declared.refusals.CheckRefusal.TheVariants.{Shape}
use Rattle.rm_base.specs.declared.numbers.Fault.{Fault}

module _ (net : Net) (fault : Fault) (form : Form) (items : List Item) where
  abbrev pub ReadTo : ℕ → List Due → Type 0
  ReadTo i left = AreRead net fault form (tree none_held ∷ []) (take i items) left

  pub read_step : (d : Item) (i : ℕ) (old new : List Due) → i < length items → ReadTo i old → AreRead net fault form old (get_or items i d ∷ []) new → ReadTo (i + 1) new
  read_step d i old new lt before one = rw (take_more items i d lt) (reads_join net fault form (take i items) (get_or items i d ∷ []) (tree none_held ∷ []) old new before one)

  pub read_all : (i : ℕ) (left : List Due) → length items ≤ i → ReadTo i left → left ≡ [] → AreReadToEnd net fault form items
  read_all i left h before end =
      let all : AreRead net fault form (tree none_held ∷ []) items left = rw (take_all i items h) at before in
      subst (λ (l : List Due). AreRead net fault form (tree none_held ∷ []) items l) end all

  -- the next item is refused
  refused_at : (i : ℕ) (left : List Due) (r : CheckRefusal) → i ≤ length items → ReadTo i left → IsRefused net fault form (suc i) left (drop i items) r → IsFirstRefusal net fault form items r
  refused_at i left r le before h = record {
    before = take i items;
    rest = drop i items;
    left = left;
    items_are = sym (take-append-drop i items);
    read = before;
    refused = rw (length-take-le i items le) h;
  }

  pub refused_here : (d : Item) (i n : ℕ) (left : List Due) (r : CheckRefusal) → n ≡ i → i < length items → ReadTo i left → IsRefused net fault form (n + 1) left (get_or items i d ∷ []) r → IsFirstRefusal net fault form items r
  refused_here d i n left r e lt before h = refused_at i left r (omega arith) before (rw (drop-cons items i d lt) (rw (e, add-one) at h))

  -- all items are read, and the tree isn't at its end
  pub refused_after : (i n : ℕ) (left : List Due) → n ≡ i → i ≤ length items → length items ≤ i → ReadTo i left → left ≢ [] → IsFirstRefusal net fault form items (Shape (n + 1))
  refused_after i n left e le ge before more = refused_at i left (Shape (n + 1)) le before (rw (drop_all i items ge) (more, rw (e, add-one) refl))
