-- What an item of an open branch leads to.
use Rattle.std.proofs.Common.{Bool, List, [], false, refl, subst, sym, true, ℕ, ◌∷◌, ◌≡◌, ◌≢◌}
use Rattle.gate_net.specs.Net.{Net}
use Rattle.refutation.specs.Facts.{Held}
use Rattle.refutation.specs.Stack.{AreRead, Due, MaySplitIn, tree, untried_for}
use Rattle.refutation.specs.declared.items.Form.{Form}
use Rattle.refutation.specs.declared.items.Item.{Item}
use Rattle.refutation.specs.declared.items.Item.TheVariants.{Clash, Here, Line, Quiet, Split, Untried}
use Rattle.refutation_check.proofs.Branchings.{open_left, stopped_left}
use Rattle.refutation_check.specs.FirstRefusal.{IsRefused}
use Rattle.refutation_check.specs.Inner.Notes.{held_of}
use Rattle.refutation_check.specs.Inner.Standing.{left_of, others_of}
use Rattle.refutation_check.specs.declared.branches.Branches.{Branches}
use Rattle.refutation_check.specs.declared.refusals.CheckRefusal.{CheckRefusal}
use Rattle.refutation_check.specs.declared.refusals.CheckRefusal.TheVariants.{BadSplit, Shape}
use Rattle.rm_base.specs.declared.numbers.Fault.{Fault}
use Rattle.rm_base.specs.declared.numbers.NodeId.{NodeId}

module _ (net : Net) (fault : Fault) (form : Form) (b : Branches) where
  pub read_open : (i : Item) (next : List Due) → b.stopped ≡ false → AreRead net fault form (tree (held_of b.trail.entries) ∷ others_of b.trail.entries b.pending.items) (i ∷ []) next → AreRead net fault form (left_of b) (i ∷ []) next
  read_open i next opened h = subst (λ (left : List Due). AreRead net fault form left (i ∷ []) next) (sym (open_left b opened)) h

  pub refused_open : (n : ℕ) (i : Item) (r : CheckRefusal) → b.stopped ≡ false → IsRefused net fault form n (tree (held_of b.trail.entries) ∷ others_of b.trail.entries b.pending.items) (i ∷ []) r → IsRefused net fault form n (left_of b) (i ∷ []) r
  refused_open n i r opened h = subst (λ (left : List Due). IsRefused net fault form n left (i ∷ []) r) (sym (open_left b opened)) h

  pub bad_split : (n : ℕ) (held : Held) (x : NodeId) (first : Bool) → b.stopped ≡ false → held ≡ held_of b.trail.entries → (MaySplitIn form net held x.0 → ⊥) → IsRefused net fault form n (left_of b) (Split x first ∷ []) (BadSplit n)
  bad_split n held x first opened same fails = refused_open n (Split x first) (BadSplit n) opened (λ next h. (rw same at fails) h.0, refl)

  -- after the end or the Here of a tree an Untried alone is read, where one is left
  pub none_read : (n : ℕ) (i : Item) (left : List Due) → left ≡ [] → IsRefused net fault form n left (i ∷ []) (Shape n)
  none_read n i left none = rw none (λ next h. h, refl)

  not_untried : (n : ℕ) (i : Item) (left : List Due) → i ≢ Untried → IsRefused net fault form n (untried_for left) (i ∷ []) (Shape n)
  not_untried n i [] ne = (λ next h. h, refl)
  not_untried n (Line l) (d ∷ left) ne = (λ next h. h, refl)
  not_untried n (Split x first) (d ∷ left) ne = (λ next h. h, refl)
  not_untried n (Clash x) (d ∷ left) ne = (λ next h. h, refl)
  not_untried n Quiet (d ∷ left) ne = (λ next h. h, refl)
  not_untried n Here (d ∷ left) ne = (λ next h. h, refl)
  not_untried n Untried (d ∷ left) ne = absurd (ne refl)

  pub stopped_read : (n : ℕ) (i : Item) → b.stopped ≡ true → i ≢ Untried → IsRefused net fault form n (left_of b) (i ∷ []) (Shape n)
  stopped_read n i stopped ne = rw (stopped_left b stopped) (not_untried n i (others_of b.trail.entries b.pending.items) ne)
