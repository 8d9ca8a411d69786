-- The miter's fault is detected exactly where the two nets differ.
use Rattle.std.proofs.Common.{Bool, List, [], ap, arith, false, length, map, not, refl, subst, suc, sym, true, ℕ, ◌++◌, ◌+◌, ◌<◌, ◌∙◌, ◌∷◌, ◌≡◌, ◌≢◌}
use Rattle.std.specs.Prelude.{Option, Some, slice_get, slice_set}
use Rattle.gate_net.specs.Laws.{FaultyValuesExist, ValuesExist}
use Rattle.gate_net.specs.Net.{IsObserved, Net, Node, drivers_in, drivers_of, flatten_option, node_at}
use Rattle.gate_net.specs.Values.{AreFaultyValues, AreGoodValues, Detects, HasPin, faulty_reads, junction, node_value}
use Rattle.gate_net.proofs.Public.{not_is, reads_there}
use Rattle.rm_base.proofs.Public.{map_at, map_found, only_stands}
use Rattle.equal_miter.specs.Laws.{AreAlike, DifferUnder, MitersTell}
use Rattle.joined_nets.specs.Joined.{both, first_gate, moved, observed_moved}
use Rattle.equal_miter.specs.Miter.{compared, differences, miter_fault, miter_of, not_gate, or_gate, some_difference}
use Rattle.equal_miter.proofs.Sharing.{shared}
use Rattle.equal_miter.proofs.Comparing.{DifferentPlace, differ_bits, differences_value, found_place, place_found}
use Rattle.joined_nets.proofs.Public.{back_at, live_below, ours_same, theirs_same}
use Rattle.equal_miter.proofs.Listed.{Met, met_by_place, met_parts}

module _ (one two : Net) where
  abbrev last_nodes : List Node
  last_nodes = or_gate (differences (length (both one two)) one.observed (observed_moved one two)) ∷ not_gate (some_difference one two) ∷ []

  abbrev added : List Node
  added = compared one two ++ last_nodes

  added_at : (k : ℕ) (n : Node) → slice_get added k ≡ Some n → node_at (miter_of one two) (length (both one two) + k) ≡ Some n
  added_at k n e = ap (λ (o : Option (Option Node)). flatten_option o) (back_at (both one two) (map (λ (n : Node). Some n) added) k (Some n) (map_at (λ (n : Node). Some n) added k n e))

  all_met : (a v : ℕ → Bool) → AreGoodValues (miter_of one two) a v → Met v a (length (both one two)) added
  all_met a v good = met_by_place v a (length (both one two)) added (λ k n e. good (length (both one two) + k) ∙ ap (λ (o : Option Node). node_value o (a (length (both one two) + k)) (map v (drivers_in o))) (added_at k n e))

  -- the Or is 1 where some place differs, and the Not is its opposite
  pub ends_value : (a v : ℕ → Bool) → AreGoodValues (miter_of one two) a v
      → (v (some_difference one two) ≡ junction true (differ_bits v one.observed (observed_moved one two))) × (v (suc (some_difference one two)) ≡ not (v (some_difference one two)))
  ends_value a v good =
      let parts = met_parts v a (length (both one two)) (compared one two) last_nodes (all_met a v good) in
      (parts.1.0 ∙ ap (λ (l : List Bool). junction true l) (differences_value v a (length (both one two)) one.observed (observed_moved one two) parts.0), parts.1.1.0 ∙ not_is (v (some_difference one two)))

  last_at : node_at (miter_of one two) (suc (some_difference one two)) ≡ Some (not_gate (some_difference one two))
  last_at =
      let there : slice_get added (length (compared one two) + 1) ≡ Some (not_gate (some_difference one two)) = back_at (compared one two) last_nodes 1 (not_gate (some_difference one two)) refl in
      let same : length (both one two) + (length (compared one two) + 1) ≡ suc (length (both one two) + length (compared one two)) = omega arith in
      subst (λ (i : ℕ). node_at (miter_of one two) i ≡ Some (not_gate (some_difference one two))) same (added_at (length (compared one two) + 1) (not_gate (some_difference one two)) there)

  -- with the fault the Not is 1
  pub stuck : (a f : ℕ → Bool) → AreFaultyValues (miter_of one two) (miter_fault one two) a f → f (suc (some_difference one two)) ≡ true
  stuck a f bad =
      let drivers : drivers_of (miter_of one two) (suc (some_difference one two)) ≡ some_difference one two ∷ [] = ap (λ (o : Option Node). drivers_in o) last_at in
      let reads : faulty_reads (miter_of one two) (miter_fault one two) (λ b. b) f (suc (some_difference one two)) ≡ false ∷ [] =
      reads_there (miter_of one two) (miter_fault one two) (λ b. b) f ∙ ap (λ (l : List ℕ). slice_set (map f l) 0 false) drivers in
      bad (suc (some_difference one two))
      ∙ (ap (λ (l : List Bool). node_value (node_at (miter_of one two) (suc (some_difference one two))) (a (suc (some_difference one two))) l) reads
      ∙ ap (λ (o : Option Node). node_value o (a (suc (some_difference one two))) (false ∷ [])) last_at)

  pub observed_last : (x : ℕ) → IsObserved (miter_of one two) x → x ≡ suc (some_difference one two)
  observed_last x (k, e) = only_stands (suc (some_difference one two)) k x e

  pub fault_has_pin : HasPin (miter_of one two) (miter_fault one two)
  fault_has_pin = (some_difference one two, ap (λ (o : Option Node). slice_get (drivers_in o) 0) last_at)

  -- inside the miter each net has its values
  ours_in : AreAlike one two → (a v : ℕ → Bool) → AreGoodValues (miter_of one two) a v → (w : ℕ → Bool) → AreGoodValues one a w → (x : ℕ) → x < length one.nodes → v x ≡ w x
  ours_in alike a v good = ours_same one two (shared one two alike) (miter_of one two) (map (λ (n : Node). Some n) added) refl a v good

  theirs_in : AreAlike one two → (a v : ℕ → Bool) → AreGoodValues (miter_of one two) a v → (w : ℕ → Bool) → AreGoodValues two a w → (x : ℕ) → x < length two.nodes → v (moved (first_gate one) (length one.nodes) x) ≡ w x
  theirs_in alike a v good = theirs_same one two (shared one two alike) (miter_of one two) (map (λ (n : Node). Some n) added) refl a v good

not_true : (b : Bool) → not b ≢ true → b ≡ true
not_true true ne = refl
not_true false ne = absurd (ne refl)

not_of_true : (b : Bool) → b ≡ true → not b ≢ true
not_of_true b e f = let g : not true ≡ true = ap not (sym e) ∙ f in absurd cc

pub miters_tell : ValuesExist → FaultyValuesExist → MitersTell
miters_tell exist faulty_exist one two a alike acyclic = (to, from)
  where
    to : Detects (miter_of one two) (miter_fault one two) a → DifferUnder one two a
    to (v, (f, (run, (x, (seen, ne))))) =
        let last : x ≡ suc (some_difference one two) = observed_last one two x seen in
        let bad : f (suc (some_difference one two)) ≡ true = stuck one two a f run.faulty in
        let ends = ends_value one two a v run.good in
        let low : not (v (some_difference one two)) ≢ true = λ e. ne (ap v last ∙ (ends.1 ∙ (e ∙ (sym bad ∙ ap f (sym last))))) in
        let d : DifferentPlace v one.observed (observed_moved one two) = place_found v one.observed (observed_moved one two) (sym ends.0 ∙ not_true (v (some_difference one two)) low) in
        let w = exist one alike.first.acyclic a in
        let u = exist two alike.second.acyclic a in
        let y = map_found (moved (first_gate one) (length one.nodes)) two.observed d.place d.y d.y_is in
        let mine : v d.x ≡ w.0 d.x = ours_in one two alike a v run.good w.0 w.1.0 d.x (live_below one d.x (alike.first.observed_live d.x (d.place, d.x_is))) in
        let theirs : v (moved (first_gate one) (length one.nodes) y.0) ≡ u.0 y.0 = theirs_in one two alike a v run.good u.0 u.1.0 y.0 (live_below two y.0 (alike.second.observed_live y.0 (d.place, y.1.0))) in
        record {
          values = w.0;
          others = u.0;
          good = w.1.0;
          other_good = u.1.0;
          place = d.place;
          differs = record { ours = d.x; theirs = y.0; ours_is = d.x_is; theirs_is = y.1.0; differs = λ e. d.differs (mine ∙ (e ∙ (sym theirs ∙ ap v y.1.1))) };
        }

    from : DifferUnder one two a → Detects (miter_of one two) (miter_fault one two) a
    from h =
        let v = exist (miter_of one two) acyclic a in
        let f = faulty_exist (miter_of one two) (miter_fault one two) acyclic a in
        let ends = ends_value one two a v.0 v.1.0 in
        let p = h.differs in
        let m : ℕ → ℕ = moved (first_gate one) (length one.nodes) in
        let mine : v.0 p.ours ≡ h.values p.ours = ours_in one two alike a v.0 v.1.0 h.values h.good p.ours (live_below one p.ours (alike.first.observed_live p.ours (h.place, p.ours_is))) in
        let theirs : v.0 (m p.theirs) ≡ h.others p.theirs = theirs_in one two alike a v.0 v.1.0 h.others h.other_good p.theirs (live_below two p.theirs (alike.second.observed_live p.theirs (h.place, p.theirs_is))) in
        let moved_is : slice_get (observed_moved one two) h.place ≡ Some (m p.theirs) = map_at m two.observed h.place p.theirs p.theirs_is in
        let top : v.0 (some_difference one two) ≡ true = ends.0 ∙ found_place v.0 one.observed (observed_moved one two) h.place p.ours (m p.theirs) p.ours_is moved_is (λ e. p.differs (sym mine ∙ (e ∙ theirs))) in
        let bad : f.0 (suc (some_difference one two)) ≡ true = stuck one two a f.0 f.1.0 in
        (v.0, (f.0, (record { good = v.1.0; faulty = f.1.0 }, (suc (some_difference one two), ((0, refl), λ e. not_of_true (v.0 (some_difference one two)) top (sym ends.1 ∙ (e ∙ bad)))))))
