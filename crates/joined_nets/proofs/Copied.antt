-- The values of the two nets inside a net that has both.
use Rattle.std.proofs.Common.{Bool, List, [], ap, arith, drop, false, length, map, nat_lt, refl, subst, suc, sym, true, zero, ℕ, ◌++◌, ◌+◌, ◌-◌, ◌<◌, ◌∙◌, ◌∷◌, ◌≡◌, ◌≤◌, ◌≢◌, inl, inr}
use Rattle.std.specs.Prelude.{None, Option, Some, slice_get}
use Rattle.std.proofs.lemmas.Bool.{cases_lt, le-ltb, lt-ltb}
use Rattle.gate_net.specs.declared.Kind.{Kind}
use Rattle.gate_net.specs.declared.Kind.TheVariants.{One, Source, Zero}
use Rattle.gate_net.specs.Net.{IsKind, IsWellFormed, Net, Node, Reads, drivers_in, drivers_of, flatten_option, node_at, plain_node, source_count}
use Rattle.gate_net.specs.Values.{AreGoodValues, gate_value, node_value}
use Rattle.gate_net.proofs.Public.{along_pins}
use Rattle.rm_base.proofs.Public.{front_stands, map_agree, map_at, stands_below}
use Rattle.joined_nets.specs.Joined.{ShareSources, both, first_gate, moved, node_moved}
use Rattle.joined_nets.proofs.Listed.{back_at, drop_at, live_below}

-- only a source has the value that is assigned
unassigned : (kind : Kind) (b c : Bool) (reads : List Bool) → kind ≢ Source → gate_value kind b reads ≡ gate_value kind c reads
unassigned Source b c reads ne = absurd (ne refl)
unassigned kind b c reads ne = refl

fused : (v : ℕ → Bool) (m : ℕ → ℕ) (ds : List ℕ) → map v (map m ds) ≡ map (λ (d : ℕ). v (m d)) ds
fused v m [] = refl
fused v m (d ∷ ds) = rw (fused v m ds) refl

moved_value : (first count : ℕ) (v w : ℕ → Bool) (o : Option Node) (b c : Bool) → ((n : Node) → o ≡ Some n → n.kind ≢ Source)
    → ((p y : ℕ) → slice_get (drivers_in o) p ≡ Some y → v (moved first count y) ≡ w y)
    → node_value (node_moved first count o) b (map v (drivers_in (node_moved first count o))) ≡ node_value o c (map w (drivers_in o))
moved_value first count v w None b c gate same = refl
moved_value first count v w (Some n) b c gate same =
    unassigned n.kind b c (map v (map (moved first count) n.drivers)) (gate n refl)
    ∙ ap (λ (l : List Bool). gate_value n.kind c l) (fused v (moved first count) n.drivers ∙ map_agree (λ (d : ℕ). v (moved first count d)) w n.drivers same)

pub moved_low : (first count x : ℕ) → x < first → moved first count x ≡ x
moved_low first count x lt = let e : nat_lt x first ≡ true = lt-ltb x first lt in rw e refl

pub moved_high : (first count x : ℕ) → first ≤ x → moved first count x ≡ count + (x - first)
moved_high first count x le = let e : nat_lt x first ≡ false = le-ltb x first le in rw e refl

module _ (one two : Net) (share : ShareSources one two) where
  below : (net : Net) → IsWellFormed net → (y p x : ℕ) → Reads net y p x → x < length net.nodes
  below net formed y p x reads = live_below net x (formed.drivers_live y p x reads)

  -- the constants and the sources are the same in both
  plain_there : (x : ℕ) → x < first_gate one → (kind : Kind) × ((node_at one x ≡ plain_node kind) × (node_at two x ≡ plain_node kind))
  plain_there zero lt = (Zero, (share.first.constants.zero_is, share.second.constants.zero_is))
  plain_there (suc zero) lt = (One, (share.first.constants.one_is, share.second.constants.one_is))
  plain_there (suc (suc k)) lt =
      let less : k < source_count one = omega arith in
      let same : 2 + k ≡ suc (suc k) = omega arith in
      let other : k < source_count two = rw (sym share.sources) less in
      (Source, (subst (λ (i : ℕ). node_at one i ≡ plain_node Source) same (share.first.sources.first k less), subst (λ (i : ℕ). node_at two i ≡ plain_node Source) same (share.second.sources.first k other)))

  -- from the first gate's number on there is no source
  pub no_source : (x : ℕ) → first_gate one ≤ x → (n : Node) → node_at two x ≡ Some n → n.kind ≢ Source
  no_source x le n is e =
      let source : IsKind two x Source = (n.drivers, is ∙ ap (λ (k : Kind). let m : Node = record n { kind = k } in Some m) e) in
      let bounds = share.second.sources.only x source in
      let counts = share.sources in
      omega (arith, bounds.1, le, counts)

  -- a net that begins with the nodes of both
  module _ (net : Net) (tail : List (Option Node)) (are : net.nodes ≡ both one two ++ tail) where
    here_at : (x : ℕ) (o : Option Node) → slice_get (both one two ++ tail) x ≡ Some o → node_at net x ≡ o
    here_at x o e = ap (λ (l : List (Option Node)). flatten_option (slice_get l x)) are ∙ ap (λ (p : Option (Option Node)). flatten_option p) e

    pub ours_there : (x : ℕ) → x < length one.nodes → node_at net x ≡ node_at one x
    ours_there x lt =
        let o = stands_below one.nodes x lt in
        here_at x o.0 (front_stands (both one two) tail x o.0 (front_stands one.nodes (map (node_moved (first_gate one) (length one.nodes)) (drop (first_gate one) two.nodes)) x o.0 o.1))
        ∙ ap (λ (p : Option (Option Node)). flatten_option p) (sym o.1)

    pub theirs_there : (x : ℕ) → first_gate one ≤ x → x < length two.nodes → node_at net (length one.nodes + (x - first_gate one)) ≡ node_moved (first_gate one) (length one.nodes) (node_at two x)
    theirs_there x le lt =
        let o = stands_below two.nodes x lt in
        let f : Option Node → Option Node = node_moved (first_gate one) (length one.nodes) in
        let there : slice_get (drop (first_gate one) two.nodes) (x - first_gate one) ≡ Some o.0 = drop_at two.nodes (first_gate one) x o.0 le o.1 in
        let mapped : slice_get (map f (drop (first_gate one) two.nodes)) (x - first_gate one) ≡ Some (f o.0) = map_at f (drop (first_gate one) two.nodes) (x - first_gate one) o.0 there in
        here_at (length one.nodes + (x - first_gate one)) (f o.0)
        (front_stands (both one two) tail (length one.nodes + (x - first_gate one)) (f o.0) (back_at one.nodes (map f (drop (first_gate one) two.nodes)) (x - first_gate one) (f o.0) mapped))
        ∙ ap (λ (p : Option (Option Node)). f (flatten_option p)) (sym o.1)

    module _ (a v : ℕ → Bool) (good : AreGoodValues net a v) where
      pub ours_same : (w : ℕ → Bool) → AreGoodValues one a w → (x : ℕ) → x < length one.nodes → v x ≡ w x
      ours_same w right =
          along_pins one share.first.acyclic (λ x. x < length one.nodes → v x ≡ w x)
          (λ y h lt. good y
          ∙ (ap (λ (o : Option Node). node_value o (a y) (map v (drivers_in o))) (ours_there y lt)
          ∙ (ap (λ (l : List Bool). node_value (node_at one y) (a y) l) (map_agree v w (drivers_of one y) (λ p x r. h p x r (below one share.first y p x r)))
          ∙ sym (right y))))

      pub theirs_same : (w : ℕ → Bool) → AreGoodValues two a w → (x : ℕ) → x < length two.nodes → v (moved (first_gate one) (length one.nodes) x) ≡ w x
      theirs_same w right =
          along_pins two share.second.acyclic (λ x. x < length two.nodes → v (moved (first_gate one) (length one.nodes) x) ≡ w x)
          (λ y h lt. elim (cases_lt y (first_gate one)) [
            | inl low ↦ ap v (moved_low (first_gate one) (length one.nodes) y low) ∙ plain y low
            | inr high ↦
                ap v (moved_high (first_gate one) (length one.nodes) y high)
                ∙ (good (length one.nodes + (y - first_gate one))
                ∙ (ap (λ (o : Option Node). node_value o (a (length one.nodes + (y - first_gate one))) (map v (drivers_in o))) (theirs_there y high lt)
                ∙ (moved_value (first_gate one) (length one.nodes) v w (node_at two y) (a (length one.nodes + (y - first_gate one))) (a y) (no_source y high) (λ p x r. h p x r (below two share.second y p x r))
                ∙ sym (right y))))
          ])
        where
          plain : (y : ℕ) → y < first_gate one → v y ≡ w y
          plain y low =
              let there = plain_there y low in
              let live : y < length one.nodes = live_below one y (λ e. let bad : None ≡ plain_node there.0 = sym e ∙ there.1.0 in absurd cc) in
              (good y ∙ (ap (λ (o : Option Node). node_value o (a y) (map v (drivers_in o))) (ours_there y live ∙ there.1.0)))
              ∙ sym (right y ∙ ap (λ (o : Option Node). node_value o (a y) (map w (drivers_in o))) there.1.1)
