-- A graph after one more gate, and after one more observed node.
use Rattle.std.proofs.Common.{◌≡◌, ◌≢◌, ◌<◌, ◌≤◌, ◌+◌, ℕ, zero, suc, List, [], ◌∷◌, ◌++◌, length, map, refl, sym, ap, ◌∙◌, ◌⊎◌, inl, inr, arith, append_assoc, add-one}
use Rattle.std.specs.Prelude.{Some, None, Option, slice_get, sum_by}
use Rattle.std.specs.Option.{option_map}
use Rattle.std.proofs.lemmas.Bool.{cases_lt}
use Rattle.std.proofs.lemmas.Option.{slice_get-map}
use Rattle.std.proofs.lemmas.List.Sums.{sum_by_push}
use Rattle.cover_decompose.proofs.WellFormed.{all_live}
use Rattle.gate_net.specs.Edits.{MakesGate}
use Rattle.gate_net.specs.Net.{Node, Net, node_at, flatten_option, before_dead, trimmed}
use Rattle.gate_graph.specs.Circuit.{Circuit, net_of, pins_taken, live_nodes}
use Rattle.gate_graph.specs.Readers.{NewReaders, SameReaders}
use Rattle.gate_graph.specs.Spots.{places_from}
use Rattle.cover_decompose.specs.Built.{IsBuilt, readers_from}
use Rattle.cover_decompose.proofs.Places.{length-push}
use Rattle.rm_base.proofs.Public.{seam_stands}

-- a list without dead numbers at its end follows from what is at each number
dead_or_live : (xs : List (Option Node)) → trimmed xs ≡ [] → (k : ℕ) → flatten_option (slice_get xs k) ≡ None
dead_or_live [] e k = refl
dead_or_live (x ∷ xs) e k = by_head x (trimmed xs) e (dead_or_live xs) k
  where
    by_head : (x : Option Node) (t : List (Option Node)) → before_dead x t ≡ [] → (t ≡ [] → (k : ℕ) → flatten_option (slice_get xs k) ≡ None) → (k : ℕ) → flatten_option (slice_get (x ∷ xs) k) ≡ None
    by_head None [] e next zero = refl
    by_head None [] e next (suc k) = next refl k
    by_head None (y ∷ ys) e next k = absurd cc
    by_head (Some n) t e next k = absurd cc

trimmed_same : (xs ys : List (Option Node)) → ((k : ℕ) → flatten_option (slice_get xs k) ≡ flatten_option (slice_get ys k)) → trimmed xs ≡ trimmed ys
trimmed_same [] [] h = refl
trimmed_same [] (y ∷ ys) h = by_head y (h 0) (trimmed_same [] ys (λ k. h (suc k)))
  where
    by_head : (y : Option Node) → None ≡ y → [] ≡ trimmed ys → [] ≡ before_dead y (trimmed ys)
    by_head None e t = ap (λ (l : List (Option Node)). before_dead None l) t
    by_head (Some n) e t = absurd cc
trimmed_same (x ∷ xs) [] h = by_head x (h 0) (trimmed_same xs [] (λ k. h (suc k)))
  where
    by_head : (x : Option Node) → x ≡ None → trimmed xs ≡ [] → before_dead x (trimmed xs) ≡ []
    by_head None e t = ap (λ (l : List (Option Node)). before_dead None l) t
    by_head (Some n) e t = absurd cc
trimmed_same (x ∷ xs) (y ∷ ys) h = rw (h 0, trimmed_same xs ys (λ k. h (suc k))) refl

node_there : (made : List Node) (x : ℕ) (n : Node) → slice_get made x ≡ Some n → flatten_option (slice_get (map (λ n. Some n) made) x) ≡ Some n
node_there made x n e = ap (λ (o : Option (Option Node)). flatten_option o) (slice_get-map (λ (n : Node). Some n) made x ∙ ap (λ (o : Option Node). option_map (λ (n : Node). Some n) o) e)

pub live_below : (made : List Node) (x : ℕ) → x < length made → (n : Node) × (flatten_option (slice_get (map (λ n. Some n) made) x) ≡ Some n)
live_below [] x lt = absurd (omega arith)
live_below (n ∷ made) zero lt = (n, refl)
live_below (n ∷ made) (suc x) lt = live_below made x (omega arith)

dead_above : (made : List Node) (x : ℕ) → length made ≤ x → flatten_option (slice_get (map (λ n. Some n) made) x) ≡ None
dead_above [] x le = refl
dead_above (n ∷ made) zero le = absurd (omega arith)
dead_above (n ∷ made) (suc x) le = dead_above made x (omega arith)

pushed_elsewhere : (made : List Node) (n : Node) (x : ℕ) → x ≢ length made → flatten_option (slice_get (map (λ n. Some n) (made ++ n ∷ [])) x) ≡ flatten_option (slice_get (map (λ n. Some n) made) x)
pushed_elsewhere [] n zero ne = absurd (ne refl)
pushed_elsewhere [] n (suc x) ne = refl
pushed_elsewhere (m ∷ made) n zero ne = refl
pushed_elsewhere (m ∷ made) n (suc x) ne = pushed_elsewhere made n x (λ e. ne (ap (λ (k : ℕ). suc k) e))

pub readers_push : (y : ℕ) (made : List Node) (n : Node) (k : ℕ) → readers_from y (map (λ n. Some n) (made ++ n ∷ [])) k ≡ readers_from y (map (λ n. Some n) made) k ++ places_from (y + length made) 0 n.drivers k
readers_push y [] n k = let e : y + 0 ≡ y = omega arith in rw e (append_nothing (places_from y 0 n.drivers k))
  where
    append_nothing : (xs : List (ℕ × ℕ)) → xs ++ [] ≡ xs
    append_nothing [] = refl
    append_nothing (x ∷ xs) = ap (λ (l : List (ℕ × ℕ)). x ∷ l) (append_nothing xs)
readers_push y (m ∷ made) n k =
    let e : suc y + length made ≡ y + suc (length made) = omega arith in
    ap (λ (l : List (ℕ × ℕ)). places_from y 0 m.drivers k ++ l) (readers_push (suc y) made n k)
    ∙ (sym (append_assoc (places_from y 0 m.drivers k) (readers_from (suc y) (map (λ n. Some n) made) k) (places_from (suc y + length made) 0 n.drivers k))
    ∙ ap (λ (i : ℕ). (places_from y 0 m.drivers k ++ readers_from (suc y) (map (λ n. Some n) made) k) ++ places_from i 0 n.drivers k) e)

by_parts : (xs ys : List (Option Node)) (os ps : List ℕ) → xs ≡ ys → os ≡ ps → ◌≡◌ {A = Net} (record { nodes = xs; observed = os }) (record { nodes = ys; observed = ps })
by_parts xs ys os ps e f = rw (e, f) refl

same_net : (a b : Net) → trimmed a.nodes ≡ a.nodes → trimmed b.nodes ≡ b.nodes → ((k : ℕ) → node_at a k ≡ node_at b k) → a.observed ≡ b.observed → a ≡ b
same_net a b ca cb h o = let nodes : a.nodes ≡ b.nodes = sym ca ∙ (trimmed_same a.nodes b.nodes h ∙ cb) in by_parts a.nodes b.nodes a.observed b.observed nodes o

-- one more gate
pub next_built : (v w : Circuit) (made : List Node) (n : Node) (number : ℕ) → IsBuilt v made [] → trimmed (net_of w).nodes ≡ (net_of w).nodes → MakesGate (net_of v) (net_of w) n.kind n.drivers number → NewReaders v w number n.drivers
    → pins_taken w ≡ pins_taken v + length n.drivers → live_nodes w ≡ live_nodes v + 1 → w.epoch ≡ v.epoch → IsBuilt w (made ++ n ∷ []) []
next_built v w made n number h canonical makes readers pins live epoch = record {
  net = same_net (net_of w) (record { nodes = map (λ n. Some n) (made ++ n ∷ []); observed = [] }) canonical (all_live (made ++ n ∷ [])) (λ k. at k) (makes.differs.observed ∙ ap (λ (net : Net). net.observed) h.net);
  readers = λ k. readers k ∙ (ap (λ (l : List (ℕ × ℕ)). l ++ places_from number 0 n.drivers k) (h.readers k) ∙ (ap (λ (i : ℕ). readers_from 0 (map (λ n. Some n) made) k ++ places_from i 0 n.drivers k) (is_next ∙ zero_plus (length made)) ∙ sym (readers_push 0 made n k)));
  pins = pins ∙ (ap (λ (i : ℕ). i + length n.drivers) h.pins ∙ count (sum_by (λ (n : Node). length n.drivers) made) (length n.drivers) (sum_by (λ (n : Node). length n.drivers) (made ++ n ∷ [])) (sum_by_push (λ (n : Node). length n.drivers) made n));
  nodes = live ∙ (ap (λ (i : ℕ). i + 1) h.nodes ∙ (rw add-one (sym (length-push made n))));
  epoch = epoch ∙ h.epoch;
}
  where
    zero_plus : (i : ℕ) → i ≡ 0 + i
    zero_plus i = omega arith

    count : (s d t : ℕ) → t ≡ s + d → (s + 0) + d ≡ t + 0
    count s d t e = omega arith

    old_at : (k : ℕ) → node_at (net_of v) k ≡ flatten_option (slice_get (map (λ n. Some n) made) k)
    old_at k = ap (λ (net : Net). node_at net k) h.net

    is_next : number ≡ length made
    is_next = elim (cases_lt number (length made)) [
      | inl lt ↦
          let there = live_below made number lt in
          let bad : Some there.0 ≡ None = sym there.1 ∙ (sym (old_at number) ∙ makes.number.free) in absurd cc
      | inr le ↦ elim (cases_lt (length made) number) [
        | inl more ↦ absurd (makes.number.least (length made) more (old_at (length made) ∙ dead_above made (length made) (omega arith)))
        | inr less ↦ omega (arith, le, less)
      ]
    ]

    seam : flatten_option (slice_get (map (λ n. Some n) (made ++ n ∷ [])) number) ≡ Some n
    seam = ap (λ (i : ℕ). flatten_option (slice_get (map (λ n. Some n) (made ++ n ∷ [])) i)) is_next ∙ node_there (made ++ n ∷ []) (length made) n (seam_stands made n [])

    at : (k : ℕ) → node_at (net_of w) k ≡ flatten_option (slice_get (map (λ n. Some n) (made ++ n ∷ [])) k)
    at k = by_case (same_or_not k number)
      where
        same_or_not : (j k : ℕ) → (j ≡ k) ⊎ (j ≢ k)
        same_or_not j k = elim (cases_lt j k) [ inl lt ↦ inr (λ e. omega (arith, lt)) | inr le ↦ elim (cases_lt k j) [ inl lt ↦ inr (λ e. omega (arith, lt)) | inr ge ↦ inl (omega (arith, le, ge)) ] ]

        by_case : (k ≡ number) ⊎ (k ≢ number) → node_at (net_of w) k ≡ flatten_option (slice_get (map (λ n. Some n) (made ++ n ∷ [])) k)
        by_case (inl e) = ap (λ (i : ℕ). node_at (net_of w) i) e ∙ (makes.made ∙ (sym seam ∙ ap (λ (i : ℕ). flatten_option (slice_get (map (λ n. Some n) (made ++ n ∷ [])) i)) (sym e)))
        by_case (inr ne) = makes.differs.others k ne ∙ (old_at k ∙ sym (pushed_elsewhere made n k (λ e. ne (e ∙ sym is_next))))

-- one more observed node
pub observed_built : (v w : Circuit) (made : List Node) (observed : List ℕ) (x : ℕ) → IsBuilt v made observed → net_of w ≡ record (net_of v) { observed = (net_of v).observed ++ x ∷ [] } → SameReaders v w
    → pins_taken w ≡ pins_taken v + 1 → live_nodes w ≡ live_nodes v → w.epoch ≡ v.epoch → IsBuilt w made (observed ++ x ∷ [])
observed_built v w made observed x h net readers pins live epoch = record {
  net = net ∙ ap (λ (n : Net). let r : Net = record n { observed = n.observed ++ x ∷ [] } in r) h.net;
  readers = λ n. readers n ∙ h.readers n;
  pins = pins ∙ (ap (λ (i : ℕ). i + 1) h.pins ∙ (let l : length (observed ++ x ∷ []) ≡ suc (length observed) = length-push observed x in omega arith));
  nodes = live ∙ h.nodes;
  epoch = epoch ∙ h.epoch;
}
