-- What a graph needs for its next gate and its next observed node, and what it is at first.
use Rattle.std.proofs.Common.{◌≡◌, ◌<◌, ◌≤◌, ◌+◌, ℕ, zero, suc, Bool, true, List, [], ◌∷◌, ◌++◌, length, map, take, refl, sym, ap, subst, ◌∙◌, ◌⊎◌, inl, inr, arith}
use Rattle.std.specs.Prelude.{All, Some, Option, replicate, slice_get, sum_by, ◌||◌}
use Rattle.std.specs.List.{AllByRecursion}
use Rattle.std.proofs.lemmas.Bool.Decides.{eqb_tells}
use Rattle.std.proofs.lemmas.List.Sums.{sum_by-take-le}
use Rattle.std.proofs.lemmas.Option.{slice_get_within}
use Rattle.cover_decompose.proofs.WellFormed.{gate_at}
use Rattle.gate_net.specs.declared.Kind.TheVariants.{Source, Zero, One, Not, Xor}
use Rattle.gate_net.specs.Net.{Node, Net, node_at, plain_node, IsGateKind, IsLive}
use Rattle.gate_graph.specs.Circuit.{Circuit, net_of, fanouts_of, pins_taken, live_nodes}
use Rattle.gate_graph.specs.Start.{first_net}
use Rattle.pin_pool.specs.Ring.{has}
use Rattle.cover_decompose.specs.Built.{IsBuilt, readers_from}
use Rattle.cover_decompose.specs.Inner.Built.{AllBelow, IsBuildable, IsGateNode}
use Rattle.cover_decompose.specs.Decomposition.{plain}
use Rattle.cover_decompose.proofs.Building.{live_below}
use Rattle.cover_decompose.proofs.Places.{get_parts}
use Rattle.cover_decompose.proofs.PlanSteps.{length-many}
use Rattle.cover_decompose.proofs.Sums.{sum-total, total, total-append}
use Rattle.rm_base.proofs.Public.{take_one_more}

-- the wires of nodes
abbrev pub wires_of : List Node → ℕ
wires_of made = sum_by (λ (n : Node). length n.drivers) made

many_gates : (gates : List Node) → AllByRecursion IsGateNode gates → length gates ≤ total (λ (n : Node). length n.drivers) gates
many_gates [] h = omega arith
many_gates (g ∷ gates) h = let rest : length gates ≤ total (λ (n : Node). length n.drivers) gates = many_gates gates h.1 in let here : 0 < length g.drivers = h.0.reads in omega arith

length-both : (xs ys : List Node) → length (xs ++ ys) ≡ length xs + length ys
length-both [] ys = omega arith
length-both (x ∷ xs) ys = let r = length-both xs ys in omega arith

start_length : (sources : ℕ) → length (plain Zero ∷ plain One ∷ replicate sources (plain Source)) ≡ 2 + sources
start_length sources = let e : length (replicate sources (plain Source)) ≡ sources = length-many sources (plain Source) in omega arith

-- few wires make few nodes
pub few_nodes : (made : List Node) (sources : ℕ) → IsBuildable made sources → length made ≤ 66562
few_nodes made sources h =
    let parts : length made ≡ length (plain Zero ∷ plain One ∷ replicate sources (plain Source)) + length h.gates = ap (λ (l : List Node). length l) h.made_is ∙ length-both (plain Zero ∷ plain One ∷ replicate sources (plain Source)) h.gates in
    let first : length (plain Zero ∷ plain One ∷ replicate sources (plain Source)) ≡ 2 + sources = start_length sources in
    let gates : length h.gates ≤ total (λ (n : Node). length n.drivers) h.gates = many_gates h.gates h.are_gates in
    let all : wires_of made ≡ total (λ (n : Node). length n.drivers) (plain Zero ∷ plain One ∷ replicate sources (plain Source)) + total (λ (n : Node). length n.drivers) h.gates =
    sum-total (λ (n : Node). length n.drivers) made ∙ (ap (λ (l : List Node). total (λ (n : Node). length n.drivers) l) h.made_is ∙ total-append (λ (n : Node). length n.drivers) (plain Zero ∷ plain One ∷ replicate sources (plain Source)) h.gates) in
    let few : wires_of made ≤ 65536 = h.few_wires in
    let small : sources ≤ 1024 = h.few_sources in
    omega arith

below_all : (n high : ℕ) (xs : List ℕ) → n ≤ high → AllBelow n xs → All (λ k. k < high) xs
below_all n high [] le h k d lt = absurd (omega arith)
below_all n high (x ∷ xs) le h zero d lt = let low : x < n = h.0 in omega arith
below_all n high (x ∷ xs) le h (suc k) d lt = below_all n high xs le h.1 k d (omega arith)

has_below : (n : ℕ) (xs : List ℕ) (d : ℕ) → AllBelow n xs → has d xs ≡ true → d < n
has_below n [] d h e = absurd cc
has_below n (x ∷ xs) d h e =
    elim (eqb_tells d x) [
      | inl same ↦ let is : d ≡ x = same.1 in let lt : x < n = h.0 in omega arith
      | inr other ↦ has_below n xs d h.1 (ap (λ (b : Bool). b || has d xs) (sym other.0) ∙ e)
    ]

take-length : {A : Type 0} (xs : List A) (k : ℕ) → k ≤ length xs → length (take k xs) ≡ k
take-length [] zero le = refl
take-length [] (suc k) le = absurd (omega arith)
take-length (x ∷ xs) zero le = refl
take-length (x ∷ xs) (suc k) le = ap (λ (n : ℕ). suc n) (take-length xs k (omega arith))

pub record NextFits (v : Circuit) (n : Node) : Type 0 where
  pub small : All (λ d. d < 4294967296) n.drivers
  pub kind : IsGateKind n.kind
  pub one : n.kind ≡ Not → length n.drivers ≡ 1
  pub two : n.kind ≡ Xor → length n.drivers ≡ 2
  pub live : (d : ℕ) → has d n.drivers ≡ true → IsLive (net_of v) d
  pub pins : pins_taken v + length n.drivers ≤ 4294967295
  pub nodes : live_nodes v < 4294967295

pub node_live : (v : Circuit) (made : List Node) (observed : List ℕ) (x : ℕ) → IsBuilt v made observed → x < length made → IsLive (net_of v) x
node_live v made observed x h lt =
    let n = live_below made x lt in
    (n.0.kind, (n.0.drivers, ap (λ (net : Net). node_at net x) h.net ∙ n.1))

pub next_fits : (v : Circuit) (made : List Node) (sources at : ℕ) (n : Node) → IsBuildable made sources → 2 + sources ≤ at → slice_get made at ≡ Some n → IsBuilt v (take at made) [] → NextFits v n
next_fits v made sources at n b le e h =
    let few : length made ≤ 66562 = few_nodes made sources b in
    let lt : at < length made = slice_get_within made at n e in
    let below : AllBelow at n.drivers = b.below at n e in
    let gate : IsGateNode n = by_place (get_parts (plain Zero ∷ plain One ∷ replicate sources (plain Source)) b.gates at n (ap (λ (l : List Node). slice_get l at) (sym b.made_is) ∙ e)) in
    let length_is : length (take at made) ≡ at = take-length made at (omega arith) in
    let sum_is : wires_of (take (at + 1) made) ≡ wires_of (take at made) + length n.drivers = ap wires_of (take_one_more made at n e) ∙ more (take at made) n in
    let most : wires_of (take (at + 1) made) ≤ wires_of made = sum_by-take-le (λ (n : Node). length n.drivers) made (at + 1) in
    let few_wires : wires_of made ≤ 65536 = b.few_wires in
    let pins_are : pins_taken v ≡ wires_of (take at made) + 0 = h.pins in
    let nodes_are : live_nodes v ≡ length (take at made) = h.nodes in
    record {
      small = below_all at 4294967296 n.drivers (omega arith) below;
      kind = gate.kind;
      one = λ e. ap (λ (l : List ℕ). length l) (gate.one e).1;
      two = λ e. ap (λ (l : List ℕ). length l) (gate.two e).2;
      live = λ d m. node_live v (take at made) [] d h (let low : d < at = has_below at n.drivers d below m in omega arith);
      pins = omega arith;
      nodes = omega arith;
    }
  where
    more : (xs : List Node) (y : Node) → wires_of (xs ++ y ∷ []) ≡ wires_of xs + length y.drivers
    more xs y = sum-total (λ (n : Node). length n.drivers) (xs ++ y ∷ []) ∙ (total-append (λ (n : Node). length n.drivers) xs (y ∷ []) ∙ (let e : wires_of xs ≡ total (λ (n : Node). length n.drivers) xs = sum-total (λ (n : Node). length n.drivers) xs in omega arith))

    by_place : (slice_get (plain Zero ∷ plain One ∷ replicate sources (plain Source)) at ≡ Some n) ⊎ ((j : ℕ) × ((at ≡ length (plain Zero ∷ plain One ∷ replicate sources (plain Source)) + j) × (slice_get b.gates j ≡ Some n))) → IsGateNode n
    by_place (inl s) = absurd (let low : at < length (plain Zero ∷ plain One ∷ replicate sources (plain Source)) = slice_get_within (plain Zero ∷ plain One ∷ replicate sources (plain Source)) at n s in let first : length (plain Zero ∷ plain One ∷ replicate sources (plain Source)) ≡ 2 + sources = start_length sources in omega arith)
    by_place (inr g) = gate_at b.gates g.0 n b.are_gates g.1.1

-- the graph of the constants and the sources
take_first : (xs ys : List Node) (k : ℕ) → k ≡ length xs → take k (xs ++ ys) ≡ xs
take_first [] ys k e = ap (λ (n : ℕ). take n ys) e
take_first (x ∷ xs) ys zero e = absurd (omega arith)
take_first (x ∷ xs) ys (suc k) e = ap (λ (l : List Node). x ∷ l) (take_first xs ys k (omega arith))

no_readers : (y sources n : ℕ) → readers_from y (map (λ n. Some n) (replicate sources (plain Source))) n ≡ []
no_readers y zero n = refl
no_readers y (suc sources) n = no_readers (suc y) sources n

no_wires : (sources : ℕ) → total (λ (n : Node). length n.drivers) (replicate sources (plain Source)) ≡ 0
no_wires zero = refl
no_wires (suc sources) = ap (λ (k : ℕ). 0 + k) (no_wires sources)

map_many : (sources : ℕ) → replicate sources (plain_node Source) ≡ map (λ n. Some n) (replicate sources (plain Source))
map_many zero = refl
map_many (suc sources) = ap (λ (l : List (Option Node)). plain_node Source ∷ l) (map_many sources)

pub start_built : (v : Circuit) (made : List Node) (sources : ℕ) → IsBuildable made sources → net_of v ≡ first_net sources → ((n : ℕ) → fanouts_of v n ≡ []) → v.epoch ≡ 0 → pins_taken v ≡ 0 → live_nodes v ≡ sources + 2 → IsBuilt v (take (2 + sources) made) []
start_built v made sources b net readers epoch pins nodes =
    let first : List Node = plain Zero ∷ plain One ∷ replicate sources (plain Source) in
    let length_is : length (plain Zero ∷ plain One ∷ replicate sources (plain Source)) ≡ 2 + sources = start_length sources in
    let is : take (2 + sources) made ≡ first = ap (λ (l : List Node). take (2 + sources) l) b.made_is ∙ take_first first b.gates (2 + sources) (sym length_is) in
    let P : List Node → Type 0 = λ l. IsBuilt v l [] in
    subst P (sym is)
    (record {
      net = net ∙ ap (λ (l : List (Option Node)). let n : Net = record { nodes = plain_node Zero ∷ plain_node One ∷ l; observed = [] } in n) (map_many sources);
      readers = λ n. readers n ∙ sym (no_readers 2 sources n);
      pins = pins ∙ (let w : wires_of (plain Zero ∷ plain One ∷ replicate sources (plain Source)) ≡ 0 + (0 + total (λ (n : Node). length n.drivers) (replicate sources (plain Source))) = sum-total (λ (n : Node). length n.drivers) (plain Zero ∷ plain One ∷ replicate sources (plain Source)) in let z : total (λ (n : Node). length n.drivers) (replicate sources (plain Source)) ≡ 0 = no_wires sources in omega arith);
      nodes = nodes ∙ (omega arith);
      epoch = epoch;
    })

map_both : (f : ℕ → ℕ) (xs ys : List ℕ) → map f (xs ++ ys) ≡ map f xs ++ map f ys
map_both f [] ys = refl
map_both f (x ∷ xs) ys = ap (λ (l : List ℕ). f x ∷ l) (map_both f xs ys)

pub map_push : (f : ℕ → ℕ) (xs : List ℕ) (k x : ℕ) → slice_get xs k ≡ Some x → map f (take (k + 1) xs) ≡ map f (take k xs) ++ f x ∷ []
map_push f xs k x e = ap (λ (l : List ℕ). map f l) (take_one_more xs k x e) ∙ map_both f (take k xs) (x ∷ [])
