-- What a contract sees of a graph, and the net and the fanouts that it stands for.
use Rattle.std.specs.Prelude.{◌-◌, ◌≡◌, ℕ, zero, suc, ◌+◌, ◌==◌, List, [], ◌∷◌, length, map, Option, Some, None, if◌then◌else◌}
use Rattle.std.specs.FinSet as set
use Rattle.gate_net.specs.declared.Kind.{Kind}
use Rattle.gate_net.specs.Net.{Node, Net, trimmed}
use Rattle.pin_pool.specs.Ring.{has}
use Rattle.pin_pool.specs.Pins.{Pins, list_of}
use Rattle.gate_graph.specs.Wirings.{kind_at, free_in, Wiring, wiring_of}

-- the kinds by node number, the pins, and the epoch
pub record Circuit : Type 0 where
  pub kinds : List (Option Kind)
  pub pool : Pins
  pub epoch : ℕ

abbrev pub wiring : Circuit → Wiring
wiring v = wiring_of v.kinds v.pool

-- the number of the list that has p
abbrev pub next_number : Option ℕ → Option ℕ
next_number None = None
next_number (Some n) = Some (suc n)

abbrev pub number_with : List (List ℕ) → ℕ → Option ℕ
number_with [] p = None
number_with (xs ∷ lists) p = if has p xs then Some 0 else next_number (number_with lists p)

abbrev pub number_or_zero : Option ℕ → ℕ
number_or_zero None = 0
number_or_zero (Some n) = n

abbrev pub home : List (List ℕ) → ℕ → ℕ
home lists p = number_or_zero (number_with lists p)

-- the pool's gate whose pins are the observed points, as node 0 has none of its own
abbrev pub observed_list : ℕ
observed_list = 0

abbrev pub gate_pins : Pins → ℕ → List ℕ
gate_pins v n = if n == observed_list then [] else list_of v.inputs n

abbrev pub node_with : Option Kind → List ℕ → Option Node
node_with None drivers = None
node_with (Some kind) drivers = Some (record { kind = kind; drivers = drivers })

abbrev pub node_in : Circuit → ℕ → Option Node
node_in v n = node_with (kind_at v.kinds n) (map (home v.pool.fanouts) (gate_pins v.pool n))

abbrev pub each_from : (ℕ → Option Node) → ℕ → ℕ → List (Option Node)
each_from f first zero = []
each_from f first (suc n) = f first ∷ each_from f (suc first) n

unfoldable pub net_of : Circuit → Net
net_of v = record {
  nodes = trimmed (each_from (node_in v) 0 (length v.kinds));
  observed = map (home v.pool.fanouts) (list_of v.pool.inputs observed_list);
}

abbrev pub place_in : List ℕ → ℕ → ℕ
place_in [] p = 0
place_in (x ∷ xs) p = if p == x then 0 else suc (place_in xs p)

-- the gate and the position of a pin
abbrev pub reader : Pins → ℕ → ℕ × ℕ
reader v p = (home v.inputs p, place_in (list_of v.inputs (home v.inputs p)) p)

abbrev pub without_observed : List ℕ → List ℕ → List ℕ
without_observed observed [] = []
without_observed observed (p ∷ ps) = if has p observed then without_observed observed ps else p ∷ without_observed observed ps

-- the readers of a node by its pins
abbrev pub fans_in : Pins → ℕ → List (ℕ × ℕ)
fans_in v n = map (reader v) (without_observed (list_of v.inputs observed_list) (list_of v.fanouts n))

-- the readers of a node, each as its gate and its position, in ring order
unfoldable pub fanouts_of : Circuit → ℕ → List (ℕ × ℕ)
fanouts_of v n = fans_in v.pool n

-- how many pins may be added, and how many nodes, before more room is reserved
abbrev pub free_pins : Circuit → ℕ
free_pins v = v.pool.spare

abbrev pub free_nodes : Circuit → ℕ
free_nodes v = free_in v.kinds

-- the pins of gates, the observed places and the pins that undos hold, together
abbrev pub pins_taken : Circuit → ℕ
pins_taken v = set.len v.pool.taken

-- how many nodes there are
abbrev pub live_nodes : Circuit → ℕ
live_nodes v = length v.kinds - free_in v.kinds

-- so many free pins and nodes are used up
pub record Uses (v w : Circuit) (pins nodes : ℕ) : Type 0 where
  pub pins_left : free_pins w + pins ≡ free_pins v
  pub nodes_left : free_nodes w + nodes ≡ free_nodes v
  pub pins_more : pins_taken w ≡ pins_taken v + pins

-- a node number is free again, and its pins are held
pub record Frees (v w : Circuit) : Type 0 where
  pub pins_left : free_pins w ≡ free_pins v
  pub nodes_left : free_nodes w ≡ free_nodes v + 1
  pub pins_more : pins_taken w ≡ pins_taken v

-- circuits with one wiring have one net and the same readers in order
abbrev pub SameWiring : Type 0
SameWiring = (v w : Circuit) → wiring v ≡ wiring w → (net_of v ≡ net_of w) × ((n : ℕ) → fanouts_of v n ≡ fanouts_of w n)
