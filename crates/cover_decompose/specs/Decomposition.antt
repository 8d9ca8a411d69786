-- The net of a model: each needed cover is an Xor of its inputs or an Or of Ands of literals, closed by a Not where it ends in 0.
use Rattle.std.specs.Prelude.{ℕ, suc, Bool, true, false, List, [], ◌∷◌, ◌++◌, map, length, replicate, if◌then◌else◌, Option, None, Some}
use Rattle.rm_model.specs.Words.{is_word}
use Rattle.rm_model.specs.Value.{source_names, observed_names}
use Rattle.rm_model.specs.declared.parts.Literal.{Literal}
use Rattle.rm_model.specs.declared.parts.Literal.TheVariants.{Zero, One, Any}
use Rattle.rm_model.specs.declared.parts.Cover.{Cover}
use Rattle.rm_model.specs.declared.parts.Model.{Model}
use Rattle.gate_net.specs.declared.Kind.{Kind}
use Rattle.gate_net.specs.declared.Kind.TheVariants.{Source, And, Or, Not, Xor}
use Rattle.gate_net.specs.declared.Kind.TheVariants as kind
use Rattle.gate_net.specs.Net.{Node, Net}
use Rattle.cover_decompose.specs.Needed.{taken}
use Rattle.cover_decompose.specs.Parity.{parity_ending}
use Rattle.rm_base.specs.Words.{Word}

-- what is made so far: the nodes by number, the node of each signal, and the Not of each signal that was read as 0
pub record State : Type 0 where
  pub made : List Node
  pub node_of : Word → ℕ
  pub not_of : Word → Option ℕ

-- the map with one more entry
abbrev pub with_entry : {A : Type 0} → (Word → A) → Word → A → Word → A
with_entry f x a y = if is_word y x then a else f y

-- a gate under the next number
abbrev pub with_gate : State → Kind → List ℕ → State
with_gate s kind drivers = record s { made = s.made ++ record { kind = kind; drivers = drivers } ∷ [] }

-- the Not of a signal: the one that is there, or a new one
abbrev pub with_not : State → Word → Option ℕ → State × ℕ
with_not s x (Some n) = (s, n)
with_not s x None = (record (with_gate s Not (s.node_of x ∷ [])) { not_of = with_entry s.not_of x (Some (length s.made)) }, length s.made)

-- the nodes of the literals of a row
abbrev pub literals : State → List Word → List Literal → State × List ℕ
literals s (x ∷ xs) (One ∷ ls) = let t = literals s xs ls in (t.0, s.node_of x ∷ t.1)
literals s (x ∷ xs) (Zero ∷ ls) = let n = with_not s x (s.not_of x) in let t = literals n.0 xs ls in (t.0, n.1 ∷ t.1)
literals s (x ∷ xs) (Any ∷ ls) = literals s xs ls
literals s [] ls = (s, [])
literals s (x ∷ xs) [] = (s, [])

-- the gate over a list of nodes: none for fewer than two
abbrev pub joined : Kind → ℕ → State → List ℕ → State × ℕ
joined kind empty s [] = (s, empty)
joined kind empty s (n ∷ []) = (s, n)
joined kind empty s (n ∷ k ∷ ns) = (with_gate s kind (n ∷ k ∷ ns), length s.made)

-- a row's term: an And of its literals, and One if it has none
abbrev pub term : State → List Word → List Literal → State × ℕ
term s inputs row = let t = literals s inputs row in joined And 1 t.0 t.1

abbrev pub terms : State → List Word → List (List Literal) → State × List ℕ
terms s inputs [] = (s, [])
terms s inputs (r ∷ rs) = let t = term s inputs r in let u = terms t.0 inputs rs in (u.0, t.1 ∷ u.1)

-- a Not closes the sum where it ends in 0
abbrev pub closed : Bool → State × ℕ → State × ℕ
closed true t = t
closed false t = (with_gate t.0 Not (t.1 ∷ []), length t.0.made)

-- a cover's sum: an Xor of a parity cover's inputs; else an Or of its terms, and Zero if it has none
abbrev pub node_by : Option Bool → State → Cover → State × ℕ
node_by (Some ends) s c = closed ends (with_gate s Xor (map s.node_of c.inputs), length s.made)
node_by None s c = let t = terms s c.inputs c.rows in closed c.on (joined Or 0 t.0 t.1)

abbrev pub cover_node : State → Cover → State × ℕ
cover_node s c = node_by (parity_ending c) s c

abbrev pub with_cover : State → Cover → State
with_cover s c = let t = cover_node s c in record t.0 { node_of = with_entry t.0.node_of c.output t.1 }

abbrev pub with_covers : State → List Cover → State
with_covers s [] = s
with_covers s (c ∷ cs) = with_covers (with_cover s c) cs

-- the number of a source's node, if the first has the number n
abbrev pub source_node : ℕ → List Word → Word → ℕ
source_node n [] x = 0
source_node n (y ∷ ys) x = if is_word x y then n else source_node (suc n) ys x

abbrev pub plain : Kind → Node
plain kind = record { kind = kind; drivers = [] }

-- the constants and the sources
abbrev pub start : Model → State
start m = record {
  made = plain kind.Zero ∷ plain kind.One ∷ replicate (length (source_names m)) (plain Source);
  node_of = source_node 2 (source_names m);
  not_of = λ x. None;
}

abbrev pub last_state : Model → State
last_state m = with_covers (start m) (taken m)

-- the decomposition of a model
abbrev pub net_of_model : Model → Net
net_of_model m = let s = last_state m in record { nodes = map (λ n. Some n) s.made; observed = map s.node_of (observed_names m) }
