-- A decomposition over signals that have numbers in place of names.
use Rattle.std.specs.Prelude.{ℕ, zero, suc, ◌+◌, ◌++◌, replicate, Bool, true, false, List, [], ◌∷◌, length, map, Option, None, Some, slice_index, slice_get, slice_index_or, slice_set}
use Rattle.std.specs.Option.{option_to_list}
use Rattle.rm_model.specs.declared.parts.Literal.{Literal}
use Rattle.rm_model.specs.declared.parts.Literal.TheVariants.{Zero, One, Any}
use Rattle.rm_model.specs.declared.parts.Cover.{Cover}
use Rattle.gate_net.specs.declared.Kind.{Kind}
use Rattle.gate_net.specs.declared.Kind.TheVariants.{Source, And, Or, Not, Xor}
use Rattle.gate_net.specs.declared.Kind.TheVariants as kind
use Rattle.cover_decompose.specs.Decomposition.{plain}
use Rattle.cover_decompose.specs.Parity.{parity_ending}
use Rattle.gate_net.specs.Net.{Node}

-- what is made so far: the nodes, and by the number of each signal its node and its Not
pub record Planned : Type 0 where
  pub made : List Node
  pub nodes : List ℕ
  pub nots : List (Option ℕ)

abbrev pub gate_planned : Planned → Kind → List ℕ → Planned
gate_planned p kind drivers = record p { made = p.made ++ record { kind = kind; drivers = drivers } ∷ [] }

abbrev pub not_planned : Planned → ℕ → Option ℕ → Planned × ℕ
not_planned p k (Some n) = (p, n)
not_planned p k None = (record (gate_planned p Not (slice_index p.nodes k ∷ [])) { nots = slice_set p.nots k (Some (length p.made)) }, length p.made)

abbrev pub not_of : Planned → ℕ → Option ℕ
not_of p k = slice_index_or p.nots k None

-- the node of a literal, if it reads its signal
abbrev pub literal_planned : Planned → ℕ → Literal → Planned × Option ℕ
literal_planned p k One = (p, Some (slice_index p.nodes k))
literal_planned p k Zero = let n = not_planned p k (not_of p k) in (n.0, Some n.1)
literal_planned p k Any = (p, None)

abbrev pub literals_planned : Planned → List ℕ → List Literal → Planned × List ℕ
literals_planned p (k ∷ ks) (l ∷ ls) = let n = literal_planned p k l in let t = literals_planned n.0 ks ls in (t.0, option_to_list n.1 ++ t.1)
literals_planned p [] ls = (p, [])
literals_planned p (k ∷ ks) [] = (p, [])

abbrev pub joined_planned : Kind → ℕ → Planned → List ℕ → Planned × ℕ
joined_planned kind empty p [] = (p, empty)
joined_planned kind empty p (n ∷ []) = (p, n)
joined_planned kind empty p (n ∷ k ∷ ns) = (gate_planned p kind (n ∷ k ∷ ns), length p.made)

abbrev pub term_planned : Planned → List ℕ → List Literal → Planned × ℕ
term_planned p inputs row = let t = literals_planned p inputs row in joined_planned And 1 t.0 t.1

abbrev pub terms_planned : Planned → List ℕ → List (List Literal) → Planned × List ℕ
terms_planned p inputs [] = (p, [])
terms_planned p inputs (r ∷ rs) = let t = term_planned p inputs r in let u = terms_planned t.0 inputs rs in (u.0, t.1 ∷ u.1)

abbrev pub closed_planned : Bool → Planned × ℕ → Planned × ℕ
closed_planned true t = t
closed_planned false t = (gate_planned t.0 Not (t.1 ∷ []), length t.0.made)

abbrev pub planned_by : Option Bool → Planned → List ℕ → Cover → Planned × ℕ
planned_by (Some ends) p inputs c = closed_planned ends (gate_planned p Xor (map (slice_index p.nodes) inputs), length p.made)
planned_by None p inputs c = let t = terms_planned p inputs c.rows in closed_planned c.on (joined_planned Or 0 t.0 t.1)

abbrev pub node_planned : Planned → List ℕ → Cover → Planned × ℕ
node_planned p inputs c = planned_by (parity_ending c) p inputs c

-- the cover's output has the number k
abbrev pub cover_planned : Planned → List ℕ → ℕ → Cover → Planned
cover_planned p inputs k c = let t = node_planned p inputs c in record t.0 { nodes = slice_set t.0.nodes k t.1 }

abbrev pub one_planned : Planned → Option Cover → Option (List ℕ) → ℕ → Planned
one_planned p None inputs k = p
one_planned p (Some c) None k = p
one_planned p (Some c) (Some inputs) k = cover_planned p inputs k c

-- the covers at these places, of which the first has an output of this number
abbrev pub covers_planned : Planned → List Cover → List (List ℕ) → ℕ → List ℕ → Planned
covers_planned p covers inputs first [] = p
covers_planned p covers inputs first (i ∷ is) = covers_planned (one_planned p (slice_get covers i) (slice_get inputs i) (first + i)) covers inputs first is

-- so many numbers from n on
abbrev pub counting : ℕ → ℕ → List ℕ
counting n zero = []
counting n (suc count) = n ∷ counting (suc n) count

-- the constants and the sources; no cover's output has a node yet
abbrev pub start_planned : ℕ → ℕ → Planned
start_planned sources covers = record {
  made = plain kind.Zero ∷ plain kind.One ∷ replicate sources (plain Source);
  nodes = counting 2 sources ++ replicate covers 0;
  nots = replicate (sources + covers) None;
}
