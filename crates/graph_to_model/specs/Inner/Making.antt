-- Beside Making.antt: what only private contracts, invariants and laws speak of.
use Rattle.std.specs.Prelude.{◌≡◌, ◌<◌, suc, ◌+◌, ◌-◌, ◌==◌, ℕ, true, nat_lt, List, [], ◌∷◌, ◌++◌, map, length, if◌then◌else◌, Option, None, Some, unwrap_or, slice_get, slice_index_or, replicate}
use Rattle.std.specs.Option.{option_map}
use Rattle.std.specs.Fmt.{decimal}
use Rattle.rm_model.specs.Value.{is_among}
use Rattle.rm_model.specs.declared.parts.Literal.{Literal}
use Rattle.rm_model.specs.declared.parts.Literal.TheVariants.{One, Any}
use Rattle.rm_model.specs.declared.parts.Cover.{Cover}
use Rattle.rm_model.specs.declared.parts.Model.{Model}
use Rattle.gate_net.specs.Net.{Node, Net}
use Rattle.graph_to_model.specs.Names.{node_name}
use Rattle.graph_to_model.specs.NetModel.{cover_with, gate_cover_of, onto}
use Rattle.rm_base.specs.Words.{Word}
use Rattle.rm_base.specs.Numbers.{first_source}

-- the first place at which the number stands
abbrev pub place_in : List ℕ → ℕ → Option ℕ
place_in [] n = None
place_in (k ∷ ks) n = if k == n then Some 0 else option_map (λ j. suc j) (place_in ks n)

-- the first place of each number
abbrev pub AreFirstPlaces : List ℕ → List (Option ℕ) → Type 0
AreFirstPlaces ks places = (n : ℕ) → slice_index_or places n None ≡ place_in ks n

abbrev pub word_at : List Word → Option ℕ → Option Word
word_at xs None = None
word_at xs (Some k) = slice_get xs k

-- the name of a node by the sources, the observed names, their first places and the prefix
abbrev pub name_by : List Word → List Word → List (Option ℕ) → Word → ℕ → Word
name_by sources observed places prefix n =
    if nat_lt n (first_source + length sources) then unwrap_or (slice_get sources (n - first_source)) []
    else unwrap_or (word_at observed (slice_index_or places n None)) (prefix ++ decimal n)

abbrev pub named : List Word → ℕ → Word
named names n = slice_index_or names n []

-- a name for each node number
pub record AreNames (m : Model) (net : Net) (names : List Word) : Type 0 where
  pub count : length names ≡ length net.nodes
  pub each : (n : ℕ) → n < length net.nodes → named names n ≡ node_name m net n

abbrev pub cover_by : List Word → ℕ → Option Node → Option Cover
cover_by names n None = None
cover_by names n (Some node) = gate_cover_of node.kind (map (named names) node.drivers) (named names n)

-- the gates of the nodes from this number on
abbrev pub covers_by : List Word → ℕ → List (Option Node) → List Cover
covers_by names n [] = []
covers_by names n (o ∷ os) = onto (cover_by names n o) (covers_by names (n + 1) os)

abbrev pub copy_by : List Word → ℕ → Word → Cover
copy_by names n x =
    if n == 0 then cover_with [] x true []
    else (if n == 1 then cover_with [] x true ([] ∷ [])
    else cover_with (named names n ∷ []) x true ((One ∷ []) ∷ []))

abbrev pub copies_by : List Word → List Word → List ℕ → List Word → List Cover
copies_by names had [] xs = []
copies_by names had (n ∷ ns) [] = []
copies_by names had (n ∷ ns) (x ∷ xs) =
    if is_among had x then copies_by names had ns xs else copy_by names n x ∷ copies_by names (x ∷ had) ns xs

-- first the gates, and then the copies
abbrev pub all_by : List Word → Net → List Word → List Word → List Cover
all_by names net sources observed =
    let gates = covers_by names 0 net.nodes in
    gates ++ copies_by names (sources ++ map (λ (c : Cover). c.output) gates) net.observed observed

abbrev pub before : ℕ → List Literal → List Literal
before i r = replicate i Any ++ r
