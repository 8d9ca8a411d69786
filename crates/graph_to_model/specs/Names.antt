-- The names of nodes in the model of a net.
use Rattle.std.specs.Prelude.{zero, suc, ◌+◌, ◌-◌, ◌==◌, ℕ, Bool, not, nat_lt, List, [], ◌∷◌, ◌++◌, length, if◌then◌else◌, Option, None, Some, unwrap_or, slice_get}
use Rattle.std.specs.List.{list_any, starts_with}
use Rattle.std.specs.Bool.{nat_eq}
use Rattle.std.specs.Fmt.{decimal}
use Rattle.rm_model.specs.Value.{source_names, observed_names}
use Rattle.rm_model.specs.declared.parts.Model.{Model}
use Rattle.gate_net.specs.Net.{Net}
use Rattle.rm_base.specs.Words.{Word}
use Rattle.rm_base.specs.Numbers.{first_source}

-- the names of sources and observed points, which the model of a net keeps
abbrev pub kept_names : Model → List Word
kept_names m = source_names m ++ observed_names m

-- `n`, the number and `_`
abbrev pub prefix : ℕ → Word
prefix t = 110 ∷ (decimal t ++ 95 ∷ [])

abbrev pub is_free : List Word → ℕ → Bool
is_free kept t = not (list_any (λ x. starts_with nat_eq x (prefix t)) kept)

-- the least number from t on whose prefix begins no kept name, of so many tries
abbrev pub least_free : ℕ → ℕ → List Word → ℕ
least_free zero t kept = t
least_free (suc tries) t kept = if is_free kept t then t else least_free tries (t + 1) kept

-- each kept name begins with one prefix at most, so as many tries as names are enough
abbrev pub free_prefix : Model → Word
free_prefix m = prefix (least_free (length (kept_names m)) 0 (kept_names m))

-- the first name of the observed list that stands on the node
abbrev pub observed_name : List ℕ → List Word → ℕ → Option Word
observed_name [] names n = None
observed_name (k ∷ ks) [] n = None
observed_name (k ∷ ks) (x ∷ xs) n = if k == n then Some x else observed_name ks xs n

-- a source has its own name, another node the first observed name on it, and else the prefix and its number
abbrev pub node_name : Model → Net → ℕ → Word
node_name m net n =
    if nat_lt n (first_source + length (source_names m)) then unwrap_or (slice_get (source_names m) (n - first_source)) []
    else unwrap_or (observed_name net.observed (observed_names m) n) (free_prefix m ++ decimal n)
