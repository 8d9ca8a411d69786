-- Names by first appearance, beside a map from each to its place. Keys are told apart by a number first, and by their bytes where that is the same.
use Rattle.std.specs.Prelude.{◌≡◌, ◌+◌, ◌*◌, ◌%◌, ◌^◌, ℕ, List, map}
use Rattle.std.specs.Borrow.{Bor}
use Rattle.std.specs.BTreeMap.{get_by}
use Rattle.std.specs.Cmp.Lexicographic.{slice_cmp}
use Rattle.std.specs.List.{fold}
use Rattle.std.specs.Ordering.{nat_cmp, ordering_then}
use Rattle.std.specs.declared.cmp.Ordering.{Ordering}
use Rattle.rm_model.specs.Numbers.{place_of}
use Rattle.rm_model.specs.declared.ordered_names.OrderedNames.TheInside.{Inside}
use Rattle.rm_base.specs.Words.{Word}

-- the number with one more byte
unfoldable pub mixed : ℕ → ℕ → ℕ
mixed h b = ((h * 6364136223846793005) % 2 ^ 64 + b) % 2 ^ 64

-- the number of a name
abbrev pub name_hash : Word → ℕ
name_hash x = fold mixed 0 x

-- the order of a name and a key
abbrev pub key_order : Word → ℕ × Bor Word → Ordering
key_order x k = ordering_then (nat_cmp (name_hash x) k.0) (slice_cmp nat_cmp x k.1.now)

abbrev pub added_names : Inside → List Word
added_names t = map (λ k. k.now) t.names.items

-- the map gives each name's place, and nothing for other words
pub record IsPlaced (t : Inside) : Type 0 where
  pub at : (x : Word) → get_by (key_order x) t.places ≡ place_of (added_names t) x
