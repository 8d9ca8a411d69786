-- The search for ranks: what is known of the covers at each moment.
use Rattle.std.specs.Prelude.{◌≡◌, ◌<◌, ◌≤◌, ◌⊎◌, ℕ, suc, List, [], ◌∷◌, ◌++◌, slice_set, replicate, length, take, Option, None, Some, slice_get, slice_index_or}
use Rattle.rm_model.specs.Ranks.{rank_at}
use Rattle.rm_model.specs.Inner.Numbers.{rank_over}
use Rattle.rm_model.specs.declared.rank_search.Looked.{Looked}

abbrev pub list_at : List (List ℕ) → ℕ → List ℕ
list_at lists k = slice_index_or lists k []

-- how many ranks are known
abbrev pub known_count : List (Option ℕ) → ℕ
known_count [] = 0
known_count (None ∷ ranks) = known_count ranks
known_count (Some n ∷ ranks) = suc (known_count ranks)

-- the ranks found, how far each cover's drivers are looked at, the covers that wait for each cover, and the ranked covers in the order in which they were found
pub record State : Type 0 where
  pub ranks : List (Option ℕ)
  pub looked : List Looked
  pub waiting : List (List ℕ)
  pub order : List ℕ

abbrev pub HasRank : Option ℕ → Type 0
HasRank o = (n : ℕ) × (o ≡ Some n)

-- a cover stands at some place of a list
abbrev pub IsIn : List ℕ → ℕ → Type 0
IsIn list k = (p : ℕ) × (slice_get list p ≡ Some k)

-- so many drivers of a cover are known to allow this rank
abbrev pub AllowsRank : List (Option ℕ) → List ℕ → Looked → Type 0
AllowsRank ranks drivers l = (l.count ≤ length drivers) × (rank_over ranks (take l.count drivers) ≡ Some l.least)

-- at each moment
pub record IsSound (drivers : List (List ℕ)) (s : State) : Type 0 where
  pub ranks_length : length s.ranks ≡ length drivers
  pub looked_length : length s.looked ≡ length drivers
  pub waiting_length : length s.waiting ≡ length drivers
  pub follow : (k n : ℕ) → rank_at s.ranks k ≡ Some n → rank_over s.ranks (list_at drivers k) ≡ Some n
  pub small : (k n : ℕ) → rank_at s.ranks k ≡ Some n → n < length s.order
  pub count : length s.order ≡ known_count s.ranks
  pub looked : (k : ℕ) (l : Looked) → slice_get s.looked k ≡ Some l → AllowsRank s.ranks (list_at drivers k) l
  pub listed : (k n : ℕ) → rank_at s.ranks k ≡ Some n → IsIn s.order k
  pub once : (p q k : ℕ) → slice_get s.order p ≡ Some k → slice_get s.order q ≡ Some k → p ≡ q
  pub ranked : (k : ℕ) → IsIn s.order k → HasRank (rank_at s.ranks k)
  pub waiting : (d k : ℕ) → IsIn (list_at s.waiting d) k → k < length drivers
  pub ordered : (p k d : ℕ) → slice_get s.order p ≡ Some k → IsIn (list_at drivers k) d → ((i : ℕ) × ((i < p) × (slice_get s.order i ≡ Some d)))

-- a cover waits for one that it reads and that has no rank, or stands in the order at or behind a place
pub record Waits (drivers : List (List ℕ)) (place : ℕ) (s : State) (k : ℕ) : Type 0 where
  pub driver : ℕ
  pub reads : IsIn (list_at drivers k) driver
  pub waits : IsIn (list_at s.waiting driver) k
  pub open_yet : (rank_at s.ranks driver ≡ None) ⊎ ((i : ℕ) × ((place ≤ i) × (slice_get s.order i ≡ Some driver)))

abbrev pub IsSettled : List (List ℕ) → ℕ → State → ℕ → Type 0
IsSettled drivers place s k = HasRank (rank_at s.ranks k) ⊎ Waits drivers place s k

-- the drivers are covers of the list
abbrev pub AreKnown : List (List ℕ) → Type 0
AreKnown drivers = (k d : ℕ) → IsIn (list_at drivers k) d → d < length drivers

-- a cover is looked at up to a driver without rank, and waits for it
abbrev pub waiting_for : State → ℕ → Looked → ℕ → State
waiting_for s k l d = record s { looked = slice_set s.looked k l; waiting = slice_set s.waiting d (list_at s.waiting d ++ k ∷ []) }

-- a cover gets its rank
abbrev pub with_rank : State → ℕ → Looked → State
with_rank s k l = record s { looked = slice_set s.looked k l; ranks = slice_set s.ranks k (Some l.least); order = s.order ++ k ∷ [] }

-- no cover waits for this one any more
abbrev pub woken : State → ℕ → State
woken s d = record s { waiting = slice_set s.waiting d [] }

-- what is settled stays so, and the order grows
pub record LeadsTo (drivers : List (List ℕ)) (s t : State) : Type 0 where
  pub sound : IsSound drivers t
  pub kept : (place k : ℕ) → place ≤ length s.order → IsSettled drivers place s k → IsSettled drivers place t k
  pub longer : length s.order ≤ length t.order

-- no cover is looked at yet
abbrev pub start : ℕ → State
start n = record { ranks = replicate n None; looked = replicate n (record { count = 0; least = 0 }); waiting = replicate n []; order = [] }

-- covers in an order in which each stands behind those that it reads
pub record IsOrder (drivers : List (List ℕ)) (order : List ℕ) : Type 0 where
  pub within : (p k : ℕ) → slice_get order p ≡ Some k → k < length drivers
  pub once : (p q k : ℕ) → slice_get order p ≡ Some k → slice_get order q ≡ Some k → p ≡ q
  pub behind : (p k d : ℕ) → slice_get order p ≡ Some k → IsIn (list_at drivers k) d → ((i : ℕ) × ((i < p) × (slice_get order i ≡ Some d)))
