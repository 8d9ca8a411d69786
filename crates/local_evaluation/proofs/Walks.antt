-- A walk along the chain of a gate.
use Rattle.std.proofs.Common.{Bool, List, [], ap, arith, eqb, false, inl, inr, length, refl, sym, true, ℕ, ◌+◌, ◌<◌, ◌∷◌, ◌≡◌, ◌≢◌, ◌≤◌}
use Rattle.std.proofs.lemmas.Bool.{eqb-true, ne_eqb, or_cases}
use Rattle.std.proofs.lemmas.Map.Steps.{length-le_from_distinct_below}
use Rattle.std.specs.List.{AllByRecursion, IsDistinct, list_any}
use Rattle.gate_net.proofs.Public.{chain_reader, chain_start}
use Rattle.gate_net.specs.Net.{IsAcyclic, IsLive, IsRanked, Net}
use Rattle.gate_net.specs.Paths.{Among, ChainTo, IsInChain, next, start}
use Rattle.local_evaluation.proofs.Told.{kind_live, reader_live}
use Rattle.local_evaluation.specs.Chains.{GoesOnTo}
use Rattle.local_evaluation.specs.Walks.{Walks}

-- the nodes of a chain have growing ranks
chain_ranked : {net : Net} {gate : ℕ} {before : List ℕ} {y : ℕ} (rank : ℕ → ℕ) → IsRanked net rank → ChainTo net gate before y → (x : ℕ) → Among before x → rank x < rank y
chain_ranked rank ranked start x among = elim among [ ]
chain_ranked {net} rank ranked (next {before = rest} {x = z} {y = y} chain unobserved only) x among =
    let step : rank z < rank y = ranked y only.reads.0 z only.reads.1 in
    elim among [
      | inl e ↦ rw e step
      | inr earlier ↦ let below : rank x < rank z = chain_ranked rank ranked chain x earlier in omega arith
    ]

among_from_any : (xs : List ℕ) (x : ℕ) → list_any (eqb x) xs ≡ true → Among xs x
among_from_any [] x e = cc
among_from_any (y ∷ ys) x e = elim (or_cases (eqb x y) (list_any (eqb x) ys) e) [
  | inl same ↦ inl (eqb-true x y same)
  | inr later ↦ inr (among_from_any ys x later)
]

none_among : (xs : List ℕ) (x : ℕ) → (Among xs x → ⊥) → list_any (eqb x) xs ≡ false
none_among xs x h = at (list_any (eqb x) xs) refl
  where
    at : (b : Bool) → list_any (eqb x) xs ≡ b → list_any (eqb x) xs ≡ false
    at true e = absurd (h (among_from_any xs x e))
    at false e = e

all_among : (P : ℕ → Type 0) (xs : List ℕ) → ((x : ℕ) → Among xs x → P x) → AllByRecursion P xs
all_among P [] h = tt
all_among P (x ∷ xs) h = (h x (inl refl), all_among P xs (λ y among. h y (inr among)))

-- the nodes of a chain are different
chain_apart : {net : Net} {gate : ℕ} {before : List ℕ} {y : ℕ} (rank : ℕ → ℕ) → IsRanked net rank → ChainTo net gate before y → IsDistinct eqb (y ∷ before)
unfolding IsDistinct
chain_apart rank ranked start = (tt, tt)
chain_apart {net} rank ranked (next {before = rest} {x = x} {y = y} chain unobserved only) = (
  all_among (λ z. eqb y z ≡ false) (x ∷ rest) (λ z among. ne_eqb y z (λ e. let below : rank z < rank y = chain_ranked {net = net} rank ranked (next chain unobserved only) z among in let same : rank y ≡ rank z = ap rank e in omega arith)),
  chain_apart rank ranked chain,
)

-- and live
pub chain_live : {net : Net} {gate : ℕ} {before : List ℕ} {y : ℕ} → IsLive net gate → ChainTo net gate before y → IsLive net y
chain_live live start = live
chain_live {net} live (next {x = x} {y = y} chain unobserved only) = reader_live net y only.reads.0 x only.reads.1

among_live : {net : Net} {gate : ℕ} {before : List ℕ} {y : ℕ} → IsLive net gate → ChainTo net gate before y → (x : ℕ) → Among (y ∷ before) x → IsLive net x
among_live live start x among = elim among [ inl e ↦ rw e live | inr none ↦ absurd none ]
among_live {net} live (next {x = z} {y = y} chain unobserved only) x among = elim among [
  | inl e ↦ rw e (reader_live net y only.reads.0 z only.reads.1)
  | inr earlier ↦ among_live live chain x earlier
]

-- every chain that is longer than this one goes on from its end
chain_cases : {net : Net} {gate : ℕ} {before other : List ℕ} {x y : ℕ} → ChainTo net gate before x → ((z : ℕ) → GoesOnTo net x z → ⊥) → ChainTo net gate other y → Among (x ∷ before) y
chain_cases {x = x} chain ends start = elim (chain_start chain) [ inl e ↦ inl e | inr among ↦ inr among ]
chain_cases {net} {gate} {before} {x = x} chain ends (next {x = z} {y = y} rest unobserved only) = elim (chain_cases chain ends rest) [
  | inl e ↦ absurd (ends y (record { unobserved = rw e at unobserved; only = rw e at only }))
  | inr among ↦ chain_reader chain z y only.reads.0 among only.reads.1
]

pub walk_starts : (net : Net) (gate node : ℕ) → Walks net gate node gate 0
walk_starts net gate node = record { before = []; chain = start; long = refl; apart = λ h. h }

pub walk_goes_on : (net : Net) (gate node at count y : ℕ) → Walks net gate node at count → at ≢ node → GoesOnTo net at y → Walks net gate node y (count + 1)
walk_goes_on net gate node at count y w ne on' = record {
  before = at ∷ w.before;
  chain = next w.chain on'.unobserved on'.only;
  long = let long : length w.before ≡ count = w.long in omega arith;
  apart = elim [ inl e ↦ ne (sym e) | inr among ↦ w.apart among ];
}

pub walk_live : (net : Net) (gate node at count : ℕ) → IsLive net gate → Walks net gate node at count → IsLive net at
walk_live net gate node at count live w = chain_live live w.chain

pub walk_found : (net : Net) (gate node at count : ℕ) → Walks net gate node at count → at ≡ node → IsInChain net gate node
walk_found net gate node at count w e = (w.before, rw (← e) w.chain)

pub walk_ends : (net : Net) (gate node at count : ℕ) → Walks net gate node at count → at ≢ node → ((y : ℕ) → GoesOnTo net at y → ⊥) → IsInChain net gate node → ⊥
walk_ends net gate node at count w ne ends chain = elim (chain_cases w.chain ends chain.1) [ inl e ↦ ne (sym e) | inr among ↦ w.apart among ]

-- no walk is longer than the net has numbers
pub walk_short : (net : Net) (gate node at count : ℕ) → IsAcyclic net → IsLive net gate → length net.nodes ≤ count → Walks net gate node at count → ⊥
walk_short net gate node at count acyclic live long w =
    let few : length (at ∷ w.before) ≤ length net.nodes = length-le_from_distinct_below (at ∷ w.before) (length net.nodes) (chain_apart acyclic.0 acyclic.1 w.chain)
    (λ q e. kind_live net q (among_live live w.chain q (among_from_any (at ∷ w.before) q e))) in
    let same : length w.before ≡ count = w.long in
    omega arith
