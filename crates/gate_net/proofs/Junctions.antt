-- The values of gates.
use Rattle.std.proofs.Common.{Bool, List, Some, [], false, inl, inr, not, refl, suc, true, zero, ℕ, ◌++◌, ◌∙◌, ◌∷◌, ◌≡◌}
use Rattle.std.specs.Prelude.{slice_get}
use Rattle.gate_net.proofs.Bools.{same_bool_not, same_bool_refl}
use Rattle.gate_net.specs.Values.{controlling, gate_value, junction, parity}
use Rattle.gate_net.specs.declared.Kind.{Kind}
use Rattle.gate_net.specs.declared.Kind.TheVariants.{And, Not, One, Or, Source, Xor, Zero}
use Rattle.rm_base.proofs.Public.{bool_cases, some_same}

pub junction_cons_same : (c b : Bool) (bs : List Bool) → b ≡ c → junction c (b ∷ bs) ≡ c
junction_cons_same c b bs e = rw (e, same_bool_refl c) refl

pub junction_cons_other : (c b : Bool) (bs : List Bool) → b ≡ not c → junction c (b ∷ bs) ≡ junction c bs
junction_cons_other c b bs e = rw (e, same_bool_not c) refl

-- a pin with the controlling value decides
pub junction_member : (c : Bool) (bs : List Bool) (q : ℕ) → slice_get bs q ≡ Some c → junction c bs ≡ c
junction_member c [] q e = cc
junction_member c (b ∷ bs) zero e = junction_cons_same c b bs (some_same e)
junction_member c (b ∷ bs) (suc q) e = elim (bool_cases b c) [
  | inl same ↦ junction_cons_same c b bs same
  | inr other ↦ junction_cons_other c b bs other ∙ junction_member c bs q e
]

-- the value of a Not
pub not_is : (b : Bool) → parity true (b ∷ []) ≡ not b
not_is true = refl
not_is false = refl

-- a junction whose pin has the controlling value
pub controlled : (kind : Kind) (c assigned : Bool) (bs : List Bool) (q : ℕ) → controlling kind ≡ Some c → slice_get bs q ≡ Some c → gate_value kind assigned bs ≡ c
controlled Source c assigned bs q e there = cc
controlled Zero c assigned bs q e there = cc
controlled One c assigned bs q e there = cc
controlled And c assigned bs q e there = let same : c ≡ false = cc in rw same (junction_member false bs q (rw same at there))
controlled Or c assigned bs q e there = let same : c ≡ true = cc in rw same (junction_member true bs q (rw same at there))
controlled Not c assigned bs q e there = cc
controlled Xor c assigned bs q e there = cc

-- ADD: the good values of the net before are the faulty values of the net after
pub junction_more : (c : Bool) (bs : List Bool) → junction c (bs ++ not c ∷ []) ≡ junction c bs
junction_more c [] = rw (same_bool_not c) refl
junction_more c (b ∷ bs) = rw (junction_more c bs) refl

pub gate_more : (kind : Kind) (c assigned : Bool) (bs : List Bool) → controlling kind ≡ Some c → gate_value kind assigned (bs ++ not c ∷ []) ≡ gate_value kind assigned bs
gate_more Source c assigned bs e = cc
gate_more Zero c assigned bs e = cc
gate_more One c assigned bs e = cc
gate_more And c assigned bs e = let same : c ≡ false = cc in rw same (junction_more false bs)
gate_more Or c assigned bs e = let same : c ≡ true = cc in rw same (junction_more true bs)
gate_more Not c assigned bs e = cc
gate_more Xor c assigned bs e = cc
