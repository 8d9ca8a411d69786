-- The parities: a Not of one pin, and an Xor of two.
use Rattle.std.proofs.Common.{Bool, [], false, map, refl, true, ℕ, ◌∷◌, ◌≡◌}
use Rattle.std.specs.Prelude.{if◌then◌else◌}
use Rattle.gate_net.proofs.AlongPins.{value_at}
use Rattle.gate_net.specs.Net.{IsKind, Net, drivers_of}
use Rattle.gate_net.specs.Values.{AreGoodValues, family, parity, turned}
use Rattle.gate_net.specs.declared.Family.TheVariants.{Parity}
use Rattle.gate_net.specs.declared.Kind.{Kind}
use Rattle.gate_net.specs.declared.Kind.TheVariants.{And, Not, One, Or, Source, Xor, Zero}

pub parity_is : (kind : Kind) (i : Bool) → family kind ≡ Parity i → kind ≡ (if i then Not else Xor)
parity_is Source i e = cc
parity_is Zero i e = cc
parity_is One i e = cc
parity_is And i e = cc
parity_is Or i e = cc
parity_is Not true e = refl
parity_is Not false e = cc
parity_is Xor true e = cc
parity_is Xor false e = refl

-- the values of an Xor
pub parity_two : (b c : Bool) → parity false (b ∷ c ∷ []) ≡ turned b c
parity_two true true = refl
parity_two true false = refl
parity_two false true = refl
parity_two false false = refl

pub turned_self : (b : Bool) → turned b b ≡ false
turned_self true = refl
turned_self false = refl

pub xor_of : (net : Net) (a v : ℕ → Bool) (gate : ℕ) → IsKind net gate Xor → AreGoodValues net a v → v gate ≡ parity false (map v (drivers_of net gate))
xor_of net a v gate is good = value_at net a v gate Xor (map v (drivers_of net gate)) is (good gate)
