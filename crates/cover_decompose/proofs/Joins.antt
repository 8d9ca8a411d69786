-- What an And and an Or are worth, as tests of a list.
use Rattle.std.proofs.Common.{◌≡◌, Bool, true, false, List, [], ◌∷◌, refl}
use Rattle.std.specs.Prelude.{◌&&◌, ◌||◌}
use Rattle.std.specs.List.{list_all, list_any}
use Rattle.gate_net.specs.Values.{junction}

pub junction-and : (bs : List Bool) → junction false bs ≡ list_all (λ b. b) bs
junction-and [] = refl
junction-and (true ∷ bs) = junction-and bs
junction-and (false ∷ bs) = refl

pub junction-or : (bs : List Bool) → junction true bs ≡ list_any (λ b. b) bs
junction-or [] = refl
junction-or (true ∷ bs) = refl
junction-or (false ∷ bs) = junction-or bs

pub and-true : (b : Bool) → b && true ≡ b
and-true true = refl
and-true false = refl

pub or-false : (b : Bool) → b || false ≡ b
or-false true = refl
or-false false = refl
