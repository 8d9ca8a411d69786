-- When two Booleans are the same.
use Rattle.std.proofs.Common.{Bool, false, not, refl, sym, true, ◌≡◌}
use Rattle.gate_net.specs.Values.{same_bool}

pub same_bool_refl : (b : Bool) → same_bool b b ≡ true
same_bool_refl true = refl
same_bool_refl false = refl

pub same_bool_true : (b c : Bool) → same_bool b c ≡ true → b ≡ c
same_bool_true true c e = sym e
same_bool_true false true e = cc
same_bool_true false false e = refl

pub same_bool_false : (b c : Bool) → same_bool b c ≡ false → b ≡ not c
same_bool_false true true e = cc
same_bool_false true false e = refl
same_bool_false false true e = refl
same_bool_false false false e = cc

pub same_bool_not : (c : Bool) → same_bool (not c) c ≡ false
same_bool_not true = refl
same_bool_not false = refl
