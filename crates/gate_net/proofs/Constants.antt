-- The kinds of the constants.
use Rattle.std.proofs.Common.{Bool, Some, false, refl, true, ◌≡◌}
use Rattle.gate_net.specs.Inner.Edits.{constant_kind}
use Rattle.gate_net.specs.Meaning.{constant_value}
use Rattle.gate_net.specs.declared.Kind.{Kind}
use Rattle.gate_net.specs.declared.Kind.TheVariants.{And, Not, One, Or, Source, Xor, Zero}

pub constant_is : (kind : Kind) (b : Bool) → constant_value kind ≡ Some b → kind ≡ constant_kind b
constant_is Source b e = cc
constant_is Zero true e = cc
constant_is Zero false e = refl
constant_is One true e = refl
constant_is One false e = cc
constant_is And b e = cc
constant_is Or b e = cc
constant_is Not b e = cc
constant_is Xor b e = cc
