-- Options and results.
use Rattle.std.proofs.Common.{Option, Some, None, Result, Ok, Err, OnErr, false, refl, ◌≡◌}
use Rattle.std.specs.Option.{is_some}

pub some_same : {A : Type 0} {x y : A} → Some x ≡ Some y → x ≡ y
some_same e = cc

pub some_is : {A : Type 0} (x y : A) → Some x ≡ Some y → x ≡ y
some_is x y e = cc

pub not_some : {A : Type 0} (o : Option A) → is_some o ≡ false → o ≡ None
not_some None e = refl
not_some (Some b) e = cc

pub on_err : {V E P : Type 0} (r : Result V E) → P → OnErr r P
on_err (Ok x) p = tt
on_err (Err e) p = p
