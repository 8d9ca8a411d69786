-- Booleans. What std proves of them is not said again here.
use Rattle.std.proofs.Common.{Bool, true, false, not, inl, inr, refl, ◌&&◌, ◌||◌, ◌≡◌, ◌⊎◌}

pub bool_cases : (b c : Bool) → (b ≡ c) ⊎ (b ≡ not c)
bool_cases true true = inl refl
bool_cases true false = inr refl
bool_cases false true = inr refl
bool_cases false false = inl refl

pub never_opposite : (b : Bool) → b ≡ not b → ⊥
never_opposite true e = cc
never_opposite false e = cc

pub false_from_not : (b : Bool) → not b ≡ true → b ≡ false
false_from_not true e = cc
false_from_not false e = refl

pub true_from_not : (b : Bool) → not b ≡ false → b ≡ true
true_from_not true e = refl
true_from_not false e = cc

pub not_from_false : (b : Bool) → b ≡ false → not b ≡ true
not_from_false true e = cc
not_from_false false e = refl

pub not_excludes : (b : Bool) → not b ≡ true → b ≡ true → ⊥
not_excludes true e h = cc
not_excludes false e h = cc

pub both_and : (a b : Bool) → a ≡ true → b ≡ true → (a && b) ≡ true
both_and true b e f = f
both_and false b e f = cc

pub and_first : (a b : Bool) → (a && b) ≡ true → a ≡ true
and_first true b e = refl
and_first false b e = e

pub and_second : (a b : Bool) → (a && b) ≡ true → b ≡ true
and_second true b e = e
and_second false b e = cc

pub neither_first : (a b : Bool) → (a || b) ≡ false → a ≡ false
neither_first true b e = e
neither_first false b e = refl

pub neither_second : (a b : Bool) → (a || b) ≡ false → b ≡ false
neither_second true b e = cc
neither_second false b e = e
