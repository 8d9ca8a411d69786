-- Names and entries of one length, and the pairs of both.
use Rattle.std.proofs.Common.{◌≡◌, ◌≢◌, ◌<◌, ℕ, zero, suc, List, [], ◌∷◌, ◌++◌, length, map, Bool, true, false, cond, Option, Some, None, refl, sym, ap, arith}
use Rattle.std.specs.Prelude.{slice_get, slice_set}
use Rattle.std.specs.List.{zip}
use Rattle.std.specs.Option.{option_map}
use Rattle.rm_model.specs.Words.{is_word}
use Rattle.rm_model.specs.Value.{is_among}
use Rattle.rm_model.specs.Numbers.{place_of}
use Rattle.blif_reader.specs.declared.names.NameUse.{NameUse}
use Rattle.blif_reader.specs.Inner.Tally.{entry_of, put_entry}
use Rattle.rm_base.specs.Words.{Word}

less : (j k : ℕ) → suc j ≡ suc k → j ≡ k
less j k e = omega (arith, e)

apart : (k : ℕ) → suc k ≡ 0 → ⊥
apart k e = omega (arith, e)

-- the place of a word behind a first name
rest_place : (b : Bool) (o : Option ℕ) (k : ℕ) → cond b (Some 0) (option_map (λ k. suc k) o) ≡ Some (suc k) → (b ≡ false) × (o ≡ Some k)
rest_place true o k e = let wrong : 0 ≡ suc k = cc in absurd (apart k (sym wrong))
rest_place false None k e = absurd cc
rest_place false (Some j) k e = let more : suc j ≡ suc k = cc in (refl, ap Some (less j k more))

first_place : (b : Bool) (o : Option ℕ) → cond b (Some 0) (option_map (λ k. suc k) o) ≡ Some zero → b ≡ true
first_place true o e = refl
first_place false None e = absurd cc
first_place false (Some j) e = let wrong : suc j ≡ 0 = cc in absurd (apart j wrong)

no_place : (b : Bool) (o : Option ℕ) → cond b (Some 0) (option_map (λ k. suc k) o) ≡ None → (b ≡ false) × (o ≡ None)
no_place true o e = absurd cc
no_place false None e = (refl, refl)
no_place false (Some j) e = absurd cc

pub not_some : (o : Option ℕ) → ((k : ℕ) → o ≢ Some k) → o ≡ None
not_some None h = refl
not_some (Some k) h = absurd (h k refl)

pub new_name : (ns : List Word) (x : Word) → place_of ns x ≡ None → is_among ns x ≡ false
new_name [] x e = refl
new_name (n ∷ ns) x e = let parts = no_place (is_word x n) (place_of ns x) e in rw (parts.0, new_name ns x parts.1) refl

pub replaced_entry : (ns : List Word) (es : List NameUse) (x : Word) (k : ℕ) (e : NameUse) → length ns ≡ length es → place_of ns x ≡ Some k → zip ns (slice_set es k e) ≡ put_entry (zip ns es) x e
replaced_entry [] es x k e same p = absurd cc
replaced_entry (n ∷ ns) [] x k e same p = absurd (apart (length ns) same)
replaced_entry (n ∷ ns) (f ∷ es) x zero e same p = let here = first_place (is_word x n) (place_of ns x) p in rw here refl
replaced_entry (n ∷ ns) (f ∷ es) x (suc k) e same p = let rest = rest_place (is_word x n) (place_of ns x) k p in let fewer : length ns ≡ length es = less (length ns) (length es) same in rw rest.0 (ap (λ (l : List (Word × NameUse)). (n, f) ∷ l) (replaced_entry ns es x k e fewer rest.1))

pub pushed_entry : (ns : List Word) (es : List NameUse) (x : Word) (e : NameUse) → length ns ≡ length es → place_of ns x ≡ None → zip (ns ++ x ∷ []) (es ++ e ∷ []) ≡ put_entry (zip ns es) x e
pushed_entry [] [] x e same p = refl
pushed_entry [] (f ∷ es) x e same p = absurd (apart (length es) (sym same))
pushed_entry (n ∷ ns) [] x e same p = absurd (apart (length ns) same)
pushed_entry (n ∷ ns) (f ∷ es) x e same p = let parts = no_place (is_word x n) (place_of ns x) p in let fewer : length ns ≡ length es = less (length ns) (length es) same in rw parts.0 (ap (λ (l : List (Word × NameUse)). (n, f) ∷ l) (pushed_entry ns es x e fewer parts.1))

pub entry_at : (ns : List Word) (es : List NameUse) (i : ℕ) → length ns ≡ length es → slice_get es i ≡ option_map (λ (p : Word × NameUse). p.1) (slice_get (zip ns es) i)
entry_at [] [] i same = refl
entry_at [] (f ∷ es) i same = absurd (apart (length es) (sym same))
entry_at (n ∷ ns) [] i same = absurd (apart (length ns) same)
entry_at (n ∷ ns) (f ∷ es) zero same = refl
entry_at (n ∷ ns) (f ∷ es) (suc i) same = let fewer : length ns ≡ length es = less (length ns) (length es) same in entry_at ns es i fewer

pub pair_count : (ns : List Word) (es : List NameUse) → length ns ≡ length es → length es ≡ length (zip ns es)
pair_count [] [] same = refl
pair_count [] (f ∷ es) same = absurd (apart (length es) (sym same))
pair_count (n ∷ ns) [] same = absurd (apart (length ns) same)
pair_count (n ∷ ns) (f ∷ es) same = let fewer : length ns ≡ length es = less (length ns) (length es) same in ap suc (pair_count ns es fewer)

-- the names of the pairs
pub pair_names : (ns : List Word) (es : List NameUse) → length ns ≡ length es → map (λ (p : Word × NameUse). p.0) (zip ns es) ≡ ns
pair_names [] es same = refl
pair_names (n ∷ ns) [] same = absurd (apart (length ns) same)
pair_names (n ∷ ns) (f ∷ es) same = let fewer : length ns ≡ length es = less (length ns) (length es) same in ap (λ (l : List Word). n ∷ l) (pair_names ns es fewer)

pub place_bound : (ns : List Word) (x : Word) (k : ℕ) → place_of ns x ≡ Some k → k < length ns
place_bound [] x k e = absurd cc
place_bound (n ∷ ns) x zero e = omega arith
place_bound (n ∷ ns) x (suc k) e = let rest = rest_place (is_word x n) (place_of ns x) k e in let lt = place_bound ns x k rest.1 in omega arith

-- the entry at a name's place is the name's
pub entry_placed : (es : List (Word × NameUse)) (x : Word) (k : ℕ) → place_of (map (λ (p : Word × NameUse). p.0) es) x ≡ Some k → option_map (λ (p : Word × NameUse). p.1) (slice_get es k) ≡ entry_of es x
entry_placed [] x k e = absurd cc
entry_placed (p ∷ es) x zero e = let here = first_place (is_word x p.0) (place_of (map (λ (p : Word × NameUse). p.0) es) x) e in rw here refl
entry_placed (p ∷ es) x (suc k) e = let rest = rest_place (is_word x p.0) (place_of (map (λ (p : Word × NameUse). p.0) es) x) k e in rw rest.0 (entry_placed es x k rest.1)

pub entry_absent : (es : List (Word × NameUse)) (x : Word) → place_of (map (λ (p : Word × NameUse). p.0) es) x ≡ None → entry_of es x ≡ None
entry_absent [] x e = refl
entry_absent (p ∷ es) x e = let parts = no_place (is_word x p.0) (place_of (map (λ (p : Word × NameUse). p.0) es) x) e in rw parts.0 (entry_absent es x parts.1)
