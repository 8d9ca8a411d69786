-- The rows of clap's matches by their ids, and the parts of the words one by one.
use Rattle.std.proofs.Common.{◌≡◌, ◌∙◌, ◌&&◌, ◌<◌, ℕ, zero, suc, Bool, true, false, cond, refl, ap, List, [], ◌∷◌, ◌++◌, length, Option, Some, None, is_some, arith}
use Rattle.std.specs.Prelude.{find, slice_get}
use Rattle.std.specs.List.{list_any}
use Rattle.std.specs.Str.{bytes_eq}
use Rattle.std.proofs.lemmas.List.{append-nil}
use Rattle.clap.specs.Walk.{Row, Rule, Text, action_of, at_row, has_row, more_values, reading_by, used, most_values, without}
use Rattle.clap.specs.Kinds.{range_kinds}
use Rattle.clap.specs.Facts.{parser_of_value, unwrap_or_range}
use Rattle.clap.specs.Faults.{use_fault}
use Rattle.clap.specs.ValueTests.{accepts}
use Rattle.clap.specs.declared.builder.action.ArgAction.TheVariants.{Set}
use Rattle.clap.specs.declared.builder.value_parser.Reading.TheVariants.{AsWritten}
use Rattle.clap.specs.declared.parser.matches.ValueSource.TheVariants.{CommandLine}
use Rattle.word_reading.specs.Inner.Judged.{clean, judged_use}
use Rattle.word_reading.specs.Words.{Part, name, setting, names, given, has_keys, is_word}

-- ---- rows

-- the row of a value
abbrev pub row_for : Text → Text → Row
row_for id v = record { id = id; values = v ∷ []; count = None; source = Some CommandLine; reading = AsWritten }

abbrev pub row_with : Text → List Row → Option Row
row_with id rows = find (λ (r : Row). bytes_eq r.id id) rows

pub has_row-is : (id : Text) (rows : List Row) → has_row id rows ≡ is_some (row_with id rows)
has_row-is id [] = refl
has_row-is id (r ∷ rs) = go (bytes_eq r.id id) refl (has_row-is id rs)
  where
    go : (b : Bool) → bytes_eq r.id id ≡ b → has_row id rs ≡ is_some (row_with id rs) → has_row id (r ∷ rs) ≡ is_some (row_with id (r ∷ rs))
    go true e later = rw e refl
    go false e later = rw e later

at_none : (id : Text) (change : Row → List Row) (missing : List Row) (rows : List Row) → row_with id rows ≡ None → at_row id change missing rows ≡ rows ++ missing
at_none id change missing [] e = refl
at_none id change missing (r ∷ rs) e = go (bytes_eq r.id id) refl (at_none id change missing rs)
  where
    go : (b : Bool) → bytes_eq r.id id ≡ b → (row_with id rs ≡ None → at_row id change missing rs ≡ rs ++ missing) → at_row id change missing (r ∷ rs) ≡ r ∷ (rs ++ missing)
    go true f later = let bad : Some r ≡ None = rw f at e in cc
    go false f later = rw f (ap (λ xs. r ∷ xs) (later (rw f at e)))

pub pushed_same : (id v : Text) (rows : List Row) → row_with id rows ≡ None → bytes_eq id id ≡ true → row_with id (rows ++ row_for id v ∷ []) ≡ Some (row_for id v)
pushed_same id v [] e same = rw same refl
pushed_same id v (r ∷ rs) e same = go (bytes_eq r.id id) refl (λ f. pushed_same id v rs f same)
  where
    go : (b : Bool) → bytes_eq r.id id ≡ b → (row_with id rs ≡ None → row_with id (rs ++ row_for id v ∷ []) ≡ Some (row_for id v)) → row_with id (r ∷ (rs ++ row_for id v ∷ [])) ≡ Some (row_for id v)
    go true f later = let bad : Some r ≡ None = rw f at e in cc
    go false f later = rw f (later (rw f at e))

pub pushed_other : (x id v : Text) (rows : List Row) → bytes_eq id x ≡ false → row_with x (rows ++ row_for id v ∷ []) ≡ row_with x rows
pushed_other x id v [] e = rw e refl
pushed_other x id v (r ∷ rs) e = ap (λ o. cond (bytes_eq r.id x) (Some r) o) (pushed_other x id v rs e)

-- ---- a use of an argument

-- each use sets one value, as it is written
pub record IsPlain (a : Rule) : Type 0 where
  pub action : action_of a ≡ Set
  pub reading : reading_by a ≡ AsWritten
  pub range : range_kinds (unwrap_or_range a.range).start_inclusive (most_values a) 1 ≡ []

-- the argument takes the value
abbrev pub fits : Rule → Text → Bool
fits a v = accepts a.ignore_case (parser_of_value a.parser) v

pub use_refused : (a : Rule) (v : Text) (rows : List Row) (next : List Row → Option (List Row)) → IsPlain a → fits a v ≡ false → judged_use (Some a) v rows next ≡ None
use_refused a v rows next plain e = go (has_row a.id rows) refl
  where
    go : (b : Bool) → has_row a.id rows ≡ b → judged_use (Some a) v rows next ≡ None
    go true f = rw (plain.range, plain.action, f) refl
    go false f = rw (plain.range, plain.action, f, e) refl

pub use_repeated : (a : Rule) (v : Text) (rows : List Row) (next : List Row → Option (List Row)) → IsPlain a → has_row a.id rows ≡ true → judged_use (Some a) v rows next ≡ None
use_repeated a v rows next plain f = rw (plain.range, plain.action, f) refl

used_row : (a : Rule) (v : Text) (rows : List Row) → IsPlain a → row_with a.id rows ≡ None → used a (v ∷ []) rows ≡ rows ++ row_for a.id v ∷ []
used_row a v rows plain none =
    let gone : without a.id rows ≡ rows = at_none a.id (λ r. []) [] rows none ∙ append-nil rows in
    rw (plain.action, plain.reading, gone) (at_none a.id (more_values CommandLine (v ∷ [])) (row_for a.id v ∷ []) rows none)

pub use_taken : (a : Rule) (v : Text) (rows : List Row) (next : List Row → Option (List Row)) → IsPlain a → row_with a.id rows ≡ None → fits a v ≡ true
    → judged_use (Some a) v rows next ≡ next (rows ++ row_for a.id v ∷ [])
use_taken a v rows next plain none e =
    let new : has_row a.id rows ≡ false = has_row-is a.id rows ∙ ap is_some none in
    let clear : clean (use_fault false a (v ∷ []) rows) ≡ true = rw (plain.range, plain.action, new, e) refl in
    rw clear (ap next (used_row a v rows plain none))

-- ---- parts

pub names-append : (ps qs : List Part) → names (ps ++ qs) ≡ names ps ++ names qs
unfolding names
names-append [] qs = refl
names-append (name w ∷ ps) qs = ap (λ ws. w ∷ ws) (names-append ps qs)
names-append (setting k v ∷ ps) qs = names-append ps qs

pub given-append : (key : Text) (ps qs : List Part) → given key (ps ++ qs) ≡ given key ps ++ given key qs
unfolding given
given-append key [] qs = refl
given-append key (name w ∷ ps) qs = given-append key ps qs
given-append key (setting k v ∷ ps) qs = go (is_word k key) refl (given-append key ps qs)
  where
    go : (b : Bool) → is_word k key ≡ b → given key (ps ++ qs) ≡ given key ps ++ given key qs → given key (setting k v ∷ (ps ++ qs)) ≡ given key (setting k v ∷ ps) ++ given key qs
    go true e later = rw e (ap (λ vs. v ∷ vs) later)
    go false e later = rw e later

and_assoc : (a b c : Bool) → (a && (b && c)) ≡ ((a && b) && c)
and_assoc true b c = refl
and_assoc false b c = refl

pub has_keys-append : (keys : List Text) (ps qs : List Part) → has_keys keys (ps ++ qs) ≡ (has_keys keys ps && has_keys keys qs)
unfolding has_keys
has_keys-append keys [] qs = refl
has_keys-append keys (name w ∷ ps) qs = has_keys-append keys ps qs
has_keys-append keys (setting k v ∷ ps) qs = ap (λ b. list_any (is_word k) keys && b) (has_keys-append keys ps qs) ∙ and_assoc (list_any (is_word k) keys) (has_keys keys ps) (has_keys keys qs)

-- ---- places

pub get_none : {X : Type 0} (xs : List X) → slice_get xs (length xs) ≡ None
get_none [] = refl
get_none (x ∷ xs) = get_none xs

pub get_before : {X : Type 0} (xs : List X) (y : X) (i : ℕ) → (i ≡ length xs → ⊥) → slice_get (xs ++ y ∷ []) i ≡ slice_get xs i
get_before [] y zero ne = absurd (ne refl)
get_before [] y (suc i) ne = refl
get_before (x ∷ xs) y zero ne = refl
get_before (x ∷ xs) y (suc i) ne = get_before xs y i (λ e. ne (ap suc e))

pub length_past : {X : Type 0} (xs : List X) (y : X) (ys : List X) → length xs < length (xs ++ y ∷ ys)
length_past [] y ys = omega arith
length_past (x ∷ xs) y ys = let h = length_past xs y ys in omega arith
