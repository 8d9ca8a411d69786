-- Runs of records that are put together.
use Rattle.std.proofs.Common.{◌≡◌, ℕ, zero, suc, ◌+◌, ◌<◌, ◌≤◌, Option, List, [], ◌∷◌, ◌++◌, length, take, refl, sym, ◌∙◌, ap, subst, append_assoc, arith}
use Rattle.std.specs.Prelude.{get_or}
use Rattle.rm_base.specs.Files.{Files}
use Rattle.rm_base.specs.declared.settings.Made.{Made}
use Rattle.gate_net.specs.Net.{Net}
use Rattle.wire_edit.specs.Steps.{stepped}
use Rattle.wire_edit.specs.declared.steps.Step.{Step}
use Rattle.wire_edit.specs.declared.steps.Step.TheVariants.{Add, Fix, NewNot, Const, Same, NoPins, OnePin, Twice, Twin, Dead}
use Rattle.journal_text.specs.declared.record.Record.{Record}
use Rattle.journal_text.specs.declared.record.Record.TheVariants as kept
use Rattle.journal_text.specs.declared.record.Entry.TheVariants as entry
use Rattle.std.proofs.lemmas.List.{append-nil}
use Rattle.journal_text.specs.Text.{IsWritableRecord, entry_text}
use Rattle.journal_text.specs.Runs.{AcceptedTo, AreRemovals, AreWritable, HasAppended, HasAppendedPart, counted, made_by, records_text, steps_of}
use Rattle.journal_text.proofs.Appending.{appended_then, part_longer, part_then}

pub records_then : (a b : List Record) → records_text (a ++ b) ≡ records_text a ++ records_text b
records_then [] b = refl
records_then (r ∷ a) b = ap (λ (xs : List ℕ). entry_text (entry.Record r) ++ xs) (records_then a b) ∙ sym (append_assoc (entry_text (entry.Record r)) (records_text a) (records_text b))

pub steps_then : (a b : List Record) → steps_of (a ++ b) ≡ steps_of a ++ steps_of b
steps_then [] b = refl
steps_then (kept.Step step tree ∷ a) b = ap (λ (ss : List Step). step ∷ ss) (steps_then a b)
steps_then (kept.Hit fault vector ∷ a) b = steps_then a b
steps_then (kept.Spent fault tree ∷ a) b = steps_then a b

pub made_then : (m : Made) (a b : List Step) → made_by m (a ++ b) ≡ made_by (made_by m a) b
made_then m [] b = refl
made_then m (x ∷ a) b = made_then (counted m x) a b

abbrev sum : Made → ℕ
sum m = m.adds + m.fixes + m.local

counted_sum : (m : Made) (s : Step) → sum (counted m s) ≡ suc (sum m)
counted_sum m (Add gate node) = omega arith
counted_sum m (Fix gate position value) = omega arith
counted_sum m (NewNot node) = omega arith
counted_sum m (Const gate position) = omega arith
counted_sum m (Same gate position) = omega arith
counted_sum m (NoPins gate) = omega arith
counted_sum m (OnePin gate) = omega arith
counted_sum m (Twice gate) = omega arith
counted_sum m (Twin gate other) = omega arith
counted_sum m (Dead gate) = omega arith

pub made_sum : (m : Made) (a : List Step) → sum (made_by m a) ≡ sum m + length a
made_sum m [] = omega arith
made_sum m (x ∷ a) = let one : sum (counted m x) ≡ suc (sum m) = counted_sum m x in let rest : sum (made_by (counted m x) a) ≡ sum (counted m x) + length a = made_sum (counted m x) a in omega (arith, one, rest)

pub removals_then : (a b : List Step) → AreRemovals a → AreRemovals b → AreRemovals (a ++ b)
removals_then [] b p q = q
removals_then (x ∷ a) b p q = (p.0, removals_then a b p.1 q)

pub writable_then : (a b : List Record) → AreWritable a → AreWritable b → AreWritable (a ++ b)
writable_then [] b p q = q
writable_then (x ∷ a) b p q = (p.0, writable_then a b p.1 q)

pub accepted_then : (net mid after : Net) (a b : List Record) → AcceptedTo net a mid → AcceptedTo mid b after → AcceptedTo net (a ++ b) after
accepted_then net mid after [] b p q = subst (λ (n : Net). AcceptedTo n b after) p q
accepted_then net mid after (kept.Step step tree ∷ a) b p q = (p.0, accepted_then (stepped net step) mid after a b p.1 q)
accepted_then net mid after (kept.Hit fault vector ∷ a) b p q = absurd p
accepted_then net mid after (kept.Spent fault tree ∷ a) b p q = absurd p

pub accepted_each : (net after : Net) (a : List Record) → AcceptedTo net a after → length (steps_of a) ≡ length a
accepted_each net after [] p = refl
accepted_each net after (kept.Step step tree ∷ a) p = ap suc (accepted_each (stepped net step) after a p.1)
accepted_each net after (kept.Hit fault vector ∷ a) p = absurd p
accepted_each net after (kept.Spent fault tree ∷ a) p = absurd p

-- GOING ON IN A LIST
take_none : (xs : List Record) → take 0 xs ≡ []
take_none [] = refl
take_none (x ∷ xs) = refl

-- the record at a place parts the list
pub record PartsAt (xs : List Record) (i : ℕ) (x : Record) : Type 0 where
  pub rest : List Record
  pub all : xs ≡ take i xs ++ x ∷ rest
  pub more : take (i + 1) xs ≡ take i xs ++ x ∷ []

pub parts_at : (xs : List Record) (i : ℕ) (x : Record) → i < length xs → x ≡ get_or xs i x → PartsAt xs i x
parts_at [] i x l e = absurd (omega arith)
parts_at (y ∷ ys) zero x l e = record {
  rest = ys;
  all = ap (λ (z : Record). z ∷ ys) (sym e);
  more = ap (λ (zs : List Record). y ∷ zs) (take_none ys) ∙ ap (λ (z : Record). z ∷ []) (sym e);
}
parts_at (y ∷ ys) (suc i) x l e =
    let p : PartsAt ys i x = parts_at ys i x (omega arith) e in
    let n : suc i + 1 ≡ suc (i + 1) = omega arith in
    record {
      rest = p.rest;
      all = ap (λ (zs : List Record). y ∷ zs) p.all;
      more = ap (λ (k : ℕ). take k (y ∷ ys)) n ∙ ap (λ (zs : List Record). y ∷ zs) p.more;
    }

one_text : (x : Record) → records_text (x ∷ []) ≡ entry_text (entry.Record x)
one_text x = append-nil (entry_text (entry.Record x))

pub appended_more : (xs : List Record) (i : ℕ) (x : Record) (old mid new : Option Files) (name : List ℕ) → PartsAt xs i x → HasAppended old mid name (records_text (take i xs)) → HasAppended mid new name (entry_text (entry.Record x)) → HasAppended old new name (records_text (take (i + 1) xs))
appended_more xs i x old mid new name p done next =
    let is : records_text (take (i + 1) xs) ≡ records_text (take i xs) ++ entry_text (entry.Record x) =
    ap records_text p.more ∙ records_then (take i xs) (x ∷ []) ∙ ap (λ (bs : List ℕ). records_text (take i xs) ++ bs) (one_text x) in
    subst (λ (bs : List ℕ). HasAppended old new name bs) (sym is) (appended_then old mid new name (records_text (take i xs)) (entry_text (entry.Record x)) done next)

pub stopped_at : (xs : List Record) (i : ℕ) (x : Record) (old mid new : Option Files) (name : List ℕ) → PartsAt xs i x → HasAppended old mid name (records_text (take i xs)) → HasAppendedPart mid new name (entry_text (entry.Record x)) → HasAppendedPart old new name (records_text xs)
stopped_at xs i x old mid new name p done part =
    let is : records_text xs ≡ records_text (take i xs) ++ (entry_text (entry.Record x) ++ records_text p.rest) = ap records_text p.all ∙ records_then (take i xs) (x ∷ p.rest) in
    subst (λ (bs : List ℕ). HasAppendedPart old new name bs) (sym is)
    (part_then old mid new name (records_text (take i xs)) (entry_text (entry.Record x) ++ records_text p.rest) done (part_longer mid new name (entry_text (entry.Record x)) (records_text p.rest) part))

writable_last : (a b : List Record) (x : Record) → AreWritable (a ++ x ∷ b) → IsWritableRecord x
writable_last [] b x w = w.0
writable_last (y ∷ a) b x w = writable_last a b x w.1

pub writable_at : (xs : List Record) (i : ℕ) (x : Record) → PartsAt xs i x → AreWritable xs → IsWritableRecord x
writable_at xs i x p w = writable_last (take i xs) p.rest x (subst AreWritable p.all w)

-- COUNTS
pub counts_more : (xs : List Record) (i : ℕ) (x : Record) (m made after : Made) → PartsAt xs i x → made ≡ made_by m (steps_of (take i xs)) → after ≡ made_by made (steps_of (x ∷ [])) → after ≡ made_by m (steps_of (take (i + 1) xs))
counts_more xs i x m made after p done next =
    next ∙ ap (λ (k : Made). made_by k (steps_of (x ∷ []))) done ∙ sym (made_then m (steps_of (take i xs)) (steps_of (x ∷ []))) ∙ ap (made_by m) (sym (steps_then (take i xs) (x ∷ [])) ∙ ap steps_of (sym p.more))

-- no count rises by more than the number of steps
pub record AtMost (made : Made) (m : Made) (n : ℕ) : Type 0 where
  pub adds : made.adds ≤ m.adds + n
  pub fixes : made.fixes ≤ m.fixes + n
  pub local : made.local ≤ m.local + n

counted_most : (m : Made) (s : Step) → AtMost (counted m s) m 1
counted_most m (Add gate node) = record { adds = omega arith; fixes = omega arith; local = omega arith }
counted_most m (Fix gate position value) = record { adds = omega arith; fixes = omega arith; local = omega arith }
counted_most m (NewNot node) = record { adds = omega arith; fixes = omega arith; local = omega arith }
counted_most m (Const gate position) = record { adds = omega arith; fixes = omega arith; local = omega arith }
counted_most m (Same gate position) = record { adds = omega arith; fixes = omega arith; local = omega arith }
counted_most m (NoPins gate) = record { adds = omega arith; fixes = omega arith; local = omega arith }
counted_most m (OnePin gate) = record { adds = omega arith; fixes = omega arith; local = omega arith }
counted_most m (Twice gate) = record { adds = omega arith; fixes = omega arith; local = omega arith }
counted_most m (Twin gate other) = record { adds = omega arith; fixes = omega arith; local = omega arith }
counted_most m (Dead gate) = record { adds = omega arith; fixes = omega arith; local = omega arith }

made_most : (m : Made) (ss : List Step) → AtMost (made_by m ss) m (length ss)
made_most m [] = record { adds = omega arith; fixes = omega arith; local = omega arith }
made_most m (s ∷ ss) =
    let one : AtMost (counted m s) m 1 = counted_most m s in
    let rest : AtMost (made_by (counted m s) ss) (counted m s) (length ss) = made_most (counted m s) ss in
    record { adds = omega (arith, one.adds, rest.adds); fixes = omega (arith, one.fixes, rest.fixes); local = omega (arith, one.local, rest.local) }

few_steps : (i : ℕ) (xs : List Record) → length (steps_of (take i xs)) ≤ i
few_steps zero xs = let e : length (steps_of (take 0 xs)) ≡ 0 = ap (λ (rs : List Record). length (steps_of rs)) (take_none xs) in omega (arith, e)
few_steps (suc i) [] = omega arith
few_steps (suc i) (kept.Step step tree ∷ xs) = let le : length (steps_of (take i xs)) ≤ i = few_steps i xs in omega (arith, le)
few_steps (suc i) (kept.Hit fault vector ∷ xs) = let le : length (steps_of (take i xs)) ≤ i = few_steps i xs in omega (arith, le)
few_steps (suc i) (kept.Spent fault tree ∷ xs) = let le : length (steps_of (take i xs)) ≤ i = few_steps i xs in omega (arith, le)

pub room_at : (xs : List Record) (i : ℕ) (m made : Made) → made ≡ made_by m (steps_of (take i xs)) → AtMost made m i
room_at xs i m made e =
    let most : AtMost (made_by m (steps_of (take i xs))) m (length (steps_of (take i xs))) = made_most m (steps_of (take i xs)) in
    let few : length (steps_of (take i xs)) ≤ i = few_steps i xs in
    subst (λ (k : Made). AtMost k m i) (sym e) (record { adds = omega (arith, most.adds, few); fixes = omega (arith, most.fixes, few); local = omega (arith, most.local, few) })

pub one_fits : (now before n i bound : ℕ) → now ≤ before + i → i < n → before + n < bound → now + 1 < bound
one_fits now before n i bound a b c = omega (arith, a, b, c)
