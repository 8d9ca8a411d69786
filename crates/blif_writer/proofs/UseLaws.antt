-- No two uses of names clash where each name is driven once.
use Rattle.std.proofs.Common.{◌≡◌, ◌+◌, ◌≤◌, ℕ, Bool, true, false, List, [], ◌∷◌, ◌++◌, refl, ap, sym, subst, ◌∙◌, append_assoc, arith}
use Rattle.std.specs.Prelude.{◌&&◌, Option, None, Some, length, nat_lt, if◌then◌else◌}
use Rattle.std.specs.List.{cons_option, filter_map, list_any}
use Rattle.rm_base.specs.declared.numbers.Place.{Place}
use Rattle.rm_model.specs.Words.{is_word}
use Rattle.rm_model.specs.Value.{is_among}
use Rattle.blif_lines.specs.Layout.{Spot}
use Rattle.blif_format.specs.Uses.{Use, use_of, drives_twice, lists_twice, stands_in, names_in, is_driver, is_source_role, is_observed_role, distinct_count, is_clock, is_input, is_output}
use Rattle.blif_format.specs.declared.words.Role.{Role}
use Rattle.blif_format.specs.declared.words.Role.TheVariants.{Input, ClockInput, Output, CoverInput, CoverOutput, LatchInput, LatchOutput, Control}
use Rattle.blif_format.specs.declared.words.Part.{Part}
use Rattle.blif_format.specs.declared.words.Part.TheVariants.{Title, Name, LatchType, Init, Extra}
use Rattle.blif_format.specs.FirstFault.{or_else, fault_if, limit_if, use_fault, use_fault_if, is_cover_input, is_over, part_fault, parts_fault, latch_types, init_values}
use Rattle.blif_format.specs.Laws.{IsAtMostLimit}
use Rattle.blif_format.specs.declared.refusal.Quantity.{Quantity}
use Rattle.blif_format.specs.declared.refusal.FaultKind.{FaultKind}
use Rattle.blif_format.specs.declared.refusal.FaultKind.TheVariants.{DoubleDriven, DoubleOutput}
use Rattle.blif_format.specs.declared.refusal.Quantity.TheVariants.{Name as NameLength, Inputs, Sources, Observed, Signals}
use Rattle.blif_format.specs.declared.refusal.ReadRefusal.{ReadRefusal}
use Rattle.blif_writer.proofs.Counts.{IsSo, NotSo, eq_word, other_way, told}
use Rattle.rm_base.specs.Numbers.{one_if}
use Rattle.rm_base.specs.Words.{Word}

-- TALLIES

-- how often a name is used in a role that passes the test
abbrev pub one : (Role → Bool) → Word → Role → Word → ℕ
one test x role name = if test role then one_if (is_word x name) else 0

abbrev pub tally : (Role → Bool) → Word → List Use → ℕ
tally test x [] = 0
tally test x (u ∷ us) = one test x u.role u.name + tally test x us

pub tally-append : (test : Role → Bool) (x : Word) (us vs : List Use) → tally test x (us ++ vs) ≡ tally test x us + tally test x vs
tally-append test x [] vs = omega arith
tally-append test x (u ∷ us) vs = omega (arith, tally-append test x us vs)

abbrev pub is_latch_output : Role → Bool
is_latch_output LatchOutput = true
is_latch_output role = false

abbrev pub is_cover_output : Role → Bool
is_cover_output CoverOutput = true
is_cover_output role = false

-- a name that is nowhere used in such a role
none_stand : (test : Role → Bool) (x : Word) (us : List Use) → tally test x us ≡ 0 → list_any (λ (u : Use). test u.role && is_word u.name x) us ≡ false
none_stand test x [] e = refl
none_stand test x (u ∷ us) e =
    let rest : tally test x us ≡ 0 = omega arith in
    let here : one test x u.role u.name ≡ 0 = omega arith in
    rw (clear (test u.role) u.name here, none_stand test x us rest) refl
  where
    clear : (b : Bool) (n : Word) → (if b then one_if (is_word x n) else 0) ≡ 0 → b && is_word n x ≡ false
    clear false n h = refl
    clear true n h = elim (told (is_word x n)) [ IsSo t ↦ let one : one_if (is_word x n) ≡ 1 = ap one_if t in absurd (omega arith) | NotSo t ↦ other_way x n t ]

-- what clashes with each role
one_against_input : (x : Word) (r : Role) (n : Word) → one (λ role. drives_twice role Input) x r n ≡ one is_input x r n + (one is_latch_output x r n + one is_cover_output x r n)
one_against_input x Input n = omega arith
one_against_input x ClockInput n = omega arith
one_against_input x Output n = omega arith
one_against_input x CoverInput n = omega arith
one_against_input x CoverOutput n = omega arith
one_against_input x LatchInput n = omega arith
one_against_input x LatchOutput n = omega arith
one_against_input x Control n = omega arith

one_against_clock : (x : Word) (r : Role) (n : Word) → one (λ role. drives_twice role ClockInput) x r n ≡ one is_clock x r n + (one is_latch_output x r n + one is_cover_output x r n)
one_against_clock x Input n = omega arith
one_against_clock x ClockInput n = omega arith
one_against_clock x Output n = omega arith
one_against_clock x CoverInput n = omega arith
one_against_clock x CoverOutput n = omega arith
one_against_clock x LatchInput n = omega arith
one_against_clock x LatchOutput n = omega arith
one_against_clock x Control n = omega arith

one_against_other : (x : Word) (r : Role) (n : Word) → one is_driver x r n ≡ one is_input x r n + (one is_clock x r n + (one is_latch_output x r n + one is_cover_output x r n))
one_against_other x Input n = omega arith
one_against_other x ClockInput n = omega arith
one_against_other x Output n = omega arith
one_against_other x CoverInput n = omega arith
one_against_other x CoverOutput n = omega arith
one_against_other x LatchInput n = omega arith
one_against_other x LatchOutput n = omega arith
one_against_other x Control n = omega arith

against_input : (x : Word) (us : List Use) → tally (λ role. drives_twice role Input) x us ≡ tally is_input x us + (tally is_latch_output x us + tally is_cover_output x us)
against_input x [] = omega arith
against_input x (u ∷ us) = omega (arith, one_against_input x u.role u.name, against_input x us)

against_clock : (x : Word) (us : List Use) → tally (λ role. drives_twice role ClockInput) x us ≡ tally is_clock x us + (tally is_latch_output x us + tally is_cover_output x us)
against_clock x [] = omega arith
against_clock x (u ∷ us) = omega (arith, one_against_clock x u.role u.name, against_clock x us)

pub tally_drivers : (x : Word) (us : List Use) → tally is_driver x us ≡ tally is_input x us + (tally is_clock x us + (tally is_latch_output x us + tally is_cover_output x us))
tally_drivers x [] = omega arith
tally_drivers x (u ∷ us) = omega (arith, one_against_other x u.role u.name, tally_drivers x us)

-- two tests that agree
same_tally : (test other : Role → Bool) → ((r : Role) → test r ≡ other r) → (x : Word) (us : List Use) → tally test x us ≡ tally other x us
same_tally test other same x [] = refl
same_tally test other same x (u ∷ us) = rw (same u.role, same_tally test other same x us) refl

against_latch : (r : Role) → drives_twice r LatchOutput ≡ is_driver r
against_latch Input = refl
against_latch ClockInput = refl
against_latch Output = refl
against_latch CoverInput = refl
against_latch CoverOutput = refl
against_latch LatchInput = refl
against_latch LatchOutput = refl
against_latch Control = refl

against_cover : (r : Role) → drives_twice r CoverOutput ≡ is_driver r
against_cover Input = refl
against_cover ClockInput = refl
against_cover Output = refl
against_cover CoverInput = refl
against_cover CoverOutput = refl
against_cover LatchInput = refl
against_cover LatchOutput = refl
against_cover Control = refl

idle_tally : (test : Role → Bool) → ((r : Role) → test r ≡ false) → (x : Word) (us : List Use) → tally test x us ≡ 0
idle_tally test idle x [] = refl
idle_tally test idle x (u ∷ us) =
    let rest : tally test x us ≡ 0 = idle_tally test idle x us in
    rw (idle u.role) (omega arith)

-- a role that drives nothing clashes with none
idle : (r other : Role) → is_driver other ≡ false → drives_twice r other ≡ false
idle Input Input e = e
idle Input ClockInput e = refl
idle Input Output e = refl
idle Input CoverInput e = refl
idle Input CoverOutput e = e
idle Input LatchInput e = refl
idle Input LatchOutput e = e
idle Input Control e = refl
idle ClockInput Input e = refl
idle ClockInput ClockInput e = e
idle ClockInput Output e = refl
idle ClockInput CoverInput e = refl
idle ClockInput CoverOutput e = e
idle ClockInput LatchInput e = refl
idle ClockInput LatchOutput e = e
idle ClockInput Control e = refl
idle Output other e = refl
idle CoverInput other e = refl
idle CoverOutput other e = e
idle LatchInput other e = refl
idle LatchOutput other e = e
idle Control other e = refl

alone : (r other : Role) → is_output other ≡ false → lists_twice r other ≡ false
alone Output Input e = refl
alone Output ClockInput e = refl
alone Output Output e = e
alone Output CoverInput e = refl
alone Output CoverOutput e = refl
alone Output LatchInput e = refl
alone Output LatchOutput e = refl
alone Output Control e = refl
alone Input other e = refl
alone ClockInput other e = refl
alone CoverInput other e = refl
alone CoverOutput other e = refl
alone LatchInput other e = refl
alone LatchOutput other e = refl
alone Control other e = refl

both_outputs : (r : Role) → lists_twice r Output ≡ is_output r
both_outputs Input = refl
both_outputs ClockInput = refl
both_outputs Output = refl
both_outputs CoverInput = refl
both_outputs CoverOutput = refl
both_outputs LatchInput = refl
both_outputs LatchOutput = refl
both_outputs Control = refl

-- each name is driven once and is an output once; an input may be a clock
pub record IsClear (us : List Use) : Type 0 where
  pub inputs : (x : Word) → tally is_input x us + (tally is_latch_output x us + tally is_cover_output x us) ≤ 1
  pub clocks : (x : Word) → tally is_clock x us + (tally is_latch_output x us + tally is_cover_output x us) ≤ 1
  pub outputs : (x : Word) → tally is_output x us ≤ 1

-- no clash before a use, by its role
no_clash : (r : Role) (x : Word) (had : List Use) → (one is_input x r x + tally is_input x had) + ((one is_latch_output x r x + tally is_latch_output x had) + (one is_cover_output x r x + tally is_cover_output x had)) ≤ 1 → (one is_clock x r x + tally is_clock x had) + ((one is_latch_output x r x + tally is_latch_output x had) + (one is_cover_output x r x + tally is_cover_output x had)) ≤ 1 → tally (λ role. drives_twice role r) x had ≡ 0
no_clash Input x had a b = omega (arith, ap one_if (eq_word x x refl), against_input x had)
no_clash ClockInput x had a b = omega (arith, ap one_if (eq_word x x refl), against_clock x had)
no_clash LatchOutput x had a b = omega (arith, ap one_if (eq_word x x refl), same_tally (λ role. drives_twice role LatchOutput) is_driver against_latch x had, tally_drivers x had)
no_clash CoverOutput x had a b = omega (arith, ap one_if (eq_word x x refl), same_tally (λ role. drives_twice role CoverOutput) is_driver against_cover x had, tally_drivers x had)
no_clash Output x had a b = idle_tally (λ role. drives_twice role Output) (λ r. idle r Output refl) x had
no_clash CoverInput x had a b = idle_tally (λ role. drives_twice role CoverInput) (λ r. idle r CoverInput refl) x had
no_clash LatchInput x had a b = idle_tally (λ role. drives_twice role LatchInput) (λ r. idle r LatchInput refl) x had
no_clash Control x had a b = idle_tally (λ role. drives_twice role Control) (λ r. idle r Control refl) x had

no_double : (r : Role) (x : Word) (had : List Use) → one is_output x r x + tally is_output x had ≤ 1 → tally (λ role. lists_twice role r) x had ≡ 0
no_double Output x had a = omega (arith, ap one_if (eq_word x x refl), same_tally (λ role. lists_twice role Output) is_output both_outputs x had)
no_double Input x had a = idle_tally (λ role. lists_twice role Input) (λ r. alone r Input refl) x had
no_double ClockInput x had a = idle_tally (λ role. lists_twice role ClockInput) (λ r. alone r ClockInput refl) x had
no_double CoverInput x had a = idle_tally (λ role. lists_twice role CoverInput) (λ r. alone r CoverInput refl) x had
no_double CoverOutput x had a = idle_tally (λ role. lists_twice role CoverOutput) (λ r. alone r CoverOutput refl) x had
no_double LatchInput x had a = idle_tally (λ role. lists_twice role LatchInput) (λ r. alone r LatchInput refl) x had
no_double LatchOutput x had a = idle_tally (λ role. lists_twice role LatchOutput) (λ r. alone r LatchOutput refl) x had
no_double Control x had a = idle_tally (λ role. lists_twice role Control) (λ r. alone r Control refl) x had

-- the parts of a tally before and from a use on
split_tally : (test : Role → Bool) (x : Word) (had : List Use) (this : Use) (rest : List Use) → tally test x (had ++ this ∷ rest) ≡ tally test x had + (one test x this.role this.name + tally test x rest)
split_tally test x had this rest = tally-append test x had (this ∷ rest)

pub record IsFree (had : List Use) (this : Use) : Type 0 where
  pub driver : stands_in drives_twice had this ≡ false
  pub output : stands_in lists_twice had this ≡ false

pub use_free : (had : List Use) (this : Use) (rest : List Use) → IsClear (had ++ this ∷ rest) → IsFree had this
use_free had this rest clear =
    let x = this.name in
    let a = clear.inputs x in
    let b = clear.clocks x in
    let c = clear.outputs x in
    let i = split_tally is_input x had this rest in
    let k = split_tally is_clock x had this rest in
    let l = split_tally is_latch_output x had this rest in
    let o = split_tally is_cover_output x had this rest in
    let w = split_tally is_output x had this rest in
    record {
      driver = none_stand (λ role. drives_twice role this.role) x had (no_clash this.role x had (omega arith) (omega arith));
      output = none_stand (λ role. lists_twice role this.role) x had (no_double this.role x had (omega arith));
    }

-- PARTS

-- at most a limit
pub record IsFine (found : Option ReadRefusal) : Type 0 where
  pub limit : IsAtMostLimit found

pub no_refusal : IsFine None
no_refusal = record { limit = tt }

either_limit : (a b : Option ReadRefusal) → IsAtMostLimit a → IsAtMostLimit b → IsAtMostLimit (or_else a b)
either_limit None b h k = k
either_limit (Some r) b h k = h

pub or_else_fine : {a b : Option ReadRefusal} → IsFine a → IsFine b → IsFine (or_else a b)
or_else_fine {a = a} {b = b} h k = record { limit = either_limit a b h.limit k.limit }

limit_only : (test : Bool) (q : Quantity) (n : ℕ) (p : Place) → IsAtMostLimit (limit_if test q n p)
limit_only true q n p = tt
limit_only false q n p = tt

pub limit_fine : (test : Bool) (q : Quantity) (n : ℕ) (p : Place) → IsFine (limit_if test q n p)
limit_fine test q n p = record { limit = limit_only test q n p }

-- a test that fails gives no fault
pub no_fault : (test : Bool) (kind : FaultKind) (p : Place) → test ≡ false → IsFine (fault_if test kind p)
no_fault test kind p e = rw e no_refusal

use_is_fine : (had : List Use) (earlier : ℕ) (this : Use) → IsFree had this → IsFine (use_fault had earlier this)
use_is_fine had earlier this free =
    let uses = had ++ this ∷ [] in
    let sources = distinct_count (names_in is_source_role uses) in
    let observed = length (names_in is_observed_role uses) in
    let signals = distinct_count (names_in (λ role. true) uses) in
    or_else_fine (no_fault (stands_in drives_twice had this) DoubleDriven this.place free.driver)
    (or_else_fine (no_fault (stands_in lists_twice had this) DoubleOutput this.place free.output)
    (or_else_fine (limit_fine (nat_lt 1024 (length this.name)) NameLength (length this.name) this.place)
    (or_else_fine (limit_fine (is_cover_input this.role && nat_lt 65535 earlier) Inputs (earlier + 1) this.place)
    (or_else_fine (limit_fine (is_over 1024 sources) Sources sources this.place)
    (or_else_fine (limit_fine (is_over 4096 observed) Observed observed this.place)
    (limit_fine (is_over 131072 signals) Signals signals this.place))))))

cons_option-append : {A : Type 0} (o : Option A) (xs : List A) → cons_option o xs ≡ cons_option o [] ++ xs
cons_option-append None xs = refl
cons_option-append (Some x) xs = refl

abbrev pub IsFinePart : Part → Spot → Type 0
IsFinePart Title s = Unit {0}
IsFinePart (Name role) s = Unit {0}
IsFinePart LatchType s = is_among latch_types s.word ≡ true
IsFinePart Init s = is_among init_values s.word ≡ true
IsFinePart Extra s = ⊥

abbrev pub AreFineParts : List (Part × Spot) → Type 0
AreFineParts [] = Unit {0}
AreFineParts (p ∷ ps) = IsFinePart p.0 p.1 × AreFineParts ps

name_is_fine : (had : List Use) (earlier : ℕ) (o : Option Use) (rest : List Use) → IsClear (had ++ cons_option o rest) → IsFine (use_fault_if had earlier o)
name_is_fine had earlier None rest clear = no_refusal
name_is_fine had earlier (Some this) rest clear = use_is_fine had earlier this (use_free had this rest clear)

part_is_fine : (had : List Use) (earlier : ℕ) (part : Part) (s : Spot) (rest : List Use) → IsFinePart part s → IsClear (had ++ cons_option (use_of (part, s)) rest) → IsFine (part_fault had earlier (part, s))
part_is_fine had earlier Title s rest fine clear = limit_fine (nat_lt 1024 (length s.word)) NameLength (length s.word) s.place
part_is_fine had earlier (Name role) s rest fine clear = name_is_fine had earlier (use_of (Name role, s)) rest clear
part_is_fine had earlier LatchType s rest fine clear = rw fine no_refusal
part_is_fine had earlier Init s rest fine clear = rw fine no_refusal
part_is_fine had earlier Extra s rest fine clear = absurd fine

pub parts_are_fine : (had : List Use) (earlier : ℕ) (ps : List (Part × Spot)) (rest : List Use) → AreFineParts ps → IsClear (had ++ (filter_map use_of ps ++ rest)) → IsFine (parts_fault had earlier ps)
parts_are_fine had earlier [] rest fine clear = no_refusal
parts_are_fine had earlier ((part, s) ∷ ps) rest fine clear =
    let o = use_of (part, s) in
    let more = filter_map use_of ps in
    let apart : cons_option o more ++ rest ≡ cons_option o (more ++ rest) =
    ap (λ us. us ++ rest) (cons_option-append o more) ∙ (append_assoc (cons_option o []) more rest ∙ sym (cons_option-append o (more ++ rest))) in
    let here : IsClear (had ++ cons_option o (more ++ rest)) = subst (λ (us : List Use). IsClear (had ++ us)) apart clear in
    let there : IsClear ((had ++ cons_option o []) ++ (more ++ rest)) =
    subst IsClear (ap (λ us. had ++ us) (cons_option-append o (more ++ rest)) ∙ sym (append_assoc had (cons_option o []) (more ++ rest))) here in
    or_else_fine (part_is_fine had earlier part s (more ++ rest) fine.0 here) (parts_are_fine (had ++ cons_option o []) (earlier + 1) ps rest fine.1 there)
