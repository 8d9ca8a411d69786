-- The names that a text without fault uses clash nowhere.
use Rattle.std.proofs.Common.{◌≡◌, ℕ, ◌≤◌, ◌+◌, List, [], ◌∷◌, ◌++◌, length, Bool, true, false, ◌&&◌, ◌||◌, refl, sym, ◌∙◌, ap, arith, Option, None}
use Rattle.std.specs.Prelude.{if◌then◌else◌, nat_lt}
use Rattle.std.proofs.lemmas.Bool.{ltb-false}
use Rattle.rm_base.specs.declared.numbers.Place.{Place}
use Rattle.std.proofs.lemmas.List.{append-nil}
use Rattle.std.proofs.Math.Bool.{or-false, or_assoc}
use Rattle.rm_model.specs.Words.{is_word}
use Rattle.rm_model.specs.WellFormed.{is_distinct}
use Rattle.blif_lines.specs.Layout.{Logical}
use Rattle.blif_format.specs.Uses.{Use, is_source_role, is_observed_role, drives_twice, lists_twice, stands_in, names_in, distinct_count, is_clock, is_input, is_output}
use Rattle.blif_format.specs.declared.words.Role.{Role}
use Rattle.blif_format.specs.declared.words.Role.TheVariants.{Input, ClockInput, Output, CoverInput, CoverOutput, LatchInput, LatchOutput, Control}
use Rattle.blif_format.specs.FirstFault.{or_else, fault_if, limit_if, name_limit, is_cover_input, is_over, use_fault, Said, said_by, lines_fault}
use Rattle.blif_format.specs.declared.refusal.FaultKind.TheVariants.{DoubleDriven, DoubleOutput}
use Rattle.blif_format.specs.declared.refusal.Quantity.{Quantity}
use Rattle.blif_format.specs.declared.refusal.Quantity.TheVariants.{Name as NameLength, Inputs, Sources, Observed, Signals}
use Rattle.blif_format.specs.declared.refusal.ReadRefusal.{ReadRefusal}
use Rattle.blif_reader.specs.Inner.Tally.{plays, is_latch, is_cover}
use Rattle.blif_reader.proofs.Free.{distinct_add}
use Rattle.blif_reader.proofs.Plays.{names_among, names_more}
use Rattle.blif_reader.proofs.UseWalk.{walked_lines}
use Rattle.blif_reader.proofs.RowLaws.{first_none, second_none, not_fault}
use Rattle.rm_base.specs.Words.{Word}
use Rattle.rm_model.proofs.Public.{same_word}

-- no name stands in both roles
abbrev pub Apart : (Role → Bool) → (Role → Bool) → List Use → Type 0
Apart a b us = (x : Word) → plays a us x ≡ true → plays b us x ≡ false

-- no name is driven twice or listed twice, and few are sources or observed
pub record IsClean (us : List Use) : Type 0 where
  pub inputs : is_distinct (names_in is_input us) ≡ true
  pub clocks : is_distinct (names_in is_clock us) ≡ true
  pub latches : is_distinct (names_in is_latch us) ≡ true
  pub covers : is_distinct (names_in is_cover us) ≡ true
  pub outputs : is_distinct (names_in is_output us) ≡ true
  pub input_latch : Apart is_input is_latch us
  pub input_cover : Apart is_input is_cover us
  pub clock_latch : Apart is_clock is_latch us
  pub clock_cover : Apart is_clock is_cover us
  pub latch_cover : Apart is_latch is_cover us
  pub sources : distinct_count (names_in is_source_role us) ≤ 1024
  pub observed : length (names_in is_observed_role us) ≤ 4096

pub nothing_clean : IsClean []
nothing_clean = record { inputs = refl; clocks = refl; latches = refl; covers = refl; outputs = refl; input_latch = λ x e. refl; input_cover = λ x e. refl; clock_latch = λ x e. refl; clock_cover = λ x e. refl; latch_cover = λ x e. refl; sources = omega arith; observed = omega arith }

-- ONE MORE USE
plays_more : (t : Role → Bool) (had : List Use) (u : Use) (x : Word) → plays t (had ++ u ∷ []) x ≡ (plays t had x || (t u.role && is_word u.name x))
plays_more t [] u x = or-false (t u.role && is_word u.name x)
plays_more t (v ∷ vs) u x = ap (λ b. (t v.role && is_word v.name x) || b) (plays_more t vs u x) ∙ sym (or_assoc (t v.role && is_word v.name x) (plays t vs x) (t u.role && is_word u.name x))

stay_apart : (pa ar w pb br : Bool) → (pa || (ar && w)) ≡ true → (pa ≡ true → pb ≡ false) → (ar ≡ true → w ≡ true → pb ≡ false) → (br ≡ true → w ≡ true → pa ≡ false) → (ar ≡ true → br ≡ false) → (pb || (br && w)) ≡ false
stay_apart true ar w true br s h f g k = h refl
stay_apart false true true true br s h f g k = f refl refl
stay_apart false true false true br s h f g k = sym s
stay_apart false false w true br s h f g k = sym s
stay_apart pa ar w false false s h f g k = refl
stay_apart pa ar false false true s h f g k = refl
stay_apart true ar true false true s h f g k = g refl refl
stay_apart false true true false true s h f g k = k refl
stay_apart false false true false true s h f g k = sym s

apart_more : (a b : Role → Bool) (had : List Use) (u : Use) → Apart a b had → (a u.role ≡ true → plays b had u.name ≡ false) → (b u.role ≡ true → plays a had u.name ≡ false) → (a u.role ≡ true → b u.role ≡ false) → Apart a b (had ++ u ∷ [])
apart_more a b had u h f g k x e =
    plays_more b had u x
    ∙ stay_apart (plays a had x) (a u.role) (is_word u.name x) (plays b had x) (b u.role) (sym (plays_more a had u x) ∙ e) (h x)
    (λ r w. ap (plays b had) (sym (same_word u.name x w)) ∙ f r)
    (λ r w. ap (plays a had) (sym (same_word u.name x w)) ∙ g r)
    k

distinct_more : (t : Role → Bool) (had : List Use) (u : Use) → is_distinct (names_in t had) ≡ true → (t u.role ≡ true → plays t had u.name ≡ false) → is_distinct (names_in t (had ++ u ∷ [])) ≡ true
distinct_more t had u h f = ap is_distinct (names_more t had u) ∙ at (t u.role) refl
  where
    at : (b : Bool) → t u.role ≡ b → is_distinct (names_in t had ++ (if b then u.name ∷ [] else [])) ≡ true
    at true e = distinct_add (names_in t had) u.name h (names_among t had u.name ∙ f e)
    at false e = ap is_distinct (append-nil (names_in t had)) ∙ h

-- CLASHES
never : true ≡ false → ⊥
never z = cc

no_play : (f g : Role → Bool) → ((r : Role) → f r ≡ true → g r ≡ true) → (had : List Use) (x : Word) → plays g had x ≡ false → plays f had x ≡ false
no_play f g less [] x e = refl
no_play f g less (v ∷ vs) x e = at (f v.role) (g v.role) (is_word v.name x) (less v.role) (plays g vs x) refl e (no_play f g less vs x)
  where
    at : (a b w : Bool) → (a ≡ true → b ≡ true) → (p : Bool) → plays g vs x ≡ p → ((b && w) || p) ≡ false → (plays g vs x ≡ false → plays f vs x ≡ false) → ((a && w) || plays f vs x) ≡ false
    at false b w h true q n ih = end (b && w) n
      where
        end : (t : Bool) → (t || true) ≡ false → plays f vs x ≡ false
        end true z = absurd (never z)
        end false z = absurd (never z)
    at false b w h false q n ih = ih q
    at true b false h p q n ih = at_last b n
      where
        at_last : (t : Bool) → ((t && false) || p) ≡ false → plays f vs x ≡ false
        at_last true z = ih (q ∙ z)
        at_last false z = ih (q ∙ z)
    at true true true h p q n ih = absurd (never n)
    at true false true h p q n ih = absurd (never (sym (h refl)))

is_input_role : (q : Role) → is_input q ≡ true → q ≡ Input
is_input_role Input e = refl
is_input_role ClockInput e = cc
is_input_role Output e = cc
is_input_role CoverInput e = cc
is_input_role CoverOutput e = cc
is_input_role LatchInput e = cc
is_input_role LatchOutput e = cc
is_input_role Control e = cc

is_clock_role : (q : Role) → is_clock q ≡ true → q ≡ ClockInput
is_clock_role Input e = cc
is_clock_role ClockInput e = refl
is_clock_role Output e = cc
is_clock_role CoverInput e = cc
is_clock_role CoverOutput e = cc
is_clock_role LatchInput e = cc
is_clock_role LatchOutput e = cc
is_clock_role Control e = cc

is_latch_role : (q : Role) → is_latch q ≡ true → q ≡ LatchOutput
is_latch_role Input e = cc
is_latch_role ClockInput e = cc
is_latch_role Output e = cc
is_latch_role CoverInput e = cc
is_latch_role CoverOutput e = cc
is_latch_role LatchInput e = cc
is_latch_role LatchOutput e = refl
is_latch_role Control e = cc

is_cover_role : (q : Role) → is_cover q ≡ true → q ≡ CoverOutput
is_cover_role Input e = cc
is_cover_role ClockInput e = cc
is_cover_role Output e = cc
is_cover_role CoverInput e = cc
is_cover_role CoverOutput e = refl
is_cover_role LatchInput e = cc
is_cover_role LatchOutput e = cc
is_cover_role Control e = cc

is_output_role : (q : Role) → is_output q ≡ true → q ≡ Output
is_output_role Input e = cc
is_output_role ClockInput e = cc
is_output_role Output e = refl
is_output_role CoverInput e = cc
is_output_role CoverOutput e = cc
is_output_role LatchInput e = cc
is_output_role LatchOutput e = cc
is_output_role Control e = cc

driven_clash : (a b : Role → Bool) (q r : Role) → ((p : Role) → a p ≡ true → p ≡ q) → ((p : Role) → b p ≡ true → p ≡ r) → drives_twice r q ≡ true → (had : List Use) (u : Use) → stands_in drives_twice had u ≡ false → a u.role ≡ true → plays b had u.name ≡ false
driven_clash a b q r f g twice had u none e = no_play b (λ p. drives_twice p u.role) (λ p h. ap (λ o. drives_twice o u.role) (g p h) ∙ ap (drives_twice r) (f u.role e) ∙ twice) had u.name none

listed_clash : (had : List Use) (u : Use) → stands_in lists_twice had u ≡ false → is_output u.role ≡ true → plays is_output had u.name ≡ false
listed_clash had u none e = no_play is_output (λ p. lists_twice p u.role) (λ p h. ap (λ o. lists_twice o u.role) (is_output_role p h) ∙ ap (lists_twice Output) (is_output_role u.role e)) had u.name none

one_role : (a b : Role → Bool) (q : Role) → ((p : Role) → a p ≡ true → p ≡ q) → b q ≡ false → (p : Role) → a p ≡ true → b p ≡ false
one_role a b q f e p h = ap b (f p h) ∙ e

pub not_limit : (t : Bool) (q : Quantity) (n : ℕ) (p : Place) → limit_if t q n p ≡ None → t ≡ false
not_limit true q n p e = cc
not_limit false q n p e = refl

-- what a use without fault tells
pub record IsFree (had : List Use) (earlier : ℕ) (u : Use) : Type 0 where
  driven : stands_in drives_twice had u ≡ false
  listed : stands_in lists_twice had u ≡ false
  pub short : nat_lt 1024 (length u.name) ≡ false
  pub narrow : (is_cover_input u.role && nat_lt 65535 earlier) ≡ false
  sources : distinct_count (names_in is_source_role (had ++ u ∷ [])) ≤ 1024
  observed : length (names_in is_observed_role (had ++ u ∷ [])) ≤ 4096
  pub signals : distinct_count (names_in (λ _. true) (had ++ u ∷ [])) ≤ 131072

pub free_use : (had : List Use) (earlier : ℕ) (u : Use) → use_fault had earlier u ≡ None → IsFree had earlier u
free_use had earlier u e = record {
  driven = not_fault (stands_in drives_twice had u) DoubleDriven u.place (first_none one rest1 e);
  listed = not_fault (stands_in lists_twice had u) DoubleOutput u.place (first_none two rest2 n1);
  short = not_limit (nat_lt 1024 (length u.name)) NameLength (length u.name) u.place (first_none three rest3 n2);
  narrow = not_limit (is_cover_input u.role && nat_lt 65535 earlier) Inputs (earlier + 1) u.place (first_none four rest4 n3);
  sources = ltb-false 1024 sources (not_limit (is_over 1024 sources) Sources sources u.place (first_none five rest5 n4));
  observed = ltb-false 4096 observed (not_limit (is_over 4096 observed) Observed observed u.place (first_none six rest6 n5));
  signals = ltb-false 131072 signals (not_limit (is_over 131072 signals) Signals signals u.place (second_none six rest6 n5));
}
  where
    sources : ℕ
    sources = distinct_count (names_in is_source_role (had ++ u ∷ []))

    observed : ℕ
    observed = length (names_in is_observed_role (had ++ u ∷ []))

    signals : ℕ
    signals = distinct_count (names_in (λ _. true) (had ++ u ∷ []))

    one : Option ReadRefusal
    one = fault_if (stands_in drives_twice had u) DoubleDriven u.place

    two : Option ReadRefusal
    two = fault_if (stands_in lists_twice had u) DoubleOutput u.place

    three : Option ReadRefusal
    three = name_limit u.name u.place

    four : Option ReadRefusal
    four = limit_if (is_cover_input u.role && nat_lt 65535 earlier) Inputs (earlier + 1) u.place

    five : Option ReadRefusal
    five = limit_if (is_over 1024 sources) Sources sources u.place

    six : Option ReadRefusal
    six = limit_if (is_over 4096 observed) Observed observed u.place

    rest6 : Option ReadRefusal
    rest6 = limit_if (is_over 131072 signals) Signals signals u.place

    rest5 : Option ReadRefusal
    rest5 = or_else six rest6

    rest4 : Option ReadRefusal
    rest4 = or_else five rest5

    rest3 : Option ReadRefusal
    rest3 = or_else four rest4

    rest2 : Option ReadRefusal
    rest2 = or_else three rest3

    rest1 : Option ReadRefusal
    rest1 = or_else two rest2

    n1 : rest1 ≡ None
    n1 = second_none one rest1 e

    n2 : rest2 ≡ None
    n2 = second_none two rest2 n1

    n3 : rest3 ≡ None
    n3 = second_none three rest3 n2

    n4 : rest4 ≡ None
    n4 = second_none four rest4 n3

    n5 : rest5 ≡ None
    n5 = second_none five rest5 n4

clean_use : (had : List Use) (earlier : ℕ) (u : Use) → use_fault had earlier u ≡ None → IsClean had → IsClean (had ++ u ∷ [])
clean_use had earlier u e c = by (free_use had earlier u e)
  where
    by : IsFree had earlier u → IsClean (had ++ u ∷ [])
    by f = record {
      inputs = distinct_more is_input had u c.inputs (driven_clash is_input is_input Input Input is_input_role is_input_role refl had u f.driven);
      clocks = distinct_more is_clock had u c.clocks (driven_clash is_clock is_clock ClockInput ClockInput is_clock_role is_clock_role refl had u f.driven);
      latches = distinct_more is_latch had u c.latches (driven_clash is_latch is_latch LatchOutput LatchOutput is_latch_role is_latch_role refl had u f.driven);
      covers = distinct_more is_cover had u c.covers (driven_clash is_cover is_cover CoverOutput CoverOutput is_cover_role is_cover_role refl had u f.driven);
      outputs = distinct_more is_output had u c.outputs (listed_clash had u f.listed);
      input_latch = apart_more is_input is_latch had u c.input_latch (driven_clash is_input is_latch Input LatchOutput is_input_role is_latch_role refl had u f.driven) (driven_clash is_latch is_input LatchOutput Input is_latch_role is_input_role refl had u f.driven) (one_role is_input is_latch Input is_input_role refl u.role);
      input_cover = apart_more is_input is_cover had u c.input_cover (driven_clash is_input is_cover Input CoverOutput is_input_role is_cover_role refl had u f.driven) (driven_clash is_cover is_input CoverOutput Input is_cover_role is_input_role refl had u f.driven) (one_role is_input is_cover Input is_input_role refl u.role);
      clock_latch = apart_more is_clock is_latch had u c.clock_latch (driven_clash is_clock is_latch ClockInput LatchOutput is_clock_role is_latch_role refl had u f.driven) (driven_clash is_latch is_clock LatchOutput ClockInput is_latch_role is_clock_role refl had u f.driven) (one_role is_clock is_latch ClockInput is_clock_role refl u.role);
      clock_cover = apart_more is_clock is_cover had u c.clock_cover (driven_clash is_clock is_cover ClockInput CoverOutput is_clock_role is_cover_role refl had u f.driven) (driven_clash is_cover is_clock CoverOutput ClockInput is_cover_role is_clock_role refl had u f.driven) (one_role is_clock is_cover ClockInput is_clock_role refl u.role);
      latch_cover = apart_more is_latch is_cover had u c.latch_cover (driven_clash is_latch is_cover LatchOutput CoverOutput is_latch_role is_cover_role refl had u f.driven) (driven_clash is_cover is_latch CoverOutput LatchOutput is_cover_role is_latch_role refl had u f.driven) (one_role is_latch is_cover LatchOutput is_latch_role refl u.role);
      sources = f.sources;
      observed = f.observed;
    }

pub clean_lines : (said : Said) (ls : List Logical) → lines_fault said ls ≡ None → IsClean said.uses → IsClean (said_by said ls).uses
clean_lines said ls none clean = walked_lines IsClean clean_use said ls none clean
