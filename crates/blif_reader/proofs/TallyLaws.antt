-- A table of names stands for the uses that it has taken.
use Rattle.std.proofs.Common.{◌≡◌, ℕ, ◌+◌, List, [], ◌∷◌, ◌++◌, map, length, Bool, true, false, not, ◌&&◌, ◌||◌, inl, inr, refl, sym, ◌∙◌, ap, arith, Option, None, Some}
use Rattle.std.specs.Prelude.{if◌then◌else◌, is_some, nat_lt, ◌≤◌}
use Rattle.std.proofs.Common.{subst}
use Rattle.std.proofs.lemmas.Bool.{ltb-false}
use Rattle.blif_format.specs.declared.refusal.Quantity.{Quantity}
use Rattle.blif_format.specs.declared.refusal.ReadRefusal.TheVariants.{Fault, Limit, NoMemory}
use Rattle.blif_reader.specs.Meant.{IsRefusal}
use Rattle.std.proofs.lemmas.List.Sums.{fold-append}
use Rattle.std.proofs.Math.Bool.{and-false, or-false, or-true, or_assoc}
use Rattle.rm_base.specs.declared.numbers.Place.{Place}
use Rattle.rm_model.specs.Words.{is_word}
use Rattle.rm_model.specs.Value.{is_among}
use Rattle.blif_format.specs.Uses.{Use, is_source_role, is_observed_role, drives_twice, names_in, distinct_count, is_clock, is_input, is_output}
use Rattle.blif_format.specs.declared.words.Role.{Role}
use Rattle.blif_format.specs.declared.words.Role.TheVariants.{Input, ClockInput, Output, CoverInput, CoverOutput, LatchInput, LatchOutput, Control}
use Rattle.blif_format.specs.FirstFault.{or_else, fault_if, limit_if, name_limit, is_over, use_fault}
use Rattle.blif_format.specs.declared.refusal.FaultKind.TheVariants.{DoubleDriven, DoubleOutput}
use Rattle.blif_format.specs.declared.refusal.Quantity.TheVariants.{Sources, Observed, Signals}
use Rattle.blif_format.specs.declared.refusal.ReadRefusal.{ReadRefusal}
use Rattle.blif_reader.specs.declared.names.Flags.{Flags}
use Rattle.blif_reader.specs.declared.names.NameUse.{NameUse}
use Rattle.blif_reader.specs.declared.names.Counts.{Counts}
use Rattle.blif_reader.specs.Inner.Tally.{Tally, entry_of, flags_at, flags_or_none, has_source, is_driven_twice, is_listed_twice, with_role, put_entry, more_if, sources_after, observed_after, signals_after, place_or, with_use, use_check, flags_check, inputs_check, counts_check, counts_after, tally_fault, plays, is_latch, is_cover, flags_in, any_role, with_first, firsts, first_of, IsTally}
use Rattle.blif_reader.proofs.Compared.{word_tells, word_turned, among_more}
use Rattle.blif_reader.proofs.Plays.{plays_source, driven_is, listed_is, names_among, names_more, distinct_more}
use Rattle.rm_base.specs.Words.{Word}
use Rattle.rm_model.proofs.Public.{is_word-same, same_word}

-- what is looked up after an entry is put
pub entry_same : (es : List (Word × NameUse)) (x : Word) (e : NameUse) → entry_of (put_entry es x e) x ≡ Some e
entry_same [] x e = rw (is_word-same x) refl
entry_same (f ∷ fs) x e = at (is_word x f.0) refl (entry_same fs x e)
  where
    at : (t : Bool) → is_word x f.0 ≡ t → entry_of (put_entry fs x e) x ≡ Some e → entry_of (put_entry (f ∷ fs) x e) x ≡ Some e
    at true i ih = rw i (rw i refl)
    at false i ih = rw i (rw i ih)

pub entry_other : (es : List (Word × NameUse)) (x y : Word) (e : NameUse) → is_word x y ≡ false → entry_of (put_entry es x e) y ≡ entry_of es y
entry_other [] x y e other = let turned : is_word y x ≡ false = word_turned y x ∙ other in rw turned refl
entry_other (f ∷ fs) x y e other = at (is_word x f.0) refl (entry_other fs x y e other)
  where
    at : (t : Bool) → is_word x f.0 ≡ t → entry_of (put_entry fs x e) y ≡ entry_of fs y → entry_of (put_entry (f ∷ fs) x e) y ≡ entry_of (f ∷ fs) y
    at true i ih =
        let same : x ≡ f.0 = same_word x f.0 i in
        let not_here : is_word y f.0 ≡ false = ap (is_word y) (sym same) ∙ word_turned y x ∙ other in
        rw i (rw not_here refl)
    at false i ih = rw i (ap (λ o. if is_word y f.0 then Some f.1 else o) ih)

-- the flags with one more use
or_flags : Flags → Role → Bool → Flags
or_flags f role b = record {
  input = f.input || (is_input role && b);
  clock = f.clock || (is_clock role && b);
  latch = f.latch || (is_latch role && b);
  cover = f.cover || (is_cover role && b);
  output = f.output || (is_output role && b);
}

plays_more : (test : Role → Bool) (had : List Use) (u : Use) (y : Word) → plays test (had ++ u ∷ []) y ≡ (plays test had y || (test u.role && is_word u.name y))
plays_more test [] u y = or-false (test u.role && is_word u.name y)
plays_more test (v ∷ vs) u y = ap (λ b. (test v.role && is_word v.name y) || b) (plays_more test vs u y) ∙ sym (or_assoc (test v.role && is_word v.name y) (plays test vs y) (test u.role && is_word u.name y))

flags_more : (had : List Use) (u : Use) (y : Word) → flags_in (had ++ u ∷ []) y ≡ or_flags (flags_in had y) u.role (is_word u.name y)
unfolding or_flags
flags_more had u y =
    let one : plays is_input (had ++ u ∷ []) y ≡ (plays is_input had y || (is_input u.role && is_word u.name y)) = plays_more is_input had u y in
    let two : plays is_clock (had ++ u ∷ []) y ≡ (plays is_clock had y || (is_clock u.role && is_word u.name y)) = plays_more is_clock had u y in
    let three : plays is_latch (had ++ u ∷ []) y ≡ (plays is_latch had y || (is_latch u.role && is_word u.name y)) = plays_more is_latch had u y in
    let four : plays is_cover (had ++ u ∷ []) y ≡ (plays is_cover had y || (is_cover u.role && is_word u.name y)) = plays_more is_cover had u y in
    let five : plays is_output (had ++ u ∷ []) y ≡ (plays is_output had y || (is_output u.role && is_word u.name y)) = plays_more is_output had u y in
    cc

flags_with : (f : Flags) (role : Role) → or_flags f role true ≡ with_role f role
unfolding or_flags
flags_with f Input = rw (or-true f.input, or-false f.clock, or-false f.latch, or-false f.cover, or-false f.output) refl
flags_with f ClockInput = rw (or-false f.input, or-true f.clock, or-false f.latch, or-false f.cover, or-false f.output) refl
flags_with f Output = rw (or-false f.input, or-false f.clock, or-false f.latch, or-false f.cover, or-true f.output) refl
flags_with f CoverInput = rw (or-false f.input, or-false f.clock, or-false f.latch, or-false f.cover, or-false f.output) refl
flags_with f CoverOutput = rw (or-false f.input, or-false f.clock, or-false f.latch, or-true f.cover, or-false f.output) refl
flags_with f LatchInput = rw (or-false f.input, or-false f.clock, or-false f.latch, or-false f.cover, or-false f.output) refl
flags_with f LatchOutput = rw (or-false f.input, or-false f.clock, or-true f.latch, or-false f.cover, or-false f.output) refl
flags_with f Control = rw (or-false f.input, or-false f.clock, or-false f.latch, or-false f.cover, or-false f.output) refl

flags_same : (f : Flags) (role : Role) → or_flags f role false ≡ f
unfolding or_flags
flags_same f role =
    rw (and-false (is_input role), and-false (is_clock role), and-false (is_latch role), and-false (is_cover role), and-false (is_output role))
    (rw (or-false f.input, or-false f.clock, or-false f.latch, or-false f.cover, or-false f.output) refl)

flags_step : (had : List Use) (t : Tally) (u : Use) → IsTally had t → (y : Word) → flags_at (with_use t u).entries y ≡ flags_in (had ++ u ∷ []) y
flags_step had t u is y = elim (word_tells u.name y) [
  | inl s ↦
      ap (λ z. flags_at (with_use t u).entries z) (sym s.1)
      ∙ ap flags_or_none (entry_same t.entries u.name (record { flags = with_role (flags_at t.entries u.name) u.role; place = place_or (entry_of t.entries u.name) u.place }))
      ∙ ap (λ f. with_role f u.role) (is.flags u.name)
      ∙ sym (flags_with (flags_in had u.name) u.role)
      ∙ ap (λ b. or_flags (flags_in had u.name) u.role b) (sym (is_word-same u.name))
      ∙ sym (flags_more had u u.name)
      ∙ ap (λ z. flags_in (had ++ u ∷ []) z) s.1
  | inr s ↦
      ap flags_or_none (entry_other t.entries u.name y (record { flags = with_role (flags_at t.entries u.name) u.role; place = place_or (entry_of t.entries u.name) u.place }) s.0)
      ∙ is.flags y
      ∙ sym (flags_same (flags_in had y) u.role)
      ∙ ap (λ b. or_flags (flags_in had y) u.role b) (sym s.0)
      ∙ sym (flags_more had u y)
]

-- which names are known
known_step : (had : List Use) (t : Tally) (u : Use) → IsTally had t → (y : Word) → is_some (entry_of (with_use t u).entries y) ≡ is_among (names_in any_role (had ++ u ∷ [])) y
known_step had t u is y =
    let more : is_among (names_in any_role (had ++ u ∷ [])) y ≡ (is_among (names_in any_role had) y || is_word y u.name) = ap (λ xs. is_among xs y) (names_more any_role had u) ∙ among_more (names_in any_role had) u.name y in
    elim (word_tells u.name y) [
      | inl s ↦
          ap (λ z. is_some (entry_of (with_use t u).entries z)) (sym s.1)
          ∙ ap is_some (entry_same t.entries u.name (record { flags = with_role (flags_at t.entries u.name) u.role; place = place_or (entry_of t.entries u.name) u.place }))
          ∙ sym (or-true (is_among (names_in any_role had) y))
          ∙ ap (λ b. is_among (names_in any_role had) y || b) (sym (word_turned y u.name ∙ s.0))
          ∙ sym more
      | inr s ↦
          ap is_some (entry_other t.entries u.name y (record { flags = with_role (flags_at t.entries u.name) u.role; place = place_or (entry_of t.entries u.name) u.place }) s.0)
          ∙ is.known y
          ∙ sym (or-false (is_among (names_in any_role had) y))
          ∙ ap (λ b. is_among (names_in any_role had) y || b) (sym (word_turned y u.name ∙ s.0))
          ∙ sym more
    ]

length_put : (es : List (Word × NameUse)) (x : Word) (e : NameUse) → length (put_entry es x e) ≡ more_if (not (is_some (entry_of es x))) (length es)
length_put [] x e = refl
length_put (f ∷ fs) x e = at (is_word x f.0) (is_some (entry_of fs x)) refl refl (length_put fs x e)
  where
    at : (t s : Bool) → is_word x f.0 ≡ t → is_some (entry_of fs x) ≡ s → length (put_entry fs x e) ≡ more_if (not (is_some (entry_of fs x))) (length fs) → length (put_entry (f ∷ fs) x e) ≡ more_if (not (is_some (entry_of (f ∷ fs) x))) (length (f ∷ fs))
    at true s i j ih = rw i refl
    at false true i j ih = let now : length (put_entry fs x e) ≡ length fs = rw j at ih in rw (i, j) (omega arith)
    at false false i j ih = let now : length (put_entry fs x e) ≡ length fs + 1 = rw j at ih in rw (i, j) (omega arith)

-- how many different names there are in a role, with one more use
count_step : (test : Role → Bool) (had : List Use) (u : Use) → distinct_count (names_in test (had ++ u ∷ [])) ≡ more_if (test u.role && not (is_among (names_in test had) u.name)) (distinct_count (names_in test had))
count_step test had u = ap distinct_count (names_more test had u) ∙ at (test u.role) (is_among (names_in test had) u.name) refl refl
  where
    append_none : (xs : List Word) → xs ++ [] ≡ xs
    append_none [] = refl
    append_none (x ∷ xs) = ap (λ ys. x ∷ ys) (append_none xs)

    at : (t b : Bool) → test u.role ≡ t → is_among (names_in test had) u.name ≡ b → distinct_count (names_in test had ++ (if test u.role then u.name ∷ [] else [])) ≡ more_if (test u.role && not (is_among (names_in test had) u.name)) (distinct_count (names_in test had))
    at true true i j = rw (i, j) (distinct_more (names_in test had) u.name ∙ rw j refl)
    at true false i j = rw (i, j) (distinct_more (names_in test had) u.name ∙ rw j refl)
    at false b i j = rw i (ap distinct_count (append_none (names_in test had)))

length_more : (test : Role → Bool) (had : List Use) (u : Use) → length (names_in test (had ++ u ∷ [])) ≡ more_if (test u.role) (length (names_in test had))
length_more test had u = ap length (names_more test had u) ∙ at (names_in test had) (test u.role)
  where
    at : (xs : List Word) (t : Bool) → length (xs ++ (if t then u.name ∷ [] else [])) ≡ more_if t (length xs)
    at [] true = refl
    at [] false = refl
    at (x ∷ xs) true = let ih : length (xs ++ u.name ∷ []) ≡ length xs + 1 = at xs true in omega arith
    at (x ∷ xs) false = let ih : length (xs ++ []) ≡ length xs = at xs false in omega arith

pub sources_is : (had : List Use) (t : Tally) (u : Use) → IsTally had t → sources_after t u ≡ distinct_count (names_in is_source_role (had ++ u ∷ []))
sources_is had t u is =
    ap (λ n. more_if (is_source_role u.role && not (has_source (flags_at t.entries u.name))) n) is.sources
    ∙ ap (λ f. more_if (is_source_role u.role && not (has_source f)) (distinct_count (names_in is_source_role had))) (is.flags u.name)
    ∙ ap (λ b. more_if (is_source_role u.role && not b) (distinct_count (names_in is_source_role had))) (sym (plays_source had u.name) ∙ sym (names_among is_source_role had u.name))
    ∙ sym (count_step is_source_role had u)

pub observed_is : (had : List Use) (t : Tally) (u : Use) → IsTally had t → observed_after t u ≡ length (names_in is_observed_role (had ++ u ∷ []))
observed_is had t u is = ap (λ n. more_if (is_observed_role u.role) n) is.observed ∙ sym (length_more is_observed_role had u)

pub signals_is : (had : List Use) (t : Tally) (u : Use) → IsTally had t → signals_after t u ≡ distinct_count (names_in any_role (had ++ u ∷ []))
signals_is had t u is =
    ap (λ n. more_if (not (is_some (entry_of t.entries u.name))) n) is.signals
    ∙ ap (λ b. more_if (not b) (distinct_count (names_in any_role had))) (is.known u.name)
    ∙ sym (count_step any_role had u)

-- the first uses
place_put : (es : List (Word × NameUse)) (x : Word) (e : NameUse) (p : Place) → e.place ≡ place_or (entry_of es x) p → map first_of (put_entry es x e) ≡ (if is_among (map (λ (f : Word × Place). f.0) (map first_of es)) x then map first_of es else map first_of es ++ (x, p) ∷ [])
place_put [] x e p is = ap (λ (q : Place). (x, q) ∷ []) is
place_put (f ∷ fs) x e p is = at (is_word x f.0) (is_among (map (λ (f : Word × Place). f.0) (map first_of fs)) x) refl refl (place_put fs x e p)
  where
    at : (t b : Bool) → is_word x f.0 ≡ t → is_among (map (λ (f : Word × Place). f.0) (map first_of fs)) x ≡ b → (e.place ≡ place_or (entry_of fs x) p → map first_of (put_entry fs x e) ≡ (if is_among (map (λ (f : Word × Place). f.0) (map first_of fs)) x then map first_of fs else map first_of fs ++ (x, p) ∷ [])) → map first_of (put_entry (f ∷ fs) x e) ≡ (if is_among (map (λ (f : Word × Place). f.0) (map first_of (f ∷ fs))) x then map first_of (f ∷ fs) else map first_of (f ∷ fs) ++ (x, p) ∷ [])
    at true b i j ih = let here : e.place ≡ f.1.place = rw i at is in rw i (ap (λ (q : Place). (f.0, q) ∷ map first_of fs) here)
    at false true i j ih = let later : e.place ≡ place_or (entry_of fs x) p = rw i at is in let now = ih later in rw (i, j) (ap (λ es. first_of f ∷ es) (now ∙ rw j refl))
    at false false i j ih = let later : e.place ≡ place_or (entry_of fs x) p = rw i at is in let now = ih later in rw (i, j) (ap (λ es. first_of f ∷ es) (now ∙ rw j refl))

firsts_step : (had : List Use) (t : Tally) (u : Use) → IsTally had t → map first_of (with_use t u).entries ≡ firsts (had ++ u ∷ [])
firsts_step had t u is =
    place_put t.entries u.name (record { flags = with_role (flags_at t.entries u.name) u.role; place = place_or (entry_of t.entries u.name) u.place }) u.place refl
    ∙ ap (λ fs. with_first fs u) is.firsts_are
    ∙ sym (fold-append with_first [] had (u ∷ []))

pub takes_use : (had : List Use) (t : Tally) (u : Use) → IsTally had t → IsTally (had ++ u ∷ []) (with_use t u)
takes_use had t u is = record {
  flags = flags_step had t u is;
  firsts_are = firsts_step had t u is;
  known = known_step had t u is;
  signals = length_put t.entries u.name (record { flags = with_role (flags_at t.entries u.name) u.role; place = place_or (entry_of t.entries u.name) u.place }) ∙ signals_is had t u is;
  sources = sources_is had t u is;
  observed = observed_is had t u is;
}

or_else_assoc : (a b c : Option ReadRefusal) → or_else (or_else a b) c ≡ or_else a (or_else b c)
or_else_assoc None b c = refl
or_else_assoc (Some r) b c = refl

abbrev said_counts : List Use → Use → Counts
said_counts had u = record { sources = distinct_count (names_in is_source_role (had ++ u ∷ [])); observed = length (names_in is_observed_role (had ++ u ∷ [])); signals = distinct_count (names_in any_role (had ++ u ∷ [])) }

-- the table tells the fault of a use
pub tells_fault : (had : List Use) (t : Tally) (earlier : ℕ) (u : Use) → IsTally had t → tally_fault t earlier u ≡ use_fault had earlier u
tells_fault had t earlier u is =
    ap (λ f. use_check f (counts_after t u) u.role u.name earlier u.place) (is.flags u.name)
    ∙ ap (λ (c : Counts). use_check (flags_in had u.name) c u.role u.name earlier u.place) counts
    ∙ or_else_assoc (fault_if (is_driven_twice (flags_in had u.name) u.role) DoubleDriven u.place) (fault_if (is_listed_twice (flags_in had u.name) u.role) DoubleOutput u.place) (or_else (name_limit u.name u.place) (or_else (inputs_check u.role earlier u.place) (counts_check (said_counts had u) u.place)))
    ∙ ap (λ b. or_else (fault_if b DoubleDriven u.place) (or_else (fault_if (is_listed_twice (flags_in had u.name) u.role) DoubleOutput u.place) (or_else (name_limit u.name u.place) (or_else (inputs_check u.role earlier u.place) (counts_check (said_counts had u) u.place))))) (sym (driven_is u.role had u.name))
    ∙ ap (λ b. or_else (fault_if (plays (λ r. drives_twice r u.role) had u.name) DoubleDriven u.place) (or_else (fault_if b DoubleOutput u.place) (or_else (name_limit u.name u.place) (or_else (inputs_check u.role earlier u.place) (counts_check (said_counts had u) u.place))))) (sym (listed_is u.role had u.name))
  where
    counts : counts_after t u ≡ said_counts had u
    counts = let one : sources_after t u ≡ distinct_count (names_in is_source_role (had ++ u ∷ [])) = sources_is had t u is in let two : observed_after t u ≡ length (names_in is_observed_role (had ++ u ∷ [])) = observed_is had t u is in let three : signals_after t u ≡ distinct_count (names_in any_role (had ++ u ∷ [])) = signals_is had t u is in cc

refused : (first : Option ReadRefusal) (e : ReadRefusal) → first ≡ Some e → IsRefusal e first
refused first NoMemory h = tt
refused first (Fault kind place) h = h
refused first (Limit quantity count place) h = h

same_counts : (c d : Counts) → c.sources ≡ d.sources → c.observed ≡ d.observed → c.signals ≡ d.signals → c ≡ d
same_counts c d e f g = ap (λ (s : ℕ). record { sources = s; observed = c.observed; signals = c.signals }) e ∙ ap (λ (o : ℕ). record { sources = d.sources; observed = o; signals = c.signals }) f ∙ ap (λ (n : ℕ). record { sources = d.sources; observed = d.observed; signals = n }) g

-- what the check of a use says of the uses so far
pub says_fault : (had : List Use) (t : Tally) (earlier : ℕ) (u : Use) (entry : Option NameUse) (flags : Flags) (counts : Counts) → IsTally had t → entry ≡ entry_of t.entries u.name → flags ≡ flags_or_none entry → counts.sources ≡ more_if (is_source_role u.role && not (has_source (flags_or_none entry))) t.sources → counts.observed ≡ more_if (is_observed_role u.role) t.observed → counts.signals ≡ more_if (not (is_some entry)) (length t.entries) → use_check flags counts u.role u.name earlier u.place ≡ use_fault had earlier u
says_fault had t earlier u entry flags counts is e f s o n =
    let flags_are : flags ≡ flags_at t.entries u.name = f ∙ ap flags_or_none e in
    let counts_are : counts ≡ counts_after t u = same_counts counts (counts_after t u) (s ∙ ap (λ (x : Option NameUse). more_if (is_source_role u.role && not (has_source (flags_or_none x))) t.sources) e) o (n ∙ ap (λ (x : Option NameUse). more_if (not (is_some x)) (length t.entries)) e) in
    ap (λ (g : Flags). use_check g counts u.role u.name earlier u.place) flags_are
    ∙ ap (λ (c : Counts). use_check (flags_at t.entries u.name) c u.role u.name earlier u.place) counts_are
    ∙ tells_fault had t earlier u is

pub refuses_use : (had : List Use) (t : Tally) (earlier : ℕ) (u : Use) (entry : Option NameUse) (flags : Flags) (counts : Counts) (e : ReadRefusal) → IsTally had t → entry ≡ entry_of t.entries u.name → flags ≡ flags_or_none entry → counts.sources ≡ more_if (is_source_role u.role && not (has_source (flags_or_none entry))) t.sources → counts.observed ≡ more_if (is_observed_role u.role) t.observed → counts.signals ≡ more_if (not (is_some entry)) (length t.entries) → Some e ≡ use_check flags counts u.role u.name earlier u.place → IsRefusal e (use_fault had earlier u)
refuses_use had t earlier u entry flags counts e is a b s o n said = refused (use_fault had earlier u) e (sym (said ∙ says_fault had t earlier u entry flags counts is a b s o n))

pub accepts_use : (had : List Use) (t after : Tally) (earlier : ℕ) (u : Use) (entry : Option NameUse) (flags marked : Flags) (place : Place) (counts : Counts) → IsTally had t → entry ≡ entry_of t.entries u.name → flags ≡ flags_or_none entry → counts.sources ≡ more_if (is_source_role u.role && not (has_source (flags_or_none entry))) t.sources → counts.observed ≡ more_if (is_observed_role u.role) t.observed → counts.signals ≡ more_if (not (is_some entry)) (length t.entries) → None ≡ use_check flags counts u.role u.name earlier u.place → marked ≡ with_role flags u.role → place ≡ place_or entry u.place → after.entries ≡ put_entry t.entries u.name (record { flags = marked; place = place }) → after.sources ≡ counts.sources → after.observed ≡ counts.observed → (use_fault had earlier u ≡ None) × IsTally (had ++ u ∷ []) after
accepts_use had t after earlier u entry flags marked place counts is a b s o n said m p put q r =
    let flags_are : flags ≡ flags_at t.entries u.name = b ∙ ap flags_or_none a in
    let marked_are : marked ≡ with_role (flags_at t.entries u.name) u.role = m ∙ ap (λ (g : Flags). with_role g u.role) flags_are in
    let place_is : place ≡ place_or (entry_of t.entries u.name) u.place = p ∙ ap (λ (x : Option NameUse). place_or x u.place) a in
    let entries_are : after.entries ≡ (with_use t u).entries = put ∙ ap (λ (g : Flags). put_entry t.entries u.name (record { flags = g; place = place })) marked_are ∙ ap (λ (z : Place). put_entry t.entries u.name (record { flags = with_role (flags_at t.entries u.name) u.role; place = z })) place_is in
    let sources_are : after.sources ≡ (with_use t u).sources = q ∙ s ∙ ap (λ (x : Option NameUse). more_if (is_source_role u.role && not (has_source (flags_or_none x))) t.sources) a in
    let observed_are : after.observed ≡ (with_use t u).observed = r ∙ o in
    let same : after ≡ with_use t u = same_tally after (with_use t u) entries_are sources_are observed_are in
    (sym (says_fault had t earlier u entry flags counts is a b s o n) ∙ sym said, subst (IsTally (had ++ u ∷ [])) (sym same) (takes_use had t u is))
  where
    same_tally : (x y : Tally) → x.entries ≡ y.entries → x.sources ≡ y.sources → x.observed ≡ y.observed → x ≡ y
    same_tally x y e f g = ap (λ (es : List (Word × NameUse)). record { entries = es; sources = x.sources; observed = x.observed }) e ∙ ap (λ (s : ℕ). record { entries = y.entries; sources = s; observed = x.observed }) f ∙ ap (λ (o : ℕ). record { entries = y.entries; sources = y.sources; observed = o }) g

-- a check that passes keeps the limits
over_none : (limit count : ℕ) (q : Quantity) (place : Place) (rest : Option ReadRefusal) → or_else (limit_if (is_over limit count) q count place) rest ≡ None → (count ≤ limit) × (rest ≡ None)
over_none limit count q place rest e = at (nat_lt limit count) refl
  where
    at : (t : Bool) → nat_lt limit count ≡ t → (count ≤ limit) × (rest ≡ None)
    at true i = let wrong : Some (Limit q count place) ≡ None = rw i at e in cc
    at false i = (ltb-false limit count i, rw i at e)

later_none : (a b : Option ReadRefusal) → or_else a b ≡ None → b ≡ None
later_none None b e = e
later_none (Some r) b e = cc

pub record KeepsLimits (c : Counts) : Type 0 where
  pub sources : c.sources ≤ 1024
  pub observed : c.observed ≤ 4096
  pub signals : c.signals ≤ 131072

pub keeps_limits : (f : Flags) (c : Counts) (role : Role) (x : Word) (earlier : ℕ) (place : Place) → None ≡ use_check f c role x earlier place → KeepsLimits c
keeps_limits f c role x earlier place e =
    let one : or_else (name_limit x place) (or_else (inputs_check role earlier place) (counts_check c place)) ≡ None = later_none (flags_check f role place) (or_else (name_limit x place) (or_else (inputs_check role earlier place) (counts_check c place))) (sym e) in
    let two : or_else (inputs_check role earlier place) (counts_check c place) ≡ None = later_none (name_limit x place) (or_else (inputs_check role earlier place) (counts_check c place)) one in
    let three : counts_check c place ≡ None = later_none (inputs_check role earlier place) (counts_check c place) two in
    let s = over_none 1024 c.sources Sources place (or_else (limit_if (is_over 4096 c.observed) Observed c.observed place) (limit_if (is_over 131072 c.signals) Signals c.signals place)) three in
    let o = over_none 4096 c.observed Observed place (limit_if (is_over 131072 c.signals) Signals c.signals place) s.1 in
    record { sources = s.0; observed = o.0; signals = last (nat_lt 131072 c.signals) refl o.1 }
  where
    last : (t : Bool) → nat_lt 131072 c.signals ≡ t → limit_if (is_over 131072 c.signals) Signals c.signals place ≡ None → c.signals ≤ 131072
    last true i e = let wrong : Some (Limit Signals c.signals place) ≡ None = rw i at e in cc
    last false i e = ltb-false 131072 c.signals i

pub length_after : (es : List (Word × NameUse)) (x : Word) (e : NameUse) → length (put_entry es x e) ≡ more_if (not (is_some (entry_of es x))) (length es)
length_after es x e = length_put es x e
