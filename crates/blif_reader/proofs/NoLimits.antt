-- Lines whose names and covers are within the limits exceed none.
use Rattle.std.proofs.Common.{◌≡◌, ◌≤◌, ◌+◌, ℕ, suc, List, [], ◌∷◌, ◌++◌, map, length, Bool, true, false, not, ◌&&◌, refl, sym, ◌∙◌, ap, subst, arith, append_assoc, length-append, Option, None, Some}
use Rattle.std.specs.Prelude.{if◌then◌else◌, nat_lt, codes, ◌==◌}
use Rattle.std.specs.List.{cons_option, filter_map, list_all}
use Rattle.std.proofs.lemmas.Bool.{le-ltb}
use Rattle.std.proofs.lemmas.List.Folds.{list_all-append}
use Rattle.rm_base.specs.declared.numbers.Place.{Place}
use Rattle.rm_model.specs.Words.{is_word}
use Rattle.rm_model.specs.Value.{is_among}
use Rattle.blif_lines.specs.Layout.{Spot, Logical, Flaw, BadByteAt, OpenJoinAt}
use Rattle.blif_format.specs.Text.{Line}
use Rattle.blif_format.specs.Grammar.{begins_with, words_after}
use Rattle.blif_format.specs.Unsupported.{unsupported_words}
use Rattle.blif_format.specs.Uses.{command_of, all_are, in_parts, names_parts, latch_parts, parts_of, least_words, Use, use_of, uses_of, is_source_role, is_observed_role, drives_twice, lists_twice, stands_in, names_in, distinct_count}
use Rattle.blif_format.specs.declared.words.Command.{Command}
use Rattle.blif_format.specs.declared.words.Command.TheVariants.{Model, Inputs, Outputs, Clock, Names, Latch, End}
use Rattle.blif_format.specs.declared.words.Role.{Role}
use Rattle.blif_format.specs.declared.words.Role.TheVariants.{Input, ClockInput, Output, CoverInput, CoverOutput, LatchInput, LatchOutput, Control}
use Rattle.blif_format.specs.declared.words.Part.{Part}
use Rattle.blif_format.specs.declared.words.Part.TheVariants.{Title, Name, LatchType, Init, Extra}
use Rattle.blif_format.specs.FirstFault.{or_else, fault, fault_if, limit_if, name_limit, is_cover_input, is_over, use_fault, use_fault_if, latch_types, init_values, part_fault, parts_fault, OpenCover as SaidCover, is_ending, is_other_ending, ending_fault, next_column, is_literal, character_fault, extra_fault, rest_fault, row_fault, row_fault_in, Said, is_dotted, dotted_fault, command_fault, words_fault, after_line, nothing_said, flaw_fault, lines_fault}
use Rattle.blif_format.specs.declared.refusal.FaultKind.{FaultKind}
use Rattle.blif_format.specs.declared.refusal.FaultKind.TheVariants.{BadByte, OpenJoin, NoModel, Unsupported, UnknownCommand, MissingWord, ExtraWord, RowOutsideCover, RowLength, RowCharacter, MixedCover, BadLatchWord, DoubleDriven, DoubleOutput, AfterEnd}
use Rattle.blif_format.specs.declared.refusal.Quantity.{Quantity}
use Rattle.blif_format.specs.declared.refusal.Quantity.TheVariants.{Name as NameLength, Inputs as InputCount, Sources, Observed, Signals}
use Rattle.blif_format.specs.declared.refusal.ReadRefusal.{ReadRefusal}
use Rattle.blif_format.specs.declared.refusal.ReadRefusal.TheVariants.{Limit}
use Rattle.blif_reader.specs.Limits.{is_short}
use Rattle.blif_reader.proofs.NameLaws.{all_uses, names_append}
use Rattle.blif_reader.proofs.LineLaws.{command_word, uses_case}
use Rattle.blif_reader.proofs.FormLaws.{lines_in}
use Rattle.blif_reader.proofs.WordCounts.{kinds_among, kinds_length}
use Rattle.rm_base.proofs.Public.{and_first, and_second, false_from_not}
use Rattle.rm_base.specs.Words.{Word}
use Rattle.rm_model.proofs.Public.{is_word-same}

abbrev pub every : Role → Bool
every role = true

-- no limit is exceeded
abbrev IsNoLimit : Option ReadRefusal → Type 0
IsNoLimit (Some (Limit quantity count place)) = ⊥
IsNoLimit found = Unit {0}

pub record NoLimit (found : Option ReadRefusal) : Type 0 where
  pub is : IsNoLimit found

pub limit_never : (found : Option ReadRefusal) (quantity : Quantity) (count : ℕ) (place : Place) → NoLimit found → found ≡ Some (Limit quantity count place) → ⊥
limit_never found quantity count place n e = subst IsNoLimit e n.is

pub none_fine : NoLimit None
none_fine = record { is = tt }

pub fault_fine : (kind : FaultKind) (place : Place) → NoLimit (fault kind place)
fault_fine kind place = record { is = tt }

pub fault_if_fine : (test : Bool) (kind : FaultKind) (place : Place) → NoLimit (fault_if test kind place)
fault_if_fine true kind place = fault_fine kind place
fault_if_fine false kind place = none_fine

limit_if_fine : (test : Bool) (quantity : Quantity) (count : ℕ) (place : Place) → test ≡ false → NoLimit (limit_if test quantity count place)
limit_if_fine test quantity count place e = rw e none_fine

pub or_else_fine : (a b : Option ReadRefusal) → NoLimit a → NoLimit b → NoLimit (or_else a b)
or_else_fine None b h k = k
or_else_fine (Some r) b h k = h

-- NAMES
-- the names used are short, few are sources or observed, and all are among so many
pub record AreFew (sources names : List Word) (us : List Use) : Type 0 where
  pub short : list_all is_short (names_in every us) ≡ true
  pub from_sources : list_all (is_among sources) (names_in is_source_role us) ≡ true
  pub observed : length (names_in is_observed_role us) ≤ 4096
  pub signals : list_all (is_among names) (names_in every us) ≡ true

all_first : (p : Word → Bool) (test : Role → Bool) (us vs : List Use) → list_all p (names_in test (us ++ vs)) ≡ true → list_all p (names_in test us) ≡ true
all_first p test us vs h = and_first (list_all p (names_in test us)) (list_all p (names_in test vs)) (sym (list_all-append p (names_in test us) (names_in test vs)) ∙ ap (list_all p) (sym (names_append test us vs)) ∙ h)

pub few_first : (sources names : List Word) (us vs : List Use) → AreFew sources names (us ++ vs) → AreFew sources names us
few_first sources names us vs few = record {
  short = all_first is_short every us vs few.short;
  from_sources = all_first (is_among sources) is_source_role us vs few.from_sources;
  observed =
      let all : length (names_in is_observed_role (us ++ vs)) ≡ length (names_in is_observed_role us) + length (names_in is_observed_role vs) = ap length (names_append is_observed_role us vs) ∙ length-append (names_in is_observed_role us) (names_in is_observed_role vs) in
      let most : length (names_in is_observed_role (us ++ vs)) ≤ 4096 = few.observed in omega arith;
  signals = all_first (is_among names) every us vs few.signals;
}

module _ (sources names : List Word) (few_sources : length sources ≤ 1024) (few_names : length names ≤ 131072) where
  -- the last name used is short
  last_short : (had : List Use) (u : Use) → list_all is_short (names_in every (had ++ u ∷ [])) ≡ true → is_short u.name ≡ true
  last_short had u h =
      let last : list_all is_short (names_in every (u ∷ [])) ≡ true = and_second (list_all is_short (names_in every had)) (list_all is_short (names_in every (u ∷ []))) (sym (list_all-append is_short (names_in every had) (names_in every (u ∷ []))) ∙ ap (list_all is_short) (sym (names_append every had (u ∷ []))) ∙ h) in
      and_first (is_short u.name) true last

  use_fine : (had : List Use) (earlier : ℕ) (u : Use) → AreFew sources names (had ++ u ∷ []) → (is_cover_input u.role && nat_lt 65535 earlier) ≡ false → NoLimit (use_fault had earlier u)
  use_fine had earlier u few wide =
      let uses = had ++ u ∷ [] in
      let s = distinct_count (names_in is_source_role uses) in
      let o = length (names_in is_observed_role uses) in
      let n = distinct_count (names_in every uses) in
      let s1 : s ≤ distinct_count sources = kinds_among (names_in is_source_role uses) sources few.from_sources in
      let s2 : distinct_count sources ≤ length sources = kinds_length sources in
      let n1 : n ≤ distinct_count names = kinds_among (names_in every uses) names few.signals in
      let n2 : distinct_count names ≤ length names = kinds_length names in
      let s3 : s ≤ 1024 = omega arith in
      let n3 : n ≤ 131072 = omega arith in
      or_else_fine (fault_if (stands_in drives_twice had u) DoubleDriven u.place) _ (fault_if_fine (stands_in drives_twice had u) DoubleDriven u.place)
      (or_else_fine (fault_if (stands_in lists_twice had u) DoubleOutput u.place) _ (fault_if_fine (stands_in lists_twice had u) DoubleOutput u.place)
      (or_else_fine (name_limit u.name u.place) _ (limit_if_fine (nat_lt 1024 (length u.name)) NameLength (length u.name) u.place (false_from_not (nat_lt 1024 (length u.name)) (last_short had u few.short)))
      (or_else_fine (limit_if (is_cover_input u.role && nat_lt 65535 earlier) InputCount (earlier + 1) u.place) _ (limit_if_fine (is_cover_input u.role && nat_lt 65535 earlier) InputCount (earlier + 1) u.place wide)
      (or_else_fine (limit_if (is_over 1024 s) Sources s u.place) _ (limit_if_fine (is_over 1024 s) Sources s u.place (le-ltb 1024 s s3))
      (or_else_fine (limit_if (is_over 4096 o) Observed o u.place) (limit_if (is_over 131072 n) Signals n u.place) (limit_if_fine (is_over 4096 o) Observed o u.place (le-ltb 4096 o few.observed))
      (limit_if_fine (is_over 131072 n) Signals n u.place (le-ltb 131072 n n3)))))))

  -- WORDS IN THEIR PARTS
  -- a title is short, and a cover's input has few words before it
  abbrev IsFitPart : ℕ → Part × Spot → Type 0
  IsFitPart earlier (Title, s) = length s.word ≤ 1024
  IsFitPart earlier (Name CoverInput, s) = earlier ≤ 65535
  IsFitPart earlier p = Unit {0}

  abbrev pub AreFitParts : ℕ → List (Part × Spot) → Type 0
  AreFitParts earlier [] = Unit {0}
  AreFitParts earlier (p ∷ ps) = IsFitPart earlier p × AreFitParts (earlier + 1) ps

  -- no part but a cover's input uses a name in that role
  abbrev IsNarrow : ℕ → Option Use → Type 0
  IsNarrow earlier None = Unit {0}
  IsNarrow earlier (Some u) = (is_cover_input u.role && nat_lt 65535 earlier) ≡ false

  control_narrow : (earlier : ℕ) (s : Spot) (b : Bool) → IsNarrow earlier (if b then None else Some (record { role = Control; name = s.word; place = s.place }))
  control_narrow earlier s true = tt
  control_narrow earlier s false = refl

  narrow_use : (earlier : ℕ) (part : Part) (s : Spot) → IsFitPart earlier (part, s) → IsNarrow earlier (use_of (part, s))
  narrow_use earlier (Name CoverInput) s fit = le-ltb 65535 earlier fit
  narrow_use earlier (Name Input) s fit = refl
  narrow_use earlier (Name ClockInput) s fit = refl
  narrow_use earlier (Name Output) s fit = refl
  narrow_use earlier (Name CoverOutput) s fit = refl
  narrow_use earlier (Name LatchInput) s fit = refl
  narrow_use earlier (Name LatchOutput) s fit = refl
  narrow_use earlier (Name Control) s fit = control_narrow earlier s (is_word (codes "NIL") s.word)
  narrow_use earlier Title s fit = tt
  narrow_use earlier LatchType s fit = tt
  narrow_use earlier Init s fit = tt
  narrow_use earlier Extra s fit = tt

  name_fine : (had : List Use) (earlier : ℕ) (o : Option Use) → AreFew sources names (had ++ cons_option o []) → IsNarrow earlier o → NoLimit (use_fault_if had earlier o)
  name_fine had earlier None few wide = none_fine
  name_fine had earlier (Some u) few wide = use_fine had earlier u few wide

  part_fine : (had : List Use) (earlier : ℕ) (part : Part) (s : Spot) → AreFew sources names (had ++ cons_option (use_of (part, s)) []) → IsFitPart earlier (part, s) → NoLimit (part_fault had earlier (part, s))
  part_fine had earlier Title s few fit = limit_if_fine (nat_lt 1024 (length s.word)) NameLength (length s.word) s.place (le-ltb 1024 (length s.word) fit)
  part_fine had earlier LatchType s few fit = fault_if_fine (not (is_among latch_types s.word)) BadLatchWord s.place
  part_fine had earlier Init s few fit = fault_if_fine (not (is_among init_values s.word)) BadLatchWord s.place
  part_fine had earlier Extra s few fit = fault_fine ExtraWord s.place
  part_fine had earlier (Name role) s few fit = name_fine had earlier (use_of (Name role, s)) few (narrow_use earlier (Name role) s fit)

  onto : (o : Option Use) (us : List Use) → cons_option o [] ++ us ≡ cons_option o us
  onto None us = refl
  onto (Some u) us = refl

  parts_fine : (had : List Use) (earlier : ℕ) (ps : List (Part × Spot)) → AreFew sources names (had ++ filter_map use_of ps) → AreFitParts earlier ps → NoLimit (parts_fault had earlier ps)
  parts_fine had earlier [] few fit = none_fine
  parts_fine had earlier ((part, s) ∷ ps) few fit =
      let o = use_of (part, s) in
      let apart : had ++ cons_option o (filter_map use_of ps) ≡ (had ++ cons_option o []) ++ filter_map use_of ps = ap (λ us. had ++ us) (sym (onto o (filter_map use_of ps))) ∙ sym (append_assoc had (cons_option o []) (filter_map use_of ps)) in
      let all : AreFew sources names ((had ++ cons_option o []) ++ filter_map use_of ps) = subst (AreFew sources names) apart few in
      or_else_fine (part_fault had earlier (part, s)) (parts_fault (had ++ cons_option o []) (earlier + 1) ps)
      (part_fine had earlier part s (few_first sources names (had ++ cons_option o []) (filter_map use_of ps) all) fit.0)
      (parts_fine (had ++ cons_option o []) (earlier + 1) ps all fit.1)

  -- COMMANDS
  list_fit : (role : Role) → is_cover_input role ≡ false → (earlier : ℕ) (ss : List Spot) → AreFitParts earlier (all_are (Name role) ss)
  list_fit role e earlier [] = tt
  list_fit role e earlier (s ∷ ss) = (at role e, list_fit role e (earlier + 1) ss)
    where
      at : (r : Role) → is_cover_input r ≡ false → IsFitPart earlier (Name r, s)
      at Input e = tt
      at ClockInput e = tt
      at Output e = tt
      at CoverInput e = cc
      at CoverOutput e = tt
      at LatchInput e = tt
      at LatchOutput e = tt
      at Control e = tt

  extras_fit : (earlier : ℕ) (ss : List Spot) → AreFitParts earlier (all_are Extra ss)
  extras_fit earlier [] = tt
  extras_fit earlier (s ∷ ss) = (tt, extras_fit (earlier + 1) ss)

  names_fit : (earlier : ℕ) (ss : List Spot) → earlier + length ss ≤ 65537 → AreFitParts earlier (names_parts ss)
  names_fit earlier [] few = tt
  names_fit earlier (s ∷ []) few = (tt, tt)
  names_fit earlier (s ∷ t ∷ ss) few = (omega arith, names_fit (earlier + 1) (t ∷ ss) (omega arith))

  -- each part fits at any place
  abbrev AreAll : ℕ → Spot → List Part → Type 0
  AreAll e s [] = Unit {0}
  AreAll e s (p ∷ ps) = IsFitPart e (p, s) × AreAll e s ps

  in_fit : (earlier : ℕ) (parts : List Part) (ss : List Spot) → ((e : ℕ) (s : Spot) → AreAll e s parts) → AreFitParts earlier (in_parts parts ss)
  in_fit earlier parts [] fit = tt
  in_fit earlier [] (s ∷ ss) fit = extras_fit earlier (s ∷ ss)
  in_fit earlier (p ∷ parts) (s ∷ ss) fit = ((fit earlier s).0, in_fit (earlier + 1) parts ss (λ e t. (fit e t).1))

  latch_fit : (earlier : ℕ) (ss : List Spot) → AreFitParts earlier (parts_of Latch ss)
  latch_fit earlier [] = tt
  latch_fit earlier (a ∷ []) = in_fit earlier (latch_parts (a ∷ [])) (a ∷ []) (λ e s. (tt, (tt, (tt, (tt, (tt, tt))))))
  latch_fit earlier (a ∷ b ∷ []) = in_fit earlier (latch_parts (a ∷ b ∷ [])) (a ∷ b ∷ []) (λ e s. (tt, (tt, tt)))
  latch_fit earlier (a ∷ b ∷ c ∷ []) = in_fit earlier (latch_parts (a ∷ b ∷ c ∷ [])) (a ∷ b ∷ c ∷ []) (λ e s. (tt, (tt, (tt, tt))))
  latch_fit earlier (a ∷ b ∷ c ∷ d ∷ []) = in_fit earlier (latch_parts (a ∷ b ∷ c ∷ d ∷ [])) (a ∷ b ∷ c ∷ d ∷ []) (λ e s. (tt, (tt, (tt, (tt, tt)))))
  latch_fit earlier (a ∷ b ∷ c ∷ d ∷ f ∷ ss) = in_fit earlier (latch_parts (a ∷ b ∷ c ∷ d ∷ f ∷ ss)) (a ∷ b ∷ c ∷ d ∷ f ∷ ss) (λ e s. (tt, (tt, (tt, (tt, (tt, tt))))))

  -- the words behind a command: a title is short, and a cover has few inputs
  abbrev pub IsFitCommand : Command → List Spot → Type 0
  IsFitCommand Model [] = Unit {0}
  IsFitCommand Model (s ∷ ss) = length s.word ≤ 1024
  IsFitCommand Names ss = length ss ≤ 65537
  IsFitCommand k ss = Unit {0}

  command_fit : (k : Command) (ss : List Spot) → IsFitCommand k ss → AreFitParts 0 (parts_of k ss)
  command_fit Model [] fit = tt
  command_fit Model (s ∷ []) fit = (fit, tt)
  command_fit Model (s ∷ t ∷ ss) fit = (fit, extras_fit 1 (t ∷ ss))
  command_fit Inputs ss fit = list_fit Input refl 0 ss
  command_fit Outputs ss fit = list_fit Output refl 0 ss
  command_fit Clock ss fit = list_fit ClockInput refl 0 ss
  command_fit Names ss fit = names_fit 0 ss (omega (arith, fit))
  command_fit Latch ss fit = latch_fit 0 ss
  command_fit End ss fit = extras_fit 0 ss

  command_fine : (had : List Use) (s : Spot) (k : Command) (ss : List Spot) → AreFew sources names (had ++ filter_map use_of (parts_of k ss)) → IsFitCommand k ss → NoLimit (command_fault had s k ss)
  command_fine had s k ss few fit =
      or_else_fine (parts_fault had 0 (parts_of k ss)) (fault_if (nat_lt (length ss) (least_words k)) MissingWord s.place)
      (parts_fine had 0 (parts_of k ss) few (command_fit k ss fit)) (fault_if_fine (nat_lt (length ss) (least_words k)) MissingWord s.place)

-- ROWS
ending_fine : (first : Option Word) (s : Spot) → NoLimit (ending_fault first s)
ending_fine first s = or_else_fine (fault_if (not (is_ending s.word)) RowCharacter s.place) (fault_if (is_other_ending first s.word) MixedCover s.place) (fault_if_fine (not (is_ending s.word)) RowCharacter s.place) (fault_if_fine (is_other_ending first s.word) MixedCover s.place)

character_fine : (place : Place) (bs : Word) → NoLimit (character_fault place bs)
character_fine place [] = none_fine
character_fine place (b ∷ bs) = or_else_fine (fault_if (not (is_literal b)) RowCharacter place) (character_fault (next_column place) bs) (fault_if_fine (not (is_literal b)) RowCharacter place) (character_fine (next_column place) bs)

extra_fine : (ss : List Spot) → NoLimit (extra_fault ss)
extra_fine [] = none_fine
extra_fine (s ∷ ss) = fault_fine ExtraWord s.place

rest_fine : (first : Option Word) (begin : Place) (ss : List Spot) → NoLimit (rest_fault first begin ss)
rest_fine first begin [] = fault_fine MissingWord begin
rest_fine first begin (s ∷ ss) = or_else_fine (ending_fault first s) (extra_fault ss) (ending_fine first s) (extra_fine ss)

row_fine : (o : SaidCover) (s : Spot) (ss : List Spot) → NoLimit (row_fault o s ss)
row_fine o s ss = at (o.inputs == 0)
  where
    at : (b : Bool) → NoLimit (if b then rest_fault o.ending s.place (s ∷ ss) else or_else (fault_if (not (length s.word == o.inputs)) RowLength s.place) (or_else (character_fault s.place s.word) (rest_fault o.ending s.place ss)))
    at true = rest_fine o.ending s.place (s ∷ ss)
    at false = or_else_fine (fault_if (not (length s.word == o.inputs)) RowLength s.place) (or_else (character_fault s.place s.word) (rest_fault o.ending s.place ss)) (fault_if_fine (not (length s.word == o.inputs)) RowLength s.place)
        (or_else_fine (character_fault s.place s.word) (rest_fault o.ending s.place ss) (character_fine s.place s.word) (rest_fine o.ending s.place ss))

row_in_fine : (o : Option SaidCover) (s : Spot) (ss : List Spot) → NoLimit (row_fault_in o s ss)
row_in_fine None s ss = fault_fine RowOutsideCover s.place
row_in_fine (Some o) s ss = row_fine o s ss

-- LINES
flaw_fine : (o : Option Flaw) → NoLimit (flaw_fault o)
flaw_fine None = none_fine
flaw_fine (Some (BadByteAt place)) = fault_fine BadByte place
flaw_fine (Some (OpenJoinAt place)) = fault_fine OpenJoin place

unknown_fine : (b : Bool) (s : Spot) → NoLimit (if b then fault Unsupported s.place else fault UnknownCommand s.place)
unknown_fine true s = fault_fine Unsupported s.place
unknown_fine false s = fault_fine UnknownCommand s.place

-- a `.names` has few words behind it
abbrev pub IsFitLine : Line → Type 0
IsFitLine l = begins_with (codes ".names") l ≡ true → length (words_after l) ≤ 65537

abbrev pub AreFitLines : List Line → Type 0
AreFitLines [] = Unit {0}
AreFitLines (l ∷ ls) = IsFitLine l × AreFitLines ls

pub spelled_length : (ss : List Spot) → length (map (λ (s : Spot). s.word) ss) ≡ length ss
spelled_length [] = refl
spelled_length (s ∷ ss) = ap suc (spelled_length ss)

module _ (sources names : List Word) (few_sources : length sources ≤ 1024) (few_names : length names ≤ 131072) where
  -- a command whose words are fit
  known_fine : (had : List Use) (s : Spot) (ss : List Spot) (k : Command) → command_of s.word ≡ Some k → AreFew sources names (had ++ uses_of (s ∷ ss)) → IsFitCommand sources names few_sources few_names k ss → NoLimit (command_fault had s k ss)
  known_fine had s ss k h few fit = command_fine sources names few_sources few_names had s k ss (subst (λ (us : List Use). AreFew sources names (had ++ us)) (uses_case s ss k h) few) fit

  dotted_fine : (had : List Use) (s : Spot) (ss : List Spot) (o : Option Command) → command_of s.word ≡ o → AreFew sources names (had ++ uses_of (s ∷ ss)) → IsFitLine (s.word ∷ map (λ (t : Spot). t.word) ss) → NoLimit (dotted_fault had s ss o)
  dotted_fine had s ss None h few fit = unknown_fine (is_among unsupported_words s.word) s
  dotted_fine had s ss (Some Model) h few fit = fault_fine Unsupported s.place
  dotted_fine had s ss (Some Inputs) h few fit = known_fine had s ss Inputs h few tt
  dotted_fine had s ss (Some Outputs) h few fit = known_fine had s ss Outputs h few tt
  dotted_fine had s ss (Some Clock) h few fit = known_fine had s ss Clock h few tt
  dotted_fine had s ss (Some Names) h few fit =
      let most : length (map (λ (t : Spot). t.word) ss) ≤ 65537 = fit (ap (is_word (codes ".names")) (command_word s.word Names h) ∙ is_word-same (codes ".names")) in
      known_fine had s ss Names h few (subst (λ (n : ℕ). n ≤ 65537) (spelled_length ss) most)
  dotted_fine had s ss (Some Latch) h few fit = known_fine had s ss Latch h few tt
  dotted_fine had s ss (Some End) h few fit = known_fine had s ss End h few tt

  words_fine : (said : Said) (s : Spot) (ss : List Spot) → said.began ≡ true → AreFew sources names (said.uses ++ uses_of (s ∷ ss)) → IsFitLine (s.word ∷ map (λ (t : Spot). t.word) ss) → NoLimit (words_fault said (s ∷ ss))
  words_fine said s ss b few fit = at said.ended refl
    where
      at : (t : Bool) → said.ended ≡ t → NoLimit (words_fault said (s ∷ ss))
      at true e = rw e (fault_fine AfterEnd s.place)
      at false e = rw (e, b) (by (is_dotted s.word))
        where
          by : (t : Bool) → NoLimit (if t then dotted_fault said.uses s ss (command_of s.word) else row_fault_in said.cover s ss)
          by true = dotted_fine said.uses s ss (command_of s.word) refl few fit
          by false = row_in_fine said.cover s ss

  lines_fine : (said : Said) (ls : List Logical) → said.began ≡ true → AreFew sources names (said.uses ++ all_uses ls) → AreFitLines (lines_in ls) → NoLimit (lines_fault said ls)
  lines_fine said [] b few fit = fault_if_fine (not said.began) NoModel (record { line = 1; column = 1 })
  lines_fine said (l ∷ ls) b few fit = at l.tokens refl (λ more. lines_fine more ls)
    where
      at : (ts : List Spot) → l.tokens ≡ ts → ((more : Said) → more.began ≡ true → AreFew sources names (more.uses ++ all_uses ls) → AreFitLines (lines_in ls) → NoLimit (lines_fault more ls)) → NoLimit (lines_fault said (l ∷ ls))
      at [] e ih =
          let more : AreFew sources names (said.uses ++ all_uses ls) = rw e at few in
          let rest : AreFitLines (lines_in ls) = rw e at fit in
          rw e (or_else_fine (flaw_fault l.flaw) (lines_fault said ls) (flaw_fine l.flaw) (ih said b more rest))
      at (s ∷ ss) e ih =
          let had : AreFew sources names (said.uses ++ (uses_of (s ∷ ss) ++ all_uses ls)) = rw e at few in
          let more : AreFew sources names ((said.uses ++ uses_of (s ∷ ss)) ++ all_uses ls) = subst (AreFew sources names) (sym (append_assoc said.uses (uses_of (s ∷ ss)) (all_uses ls))) had in
          let both : AreFitLines ((s.word ∷ map (λ (t : Spot). t.word) ss) ∷ lines_in ls) = rw e at fit in
          rw e
          (or_else_fine (flaw_fault l.flaw) (or_else (words_fault said (s ∷ ss)) (lines_fault (after_line said (s ∷ ss)) ls)) (flaw_fine l.flaw)
          (or_else_fine (words_fault said (s ∷ ss)) (lines_fault (after_line said (s ∷ ss)) ls)
          (words_fine said s ss b (few_first sources names (said.uses ++ uses_of (s ∷ ss)) (all_uses ls) more) both.0)
          (ih (after_line said (s ∷ ss)) refl more both.1)))

  -- the line that begins the model
  title_fine : (s : Spot) (ss : List Spot) (name : Word) → map (λ (t : Spot). t.word) ss ≡ name ∷ [] → length name ≤ 1024 → AreFew sources names [] → NoLimit (words_fault nothing_said (s ∷ ss))
  title_fine s [] name e few none = cc
  title_fine s (t ∷ []) name e few none = at (is_word (codes ".model") s.word)
    where
      short : length t.word ≤ 1024
      short = subst (λ (w : Word). length w ≤ 1024) (sym (ap first_of e)) few
        where
          first_of : List Word → Word
          first_of [] = []
          first_of (w ∷ ws) = w

      at : (b : Bool) → NoLimit (if b then command_fault [] s Model (t ∷ []) else fault NoModel s.place)
      at true = command_fine sources names few_sources few_names [] s Model (t ∷ []) none short
      at false = fault_fine NoModel s.place
  title_fine s (t ∷ u ∷ ss) name e few none = cc

  pub text_fine : (ls : List Logical) (name : Word) (body : List Line) → lines_in ls ≡ (codes ".model" ∷ name ∷ []) ∷ body → length name ≤ 1024 → AreFitLines body → AreFew sources names (all_uses ls) → NoLimit (lines_fault nothing_said ls)
  text_fine [] name body e short fit few = cc
  text_fine (l ∷ ls) name body e short fit few = at l.tokens refl (λ rest more. text_fine ls name body rest short fit more)
    where
      at : (ts : List Spot) → l.tokens ≡ ts → (lines_in ls ≡ (codes ".model" ∷ name ∷ []) ∷ body → AreFew sources names (all_uses ls) → NoLimit (lines_fault nothing_said ls)) → NoLimit (lines_fault nothing_said (l ∷ ls))
      at [] h ih =
          let more : AreFew sources names (all_uses ls) = rw h at few in
          let rest : lines_in ls ≡ (codes ".model" ∷ name ∷ []) ∷ body = rw h at e in
          rw h (or_else_fine (flaw_fault l.flaw) (lines_fault nothing_said ls) (flaw_fine l.flaw) (ih rest more))
      at (s ∷ ss) h ih =
          let all : AreFew sources names (uses_of (s ∷ ss) ++ all_uses ls) = rw h at few in
          let whole : (s.word ∷ map (λ (t : Spot). t.word) ss) ∷ lines_in ls ≡ (codes ".model" ∷ name ∷ []) ∷ body = rw h at e in
          let title : map (λ (t : Spot). t.word) ss ≡ name ∷ [] = ap (λ (xs : List Line). words_after (head_in xs)) whole in
          let rest : AreFitLines (lines_in ls) = subst AreFitLines (sym (ap tail_in whole)) fit in
          rw h
          (or_else_fine (flaw_fault l.flaw) (or_else (words_fault nothing_said (s ∷ ss)) (lines_fault (after_line nothing_said (s ∷ ss)) ls)) (flaw_fine l.flaw)
          (or_else_fine (words_fault nothing_said (s ∷ ss)) (lines_fault (after_line nothing_said (s ∷ ss)) ls)
          (title_fine s ss name title short (few_first sources names [] (uses_of (s ∷ ss) ++ all_uses ls) all))
          (lines_fine (after_line nothing_said (s ∷ ss)) ls refl all rest)))
        where
          head_in : List Line → Line
          head_in [] = []
          head_in (x ∷ xs) = x

          tail_in : List Line → List Line
          tail_in [] = []
          tail_in (x ∷ xs) = xs
