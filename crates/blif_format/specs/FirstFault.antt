-- The first fault of a text.
use Rattle.std.specs.Prelude.{◌==◌, ◌+◌, ◌-◌, ℕ, Bool, true, false, not, ◌&&◌, ◌||◌, nat_lt, List, [], ◌∷◌, ◌++◌, map, find, length, Option, None, Some, codes, if◌then◌else◌}
use Rattle.std.specs.List.{filter_map}
use Rattle.std.specs.Option.{option_map}
use Rattle.rm_base.specs.declared.numbers.Place.{Place}
use Rattle.rm_model.specs.Words.{is_word}
use Rattle.rm_model.specs.Value.{is_among}
use Rattle.rm_model.specs.Ranks.{ranks_of}
use Rattle.rm_model.specs.declared.parts.Cover.{Cover}
use Rattle.rm_model.specs.declared.parts.Model.{Model as CircuitModel}
use Rattle.blif_lines.specs.Layout.{Spot, Logical, Flaw, BadByteAt, OpenJoinAt, layout}
use Rattle.blif_format.specs.Uses.{command_of, parts_of, least_words, Use, use_of, uses_of, is_source_role, is_observed_role, is_driver, wants_driver, drives_twice, lists_twice, stands_in, names_in, distinct_count}
use Rattle.blif_format.specs.declared.words.Command.{Command}
use Rattle.blif_format.specs.declared.words.Command.TheVariants.{Model}
use Rattle.blif_format.specs.declared.words.Role.{Role}
use Rattle.blif_format.specs.declared.words.Role.TheVariants.{CoverInput}
use Rattle.blif_format.specs.declared.words.Part.{Part}
use Rattle.blif_format.specs.declared.words.Part.TheVariants.{Title, Name, LatchType, Init, Extra}
use Rattle.blif_format.specs.Unsupported.{unsupported_words}
use Rattle.blif_format.specs.declared.refusal.FaultKind.{FaultKind}
use Rattle.blif_format.specs.declared.refusal.FaultKind.TheVariants.{BadByte, OpenJoin, NoModel, Unsupported, UnknownCommand, MissingWord, ExtraWord, RowOutsideCover, RowLength, RowCharacter, MixedCover, BadLatchWord, DoubleDriven, DoubleOutput, AfterEnd, Undriven, NoRank}
use Rattle.blif_format.specs.declared.refusal.Quantity.{Quantity}
use Rattle.blif_format.specs.declared.refusal.Quantity.TheVariants.{Name as NameLength, Inputs, Sources, Observed, Signals}
use Rattle.blif_format.specs.declared.refusal.ReadRefusal.{ReadRefusal}
use Rattle.blif_format.specs.declared.refusal.ReadRefusal.TheVariants.{Fault, Limit}
use Rattle.rm_base.specs.Words.{Word}

abbrev pub or_else : Option ReadRefusal → Option ReadRefusal → Option ReadRefusal
or_else None other = other
or_else (Some refusal) other = Some refusal

abbrev pub fault : FaultKind → Place → Option ReadRefusal
fault kind place = Some (Fault kind place)

abbrev pub fault_if : Bool → FaultKind → Place → Option ReadRefusal
fault_if test kind place = if test then fault kind place else None

abbrev pub limit_if : Bool → Quantity → ℕ → Place → Option ReadRefusal
limit_if test quantity count place = if test then Some (Limit quantity count place) else None

-- NAMES

abbrev pub name_limit : Word → Place → Option ReadRefusal
name_limit name place = limit_if (nat_lt 1024 (length name)) NameLength (length name) place

abbrev pub is_cover_input : Role → Bool
is_cover_input CoverInput = true
is_cover_input role = false

-- so many different names, or so many entries, are more than the limit
abbrev pub is_over : ℕ → ℕ → Bool
is_over limit count = nat_lt limit count

-- a name after those that stand before it in the text, and behind `earlier` words of its own line
abbrev pub use_fault : List Use → ℕ → Use → Option ReadRefusal
use_fault had earlier this =
    let uses = had ++ this ∷ [] in
    let sources = distinct_count (names_in is_source_role uses) in
    let observed = length (names_in is_observed_role uses) in
    let signals = distinct_count (names_in (λ _. true) uses) in
    or_else (fault_if (stands_in drives_twice had this) DoubleDriven this.place)
    (or_else (fault_if (stands_in lists_twice had this) DoubleOutput this.place)
    (or_else (name_limit this.name this.place)
    (or_else (limit_if (is_cover_input this.role && nat_lt 65535 earlier) Inputs (earlier + 1) this.place)
    (or_else (limit_if (is_over 1024 sources) Sources sources this.place)
    (or_else (limit_if (is_over 4096 observed) Observed observed this.place)
    (limit_if (is_over 131072 signals) Signals signals this.place))))))

abbrev pub latch_types : List Word
latch_types = codes "fe" ∷ codes "re" ∷ codes "ah" ∷ codes "al" ∷ codes "as" ∷ []

abbrev pub init_values : List Word
init_values = codes "0" ∷ codes "1" ∷ codes "2" ∷ codes "3" ∷ []

abbrev pub use_fault_if : List Use → ℕ → Option Use → Option ReadRefusal
use_fault_if had earlier None = None
use_fault_if had earlier (Some this) = use_fault had earlier this

abbrev pub part_fault : List Use → ℕ → Part × Spot → Option ReadRefusal
part_fault had earlier (Title, s) = name_limit s.word s.place
part_fault had earlier (LatchType, s) = fault_if (not (is_among latch_types s.word)) BadLatchWord s.place
part_fault had earlier (Init, s) = fault_if (not (is_among init_values s.word)) BadLatchWord s.place
part_fault had earlier (Extra, s) = fault ExtraWord s.place
part_fault had earlier (Name role, s) = use_fault_if had earlier (use_of (Name role, s))

-- the first fault of words in their parts, from left to right
abbrev pub parts_fault : List Use → ℕ → List (Part × Spot) → Option ReadRefusal
parts_fault had earlier [] = None
parts_fault had earlier (p ∷ ps) =
    or_else (part_fault had earlier p) (parts_fault (had ++ filter_map use_of (p ∷ [])) (earlier + 1) ps)

-- ROWS

-- the cover to which a row may belong: its number of inputs, and the ending of its first row
pub record OpenCover : Type 0 where
  pub inputs : ℕ
  pub ending : Option Word

abbrev pub is_ending : Word → Bool
is_ending word = is_word (codes "0") word || is_word (codes "1") word

abbrev pub is_other_ending : Option Word → Word → Bool
is_other_ending None word = false
is_other_ending (Some first) word = not (is_word first word)

abbrev pub ending_fault : Option Word → Spot → Option ReadRefusal
ending_fault first s =
    or_else (fault_if (not (is_ending s.word)) RowCharacter s.place) (fault_if (is_other_ending first s.word) MixedCover s.place)

abbrev pub next_column : Place → Place
next_column place = record place { column = place.column + 1 }

abbrev pub is_literal : ℕ → Bool
is_literal b = (b == 48) || ((b == 49) || (b == 45))

abbrev pub character_fault : Place → Word → Option ReadRefusal
character_fault place [] = None
character_fault place (b ∷ bs) = or_else (fault_if (not (is_literal b)) RowCharacter place) (character_fault (next_column place) bs)

abbrev pub extra_fault : List Spot → Option ReadRefusal
extra_fault [] = None
extra_fault (s ∷ ss) = fault ExtraWord s.place

-- what comes behind the input part of a row
abbrev pub rest_fault : Option Word → Place → List Spot → Option ReadRefusal
rest_fault first begin [] = fault MissingWord begin
rest_fault first begin (s ∷ ss) = or_else (ending_fault first s) (extra_fault ss)

abbrev pub row_fault : OpenCover → Spot → List Spot → Option ReadRefusal
row_fault cover s ss =
    if cover.inputs == 0 then rest_fault cover.ending s.place (s ∷ ss)
    else or_else (fault_if (not (length s.word == cover.inputs)) RowLength s.place)
    (or_else (character_fault s.place s.word) (rest_fault cover.ending s.place ss))

abbrev pub row_fault_in : Option OpenCover → Spot → List Spot → Option ReadRefusal
row_fault_in None s ss = fault RowOutsideCover s.place
row_fault_in (Some cover) s ss = row_fault cover s ss

-- LINES

-- what the lines before say: whether the model has begun and has ended, the cover to which a row may belong, the names used
pub record Said : Type 0 where
  pub began : Bool
  pub ended : Bool
  pub cover : Option OpenCover
  pub uses : List Use

abbrev pub nothing_said : Said
nothing_said = record { began = false; ended = false; cover = None; uses = [] }

abbrev pub is_dotted : Word → Bool
is_dotted [] = false
is_dotted (b ∷ bs) = b == 46

abbrev pub command_fault : List Use → Spot → Command → List Spot → Option ReadRefusal
command_fault had s command ss =
    or_else (parts_fault had 0 (parts_of command ss)) (fault_if (nat_lt (length ss) (least_words command)) MissingWord s.place)

-- a line that begins with a dot, behind the first line
abbrev pub dotted_fault : List Use → Spot → List Spot → Option Command → Option ReadRefusal
dotted_fault had s ss None = if is_among unsupported_words s.word then fault Unsupported s.place else fault UnknownCommand s.place
dotted_fault had s ss (Some Model) = fault Unsupported s.place
dotted_fault had s ss (Some command) = command_fault had s command ss

abbrev pub first_line_fault : Spot → List Spot → Option ReadRefusal
first_line_fault s ss = if is_word (codes ".model") s.word then command_fault [] s Model ss else fault NoModel s.place

abbrev pub words_fault : Said → List Spot → Option ReadRefusal
words_fault said [] = None
words_fault said (s ∷ ss) =
    if said.ended then fault AfterEnd s.place
    else (if not said.began then first_line_fault s ss
    else (if is_dotted s.word then dotted_fault said.uses s ss (command_of s.word) else row_fault_in said.cover s ss))

abbrev pub last_word : List Spot → Option Word
last_word [] = None
last_word (s ∷ []) = Some s.word
last_word (s ∷ t ∷ ss) = last_word (t ∷ ss)

-- the first row's ending counts
abbrev pub with_row : List Spot → OpenCover → OpenCover
with_row spots cover = elim cover.ending [ None ↦ record cover { ending = last_word spots } | Some ending ↦ cover ]

abbrev pub cover_after : Option OpenCover → Spot → List Spot → Option OpenCover
cover_after cover s ss =
    if is_dotted s.word then (if is_word (codes ".names") s.word then Some (record { inputs = length ss - 1; ending = None }) else None)
    else option_map (with_row (s ∷ ss)) cover

abbrev pub after_line : Said → List Spot → Said
after_line said [] = said
after_line said (s ∷ ss) = record {
  began = true;
  ended = said.ended || is_word (codes ".end") s.word;
  cover = cover_after said.cover s ss;
  uses = said.uses ++ uses_of (s ∷ ss);
}

abbrev pub flaw_fault : Option Flaw → Option ReadRefusal
flaw_fault None = None
flaw_fault (Some (BadByteAt place)) = fault BadByte place
flaw_fault (Some (OpenJoinAt place)) = fault OpenJoin place

-- the first fault of the lines in order; a fault of a line's layout comes before its words
abbrev pub lines_fault : Said → List Logical → Option ReadRefusal
lines_fault said [] = fault_if (not said.began) NoModel (record { line = 1; column = 1 })
lines_fault said (l ∷ ls) =
    or_else (flaw_fault l.flaw) (or_else (words_fault said l.tokens) (lines_fault (after_line said l.tokens) ls))

-- THE WHOLE TEXT

abbrev pub said_by : Said → List Logical → Said
said_by said [] = said
said_by said (l ∷ ls) = said_by (after_line said l.tokens) ls

abbrev pub is_undriven : List Use → Use → Bool
is_undriven uses this = wants_driver this.role && not (is_among (names_in is_driver uses) this.name)

abbrev pub undriven_fault : List Use → Option ReadRefusal
undriven_fault uses = elim (find (is_undriven uses) uses) [ None ↦ None | Some this ↦ fault Undriven this.place ]

-- the place of each `.names`, and its cover without rows
abbrev pub cover_names : List Word → Cover
cover_names [] = record { inputs = []; output = []; on = true; rows = [] }
cover_names (x ∷ []) = record { inputs = []; output = x; on = true; rows = [] }
cover_names (x ∷ y ∷ xs) = let c = cover_names (y ∷ xs) in record c { inputs = x ∷ c.inputs }

abbrev pub cover_in : Logical → Option (Place × Cover)
cover_in l = cover_of_spots l.tokens
  where
    cover_of_spots : List Spot → Option (Place × Cover)
    cover_of_spots [] = None
    cover_of_spots (s ∷ ss) = if is_word (codes ".names") s.word then Some (s.place, cover_names (map (λ (t : Spot). t.word) ss)) else None

abbrev pub bare_model : List Cover → CircuitModel
bare_model covers = record { name = []; inputs = []; clocks = []; outputs = []; latches = []; covers = covers }

abbrev pub first_unranked : List Place → List (Option ℕ) → Option ReadRefusal
first_unranked [] ranks = None
first_unranked (p ∷ ps) [] = None
first_unranked (p ∷ ps) (None ∷ ranks) = fault NoRank p
first_unranked (p ∷ ps) (Some rank ∷ ranks) = first_unranked ps ranks

abbrev pub rank_fault : List (Place × Cover) → Option ReadRefusal
rank_fault covers = first_unranked (map (λ (e : Place × Cover). e.0) covers) (ranks_of (bare_model (map (λ (e : Place × Cover). e.1) covers)))

-- the faults of lines and the limits come first, then names without a driver, then covers without a rank
abbrev pub first_fault : List ℕ → Option ReadRefusal
first_fault text =
    or_else (lines_fault nothing_said (layout text))
    (or_else (undriven_fault (said_by nothing_said (layout text)).uses) (rank_fault (filter_map cover_in (layout text))))
