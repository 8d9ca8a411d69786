-- What the whole text says.
use Rattle.std.proofs.Common.{◌≡◌, ℕ, zero, suc, List, [], ◌∷◌, ◌++◌, map, filter, length, cond, Bool, true, false, not, inl, inr, refl, sym, ◌∙◌, ap, subst, Option, None, Some}
use Rattle.std.specs.Prelude.{◌⊎◌, if◌then◌else◌, codes, position, replicate, nat_lt}
use Rattle.std.specs.List.{cons_option, filter_map, position_or_len}
use Rattle.std.specs.Option.{option_map}
use Rattle.rm_base.specs.declared.numbers.Place.{Place}
use Rattle.rm_model.specs.Words.{is_word}
use Rattle.rm_model.specs.Value.{IsRanked, source_names, observed_names}
use Rattle.rm_model.specs.WellFormed.{driven_names, is_distinct, IsWellFormed}
use Rattle.rm_model.specs.Ranks.{cover_of, rank_above, rank_by, ranks_below, ranks_of, highest, first_without_rank}
use Rattle.rm_model.specs.declared.parts.Cover.{Cover}
use Rattle.rm_model.specs.declared.parts.Model.{Model}
use Rattle.std.proofs.Common.{◌<◌, ◌≤◌, ◌+◌, ◌*◌, arith}
use Rattle.std.specs.Prelude.{is_none}
use Rattle.std.proofs.lemmas.Bool.{lt-ltb, le-ltb, ltb-true, ltb-false}
use Rattle.std.proofs.lemmas.List.{length-map}
use Rattle.blif_lines.specs.Layout.{Spot, Logical, words_in, has_words, layout, lines_of}
use Rattle.blif_format.specs.Text.{cover_words}
use Rattle.blif_format.specs.Grammar.{before, is_dotted, names_lines, before_end, Reads}
use Rattle.blif_format.specs.FirstFault.{fault, Said, nothing_said, after_line, or_else, flaw_fault, words_fault, lines_fault, said_by, undriven_fault, rank_fault, first_fault, first_unranked, cover_in, cover_names, bare_model}
use Rattle.blif_format.specs.declared.refusal.FaultKind.TheVariants.{NoModel, NoRank}
use Rattle.blif_format.specs.declared.refusal.ReadRefusal.{ReadRefusal}
use Rattle.blif_format.specs.declared.refusal.ReadRefusal.TheVariants.{Fault, Limit, NoMemory}
use Rattle.rm_model.specs.Size.{covers_weight}
use Rattle.blif_reader.specs.Meant.{IsRefusal}
use Rattle.blif_reader.specs.Inner.Drafts.{all_covers, Begins, Ends, IsDraft, model_in}
use Rattle.blif_reader.specs.Inner.Progress.{bare_cover, IsRead}
use Rattle.blif_reader.specs.Inner.Ranked.{fault_at, rank_found}
use Rattle.blif_reader.specs.declared.check.Checker.{Checker}
use Rattle.blif_reader.specs.declared.draft.Draft.{Draft}
use Rattle.blif_reader.proofs.RowLaws.{first_none, second_none}
use Rattle.blif_reader.proofs.NameLaws.{all_uses}
use Rattle.blif_reader.proofs.ExistLaws.{draft_exists}
use Rattle.blif_reader.proofs.TokenLaws.{line_bytes, text_size}
use Rattle.blif_reader.proofs.SizeLaws.{sources_small, observed_small, covers_small, weight_small}
use Rattle.blif_reader.proofs.WholeLaws.{IsSound, sound, well_formed}
use Rattle.std.specs.Prelude.{slice_get}
use Rattle.rm_base.proofs.Public.{map_pointwise}
use Rattle.rm_base.specs.Words.{Word}

-- the first place without rank
abbrev first_gap : List (Option ℕ) → Option ℕ
first_gap [] = None
first_gap (r ∷ rs) = cond (is_none r) (Some 0) (option_map (λ k. suc k) (first_gap rs))

position-step : (b : Bool) (n l : ℕ) → cond (nat_lt (cond (not b) (1 + n) 0) (suc l)) (Some (cond (not b) (1 + n) 0)) None ≡ cond b (Some 0) (option_map (λ k. suc k) (cond (nat_lt n l) (Some n) None))
position-step true n l = let first : nat_lt 0 (suc l) ≡ true = lt-ltb 0 (suc l) (omega arith) in rw first refl
position-step false n l = at (nat_lt n l) refl
  where
    at : (t : Bool) → nat_lt n l ≡ t → cond (nat_lt (1 + n) (suc l)) (Some (1 + n)) None ≡ option_map (λ k. suc k) (cond (nat_lt n l) (Some n) None)
    at true e = let less : n < l = ltb-true n l e in let next : nat_lt (1 + n) (suc l) ≡ true = lt-ltb (1 + n) (suc l) (omega arith) in rw (e, next) (ap Some (omega arith))
    at false e = let most : l ≤ n = ltb-false n l e in let next : nat_lt (1 + n) (suc l) ≡ false = le-ltb (1 + n) (suc l) (omega arith) in rw (e, next) refl

gap_position : (rs : List (Option ℕ)) → position is_none rs ≡ first_gap rs
gap_position [] = refl
gap_position (r ∷ rs) = position-step (is_none r) (position_or_len is_none rs) (length rs) ∙ ap (λ (o : Option ℕ). cond (is_none r) (Some 0) (option_map (λ k. suc k) o)) (gap_position rs)

next_fault : (p : Place) (ps : List Place) (o : Option ℕ) → fault_at (p ∷ ps) (option_map (λ k. suc k) o) ≡ fault_at ps o
next_fault p ps None = refl
next_fault p ps (Some k) = refl

none_left : (o : Option ℕ) → fault_at [] o ≡ None
none_left None = refl
none_left (Some k) = refl

first_fault_at : (ps : List Place) (rs : List (Option ℕ)) → first_unranked ps rs ≡ fault_at ps (first_gap rs)
first_fault_at [] rs = sym (none_left (first_gap rs))
first_fault_at (p ∷ ps) [] = refl
first_fault_at (p ∷ ps) (None ∷ rs) = refl
first_fault_at (p ∷ ps) (Some n ∷ rs) = first_fault_at ps rs ∙ sym (next_fault p ps (first_gap rs))

-- a cover's rows don't count for ranks
abbrev strip : Cover → Cover
strip c = record { inputs = c.inputs; output = c.output; on = true; rows = [] }

names_strip : (xs : List Word) (x : Word) → cover_names (xs ++ x ∷ []) ≡ record { inputs = xs; output = x; on = true; rows = [] }
names_strip [] x = refl
names_strip (y ∷ []) x = refl
names_strip (y ∷ z ∷ zs) x = ap (λ (c : Cover). record c { inputs = y ∷ c.inputs }) (names_strip (z ∷ zs) x)

bare_strip : (cs : List Cover) → map bare_cover (map cover_words cs) ≡ map strip cs
bare_strip [] = refl
bare_strip (c ∷ cs) = ap (λ (d : Cover). d ∷ map bare_cover (map cover_words cs)) (names_strip c.inputs c.output) ∙ ap (λ (ds : List Cover). strip c ∷ ds) (bare_strip cs)

cover_strip : (cs : List Cover) (x : Word) → cover_of (map strip cs) x ≡ cover_of cs x
cover_strip [] x = refl
cover_strip (c ∷ cs) x = ap (λ (o : Option ℕ). if is_word x c.output then Some 0 else option_map (λ k. suc k) o) (cover_strip cs x)

rank_strip : (m : Model) (ranks : List (Option ℕ)) (c : Cover) → rank_by (bare_model (map strip m.covers)) ranks (strip c) ≡ rank_by m ranks c
rank_strip m ranks c = ap highest (map_pointwise (λ (x : Word). rank_above ranks (cover_of (map strip m.covers) x)) (λ (x : Word). rank_above ranks (cover_of m.covers x)) (λ x. ap (rank_above ranks) (cover_strip m.covers x)) c.inputs)

map_strip : (m : Model) (ranks : List (Option ℕ)) (cs : List Cover) → map (rank_by (bare_model (map strip m.covers)) ranks) (map strip cs) ≡ map (rank_by m ranks) cs
map_strip m ranks [] = refl
map_strip m ranks (c ∷ cs) = ap (λ (r : Option ℕ). r ∷ map (rank_by (bare_model (map strip m.covers)) ranks) (map strip cs)) (rank_strip m ranks c) ∙ ap (λ (rs : List (Option ℕ)). rank_by m ranks c ∷ rs) (map_strip m ranks cs)

length_strip : (cs : List Cover) → length (map strip cs) ≡ length cs
length_strip [] = refl
length_strip (c ∷ cs) = ap suc (length_strip cs)

below_strip : (n : ℕ) (m : Model) → ranks_below n (bare_model (map strip m.covers)) ≡ ranks_below n m
below_strip zero m = ap (λ (k : ℕ). replicate k None) (length_strip m.covers)
below_strip (suc n) m = ap (λ (rs : List (Option ℕ)). map (rank_by (bare_model (map strip m.covers)) rs) (map strip m.covers)) (below_strip n m) ∙ map_strip m (ranks_below n m) m.covers

ranks_strip : (m : Model) → ranks_of (bare_model (map strip m.covers)) ≡ ranks_of m
ranks_strip m = ap (λ (k : ℕ). ranks_below k (bare_model (map strip m.covers))) (length_strip m.covers) ∙ below_strip (length m.covers) m

-- the fault of ranks is found
pub rank_is : (text : List ℕ) (said : Said) (c : Checker) (d : Draft) (places : List Place) → IsRead text said c d places → rank_fault (filter_map cover_in (layout text)) ≡ rank_found (model_in d) places
rank_is text said c d places r =
    let covers : map (λ (e : Place × Cover). e.1) (filter_map cover_in (layout text)) ≡ map strip (all_covers d) = r.covers_are ∙ ap (map bare_cover) r.drafted.covers ∙ bare_strip (all_covers d) in
    ap (λ (ps : List Place). first_unranked ps (ranks_of (bare_model (map (λ (e : Place × Cover). e.1) (filter_map cover_in (layout text)))))) r.places_are
    ∙ ap (λ (cs : List Cover). first_unranked places (ranks_of (bare_model cs))) covers
    ∙ ap (first_unranked places) (ranks_strip (model_in d))
    ∙ first_fault_at places (ranks_of (model_in d))
    ∙ ap (fault_at places) (sym (gap_position (ranks_of (model_in d))))

-- the faults of the text, one after another
pub fault_is : (text : List ℕ) (said : Said) (c : Checker) (d : Draft) (places : List Place) → IsRead text said c d places → lines_fault nothing_said (layout text) ≡ None → undriven_fault said.uses ≡ None → first_fault text ≡ rank_found (model_in d) places
fault_is text said c d places r none driven =
    ap (λ (o : Option ReadRefusal). or_else o (or_else (undriven_fault (said_by nothing_said (layout text)).uses) (rank_fault (filter_map cover_in (layout text))))) none
    ∙ ap (λ (s : Said). or_else (undriven_fault s.uses) (rank_fault (filter_map cover_in (layout text)))) r.uses
    ∙ ap (λ (o : Option ReadRefusal). or_else o (rank_fault (filter_map cover_in (layout text)))) driven
    ∙ rank_is text said c d places r

pub undriven_first : (text : List ℕ) (said : Said) (c : Checker) (d : Draft) (places : List Place) (e : ReadRefusal) → IsRead text said c d places → lines_fault nothing_said (layout text) ≡ None → undriven_fault said.uses ≡ Some e → first_fault text ≡ Some e
undriven_first text said c d places e r none wrong =
    ap (λ (o : Option ReadRefusal). or_else o (or_else (undriven_fault (said_by nothing_said (layout text)).uses) (rank_fault (filter_map cover_in (layout text))))) none
    ∙ ap (λ (s : Said). or_else (undriven_fault s.uses) (rank_fault (filter_map cover_in (layout text)))) r.uses
    ∙ ap (λ (o : Option ReadRefusal). or_else o (rank_fault (filter_map cover_in (layout text)))) wrong

pub lines_first : (text : List ℕ) (e : ReadRefusal) → IsRefusal e (lines_fault nothing_said (layout text)) → IsRefusal e (first_fault text)
lines_first text NoMemory h = tt
lines_first text (Fault kind place) h = ap (λ (o : Option ReadRefusal). or_else o (or_else (undriven_fault (said_by nothing_said (layout text)).uses) (rank_fault (filter_map cover_in (layout text))))) h
lines_first text (Limit quantity count place) h = ap (λ (o : Option ReadRefusal). or_else o (or_else (undriven_fault (said_by nothing_said (layout text)).uses) (rank_fault (filter_map cover_in (layout text))))) h

-- the model is read
pub reads : (text : List ℕ) (said : Said) (d : Draft) → IsDraft said (lines_of text) d → said.began ≡ true → IsWellFormed (model_in d) → IsRanked (model_in d) → Reads (lines_of text) (model_in d)
reads text said d i began formed ranked =
    record {
      first = subst (λ (t : Bool). Begins t (lines_of text) d.name) began i.begin;
      ending = ending said.ended refl i.ending;
      commands = i.commands;
      inputs = i.inputs;
      outputs = i.outputs;
      clocks = i.clocks;
      latches = i.latches;
      covers = i.covers;
      well_formed = formed;
      ranked = ranked;
    }
  where
    ending : (t : Bool) → said.ended ≡ t → Ends said.ended (lines_of text) → (lines_of text ≡ before_end (lines_of text)) ⊎ (lines_of text ≡ before_end (lines_of text) ++ (codes ".end" ∷ []) ∷ [])
    ending true e h = inr (subst (λ (t : Bool). Ends t (lines_of text)) e h)
    ending false e h = inl (sym (subst (λ (t : Bool). Ends t (lines_of text)) e h))

-- WHAT IS KNOWN OF THE MODEL
pub began_is : (text : List ℕ) (said : Said) (c : Checker) (d : Draft) (places : List Place) → IsRead text said c d places → c.began ≡ true → said.began ≡ true
began_is text said c d places r e = r.checked.began ∙ e

pub is_formed : (text : List ℕ) (c : Checker) (d : Draft) (places : List Place) → IsRead text (said_by nothing_said (layout text)) c d places → lines_fault nothing_said (layout text) ≡ None → undriven_fault (said_by nothing_said (layout text)).uses ≡ None → (said_by nothing_said (layout text)).began ≡ true → IsWellFormed (model_in d)
is_formed text c d places r none driven began = well_formed text (said_by nothing_said (layout text)) d none driven began r.drafted

-- each cover has a place
pub are_placed : (text : List ℕ) (said : Said) (c : Checker) (d : Draft) (places : List Place) → IsRead text said c d places → length places ≡ length (model_in d).covers
are_placed text said c d places r =
    ap length (sym r.places_are)
    ∙ length-map (filter_map cover_in (layout text)) (λ (e : Place × Cover). e.0)
    ∙ sym (length-map (filter_map cover_in (layout text)) (λ (e : Place × Cover). e.1))
    ∙ ap length (r.covers_are ∙ ap (map bare_cover) r.drafted.covers)
    ∙ length-map (map cover_words (all_covers d)) bare_cover
    ∙ length-map (all_covers d) cover_words

pub few_covers : (text : List ℕ) (said : Said) (d : Draft) → IsDraft said (lines_of text) d → length (all_covers d) ≤ length text
few_covers text said d is =
    let few : length (all_covers d) ≤ line_bytes (lines_of text) = covers_small (lines_of text) (all_covers d) is.covers in
    let most : line_bytes (lines_of text) ≤ length text = text_size text in omega arith

pub small_weight : (text : List ℕ) (said : Said) (d : Draft) → IsDraft said (lines_of text) d → covers_weight (all_covers d) ≤ 2 * length text
small_weight text said d is =
    let few : covers_weight (all_covers d) ≤ 2 * line_bytes (lines_of text) = weight_small (lines_of text) (all_covers d) is.covers in
    let most : line_bytes (lines_of text) ≤ length text = text_size text in omega arith

pub few_sources : (text : List ℕ) (said : Said) (d : Draft) → lines_fault nothing_said (layout text) ≡ None → IsDraft said (lines_of text) d → length (source_names (model_in d)) ≤ 1024
few_sources text said d none is = let s : IsSound text d = sound text said d none is in sources_small (all_uses (layout text)) (model_in d) s.names s.clean

pub few_observed : (text : List ℕ) (said : Said) (d : Draft) → lines_fault nothing_said (layout text) ≡ None → IsDraft said (lines_of text) d → length (observed_names (model_in d)) ≤ 4096
few_observed text said d none is = let s : IsSound text d = sound text said d none is in observed_small (all_uses (layout text)) (model_in d) s.names s.clean

-- A TEXT WITHOUT FAULT
no_unranked : (ps : List Place) (rs : List (Option ℕ)) → length rs ≤ length ps → first_unranked ps rs ≡ None → first_gap rs ≡ None
no_unranked [] [] h e = refl
no_unranked [] (r ∷ rs) h e = absurd (omega arith)
no_unranked (p ∷ ps) [] h e = refl
no_unranked (p ∷ ps) (None ∷ rs) h e = let wrong : Some (Fault NoRank p) ≡ None = e in cc
no_unranked (p ∷ ps) (Some n ∷ rs) h e = ap (option_map (λ k. suc k)) (no_unranked ps rs (omega arith) e)

covers_in_lines : (ls : List Logical) → map (λ (e : Place × Cover). e.1) (filter_map cover_in ls) ≡ map bare_cover (names_lines (filter has_words (map words_in ls)))
covers_in_lines [] = refl
covers_in_lines (l ∷ ls) = at l.tokens refl (covers_in_lines ls)
  where
    at : (ts : List Spot) → l.tokens ≡ ts → map (λ (e : Place × Cover). e.1) (filter_map cover_in ls) ≡ map bare_cover (names_lines (filter has_words (map words_in ls))) → map (λ (e : Place × Cover). e.1) (filter_map cover_in (l ∷ ls)) ≡ map bare_cover (names_lines (filter has_words (map words_in (l ∷ ls))))
    at [] e ih = rw e ih
    at (s ∷ ss) e ih = rw e (by (is_word (codes ".names") s.word) refl)
      where
        by : (b : Bool) → is_word (codes ".names") s.word ≡ b → map (λ (e : Place × Cover). e.1) (cons_option (if b then Some (s.place, cover_names (map (λ (t : Spot). t.word) ss)) else None) (filter_map cover_in ls)) ≡ map bare_cover (if b then (map (λ (t : Spot). t.word) ss, before is_dotted (filter has_words (map words_in ls))) ∷ names_lines (filter has_words (map words_in ls)) else names_lines (filter has_words (map words_in ls)))
        by true i = ap (λ (cs : List Cover). cover_names (map (λ (t : Spot). t.word) ss) ∷ cs) ih
        by false i = ih

began_by : (said : Said) (ls : List Logical) → lines_fault said ls ≡ None → (said_by said ls).began ≡ true
began_by said [] e = at said.began refl
  where
    at : (t : Bool) → said.began ≡ t → said.began ≡ true
    at true h = h
    at false h = let wrong : Some (Fault NoModel (record { line = 1; column = 1 })) ≡ None = rw h at e in cc
began_by said (l ∷ ls) e = began_by (after_line said l.tokens) ls (second_none (words_fault said l.tokens) (lines_fault (after_line said l.tokens) ls) (second_none (flaw_fault l.flaw) (or_else (words_fault said l.tokens) (lines_fault (after_line said l.tokens) ls)) e))

no_rank_missing : (text : List ℕ) (d : Draft) → names_lines (lines_of text) ≡ map cover_words (all_covers d) → length (ranks_of (model_in d)) ≡ length (all_covers d) → rank_fault (filter_map cover_in (layout text)) ≡ None → first_without_rank (model_in d) ≡ None
no_rank_missing text d covers long none =
    let same : map (λ (e : Place × Cover). e.1) (filter_map cover_in (layout text)) ≡ map strip (all_covers d) = covers_in_lines (layout text) ∙ ap (map bare_cover) covers ∙ bare_strip (all_covers d) in
    let places : length (map (λ (e : Place × Cover). e.0) (filter_map cover_in (layout text))) ≡ length (all_covers d) =
    length-map (filter_map cover_in (layout text)) (λ (e : Place × Cover). e.0) ∙ sym (length-map (filter_map cover_in (layout text)) (λ (e : Place × Cover). e.1)) ∙ ap length same ∙ length_strip (all_covers d) in
    let found : first_unranked (map (λ (e : Place × Cover). e.0) (filter_map cover_in (layout text))) (ranks_of (model_in d)) ≡ None =
    ap (first_unranked (map (λ (e : Place × Cover). e.0) (filter_map cover_in (layout text)))) (sym (ranks_strip (model_in d)) ∙ ap (λ (cs : List Cover). ranks_of (bare_model cs)) (sym same)) ∙ none in
    gap_position (ranks_of (model_in d)) ∙ no_unranked (map (λ (e : Place × Cover). e.0) (filter_map cover_in (layout text))) (ranks_of (model_in d)) (omega arith) found

pub text_reads : ((m : Model) → length (ranks_of m) ≡ length m.covers) → ((m : Model) → is_distinct (driven_names m) ≡ true → first_without_rank m ≡ None → IsRanked m) → (text : List ℕ) → first_fault text ≡ None → (m : Model) × Reads (lines_of text) m
text_reads long ranked text none =
    let lines : lines_fault nothing_said (layout text) ≡ None = first_none (lines_fault nothing_said (layout text)) (or_else (undriven_fault (said_by nothing_said (layout text)).uses) (rank_fault (filter_map cover_in (layout text)))) none in
    let later : or_else (undriven_fault (said_by nothing_said (layout text)).uses) (rank_fault (filter_map cover_in (layout text))) ≡ None = second_none (lines_fault nothing_said (layout text)) (or_else (undriven_fault (said_by nothing_said (layout text)).uses) (rank_fault (filter_map cover_in (layout text)))) none in
    let driven : undriven_fault (said_by nothing_said (layout text)).uses ≡ None = first_none (undriven_fault (said_by nothing_said (layout text)).uses) (rank_fault (filter_map cover_in (layout text))) later in
    let drafted = draft_exists (layout text) lines in
    let began : (said_by nothing_said (layout text)).began ≡ true = began_by nothing_said (layout text) lines in
    let formed : IsWellFormed (model_in drafted.0) = well_formed text (said_by nothing_said (layout text)) drafted.0 lines driven began drafted.1 in
    let ranks : first_without_rank (model_in drafted.0) ≡ None = no_rank_missing text drafted.0 drafted.1.covers (long (model_in drafted.0)) (second_none (undriven_fault (said_by nothing_said (layout text)).uses) (rank_fault (filter_map cover_in (layout text))) later) in
    (model_in drafted.0, reads text (said_by nothing_said (layout text)) drafted.0 drafted.1 began formed (ranked (model_in drafted.0) formed.driven_once ranks))

-- THE FIRST COVER WITHOUT RANK
pub unranked_at : (ps : List Place) (rs : List (Option ℕ)) (k : ℕ) (p : Place) → position is_none rs ≡ Some k → slice_get ps k ≡ Some p → first_unranked ps rs ≡ fault NoRank p
unranked_at ps rs k p e at = first_fault_at ps rs ∙ ap (fault_at ps) (sym (gap_position rs) ∙ e) ∙ ap (option_map (λ (place : Place). Fault NoRank place)) at

pub all_ranked : (ps : List Place) (xs : List ℕ) → first_unranked ps (map (λ (x : ℕ). Some x) xs) ≡ None
all_ranked [] xs = refl
all_ranked (p ∷ ps) [] = refl
all_ranked (p ∷ ps) (x ∷ xs) = all_ranked ps xs

pub none_unranked : (xs : List ℕ) → position is_none (map (λ (x : ℕ). Some x) xs) ≡ None
none_unranked xs = gap_position (map (λ (x : ℕ). Some x) xs) ∙ go xs
  where
    go : (xs : List ℕ) → first_gap (map (λ (x : ℕ). Some x) xs) ≡ None
    go [] = refl
    go (x ∷ xs) = ap (option_map (λ k. suc k)) (go xs)
