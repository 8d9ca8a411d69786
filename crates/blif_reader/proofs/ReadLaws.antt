-- How reading goes on.
use Rattle.std.proofs.Common.{◌≡◌, ◌<◌, ◌≤◌, ◌+◌, ◌-◌, ◌^◌, arith, take, drop, All, ℕ, suc, List, [], ◌∷◌, ◌++◌, map, filter, length, Bool, true, false, not, refl, sym, ◌∙◌, ap, subst, append_assoc, Option, None, Some, Result, Ok, Err}
use Rattle.std.specs.Prelude.{if◌then◌else◌, codes, OnOk, min}
use Rattle.std.proofs.lemmas.List.{append-nil, length-take, map-append}
use Rattle.std.proofs.Common.{length-drop}
use Rattle.std.proofs.lemmas.List.Elements.{All-head, All-tail}
use Rattle.std.specs.List.{filter_map, cons_option}
use Rattle.rm_base.specs.declared.numbers.Place.{Place}
use Rattle.rm_base.specs.declared.numbers.NoMemory.{NoMemory as Want}
use Rattle.rm_model.specs.Words.{is_word}
use Rattle.rm_model.specs.declared.parts.Cover.{Cover}
use Rattle.blif_lines.specs.Layout.{Spot, Flaw, Logical, layout, lines_of, words_in, has_words}
use Rattle.blif_lines.specs.Reading.{pending, spot_of, IsWithin, StandsFirst}
use Rattle.blif_lines.specs.declared.line.Token.{Token}
use Rattle.blif_format.specs.Text.{Line}
use Rattle.blif_format.specs.Grammar.{names_lines, begins_with, words_after}
use Rattle.blif_format.specs.Uses.{command_of}
use Rattle.blif_format.specs.declared.words.Command.{Command}
use Rattle.blif_format.specs.FirstFault.{Said, OpenCover as SaidCover, nothing_said, or_else, fault_if, flaw_fault, words_fault, after_line, lines_fault, said_by, cover_in, cover_names, row_fault}
use Rattle.blif_format.specs.declared.refusal.FaultKind.TheVariants.{NoModel}
use Rattle.blif_format.specs.declared.refusal.ReadRefusal.{ReadRefusal}
use Rattle.blif_format.specs.declared.refusal.ReadRefusal.TheVariants.{Fault, Limit, NoMemory}
use Rattle.blif_reader.specs.Lines.{words_at}
use Rattle.blif_reader.specs.Inner.Said.{IsSaid}
use Rattle.blif_reader.specs.Inner.Drafts.{IsDraft, IsKnown, Changes, CurrentIs, AddsRow}
use Rattle.blif_reader.specs.Inner.Progress.{bare_cover, Progress, IsRead, places_with}
use Rattle.blif_reader.specs.Meant.{IsRefusal}
use Rattle.blif_reader.specs.declared.check.Checker.{Checker}
use Rattle.blif_reader.specs.declared.draft.Draft.{Draft}
use Rattle.blif_reader.proofs.KnownLaws.{command_added, row_added}
use Rattle.blif_reader.proofs.TokenLaws.{word_bytes, line_bytes, text_size}
use Rattle.rm_base.specs.Words.{Word}

pub words_same : (text : List ℕ) (ws : List Token) → map (λ (t : Spot). t.word) (map (spot_of text) ws) ≡ words_at text ws
words_same text [] = refl
words_same text (w ∷ ws) = ap (λ (xs : List Word). (spot_of text w).word ∷ xs) (words_same text ws)

pub added_command : (r : Result (Unit {0}) Want) (text : List ℕ) (said : Said) (lines : List Line) (d e : Draft) (first : Token) (rest : List Token) (k : Command) → IsDraft said lines d → words_fault said (spot_of text first ∷ map (spot_of text) rest) ≡ None → command_of (spot_of text first).word ≡ Some k → (IsKnown k (words_at text rest) → OnOk r (Changes k (words_at text rest) d e)) → OnOk r (IsDraft (after_line said (spot_of text first ∷ map (spot_of text) rest)) (lines ++ ((spot_of text first).word ∷ words_at text rest) ∷ []) e)
added_command (Ok u) text said lines d e first rest k is none h f =
    subst (λ (ws : List Word). IsDraft (after_line said (spot_of text first ∷ map (spot_of text) rest)) (lines ++ ((spot_of text first).word ∷ ws) ∷ []) e) (words_same text rest)
    (command_added said lines d e (spot_of text first) (map (spot_of text) rest) k is none h (subst (λ (ws : List Word). IsKnown k ws → Changes k ws d e) (sym (words_same text rest)) f))
added_command (Err x) text said lines d e first rest k is none h f = tt

pub added_row : (r : Result (Unit {0}) Want) (text : List ℕ) (said : Said) (lines : List Line) (d e : Draft) (first : Token) (rest : List Token) → IsDraft said lines d → words_fault said (spot_of text first ∷ map (spot_of text) rest) ≡ None → command_of (spot_of text first).word ≡ None → ((o : SaidCover) → CurrentIs (Some o) d.current → row_fault o (spot_of text first) (map (spot_of text) rest) ≡ None → OnOk r (AddsRow (spot_of text first) (map (spot_of text) rest) o d e)) → OnOk r (IsDraft (after_line said (spot_of text first ∷ map (spot_of text) rest)) (lines ++ ((spot_of text first).word ∷ words_at text rest) ∷ []) e)
added_row (Ok u) text said lines d e first rest is none h f =
    subst (λ (ws : List Word). IsDraft (after_line said (spot_of text first ∷ map (spot_of text) rest)) (lines ++ ((spot_of text first).word ∷ ws) ∷ []) e) (words_same text rest)
    (row_added said lines d e (spot_of text first) (map (spot_of text) rest) is none h f)
added_row (Err x) text said lines d e first rest is none h f = tt

-- lines without tokens and flaw
pending_fault : (said : Said) (ls : List Logical) → lines_fault said ls ≡ lines_fault said (pending ls)
pending_fault said [] = refl
pending_fault said (l ∷ ls) = at l.tokens l.flaw refl refl (pending_fault said ls)
  where
    at : (ts : List Spot) (f : Option Flaw) → l.tokens ≡ ts → l.flaw ≡ f → lines_fault said ls ≡ lines_fault said (pending ls) → lines_fault said (l ∷ ls) ≡ lines_fault said (pending (l ∷ ls))
    at [] None e g ih = rw (e, g) ih
    at [] (Some f) e g ih = rw (e, g) refl
    at (t ∷ ts) f e g ih = rw e refl

pending_said : (said : Said) (ls : List Logical) → said_by said ls ≡ said_by said (pending ls)
pending_said said [] = refl
pending_said said (l ∷ ls) = at l.tokens l.flaw refl refl (pending_said said ls)
  where
    at : (ts : List Spot) (f : Option Flaw) → l.tokens ≡ ts → l.flaw ≡ f → said_by said ls ≡ said_by said (pending ls) → said_by said (l ∷ ls) ≡ said_by said (pending (l ∷ ls))
    at [] None e g ih = rw (e, g) ih
    at [] (Some f) e g ih = rw (e, g) refl
    at (t ∷ ts) f e g ih = rw e refl

pub pending_words : (ls : List Logical) → filter has_words (map words_in ls) ≡ filter has_words (map words_in (pending ls))
pending_words [] = refl
pending_words (l ∷ ls) = at l.tokens l.flaw refl refl (pending_words ls)
  where
    at : (ts : List Spot) (f : Option Flaw) → l.tokens ≡ ts → l.flaw ≡ f → filter has_words (map words_in ls) ≡ filter has_words (map words_in (pending ls)) → filter has_words (map words_in (l ∷ ls)) ≡ filter has_words (map words_in (pending (l ∷ ls)))
    at [] None e g ih = rw (e, g) ih
    at [] (Some f) e g ih = rw (e, g) refl
    at (t ∷ ts) f e g ih = rw e refl

pending_covers : (ls : List Logical) → filter_map cover_in ls ≡ filter_map cover_in (pending ls)
pending_covers [] = refl
pending_covers (l ∷ ls) = at l.tokens l.flaw refl refl (pending_covers ls)
  where
    at : (ts : List Spot) (f : Option Flaw) → l.tokens ≡ ts → l.flaw ≡ f → filter_map cover_in ls ≡ filter_map cover_in (pending ls) → filter_map cover_in (l ∷ ls) ≡ filter_map cover_in (pending (l ∷ ls))
    at [] None e g ih = rw (e, g) ih
    at [] (Some f) e g ih = rw (e, g) refl
    at (t ∷ ts) f e g ih = rw e refl

-- covers by their words alone
bare_names : (ls : List Line) (l : Line) → begins_with (codes ".names") l ≡ true → map bare_cover (names_lines (ls ++ l ∷ [])) ≡ map bare_cover (names_lines ls) ++ cover_names (words_after l) ∷ []
bare_names [] l e = rw e refl
bare_names (k ∷ ks) l e = at (begins_with (codes ".names") k) refl (bare_names ks l e)
  where
    at : (t : Bool) → begins_with (codes ".names") k ≡ t → map bare_cover (names_lines (ks ++ l ∷ [])) ≡ map bare_cover (names_lines ks) ++ cover_names (words_after l) ∷ [] → map bare_cover (names_lines ((k ∷ ks) ++ l ∷ [])) ≡ map bare_cover (names_lines (k ∷ ks)) ++ cover_names (words_after l) ∷ []
    at true i ih = rw i (ap (λ (cs : List Cover). cover_names (words_after k) ∷ cs) ih)
    at false i ih = rw i ih

bare_other : (ls : List Line) (l : Line) → begins_with (codes ".names") l ≡ false → map bare_cover (names_lines (ls ++ l ∷ [])) ≡ map bare_cover (names_lines ls)
bare_other [] l e = rw e refl
bare_other (k ∷ ks) l e = at (begins_with (codes ".names") k) refl (bare_other ks l e)
  where
    at : (t : Bool) → begins_with (codes ".names") k ≡ t → map bare_cover (names_lines (ks ++ l ∷ [])) ≡ map bare_cover (names_lines ks) → map bare_cover (names_lines ((k ∷ ks) ++ l ∷ [])) ≡ map bare_cover (names_lines (k ∷ ks))
    at true i ih = rw i (ap (λ (cs : List Cover). cover_names (words_after k) ∷ cs) ih)
    at false i ih = rw i ih

abbrev line_of : List ℕ → Token → List Token → Logical
line_of text first rest = record { tokens = spot_of text first ∷ map (spot_of text) rest; flaw = None }

pub progress_step : (text : List ℕ) (ls ms : List Logical) (c c' : Checker) (d d' : Draft) (places places' : List Place) (first : Token) (rest : List Token) → (p : Progress text ls c d places) → pending ls ≡ line_of text first rest ∷ ms → words_fault p.said (spot_of text first ∷ map (spot_of text) rest) ≡ None → IsSaid (after_line p.said (spot_of text first ∷ map (spot_of text) rest)) c' → IsDraft (after_line p.said (spot_of text first ∷ map (spot_of text) rest)) (p.lines ++ ((spot_of text first).word ∷ words_at text rest) ∷ []) d' → places' ≡ places_with text first places → Progress text ms c' d' places'
progress_step text ls ms c c' d d' places places' first rest p e none said drafted far = at (is_word (codes ".names") (spot_of text first).word) refl
  where
    toks : List Spot
    toks = spot_of text first ∷ map (spot_of text) rest

    faults : lines_fault nothing_said (layout text) ≡ lines_fault (after_line p.said (spot_of text first ∷ map (spot_of text) rest)) ms
    faults = p.faults ∙ pending_fault p.said ls ∙ ap (lines_fault p.said) e ∙ ap (λ (o : Option ReadRefusal). or_else o (lines_fault (after_line p.said (spot_of text first ∷ map (spot_of text) rest)) ms)) none

    uses : said_by nothing_said (layout text) ≡ said_by (after_line p.said (spot_of text first ∷ map (spot_of text) rest)) ms
    uses = p.uses ∙ pending_said p.said ls ∙ ap (said_by p.said) e

    words : lines_of text ≡ (p.lines ++ ((spot_of text first).word ∷ words_at text rest) ∷ []) ++ filter has_words (map words_in ms)
    words =
        p.words
        ∙ ap (λ (xs : List Line). p.lines ++ xs) (pending_words ls ∙ ap (λ (ns : List Logical). filter has_words (map words_in ns)) e ∙ ap (λ (ws : List Word). ((spot_of text first).word ∷ ws) ∷ filter has_words (map words_in ms)) (words_same text rest))
        ∙ sym (append_assoc p.lines (((spot_of text first).word ∷ words_at text rest) ∷ []) (filter has_words (map words_in ms)))

    covers : filter_map cover_in (layout text) ≡ p.named ++ filter_map cover_in (line_of text first rest ∷ ms)
    covers = p.covers ∙ ap (λ (xs : List (Place × Cover)). p.named ++ xs) (pending_covers ls ∙ ap (filter_map cover_in) e)

    at : (t : Bool) → is_word (codes ".names") (spot_of text first).word ≡ t → Progress text ms c' d' places'
    at true i = record {
      said = after_line p.said (spot_of text first ∷ map (spot_of text) rest);
      lines = p.lines ++ ((spot_of text first).word ∷ words_at text rest) ∷ [];
      named = p.named ++ (first.place, cover_names (words_at text rest)) ∷ [];
      faults = faults;
      uses = uses;
      words = words;
      covers =
          covers
          ∙ ap (λ (t : Bool). p.named ++ cons_option (if t then Some (first.place, cover_names (map (λ (s : Spot). s.word) (map (spot_of text) rest))) else None) (filter_map cover_in ms)) i
          ∙ ap (λ (ws : List Word). p.named ++ (first.place, cover_names ws) ∷ filter_map cover_in ms) (words_same text rest)
          ∙ sym (append_assoc p.named ((first.place, cover_names (words_at text rest)) ∷ []) (filter_map cover_in ms));
      places_are =
          map-append (λ (x : Place × Cover). x.0) p.named ((first.place, cover_names (words_at text rest)) ∷ [])
          ∙ ap (λ (ps : List Place). ps ++ first.place ∷ []) p.places_are
          ∙ ap (λ (t : Bool). if t then places ++ first.place ∷ [] else places) (sym i)
          ∙ sym far;
      covers_are =
          map-append (λ (x : Place × Cover). x.1) p.named ((first.place, cover_names (words_at text rest)) ∷ [])
          ∙ ap (λ (cs : List Cover). cs ++ cover_names (words_at text rest) ∷ []) p.covers_are
          ∙ sym (bare_names p.lines ((spot_of text first).word ∷ words_at text rest) i);
      checked = said;
      drafted = drafted;
    }
    at false i = record {
      said = after_line p.said (spot_of text first ∷ map (spot_of text) rest);
      lines = p.lines ++ ((spot_of text first).word ∷ words_at text rest) ∷ [];
      named = p.named;
      faults = faults;
      uses = uses;
      words = words;
      covers = covers ∙ ap (λ (t : Bool). p.named ++ cons_option (if t then Some (first.place, cover_names (map (λ (s : Spot). s.word) (map (spot_of text) rest))) else None) (filter_map cover_in ms)) i;
      places_are = p.places_are ∙ ap (λ (t : Bool). if t then places ++ first.place ∷ [] else places) (sym i) ∙ sym far;
      covers_are = p.covers_are ∙ sym (bare_other p.lines ((spot_of text first).word ∷ words_at text rest) i);
      checked = said;
      drafted = drafted;
    }

is_refused : (e : ReadRefusal) (f g : Option ReadRefusal) → ((r : ReadRefusal) → f ≡ Some r → g ≡ Some r) → IsRefusal e f → IsRefusal e g
is_refused NoMemory f g h r = tt
is_refused (Fault kind place) f g h r = h (Fault kind place) r
is_refused (Limit quantity count place) f g h r = h (Limit quantity count place) r

pub progress_fault : (text : List ℕ) (ls ms : List Logical) (c : Checker) (d : Draft) (places : List Place) (first : Token) (rest : List Token) (e : ReadRefusal) → (p : Progress text ls c d places) → pending ls ≡ line_of text first rest ∷ ms → IsRefusal e (words_fault p.said (spot_of text first ∷ map (spot_of text) rest)) → IsRefusal e (lines_fault nothing_said (layout text))
progress_fault text ls ms c d places first rest e p is r =
    is_refused e (words_fault p.said (spot_of text first ∷ map (spot_of text) rest)) (lines_fault nothing_said (layout text)) (λ x f. p.faults ∙ pending_fault p.said ls ∙ ap (lines_fault p.said) is ∙ ap (λ (o : Option ReadRefusal). or_else o (lines_fault (after_line p.said (spot_of text first ∷ map (spot_of text) rest)) ms)) f) r

pub flaw_first : (said : Said) (f : Flaw) (ls : List Logical) (r : ReadRefusal) → flaw_fault (Some f) ≡ Some r → StandsFirst f ls → lines_fault said ls ≡ Some r
flaw_first said f [] r e h = absurd h
flaw_first said f (l ∷ ls) r e h = ap (λ (o : Option Flaw). or_else (flaw_fault o) (or_else (words_fault said l.tokens) (lines_fault (after_line said l.tokens) ls))) h ∙ ap (λ (o : Option ReadRefusal). or_else o (or_else (words_fault said l.tokens) (lines_fault (after_line said l.tokens) ls))) e

pub pending_refused : (text : List ℕ) (ls : List Logical) (c : Checker) (d : Draft) (places : List Place) (e : ReadRefusal) → (p : Progress text ls c d places) → IsRefusal e (lines_fault p.said (pending ls)) → IsRefusal e (lines_fault nothing_said (layout text))
pending_refused text ls c d places e p r = subst (λ (o : Option ReadRefusal). IsRefusal e o) (sym (p.faults ∙ pending_fault p.said ls)) r

kept_flaw : (k : Logical) (ks : List Logical) (f : Flaw) → k.tokens ≡ [] → k.flaw ≡ Some f → length (pending (k ∷ ks)) ≡ suc (length ks)
kept_flaw k ks f g h = rw (g, h) refl

kept_tokens : (k : Logical) (ks : List Logical) (t : Spot) (ts : List Spot) → k.tokens ≡ t ∷ ts → length (pending (k ∷ ks)) ≡ suc (length ks)
kept_tokens k ks t ts g = rw g refl

idle_passed : (k : Logical) (ks : List Logical) → k.tokens ≡ [] → k.flaw ≡ None → pending (k ∷ ks) ≡ pending ks
idle_passed k ks g h = rw (g, h) refl

pub pending_less : (ls ms : List Logical) (l : Logical) → pending ls ≡ l ∷ ms → length ms < length ls
pending_less [] ms l e = cc
pending_less (k ∷ ks) ms l e = at k.tokens k.flaw refl refl (pending_less ks ms l)
  where
    long : length (pending (k ∷ ks)) ≡ suc (length ms)
    long = ap length e

    at : (ts : List Spot) (f : Option Flaw) → k.tokens ≡ ts → k.flaw ≡ f → (pending ks ≡ l ∷ ms → length ms < length ks) → length ms < length (k ∷ ks)
    at [] None g h ih = let less : length ms < length ks = ih (sym (idle_passed k ks g h) ∙ e) in omega arith
    at [] (Some f) g h ih = let n : length (pending (k ∷ ks)) ≡ suc (length ks) = kept_flaw k ks f g h in let m : length (pending (k ∷ ks)) ≡ suc (length ms) = long in omega arith
    at (t ∷ ts) f g h ih = let n : length (pending (k ∷ ks)) ≡ suc (length ks) = kept_tokens k ks t ts g in let m : length (pending (k ∷ ks)) ≡ suc (length ms) = long in omega arith

pub given_line : (text other : List ℕ) (tokens line : List Token) (ls ms : List Logical) → other ≡ text → tokens ≡ line → pending ls ≡ record { tokens = map (spot_of other) line; flaw = None } ∷ ms → pending ls ≡ record { tokens = map (spot_of text) tokens; flaw = None } ∷ ms
given_line text other tokens line ls ms e f g =
    g
    ∙ ap (λ (x : List ℕ). record { tokens = map (spot_of x) line; flaw = None } ∷ ms) e
    ∙ ap (λ (ts : List Token). record { tokens = map (spot_of text) ts; flaw = None } ∷ ms) (sym f)

pub progress_start : (text : List ℕ) (c : Checker) (d : Draft) → IsSaid nothing_said c → IsDraft nothing_said [] d → Progress text (layout text) c d []
progress_start text c d said drafted = record { said = nothing_said; lines = []; named = []; faults = refl; uses = refl; words = refl; covers = refl; places_are = refl; covers_are = refl; checked = said; drafted = drafted }

pub progress_end : (text : List ℕ) (ls : List Logical) (c : Checker) (d : Draft) (places : List Place) → Progress text ls c d places → pending ls ≡ [] → IsRead text (said_by nothing_said (layout text)) c d places
progress_end text ls c d places p e =
    let said : said_by nothing_said (layout text) ≡ p.said = p.uses ∙ pending_said p.said ls ∙ ap (said_by p.said) e in
    let words : lines_of text ≡ p.lines = p.words ∙ ap (λ (xs : List Line). p.lines ++ xs) (pending_words ls ∙ ap (λ (ns : List Logical). filter has_words (map words_in ns)) e) ∙ append-nil p.lines in
    let covers : filter_map cover_in (layout text) ≡ p.named = p.covers ∙ ap (λ (xs : List (Place × Cover)). p.named ++ xs) (pending_covers ls ∙ ap (filter_map cover_in) e) ∙ append-nil p.named in
    record {
      uses = refl;
      checked = subst (λ (s : Said). IsSaid s c) (sym said) p.checked;
      drafted = subst (λ (s : Said). IsDraft s (lines_of text) d) (sym said) (subst (λ (xs : List Line). IsDraft p.said xs d) (sym words) p.drafted);
      places_are = ap (map (λ (x : Place × Cover). x.0)) covers ∙ p.places_are;
      covers_are = ap (map (λ (x : Place × Cover). x.1)) covers ∙ p.covers_are ∙ ap (λ (xs : List Line). map bare_cover (names_lines xs)) (sym words);
    }

pub progress_fault_end : (text : List ℕ) (ls : List Logical) (c : Checker) (d : Draft) (places : List Place) → Progress text ls c d places → pending ls ≡ [] → lines_fault nothing_said (layout text) ≡ fault_if (not c.began) NoModel (record { line = 1; column = 1 })
progress_fault_end text ls c d places p e = p.faults ∙ pending_fault p.said ls ∙ ap (lines_fault p.said) e ∙ ap (λ (t : Bool). fault_if (not t) NoModel (record { line = 1; column = 1 })) p.checked.began

-- A LINE HAS NO MORE WORDS THAN THE TEXT HAS BYTES
bytes_append : (xs ys : List Line) → line_bytes (xs ++ ys) ≡ line_bytes xs + line_bytes ys
bytes_append [] ys = omega arith
bytes_append (x ∷ xs) ys = let h : line_bytes (xs ++ ys) ≡ line_bytes xs + line_bytes ys = bytes_append xs ys in omega arith

some_bytes : (text : List ℕ) (t : Token) → IsWithin text t → 1 ≤ length (spot_of text t).word
some_bytes text t w =
    let some : t.start < t.end = w.some in
    let end : t.end ≤ length text = w.end in
    let left : length (drop t.start text) ≡ length text - t.start = length-drop t.start text in
    let got : length (take (t.end - t.start) (drop t.start text)) ≡ min (t.end - t.start) (length (drop t.start text)) = length-take (t.end - t.start) (drop t.start text) in
    omega arith

words_few : (text : List ℕ) (line : List Token) → All (IsWithin text) line → length line ≤ word_bytes (map (λ (s : Spot). s.word) (map (spot_of text) line))
words_few text [] h = omega arith
words_few text (t ∷ ts) h =
    let one : 1 ≤ length (spot_of text t).word = some_bytes text t (All-head (IsWithin text) t ts h) in
    let rest : length ts ≤ word_bytes (map (λ (s : Spot). s.word) (map (spot_of text) ts)) = words_few text ts (All-tail (IsWithin text) t ts h) in omega arith

first_bytes : (ws : Line) (ls : List Line) → word_bytes ws ≤ line_bytes (filter has_words (ws ∷ ls))
first_bytes [] ls = omega arith
first_bytes (w ∷ ws) ls = omega arith

pub tokens_few : (text other : List ℕ) (tokens line : List Token) (ls ms : List Logical) (c : Checker) (d : Draft) (places : List Place) → Progress text ls c d places → other ≡ text → tokens ≡ line → pending ls ≡ record { tokens = map (spot_of other) line; flaw = None } ∷ ms → All (IsWithin other) line → length text ≤ 2 ^ 24 → length tokens ≤ 2 ^ 32
tokens_few text other tokens line ls ms c d places p e f g w small =
    let here : pending ls ≡ record { tokens = map (spot_of text) tokens; flaw = None } ∷ ms = given_line text other tokens line ls ms e f g in
    let within : All (IsWithin text) tokens = subst (λ (x : List ℕ). All (IsWithin x) tokens) e (subst (All (IsWithin other)) (sym f) w) in
    let few : length tokens ≤ word_bytes (map (λ (s : Spot). s.word) (map (spot_of text) tokens)) = words_few text tokens within in
    let one : word_bytes (map (λ (s : Spot). s.word) (map (spot_of text) tokens)) ≤ line_bytes (filter has_words (map (λ (s : Spot). s.word) (map (spot_of text) tokens) ∷ map words_in ms)) = first_bytes (map (λ (s : Spot). s.word) (map (spot_of text) tokens)) (map words_in ms) in
    let rest : line_bytes (filter has_words (map words_in ls)) ≡ line_bytes (filter has_words (map (λ (s : Spot). s.word) (map (spot_of text) tokens) ∷ map words_in ms)) = ap line_bytes (pending_words ls ∙ ap (λ (ns : List Logical). filter has_words (map words_in ns)) here) in
    let whole : line_bytes (lines_of text) ≡ line_bytes p.lines + line_bytes (filter has_words (map words_in ls)) = ap line_bytes p.words ∙ bytes_append p.lines (filter has_words (map words_in ls)) in
    let most : line_bytes (lines_of text) ≤ length text = text_size text in
    omega arith
