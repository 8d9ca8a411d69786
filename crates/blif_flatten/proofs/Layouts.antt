-- The lines of a text, taken one by one.
use Rattle.std.proofs.Common.{◌≡◌, ◌≢◌, ◌≤◌, ◌<◌, ◌+◌, ℕ, suc, List, [], ◌∷◌, ◌++◌, map, length, Bool, true, false, Option, None, Some, refl, sym, ap, ◌∙◌, arith, subst}
use Rattle.std.specs.Prelude.{fold, All, not, slice_get, get_or, ◌^◌}
use Rattle.std.proofs.lemmas.List.{length-map}
use Rattle.std.proofs.lemmas.List.Elements.{All-nil, All-cons, All-head, All-tail}
use Rattle.rm_base.specs.Words.{Word}
use Rattle.blif_lines.specs.Layout.{Spot, Logical, Flaw, layout}
use Rattle.blif_lines.specs.Reading.{pending, spot_of}
use Rattle.blif_lines.specs.declared.line.Token.{Token}
use Rattle.blif_format.specs.declared.refusal.ReadRefusal.{ReadRefusal}
use Rattle.blif_format.specs.declared.refusal.FaultKind.TheVariants.{NoModel}
use Rattle.blif_format.specs.FirstFault.{or_else, fault_if, fault}
use Rattle.blif_reader.specs.Lines.{spots_at}
use Rattle.blif_reader.specs.Fit.{token_sum}
use Rattle.blif_reader.proofs.Public.{layout_count}
use Rattle.blif_flatten.specs.declared.sections.Section.{Section as TokenSection}
use Rattle.blif_flatten.specs.declared.sections.Step.TheVariants.{Line}
use Rattle.blif_flatten.specs.Sections.{Section, is_title, onto_last, with_line, sound_lines, layout_fault, token_count}
use Rattle.blif_flatten.specs.LineFaults.{head_fault, empty_fault}
use Rattle.blif_flatten.specs.Inner.Tokens.{lines_at, section_at, sections_at, all_tokens, IsLineWithin, IsBareSectionWithin, IsSectionWithin, IsStep, AreReadTo}
use Rattle.blif_flatten.proofs.Alls.{all-append, all-left, all-right}

-- LINES WITHOUT TOKENS AND FLAW
pub pending-lines : (ls : List Logical) → sound_lines ls ≡ sound_lines (pending ls)
pending-lines [] = refl
pending-lines (l ∷ ls) = at l.tokens l.flaw refl refl (pending-lines ls)
  where
    at : (ts : List Spot) (f : Option Flaw) → l.tokens ≡ ts → l.flaw ≡ f → sound_lines ls ≡ sound_lines (pending ls) → sound_lines (l ∷ ls) ≡ sound_lines (pending (l ∷ ls))
    at [] None e g ih = rw (e, g) ih
    at [] (Some f) e g ih = rw (e, g) refl
    at (t ∷ ts) f e g ih = rw e refl

pub pending-flaw : (ls : List Logical) → layout_fault ls ≡ layout_fault (pending ls)
pending-flaw [] = refl
pending-flaw (l ∷ ls) = at l.tokens l.flaw refl refl (pending-flaw ls)
  where
    at : (ts : List Spot) (f : Option Flaw) → l.tokens ≡ ts → l.flaw ≡ f → layout_fault ls ≡ layout_fault (pending ls) → layout_fault (l ∷ ls) ≡ layout_fault (pending (l ∷ ls))
    at [] None e g ih = rw (e, g) ih
    at [] (Some f) e g ih = rw (e, g) refl
    at (t ∷ ts) f e g ih = rw e refl

pending-sum : (ls : List Logical) → token_sum ls ≡ token_sum (pending ls)
pending-sum [] = refl
pending-sum (l ∷ ls) = at l.tokens l.flaw refl refl (pending-sum ls)
  where
    at : (ts : List Spot) (f : Option Flaw) → l.tokens ≡ ts → l.flaw ≡ f → token_sum ls ≡ token_sum (pending ls) → token_sum (l ∷ ls) ≡ token_sum (pending (l ∷ ls))
    at [] None e g ih = rw (e, g) (zero-more (token_sum ls) (token_sum (pending ls)) ih)
      where
        zero-more : (n k : ℕ) → n ≡ k → 0 + n ≡ k
        zero-more n k same = omega (arith, same)
    at [] (Some f) e g ih = rw (e, g) refl
    at (t ∷ ts) f e g ih = rw e refl

pending-length : (ls : List Logical) → length (pending ls) ≤ length ls
pending-length [] = omega arith
pending-length (l ∷ ls) = at l.tokens l.flaw refl refl (pending-length ls)
  where
    at : (ts : List Spot) (f : Option Flaw) → l.tokens ≡ ts → l.flaw ≡ f → length (pending ls) ≤ length ls → length (pending (l ∷ ls)) ≤ suc (length ls)
    at [] None e g ih = rw (e, g) (omega (arith, ih))
    at [] (Some f) e g ih = rw (e, g) (omega arith)
    at (t ∷ ts) f e g ih = rw e (omega arith)

pub ended-flaw : (ls : List Logical) → pending ls ≡ [] → layout_fault ls ≡ None
ended-flaw ls e = pending-flaw ls ∙ ap layout_fault e

pub ended-lines : (ls : List Logical) → pending ls ≡ [] → sound_lines ls ≡ []
ended-lines ls e = pending-lines ls ∙ ap sound_lines e

-- THE LAST SECTION
onto-last : (line : List Spot) (ss : List Section) (s : Section) → onto_last line (ss ++ s ∷ []) ≡ ss ++ record s { body = s.body ++ line ∷ [] } ∷ []
onto-last line [] s = refl
onto-last line (t ∷ []) s = refl
onto-last line (t ∷ u ∷ ss) s = ap (λ (rest : List Section). t ∷ rest) (onto-last line (u ∷ ss) s)

sections-append : (text : Word) (xs ys : List TokenSection) → sections_at text (xs ++ ys) ≡ sections_at text xs ++ sections_at text ys
sections-append text [] ys = refl
sections-append text (x ∷ xs) ys = ap (λ (rest : List Section). section_at text x ∷ rest) (sections-append text xs ys)

lines-append : (text : Word) (xs ys : List (List Token)) → lines_at text (xs ++ ys) ≡ lines_at text xs ++ lines_at text ys
lines-append text [] ys = refl
lines-append text (x ∷ xs) ys = ap (λ (rest : List (List Spot)). spots_at text x ∷ rest) (lines-append text xs ys)

abbrev longer : TokenSection → List Token → TokenSection
longer s line = record { title = s.title; body = s.body ++ line ∷ [] }

longer-at : (text : Word) (s : TokenSection) (line : List Token) → section_at text (longer s line) ≡ record (section_at text s) { body = lines_at text s.body ++ spots_at text line ∷ [] }
longer-at text s line = ap (λ (b : List (List Spot)). let r : Section = record { title = spots_at text s.title; body = b } in r) (lines-append text s.body (line ∷ []))

pub last-longer : (text : Word) (xs : List TokenSection) (s : TokenSection) (line : List Token) → sections_at text (xs ++ longer s line ∷ []) ≡ onto_last (spots_at text line) (sections_at text (xs ++ s ∷ []))
last-longer text xs s line =
    sections-append text xs (longer s line ∷ [])
    ∙ (ap (λ (r : Section). sections_at text xs ++ r ∷ []) (longer-at text s line)
    ∙ (sym (onto-last (spots_at text line) (sections_at text xs) (section_at text s))
    ∙ ap (onto_last (spots_at text line)) (sym (sections-append text xs (s ∷ [])))))

-- TOKENS
tokens-append : (xs ys : List Section) → all_tokens (xs ++ ys) ≡ all_tokens xs + all_tokens ys
tokens-append [] ys = omega arith
tokens-append (x ∷ xs) ys = let h : all_tokens (xs ++ ys) ≡ all_tokens xs + all_tokens ys = tokens-append xs ys in omega (arith, h)

count-append : (xs ys : List (List Spot)) → token_count (xs ++ ys) ≡ token_count xs + token_count ys
count-append [] ys = omega arith
count-append (x ∷ xs) ys = let h : token_count (xs ++ ys) ≡ token_count xs + token_count ys = count-append xs ys in omega (arith, h)

-- a line more is as many tokens more, or none where there is no section
pub with-count : (ss : List Section) (line : List Spot) → all_tokens (with_line ss line) ≤ all_tokens ss + length line
with-count ss line = at (is_title line) refl
  where
    onto : (ss : List Section) → all_tokens (onto_last line ss) ≤ all_tokens ss + length line
    onto [] = omega arith
    onto (s ∷ []) = let h : token_count (s.body ++ line ∷ []) ≡ token_count s.body + token_count (line ∷ []) = count-append s.body (line ∷ []) in omega (arith, h)
    onto (s ∷ t ∷ ss) = let h : all_tokens (onto_last line (t ∷ ss)) ≤ all_tokens (t ∷ ss) + length line = onto (t ∷ ss) in omega (arith, h)

    at : (b : Bool) → is_title line ≡ b → all_tokens (with_line ss line) ≤ all_tokens ss + length line
    at true e = rw e (let h : all_tokens (ss ++ record { title = line; body = [] } ∷ []) ≡ all_tokens ss + all_tokens (record { title = line; body = [] } ∷ []) = tokens-append ss (record { title = line; body = [] } ∷ []) in omega (arith, h))
    at false e = rw e (onto ss)

-- STEPS
pub some-first : (line : List Token) (d : Token) → line ≢ [] → slice_get line 0 ≡ Some (get_or line 0 d)
some-first [] d some = absurd (some refl)
some-first (t ∷ ts) d some = refl

line-first : (text : Word) (ls ms : List Logical) (tokens : List Token) → pending ls ≡ record { tokens = map (spot_of text) tokens; flaw = None } ∷ ms → tokens ≢ [] → sound_lines ls ≡ spots_at text tokens ∷ sound_lines ms
line-first text ls ms [] e some = absurd (some refl)
line-first text ls ms (t ∷ ts) e some = pending-lines ls ∙ ap sound_lines e

line-flaw : (text : Word) (ls ms : List Logical) (tokens : List Token) → pending ls ≡ record { tokens = map (spot_of text) tokens; flaw = None } ∷ ms → layout_fault ls ≡ layout_fault ms
line-flaw text ls ms tokens e = pending-flaw ls ∙ ap layout_fault e

pub line-count : (text : Word) (ls ms : List Logical) (tokens : List Token) → pending ls ≡ record { tokens = map (spot_of text) tokens; flaw = None } ∷ ms → token_sum ls ≡ length (map (spot_of text) tokens) + token_sum ms
line-count text ls ms tokens e = pending-sum ls ∙ ap token_sum e

pub line-less : (ls ms : List Logical) (l : Logical) → pending ls ≡ l ∷ ms → length ms < length ls
line-less ls ms l e =
    let short : length (pending ls) ≤ length ls = pending-length ls in
    let same : length (pending ls) ≡ suc (length ms) = ap length e in
    omega (arith, short, same)

-- WITHIN THE TEXT
pub within-longer : (text : Word) (xs : List TokenSection) (s : TokenSection) (line : List Token) → All (IsBareSectionWithin text) (xs ++ s ∷ []) → IsLineWithin text line → All (IsBareSectionWithin text) (xs ++ longer s line ∷ [])
within-longer text xs s line all one =
    let last : IsBareSectionWithin text s = All-head (IsBareSectionWithin text) s [] (all-right (IsBareSectionWithin text) xs (s ∷ []) all) in
    all-append (IsBareSectionWithin text) xs (longer s line ∷ []) (all-left (IsBareSectionWithin text) xs (s ∷ []) all)
    (All-cons (IsBareSectionWithin text) (longer s line) [] (record { some = last.some; title = last.title; body = all-append (IsLineWithin text) s.body (line ∷ []) last.body (All-cons (IsLineWithin text) line [] one (All-nil (IsLineWithin text))) }) (All-nil (IsBareSectionWithin text)))

-- the invariant goes on
pub read-on : (text : Word) (ls ms : List Logical) (tokens : List Token) (old new : List TokenSection) → AreReadTo text ls old → IsStep text ls ms (Line tokens)
    → sections_at text new ≡ with_line (sections_at text old) (spots_at text tokens) → All (IsBareSectionWithin text) new → (is_title (spots_at text tokens) ≡ true → new ≢ []) → (old ≢ [] → new ≢ []) → (old ≡ [] → is_title (spots_at text tokens) ≡ true)
    → AreReadTo text ms new
read-on text ls ms tokens old new p step added within by_title kept titled =
    let first : sound_lines ls ≡ spots_at text tokens ∷ sound_lines ms = line-first text ls ms tokens step.0 step.1.0 in
    record {
      sections_are = p.sections_are ∙ (ap (fold with_line (sections_at text old)) first ∙ ap (λ (ss : List Section). fold with_line ss (sound_lines ms)) (sym added));
      flaw = p.flaw ∙ line-flaw text ls ms tokens step.0;
      none_yet = λ e. absurd (some old refl e);
      head = λ _. by_old (λ (lines : List (List Spot)). head_fault lines ≡ None) p.head (λ none. let here = p.none_yet none ∙ first in ap head_fault here ∙ titled_head text tokens (sound_lines ms) step.1.0 (titled none));
      some = λ _. by_old (λ (lines : List (List Spot)). empty_fault lines ≡ None) p.some (λ none. ap empty_fault (p.none_yet none ∙ first));
      within = within;
      count =
          let more : all_tokens (with_line (sections_at text old) (spots_at text tokens)) ≤ all_tokens (sections_at text old) + length (spots_at text tokens) = with-count (sections_at text old) (spots_at text tokens) in
          let fewer : token_sum ls ≡ length (map (spot_of text) tokens) + token_sum ms = line-count text ls ms tokens step.0 in
          let had = p.count in
          let now : all_tokens (sections_at text new) ≡ all_tokens (with_line (sections_at text old) (spots_at text tokens)) = ap all_tokens added in
          omega (arith, more, fewer, had, now);
    }
  where
    some : (xs : List TokenSection) → old ≡ xs → new ≢ []
    some [] e = by_title (titled e)
    some (x ∷ xs) e = kept (λ none. let bad : x ∷ xs ≡ [] = sym e ∙ none in absurd cc)

    by_old : (P : List (List Spot) → Type 0) → (old ≢ [] → P (sound_lines (layout text))) → (old ≡ [] → P (sound_lines (layout text))) → P (sound_lines (layout text))
    by_old P h k = at old refl
      where
        at : (xs : List TokenSection) → old ≡ xs → P (sound_lines (layout text))
        at [] e = k e
        at (x ∷ xs) e = h (λ none. let bad : x ∷ xs ≡ [] = sym e ∙ none in absurd cc)

    titled_head : (text : Word) (tokens : List Token) (rest : List (List Spot)) → tokens ≢ [] → is_title (spots_at text tokens) ≡ true → head_fault (spots_at text tokens ∷ rest) ≡ None
    titled_head text [] rest some e = absurd (some refl)
    titled_head text (t ∷ ts) rest some e = ap (λ (b : Bool). fault_if (not b) NoModel t.place) e

-- the first line isn't a title
pub misplaced : (text : Word) (ls ms : List Logical) (tokens : List Token) (old : List TokenSection) (t : Token) → AreReadTo text ls old → IsStep text ls ms (Line tokens) → old ≡ []
    → is_title (spots_at text tokens) ≡ false → slice_get tokens 0 ≡ Some t → head_fault (sound_lines (layout text)) ≡ fault NoModel t.place
misplaced text ls ms [] old t p step none other at = absurd (step.1.0 refl)
misplaced text ls ms (u ∷ us) old t p step none other at =
    let same : u ≡ t = cc in
    ap head_fault (p.none_yet none ∙ line-first text ls ms (u ∷ us) step.0 step.1.0)
    ∙ (ap (λ (b : Bool). fault_if (not b) NoModel u.place) other ∙ ap (λ (v : Token). fault NoModel v.place) same)

pub read-start : (text : Word) (rest : List Logical) (sections : List TokenSection) → rest ≡ layout text → sections ≡ [] → AreReadTo text rest sections
read-start text rest sections e none =
    subst (λ (ls : List Logical). AreReadTo text ls sections) (sym e) (subst (λ (ss : List TokenSection). AreReadTo text (layout text) ss) (sym none) record {
      sections_are = refl;
      flaw = refl;
      none_yet = λ _. refl;
      head = λ some. absurd (some refl);
      some = λ some. absurd (some refl);
      within = All-nil (IsBareSectionWithin text);
      count = let few : token_sum (layout text) ≤ length text = layout_count text in omega (arith, few);
    })

-- a section has no more tokens than the text
pub all-within : (text : Word) (xs : List TokenSection) → All (IsBareSectionWithin text) xs → all_tokens (sections_at text xs) ≤ 2 ^ 32 → All (IsSectionWithin text) xs
all-within text [] h few = All-nil (IsSectionWithin text)
all-within text (x ∷ xs) h few =
    let one : IsBareSectionWithin text x = All-head (IsBareSectionWithin text) x xs h in
    let same : length (spots_at text x.title) ≡ length x.title = length-map x.title (spot_of text) in
    All-cons (IsSectionWithin text) x xs (record { some = one.some; title = one.title; body = one.body; few = omega (arith, few, same) })
    (all-within text xs (All-tail (IsBareSectionWithin text) x xs h) (omega (arith, few)))

pub read-within : (text : Word) (rest : List Logical) (sections : List TokenSection) → AreReadTo text rest sections → length text < 2 ^ 32 → All (IsSectionWithin text) sections
read-within text rest sections p small = let c = p.count in all-within text sections p.within (omega (arith, c, small))

pub read-few : (text : Word) (ls ms : List Logical) (tokens : List Token) (old : List TokenSection) → AreReadTo text ls old → pending ls ≡ record { tokens = map (spot_of text) tokens; flaw = None } ∷ ms → length text < 2 ^ 32 → length tokens ≤ 2 ^ 32
read-few text ls ms tokens old p e small =
    let sum : token_sum ls ≡ length (map (spot_of text) tokens) + token_sum ms = line-count text ls ms tokens e in
    let same : length (map (spot_of text) tokens) ≡ length tokens = length-map tokens (spot_of text) in
    let c = p.count in
    omega (arith, sum, same, c, small)

pub read-last : (text : Word) (rest : List Logical) (sections : List TokenSection) (last : Option ReadRefusal) → AreReadTo text rest sections → layout_fault rest ≡ None → sound_lines rest ≡ []
    → (sections ≢ [] → last ≡ None) → (sections ≡ [] → last ≡ empty_fault []) → last ≡ or_else (layout_fault (layout text)) (empty_fault (sound_lines (layout text)))
read-last text rest sections last p none gone kept empty = at sections refl ∙ ap (λ (o : Option ReadRefusal). or_else o (empty_fault (sound_lines (layout text)))) (sym (p.flaw ∙ none))
  where
    at : (xs : List TokenSection) → sections ≡ xs → last ≡ empty_fault (sound_lines (layout text))
    at [] e = empty e ∙ ap empty_fault (sym (p.none_yet e ∙ gone))
    at (x ∷ xs) e = let some : sections ≢ [] = (λ none. let bad : x ∷ xs ≡ [] = sym e ∙ none in absurd cc) in kept some ∙ sym (p.some some)

pub read-head : (text : Word) (rest : List Logical) (sections : List TokenSection) → AreReadTo text rest sections → sound_lines rest ≡ [] → head_fault (sound_lines (layout text)) ≡ None
read-head text rest sections p gone = at sections refl
  where
    at : (xs : List TokenSection) → sections ≡ xs → head_fault (sound_lines (layout text)) ≡ None
    at [] e = ap head_fault (p.none_yet e ∙ gone)
    at (x ∷ xs) e = p.head (λ none. let bad : x ∷ xs ≡ [] = sym e ∙ none in absurd cc)

pub read-all : (text : Word) (rest : List Logical) (sections : List TokenSection) → AreReadTo text rest sections → sound_lines rest ≡ [] → sections_at text sections ≡ fold with_line [] (sound_lines (layout text))
read-all text rest sections p gone = sym (p.sections_are ∙ ap (fold with_line (sections_at text sections)) gone)
