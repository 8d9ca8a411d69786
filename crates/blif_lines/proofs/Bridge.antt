-- The logical lines from a place on, by what is cut from the line there.
use Rattle.std.proofs.Common.{◌≡◌, ℕ, suc, ◌<◌, ◌≤◌, ◌+◌, ◌-◌, List, [], ◌∷◌, ◌++◌, length, drop, map, Bool, true, false, refl, sym, ◌∙◌, ap, subst, arith, append_assoc, Option, None, Some}
use Rattle.std.specs.Prelude.{◌==◌, if◌then◌else◌, nat_lt}
use Rattle.std.proofs.lemmas.Bool.{ltb-true, ltb-false, lt-ltb}
use Rattle.std.proofs.Common.{min, length-drop}
use Rattle.std.proofs.lemmas.List.{drop-drop, drop_all}
use Rattle.rm_base.specs.declared.numbers.Place.{Place}
use Rattle.blif_lines.specs.Layout.{Mark, Spot, Flaw, BadByteAt, OpenJoinAt, Logical, behind, marked, physical_lines, onto_first, without_comment, joint, first_bad, earlier, with_line, logical_lines, layout_from, tokens_in}
use Rattle.blif_lines.specs.Inner.Cuts.{front, is_inner, line_end_of, content, Cut, cut_of, cut_from, with_spot, moved, closed, closed_at, line_start, lines_from, extend, kept_at, place_at}
use Rattle.blif_lines.specs.Inner.Cuts.{spot_between, spots_between, IsWord, IsBad, IsClose, IsJoin}
use Rattle.blif_lines.specs.Reading.{StandsFirst, spot_of}
use Rattle.blif_lines.specs.declared.line.Token.{Token}

-- the bytes of the first physical line, and those behind its LF
first_line : List Mark → List Mark
first_line [] = []
first_line (m ∷ ms) = if m.byte == 10 then [] else m ∷ first_line ms

behind_first : List Mark → List Mark
behind_first [] = []
behind_first (m ∷ ms) = if m.byte == 10 then ms else behind_first ms

split_first : (m : Mark) (ms : List Mark) → physical_lines (m ∷ ms) ≡ first_line (m ∷ ms) ∷ physical_lines (behind_first (m ∷ ms))
unfolding first_line behind_first
split_first m [] = at (m.byte == 10) refl
  where
    at : (t : Bool) → (m.byte == 10) ≡ t → physical_lines (m ∷ []) ≡ first_line (m ∷ []) ∷ physical_lines (behind_first (m ∷ []))
    at true e = rw e refl
    at false e = rw e refl
split_first m (n ∷ ns) = at (m.byte == 10) refl (split_first n ns)
  where
    at : (t : Bool) → (m.byte == 10) ≡ t → physical_lines (n ∷ ns) ≡ first_line (n ∷ ns) ∷ physical_lines (behind_first (n ∷ ns)) → physical_lines (m ∷ n ∷ ns) ≡ first_line (m ∷ n ∷ ns) ∷ physical_lines (behind_first (m ∷ n ∷ ns))
    at true e ih = rw e refl
    at false e ih = rw e (ap (onto_first m) ih)

content_first : (ms : List Mark) → without_comment (first_line ms) ≡ content ms
unfolding first_line
content_first [] = refl
content_first (m ∷ ms) = at (m.byte == 10) (m.byte == 35) refl refl (content_first ms)
  where
    at : (t u : Bool) → (m.byte == 10) ≡ t → (m.byte == 35) ≡ u → without_comment (first_line ms) ≡ content ms → without_comment (first_line (m ∷ ms)) ≡ content (m ∷ ms)
    at true u e f ih = rw e refl
    at false true e f ih = rw (e, f) refl
    at false false e f ih = rw (e, f) (ap (λ ns. m ∷ ns) ih)

behind_marked : (o : ℕ) (p : Place) (bs : List ℕ) → behind_first (marked o p bs) ≡ marked (o + front is_inner bs + 1) (line_start (p.line + 1)) (drop (front is_inner bs + 1) bs)
unfolding behind_first
behind_marked o p [] = refl
behind_marked o p (b ∷ bs) = at (b == 10) refl (behind_marked (o + 1) (moved p 1) bs)
  where
    at : (t : Bool) → (b == 10) ≡ t → behind_first (marked (o + 1) (moved p 1) bs) ≡ marked ((o + 1) + front is_inner bs + 1) (line_start (p.line + 1)) (drop (front is_inner bs + 1) bs) → behind_first (marked o p (b ∷ bs)) ≡ marked (o + front is_inner (b ∷ bs) + 1) (line_start (p.line + 1)) (drop (front is_inner (b ∷ bs) + 1) (b ∷ bs))
    at true e ih = let zero_more : o + 0 + 1 ≡ o + 1 = omega arith in rw e (ap (λ (n : ℕ). marked n (line_start (p.line + 1)) bs) (sym zero_more))
    at false e ih =
        let step : suc (front is_inner bs) + 1 ≡ suc (front is_inner bs + 1) = omega arith in
        let far : (o + 1) + front is_inner bs + 1 ≡ o + suc (front is_inner bs) + 1 = omega arith in
        rw e (ih ∙ ap (λ (n : ℕ). marked n (line_start (p.line + 1)) (drop (front is_inner bs + 1) bs)) far ∙ ap (λ (n : ℕ). marked (o + suc (front is_inner bs) + 1) (line_start (p.line + 1)) (drop n (b ∷ bs))) (sym step))

with_closed : (c : List Mark) (j : Option Mark) (ls : List Logical) → with_line c j ls ≡ closed_at (record { tokens = tokens_in (kept_at c j); flaw = first_bad (kept_at c j); joint = j }) j ls
with_closed c None ls = refl
with_closed c (Some m) [] = refl
with_closed c (Some m) (l ∷ ls) = refl

starts_at : (o : ℕ) (p : Place) (b : ℕ) (bs : List ℕ) → layout_from o p (b ∷ bs) ≡ closed (cut_of (content (marked o p (b ∷ bs)))) (layout_from (o + front is_inner (b ∷ bs) + 1) (line_start (p.line + 1)) (drop (front is_inner (b ∷ bs) + 1) (b ∷ bs)))
starts_at o p b bs =
    ap logical_lines (split_first (record { byte = b; start = o; place = p }) (marked (o + 1) (behind b p) bs))
    ∙ ap (λ c. with_line c (joint c) (logical_lines (physical_lines (behind_first (marked o p (b ∷ bs)))))) (content_first (marked o p (b ∷ bs)))
    ∙ ap (λ ms. with_line (content (marked o p (b ∷ bs))) (joint (content (marked o p (b ∷ bs)))) (logical_lines (physical_lines ms))) (behind_marked o p (b ∷ bs))
    ∙ with_closed (content (marked o p (b ∷ bs))) (joint (content (marked o p (b ∷ bs)))) (layout_from (o + front is_inner (b ∷ bs) + 1) (line_start (p.line + 1)) (drop (front is_inner (b ∷ bs) + 1) (b ∷ bs)))

starts_in : (o : ℕ) (p : Place) (bs : List ℕ) → 0 < length bs → layout_from o p bs ≡ closed (cut_of (content (marked o p bs))) (layout_from (o + front is_inner bs + 1) (line_start (p.line + 1)) (drop (front is_inner bs + 1) bs))
starts_in o p [] h = absurd (omega arith)
starts_in o p (b ∷ bs) h = starts_at o p b bs

-- where some text is left, a line begins there
pub starts : (text : List ℕ) (at : ℕ) (p : Place) → at < length text → layout_from at p (drop at text) ≡ lines_from text at p
starts text at p h =
    let some : 0 < length (drop at text) = let e : length (drop at text) ≡ length text - at = length-drop at text in omega arith in
    let more : drop (front is_inner (drop at text) + 1) (drop at text) ≡ drop (at + front is_inner (drop at text) + 1) text = drop-drop (front is_inner (drop at text) + 1) at text ∙ ap (λ (n : ℕ). drop n text) (let e : at + (front is_inner (drop at text) + 1) ≡ at + front is_inner (drop at text) + 1 = omega arith in e) in
    starts_in at p (drop at text) some ∙ ap (λ (bs : List ℕ). closed (cut_from text at p) (layout_from (at + front is_inner (drop at text) + 1) (line_start (p.line + 1)) bs)) more

-- tokens that are put in front
pub extend_none : (ls : List Logical) → extend [] ls ≡ ls
extend_none [] = refl
extend_none (l ∷ ls) = refl

extend_more : (a b : List Spot) (ls : List Logical) → extend a (extend b ls) ≡ extend (a ++ b) ls
extend_more a b [] = refl
extend_more a b (l ∷ ls) = ap (λ (ts : List Spot). record { tokens = ts; flaw = l.flaw } ∷ ls) (sym (append_assoc a b l.tokens))

closed_spot : (s : Spot) (c : Cut) (j : Option Mark) (ls : List Logical) → closed_at (with_spot s c) j ls ≡ extend (s ∷ []) (closed_at c j ls)
closed_spot s c None ls = refl
closed_spot s c (Some m) [] = refl
closed_spot s c (Some m) (l ∷ ls) = refl

-- after a token
pub after_word : (done : List Spot) (s : Spot) (text : List ℕ) (at end : ℕ) (p q : Place) → cut_from text at p ≡ with_spot s (cut_from text end q) → line_end_of text at ≡ line_end_of text end → p.line ≡ q.line → extend done (lines_from text at p) ≡ extend (done ++ s ∷ []) (lines_from text end q)
after_word done s text at end p q cut line number =
    ap (λ (c : Cut). extend done (closed c (layout_from (line_end_of text at + 1) (line_start (p.line + 1)) (drop (line_end_of text at + 1) text)))) cut
    ∙ ap (λ (n : ℕ). extend done (closed (with_spot s (cut_from text end q)) (layout_from (n + 1) (line_start (p.line + 1)) (drop (n + 1) text)))) line
    ∙ ap (λ (n : ℕ). extend done (closed (with_spot s (cut_from text end q)) (layout_from (line_end_of text end + 1) (line_start (n + 1)) (drop (line_end_of text end + 1) text)))) number
    ∙ ap (extend done) (closed_spot s (cut_from text end q) (cut_from text end q).joint (layout_from (line_end_of text end + 1) (line_start (q.line + 1)) (drop (line_end_of text end + 1) text)))
    ∙ extend_more done (s ∷ []) (lines_from text end q)

-- a flaw of the cut is the line's
flaw_first : (done : List Spot) (c : Cut) (j : Option Mark) (ls : List Logical) (f : Flaw) → c.flaw ≡ Some f → StandsFirst f (extend done (closed_at c j ls))
flaw_first done c None ls f e = e
flaw_first done c (Some m) [] f e = ap (λ o. earlier o (Some (OpenJoinAt m.place))) e
flaw_first done c (Some m) (l ∷ ls) f e = ap (λ o. earlier o l.flaw) e

pub bad_first : (done : List Spot) (text : List ℕ) (at : ℕ) (p : Place) (f : Flaw) → (cut_from text at p).flaw ≡ Some f → StandsFirst f (extend done (lines_from text at p))
bad_first done text at p f e = flaw_first done (cut_from text at p) (cut_from text at p).joint (layout_from (line_end_of text at + 1) (line_start (p.line + 1)) (drop (line_end_of text at + 1) text)) f e

append_nil : (ss : List Spot) → ss ++ [] ≡ ss
append_nil [] = refl
append_nil (s ∷ ss) = ap (λ ts. s ∷ ts) (append_nil ss)

-- what is left behind the end of a text
past_end : (n : ℕ) (p : Place) (text : List ℕ) → length text ≤ n → layout_from n p (drop n text) ≡ []
past_end n p text h = ap (λ (bs : List ℕ). layout_from n p bs) (drop_all n text h)

pub clamped : (n : ℕ) (p : Place) (text : List ℕ) → layout_from n p (drop n text) ≡ layout_from (min n (length text)) p (drop (min n (length text)) text)
clamped n p text = at (nat_lt (length text) n) refl (min n (length text)) refl
  where
    at : (t : Bool) → nat_lt (length text) n ≡ t → (k : ℕ) → min n (length text) ≡ k → layout_from n p (drop n text) ≡ layout_from k p (drop k text)
    at true is k e = let h : length text < n = ltb-true (length text) n is in past_end n p text (omega arith) ∙ sym (past_end k p text (omega arith))
    at false is k e = let h : n ≤ length text = ltb-false (length text) n is in ap (λ (m : ℕ). layout_from m p (drop m text)) (let same : n ≡ k = omega arith in same)

-- after the end of what the line says
pub after_close : (done : List Spot) (text : List ℕ) (at end next : ℕ) (p : Place) → cut_from text at p ≡ record { tokens = []; flaw = None; joint = None } → line_end_of text at ≡ line_end_of text end → next ≡ min (line_end_of text end + 1) (length text) → extend done (lines_from text at p) ≡ record { tokens = done; flaw = None } ∷ layout_from next (line_start (p.line + 1)) (drop next text)
after_close done text at end next p cut line e =
    ap (λ (c : Cut). extend done (closed c (layout_from (line_end_of text at + 1) (line_start (p.line + 1)) (drop (line_end_of text at + 1) text)))) cut
    ∙ ap (λ (ss : List Spot). record { tokens = ss; flaw = None } ∷ layout_from (line_end_of text at + 1) (line_start (p.line + 1)) (drop (line_end_of text at + 1) text)) (append_nil done)
    ∙ ap (λ ls. record { tokens = done; flaw = None } ∷ ls) (
    ap (λ (n : ℕ). layout_from (n + 1) (line_start (p.line + 1)) (drop (n + 1) text)) line
    ∙ clamped (line_end_of text end + 1) (line_start (p.line + 1)) text
    ∙ ap (λ (n : ℕ). layout_from n (line_start (p.line + 1)) (drop n text)) (sym e))

closed_join : (ss : List Spot) (m : Mark) (c : Cut) (j : Option Mark) (ls : List Logical) → closed_at (record { tokens = ss; flaw = None; joint = Some m }) (Some m) (closed_at c j ls) ≡ extend ss (closed_at c j ls)
closed_join ss m c None ls = refl
closed_join ss m c (Some n) [] = refl
closed_join ss m c (Some n) (l ∷ ls) = refl

-- after a join with a line behind it
pub after_join : (done ss : List Spot) (m : Mark) (text : List ℕ) (at after next : ℕ) (p : Place) → cut_from text at p ≡ record { tokens = ss; flaw = None; joint = Some m } → line_end_of text at ≡ line_end_of text after → next ≡ min (line_end_of text after + 1) (length text) → next < length text → extend done (lines_from text at p) ≡ extend (done ++ ss) (lines_from text next (line_start (p.line + 1)))
after_join done ss m text at after next p cut line e h =
    ap (λ (c : Cut). extend done (closed c (layout_from (line_end_of text at + 1) (line_start (p.line + 1)) (drop (line_end_of text at + 1) text)))) cut
    ∙ ap (λ ls. extend done (closed (record { tokens = ss; flaw = None; joint = Some m }) ls)) (
    ap (λ (n : ℕ). layout_from n (line_start (p.line + 1)) (drop n text)) (ap (λ (n : ℕ). n + 1) line ∙ (let same : line_end_of text after + 1 ≡ next = omega arith in same))
    ∙ starts text next (line_start (p.line + 1)) h)
    ∙ ap (extend done) (closed_join ss m (cut_from text next (line_start (p.line + 1))) (cut_from text next (line_start (p.line + 1))).joint (layout_from (line_end_of text next + 1) (line_start (p.line + 1 + 1)) (drop (line_end_of text next + 1) text)))
    ∙ extend_more done ss (lines_from text next (line_start (p.line + 1)))

-- a join with none
pub open_first : (done ss : List Spot) (m : Mark) (text : List ℕ) (at after next : ℕ) (p : Place) → cut_from text at p ≡ record { tokens = ss; flaw = None; joint = Some m } → line_end_of text at ≡ line_end_of text after → next ≡ min (line_end_of text after + 1) (length text) → next ≡ length text → StandsFirst (OpenJoinAt m.place) (extend done (lines_from text at p))
open_first done ss m text at after next p cut line e h =
    let none : layout_from (line_end_of text at + 1) (line_start (p.line + 1)) (drop (line_end_of text at + 1) text) ≡ [] = past_end (line_end_of text at + 1) (line_start (p.line + 1)) text (omega arith) in
    subst (StandsFirst (OpenJoinAt m.place)) (sym (
    ap (λ (c : Cut). extend done (closed c (layout_from (line_end_of text at + 1) (line_start (p.line + 1)) (drop (line_end_of text at + 1) text)))) cut
    ∙ ap (λ ls. extend done (closed (record { tokens = ss; flaw = None; joint = Some m }) ls)) none)) refl

-- the place of a byte behind the cursor
pub place_is : (line start at here : ℕ) → start ≤ at → at ≤ here → moved (place_at line start at) (here - at) ≡ place_at line start here
place_is line start at here h k = let P : ℕ → Place = λ n. record { line = line; column = n } in ap P (let e : ((at - start) + 1) + (here - at) ≡ (here - start) + 1 = omega arith in e)

pub place_start : (line at : ℕ) → line_start line ≡ place_at line at at
place_start line at = let P : ℕ → Place = λ n. record { line = line; column = n } in ap P (let e : 1 ≡ (at - at) + 1 = omega arith in e)

-- the same over tokens and cursors
pub first_rest : (text : List ℕ) (at line start : ℕ) (tokens : List Token) → at < length text → start ≡ at → tokens ≡ [] → layout_from at (line_start line) (drop at text) ≡ extend (map (spot_of text) tokens) (lines_from text at (place_at line start at))
first_rest text at line start tokens h e none =
    ap (λ (p : Place). layout_from at p (drop at text)) (place_start line at)
    ∙ starts text at (place_at line at at) h
    ∙ sym (extend_none (lines_from text at (place_at line at at)))
    ∙ ap (λ (n : ℕ). extend [] (lines_from text at (place_at line n at))) (sym e)
    ∙ ap (λ (ts : List Token). extend (map (spot_of text) ts) (lines_from text at (place_at line start at))) (sym none)

pub join_rest : (text : List ℕ) (before after_tokens : List Token) (at line start first last after next number begin : ℕ) (place : Place) → IsJoin text at first last after → start ≤ at → place ≡ place_at line start first → map (spot_of text) after_tokens ≡ map (spot_of text) before ++ spots_between text first last place → next ≡ min (line_end_of text after + 1) (length text) → next < length text → number ≡ line + 1 → begin ≡ next → extend (map (spot_of text) before) (lines_from text at (place_at line start at)) ≡ extend (map (spot_of text) after_tokens) (lines_from text next (place_at number begin next))
join_rest text before after_tokens at line start first last after next number begin place j h is spots far some count same =
    after_join (map (spot_of text) before) (spots_between text first last (moved (place_at line start at) (first - at))) (record { byte = 92; start = last; place = moved (place_at line start at) (last - at) }) text at after next (place_at line start at) (j.cut (place_at line start at)) j.line_end far some
    ∙ ap (λ (p : Place). extend (map (spot_of text) before ++ spots_between text first last p) (lines_from text next (line_start (line + 1)))) (place_is line start at first h j.begin ∙ sym is)
    ∙ ap (λ (ss : List Spot). extend ss (lines_from text next (line_start (line + 1)))) (sym spots)
    ∙ ap (λ (p : Place). extend (map (spot_of text) after_tokens) (lines_from text next p)) (place_start (line + 1) next ∙ ap (λ (n : ℕ). place_at n next next) (sym count) ∙ ap (λ (n : ℕ). place_at number n next) (sym same))

between_some : (text : List ℕ) (start end : ℕ) (p : Place) → start < end → spots_between text start end p ≡ spot_between text start end p ∷ []
between_some text start end p h = let t : nat_lt start end ≡ true = lt-ltb start end h in rw t refl

pub word_rest : (text : List ℕ) (before after_tokens : List Token) (at line start first last : ℕ) (place : Place) → IsWord text at first last → start ≤ at → place ≡ place_at line start first → map (spot_of text) after_tokens ≡ map (spot_of text) before ++ spots_between text first last place → extend (map (spot_of text) before) (lines_from text at (place_at line start at)) ≡ extend (map (spot_of text) after_tokens) (lines_from text last (place_at line start last))
word_rest text before after_tokens at line start first last place w h is spots =
    let one : at ≤ first = w.begin in
    let two : first < last = w.some in
    after_word (map (spot_of text) before) (spot_between text first last (moved (place_at line start at) (first - at))) text at last (place_at line start at) (moved (place_at line start at) (last - at)) (w.cut (place_at line start at)) w.line_end refl
    ∙ ap (λ (p : Place). extend (map (spot_of text) before ++ spot_between text first last p ∷ []) (lines_from text last (moved (place_at line start at) (last - at)))) (place_is line start at first h one ∙ sym is)
    ∙ ap (λ (ss : List Spot). extend (map (spot_of text) before ++ ss) (lines_from text last (moved (place_at line start at) (last - at)))) (sym (between_some text first last place two))
    ∙ ap (λ (ss : List Spot). extend ss (lines_from text last (moved (place_at line start at) (last - at)))) (sym spots)
    ∙ ap (λ (p : Place). extend (map (spot_of text) after_tokens) (lines_from text last p)) (place_is line start at last h (omega arith))

pub close_rest : (text : List ℕ) (tokens : List Token) (at line start end next number : ℕ) → IsClose text at end → next ≡ min (line_end_of text end + 1) (length text) → number ≡ line + 1 → extend (map (spot_of text) tokens) (lines_from text at (place_at line start at)) ≡ record { tokens = map (spot_of text) tokens; flaw = None } ∷ layout_from next (line_start number) (drop next text)
close_rest text tokens at line start end next number d far count =
    after_close (map (spot_of text) tokens) text at end next (place_at line start at) (d.cut (place_at line start at)) d.line_end far
    ∙ ap (λ (n : ℕ). record { tokens = map (spot_of text) tokens; flaw = None } ∷ layout_from next (line_start n) (drop next text)) (sym count)

pub bad_rest : (text : List ℕ) (tokens : List Token) (at line start bad : ℕ) (place : Place) (ls : List Logical) → ls ≡ extend (map (spot_of text) tokens) (lines_from text at (place_at line start at)) → IsBad text at bad → start ≤ at → place ≡ place_at line start bad → StandsFirst (BadByteAt place) ls
bad_rest text tokens at line start bad place ls e b h is =
    let same : moved (place_at line start at) (bad - at) ≡ place = place_is line start at bad h b.begin ∙ sym is in
    subst (StandsFirst (BadByteAt place)) (sym e) (bad_first (map (spot_of text) tokens) text at (place_at line start at) (BadByteAt place) (b.cut (place_at line start at) ∙ ap (λ (p : Place). Some (BadByteAt p)) same))

pub open_rest : (text : List ℕ) (tokens : List Token) (at line start first last after next : ℕ) (place : Place) (ls : List Logical) → ls ≡ extend (map (spot_of text) tokens) (lines_from text at (place_at line start at)) → IsJoin text at first last after → start ≤ at → place ≡ place_at line start last → next ≡ min (line_end_of text after + 1) (length text) → next ≡ length text → StandsFirst (OpenJoinAt place) ls
open_rest text tokens at line start first last after next place ls e j h is far none =
    let one : at ≤ first = j.begin in
    let two : first ≤ last = j.some in
    let same : moved (place_at line start at) (last - at) ≡ place = place_is line start at last h (omega arith) ∙ sym is in
    subst (StandsFirst (OpenJoinAt place)) (sym e) (subst (λ (p : Place). StandsFirst (OpenJoinAt p) (extend (map (spot_of text) tokens) (lines_from text at (place_at line start at)))) same (open_first (map (spot_of text) tokens) (spots_between text first last (moved (place_at line start at) (first - at))) (record { byte = 92; start = last; place = moved (place_at line start at) (last - at) }) text at after next (place_at line start at) (j.cut (place_at line start at)) j.line_end far none))
