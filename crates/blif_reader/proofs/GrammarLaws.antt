-- What one more line adds to what the grammar reads of lines.
use Rattle.std.proofs.Common.{◌≡◌, List, [], ◌∷◌, ◌++◌, map, filter, Bool, true, false, ◌&&◌, ◌||◌, inl, inr, refl, sym, ◌∙◌, ap, append_assoc}
use Rattle.std.specs.Prelude.{if◌then◌else◌, codes}
use Rattle.blif_format.specs.Text.{Line}
use Rattle.blif_format.specs.Grammar.{before, begins_with, is_dotted, words_after, words_of, names_lines, is_command, follow}
use Rattle.blif_reader.specs.Inner.Drafts.{is_open, add_row}
use Rattle.blif_reader.proofs.Compared.{word_tells}
use Rattle.rm_base.proofs.Public.{neither_first, neither_second}
use Rattle.rm_base.specs.Words.{Word}

pub words_more : (x : Word) (ls : List Line) (l : Line) → words_of x (ls ++ l ∷ []) ≡ words_of x ls ++ (if begins_with x l then words_after l else [])
words_more x [] l = at (begins_with x l) refl
  where
    append_none : (xs : List Word) → xs ++ [] ≡ xs
    append_none [] = refl
    append_none (y ∷ ys) = ap (λ zs. y ∷ zs) (append_none ys)

    at : (t : Bool) → begins_with x l ≡ t → words_of x (l ∷ []) ≡ (if begins_with x l then words_after l else [])
    at true e = rw e (append_none (words_after l))
    at false e = rw e refl
words_more x (k ∷ ks) l = at (begins_with x k) refl (words_more x ks l)
  where
    at : (t : Bool) → begins_with x k ≡ t → words_of x (ks ++ l ∷ []) ≡ words_of x ks ++ (if begins_with x l then words_after l else []) → words_of x ((k ∷ ks) ++ l ∷ []) ≡ words_of x (k ∷ ks) ++ (if begins_with x l then words_after l else [])
    at true e ih = rw e (ap (λ ws. words_after k ++ ws) ih ∙ sym (append_assoc (words_after k) (words_of x ks) (if begins_with x l then words_after l else [])))
    at false e ih = rw e ih

pub lines_more : (x : Word) (ls : List Line) (l : Line) → map words_after (filter (begins_with x) (ls ++ l ∷ [])) ≡ map words_after (filter (begins_with x) ls) ++ (if begins_with x l then words_after l ∷ [] else [])
lines_more x [] l = at (begins_with x l) refl
  where
    at : (t : Bool) → begins_with x l ≡ t → map words_after (filter (begins_with x) (l ∷ [])) ≡ (if begins_with x l then words_after l ∷ [] else [])
    at true e = rw e refl
    at false e = rw e refl
lines_more x (k ∷ ks) l = at (begins_with x k) refl (lines_more x ks l)
  where
    at : (t : Bool) → begins_with x k ≡ t → map words_after (filter (begins_with x) (ks ++ l ∷ [])) ≡ map words_after (filter (begins_with x) ks) ++ (if begins_with x l then words_after l ∷ [] else []) → map words_after (filter (begins_with x) ((k ∷ ks) ++ l ∷ [])) ≡ map words_after (filter (begins_with x) (k ∷ ks)) ++ (if begins_with x l then words_after l ∷ [] else [])
    at true e ih = rw e (ap (λ ws. words_after k ∷ ws) ih)
    at false e ih = rw e ih

-- a dotted line ends the rows before it
before_dotted : (ls : List Line) (l : Line) → is_dotted l ≡ true → before is_dotted (ls ++ l ∷ []) ≡ before is_dotted ls
before_dotted [] l e = rw e refl
before_dotted (k ∷ ks) l e = ap (λ (xs : List Line). if is_dotted k then [] else k ∷ xs) (before_dotted ks l e)

pub names_more : (ls : List Line) (l : Line) → is_dotted l ≡ true → names_lines (ls ++ l ∷ []) ≡ names_lines ls ++ (if begins_with (codes ".names") l then (words_after l, []) ∷ [] else [])
names_more [] l e = refl
names_more (k ∷ ks) l e = at (begins_with (codes ".names") k) refl (names_more ks l e)
  where
    at : (t : Bool) → begins_with (codes ".names") k ≡ t → names_lines (ks ++ l ∷ []) ≡ names_lines ks ++ (if begins_with (codes ".names") l then (words_after l, []) ∷ [] else []) → names_lines ((k ∷ ks) ++ l ∷ []) ≡ names_lines (k ∷ ks) ++ (if begins_with (codes ".names") l then (words_after l, []) ∷ [] else [])
    at true i ih = rw i (ap (λ (rs : List Line). (words_after k, rs) ∷ names_lines (ks ++ l ∷ [])) (before_dotted ks l e) ∙ ap (λ xs. (words_after k, before is_dotted ks) ∷ xs) ih)
    at false i ih = rw i ih

-- a row belongs to the last `.names` behind which only rows stand
pub begins_dotted : (l : Line) → is_dotted l ≡ false → begins_with (codes ".names") l ≡ false
begins_dotted [] e = refl
begins_dotted ([] ∷ ws) e = refl
begins_dotted ((b ∷ bs) ∷ ws) e = elim (word_tells (codes ".names") (b ∷ bs)) [ inl t ↦ let wrong : true ≡ false = ap (λ (w : Word). is_dotted (w ∷ ws)) t.1 ∙ e in cc | inr t ↦ t.0 ]

-- whether a dotted line stands among them
abbrev has_dotted : List Line → Bool
has_dotted [] = false
has_dotted (l ∷ ls) = is_dotted l || has_dotted ls

open_dotted : (c d : Bool) (ls : List Line) → has_dotted ls ≡ true → is_open c ls ≡ is_open d ls
open_dotted c d [] h = cc
open_dotted c d (l ∷ ls) h = at (is_dotted l) refl (open_dotted c d ls)
  where
    at : (t : Bool) → is_dotted l ≡ t → (has_dotted ls ≡ true → is_open c ls ≡ is_open d ls) → is_open c (l ∷ ls) ≡ is_open d (l ∷ ls)
    at true e ih = rw e refl
    at false e ih = rw e (ih (rw e at h))

plain_before : (ls : List Line) (r : Line) → is_dotted r ≡ false → has_dotted ls ≡ false → before is_dotted (ls ++ r ∷ []) ≡ before is_dotted ls ++ r ∷ []
plain_before [] r e h = rw e refl
plain_before (l ∷ ls) r e h =
    let here : is_dotted l ≡ false = neither_first (is_dotted l) (has_dotted ls) h in
    rw here (ap (λ (xs : List Line). l ∷ xs) (plain_before ls r e (neither_second (is_dotted l) (has_dotted ls) h)))

plain_names : (ls : List Line) → has_dotted ls ≡ false → names_lines ls ≡ []
plain_names [] h = refl
plain_names (l ∷ ls) h = let here : begins_with (codes ".names") l ≡ false = begins_dotted l (neither_first (is_dotted l) (has_dotted ls) h) in rw here (plain_names ls (neither_second (is_dotted l) (has_dotted ls) h))

plain_more : (ls : List Line) (r : Line) → is_dotted r ≡ false → has_dotted ls ≡ false → has_dotted (ls ++ r ∷ []) ≡ false
plain_more [] r e h = rw e refl
plain_more (l ∷ ls) r e h = let here : is_dotted l ≡ false = neither_first (is_dotted l) (has_dotted ls) h in rw here (plain_more ls r e (neither_second (is_dotted l) (has_dotted ls) h))

dotted_before : (ls : List Line) (r : Line) → has_dotted ls ≡ true → before is_dotted (ls ++ r ∷ []) ≡ before is_dotted ls
dotted_before [] r h = cc
dotted_before (l ∷ ls) r h = at (is_dotted l) refl (dotted_before ls r)
  where
    at : (t : Bool) → is_dotted l ≡ t → (has_dotted ls ≡ true → before is_dotted (ls ++ r ∷ []) ≡ before is_dotted ls) → before is_dotted ((l ∷ ls) ++ r ∷ []) ≡ before is_dotted (l ∷ ls)
    at true e ih = rw e refl
    at false e ih = rw e (ap (λ (xs : List Line). l ∷ xs) (ih (rw e at h)))

abbrev HasRows : List Line → Line → Type 0
HasRows ls r = (x : Line × List Line) × ((xs : List (Line × List Line)) × ((names_lines ls ≡ x ∷ xs) × (names_lines (ls ++ r ∷ []) ≡ add_row r (x ∷ xs))))

row_joins : (ls : List Line) (r : Line) → is_dotted r ≡ false → is_open false ls ≡ true → HasRows ls r
row_joins [] r e h = cc
row_joins (l ∷ ls) r e h = at (begins_with (codes ".names") l) (has_dotted ls) refl refl (row_joins ls r e)
  where
    dots : begins_with (codes ".names") l ≡ true → is_dotted l ≡ true
    dots b = by (is_dotted l) refl
      where
        by : (t : Bool) → is_dotted l ≡ t → is_dotted l ≡ true
        by true i = i
        by false i = let wrong : true ≡ false = sym b ∙ begins_dotted l i in cc

    later : begins_with (codes ".names") l ≡ true → is_open true ls ≡ true
    later b = let opens : is_open (if is_dotted l then begins_with (codes ".names") l else false) ls ≡ true = h in rw (dots b, b) at opens

    other : begins_with (codes ".names") l ≡ false → is_open false ls ≡ true
    other b = by (is_dotted l) refl
      where
        opens : is_open (if is_dotted l then begins_with (codes ".names") l else false) ls ≡ true
        opens = h

        by : (t : Bool) → is_dotted l ≡ t → is_open false ls ≡ true
        by true i = rw (i, b) at opens
        by false i = rw i at opens

    at : (t d : Bool) → begins_with (codes ".names") l ≡ t → has_dotted ls ≡ d → (is_open false ls ≡ true → HasRows ls r) → HasRows (l ∷ ls) r
    at true true b d ih =
        let i : HasRows ls r = ih (open_dotted false true ls d ∙ later b) in
        ((words_after l, before is_dotted ls), (i.0 ∷ i.1.0, (rw b (ap (λ xs. (words_after l, before is_dotted ls) ∷ xs) i.1.1.0), rw b (ap (λ (rs : List Line). (words_after l, rs) ∷ names_lines (ls ++ r ∷ [])) (dotted_before ls r d) ∙ ap (λ xs. (words_after l, before is_dotted ls) ∷ xs) i.1.1.1))))
    at true false b d ih =
        ((words_after l, before is_dotted ls), ([], (rw b (ap (λ xs. (words_after l, before is_dotted ls) ∷ xs) (plain_names ls d)), rw b (ap (λ (rs : List Line). (words_after l, rs) ∷ names_lines (ls ++ r ∷ [])) (plain_before ls r e d) ∙ ap (λ xs. (words_after l, before is_dotted ls ++ r ∷ []) ∷ xs) (plain_names (ls ++ r ∷ []) (plain_more ls r e d))))))
    at false d b g ih = let i : HasRows ls r = ih (other b) in (i.0, (i.1.0, (rw b i.1.1.0, rw b i.1.1.1)))

pub names_row : (ls : List Line) (r : Line) → is_dotted r ≡ false → is_open false ls ≡ true → names_lines (ls ++ r ∷ []) ≡ add_row r (names_lines ls)
names_row ls r e h = let i : HasRows ls r = row_joins ls r e h in i.1.1.1 ∙ ap (add_row r) (sym i.1.1.0)

pub follow_more : (c : Bool) (ls : List Line) (l : Line) → follow c ls ≡ true → (if is_dotted l then is_command l else is_open c ls) ≡ true → follow c (ls ++ l ∷ []) ≡ true
follow_more c [] l f h = at (is_dotted l) refl
  where
    and_true : (a : Bool) → a ≡ true → (a && true) ≡ true
    and_true a e = rw e refl

    at : (t : Bool) → is_dotted l ≡ t → follow c (l ∷ []) ≡ true
    at true e = rw e (and_true (is_command l) (rw e at h))
    at false e = rw e (and_true c (rw e at h))
follow_more c (k ∷ ks) l f h = at (is_dotted k) refl (λ d. follow_more d ks l)
  where
    left : (a b : Bool) → (a && b) ≡ true → a ≡ true
    left true b e = refl
    left false b e = e

    right : (a b : Bool) → (a && b) ≡ true → b ≡ true
    right true b e = e
    right false b e = cc

    at : (t : Bool) → is_dotted k ≡ t → ((d : Bool) → follow d ks ≡ true → (if is_dotted l then is_command l else is_open d ks) ≡ true → follow d (ks ++ l ∷ []) ≡ true) → follow c ((k ∷ ks) ++ l ∷ []) ≡ true
    at true e ih =
        let g : (is_command k && follow (begins_with (codes ".names") k) ks) ≡ true = rw e at f in
        let o : (if is_dotted l then is_command l else is_open (begins_with (codes ".names") k) ks) ≡ true = rw e at h in
        rw (e, left (is_command k) (follow (begins_with (codes ".names") k) ks) g) (ih (begins_with (codes ".names") k) (right (is_command k) (follow (begins_with (codes ".names") k) ks) g) o)
    at false e ih =
        let g : (c && follow c ks) ≡ true = rw e at f in
        let o : (if is_dotted l then is_command l else is_open c ks) ≡ true = rw e at h in
        rw e (ap (λ b. b && follow c (ks ++ l ∷ [])) (left c (follow c ks) g) ∙ ih c (right c (follow c ks) g) o)

pub open_more : (c : Bool) (ls : List Line) (l : Line) → is_open c (ls ++ l ∷ []) ≡ (if is_dotted l then begins_with (codes ".names") l else is_open c ls)
open_more c [] l = refl
open_more c (k ∷ ks) l = open_more (if is_dotted k then begins_with (codes ".names") k else c) ks l

pub before_more : (test : Line → Bool) (ls : List Line) (l : Line) → before test ls ≡ ls → before test (ls ++ l ∷ []) ≡ (if test l then ls else ls ++ l ∷ [])
before_more test [] l e = refl
before_more test (k ∷ ks) l e = at (test k) refl (before_more test ks l)
  where
    tail : List Line → List Line
    tail [] = []
    tail (x ∷ xs) = xs

    push : (t : Bool) → k ∷ (if t then ks else ks ++ l ∷ []) ≡ (if t then k ∷ ks else (k ∷ ks) ++ l ∷ [])
    push true = refl
    push false = refl

    at : (t : Bool) → test k ≡ t → (before test ks ≡ ks → before test (ks ++ l ∷ []) ≡ (if test l then ks else ks ++ l ∷ [])) → before test ((k ∷ ks) ++ l ∷ []) ≡ (if test l then k ∷ ks else (k ∷ ks) ++ l ∷ [])
    at true i ih = let wrong : [] ≡ k ∷ ks = rw i at e in cc
    at false i ih = let now : k ∷ before test ks ≡ k ∷ ks = rw i at e in rw i (ap (λ (xs : List Line). k ∷ xs) (ih (ap tail now)) ∙ push (test l))
