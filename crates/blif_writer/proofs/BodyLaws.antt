-- The lines behind the first one, as a model's lists say them in turn.
use Rattle.std.proofs.Common.{◌≡◌, Bool, true, false, List, [], ◌∷◌, ◌++◌, map, filter, refl, ap, sym, subst, ◌∙◌, inl, inr}
use Rattle.std.specs.Prelude.{◌⊎◌, ◌&&◌, ◌||◌, ◌≤◌, All, IfSome, codes, length}
use Rattle.std.proofs.lemmas.List.Elements.{All-head, All-tail}
use Rattle.std.proofs.lemmas.Bool.{and_parts}
use Rattle.rm_model.specs.Words.{is_word}
use Rattle.rm_model.specs.Value.{control_of}
use Rattle.rm_model.specs.WellFormed.{IsWellFormedCover}
use Rattle.rm_model.specs.declared.parts.Literal.{Literal}
use Rattle.rm_model.specs.declared.parts.Cover.{Cover}
use Rattle.rm_model.specs.declared.parts.Latch.{Latch}
use Rattle.blif_lines.specs.Layout.{Spot}
use Rattle.blif_format.specs.Text.{Line, cover_words, latch_words, row_words}
use Rattle.blif_format.specs.Grammar.{before, before_end, begins_with, follow, is_command, is_dotted, names_lines, words_after}
use Rattle.blif_writer.proofs.Counts.{IsSo, NotSo, told}
use Rattle.blif_writer.proofs.LineLaws.{if_false}
use Rattle.blif_writer.proofs.ReadLaws.{not_first}
use Rattle.blif_writer.proofs.SpotLaws.{words}
use Rattle.rm_base.proofs.Public.{tail_same}
use Rattle.rm_base.specs.Words.{Word}
use Rattle.rm_model.proofs.Public.{same_word}

-- the rows that a cover has still to come
pub data Open : Type 0 where
  Shut : Open
  Rows : Cover → List (List Literal) → Open

abbrev pub has_cover : Open → Bool
has_cover Shut = false
has_cover (Rows c rs) = true

abbrev pub NoRowsLeft : Open → Type 0
NoRowsLeft Shut = Unit {0}
NoRowsLeft (Rows c rs) = rs ≡ []

pub record IsGoodLatch (l : Latch) : Type 0 where
  pub init : IfSome l.init (λ n. n ≤ 3)
  pub control : IfSome (control_of l) (λ x. x ≡ codes "NIL" → ⊥)

pub data ListWord (w : Word) : Type 0 where
  IsInputs : w ≡ codes ".inputs" → ListWord w
  IsOutputs : w ≡ codes ".outputs" → ListWord w
  IsClock : w ≡ codes ".clock" → ListWord w

-- lines that say these latches and covers
pub data Body : Open → List (List Spot) → List Latch → List Cover → Type 0 where
  Done : (p : Open) → NoRowsLeft p → Body p [] [] []
  EndLine : (p : Open) (s : Spot) → s.word ≡ codes ".end" → NoRowsLeft p → Body p ((s ∷ []) ∷ []) [] []
  ListLine : (p : Open) (s : Spot) (ss : List Spot) (ts : List (List Spot)) (ls : List Latch) (cs : List Cover) → ListWord s.word → NoRowsLeft p → Body Shut ts ls cs → Body p ((s ∷ ss) ∷ ts) ls cs
  LatchLine : (p : Open) (s : Spot) (ss : List Spot) (ts : List (List Spot)) (l : Latch) (ls : List Latch) (cs : List Cover) → s.word ≡ codes ".latch" → words ss ≡ latch_words l → IsGoodLatch l → NoRowsLeft p → Body Shut ts ls cs → Body p ((s ∷ ss) ∷ ts) (l ∷ ls) cs
  NamesLine : (p : Open) (s : Spot) (ss : List Spot) (ts : List (List Spot)) (ls : List Latch) (c : Cover) (cs : List Cover) → s.word ≡ codes ".names" → words ss ≡ c.inputs ++ c.output ∷ [] → NoRowsLeft p → Body (Rows c c.rows) ts ls cs → Body p ((s ∷ ss) ∷ ts) ls (c ∷ cs)
  RowLine : (s : Spot) (ss : List Spot) (ts : List (List Spot)) (ls : List Latch) (c : Cover) (r : List Literal) (rs : List (List Literal)) (cs : List Cover) → words (s ∷ ss) ≡ row_words c.on r → length r ≡ length c.inputs → Body (Rows c rs) ts ls cs → Body (Rows c (r ∷ rs)) ((s ∷ ss) ∷ ts) ls cs

-- what is known of the lines that are left
abbrev pub RowsAre : Open → List Line → Type 0
RowsAre Shut lines = Unit {0}
RowsAre (Rows c rs) lines = (before is_dotted lines ≡ map (row_words c.on) rs) × All (λ (r : List Literal). length r ≡ length c.inputs) rs

pub record IsLeft (p : Open) (lines : List Line) (ls : List Latch) (cs : List Cover) : Type 0 where
  pub ending : (lines ≡ before_end lines) ⊎ (lines ≡ before_end lines ++ (codes ".end" ∷ []) ∷ [])
  pub commands : follow (has_cover p) (before_end lines) ≡ true
  pub rows : RowsAre p lines
  pub latches : map words_after (filter (begins_with (codes ".latch")) lines) ≡ map latch_words ls
  pub covers : names_lines lines ≡ map cover_words cs
  pub good_latches : All IsGoodLatch ls
  pub good_covers : All IsWellFormedCover cs

pub head_of : {A : Type 0} {x y : A} {xs ys : List A} → x ∷ xs ≡ y ∷ ys → x ≡ y
head_of e = cc

-- a line that begins no row ends the rows
shut_by_dot : (p : Open) (w : Word) (ws : Line) (lines : List Line) → is_dotted (w ∷ ws) ≡ true → RowsAre p ((w ∷ ws) ∷ lines) → NoRowsLeft p
shut_by_dot Shut w ws lines dot h = tt
shut_by_dot (Rows c []) w ws lines dot h = refl
shut_by_dot (Rows c (r ∷ rs)) w ws lines dot h = let e : [] ≡ row_words c.on r ∷ map (row_words c.on) rs = rw dot at h.0 in cc

rows_at_end : (p : Open) → RowsAre p [] → NoRowsLeft p
rows_at_end Shut h = tt
rows_at_end (Rows c []) h = refl
rows_at_end (Rows c (r ∷ rs)) h = cc (h.0)

pub ending_tail : (l : Line) (lines : List Line) → (l ∷ lines ≡ l ∷ before_end lines) ⊎ (l ∷ lines ≡ (l ∷ before_end lines) ++ (codes ".end" ∷ []) ∷ []) → (lines ≡ before_end lines) ⊎ (lines ≡ before_end lines ++ (codes ".end" ∷ []) ∷ [])
ending_tail l lines (inl e) = inl (tail_same e)
ending_tail l lines (inr e) = inr (tail_same e)

-- the line in front, and what is known of those behind it
record IsAhead (p : Open) (w : Word) (ws : Line) (lines : List Line) (ls : List Latch) (cs : List Cover) : Type 0 where
  ending : (lines ≡ before_end lines) ⊎ (lines ≡ before_end lines ++ (codes ".end" ∷ []) ∷ [])
  commands : follow (begins_with (codes ".names") (w ∷ ws)) (before_end lines) ≡ true
  rows : NoRowsLeft p
  latches : map words_after (filter (begins_with (codes ".latch")) ((w ∷ ws) ∷ lines)) ≡ map latch_words ls
  covers : names_lines ((w ∷ ws) ∷ lines) ≡ map cover_words cs
  good_latches : All IsGoodLatch ls
  good_covers : All IsWellFormedCover cs

list_line : (p : Open) (w : Word) (ws : Line) (lines : List Line) (ls : List Latch) (cs : List Cover) → ListWord w → IsAhead p w ws lines ls cs → IsLeft Shut lines ls cs
list_line p w ws lines ls cs (IsInputs e) a =
    let h : IsAhead p (codes ".inputs") ws lines ls cs = subst (λ (x : Word). IsAhead p x ws lines ls cs) e a in
    record { ending = h.ending; commands = h.commands; rows = tt; latches = h.latches; covers = h.covers; good_latches = h.good_latches; good_covers = h.good_covers }
list_line p w ws lines ls cs (IsOutputs e) a =
    let h : IsAhead p (codes ".outputs") ws lines ls cs = subst (λ (x : Word). IsAhead p x ws lines ls cs) e a in
    record { ending = h.ending; commands = h.commands; rows = tt; latches = h.latches; covers = h.covers; good_latches = h.good_latches; good_covers = h.good_covers }
list_line p w ws lines ls cs (IsClock e) a =
    let h : IsAhead p (codes ".clock") ws lines ls cs = subst (λ (x : Word). IsAhead p x ws lines ls cs) e a in
    record { ending = h.ending; commands = h.commands; rows = tt; latches = h.latches; covers = h.covers; good_latches = h.good_latches; good_covers = h.good_covers }

abbrev Goes : List (List Spot) → Type 0
Goes ts = (p : Open) (ls : List Latch) (cs : List Cover) → IsLeft p (map words ts) ls cs → Body p ts ls cs

latch_line : (p : Open) (s : Spot) (ss : List Spot) (ts : List (List Spot)) (ls : List Latch) (cs : List Cover) → s.word ≡ codes ".latch" → IsAhead p (codes ".latch") (words ss) (map words ts) ls cs → Goes ts → Body p ((s ∷ ss) ∷ ts) ls cs
latch_line p s ss ts [] cs e h goes = absurd (cc (h.latches))
latch_line p s ss ts (l ∷ ls) cs e h goes =
    LatchLine p s ss ts l ls cs e (head_of (h.latches)) (All-head IsGoodLatch l ls h.good_latches) h.rows
    (goes Shut ls cs (record { ending = h.ending; commands = h.commands; rows = tt; latches = tail_same (h.latches); covers = h.covers; good_latches = All-tail IsGoodLatch l ls h.good_latches; good_covers = h.good_covers }))

names_line : (p : Open) (s : Spot) (ss : List Spot) (ts : List (List Spot)) (ls : List Latch) (cs : List Cover) → s.word ≡ codes ".names" → IsAhead p (codes ".names") (words ss) (map words ts) ls cs → Goes ts → Body p ((s ∷ ss) ∷ ts) ls cs
names_line p s ss ts ls [] e h goes = absurd (cc (h.covers))
names_line p s ss ts ls (c ∷ cs) e h goes =
    let here : (words ss, before is_dotted (map words ts)) ≡ cover_words c = head_of (h.covers) in
    let good = All-head IsWellFormedCover c cs h.good_covers in
    NamesLine p s ss ts ls c cs e (ap (λ (q : Line × List Line). q.0) here) h.rows
    (goes (Rows c c.rows) ls cs (record { ending = h.ending; commands = h.commands; rows = (ap (λ (q : Line × List Line). q.1) here, good.row_lengths); latches = h.latches; covers = tail_same (h.covers); good_latches = h.good_latches; good_covers = All-tail IsWellFormedCover c cs h.good_covers }))

-- the command of a line
data Which (w : Word) : Type 0 where
  OfList : ListWord w → Which w
  OfLatch : w ≡ codes ".latch" → Which w
  OfNames : w ≡ codes ".names" → Which w

or_cases : (a b : Bool) → a || b ≡ true → (a ≡ true) ⊎ (b ≡ true)
or_cases true b e = inl refl
or_cases false b e = inr e

which : (w : Word) (ws : Line) → is_command (w ∷ ws) ≡ true → Which w
which w ws e = elim (or_cases (is_word (codes ".inputs") w) _ e) [
  | inl t ↦ OfList (IsInputs (sym (same_word (codes ".inputs") w t)))
  | inr f ↦ elim (or_cases (is_word (codes ".outputs") w) _ f) [
    | inl t ↦ OfList (IsOutputs (sym (same_word (codes ".outputs") w t)))
    | inr g ↦ elim (or_cases (is_word (codes ".clock") w) _ g) [
      | inl t ↦ OfList (IsClock (sym (same_word (codes ".clock") w t)))
      | inr h ↦ elim (or_cases (is_word (codes ".latch") w) _ h) [
        | inl t ↦ OfLatch (sym (same_word (codes ".latch") w t))
        | inr t ↦ OfNames (sym (same_word (codes ".names") w t))
      ]
    ]
  ]
]

command_line : (p : Open) (s : Spot) (ss : List Spot) (ts : List (List Spot)) (ls : List Latch) (cs : List Cover) → Which s.word → IsAhead p s.word (words ss) (map words ts) ls cs → Goes ts → Body p ((s ∷ ss) ∷ ts) ls cs
command_line p s ss ts ls cs (OfList l) h goes = ListLine p s ss ts ls cs l h.rows (goes Shut ls cs (list_line p s.word (words ss) (map words ts) ls cs l h))
command_line p s ss ts ls cs (OfLatch e) h goes = latch_line p s ss ts ls cs e (subst (λ (x : Word). IsAhead p x (words ss) (map words ts) ls cs) e h) goes
command_line p s ss ts ls cs (OfNames e) h goes = names_line p s ss ts ls cs e (subst (λ (x : Word). IsAhead p x (words ss) (map words ts) ls cs) e h) goes

row_line : (p : Open) (s : Spot) (ss : List Spot) (ts : List (List Spot)) (ls : List Latch) (cs : List Cover) → is_dotted (words (s ∷ ss)) ≡ false → IsLeft p (words (s ∷ ss) ∷ map words ts) ls cs → before_end (words (s ∷ ss) ∷ map words ts) ≡ words (s ∷ ss) ∷ before_end (map words ts) → Goes ts → Body p ((s ∷ ss) ∷ ts) ls cs
row_line Shut s ss ts ls cs dot h step goes =
    let line = words (s ∷ ss) in
    let e : follow false (line ∷ before_end (map words ts)) ≡ true = ap (follow false) (sym step) ∙ h.commands in
    let f : false ≡ true = sym (if_false (is_command line && follow (begins_with (codes ".names") line) (before_end (map words ts))) false dot) ∙ e in
    absurd (cc (f))
row_line (Rows c []) s ss ts ls cs dot h step goes =
    let line = words (s ∷ ss) in
    let e : line ∷ before is_dotted (map words ts) ≡ [] = sym (if_false [] (line ∷ before is_dotted (map words ts)) dot) ∙ h.rows.0 in
    absurd (cc (e))
row_line (Rows c (r ∷ rs)) s ss ts ls cs dot h step goes =
    let line = words (s ∷ ss) in
    let lines = map words ts in
    let e : follow true (line ∷ before_end lines) ≡ true = ap (follow true) (sym step) ∙ h.commands in
    let commands : follow true (before_end lines) ≡ true = sym (if_false (is_command line && follow (begins_with (codes ".names") line) (before_end lines)) (true && follow true (before_end lines)) dot) ∙ e in
    let rows : line ∷ before is_dotted lines ≡ row_words c.on r ∷ map (row_words c.on) rs = sym (if_false [] (line ∷ before is_dotted lines) dot) ∙ h.rows.0 in
    let latch = not_first (codes "latch") line dot in
    let names = not_first (codes "names") line dot in
    let lengths = λ (x : List Literal). length x ≡ length c.inputs in
    RowLine s ss ts ls c r rs cs (head_of rows) (All-head lengths r rs h.rows.1)
    (goes (Rows c rs) ls cs (record {
      ending = ending_tail line lines (subst (λ (x : List Line). (line ∷ lines ≡ x) ⊎ (line ∷ lines ≡ x ++ (codes ".end" ∷ []) ∷ [])) step h.ending);
      commands = commands;
      rows = (tail_same rows, All-tail lengths r rs h.rows.1);
      latches = ap (map words_after) (sym (if_false (line ∷ filter (begins_with (codes ".latch")) lines) (filter (begins_with (codes ".latch")) lines) latch)) ∙ h.latches;
      covers = sym (if_false ((words_after line, before is_dotted lines) ∷ names_lines lines) (names_lines lines) names) ∙ h.covers;
      good_latches = h.good_latches;
      good_covers = h.good_covers;
    }))

end_line : (p : Open) (s : Spot) (ss : List Spot) (ts : List (List Spot)) (ls : List Latch) (cs : List Cover) → s.word ≡ codes ".end" → IsLeft p ((codes ".end" ∷ words ss) ∷ map words ts) ls cs → Body p ((s ∷ ss) ∷ ts) ls cs
end_line p s [] [] [] [] e h = EndLine p s e (shut_by_dot p (codes ".end") [] [] refl h.rows)
end_line p s [] [] (l ∷ ls) cs e h = absurd (cc (h.latches))
end_line p s [] [] [] (c ∷ cs) e h = absurd (cc (h.covers))
end_line p s (x ∷ xs) ts ls cs e h = elim h.ending [ inl f ↦ absurd (cc (f)) | inr f ↦ absurd (cc (f)) ]
end_line p s [] (t ∷ ts) ls cs e h = elim h.ending [ inl f ↦ absurd (cc (f)) | inr f ↦ absurd (cc (f)) ]

no_line : (p : Open) (ls : List Latch) (cs : List Cover) → IsLeft p [] ls cs → Body p [] ls cs
no_line p [] [] h = Done p (rows_at_end p h.rows)
no_line p (l ∷ ls) cs h = absurd (cc (h.latches))
no_line p [] (c ∷ cs) h = absurd (cc (h.covers))

empty_line : (p : Open) (ts : List (List Spot)) (ls : List Latch) (cs : List Cover) → IsLeft p ([] ∷ map words ts) ls cs → ⊥
empty_line Shut ts ls cs h = cc (h.commands)
empty_line (Rows c []) ts ls cs h = cc (h.rows.0)
empty_line (Rows c ([] ∷ rs)) ts ls cs h = cc (h.rows.0)
empty_line (Rows c ((l ∷ r) ∷ rs)) ts ls cs h = cc (h.rows.0)

pub body_from : (ts : List (List Spot)) → Goes ts
body_from [] p ls cs h = no_line p ls cs h
body_from ([] ∷ ts) p ls cs h = absurd (empty_line p ts ls cs h)
body_from ((s ∷ ss) ∷ ts) p ls cs h =
    let goes = body_from ts in
    let lines = map words ts in
    let line = words (s ∷ ss) in
    elim (told (is_word (codes ".end") s.word)) [
      | IsSo t ↦
          let e = sym (same_word (codes ".end") s.word t) in
          end_line p s ss ts ls cs e (subst (λ (x : Word). IsLeft p ((x ∷ words ss) ∷ lines) ls cs) e h)
      | NotSo n ↦
          let step : before_end (line ∷ lines) ≡ line ∷ before_end lines = if_false [] (line ∷ before_end lines) n in
          elim (told (is_dotted line)) [
            | IsSo d ↦
                let e : follow (has_cover p) (line ∷ before_end lines) ≡ true = ap (follow (has_cover p)) (sym step) ∙ h.commands in
                let f : is_command line && follow (begins_with (codes ".names") line) (before_end lines) ≡ true = rw d at e in
                let parts = and_parts (is_command line) (follow (begins_with (codes ".names") line) (before_end lines)) f in
                command_line p s ss ts ls cs (which s.word (words ss) parts.0)
                (record {
                  ending = ending_tail line lines (subst (λ (x : List Line). (line ∷ lines ≡ x) ⊎ (line ∷ lines ≡ x ++ (codes ".end" ∷ []) ∷ [])) step h.ending);
                  commands = parts.1;
                  rows = shut_by_dot p s.word (words ss) lines d h.rows;
                  latches = h.latches;
                  covers = h.covers;
                  good_latches = h.good_latches;
                  good_covers = h.good_covers;
                })
                goes
            | NotSo d ↦ row_line p s ss ts ls cs d h step goes
          ]
    ]
