-- A row that is added to a cover.
use Rattle.std.proofs.Common.{◌≡◌, ℕ, suc, List, [], ◌∷◌, ◌++◌, map, length, Bool, true, false, not, ◌&&◌, ◌||◌, inl, inr, refl, sym, ◌∙◌, ap, subst, arith, Option, None, Some}
use Rattle.std.specs.Prelude.{if◌then◌else◌, codes, ◌==◌}
use Rattle.std.proofs.lemmas.Bool.Decides.{eqb_tells}
use Rattle.std.proofs.lemmas.Bool.{eqb-true}
use Rattle.std.specs.Prelude.{All}
use Rattle.std.proofs.lemmas.List.Elements.{All-nil, All-cons, All-head, All-tail, All-same, All-push}
use Rattle.std.proofs.lemmas.List.{length-map, map-append}
use Rattle.rm_model.specs.WellFormed.{IsWellFormedCover}
use Rattle.blif_lines.specs.Reading.{spot_of}
use Rattle.blif_lines.specs.declared.line.Token.{Token}
use Rattle.rm_base.specs.declared.numbers.Place.{Place}
use Rattle.rm_model.specs.Words.{is_word, literal_byte}
use Rattle.rm_model.specs.declared.parts.Literal.{Literal}
use Rattle.rm_model.specs.declared.parts.Cover.{Cover}
use Rattle.blif_lines.specs.Layout.{Spot}
use Rattle.blif_format.specs.Text.{Line, on_word, row_words, cover_words}
use Rattle.blif_format.specs.FirstFault.{OpenCover as SaidCover, or_else, fault_if, row_fault, rest_fault, ending_fault, extra_fault, character_fault, is_ending, is_other_ending, is_literal, next_column, with_row, last_word}
use Rattle.blif_format.specs.declared.refusal.FaultKind.{FaultKind}
use Rattle.blif_format.specs.declared.refusal.FaultKind.TheVariants.{RowCharacter, MixedCover, RowLength}
use Rattle.blif_format.specs.declared.refusal.ReadRefusal.{ReadRefusal}
use Rattle.blif_reader.specs.Lines.{are_literals}
use Rattle.blif_reader.specs.Inner.Drafts.{opt_list, all_covers, ending_of, RowsAre, CurrentIs, HasRow, AddsRow, IsShaped, add_row, last_token, inputs_in}
use Rattle.blif_reader.specs.declared.draft.Draft.{Draft}
use Rattle.blif_reader.proofs.Compared.{word_tells}
use Rattle.rm_base.proofs.Public.{true_from_not}
use Rattle.rm_base.specs.Words.{Word}
use Rattle.rm_model.proofs.Public.{same_word}

pub first_none : (a b : Option ReadRefusal) → or_else a b ≡ None → a ≡ None
first_none None b e = refl
first_none (Some r) b e = e

pub second_none : (a b : Option ReadRefusal) → or_else a b ≡ None → b ≡ None
second_none None b e = e
second_none (Some r) b e = cc

pub not_fault : (t : Bool) (kind : FaultKind) (place : Place) → fault_if t kind place ≡ None → t ≡ false
not_fault true kind place e = cc
not_fault false kind place e = refl

all_literal : (place : Place) (w : Word) → character_fault place w ≡ None → are_literals w ≡ true
all_literal place [] e = refl
all_literal place (b ∷ bs) e =
    let here : not (is_literal b) ≡ false = not_fault (not (is_literal b)) RowCharacter place (first_none (fault_if (not (is_literal b)) RowCharacter place) (character_fault (next_column place) bs) e) in
    let more : are_literals bs ≡ true = all_literal (next_column place) bs (second_none (fault_if (not (is_literal b)) RowCharacter place) (character_fault (next_column place) bs) e) in
    at (is_literal b) here more
  where
    at : (t : Bool) → not t ≡ false → are_literals bs ≡ true → (t && are_literals bs) ≡ true
    at true h m = m
    at false h m = cc

-- an ending that passes
pub record IsLast (first : Option Word) (w : Word) (on : Bool) : Type 0 where
  pub word : w ≡ on_word on
  pub same : (v : Word) → first ≡ Some v → v ≡ w

ending_passes : (first : Option Word) (s : Spot) → ending_fault first s ≡ None → IsLast first s.word (is_word (codes "1") s.word)
ending_passes first s e = record { word = word; same = same first (not_fault (is_other_ending first s.word) MixedCover s.place (second_none (fault_if (not (is_ending s.word)) RowCharacter s.place) (fault_if (is_other_ending first s.word) MixedCover s.place) e)) }
  where
    one : not (is_ending s.word) ≡ false
    one = not_fault (not (is_ending s.word)) RowCharacter s.place (first_none (fault_if (not (is_ending s.word)) RowCharacter s.place) (fault_if (is_other_ending first s.word) MixedCover s.place) e)

    word : s.word ≡ on_word (is_word (codes "1") s.word)
    word = elim (word_tells (codes "1") s.word) [
      | inl t ↦ sym t.1 ∙ ap on_word (sym t.0)
      | inr t ↦ elim (word_tells (codes "0") s.word) [
        | inl u ↦ sym u.1 ∙ ap on_word (sym t.0)
        | inr u ↦ let wrong : not (false || false) ≡ false = ap (λ b. not (b || false)) (sym u.0) ∙ ap (λ b. not (is_word (codes "0") s.word || b)) (sym t.0) ∙ one in cc
      ]
    ]

    same : (o : Option Word) → is_other_ending o s.word ≡ false → (v : Word) → o ≡ Some v → v ≡ s.word
    same None h v e = cc
    same (Some x) h v e = let is : x ≡ v = cc in sym is ∙ same_word x s.word (true_from_not (is_word x s.word) h)

-- the words of a row that passes, by its input part and its ending
pub record IsRow (o : SaidCover) (s : Spot) (ss : List Spot) (input : Word) (on : Bool) : Type 0 where
  pub literals : are_literals input ≡ true
  pub long : length input ≡ o.inputs
  pub words : s.word ∷ map (λ (t : Spot). t.word) ss ≡ (if o.inputs == 0 then on_word on ∷ [] else input ∷ on_word on ∷ [])
  pub last : last_word (s ∷ ss) ≡ Some (on_word on)
  pub same : (v : Word) → o.ending ≡ Some v → v ≡ on_word on

row_alone : (o : SaidCover) (s : Spot) (on : Bool) → on ≡ is_word (codes "1") s.word → (o.inputs == 0) ≡ true → ending_fault o.ending s ≡ None → IsRow o s [] [] on
row_alone o s on e empty none =
    let l : IsLast o.ending s.word (is_word (codes "1") s.word) = ending_passes o.ending s none in
    let w : s.word ≡ on_word on = l.word ∙ ap on_word (sym e) in
    record {
      literals = refl;
      long = sym (eqb-true o.inputs 0 empty);
      words = ap (λ (x : Word). x ∷ []) w ∙ ap (λ (t : Bool). if t then on_word on ∷ [] else [] ∷ on_word on ∷ []) (sym empty);
      last = ap (λ (x : Word). Some x) w;
      same = λ v h. l.same v h ∙ w;
    }

row_two : (o : SaidCover) (s t : Spot) (on : Bool) → on ≡ is_word (codes "1") t.word → (o.inputs == 0) ≡ false → (length s.word == o.inputs) ≡ true → are_literals s.word ≡ true → ending_fault o.ending t ≡ None → IsRow o s (t ∷ []) s.word on
row_two o s t on e some long literals none =
    let l : IsLast o.ending t.word (is_word (codes "1") t.word) = ending_passes o.ending t none in
    let w : t.word ≡ on_word on = l.word ∙ ap on_word (sym e) in
    record {
      literals = literals;
      long = eqb-true (length s.word) o.inputs long;
      words = ap (λ (x : Word). s.word ∷ x ∷ []) w ∙ ap (λ (b : Bool). if b then on_word on ∷ [] else s.word ∷ on_word on ∷ []) (sym some);
      last = ap (λ (x : Word). Some x) w;
      same = λ v h. l.same v h ∙ w;
    }

-- the last word of a row, and its input part
abbrev pub last_spot : Spot → List Spot → Spot
last_spot s [] = s
last_spot s (t ∷ ts) = t

abbrev pub inputs_before : Word → List Spot → Word
inputs_before word [] = []
inputs_before word (t ∷ ts) = word

pub row_spots : (o : SaidCover) (s : Spot) (ss : List Spot) (on : Bool) → on ≡ is_word (codes "1") (last_spot s ss).word → row_fault o s ss ≡ None → IsRow o s ss (inputs_before s.word ss) on
row_spots o s ss on e none = at (o.inputs == 0) refl ss e none
  where
    at : (z : Bool) → (o.inputs == 0) ≡ z → (ss : List Spot) → on ≡ is_word (codes "1") (last_spot s ss).word → row_fault o s ss ≡ None → IsRow o s ss (inputs_before s.word ss) on
    at true z [] e none = let n : or_else (ending_fault o.ending s) None ≡ None = rw z at none in row_alone o s on e z (first_none (ending_fault o.ending s) None n)
    at true z (t ∷ ts) e none = let n : or_else (ending_fault o.ending s) (extra_fault (t ∷ ts)) ≡ None = rw z at none in let wrong : extra_fault (t ∷ ts) ≡ None = second_none (ending_fault o.ending s) (extra_fault (t ∷ ts)) n in cc
    at false z ss e none =
        let n : or_else (fault_if (not (length s.word == o.inputs)) RowLength s.place) (or_else (character_fault s.place s.word) (rest_fault o.ending s.place ss)) ≡ None = rw z at none in
        let long : (length s.word == o.inputs) ≡ true = true_from_not (length s.word == o.inputs) (not_fault (not (length s.word == o.inputs)) RowLength s.place (first_none (fault_if (not (length s.word == o.inputs)) RowLength s.place) (or_else (character_fault s.place s.word) (rest_fault o.ending s.place ss)) n)) in
        let m : or_else (character_fault s.place s.word) (rest_fault o.ending s.place ss) ≡ None = second_none (fault_if (not (length s.word == o.inputs)) RowLength s.place) (or_else (character_fault s.place s.word) (rest_fault o.ending s.place ss)) n in
        let literals : are_literals s.word ≡ true = all_literal s.place s.word (first_none (character_fault s.place s.word) (rest_fault o.ending s.place ss) m) in
        two ss e long literals (second_none (character_fault s.place s.word) (rest_fault o.ending s.place ss) m)
      where
        two : (ss : List Spot) → on ≡ is_word (codes "1") (last_spot s ss).word → (length s.word == o.inputs) ≡ true → are_literals s.word ≡ true → rest_fault o.ending s.place ss ≡ None → IsRow o s ss (inputs_before s.word ss) on
        two [] e long literals r = cc
        two (t ∷ []) e long literals r = row_two o s t on e z long literals (first_none (ending_fault o.ending t) None r)
        two (t ∷ u ∷ us) e long literals r = let wrong : extra_fault (u ∷ us) ≡ None = second_none (ending_fault o.ending t) (extra_fault (u ∷ us)) r in cc

pub row_passes : (text : List ℕ) (o : SaidCover) (first : Token) (rest : List Token) (on : Bool) → on ≡ is_word (codes "1") (spot_of text (last_token first rest)).word → row_fault o (spot_of text first) (map (spot_of text) rest) ≡ None → IsRow o (spot_of text first) (map (spot_of text) rest) (inputs_in (spot_of text first).word rest) on
row_passes text o first [] on e none = row_spots o (spot_of text first) [] on e none
row_passes text o first (t ∷ ts) on e none = row_spots o (spot_of text first) (map (spot_of text) (t ∷ ts)) on e none

on_same : (a b : Bool) → on_word a ≡ on_word b → a ≡ b
on_same true true e = refl
on_same false false e = refl
on_same true false e = let h : true ≡ false = ap (λ (w : Word). is_word (codes "1") w) e in cc
on_same false true e = let h : false ≡ true = ap (λ (w : Word). is_word (codes "1") w) e in cc

the_row : (o : SaidCover) (row : List Literal) (input : Word) (on : Bool) → map literal_byte row ≡ input → length input ≡ o.inputs → row_words on row ≡ (if o.inputs == 0 then on_word on ∷ [] else input ∷ on_word on ∷ [])
the_row o [] [] on e long = ap (λ (n : ℕ). if n == 0 then on_word on ∷ [] else [] ∷ on_word on ∷ []) long
the_row o [] (b ∷ bs) on e long = cc
the_row o (l ∷ ls) [] on e long = cc
the_row o (l ∷ ls) (b ∷ bs) on e long =
    let some : (o.inputs == 0) ≡ false = elim (eqb_tells o.inputs 0) [ inl t ↦ absurd (let f : o.inputs ≡ 0 = t.1 in let g : suc (length bs) ≡ o.inputs = long in omega arith) | inr t ↦ t.0 ] in
    ap (λ (w : Word). w ∷ on_word on ∷ []) e ∙ ap (λ (t : Bool). if t then on_word on ∷ [] else (b ∷ bs) ∷ on_word on ∷ []) (sym some)

pub has_row : (o : SaidCover) (s : Spot) (ss : List Spot) (input : Word) (on : Bool) (c d : Cover) (row : List Literal) → IsRow o s ss input on → RowsAre o c → map literal_byte row ≡ input → d.inputs ≡ c.inputs → d.output ≡ c.output → d.on ≡ on → d.rows ≡ c.rows ++ row ∷ [] → HasRow s ss o c d
has_row o s ss input on c d row r are made ins out onn rows = record {
  inputs = ins;
  output = out;
  rows =
      ap (λ (b : Bool). map (row_words b) d.rows) onn
      ∙ ap (map (row_words on)) rows
      ∙ map-append (row_words on) c.rows (row ∷ [])
      ∙ ap (λ (l : Line). map (row_words on) c.rows ++ l ∷ []) (the_row o row input on made r.long ∙ sym r.words)
      ∙ ap (λ (ls : List Line). ls ++ (s.word ∷ map (λ (t : Spot). t.word) ss) ∷ []) (before c.rows are.ending);
  still = record { inputs = same_inputs o.ending refl ∙ are.inputs ∙ ap length (sym ins); ending = ending o.ending refl };
  formed = λ w. record { no_rows = λ e. absurd (some_row c.rows row (sym rows ∙ e)); row_lengths = lengths w.row_lengths };
}
  where
    some_row : (rs : List (List Literal)) (r : List Literal) → rs ++ r ∷ [] ≡ [] → ⊥
    some_row [] r e = cc
    some_row (q ∷ qs) r e = cc

    row_long : length row ≡ length d.inputs
    row_long = sym (length-map row literal_byte) ∙ ap length made ∙ r.long ∙ are.inputs ∙ ap length (sym ins)

    lengths : All (λ (q : List Literal). length q ≡ length c.inputs) c.rows → All (λ (q : List Literal). length q ≡ length d.inputs) d.rows
    lengths h = All-same (λ (q : List Literal). length q ≡ length d.inputs) d.rows (c.rows ++ row ∷ []) rows (All-push (λ (q : List Literal). length q ≡ length d.inputs) c.rows row (subst (λ (xs : List Word). All (λ (q : List Literal). length q ≡ length xs) c.rows) (sym ins) h) row_long)

    before : (rs : List (List Literal)) → o.ending ≡ ending_of c.on rs → map (row_words on) rs ≡ map (row_words c.on) rs
    before [] e = refl
    before (x ∷ xs) e = let same : c.on ≡ on = on_same c.on on (r.same (on_word c.on) e) in ap (λ (b : Bool). map (row_words b) (x ∷ xs)) (sym same)

    same_inputs : (e : Option Word) → o.ending ≡ e → (with_row (s ∷ ss) o).inputs ≡ o.inputs
    same_inputs None e = rw e refl
    same_inputs (Some v) e = rw e refl

    last_is : ending_of d.on d.rows ≡ Some (on_word on)
    last_is = ap (λ (b : Bool). ending_of b d.rows) onn ∙ ap (ending_of on) rows ∙ at c.rows
      where
        at : (rs : List (List Literal)) → ending_of on (rs ++ row ∷ []) ≡ Some (on_word on)
        at [] = refl
        at (x ∷ xs) = refl

    ending : (e : Option Word) → o.ending ≡ e → (with_row (s ∷ ss) o).ending ≡ ending_of d.on d.rows
    ending None e = rw e (r.last ∙ sym last_is)
    ending (Some v) e = rw e (ap (λ (w : Word). Some w) (r.same v e) ∙ sym last_is)

pub all_front : {A : Type 0} (P : A → Type 0) (xs ys : List A) → All P (xs ++ ys) → All P xs
all_front P [] ys h = All-nil P
all_front P (x ∷ xs) ys h = All-cons P x xs (All-head P x (xs ++ ys) h) (all_front P xs ys (All-tail P x (xs ++ ys) h))

pub all_back : {A : Type 0} (P : A → Type 0) (xs ys : List A) → All P (xs ++ ys) → All P ys
all_back P [] ys h = h
all_back P (x ∷ xs) ys h = all_back P xs ys (All-tail P x (xs ++ ys) h)

-- the rows of the last cover
add_last : (r : Line) (xs : List (Line × List Line)) (x : Line × List Line) → add_row r (xs ++ x ∷ []) ≡ xs ++ (x.0, x.1 ++ r ∷ []) ∷ []
add_last r [] x = refl
add_last r (y ∷ []) x = refl
add_last r (y ∷ z ∷ zs) x = ap (λ ys. y ∷ ys) (add_last r (z ∷ zs) x)

pub adds_row : (s : Spot) (ss : List Spot) (o : SaidCover) (c d : Cover) (before after : Draft) → HasRow s ss o c d → before.current ≡ Some c → after ≡ record before { current = Some d } → AddsRow s ss o before after
adds_row s ss o c d before after h is e =
    let now : after.current ≡ Some d = ap (λ (x : Draft). x.current) e in
    let words : cover_words d ≡ ((cover_words c).0, (cover_words c).1 ++ (s.word ∷ map (λ (t : Spot). t.word) ss) ∷ []) =
    ap (λ (xs : List Word). (xs ++ d.output ∷ [], map (row_words d.on) d.rows)) h.inputs
    ∙ ap (λ (x : Word). (c.inputs ++ x ∷ [], map (row_words d.on) d.rows)) h.output
    ∙ ap (λ (ls : List Line). (c.inputs ++ c.output ∷ [], ls)) h.rows in
    record {
      rest = e ∙ ap (λ (x : Option Cover). record before { current = x }) (sym now);
      covers =
          ap (λ (x : Draft). map cover_words (all_covers x)) e
          ∙ map-append cover_words before.covers (d ∷ [])
          ∙ ap (λ (x : Line × List Line). map cover_words before.covers ++ x ∷ []) words
          ∙ sym (add_last (s.word ∷ map (λ (t : Spot). t.word) ss) (map cover_words before.covers) (cover_words c))
          ∙ ap (add_row (s.word ∷ map (λ (t : Spot). t.word) ss)) (sym (map-append cover_words before.covers (c ∷ [])) ∙ ap (λ (x : Option Cover). map cover_words (before.covers ++ opt_list x)) (sym is));
      current = subst (CurrentIs (Some (with_row (s ∷ ss) o))) (sym now) h.still;
      shaped = λ f. subst IsShaped (sym e) (record {
        covers = formed (subst (λ (x : Option Cover). All IsWellFormedCover (before.covers ++ opt_list x)) is f.covers);
        latches = f.latches;
      });
    }
  where
    formed : All IsWellFormedCover (before.covers ++ c ∷ []) → All IsWellFormedCover (before.covers ++ d ∷ [])
    formed f = All-push IsWellFormedCover before.covers d (all_front IsWellFormedCover before.covers (c ∷ []) f) (h.formed (All-head IsWellFormedCover c [] (all_back IsWellFormedCover before.covers (c ∷ []) f)))

pub current_rows : (o : SaidCover) (current : Option Cover) (c : Cover) → current ≡ Some c → CurrentIs (Some o) current → RowsAre o c
current_rows o None c e h = absurd h
current_rows o (Some d) c e h = let same : d ≡ c = cc in subst (RowsAre o) same h
