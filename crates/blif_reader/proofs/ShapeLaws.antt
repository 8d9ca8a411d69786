-- What a command adds to a draft whose last cover takes no more rows.
use Rattle.std.proofs.Common.{◌≡◌, ◌+◌, ◌-◌, List, [], ◌∷◌, ◌++◌, map, length, refl, sym, ◌∙◌, ap, subst, arith, true, Option, None, Some, All, length-append}
use Rattle.std.proofs.lemmas.List.Elements.{All-nil, All-push}
use Rattle.std.proofs.lemmas.List.{map-append}
use Rattle.rm_model.specs.WellFormed.{IsWellFormedCover}
use Rattle.rm_model.specs.declared.parts.Literal.{Literal}
use Rattle.rm_model.specs.declared.parts.Cover.{Cover}
use Rattle.rm_model.specs.declared.parts.Latch.{Latch as LatchPart}
use Rattle.blif_format.specs.Text.{Line, latch_words, cover_words, row_words}
use Rattle.blif_format.specs.declared.words.Command.{Command}
use Rattle.blif_format.specs.declared.words.Command.TheVariants.{Names, Latch}
use Rattle.blif_reader.specs.Inner.Drafts.{opt_list, all_covers, ending_of, RowsAre, CurrentIs, Changes}
use Rattle.blif_reader.specs.Words.{IsFitLatch}
use Rattle.blif_reader.specs.declared.draft.Draft.{Draft}
use Rattle.blif_reader.proofs.RowLaws.{all_front}
use Rattle.rm_base.specs.Words.{Word}

nothing : {A : Type 0} (xs : List A) → xs ≡ xs ++ []
nothing [] = refl
nothing (x ∷ xs) = ap (λ ys. x ∷ ys) (nothing xs)

closed_now : (o : Option Cover) → o ≡ None → CurrentIs None o
closed_now o e = subst (CurrentIs None) (sym e) tt

-- COVERS
pub new_cover : (c : Cover) → c.rows ≡ [] → c.on ≡ true → IsWellFormedCover c
new_cover c rows on = record { no_rows = λ _. on; row_lengths = subst (All (λ (r : List Literal). length r ≡ length c.inputs)) (sym rows) (All-nil (λ (r : List Literal). length r ≡ length c.inputs)) }

pub new_words : (c : Cover) (ws : List Word) → c.inputs ++ c.output ∷ [] ≡ ws → c.rows ≡ [] → cover_words c ≡ (ws, [])
new_words c ws names rows = ap (λ (xs : List Word). (xs, map (row_words c.on) c.rows)) names ∙ ap (λ (rs : List (List Literal)). (ws, map (row_words c.on) rs)) rows

pub new_open : (c : Cover) (ws : List Word) → c.inputs ++ c.output ∷ [] ≡ ws → c.rows ≡ [] → RowsAre (record { inputs = length ws - 1; ending = None }) c
new_open c ws names rows =
    let long : length (c.inputs ++ c.output ∷ []) ≡ length c.inputs + length (c.output ∷ []) = length-append c.inputs (c.output ∷ []) in
    let same : length (c.inputs ++ c.output ∷ []) ≡ length ws = ap length names in
    let one : length (c.output ∷ []) ≡ 1 = refl in
    record { inputs = omega arith; ending = sym (ap (ending_of c.on) rows) }

pub adds_cover : (k : Command) (ws : List Word) (d : Draft) (c : Cover) → k ≡ Names → d.current ≡ None → c.inputs ++ c.output ∷ [] ≡ ws → c.rows ≡ [] → c.on ≡ true → Changes k ws d (record d { current = Some c })
adds_cover k ws d c is closed names rows on = subst (λ (j : Command). Changes j ws d (record d { current = Some c })) (sym is) (record {
  name = refl;
  inputs = nothing d.inputs;
  outputs = nothing d.outputs;
  clocks = nothing d.clocks;
  latches = nothing (map latch_words d.latches);
  covers =
      map-append cover_words d.covers (c ∷ [])
      ∙ ap (λ (x : Line × List Line). map cover_words d.covers ++ x ∷ []) (new_words c ws names rows)
      ∙ ap (λ (cs : List Cover). map cover_words cs ++ (ws, []) ∷ []) (nothing d.covers)
      ∙ ap (λ (o : Option Cover). map cover_words (d.covers ++ opt_list o) ++ (ws, []) ∷ []) (sym closed);
  current = new_open c ws names rows;
  shaped = λ h. record {
    covers = All-push IsWellFormedCover d.covers c (all_front IsWellFormedCover d.covers (opt_list d.current) h.covers) (new_cover c rows on);
    latches = h.latches;
  };
})

-- LATCHES
pub adds_latch : (k : Command) (ws : List Word) (d : Draft) (l : LatchPart) (ls : List LatchPart) → k ≡ Latch → d.current ≡ None → ls ≡ d.latches ++ l ∷ [] → latch_words l ≡ ws → IsFitLatch l → Changes k ws d (record d { latches = ls })
adds_latch k ws d l ls is closed more words fit = subst (λ (j : Command). Changes j ws d (record d { latches = ls })) (sym is) (subst (λ (xs : List LatchPart). Changes Latch ws d (record d { latches = xs })) (sym more) (record {
  name = refl;
  inputs = nothing d.inputs;
  outputs = nothing d.outputs;
  clocks = nothing d.clocks;
  latches = map-append latch_words d.latches (l ∷ []) ∙ ap (λ (x : List Word). map latch_words d.latches ++ x ∷ []) words;
  covers = nothing (map cover_words (all_covers d));
  current = closed_now d.current closed;
  shaped = λ h. record { covers = h.covers; latches = All-push IsFitLatch d.latches l h.latches fit };
}))
