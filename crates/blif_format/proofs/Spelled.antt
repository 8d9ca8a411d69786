-- The words of a latch and of a cover tell the latch and the cover.
use Rattle.std.proofs.Common.{◌≡◌, ℕ, ◌+◌, Bool, true, false, List, [], ◌∷◌, ◌++◌, map, Option, None, Some, refl, sym, ◌∙◌, ap, arith, All}
use Rattle.std.specs.Prelude.{codes}
use Rattle.std.proofs.lemmas.List.Elements.{All-head, All-tail}
use Rattle.rm_model.specs.Words.{literal_byte, kind_word}
use Rattle.rm_model.specs.Value.{control_of}
use Rattle.rm_model.specs.WellFormed.{IsWellFormedCover}
use Rattle.rm_model.specs.declared.parts.Literal.{Literal}
use Rattle.rm_model.specs.declared.parts.Literal.TheVariants.{Zero, One, Any}
use Rattle.rm_model.specs.declared.parts.LatchKind.{LatchKind}
use Rattle.rm_model.specs.declared.parts.LatchKind.TheVariants.{Fe, Re, Ah, Al, As}
use Rattle.rm_model.specs.declared.parts.Timing.{Timing}
use Rattle.rm_model.specs.declared.parts.Latch.{Latch}
use Rattle.rm_model.specs.declared.parts.Cover.{Cover}
use Rattle.rm_model.specs.declared.parts.Model.{Model}
use Rattle.blif_format.specs.Text.{Line, control_word, timing_words, init_words, latch_words, on_word, row_words, cover_words}
use Rattle.blif_format.specs.Inner.Text.{timing_control, IsControlName}
use Rattle.blif_format.specs.Laws.{ReadsOnce}
use Rattle.rm_base.specs.Words.{Word}

-- LATCHES
two_told : (a b c d : ℕ) → a ∷ b ∷ [] ≡ c ∷ d ∷ [] → (a ≡ c) × (b ≡ d)
two_told a b c d e = (cc, cc)

kind_told : (k l : LatchKind) → kind_word k ≡ kind_word l → k ≡ l
kind_told Fe Fe e = refl
kind_told Fe Re e = absurd (omega (arith, (two_told 102 101 114 101 e).0))
kind_told Fe Ah e = absurd (omega (arith, (two_told 102 101 97 104 e).0))
kind_told Fe Al e = absurd (omega (arith, (two_told 102 101 97 108 e).0))
kind_told Fe As e = absurd (omega (arith, (two_told 102 101 97 115 e).0))
kind_told Re Fe e = absurd (omega (arith, (two_told 114 101 102 101 e).0))
kind_told Re Re e = refl
kind_told Re Ah e = absurd (omega (arith, (two_told 114 101 97 104 e).0))
kind_told Re Al e = absurd (omega (arith, (two_told 114 101 97 108 e).0))
kind_told Re As e = absurd (omega (arith, (two_told 114 101 97 115 e).0))
kind_told Ah Fe e = absurd (omega (arith, (two_told 97 104 102 101 e).0))
kind_told Ah Re e = absurd (omega (arith, (two_told 97 104 114 101 e).0))
kind_told Ah Ah e = refl
kind_told Ah Al e = absurd (omega (arith, (two_told 97 104 97 108 e).1))
kind_told Ah As e = absurd (omega (arith, (two_told 97 104 97 115 e).1))
kind_told Al Fe e = absurd (omega (arith, (two_told 97 108 102 101 e).0))
kind_told Al Re e = absurd (omega (arith, (two_told 97 108 114 101 e).0))
kind_told Al Ah e = absurd (omega (arith, (two_told 97 108 97 104 e).1))
kind_told Al Al e = refl
kind_told Al As e = absurd (omega (arith, (two_told 97 108 97 115 e).1))
kind_told As Fe e = absurd (omega (arith, (two_told 97 115 102 101 e).0))
kind_told As Re e = absurd (omega (arith, (two_told 97 115 114 101 e).0))
kind_told As Ah e = absurd (omega (arith, (two_told 97 115 97 104 e).1))
kind_told As Al e = absurd (omega (arith, (two_told 97 115 97 108 e).1))
kind_told As As e = refl

control_told : (o p : Option Word) → IsControlName o → IsControlName p → control_word o ≡ control_word p → o ≡ p
control_told None None a b e = refl
control_told None (Some x) a b e = absurd (b (sym e))
control_told (Some x) None a b e = absurd (a e)
control_told (Some x) (Some y) a b e = ap Some e

timing_told : (t u : Timing) → IsControlName t.control → IsControlName u.control → kind_word t.kind ≡ kind_word u.kind → control_word t.control ≡ control_word u.control → t ≡ u
timing_told t u a b e f = let k : t.kind ≡ u.kind = kind_told t.kind u.kind e in let c : t.control ≡ u.control = control_told t.control u.control a b f in
    ap (λ (x : LatchKind). let v : Timing = record { kind = x; control = t.control } in v) k
    ∙ (ap (λ (x : Option Word). let v : Timing = record { kind = u.kind; control = x } in v) c)

init_told : (n k : ℕ) → (48 + n) ∷ [] ≡ (48 + k) ∷ [] → n ≡ k
init_told n k e = let s : 48 + n ≡ 48 + k = cc in omega (arith, s)

-- the words after the input and the output
abbrev rest_words : Option Timing → Option ℕ → List Word
rest_words t i = timing_words t ++ init_words i

rest_told : (t u : Option Timing) (i j : Option ℕ) → IsControlName (timing_control t) → IsControlName (timing_control u) → rest_words t i ≡ rest_words u j → (t ≡ u) × (i ≡ j)
rest_told None None None None a b e = (refl, refl)
rest_told None None None (Some k) a b e = cc
rest_told None None (Some n) None a b e = cc
rest_told None None (Some n) (Some k) a b e = (refl, ap Some (init_told n k (cc)))
rest_told None (Some u) None j a b e = cc
rest_told None (Some u) (Some n) j a b e = cc
rest_told (Some t) None i None a b e = cc
rest_told (Some t) None i (Some k) a b e = cc
rest_told (Some t) (Some u) None None a b e = (ap Some (timing_told t u a b (cc) (cc)), refl)
rest_told (Some t) (Some u) None (Some k) a b e = cc
rest_told (Some t) (Some u) (Some n) None a b e = cc
rest_told (Some t) (Some u) (Some n) (Some k) a b e = (ap Some (timing_told t u a b (cc) (cc)), ap Some (init_told n k (cc)))

latch_told : (l m : Latch) → IsControlName (control_of l) → IsControlName (control_of m) → latch_words l ≡ latch_words m → l ≡ m
latch_told l m a b e =
    let i : l.input ≡ m.input = cc in
    let o : l.output ≡ m.output = cc in
    let r = rest_told l.timing m.timing l.init m.init (name_of l.timing a) (name_of m.timing b) (cc) in
    let t : l.timing ≡ m.timing = r.0 in
    let n : l.init ≡ m.init = r.1 in
    ap (λ (x : Word). let v : Latch = record { input = x; output = l.output; timing = l.timing; init = l.init } in v) i
    ∙ (ap (λ (x : Word). let v : Latch = record { input = m.input; output = x; timing = l.timing; init = l.init } in v) o
    ∙ (ap (λ (x : Option Timing). let v : Latch = record { input = m.input; output = m.output; timing = x; init = l.init } in v) t
    ∙ (ap (λ (x : Option ℕ). let v : Latch = record { input = m.input; output = m.output; timing = m.timing; init = x } in v) n)))
  where
    name_of : (t : Option Timing) → IsControlName (elim t [ None ↦ None | Some u ↦ u.control ]) → IsControlName (timing_control t)
    name_of None h = h
    name_of (Some t) h = h

latches_told : (ls ms : List Latch) → All (λ (l : Latch). IsControlName (control_of l)) ls → All (λ (l : Latch). IsControlName (control_of l)) ms → map latch_words ls ≡ map latch_words ms → ls ≡ ms
latches_told [] [] a b e = refl
latches_told [] (m ∷ ms) a b e = cc
latches_told (l ∷ ls) [] a b e = cc
latches_told (l ∷ ls) (m ∷ ms) a b e =
    let first : l ≡ m = latch_told l m (All-head (λ (k : Latch). IsControlName (control_of k)) l ls a) (All-head (λ (k : Latch). IsControlName (control_of k)) m ms b) (cc) in
    let rest : ls ≡ ms = latches_told ls ms (All-tail (λ (k : Latch). IsControlName (control_of k)) l ls a) (All-tail (λ (k : Latch). IsControlName (control_of k)) m ms b) (cc) in
    cc

-- COVERS
last_told : (xs ys : List Word) (x y : Word) → xs ++ x ∷ [] ≡ ys ++ y ∷ [] → (xs ≡ ys) × (x ≡ y)
last_told [] [] x y e = (refl, cc)
last_told [] (b ∷ []) x y e = cc
last_told [] (b ∷ c ∷ ys) x y e = cc
last_told (a ∷ []) [] x y e = cc
last_told (a ∷ b ∷ xs) [] x y e = cc
last_told (a ∷ xs) (b ∷ ys) x y e =
    let r = last_told xs ys x y (cc) in
    let first : a ≡ b = cc in
    let rest : xs ≡ ys = r.0 in
    (cc, r.1)

literal_told : (k l : Literal) → literal_byte k ≡ literal_byte l → k ≡ l
literal_told Zero Zero e = refl
literal_told Zero One e = absurd (omega (arith, e))
literal_told Zero Any e = absurd (omega (arith, e))
literal_told One Zero e = absurd (omega (arith, e))
literal_told One One e = refl
literal_told One Any e = absurd (omega (arith, e))
literal_told Any Zero e = absurd (omega (arith, e))
literal_told Any One e = absurd (omega (arith, e))
literal_told Any Any e = refl

literals_told : (ks ls : List Literal) → map literal_byte ks ≡ map literal_byte ls → ks ≡ ls
literals_told [] [] e = refl
literals_told [] (l ∷ ls) e = cc
literals_told (k ∷ ks) [] e = cc
literals_told (k ∷ ks) (l ∷ ls) e =
    let first : k ≡ l = literal_told k l (cc) in
    let rest : ks ≡ ls = literals_told ks ls (cc) in
    cc

one_told : (a b : ℕ) → a ∷ [] ≡ b ∷ [] → a ≡ b
one_told a b e = cc

on_told : (b c : Bool) → on_word b ≡ on_word c → b ≡ c
on_told true true e = refl
on_told true false e = absurd (omega (arith, one_told 49 48 e))
on_told false true e = absurd (omega (arith, one_told 48 49 e))
on_told false false e = refl

row_told : (b c : Bool) (r s : List Literal) → row_words b r ≡ row_words c s → (r ≡ s) × (b ≡ c)
row_told b c [] [] e = (refl, on_told b c (cc))
row_told b c [] (l ∷ ls) e = cc
row_told b c (k ∷ ks) [] e = cc
row_told b c (k ∷ ks) (l ∷ ls) e = (literals_told (k ∷ ks) (l ∷ ls) (cc), on_told b c (cc))

rows_told : (b c : Bool) (rs ss : List (List Literal)) → map (row_words b) rs ≡ map (row_words c) ss → rs ≡ ss
rows_told b c [] [] e = refl
rows_told b c [] (s ∷ ss) e = cc
rows_told b c (r ∷ rs) [] e = cc
rows_told b c (r ∷ rs) (s ∷ ss) e =
    let first : r ≡ s = (row_told b c r s (cc)).0 in
    let rest : rs ≡ ss = rows_told b c rs ss (cc) in
    cc

ending_told : (b c : Bool) (rs ss : List (List Literal)) → (rs ≡ [] → b ≡ true) → (ss ≡ [] → c ≡ true) → map (row_words b) rs ≡ map (row_words c) ss → b ≡ c
ending_told b c [] [] h k e = h refl ∙ sym (k refl)
ending_told b c [] (s ∷ ss) h k e = cc
ending_told b c (r ∷ rs) [] h k e = cc
ending_told b c (r ∷ rs) (s ∷ ss) h k e = (row_told b c r s (cc)).1

cover_told : (c d : Cover) → IsWellFormedCover c → IsWellFormedCover d → cover_words c ≡ cover_words d → c ≡ d
cover_told c d h k e =
    let names : c.inputs ++ c.output ∷ [] ≡ d.inputs ++ d.output ∷ [] = ap (λ (p : Line × List Line). p.0) e in
    let rows : map (row_words c.on) c.rows ≡ map (row_words d.on) d.rows = ap (λ (p : Line × List Line). p.1) e in
    let n = last_told c.inputs d.inputs c.output d.output names in
    let inputs : c.inputs ≡ d.inputs = n.0 in
    let output : c.output ≡ d.output = n.1 in
    let on : c.on ≡ d.on = ending_told c.on d.on c.rows d.rows h.no_rows k.no_rows rows in
    let same : c.rows ≡ d.rows = rows_told c.on d.on c.rows d.rows rows in
    ap (λ (x : List Word). let v : Cover = record { inputs = x; output = c.output; on = c.on; rows = c.rows } in v) inputs
    ∙ (ap (λ (x : Word). let v : Cover = record { inputs = d.inputs; output = x; on = c.on; rows = c.rows } in v) output
    ∙ (ap (λ (x : Bool). let v : Cover = record { inputs = d.inputs; output = d.output; on = x; rows = c.rows } in v) on
    ∙ (ap (λ (x : List (List Literal)). let v : Cover = record { inputs = d.inputs; output = d.output; on = d.on; rows = x } in v) same)))

covers_told : (cs ds : List Cover) → All IsWellFormedCover cs → All IsWellFormedCover ds → map cover_words cs ≡ map cover_words ds → cs ≡ ds
covers_told [] [] h k e = refl
covers_told [] (d ∷ ds) h k e = cc
covers_told (c ∷ cs) [] h k e = cc
covers_told (c ∷ cs) (d ∷ ds) h k e =
    let heads : cover_words c ≡ cover_words d = head_told (cover_words c) (cover_words d) _ _ e in
    let tails : map cover_words cs ≡ map cover_words ds = tail_told (cover_words c) (cover_words d) _ _ e in
    let first : c ≡ d = cover_told c d (All-head IsWellFormedCover c cs h) (All-head IsWellFormedCover d ds k) heads in
    let rest : cs ≡ ds = covers_told cs ds (All-tail IsWellFormedCover c cs h) (All-tail IsWellFormedCover d ds k) tails in
    cc
  where
    head_told : {A : Type 0} (x y : A) (xs ys : List A) → x ∷ xs ≡ y ∷ ys → x ≡ y
    head_told x y xs ys e = cc

    tail_told : {A : Type 0} (x y : A) (xs ys : List A) → x ∷ xs ≡ y ∷ ys → xs ≡ ys
    tail_told x y xs ys e = cc

-- THE MODEL
title_told : (x y : Word) (b c : List Line) → (codes ".model" ∷ x ∷ []) ∷ b ≡ (codes ".model" ∷ y ∷ []) ∷ c → x ≡ y
title_told x y b c e = cc

pub reads_once : ReadsOnce
reads_once lines m n h k =
    let name : m.name ≡ n.name = title_told m.name n.name h.first.0 k.first.0 (sym h.first.1 ∙ k.first.1) in
    let inputs : m.inputs ≡ n.inputs = sym h.inputs ∙ k.inputs in
    let outputs : m.outputs ≡ n.outputs = sym h.outputs ∙ k.outputs in
    let clocks : m.clocks ≡ n.clocks = sym h.clocks ∙ k.clocks in
    let latches : m.latches ≡ n.latches = latches_told m.latches n.latches h.well_formed.controls k.well_formed.controls (sym h.latches ∙ k.latches) in
    let covers : m.covers ≡ n.covers = covers_told m.covers n.covers h.well_formed.covers k.well_formed.covers (sym h.covers ∙ k.covers) in
    ap (λ (x : Word). let v : Model = record { name = x; inputs = m.inputs; clocks = m.clocks; outputs = m.outputs; latches = m.latches; covers = m.covers } in v) name
    ∙ (ap (λ (x : List Word). let v : Model = record { name = n.name; inputs = x; clocks = m.clocks; outputs = m.outputs; latches = m.latches; covers = m.covers } in v) inputs
    ∙ (ap (λ (x : List Word). let v : Model = record { name = n.name; inputs = n.inputs; clocks = x; outputs = m.outputs; latches = m.latches; covers = m.covers } in v) clocks
    ∙ (ap (λ (x : List Word). let v : Model = record { name = n.name; inputs = n.inputs; clocks = n.clocks; outputs = x; latches = m.latches; covers = m.covers } in v) outputs
    ∙ (ap (λ (x : List Latch). let v : Model = record { name = n.name; inputs = n.inputs; clocks = n.clocks; outputs = n.outputs; latches = x; covers = m.covers } in v) latches
    ∙ (ap (λ (x : List Cover). let v : Model = record { name = n.name; inputs = n.inputs; clocks = n.clocks; outputs = n.outputs; latches = n.latches; covers = x } in v) covers)))))
