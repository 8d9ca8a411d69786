-- Lines of tokens and of words, taken one by one.
use Rattle.std.proofs.Common.{◌≡◌, ◌≢◌, ℕ, zero, suc, ◌+◌, ◌<◌, ◌≤◌, List, [], ◌∷◌, ◌++◌, map, length, take, drop, Bool, true, false, ◌||◌, not, ◌⊎◌, inl, inr, Option, None, Some, refl, sym, ap, ◌∙◌, subst, arith, add-one}
use Rattle.std.specs.Prelude.{slice_get, codes, ◌^◌, if◌then◌else◌}
use Rattle.std.specs.List.{cons_option, filter_map}
use Rattle.std.specs.Option.{option_map}
use Rattle.std.proofs.lemmas.List.{append_assoc, append-nil, length-map}
use Rattle.std.proofs.lemmas.List.Folds.{list_any-append}
use Rattle.std.proofs.lemmas.List.Elements.{filter_map-append}
use Rattle.rm_base.specs.Words.{Word}
use Rattle.rm_base.proofs.Public.{drop_stands, map_at, neither_first, neither_second, pushed_stands, take_one_more}
use Rattle.std.proofs.lemmas.Bool.{and_parts}
use Rattle.rm_model.specs.Words.{is_word}
use Rattle.rm_model.specs.Value.{is_among}
use Rattle.rm_model.specs.declared.parts.Latch.{Latch}
use Rattle.rm_model.specs.declared.parts.Cover.{Cover}
use Rattle.rm_model.specs.declared.parts.Model.{Model}
use Rattle.rm_model.specs.declared.parts.Literal.{Literal}
use Rattle.rm_model.specs.WellFormed.{is_distinct}
use Rattle.rm_model.proofs.Public.{is_word-same, same_word}
use Rattle.blif_lines.specs.Layout.{Spot}
use Rattle.blif_lines.specs.Reading.{spot_of}
use Rattle.blif_lines.specs.declared.line.Token.{Token}
use Rattle.blif_format.specs.Text.{Line}
use Rattle.blif_format.specs.Grammar.{begins_with, words_after, words_of, before, is_dotted}
use Rattle.blif_format.specs.Uses.{Use, use_of, parts_of}
use Rattle.blif_format.specs.declared.words.Command.{Command}
use Rattle.blif_format.specs.declared.words.Part.{Part}
use Rattle.blif_format.specs.FirstFault.{cover_names}
use Rattle.blif_reader.specs.Lines.{spots_at, words_at}
use Rattle.blif_reader.specs.Parts.{part_in}
use Rattle.blif_reader.specs.Words.{latch_from}
use Rattle.blif_reader.proofs.Public.{part_at, parts_length, take_whole}
use Rattle.blif_flatten.specs.Sections.{words_in_line, names_place, plain_module, second_word, token_count, latch_in, covers_from, cover_on, cover_from, is_on_from, row_from}
use Rattle.blif_flatten.specs.CallFaults.{module_name, plain_modules}
use Rattle.blif_flatten.specs.Calls.{call_of, connection_of}
use Rattle.blif_flatten.specs.declared.modules.Module.{Module}
use Rattle.blif_flatten.specs.declared.sections.Section.{Section as TokenSection}
use Rattle.blif_flatten.specs.declared.interfaces.Formals.{Formals}
use Rattle.blif_flatten.specs.declared.interfaces.Interface.{Interface}
use Rattle.blif_flatten.specs.Inner.Tokens.{lines_at, words_in, words_behind, section_at, sections_at}
use Rattle.blif_flatten.specs.Inner.Interfaces.{AreFormals, AreInterfaces, IsInterface}

-- WORDS
pub words-line : (text : Word) (l : List Token) → words_in_line (spots_at text l) ≡ words_at text l
words-line text [] = refl
words-line text (t ∷ ts) = ap (λ (ws : List Word). (spot_of text t).word ∷ ws) (words-line text ts)

pub lines-words : (text : Word) (ls : List (List Token)) → map words_in_line (lines_at text ls) ≡ words_in text ls
lines-words text [] = refl
lines-words text (l ∷ ls) = ap (λ (w : Line). w ∷ map words_in_line (lines_at text ls)) (words-line text l) ∙ ap (λ (ws : List Line). words_at text l ∷ ws) (lines-words text ls)

words_of-last : (w : Word) (ls : List Line) (l : Line) → words_of w (ls ++ l ∷ []) ≡ words_of w ls ++ words_behind w l
words_of-last w [] l = at (begins_with w l) refl
  where
    at : (b : Bool) → begins_with w l ≡ b → words_of w (l ∷ []) ≡ words_behind w l
    at true e = rw e (append-nil (words_after l))
    at false e = rw e refl
words_of-last w (k ∷ ks) l = at (begins_with w k) refl (words_of-last w ks l)
  where
    at : (b : Bool) → begins_with w k ≡ b → words_of w (ks ++ l ∷ []) ≡ words_of w ks ++ words_behind w l → words_of w ((k ∷ ks) ++ l ∷ []) ≡ words_of w (k ∷ ks) ++ words_behind w l
    at true e ih = rw e (ap (λ xs. words_after k ++ xs) ih ∙ sym (append_assoc (words_after k) (words_of w ks) (words_behind w l)))
    at false e ih = rw e ih

map-last : {A B : Type 0} (f : A → B) (xs : List A) (x : A) → map f (xs ++ x ∷ []) ≡ map f xs ++ f x ∷ []
map-last f [] x = refl
map-last f (y ∷ ys) x = ap (λ zs. f y ∷ zs) (map-last f ys x)

pub map-to : {A B : Type 0} (f : A → B) (xs : List A) (k : ℕ) (x : A) → slice_get xs k ≡ Some x → map f (take (k + 1) xs) ≡ map f (take k xs) ++ f x ∷ []
map-to f xs k x at = ap (map f) (take_one_more xs k x at) ∙ map-last f (take k xs) x

pub drop-from : {A : Type 0} (xs : List A) (k : ℕ) (x : A) → slice_get xs k ≡ Some x → drop k xs ≡ x ∷ drop (k + 1) xs
drop-from xs k x at = drop_stands xs k x at ∙ ap (λ (n : ℕ). x ∷ drop n xs) (sym (add-one k))

-- FORMALS
pub include-had : (f : Formals) (had : List Word) (name : Word) → AreFormals f had → is_among f.table name ≡ true → AreFormals f (had ++ name ∷ [])
include-had f had name are there = record {
  listed = are.listed;
  among = λ x. more x (is_word x name) refl ∙ sym (list_any-append (is_word x) had (name ∷ []));
}
  where
    more : (x : Word) (b : Bool) → is_word x name ≡ b → is_among f.table x ≡ (is_among had x || (is_word x name || false))
    more x true e =
        let same : x ≡ name = same_word x name e in
        ap (λ (z : Word). is_among f.table z) same ∙ (there ∙ sym (rw e (or-last (is_among had x))))
      where
        or-last : (b : Bool) → (b || true) ≡ true
        or-last true = refl
        or-last false = refl
    more x false e = are.among x ∙ sym (rw e (or-none (is_among had x)))
      where
        or-none : (b : Bool) → (b || false) ≡ b
        or-none true = refl
        or-none false = refl

pub include-go : (f : Formals) (text : Word) (had : List Word) (ws : List Token) (k : ℕ) (t : Token) → slice_get ws k ≡ Some t → AreFormals f ((had ++ words_at text (take k ws)) ++ (spot_of text t).word ∷ []) → AreFormals f (had ++ words_at text (take (k + 1) ws))
include-go f text had ws k t at are =
    subst (AreFormals f) (append_assoc had (words_at text (take k ws)) ((spot_of text t).word ∷ []) ∙ ap (λ xs. had ++ xs) (sym (map-to (λ (u : Token). (spot_of text u).word) ws k t at))) are

pub include-all : (f : Formals) (text : Word) (had : List Word) (ws : List Token) (k : ℕ) → length ws ≤ k → AreFormals f (had ++ words_at text (take k ws)) → AreFormals f (had ++ words_at text ws)
include-all f text had ws k far are = subst (λ (ts : List Token). AreFormals f (had ++ words_at text ts)) (take_whole ws k far) are

pub include-line-go : (f : Formals) (text : Word) (w : Word) (had : List Word) (ls : List (List Token)) (k : ℕ) (l : List Token) → slice_get ls k ≡ Some l → AreFormals f ((had ++ words_of w (words_in text (take k ls))) ++ words_behind w (words_at text l)) → AreFormals f (had ++ words_of w (words_in text (take (k + 1) ls)))
include-line-go f text w had ls k l at are =
    subst (AreFormals f) (append_assoc had (words_of w (words_in text (take k ls))) (words_behind w (words_at text l)) ∙ ap (λ xs. had ++ xs) (sym (words_of-last w (words_in text (take k ls)) (words_at text l)) ∙ ap (words_of w) (sym (map-to (words_at text) ls k l at)))) are

pub include-lines-all : (f : Formals) (text : Word) (w : Word) (had : List Word) (ls : List (List Token)) (k : ℕ) → length ls ≤ k → AreFormals f (had ++ words_of w (words_in text (take k ls))) → AreFormals f (had ++ words_of w (words_in text ls))
include-lines-all f text w had ls k far are = subst (λ (ts : List (List Token)). AreFormals f (had ++ words_of w (words_in text ts))) (take_whole ls k far) are

pub interface-of : (f g : Formals) (text : Word) (s : TokenSection) (body : List (List Token)) → body ≡ s.body
    → AreFormals f (([] ++ words_of (codes ".inputs") (words_in text body)) ++ words_of (codes ".clock") (words_in text body)) → AreFormals g ([] ++ words_of (codes ".outputs") (words_in text body))
    → IsInterface (record { inward = f; outputs = g }) (plain_module (section_at text s)).model
interface-of f g text s body is ins outs =
    let same : words_in text body ≡ map words_in_line (lines_at text s.body) = ap (words_in text) is ∙ sym (lines-words text s.body) in
    record {
      inward_are = subst (λ (ls : List Line). AreFormals f (words_of (codes ".inputs") ls ++ words_of (codes ".clock") ls)) same ins;
      outputs_are = subst (λ (ls : List Line). AreFormals g (words_of (codes ".outputs") ls)) same outs;
    }

under : {A : Type 0} (xs : List A) (k : ℕ) (x : A) → slice_get xs k ≡ Some x → k < length xs
under [] k x e = absurd cc
under (y ∷ ys) zero x e = omega arith
under (y ∷ ys) (suc k) x e = let h : k < length ys = under ys k x e in omega (arith, h)

interfaces-last : (xs : List Interface) (ms : List Module) (i : Interface) (m : Module) → AreInterfaces xs ms → IsInterface i m.model → AreInterfaces (xs ++ i ∷ []) (ms ++ m ∷ [])
interfaces-last xs ms i m are is = record {
  count = length-last xs i ∙ (ap suc are.count ∙ sym (length-last ms m));
  each = λ k j n at there. by_cases k j n (pushed_stands xs i k j at) (pushed_stands ms m k n there);
}
  where
    length-last : {A : Type 0} (ys : List A) (y : A) → length (ys ++ y ∷ []) ≡ suc (length ys)
    length-last [] y = refl
    length-last (z ∷ zs) y = ap suc (length-last zs y)

    by_cases : (k : ℕ) (j : Interface) (n : Module) → (slice_get xs k ≡ Some j) ⊎ ((k ≡ length xs) × (j ≡ i)) → (slice_get ms k ≡ Some n) ⊎ ((k ≡ length ms) × (n ≡ m)) → IsInterface j n.model
    by_cases k j n (inl a) (inl b) = are.each k j n a b
    by_cases k j n (inl a) (inr b) = let low = under xs k j a in let same = are.count in let at = b.0 in absurd (omega (arith, low, same, at))
    by_cases k j n (inr a) (inl b) = let low = under ms k n b in let same = are.count in let at = a.0 in absurd (omega (arith, low, same, at))
    by_cases k j n (inr a) (inr b) = subst (λ (x : Interface). IsInterface x n.model) (sym a.1) (subst (λ (y : Module). IsInterface i y.model) (sym b.1) is)

pub interfaces-go : (xs new : List Interface) (text : Word) (ss : List TokenSection) (k : ℕ) (s : TokenSection) (i : Interface) → slice_get ss k ≡ Some s → AreInterfaces xs (plain_modules (sections_at text (take k ss))) → IsInterface i (plain_module (section_at text s)).model → new ≡ xs ++ i ∷ []
    → AreInterfaces new (plain_modules (sections_at text (take (k + 1) ss)))
interfaces-go xs new text ss k s i at are is added =
    subst (λ (ys : List Interface). AreInterfaces ys (plain_modules (sections_at text (take (k + 1) ss)))) (sym added)
    (subst (λ (ms : List Module). AreInterfaces (xs ++ i ∷ []) ms) (sym (ap plain_modules (map-to (section_at text) ss k s at) ∙ map-last plain_module (sections_at text (take k ss)) (section_at text s)))
    (interfaces-last xs (plain_modules (sections_at text (take k ss))) i (plain_module (section_at text s)) are is))

-- USES
pub option-cons : {A B : Type 0} (f : A → B) (o : Option A) → cons_option (option_map f o) [] ≡ map f (cons_option o [])
option-cons f None = refl
option-cons f (Some a) = refl

pub parts-go : (k : Command) (ss : List Spot) (i : ℕ) (part : Part) (s : Spot) (first now after : List Use) → slice_get ss i ≡ Some s → part ≡ part_in k (length ss) i → now ≡ first ++ filter_map use_of (take i (parts_of k ss)) → after ≡ now ++ cons_option (use_of (part, s)) []
    → after ≡ first ++ filter_map use_of (take (i + 1) (parts_of k ss))
parts-go k ss i part s first now after at is had added =
    let there : slice_get (parts_of k ss) i ≡ Some (part, s) = part_at k ss i s at ∙ ap (λ (p : Part). Some (p, s)) (sym is) in
    added ∙ (ap (λ us. us ++ cons_option (use_of (part, s)) []) had
    ∙ (append_assoc first (filter_map use_of (take i (parts_of k ss))) (cons_option (use_of (part, s)) [])
    ∙ ap (λ us. first ++ us) (sym (filter_map-append use_of (take i (parts_of k ss)) ((part, s) ∷ [])) ∙ ap (filter_map use_of) (sym (take_one_more (parts_of k ss) i (part, s) there)))))

pub parts-all : (k : Command) (ss : List Spot) (i : ℕ) (first now : List Use) → length ss ≤ i → now ≡ first ++ filter_map use_of (take i (parts_of k ss)) → now ≡ first ++ filter_map use_of (parts_of k ss)
parts-all k ss i first now far had = had ∙ ap (λ ps. first ++ filter_map use_of ps) (take_whole (parts_of k ss) i (subst (λ (n : ℕ). n ≤ i) (sym (parts_length k ss)) far))

-- PARTS OF THE MODEL
pub latch_line : (text : Word) (t : Token) (ts : List Token) → begins_with (codes ".latch") (words_at text (t ∷ ts)) ≡ true → 2 ≤ length ts → latch_in (words_at text (t ∷ ts)) ≡ Some (latch_from (words_at text ts))
latch_line text t [] e h = absurd (omega (arith, h))
latch_line text t (a ∷ []) e h = absurd (omega (arith, h))
latch_line text t (a ∷ b ∷ ts) e h = ap (λ (c : Bool). if c then Some (latch_from (words_at text (a ∷ b ∷ ts))) else None) e

pub cover_line : (text : Word) (t : Token) (ts : List Token) (lines : List Line) → begins_with (codes ".names") (words_at text (t ∷ ts)) ≡ true → ts ≢ [] → cover_on (words_at text (t ∷ ts)) lines ≡ Some (cover_from (words_at text ts, before is_dotted lines))
cover_line text t [] lines e h = absurd (h refl)
cover_line text t (a ∷ ts) lines e h = ap (λ (c : Bool). if c then Some (cover_from (words_at text (a ∷ ts), before is_dotted lines)) else None) e

names-cover : (xs : List Word) (y : Word) → cover_names (xs ++ y ∷ []) ≡ record { inputs = xs; output = y; on = true; rows = [] }
names-cover [] y = refl
names-cover (x ∷ []) y = refl
names-cover (x ∷ z ∷ zs) y = ap (λ (c : Cover). let r : Cover = record c { inputs = x ∷ c.inputs } in r) (names-cover (z ∷ zs) y)

pub cover-with : (text : Word) (ws : List Token) (rows : List (List Token)) (c : Cover) (on : Bool) (lits : List (List Literal)) → c.inputs ++ c.output ∷ [] ≡ words_at text ws → on ≡ is_on_from (words_in text rows) → lits ≡ map row_from (words_in text rows)
    → record { inputs = c.inputs; output = c.output; on = on; rows = lits } ≡ cover_from (words_at text ws, words_in text rows)
cover-with text ws rows c on lits names is_on are =
    let bare : record { inputs = c.inputs; output = c.output; on = true; rows = [] } ≡ cover_names (words_at text ws) = sym (names-cover c.inputs c.output) ∙ ap cover_names names in
    ap (λ (b : Bool). let r : Cover = record { inputs = c.inputs; output = c.output; on = b; rows = lits } in r) is_on
    ∙ (ap (λ (ls : List (List Literal)). let r : Cover = record { inputs = c.inputs; output = c.output; on = is_on_from (words_in text rows); rows = ls } in r) are
    ∙ ap (λ (d : Cover). let r : Cover = record d { on = is_on_from (words_in text rows); rows = map row_from (words_in text rows) } in r) bare)

-- CALLS
pub no-call : (text : Word) (line : List Token) → begins_with (codes ".subckt") (words_at text line) ≡ false → call_of (spots_at text line) ≡ None
no-call text [] e = refl
no-call text (t ∷ []) e = refl
no-call text (t ∷ u ∷ ts) e = ap (λ (b : Bool). if b then Some (record { place = t.place; callee = (spot_of text u).word; callee_place = u.place; pins = filter_map connection_of (spots_at text ts) }) else None) e

-- NAMES
pub named-go : (text : Word) (ss : List TokenSection) (k : ℕ) (s : TokenSection) (now after : List Word) → slice_get ss k ≡ Some s → now ≡ map module_name (plain_modules (sections_at text (take k ss))) → after ≡ now ++ module_name (plain_module (section_at text s)) ∷ []
    → after ≡ map module_name (plain_modules (sections_at text (take (k + 1) ss)))
named-go text ss k s now after at had added =
    added ∙ (ap (λ ws. ws ++ module_name (plain_module (section_at text s)) ∷ []) had
    ∙ (sym (map-last module_name (plain_modules (sections_at text (take k ss))) (plain_module (section_at text s)))
    ∙ ap (map module_name) (sym (map-last plain_module (sections_at text (take k ss)) (section_at text s)) ∙ ap plain_modules (sym (map-to (section_at text) ss k s at)))))

pub distinct-last : (ws : List Word) (w : Word) → is_distinct ws ≡ true → is_among ws w ≡ false → is_distinct (ws ++ w ∷ []) ≡ true
distinct-last [] w once new = refl
distinct-last (v ∷ vs) w once new =
    let parts = and_parts (not (is_among vs v)) (is_distinct vs) once in
    let other : is_word w v ≡ false = neither_first (is_word w v) (is_among vs w) new in
    let rest : is_among (vs ++ w ∷ []) v ≡ false = list_any-append (is_word v) vs (w ∷ []) ∙ two (is_among vs v) (is_word v w) parts.0 (apart v w other) in
    rw rest (distinct-last vs w parts.1 (neither_second (is_word w v) (is_among vs w) new))
  where
    two : (a b : Bool) → not a ≡ true → b ≡ false → (a || (b || false)) ≡ false
    two true b e f = absurd cc
    two false b e f = rw f refl

    apart : (v w : Word) → is_word w v ≡ false → is_word v w ≡ false
    apart v w e = at (is_word v w) refl
      where
        at : (b : Bool) → is_word v w ≡ b → is_word v w ≡ false
        at true f = let bad : true ≡ false = sym (is_word-same w) ∙ (ap (λ (z : Word). is_word w z) (sym (same_word v w f)) ∙ e) in absurd cc
        at false f = f

pub row-go : (text : Word) (ls : List (List Token)) (k : ℕ) (l : List Token) → slice_get ls k ≡ Some l → is_dotted (words_at text l) ≡ false → before is_dotted (words_in text ls) ≡ take k (words_in text ls) ++ before is_dotted (words_in text (drop k ls))
    → before is_dotted (words_in text ls) ≡ take (k + 1) (words_in text ls) ++ before is_dotted (words_in text (drop (k + 1) ls))
row-go text ls k l at plain had =
    had ∙ (ap (λ (rest : List (List Token)). take k (words_in text ls) ++ before is_dotted (words_in text rest)) (drop-from ls k l at)
    ∙ (ap (λ (b : Bool). take k (words_in text ls) ++ (if b then [] else words_at text l ∷ before is_dotted (words_in text (drop (k + 1) ls)))) plain
    ∙ (sym (append_assoc (take k (words_in text ls)) (words_at text l ∷ []) (before is_dotted (words_in text (drop (k + 1) ls))))
    ∙ ap (λ xs. xs ++ before is_dotted (words_in text (drop (k + 1) ls))) (sym (take_one_more (words_in text ls) k (words_at text l) (map_at (words_at text) ls k l at))))))

count-same : (t u : Word) (ls : List (List Token)) → token_count (lines_at t ls) ≡ token_count (lines_at u ls)
count-same t u [] = refl
count-same t u (l ∷ ls) =
    let a : length (spots_at t l) ≡ length l = length-map l (spot_of t) in
    let b : length (spots_at u l) ≡ length l = length-map l (spot_of u) in
    let h : token_count (lines_at t ls) ≡ token_count (lines_at u ls) = count-same t u ls in
    omega (arith, a, b, h)

pub count-fits : (ls : List (List Token)) (k : ℕ) (l : List Token) (count len all : ℕ) → slice_get ls k ≡ Some l → count + token_count (lines_at [] (drop k ls)) ≡ all → all ≤ 2 ^ 32 → len ≡ length l → count + len ≤ 2 ^ 32
count-fits ls k l count len all at had small is =
    let more : token_count (lines_at [] (drop k ls)) ≡ length (spots_at [] l) + token_count (lines_at [] (drop (k + 1) ls)) = ap (λ (rest : List (List Token)). token_count (lines_at [] rest)) (drop-from ls k l at) in
    let same : length (spots_at [] l) ≡ length l = length-map l (spot_of []) in
    omega (arith, had, small, is, more, same)

pub few-tokens : (text : Word) (s : TokenSection) (title : List Token) (body : List (List Token)) → title ≡ s.title → body ≡ s.body → length s.title + token_count (lines_at text s.body) ≤ 2 ^ 32 → (t : List ℕ) → length title + token_count (lines_at t body) ≤ 2 ^ 32
few-tokens text s title body is are few t =
    let a : length title ≡ length s.title = ap length is in
    let b : token_count (lines_at t body) ≡ token_count (lines_at t s.body) = ap (λ (ls : List (List Token)). token_count (lines_at t ls)) are in
    let c : token_count (lines_at t s.body) ≡ token_count (lines_at text s.body) = count-same t text s.body in
    omega (arith, few, a, b, c)

pub model-of : (text : Word) (s : TokenSection) (body : List (List Token)) (m : Model) → body ≡ s.body → m.name ≡ second_word (words_at text s.title)
    → m.inputs ≡ words_of (codes ".inputs") (words_in text body) → m.clocks ≡ words_of (codes ".clock") (words_in text body) → m.outputs ≡ words_of (codes ".outputs") (words_in text body)
    → m.latches ≡ filter_map latch_in (words_in text body) → m.covers ≡ covers_from (words_in text body) → m ≡ (plain_module (section_at text s)).model
model-of text s body m is name inputs clocks outputs latches covers =
    let same : words_in text body ≡ map words_in_line (lines_at text s.body) = ap (words_in text) is ∙ sym (lines-words text s.body) in
    let n : Model = (plain_module (section_at text s)).model in
    alike m n (name ∙ ap second_word (sym (words-line text s.title))) (inputs ∙ ap (words_of (codes ".inputs")) same) (clocks ∙ ap (words_of (codes ".clock")) same) (outputs ∙ ap (words_of (codes ".outputs")) same) (latches ∙ ap (filter_map latch_in) same) (covers ∙ ap covers_from same)
  where
    alike : (m n : Model) → m.name ≡ n.name → m.inputs ≡ n.inputs → m.clocks ≡ n.clocks → m.outputs ≡ n.outputs → m.latches ≡ n.latches → m.covers ≡ n.covers → m ≡ n
    alike m n a b c d e f =
        ap (λ (x : Word). let r : Model = record m { name = x } in r) a
        ∙ (ap (λ (x : List Word). let r : Model = record { name = n.name; inputs = x; clocks = m.clocks; outputs = m.outputs; latches = m.latches; covers = m.covers } in r) b
        ∙ (ap (λ (x : List Word). let r : Model = record { name = n.name; inputs = n.inputs; clocks = x; outputs = m.outputs; latches = m.latches; covers = m.covers } in r) c
        ∙ (ap (λ (x : List Word). let r : Model = record { name = n.name; inputs = n.inputs; clocks = n.clocks; outputs = x; latches = m.latches; covers = m.covers } in r) d
        ∙ (ap (λ (x : List Latch). let r : Model = record { name = n.name; inputs = n.inputs; clocks = n.clocks; outputs = n.outputs; latches = x; covers = m.covers } in r) e
        ∙ ap (λ (x : List Cover). let r : Model = record { name = n.name; inputs = n.inputs; clocks = n.clocks; outputs = n.outputs; latches = n.latches; covers = x } in r) f))))

pub latch-added : (text : Word) (line : List Token) (t : Token) (ts : List Token) (old new : List Latch) (l : Latch) → line ≡ t ∷ ts → begins_with (codes ".latch") (words_at text line) ≡ true → 2 ≤ length ts → l ≡ latch_from (words_at text ts) → new ≡ old ++ l ∷ [] → new ≡ old ++ cons_option (latch_in (words_at text line)) []
latch-added text line t ts old new l is begun two made added =
    added ∙ ap (λ (o : Option Latch). old ++ cons_option o []) (ap (λ (x : Latch). Some x) made ∙ (sym (latch_line text t ts (subst (λ (k : List Token). begins_with (codes ".latch") (words_at text k) ≡ true) is begun) two) ∙ ap (λ (k : List Token). latch_in (words_at text k)) (sym is)))

pub cover-added : (text : Word) (line : List Token) (t : Token) (ts : List Token) (rows behind : List (List Token)) (n : ℕ) (old new : List Cover) (c : Cover) → line ≡ t ∷ ts → begins_with (codes ".names") (words_at text line) ≡ true → ts ≢ [] → rows ≡ take n behind
    → take n (words_in text behind) ≡ before is_dotted (words_in text behind) → c ≡ cover_from (words_at text ts, words_in text rows) → new ≡ old ++ c ∷ [] → new ≡ old ++ cons_option (cover_on (words_at text line) (words_in text behind)) []
cover-added text line t ts rows behind n old new c is begun some taken counted made added =
    let words : words_in text rows ≡ before is_dotted (words_in text behind) = ap (words_in text) taken ∙ (map-take (words_at text) n behind ∙ counted) in
    added ∙ ap (λ (o : Option Cover). old ++ cons_option o []) (ap (λ (x : Cover). Some x) (made ∙ ap (λ (w : List Line). cover_from (words_at text ts, w)) words) ∙ (sym (cover_line text t ts (words_in text behind) (subst (λ (k : List Token). begins_with (codes ".names") (words_at text k) ≡ true) is begun) some) ∙ ap (λ (k : List Token). cover_on (words_at text k) (words_in text behind)) (sym is)))
  where
    map-take : {A B : Type 0} (f : A → B) (n : ℕ) (xs : List A) → map f (take n xs) ≡ take n (map f xs)
    map-take f zero [] = refl
    map-take f zero (x ∷ xs) = refl
    map-take f (suc n) [] = refl
    map-take f (suc n) (x ∷ xs) = ap (λ ys. f x ∷ ys) (map-take f n xs)

pub no-place : (text : Word) (line : List Token) → begins_with (codes ".names") (words_at text line) ≡ false → names_place (spots_at text line) ≡ None
no-place text [] e = refl
no-place text (t ∷ []) e = refl
no-place text (t ∷ u ∷ ts) e = ap (λ (b : Bool). if b then Some t.place else None) e
