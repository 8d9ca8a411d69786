-- What is cut from a line whose front is known.
use Rattle.std.proofs.Common.{◌≡◌, List, [], ◌∷◌, ◌++◌, Bool, true, false, ◌&&◌, ◌||◌, refl, sym, ◌∙◌, ap, Option, None, Some, append_assoc}
use Rattle.std.specs.Prelude.{◌==◌, if◌then◌else◌}
use Rattle.std.specs.List.{list_all}
use Rattle.std.proofs.Math.Bool.{and-false, and-true}
use Rattle.blif_lines.specs.Layout.{Mark, Spot, Flaw, BadByteAt, is_blank, is_control, joint, before_joint, runs, spots, tokens_in, ends_token, first_bad}
use Rattle.blif_lines.specs.Inner.Cuts.{is_control_byte, kept, kept_at, cut_of, with_spot}
use Rattle.blif_lines.proofs.Bytes.{blank_no_slash, control_is, control_no_blank, control_no_slash, word_no_control, word_not_blank}
use Rattle.rm_base.specs.Words.{is_word_byte}

abbrev pub AreWord : List Mark → Type 0
AreWord [] = Unit {0}
AreWord (m ∷ ms) = (is_word_byte m.byte ≡ true) × AreWord ms

all_blank : List Mark → Bool
all_blank ms = list_all is_blank ms

-- a line of blanks has no joint
pub blanks_no_joint : (ms : List Mark) → list_all is_blank ms ≡ true → joint ms ≡ None
blanks_no_joint [] e = refl
blanks_no_joint (m ∷ ms) e = at (is_blank m) (list_all is_blank ms) refl refl
  where
    at : (a b : Bool) → is_blank m ≡ a → list_all is_blank ms ≡ b → joint (m ∷ ms) ≡ None
    at true true is all = rw (all, blank_no_slash m.byte is) refl
    at true false is all = let wrong : false ≡ true = rw (is, all) at e in cc
    at false b is all = let wrong : false ≡ true = rw is at e in cc

pub not_all : (ws c : List Mark) → list_all is_blank c ≡ false → list_all is_blank (ws ++ c) ≡ false
not_all [] c e = e
not_all (w ∷ ws) c e = rw (not_all ws c e) (and-false (is_blank w))

-- a line that doesn't end in blanks alone keeps its front
pub joint_behind : (ws c : List Mark) → list_all is_blank c ≡ false → joint (ws ++ c) ≡ joint c
joint_behind [] c e = refl
joint_behind (w ∷ ws) c e = rw (not_all ws c e) (joint_behind ws c e)

pub before_behind : (ws c : List Mark) → list_all is_blank c ≡ false → before_joint (ws ++ c) ≡ ws ++ before_joint c
before_behind [] c e = refl
before_behind (w ∷ ws) c e = rw (not_all ws c e) (ap (λ ms. w ∷ ms) (before_behind ws c e))

pub record IsKept (line c : List Mark) (ws : List Mark) : Type 0 where
  pub joint_is : joint line ≡ joint c
  pub kept_is : kept line ≡ ws ++ kept c

-- a byte that is no blank, and no joint, and all before it, are kept
pub keeps : (ws : List Mark) (x : Mark) (c : List Mark) → is_blank x ≡ false → ((x.byte == 92) && list_all is_blank c) ≡ false → IsKept (ws ++ x ∷ c) c (ws ++ x ∷ [])
keeps ws x c solid other = at (list_all is_blank c) (joint c) refl refl
  where
    some : list_all is_blank (x ∷ c) ≡ false
    some = rw solid refl

    here : joint (ws ++ x ∷ c) ≡ joint (x ∷ c)
    here = joint_behind ws (x ∷ c) some

    at : (b : Bool) (j : Option Mark) → list_all is_blank c ≡ b → joint c ≡ j → IsKept (ws ++ x ∷ c) c (ws ++ x ∷ [])
    at true j all is =
        let none : joint c ≡ None = blanks_no_joint c all in
        let slash : (x.byte == 92) ≡ false = sym (and-true (x.byte == 92)) ∙ rw all at other in
        let now : joint (ws ++ x ∷ c) ≡ None = here ∙ rw (all, slash) refl in
        record {
          joint_is = now ∙ sym none;
          kept_is = ap (kept_at (ws ++ x ∷ c)) now ∙ sym (append_assoc ws (x ∷ []) c) ∙ ap (λ k. (ws ++ x ∷ []) ++ k) (sym (ap (kept_at c) none));
        }
    at false None all is =
        let now : joint (ws ++ x ∷ c) ≡ joint c = here ∙ rw all refl in
        record {
          joint_is = now;
          kept_is = ap (kept_at (ws ++ x ∷ c)) (now ∙ is) ∙ sym (append_assoc ws (x ∷ []) c) ∙ ap (λ k. (ws ++ x ∷ []) ++ k) (sym (ap (kept_at c) is));
        }
    at false (Some m) all is =
        let now : joint (ws ++ x ∷ c) ≡ joint c = here ∙ rw all refl in
        let cut : before_joint (x ∷ c) ≡ x ∷ before_joint c = rw all refl in
        record {
          joint_is = now;
          kept_is = ap (kept_at (ws ++ x ∷ c)) (now ∙ is) ∙ before_behind ws (x ∷ c) some ∙ ap (λ k. ws ++ k) cut ∙ sym (append_assoc ws (x ∷ []) (before_joint c)) ∙ ap (λ k. (ws ++ x ∷ []) ++ k) (sym (ap (kept_at c) is));
        }

-- where the rest begins with a blank, so does what is kept of it
pub kept_ends : (c : List Mark) → ends_token c ≡ true → ends_token (kept c) ≡ true
kept_ends [] e = refl
kept_ends (m ∷ ms) e = at (joint (m ∷ ms)) (list_all is_blank ms) refl refl
  where
    at : (j : Option Mark) (b : Bool) → joint (m ∷ ms) ≡ j → list_all is_blank ms ≡ b → ends_token (kept (m ∷ ms)) ≡ true
    at None b is all = ap (λ o. ends_token (kept_at (m ∷ ms) o)) is ∙ e
    at (Some n) true is all = ap (λ o. ends_token (kept_at (m ∷ ms) o)) is ∙ (rw all refl)
    at (Some n) false is all = ap (λ o. ends_token (kept_at (m ∷ ms) o)) is ∙ (rw all e)

-- a token, then the rest
more : List Mark → List (List Mark)
more [] = []
more (m ∷ ms) = runs ms

runs_word : (ws : List Mark) (x : Mark) (d : List Mark) → AreWord ws → is_blank x ≡ false → ends_token d ≡ true → runs (ws ++ x ∷ d) ≡ (ws ++ x ∷ []) ∷ more d
unfolding more
runs_word [] x [] all solid e = rw solid refl
runs_word [] x (m ∷ ms) all solid e = rw (solid, e) refl
runs_word (w ∷ ws) x d all solid e = let is : is_blank w ≡ false = word_not_blank w.byte all.0 in rw (is, runs_word ws x d all.1 solid e) refl

spots_more : (d : List Mark) → ends_token d ≡ true → spots (more d) ≡ tokens_in d
unfolding more
spots_more [] e = refl
spots_more (m ∷ ms) e = rw e refl

pub tokens_word : (ws : List Mark) (x : Mark) (d : List Mark) (s : Spot) → AreWord ws → is_blank x ≡ false → ends_token d ≡ true → spots ((ws ++ x ∷ []) ∷ []) ≡ s ∷ [] → tokens_in (ws ++ x ∷ d) ≡ s ∷ tokens_in d
tokens_word [] x d s all solid e is = rw (runs_word [] x d all solid e) (let one : spots ((x ∷ []) ∷ []) ≡ s ∷ [] = is in let two : spots (more d) ≡ tokens_in d = spots_more d e in cc)
tokens_word (w ∷ ws) x d s all solid e is = rw (runs_word (w ∷ ws) x d all solid e) (let one : spots ((w ∷ (ws ++ x ∷ [])) ∷ []) ≡ s ∷ [] = is in let two : spots (more d) ≡ tokens_in d = spots_more d e in cc)

-- no byte of a token's inside is bad
pub bad_behind : (ws : List Mark) (x : Mark) (d : List Mark) → AreWord ws → is_blank x ≡ false → first_bad (ws ++ x ∷ d) ≡ first_bad (x ∷ d)
bad_behind [] x d all solid = refl
bad_behind (w ∷ []) x d all solid = rw (word_no_control w.byte all.0, solid, and-false (w.byte == 92)) refl
bad_behind (w ∷ v ∷ ws) x d all solid =
    let ends : ends_token (v ∷ (ws ++ x ∷ d)) ≡ false = word_not_blank v.byte all.1.0 in
    let fine : (is_control w || ((w.byte == 92) && ends_token (v ∷ (ws ++ x ∷ d)))) ≡ false = ap (λ (t : Bool). t || ((w.byte == 92) && ends_token (v ∷ (ws ++ x ∷ d)))) (word_no_control w.byte all.0) ∙ ap (λ (t : Bool). (w.byte == 92) && t) ends ∙ and-false (w.byte == 92) in
    ap (λ (t : Bool). if t then Some (BadByteAt w.place) else first_bad (v ∷ (ws ++ x ∷ d))) fine ∙ bad_behind (v ∷ ws) x d all.1 solid

cut_is : (line c ws : List Mark) (ts : List Spot) (f : Option Flaw) → IsKept line c ws → tokens_in (ws ++ kept c) ≡ ts → first_bad (ws ++ kept c) ≡ f → cut_of line ≡ record { tokens = ts; flaw = f; joint = joint c }
cut_is line c ws ts f k t e = let one : tokens_in (kept line) ≡ ts = ap tokens_in k.kept_is ∙ t in let two : first_bad (kept line) ≡ f = ap first_bad k.kept_is ∙ e in let three : joint line ≡ joint c = k.joint_is in cc

flaw_is : (line c ws : List Mark) (f : Option Flaw) → IsKept line c ws → first_bad (ws ++ kept c) ≡ f → (cut_of line).flaw ≡ f
flaw_is line c ws f k e = ap first_bad k.kept_is ∙ e

pub cut_word : (ws : List Mark) (x : Mark) (c : List Mark) (s : Spot) → AreWord ws → is_word_byte x.byte ≡ true → (x.byte == 92) ≡ false → ends_token c ≡ true → spots ((ws ++ x ∷ []) ∷ []) ≡ s ∷ [] → cut_of (ws ++ x ∷ c) ≡ with_spot s (cut_of c)
cut_word ws x c s all word other e is =
    let solid : is_blank x ≡ false = word_not_blank x.byte word in
    cut_is (ws ++ x ∷ c) c (ws ++ x ∷ []) (s ∷ tokens_in (kept c)) (first_bad (kept c))
    (keeps ws x c solid (rw other refl))
    (ap tokens_in (append_assoc ws (x ∷ []) (kept c)) ∙ tokens_word ws x (kept c) s all solid (kept_ends c e) is)
    (ap first_bad (append_assoc ws (x ∷ []) (kept c)) ∙ bad_behind ws x (kept c) all solid ∙ rw (word_no_control x.byte word, other) refl)

pub cut_blank : (m : Mark) (c : List Mark) → is_blank m ≡ true → cut_of (m ∷ c) ≡ cut_of c
cut_blank m c e = at (list_all is_blank c) (joint c) refl refl
  where
    tokens_same : (d : List Mark) → tokens_in (m ∷ d) ≡ tokens_in d
    tokens_same d = rw e refl

    bad_same : (d : List Mark) → first_bad (m ∷ d) ≡ first_bad d
    bad_same d = rw (e, blank_no_slash m.byte e) refl

    same : joint (m ∷ c) ≡ joint c → kept (m ∷ c) ≡ m ∷ kept c → cut_of (m ∷ c) ≡ cut_of c
    same j k = let one : tokens_in (kept (m ∷ c)) ≡ tokens_in (kept c) = ap tokens_in k ∙ tokens_same (kept c) in let two : first_bad (kept (m ∷ c)) ≡ first_bad (kept c) = ap first_bad k ∙ bad_same (kept c) in cc

    at : (b : Bool) (j : Option Mark) → list_all is_blank c ≡ b → joint c ≡ j → cut_of (m ∷ c) ≡ cut_of c
    at true j all is =
        let none : joint c ≡ None = blanks_no_joint c all in
        let now : joint (m ∷ c) ≡ None = rw (all, blank_no_slash m.byte e) refl in
        same (now ∙ sym none) (ap (kept_at (m ∷ c)) now ∙ ap (λ k. m ∷ k) (sym (ap (kept_at c) none)))
    at false None all is =
        let now : joint (m ∷ c) ≡ joint c = rw all refl in
        same now (ap (kept_at (m ∷ c)) (now ∙ is) ∙ ap (λ k. m ∷ k) (sym (ap (kept_at c) is)))
    at false (Some j) all is =
        let now : joint (m ∷ c) ≡ joint c = rw all refl in
        let cut : before_joint (m ∷ c) ≡ m ∷ before_joint c = rw all refl in
        same now (ap (kept_at (m ∷ c)) (now ∙ is) ∙ cut ∙ ap (λ k. m ∷ k) (sym (ap (kept_at c) is)))

pub flaw_control : (ws : List Mark) (x : Mark) (c : List Mark) → AreWord ws → is_control_byte x.byte ≡ true → (cut_of (ws ++ x ∷ c)).flaw ≡ Some (BadByteAt x.place)
flaw_control ws x c all e =
    let solid : is_blank x ≡ false = control_no_blank x.byte e in
    flaw_is (ws ++ x ∷ c) c (ws ++ x ∷ []) (Some (BadByteAt x.place))
    (keeps ws x c solid (rw (control_no_slash x.byte e) refl))
    (ap first_bad (append_assoc ws (x ∷ []) (kept c)) ∙ bad_behind ws x (kept c) all solid ∙ rw (control_is x.byte e) refl)

pub flaw_slash : (ws : List Mark) (x : Mark) (c : List Mark) → AreWord ws → is_word_byte x.byte ≡ true → (x.byte == 92) ≡ true → ends_token c ≡ true → list_all is_blank c ≡ false → (cut_of (ws ++ x ∷ c)).flaw ≡ Some (BadByteAt x.place)
flaw_slash ws x c all word slash e some =
    let solid : is_blank x ≡ false = word_not_blank x.byte word in
    flaw_is (ws ++ x ∷ c) c (ws ++ x ∷ []) (Some (BadByteAt x.place))
    (keeps ws x c solid (rw (slash, some) refl))
    (ap first_bad (append_assoc ws (x ∷ []) (kept c)) ∙ bad_behind ws x (kept c) all solid ∙ rw (word_no_control x.byte word, slash, kept_ends c e) refl)

-- a joint behind all that is kept
pub record IsJoined (line ws : List Mark) (x : Mark) : Type 0 where
  pub joint_is : joint line ≡ Some x
  pub kept_is : kept line ≡ ws

pub joins_at : (ws : List Mark) (x : Mark) (c : List Mark) → is_blank x ≡ false → (x.byte == 92) ≡ true → list_all is_blank c ≡ true → IsJoined (ws ++ x ∷ c) ws x
joins_at ws x c solid slash all =
    let some : list_all is_blank (x ∷ c) ≡ false = rw solid refl in
    let now : joint (ws ++ x ∷ c) ≡ Some x = joint_behind ws (x ∷ c) some ∙ rw (all, slash) refl in
    let none : before_joint (x ∷ c) ≡ [] = rw all refl in
    record {
      joint_is = now;
      kept_is = ap (kept_at (ws ++ x ∷ c)) now ∙ before_behind ws (x ∷ c) some ∙ ap (λ k. ws ++ k) none ∙ append_nil ws;
    }
  where
    append_nil : (ys : List Mark) → ys ++ [] ≡ ys
    append_nil [] = refl
    append_nil (y ∷ ys) = ap (λ k. y ∷ k) (append_nil ys)

pub cut_join : (ws : List Mark) (x : Mark) (c : List Mark) (ts : List Spot) → IsJoined (ws ++ x ∷ c) ws x → tokens_in ws ≡ ts → first_bad ws ≡ None → cut_of (ws ++ x ∷ c) ≡ record { tokens = ts; flaw = None; joint = Some x }
cut_join ws x c ts j t e = let one : tokens_in (kept (ws ++ x ∷ c)) ≡ ts = ap tokens_in j.kept_is ∙ t in let two : first_bad (kept (ws ++ x ∷ c)) ≡ None = ap first_bad j.kept_is ∙ e in let three : joint (ws ++ x ∷ c) ≡ Some x = j.joint_is in cc

pub cut_join_alone : (x : Mark) (c : List Mark) → is_blank x ≡ false → (x.byte == 92) ≡ true → list_all is_blank c ≡ true → cut_of (x ∷ c) ≡ record { tokens = []; flaw = None; joint = Some x }
cut_join_alone x c solid slash all = cut_join [] x c [] (joins_at [] x c solid slash all) refl refl

pub cut_join_word : (vs : List Mark) (y x : Mark) (c : List Mark) (s : Spot) → AreWord vs → is_word_byte y.byte ≡ true → (y.byte == 92) ≡ false → spots ((vs ++ y ∷ []) ∷ []) ≡ s ∷ [] → is_blank x ≡ false → (x.byte == 92) ≡ true → list_all is_blank c ≡ true → cut_of ((vs ++ y ∷ []) ++ x ∷ c) ≡ record { tokens = s ∷ []; flaw = None; joint = Some x }
cut_join_word vs y x c s all word other is solid slash blanks =
    let thick : is_blank y ≡ false = word_not_blank y.byte word in
    cut_join (vs ++ y ∷ []) x c (s ∷ []) (joins_at (vs ++ y ∷ []) x c solid slash blanks)
    (tokens_word vs y [] s all thick refl is)
    (bad_behind vs y [] all thick ∙ rw (word_no_control y.byte word, other) refl)

pub flaw_join : (vs : List Mark) (y x : Mark) (c : List Mark) → AreWord vs → is_word_byte y.byte ≡ true → (y.byte == 92) ≡ true → is_blank x ≡ false → (x.byte == 92) ≡ true → list_all is_blank c ≡ true → (cut_of ((vs ++ y ∷ []) ++ x ∷ c)).flaw ≡ Some (BadByteAt y.place)
flaw_join vs y x c all word end solid slash blanks =
    let thick : is_blank y ≡ false = word_not_blank y.byte word in
    let j : IsJoined ((vs ++ y ∷ []) ++ x ∷ c) (vs ++ y ∷ []) x = joins_at (vs ++ y ∷ []) x c solid slash blanks in
    ap first_bad j.kept_is ∙ bad_behind vs y [] all thick ∙ rw (word_no_control y.byte word, end) refl
