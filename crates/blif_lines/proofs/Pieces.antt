-- What the bytes at a place say of the line from there on.
use Rattle.std.proofs.Common.{◌≡◌, ◌≢◌, ℕ, zero, suc, ◌<◌, ◌≤◌, ◌+◌, ◌-◌, List, [], ◌∷◌, ◌++◌, length, drop, take, get_or, map, Bool, true, false, ◌||◌, inl, inr, refl, sym, ◌∙◌, ap, subst, arith, None, Some}
use Rattle.std.specs.Prelude.{◌==◌, if◌then◌else◌, nat_lt}
use Rattle.std.proofs.lemmas.Bool.{eq-eqb, lt-ltb, le-ltb}
use Rattle.std.proofs.lemmas.Bool.Decides.{eqb_tells}
use Rattle.std.specs.List.{list_all}
use Rattle.std.proofs.Math.Seq.{drop-cons}
use Rattle.std.proofs.lemmas.List.{drop-drop, get_or-drop}
use Rattle.rm_base.specs.declared.numbers.Place.{Place}
use Rattle.blif_lines.specs.Layout.{Mark, BadByteAt, behind, marked, is_blank, spots, ends_token}
use Rattle.blif_lines.specs.Inner.Cuts.{front, begins, is_closed, is_blank_byte, is_control_byte, is_inner, line_end_of, content, Cut, cut_of, cut_from, with_spot, moved, spot_between, spots_between, IsWord, IsBad, IsClose, IsJoin}
use Rattle.blif_lines.proofs.Bytes.{word_inner, blank_inner, control_inner, word_is_inner, blank_is_inner, boundary, word_not_blank}
use Rattle.blif_lines.proofs.Lines.{AreWord, cut_blank, cut_word, flaw_control, flaw_slash, cut_join_alone, cut_join_word, flaw_join}
use Rattle.rm_base.specs.Words.{is_word_byte}

pub inner_behind : (b : ℕ) (p : Place) → ((b == 10) || (b == 35)) ≡ false → behind b p ≡ moved p 1
inner_behind b p e = at (b == 10) refl
  where
    at : (t : Bool) → (b == 10) ≡ t → behind b p ≡ moved p 1
    at true is = let wrong : true ≡ false = rw is at e in cc
    at false is = rw is refl

pub moved_one : (p : Place) (n : ℕ) → moved (moved p 1) n ≡ moved p (suc n)
moved_one p n = let P : ℕ → Place = λ k. record { line = p.line; column = k } in ap P (let e : (p.column + 1) + n ≡ p.column + suc n = omega arith in e)

pub moved_none : (p : Place) → moved p 0 ≡ p
moved_none p = let P : ℕ → Place = λ k. record { line = p.line; column = k } in ap P (let e : p.column + 0 ≡ p.column = omega arith in e)

pub moved_more : (p : Place) (m n k : ℕ) → m + n ≡ k → moved (moved p m) n ≡ moved p k
moved_more p m n k e = let P : ℕ → Place = λ k. record { line = p.line; column = k } in ap P (let e : (p.column + m) + n ≡ p.column + k = omega arith in e)

pub same_marks : (o o' : ℕ) (p p' : Place) (bs : List ℕ) → o ≡ o' → p ≡ p' → marked o p bs ≡ marked o' p' bs
same_marks o o' p p' bs e f = cc

pub cons_content : (o : ℕ) (p : Place) (b : ℕ) (bs : List ℕ) → ((b == 10) || (b == 35)) ≡ false → content (marked o p (b ∷ bs)) ≡ record { byte = b; start = o; place = p } ∷ content (marked (o + 1) (moved p 1) bs)
cons_content o p b bs e = rw e (ap (λ (q : Place). record { byte = b; start = o; place = p } ∷ content (marked (o + 1) q bs)) (inner_behind b p e))

-- blanks change nothing
pub over_blanks : (o : ℕ) (p : Place) (bs : List ℕ) → cut_of (content (marked o p bs)) ≡ cut_of (content (marked (o + front is_blank_byte bs) (moved p (front is_blank_byte bs)) (drop (front is_blank_byte bs) bs)))
over_blanks o p [] = refl
over_blanks o p (b ∷ bs) = at (is_blank_byte b) refl (over_blanks (o + 1) (moved p 1) bs)
  where
    at : (t : Bool) → is_blank_byte b ≡ t → cut_of (content (marked (o + 1) (moved p 1) bs)) ≡ cut_of (content (marked ((o + 1) + front is_blank_byte bs) (moved (moved p 1) (front is_blank_byte bs)) (drop (front is_blank_byte bs) bs))) → cut_of (content (marked o p (b ∷ bs))) ≡ cut_of (content (marked (o + front is_blank_byte (b ∷ bs)) (moved p (front is_blank_byte (b ∷ bs))) (drop (front is_blank_byte (b ∷ bs)) (b ∷ bs))))
    at true is ih = rw is (
        ap cut_of (cons_content o p b bs (blank_inner b is))
        ∙ cut_blank (record { byte = b; start = o; place = p }) (content (marked (o + 1) (moved p 1) bs)) is
        ∙ ih
        ∙ ap (λ ms. cut_of (content ms)) (same_marks ((o + 1) + front is_blank_byte bs) (o + suc (front is_blank_byte bs)) (moved (moved p 1) (front is_blank_byte bs)) (moved p (suc (front is_blank_byte bs))) (drop (front is_blank_byte bs) bs) (omega arith) (moved_one p (front is_blank_byte bs))))
    at false is ih = rw is (ap (λ ms. cut_of (content ms)) (same_marks o (o + 0) p (moved p 0) (b ∷ bs) (omega arith) (sym (moved_none p))))

-- the first k bytes of a token
pub record Splits (o : ℕ) (p : Place) (bs : List ℕ) (k : ℕ) : Type 0 where
  pub all : AreWord (marked o p (take k bs))
  pub content_is : content (marked o p bs) ≡ marked o p (take k bs) ++ content (marked (o + k) (moved p k) (drop k bs))

front_less : (k n : ℕ) → suc k ≤ suc n → k ≤ n
front_less k n h = omega arith

pub splits : (o : ℕ) (p : Place) (bs : List ℕ) (k : ℕ) → k ≤ front is_word_byte bs → Splits o p bs k
splits o p bs zero h = record { all = tt; content_is = ap content (same_marks o (o + 0) p (moved p 0) bs (omega arith) (sym (moved_none p))) }
splits o p [] (suc k) h = absurd (omega arith)
splits o p (b ∷ bs) (suc k) h = at (is_word_byte b) refl (splits (o + 1) (moved p 1) bs k)
  where
    at : (t : Bool) → is_word_byte b ≡ t → (k ≤ front is_word_byte bs → Splits (o + 1) (moved p 1) bs k) → Splits o p (b ∷ bs) (suc k)
    at true is ih =
        let less : suc k ≤ suc (front is_word_byte bs) = rw is at h in
        let s : Splits (o + 1) (moved p 1) bs k = ih (front_less k _ less) in
        let here : behind b p ≡ moved p 1 = inner_behind b p (word_inner b is) in
        record {
          all = (is, rw here s.all);
          content_is =
              cons_content o p b bs (word_inner b is)
              ∙ ap (λ ms. record { byte = b; start = o; place = p } ∷ ms) (s.content_is ∙ ap (λ ms. marked (o + 1) (moved p 1) (take k bs) ++ content ms) (same_marks ((o + 1) + k) (o + suc k) (moved (moved p 1) k) (moved p (suc k)) (drop k bs) (omega arith) (moved_one p k)))
              ∙ ap (λ (q : Place). record { byte = b; start = o; place = p } ∷ (marked (o + 1) q (take k bs) ++ content (marked (o + suc k) (moved p (suc k)) (drop k bs)))) (sym here);
        }
    at false is ih = let less : suc k ≤ 0 = rw is at h in absurd (omega arith)

pub front_at : (test : ℕ → Bool) (bs : List ℕ) (k : ℕ) → k < front test bs → (test (get_or bs k 0) ≡ true) × (k < length bs)
front_at test [] k h = absurd (omega arith)
front_at test (b ∷ bs) k h = at (test b) refl k h (front_at test bs)
  where
    at : (t : Bool) → test b ≡ t → (k : ℕ) → k < front test (b ∷ bs) → ((k : ℕ) → k < front test bs → (test (get_or bs k 0) ≡ true) × (k < length bs)) → (test (get_or (b ∷ bs) k 0) ≡ true) × (k < length (b ∷ bs))
    at true is zero h ih = (is, omega arith)
    at true is (suc k) h ih = let less : suc k < suc (front test bs) = rw is at h in let r : (test (get_or bs k 0) ≡ true) × (k < length bs) = ih k (omega arith) in (r.0, omega (arith, r.1))
    at false is k h ih = let less : k < 0 = rw is at h in absurd (omega arith)

-- a token of one byte more than k
pub record WordSplit (o : ℕ) (p : Place) (bs : List ℕ) (k : ℕ) : Type 0 where
  pub all : AreWord (marked o p (take k bs))
  pub word : is_word_byte (get_or bs k 0) ≡ true
  pub content_is : content (marked o p bs) ≡ marked o p (take k bs) ++ record { byte = get_or bs k 0; start = o + k; place = moved p k } ∷ content (marked (o + suc k) (moved p (suc k)) (drop (suc k) bs))

-- the byte behind the first k, which may begin no comment and no line
pub at_byte : (o : ℕ) (p : Place) (bs : List ℕ) (k : ℕ) → k < length bs → ((get_or bs k 0 == 10) || (get_or bs k 0 == 35)) ≡ false → content (marked (o + k) (moved p k) (drop k bs)) ≡ record { byte = get_or bs k 0; start = o + k; place = moved p k } ∷ content (marked (o + suc k) (moved p (suc k)) (drop (suc k) bs))
at_byte o p bs k h e =
    ap (λ cs. content (marked (o + k) (moved p k) cs)) (drop-cons bs k 0 h)
    ∙ cons_content (o + k) (moved p k) (get_or bs k 0) (drop (suc k) bs) e
    ∙ ap (λ ms. record { byte = get_or bs k 0; start = o + k; place = moved p k } ∷ content ms) (same_marks ((o + k) + 1) (o + suc k) (moved (moved p k) 1) (moved p (suc k)) (drop (suc k) bs) (omega arith) (moved_more p k 1 (suc k) (omega arith)))

pub word_split : (o : ℕ) (p : Place) (bs : List ℕ) (k : ℕ) → suc k ≤ front is_word_byte bs → WordSplit o p bs k
word_split o p bs k h =
    let s : Splits o p bs k = splits o p bs k (omega arith) in
    let f : (is_word_byte (get_or bs k 0) ≡ true) × (k < length bs) = front_at is_word_byte bs k (omega arith) in
    record {
      all = s.all;
      word = f.0;
      content_is = s.content_is ∙ ap (λ ms. marked o p (take k bs) ++ ms) (at_byte o p bs k f.1 (word_inner (get_or bs k 0) f.0));
    }

bytes_marked : (o : ℕ) (p : Place) (bs : List ℕ) → map (λ (n : Mark). n.byte) (marked o p bs) ≡ bs
bytes_marked o p [] = refl
bytes_marked o p (b ∷ bs) = ap (λ cs. b ∷ cs) (bytes_marked (o + 1) (behind b p) bs)

pub marked_last : (o : ℕ) (p : Place) (bs : List ℕ) (k : ℕ) → suc k ≤ front is_word_byte bs → marked o p (take k bs) ++ record { byte = get_or bs k 0; start = o + k; place = moved p k } ∷ [] ≡ marked o p (take (suc k) bs)
marked_last o p [] k h = absurd (omega arith)
marked_last o p (b ∷ bs) zero h = let e : o + 0 ≡ o = omega arith in ap (λ (n : ℕ). record { byte = b; start = n; place = moved p 0 } ∷ []) e ∙ ap (λ (q : Place). record { byte = b; start = o; place = q } ∷ []) (moved_none p)
marked_last o p (b ∷ bs) (suc k) h = at (is_word_byte b) refl (marked_last (o + 1) (moved p 1) bs k)
  where
    at : (t : Bool) → is_word_byte b ≡ t → (suc k ≤ front is_word_byte bs → marked (o + 1) (moved p 1) (take k bs) ++ record { byte = get_or bs k 0; start = (o + 1) + k; place = moved (moved p 1) k } ∷ [] ≡ marked (o + 1) (moved p 1) (take (suc k) bs)) → marked o p (take (suc k) (b ∷ bs)) ++ record { byte = get_or bs k 0; start = o + suc k; place = moved p (suc k) } ∷ [] ≡ marked o p (take (suc (suc k)) (b ∷ bs))
    at true is ih =
        let less : suc (suc k) ≤ suc (front is_word_byte bs) = rw is at h in
        let here : behind b p ≡ moved p 1 = inner_behind b p (word_inner b is) in
        let now = ih (front_less (suc k) _ less) in
        rw here (ap (λ ms. record { byte = b; start = o; place = p } ∷ ms) (
        ap (λ (n : ℕ). marked (o + 1) (moved p 1) (take k bs) ++ record { byte = get_or bs k 0; start = n; place = moved p (suc k) } ∷ []) (let e : o + suc k ≡ (o + 1) + k = omega arith in e)
        ∙ ap (λ (q : Place). marked (o + 1) (moved p 1) (take k bs) ++ record { byte = get_or bs k 0; start = (o + 1) + k; place = q } ∷ []) (sym (moved_one p k))
        ∙ now))
    at false is ih = let less : suc (suc k) ≤ 0 = rw is at h in absurd (omega arith)

pub spot_is : (o : ℕ) (p : Place) (bs : List ℕ) (k : ℕ) → suc k ≤ front is_word_byte bs → spots ((marked o p (take k bs) ++ record { byte = get_or bs k 0; start = o + k; place = moved p k } ∷ []) ∷ []) ≡ record { word = take (suc k) bs; start = o; place = p } ∷ []
spot_is o p [] k h = absurd (omega arith)
spot_is o p (b ∷ bs) k h = ap (λ ms. spots (ms ∷ [])) (marked_last o p (b ∷ bs) k h) ∙ ap (λ (cs : List ℕ). record { word = b ∷ cs; start = o; place = p } ∷ []) (bytes_marked (o + 1) (behind b p) (take k bs))

pub front_ends : (test : ℕ → Bool) (bs : List ℕ) → begins test (drop (front test bs) bs) ≡ false
front_ends test [] = refl
front_ends test (b ∷ bs) = at (test b) refl (front_ends test bs)
  where
    at : (t : Bool) → test b ≡ t → begins test (drop (front test bs) bs) ≡ false → begins test (drop (front test (b ∷ bs)) (b ∷ bs)) ≡ false
    at true is ih = rw is ih
    at false is ih = rw is is

pub ends_at : (o : ℕ) (p : Place) (bs : List ℕ) → begins is_word_byte bs ≡ false → begins is_control_byte bs ≡ false → ends_token (content (marked o p bs)) ≡ true
ends_at o p [] w c = refl
ends_at o p (b ∷ bs) w c = elim (boundary b w c) [ inl t ↦ rw (blank_inner b t) t | inr t ↦ rw t refl ]

pub closes_at : (o : ℕ) (p : Place) (bs : List ℕ) → begins is_word_byte bs ≡ false → begins is_control_byte bs ≡ false → begins is_blank_byte bs ≡ false → content (marked o p bs) ≡ []
closes_at o p [] w c b = refl
closes_at o p (b ∷ bs) w c e = elim (boundary b w c) [ inl t ↦ let wrong : true ≡ false = sym t ∙ e in cc | inr t ↦ rw t refl ]

pub blanks_closed : (o : ℕ) (p : Place) (bs : List ℕ) → list_all is_blank (content (marked o p bs)) ≡ is_closed (drop (front is_blank_byte bs) bs)
blanks_closed o p [] = refl
blanks_closed o p (b ∷ bs) = at (is_blank_byte b) refl (blanks_closed (o + 1) (behind b p) bs)
  where
    at : (t : Bool) → is_blank_byte b ≡ t → list_all is_blank (content (marked (o + 1) (behind b p) bs)) ≡ is_closed (drop (front is_blank_byte bs) bs) → list_all is_blank (content (marked o p (b ∷ bs))) ≡ is_closed (drop (front is_blank_byte (b ∷ bs)) (b ∷ bs))
    at true is ih = rw (blank_inner b is, is) ih
    at false is ih = rw is (end ((b == 10) || (b == 35)) refl)
      where
        end : (t : Bool) → ((b == 10) || (b == 35)) ≡ t → list_all is_blank (content (marked o p (b ∷ bs))) ≡ ((b == 10) || (b == 35))
        end true e = rw e refl
        end false e = rw (e, is) refl

pub inner_over : (test : ℕ → Bool) (bs : List ℕ) (k : ℕ) → ((b : ℕ) → test b ≡ true → is_inner b ≡ true) → k ≤ front test bs → front is_inner bs ≡ k + front is_inner (drop k bs)
inner_over test bs zero implies h = let e : front is_inner bs ≡ 0 + front is_inner bs = omega arith in e
inner_over test [] (suc k) implies h = absurd (omega arith)
inner_over test (b ∷ bs) (suc k) implies h = at (test b) refl (inner_over test bs k implies)
  where
    at : (t : Bool) → test b ≡ t → (k ≤ front test bs → front is_inner bs ≡ k + front is_inner (drop k bs)) → front is_inner (b ∷ bs) ≡ suc k + front is_inner (drop k bs)
    at true is ih = let less : suc k ≤ suc (front test bs) = rw is at h in let r = ih (front_less k _ less) in let inner : is_inner b ≡ true = implies b is in ap (λ (t : Bool). if t then suc (front is_inner bs) else 0) inner ∙ (let e : suc (front is_inner bs) ≡ suc k + front is_inner (drop k bs) = omega arith in e)
    at false is ih = let less : suc k ≤ 0 = rw is at h in absurd (omega arith)

-- a run of blanks and a run of bytes of a word
pub record IsRun (text : List ℕ) (at start end : ℕ) : Type 0 where
  pub start_is : start ≡ at + front is_blank_byte (drop at text)
  pub end_is : end ≡ start + front is_word_byte (drop start text)
  pub within : end ≤ length text

sum_left : (a b c : ℕ) → c ≡ a + b → c - a ≡ b
sum_left a b c e = omega arith

pub cut_at_start : (text : List ℕ) (at start end : ℕ) (p : Place) → IsRun text at start end → cut_from text at p ≡ cut_from text start (moved p (start - at))
cut_at_start text at start end p r =
    let n : start - at ≡ front is_blank_byte (drop at text) = sum_left at (front is_blank_byte (drop at text)) start r.start_is in
    over_blanks at p (drop at text)
    ∙ ap (λ (k : ℕ). cut_of (content (marked (at + k) (moved p k) (drop k (drop at text))))) (sym n)
    ∙ ap (λ (cs : List ℕ). cut_of (content (marked (at + (start - at)) (moved p (start - at)) cs))) (drop-drop (start - at) at text)
    ∙ ap (λ (k : ℕ). cut_of (content (marked k (moved p (start - at)) (drop k text)))) (let is : start ≡ at + front is_blank_byte (drop at text) = r.start_is in let e : at + (start - at) ≡ start = omega arith in e)

pub inner_at : (test : ℕ → Bool) (text : List ℕ) (at k end : ℕ) → ((b : ℕ) → test b ≡ true → is_inner b ≡ true) → k ≤ front test (drop at text) → end ≡ at + k → line_end_of text at ≡ line_end_of text end
inner_at test text at k end implies h e =
    let one : front is_inner (drop at text) ≡ k + front is_inner (drop k (drop at text)) = inner_over test (drop at text) k implies h in
    let two : drop k (drop at text) ≡ drop end text = drop-drop k at text ∙ ap (λ n. drop n text) (sym e) in
    let three : front is_inner (drop k (drop at text)) ≡ front is_inner (drop end text) = ap (front is_inner) two in
    omega arith

pub line_end_at_start : (text : List ℕ) (at start end : ℕ) → IsRun text at start end → line_end_of text at ≡ line_end_of text start
line_end_at_start text at start end r = inner_at is_blank_byte text at (front is_blank_byte (drop at text)) start blank_is_inner (omega arith) r.start_is

pub line_end_at_end : (text : List ℕ) (at start end : ℕ) → IsRun text at start end → line_end_of text at ≡ line_end_of text end
line_end_at_end text at start end r = line_end_at_start text at start end r ∙ inner_at is_word_byte text start (front is_word_byte (drop start text)) end word_is_inner (omega arith) r.end_is

pub no_word_at : (text : List ℕ) (at start end : ℕ) → IsRun text at start end → begins is_word_byte (drop end text) ≡ false
no_word_at text at start end r = ap (begins is_word_byte) (ap (λ n. drop n text) r.end_is ∙ sym (drop-drop (front is_word_byte (drop start text)) start text)) ∙ front_ends is_word_byte (drop start text)

pub no_blank_at : (text : List ℕ) (at start end : ℕ) → IsRun text at start end → begins is_blank_byte (drop start text) ≡ false
no_blank_at text at start end r = ap (begins is_blank_byte) (ap (λ n. drop n text) r.start_is ∙ sym (drop-drop (front is_blank_byte (drop at text)) at text)) ∙ front_ends is_blank_byte (drop at text)

-- the place of byte k of the token, and the rest behind k bytes
place_in : (p : Place) (at start here k : ℕ) → at ≤ start → here ≡ start + k → moved (moved p (start - at)) k ≡ moved p (here - at)
place_in p at start here k h e = moved_more p (start - at) k (here - at) (omega arith)

rest_in : (text : List ℕ) (p : Place) (at start here k : ℕ) → at ≤ start → here ≡ start + k → content (marked (start + k) (moved (moved p (start - at)) k) (drop k (drop start text))) ≡ content (marked here (moved p (here - at)) (drop here text))
rest_in text p at start here k h e =
    ap (λ (cs : List ℕ). content (marked (start + k) (moved (moved p (start - at)) k) cs)) (drop-drop k start text)
    ∙ ap (λ (q : Place). content (marked (start + k) q (drop (start + k) text))) (place_in p at start here k h e)
    ∙ ap (λ (n : ℕ). content (marked n (moved p (here - at)) (drop n text))) (sym e)

run_begins : (text : List ℕ) (at start end : ℕ) → IsRun text at start end → at ≤ start
run_begins text at start end r = let e : start ≡ at + front is_blank_byte (drop at text) = r.start_is in omega arith

slash_is : (b : ℕ) → b ≡ 92 → (b == 92) ≡ true
slash_is b e = eq-eqb b 92 e

no_slash : (b : ℕ) → b ≢ 92 → (b == 92) ≡ false
no_slash b h = elim (eqb_tells b 92) [ inl t ↦ absurd (h t.1) | inr t ↦ t.0 ]

-- the token as far as its byte k, and that byte
in_run : (text : List ℕ) (at start end k : ℕ) → IsRun text at start end → start + suc k ≤ end → suc k ≤ front is_word_byte (drop start text)
in_run text at start end k r h = let e : end ≡ start + front is_word_byte (drop start text) = r.end_is in omega arith

byte_in : (text : List ℕ) (start here k : ℕ) → here ≡ start + k → get_or (drop start text) k 0 ≡ get_or text here 0
byte_in text start here k e = get_or-drop start text k 0 ∙ ap (λ n. get_or text n 0) (sym e)

ends_here : (text : List ℕ) (at start end : ℕ) (p : Place) → IsRun text at start end → begins is_control_byte (drop end text) ≡ false → ends_token (content (marked end p (drop end text))) ≡ true
ends_here text at start end p r c = ends_at end p (drop end text) (no_word_at text at start end r) c

pub word_piece : (text : List ℕ) (at start end k : ℕ) → IsRun text at start end → end ≡ start + suc k → begins is_control_byte (drop end text) ≡ false → get_or text (start + k) 0 ≢ 92 → IsWord text at start end
word_piece text at start end k r e c other = record {
  begin = run_begins text at start end r;
  some = omega arith;
  within = r.within;
  cut = cut;
  line_end = line_end_at_end text at start end r;
}
  where
    inside : suc k ≤ front is_word_byte (drop start text)
    inside = in_run text at start end k r (omega arith)

    byte_is : get_or (drop start text) k 0 ≡ get_or text (start + k) 0
    byte_is = byte_in text start (start + k) k refl

    long : end - start ≡ suc k
    long = omega arith

    cut : (p : Place) → cut_from text at p ≡ with_spot (spot_between text start end (moved p (start - at))) (cut_from text end (moved p (end - at)))
    cut p =
        let q = moved p (start - at) in
        let bs = drop start text in
        let w : WordSplit start (moved p (start - at)) (drop start text) k = word_split start (moved p (start - at)) (drop start text) k inside in
        let rest : content (marked (start + suc k) (moved (moved p (start - at)) (suc k)) (drop (suc k) (drop start text))) ≡ content (marked end (moved p (end - at)) (drop end text)) = rest_in text p at start end (suc k) (run_begins text at start end r) e in
        cut_at_start text at start end p r
        ∙ ap cut_of w.content_is
        ∙ cut_word (marked start (moved p (start - at)) (take k (drop start text))) (record { byte = get_or (drop start text) k 0; start = start + k; place = moved (moved p (start - at)) k }) (content (marked (start + suc k) (moved (moved p (start - at)) (suc k)) (drop (suc k) (drop start text)))) (record { word = take (suc k) (drop start text); start = start; place = moved p (start - at) }) w.all w.word (ap (λ b. b == 92) byte_is ∙ no_slash (get_or text (start + k) 0) other) (ap ends_token rest ∙ ends_here text at start end (moved p (end - at)) r c) (spot_is start (moved p (start - at)) (drop start text) k inside)
        ∙ ap (λ ms. with_spot (record { word = take (suc k) (drop start text); start = start; place = moved p (start - at) }) (cut_of ms)) rest
        ∙ ap (λ (n : ℕ). with_spot (record { word = take n (drop start text); start = start; place = moved p (start - at) }) (cut_from text end (moved p (end - at)))) (sym long)

begins_head : (test : ℕ → Bool) (text : List ℕ) (e : ℕ) → begins test (drop e text) ≡ true → (test (get_or text e 0) ≡ true) × (e < length text)
begins_head test [] zero h = cc
begins_head test [] (suc e) h = cc
begins_head test (b ∷ bs) zero h = (h, omega arith)
begins_head test (b ∷ bs) (suc e) h = let r : (test (get_or bs e 0) ≡ true) × (e < length bs) = begins_head test bs e h in (r.0, omega (arith, r.1))

pub bad_control : (text : List ℕ) (at start end : ℕ) → IsRun text at start end → begins is_control_byte (drop end text) ≡ true → IsBad text at end
bad_control text at start end r c = record {
  begin = let one : at ≤ start = run_begins text at start end r in let e : end ≡ start + front is_word_byte (drop start text) = r.end_is in omega arith;
  within = head.1;
  cut = cut;
}
  where
    head : (is_control_byte (get_or text end 0) ≡ true) × (end < length text)
    head = begins_head is_control_byte text end c

    cut : (p : Place) → (cut_from text at p).flaw ≡ Some (BadByteAt (moved p (end - at)))
    cut p =
        let n : ℕ = front is_word_byte (drop start text) in
        let s : Splits start (moved p (start - at)) (drop start text) (front is_word_byte (drop start text)) = splits start (moved p (start - at)) (drop start text) (front is_word_byte (drop start text)) (omega arith) in
        ap (λ (d : Cut). d.flaw) (
        cut_at_start text at start end p r
        ∙ ap cut_of (s.content_is
        ∙ ap (λ ms. marked start (moved p (start - at)) (take (front is_word_byte (drop start text)) (drop start text)) ++ ms) (
        rest_in text p at start end (front is_word_byte (drop start text)) (run_begins text at start end r) r.end_is
        ∙ ap (λ (cs : List ℕ). content (marked end (moved p (end - at)) cs)) (drop-cons text end 0 head.1)
        ∙ cons_content end (moved p (end - at)) (get_or text end 0) (drop (suc end) text) (control_inner (get_or text end 0) head.0))))
        ∙ flaw_control (marked start (moved p (start - at)) (take (front is_word_byte (drop start text)) (drop start text))) (record { byte = get_or text end 0; start = end; place = moved p (end - at) }) (content (marked (end + 1) (moved (moved p (end - at)) 1) (drop (suc end) text))) s.all head.0

pub close_piece : (text : List ℕ) (at start end : ℕ) → IsRun text at start end → start ≡ end → begins is_control_byte (drop end text) ≡ false → IsClose text at end
close_piece text at start end r e c = record {
  begin = let one : at ≤ start = run_begins text at start end r in omega arith;
  within = r.within;
  cut = cut;
  line_end = line_end_at_end text at start end r;
}
  where
    none : begins is_blank_byte (drop end text) ≡ false
    none = ap (λ n. begins is_blank_byte (drop n text)) (sym e) ∙ no_blank_at text at start end r

    cut : (p : Place) → cut_from text at p ≡ record { tokens = []; flaw = None; joint = None }
    cut p =
        cut_at_start text at start end p r
        ∙ ap (λ (n : ℕ). cut_of (content (marked n (moved p (start - at)) (drop n text)))) e
        ∙ ap cut_of (closes_at end (moved p (start - at)) (drop end text) (no_word_at text at start end r) c none)

-- what follows a backslash at the end of the token
pub record IsEnd (text : List ℕ) (end after : ℕ) (b : Bool) : Type 0 where
  pub after_is : after ≡ end + front is_blank_byte (drop end text)
  pub is : is_closed (drop after text) ≡ b

blank_is : (text : List ℕ) (end after : ℕ) (b : Bool) (p : Place) → IsEnd text end after b → list_all is_blank (content (marked end p (drop end text))) ≡ b
blank_is text end after b p f = blanks_closed end p (drop end text) ∙ ap is_closed (drop-drop (front is_blank_byte (drop end text)) end text ∙ ap (λ n. drop n text) (sym f.after_is)) ∙ f.is

pub bad_slash : (text : List ℕ) (at start end k bad after : ℕ) → IsRun text at start end → end ≡ start + suc k → bad ≡ start + k → begins is_control_byte (drop end text) ≡ false → get_or text bad 0 ≡ 92 → IsEnd text end after false → IsBad text at bad
bad_slash text at start end k bad after r e f c slash unclosed = record {
  begin = let one : at ≤ start = run_begins text at start end r in omega arith;
  within = let one : end ≤ length text = r.within in omega arith;
  cut = cut;
}
  where
    inside : suc k ≤ front is_word_byte (drop start text)
    inside = in_run text at start end k r (omega arith)

    byte_is : get_or (drop start text) k 0 ≡ 92
    byte_is = byte_in text start bad k f ∙ slash

    cut : (p : Place) → (cut_from text at p).flaw ≡ Some (BadByteAt (moved p (bad - at)))
    cut p =
        let w : WordSplit start (moved p (start - at)) (drop start text) k = word_split start (moved p (start - at)) (drop start text) k inside in
        let rest : content (marked (start + suc k) (moved (moved p (start - at)) (suc k)) (drop (suc k) (drop start text))) ≡ content (marked end (moved p (end - at)) (drop end text)) = rest_in text p at start end (suc k) (run_begins text at start end r) e in
        ap (λ (d : Cut). d.flaw) (cut_at_start text at start end p r ∙ ap cut_of w.content_is)
        ∙ flaw_slash (marked start (moved p (start - at)) (take k (drop start text))) (record { byte = get_or (drop start text) k 0; start = start + k; place = moved (moved p (start - at)) k }) (content (marked (start + suc k) (moved (moved p (start - at)) (suc k)) (drop (suc k) (drop start text)))) w.all w.word (slash_is (get_or (drop start text) k 0) byte_is) (ap ends_token rest ∙ ends_here text at start end (moved p (end - at)) r c) (ap (λ ms. list_all is_blank ms) rest ∙ blank_is text end after false (moved p (end - at)) unclosed)
        ∙ ap (λ (q : Place). Some (BadByteAt q)) (place_in p at start bad k (run_begins text at start end r) f)

-- a token that ends in a backslash: its bytes before the last two, and these
pub record PairSplit (o : ℕ) (p : Place) (bs : List ℕ) (k : ℕ) : Type 0 where
  pub all : AreWord (marked o p (take k bs))
  pub word : is_word_byte (get_or bs k 0) ≡ true
  pub last : is_word_byte (get_or bs (suc k) 0) ≡ true
  pub content_is : content (marked o p bs) ≡ (marked o p (take k bs) ++ record { byte = get_or bs k 0; start = o + k; place = moved p k } ∷ []) ++ record { byte = get_or bs (suc k) 0; start = o + suc k; place = moved p (suc k) } ∷ content (marked (o + suc (suc k)) (moved p (suc (suc k))) (drop (suc (suc k)) bs))

pair_split : (o : ℕ) (p : Place) (bs : List ℕ) (k : ℕ) → suc (suc k) ≤ front is_word_byte bs → PairSplit o p bs k
pair_split o p bs k h =
    let one : WordSplit o p bs k = word_split o p bs k (omega arith) in
    let two : WordSplit o p bs (suc k) = word_split o p bs (suc k) h in
    record {
      all = one.all;
      word = one.word;
      last = two.word;
      content_is = two.content_is ∙ ap (λ ms. ms ++ record { byte = get_or bs (suc k) 0; start = o + suc k; place = moved p (suc k) } ∷ content (marked (o + suc (suc k)) (moved p (suc (suc k))) (drop (suc (suc k)) bs))) (sym (marked_last o p bs k (omega arith)));
    }

pub bad_before : (text : List ℕ) (at start end k bad after : ℕ) → IsRun text at start end → end ≡ start + suc (suc k) → bad ≡ start + k → get_or text (end - 1) 0 ≡ 92 → get_or text bad 0 ≡ 92 → IsEnd text end after true → IsBad text at bad
bad_before text at start end k bad after r e f slash other closed = record {
  begin = let one : at ≤ start = run_begins text at start end r in omega arith;
  within = let one : end ≤ length text = r.within in omega arith;
  cut = cut;
}
  where
    inside : suc (suc k) ≤ front is_word_byte (drop start text)
    inside = in_run text at start end (suc k) r (omega arith)

    last_is : get_or (drop start text) (suc k) 0 ≡ 92
    last_is = byte_in text start (end - 1) (suc k) (omega arith) ∙ slash

    byte_is : get_or (drop start text) k 0 ≡ 92
    byte_is = byte_in text start bad k f ∙ other

    cut : (p : Place) → (cut_from text at p).flaw ≡ Some (BadByteAt (moved p (bad - at)))
    cut p =
        let w : PairSplit start (moved p (start - at)) (drop start text) k = pair_split start (moved p (start - at)) (drop start text) k inside in
        let rest : content (marked (start + suc (suc k)) (moved (moved p (start - at)) (suc (suc k))) (drop (suc (suc k)) (drop start text))) ≡ content (marked end (moved p (end - at)) (drop end text)) = rest_in text p at start end (suc (suc k)) (run_begins text at start end r) e in
        ap (λ (d : Cut). d.flaw) (cut_at_start text at start end p r ∙ ap cut_of w.content_is)
        ∙ flaw_join (marked start (moved p (start - at)) (take k (drop start text))) (record { byte = get_or (drop start text) k 0; start = start + k; place = moved (moved p (start - at)) k }) (record { byte = get_or (drop start text) (suc k) 0; start = start + suc k; place = moved (moved p (start - at)) (suc k) }) (content (marked (start + suc (suc k)) (moved (moved p (start - at)) (suc (suc k))) (drop (suc (suc k)) (drop start text)))) w.all w.word (slash_is (get_or (drop start text) k 0) byte_is) (word_not_blank (get_or (drop start text) (suc k) 0) w.last) (slash_is (get_or (drop start text) (suc k) 0) last_is) (ap (λ ms. list_all is_blank ms) rest ∙ blank_is text end after true (moved p (end - at)) closed)
        ∙ ap (λ (q : Place). Some (BadByteAt q)) (place_in p at start bad k (run_begins text at start end r) f)

line_end_after : (text : List ℕ) (at start end after : ℕ) (b : Bool) → IsRun text at start end → IsEnd text end after b → line_end_of text at ≡ line_end_of text after
line_end_after text at start end after b r f = line_end_at_end text at start end r ∙ inner_at is_blank_byte text end (front is_blank_byte (drop end text)) after blank_is_inner (omega arith) f.after_is

pub join_alone : (text : List ℕ) (at start end slash after : ℕ) → IsRun text at start end → end ≡ start + 1 → slash ≡ start → get_or text slash 0 ≡ 92 → after ≤ length text → IsEnd text end after true → IsJoin text at start slash after
join_alone text at start end slash after r e s is within closed = record {
  begin = run_begins text at start end r;
  some = omega arith;
  slash = let one : after ≡ end + front is_blank_byte (drop end text) = closed.after_is in omega arith;
  within = within;
  cut = cut;
  line_end = line_end_after text at start end after true r closed;
}
  where
    inside : 1 ≤ front is_word_byte (drop start text)
    inside = let f : end ≡ start + front is_word_byte (drop start text) = r.end_is in omega arith

    byte_is : get_or (drop start text) 0 0 ≡ 92
    byte_is = byte_in text start slash 0 (omega arith) ∙ is

    none : nat_lt start slash ≡ false
    none = le-ltb start slash (omega arith)

    cut : (p : Place) → cut_from text at p ≡ record { tokens = spots_between text start slash (moved p (start - at)); flaw = None; joint = Some (record { byte = 92; start = slash; place = moved p (slash - at) }) }
    cut p =
        let w : WordSplit start (moved p (start - at)) (drop start text) 0 = word_split start (moved p (start - at)) (drop start text) 0 inside in
        let rest : content (marked (start + 1) (moved (moved p (start - at)) 1) (drop 1 (drop start text))) ≡ content (marked end (moved p (end - at)) (drop end text)) = rest_in text p at start end 1 (run_begins text at start end r) e in
        cut_at_start text at start end p r
        ∙ ap cut_of w.content_is
        ∙ cut_join_alone (record { byte = get_or (drop start text) 0 0; start = start + 0; place = moved (moved p (start - at)) 0 }) (content (marked (start + 1) (moved (moved p (start - at)) 1) (drop 1 (drop start text)))) (word_not_blank (get_or (drop start text) 0 0) w.word) (slash_is (get_or (drop start text) 0 0) byte_is) (ap (λ ms. list_all is_blank ms) rest ∙ blank_is text end after true (moved p (end - at)) closed)
        ∙ ap (λ (b : ℕ). record { tokens = []; flaw = None; joint = Some (record { byte = b; start = start + 0; place = moved (moved p (start - at)) 0 }) }) byte_is
        ∙ ap (λ (n : ℕ). record { tokens = []; flaw = None; joint = Some (record { byte = 92; start = n; place = moved (moved p (start - at)) 0 }) }) (let f : start + 0 ≡ slash = omega arith in f)
        ∙ ap (λ (q : Place). record { tokens = []; flaw = None; joint = Some (record { byte = 92; start = slash; place = q }) }) (place_in p at start slash 0 (run_begins text at start end r) (omega arith))
        ∙ ap (λ (t : Bool). record { tokens = (if t then spot_between text start slash (moved p (start - at)) ∷ [] else []); flaw = None; joint = Some (record { byte = 92; start = slash; place = moved p (slash - at) }) }) (sym none)

pub join_word : (text : List ℕ) (at start end k slash after : ℕ) → IsRun text at start end → end ≡ start + suc (suc k) → slash ≡ start + suc k → get_or text slash 0 ≡ 92 → get_or text (start + k) 0 ≢ 92 → after ≤ length text → IsEnd text end after true → IsJoin text at start slash after
join_word text at start end k slash after r e s is other within closed = record {
  begin = run_begins text at start end r;
  some = omega arith;
  slash = let one : after ≡ end + front is_blank_byte (drop end text) = closed.after_is in omega arith;
  within = within;
  cut = cut;
  line_end = line_end_after text at start end after true r closed;
}
  where
    inside : suc (suc k) ≤ front is_word_byte (drop start text)
    inside = in_run text at start end (suc k) r (omega arith)

    last_is : get_or (drop start text) (suc k) 0 ≡ 92
    last_is = byte_in text start slash (suc k) s ∙ is

    byte_is : get_or (drop start text) k 0 ≡ get_or text (start + k) 0
    byte_is = byte_in text start (start + k) k refl

    some : nat_lt start slash ≡ true
    some = lt-ltb start slash (omega arith)

    long : slash - start ≡ suc k
    long = omega arith

    cut : (p : Place) → cut_from text at p ≡ record { tokens = spots_between text start slash (moved p (start - at)); flaw = None; joint = Some (record { byte = 92; start = slash; place = moved p (slash - at) }) }
    cut p =
        let w : PairSplit start (moved p (start - at)) (drop start text) k = pair_split start (moved p (start - at)) (drop start text) k inside in
        let rest : content (marked (start + suc (suc k)) (moved (moved p (start - at)) (suc (suc k))) (drop (suc (suc k)) (drop start text))) ≡ content (marked end (moved p (end - at)) (drop end text)) = rest_in text p at start end (suc (suc k)) (run_begins text at start end r) e in
        cut_at_start text at start end p r
        ∙ ap cut_of w.content_is
        ∙ cut_join_word (marked start (moved p (start - at)) (take k (drop start text))) (record { byte = get_or (drop start text) k 0; start = start + k; place = moved (moved p (start - at)) k }) (record { byte = get_or (drop start text) (suc k) 0; start = start + suc k; place = moved (moved p (start - at)) (suc k) }) (content (marked (start + suc (suc k)) (moved (moved p (start - at)) (suc (suc k))) (drop (suc (suc k)) (drop start text)))) (record { word = take (suc k) (drop start text); start = start; place = moved p (start - at) }) w.all w.word (ap (λ b. b == 92) byte_is ∙ no_slash (get_or text (start + k) 0) other) (spot_is start (moved p (start - at)) (drop start text) k (omega arith)) (word_not_blank (get_or (drop start text) (suc k) 0) w.last) (slash_is (get_or (drop start text) (suc k) 0) last_is) (ap (λ ms. list_all is_blank ms) rest ∙ blank_is text end after true (moved p (end - at)) closed)
        ∙ ap (λ (b : ℕ). record { tokens = record { word = take (suc k) (drop start text); start = start; place = moved p (start - at) } ∷ []; flaw = None; joint = Some (record { byte = b; start = start + suc k; place = moved (moved p (start - at)) (suc k) }) }) last_is
        ∙ ap (λ (n : ℕ). record { tokens = record { word = take (suc k) (drop start text); start = start; place = moved p (start - at) } ∷ []; flaw = None; joint = Some (record { byte = 92; start = n; place = moved (moved p (start - at)) (suc k) }) }) (sym s)
        ∙ ap (λ (q : Place). record { tokens = record { word = take (suc k) (drop start text); start = start; place = moved p (start - at) } ∷ []; flaw = None; joint = Some (record { byte = 92; start = slash; place = q }) }) (place_in p at start slash (suc k) (run_begins text at start end r) s)
        ∙ ap (λ (n : ℕ). record { tokens = record { word = take n (drop start text); start = start; place = moved p (start - at) } ∷ []; flaw = None; joint = Some (record { byte = 92; start = slash; place = moved p (slash - at) }) }) (sym long)
        ∙ ap (λ (t : Bool). record { tokens = (if t then spot_between text start slash (moved p (start - at)) ∷ [] else []); flaw = None; joint = Some (record { byte = 92; start = slash; place = moved p (slash - at) }) }) (sym some)

-- the same, as the code counts
pub word_piece_at : (text : List ℕ) (at start end : ℕ) → IsRun text at start end → start ≢ end → begins is_control_byte (drop end text) ≡ false → get_or text (end - 1) 0 ≢ 92 → IsWord text at start end
word_piece_at text at start end r some c other =
    let e : end ≡ start + front is_word_byte (drop start text) = r.end_is in
    let last : end - 1 ≡ start + ((end - start) - 1) = omega arith in
    word_piece text at start end ((end - start) - 1) r (omega arith) c (subst (λ (n : ℕ). get_or text n 0 ≢ 92) last other)

pub bad_slash_at : (text : List ℕ) (at start end after : ℕ) → IsRun text at start end → start ≢ end → begins is_control_byte (drop end text) ≡ false → get_or text (end - 1) 0 ≡ 92 → IsEnd text end after false → IsBad text at (end - 1)
bad_slash_at text at start end after r some c slash rest =
    let e : end ≡ start + front is_word_byte (drop start text) = r.end_is in
    bad_slash text at start end ((end - start) - 1) (end - 1) after r (omega arith) (omega arith) c slash rest

pub bad_before_at : (text : List ℕ) (at start end after : ℕ) → IsRun text at start end → start < end - 1 → get_or text (end - 1) 0 ≡ 92 → get_or text ((end - 1) - 1) 0 ≡ 92 → IsEnd text end after true → IsBad text at ((end - 1) - 1)
bad_before_at text at start end after r some slash other rest =
    bad_before text at start end ((end - start) - 2) ((end - 1) - 1) after r (omega arith) (omega arith) slash other rest

pub join_alone_at : (text : List ℕ) (at start end after : ℕ) → IsRun text at start end → start ≢ end → end - 1 ≤ start → get_or text (end - 1) 0 ≡ 92 → after ≤ length text → IsEnd text end after true → IsJoin text at start (end - 1) after
join_alone_at text at start end after r some none slash within rest =
    let e : end ≡ start + front is_word_byte (drop start text) = r.end_is in
    join_alone text at start end (end - 1) after r (omega arith) (omega arith) slash within rest

pub join_word_at : (text : List ℕ) (at start end after : ℕ) → IsRun text at start end → start < end - 1 → get_or text (end - 1) 0 ≡ 92 → get_or text ((end - 1) - 1) 0 ≢ 92 → after ≤ length text → IsEnd text end after true → IsJoin text at start (end - 1) after
join_word_at text at start end after r some slash other within rest =
    let last : (end - 1) - 1 ≡ start + ((end - start) - 2) = omega arith in
    join_word text at start end ((end - start) - 2) (end - 1) after r (omega arith) (omega arith) slash (subst (λ (n : ℕ). get_or text n 0 ≢ 92) last other) within rest
