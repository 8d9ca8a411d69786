-- The lines of evidence, as lines of a journal.
use Rattle.std.proofs.Common.{Bool, List, [], ap, arith, false, map, refl, subst, sym, true, ℕ, ◌++◌, ◌∙◌, ◌∷◌, ◌≡◌, ◌≢◌, ◌≤◌}
use Rattle.std.specs.Prelude.{codes}
use Rattle.std.specs.Fmt.{digits}
use Rattle.std.proofs.lemmas.List.{append-nil, append_assoc, append_cancel_left, append_cancel_right}
use Rattle.equal_evidence.specs.Evidence.{IsWritten}
use Rattle.equal_evidence.specs.Inner.Lines.{fixed, hit, no_fault, spelled, spent}
use Rattle.equal_evidence.specs.declared.evidence.Evidence.TheVariants.{Plain}
use Rattle.equal_miter.specs.Proof.{likeness_line, values_behind}
use Rattle.equal_miter.specs.declared.likeness.Likeness.{Likeness}
use Rattle.equal_miter.specs.declared.likeness.Likeness.TheVariants.{Differ, Same, Undecided}
use Rattle.journal_text.specs.Laws.{LinesRead}
use Rattle.journal_text.specs.Pieces.{HasNo, behind}
use Rattle.journal_text.specs.Text.{AreItems, IsEntry, bit, entry_line, item_word}
use Rattle.journal_text.specs.declared.record.Entry.TheVariants as entry
use Rattle.journal_text.specs.declared.record.Record.{Record}
use Rattle.journal_text.proofs.Public.{line_one, record_is}
use Rattle.refutation.specs.declared.items.Item.{Item}
use Rattle.equal_evidence.proofs.Cuts.{has_both, has_right, lacks_none}

pub fix_line : (items : List Item) → entry_line (entry.Record (fixed items)) ≡ codes "fix 0 0 0" ++ behind 32 (map item_word items)
unfolding digits
fix_line items = refl

pub spent_line : (items : List Item) → entry_line (entry.Record (spent items)) ≡ codes "spent 0 0 0" ++ behind 32 (map item_word items)
unfolding digits
spent_line items = refl

pub hit_line : (b : Bool) (bits : List Bool) → entry_line (entry.Record (hit (b ∷ bits))) ≡ codes "hit 0 0 0" ++ values_behind (b ∷ bits)
unfolding digits
hit_line b bits = ap (λ (l : List ℕ). codes "hit 0 0 0 " ++ (bit b ∷ l)) (append-nil (map bit bits))

pub fix_entry : (items : List Item) → items ≢ [] → AreItems items → IsEntry (entry.Record (fixed items))
fix_entry items some are = record { writable = some; fits = ((omega arith, omega arith), are) }

pub spent_entry : (items : List Item) → items ≢ [] → AreItems items → IsEntry (entry.Record (spent items))
spent_entry items some are = record { writable = some; fits = ((omega arith, omega arith), are) }

pub hit_entry : (b : Bool) (bits : List Bool) → IsEntry (entry.Record (hit (b ∷ bits)))
hit_entry b bits = record { writable = λ e. cc; fits = (omega arith, omega arith) }

pub fix_written : (items : List Item) → IsEntry (entry.Record (fixed items)) → IsWritten (Plain (Same items))
fix_written items v = (v.writable, v.fits.1)

pub spent_written : (items : List Item) → IsEntry (entry.Record (spent items)) → IsWritten (Plain (Undecided items))
spent_written items v = (v.writable, v.fits.1)

-- the line ends with an LF, and has no other
pub line_spelled : (l : Likeness) → likeness_line l ≡ spelled l ++ 10 ∷ []
line_spelled (Same items) = refl
line_spelled (Differ bits) = refl
line_spelled (Undecided items) = refl

-- the words differ
first_differs : (x y : ℕ) (xs ys : List ℕ) → x ≢ y → x ∷ xs ≡ y ∷ ys → ⊥
first_differs x y xs ys ne e = ne cc

pub a_is_p : (xs ys : List ℕ) → codes "same" ++ xs ≡ codes "spent" ++ ys → ⊥
a_is_p xs ys e = first_differs 97 112 (codes "me" ++ xs) (codes "ent" ++ ys) (λ f. absurd (omega (arith, f))) (append_cancel_left (115 ∷ []) (codes "ame" ++ xs) (codes "pent" ++ ys) e)

pub s_is_d : (xs ys : List ℕ) → 115 ∷ xs ≡ codes "differ" ++ ys → ⊥
s_is_d xs ys e = first_differs 115 100 xs (codes "iffer" ++ ys) (λ f. absurd (omega (arith, f))) e

module _ (laws : LinesRead) where
  pub spelled_lacks : (l : Likeness) → IsWritten (Plain l) → HasNo 10 (spelled l)
  spelled_lacks (Same items) w =
      has_both 10 (codes "same") (behind 32 (map item_word items)) (lacks_none 10 (codes "same") refl)
      (has_right 10 (codes "fix 0 0 0") (behind 32 (map item_word items)) (subst (λ (l : List ℕ). HasNo 10 l) (fix_line items) (laws.lacks (entry.Record (fixed items)) (fix_entry items w.0 w.1))))
  spelled_lacks (Differ []) w = lacks_none 10 (codes "differ") refl
  spelled_lacks (Differ (b ∷ bits)) w =
      has_both 10 (codes "differ") (values_behind (b ∷ bits)) (lacks_none 10 (codes "differ") refl)
      (has_right 10 (codes "hit 0 0 0") (values_behind (b ∷ bits)) (subst (λ (l : List ℕ). HasNo 10 l) (hit_line b bits) (laws.lacks (entry.Record (hit (b ∷ bits))) (hit_entry b bits))))
  spelled_lacks (Undecided items) w =
      has_both 10 (codes "spent") (behind 32 (map item_word items)) (lacks_none 10 (codes "spent") refl)
      (has_right 10 (codes "spent 0 0 0") (behind 32 (map item_word items)) (subst (λ (l : List ℕ). HasNo 10 l) (spent_line items) (laws.lacks (entry.Record (spent items)) (spent_entry items w.0 w.1))))

  fix_once : (is js : List Item) → IsWritten (Plain (Same is)) → IsWritten (Plain (Same js)) → behind 32 (map item_word is) ≡ behind 32 (map item_word js) → fixed is ≡ fixed js
  fix_once is js v w e =
      record_is (fixed is) (fixed js) (line_one laws (entry.Record (fixed is)) (entry.Record (fixed js)) (fix_entry is v.0 v.1) (fix_entry js w.0 w.1) (fix_line is ∙ (ap (λ (l : List ℕ). codes "fix 0 0 0" ++ l) e ∙ sym (fix_line js))))

  pub same_once : (is js : List Item) → fixed is ≡ fixed js → is ≡ js
  same_once is js e = cc

  pub spent_once : (is js : List Item) → spent is ≡ spent js → is ≡ js
  spent_once is js e = cc

  bit_once : (b c : Bool) → bit b ≡ bit c → b ≡ c
  bit_once true true e = refl
  bit_once false false e = refl
  bit_once true false e = absurd (omega (arith, e))
  bit_once false true e = absurd (omega (arith, e))

  bits_once : (bs cs : List Bool) → map bit bs ≡ map bit cs → bs ≡ cs
  bits_once [] [] e = refl
  bits_once [] (c ∷ cs) e = absurd cc
  bits_once (b ∷ bs) [] e = absurd cc
  bits_once (b ∷ bs) (c ∷ cs) e =
      let first : b ≡ c = bit_once b c cc in
      let rest : bs ≡ cs = bits_once bs cs cc in
      rw (first, rest) refl

  values_once : (bs cs : List Bool) → values_behind bs ≡ values_behind cs → bs ≡ cs
  values_once [] [] e = refl
  values_once [] (c ∷ cs) e = absurd cc
  values_once (b ∷ bs) [] e = absurd cc
  values_once (b ∷ bs) (c ∷ cs) e = bits_once (b ∷ bs) (c ∷ cs) (append_cancel_left (32 ∷ []) (map bit (b ∷ bs)) (map bit (c ∷ cs)) e)

  pub spelled_once : (k l : Likeness) → IsWritten (Plain k) → IsWritten (Plain l) → spelled k ≡ spelled l → k ≡ l
  spelled_once (Same is) (Same js) v w e =
      ap (λ (l : List Item). Same l) (same_once is js (fix_once is js v w (append_cancel_left (codes "same") (behind 32 (map item_word is)) (behind 32 (map item_word js)) e)))
  spelled_once (Undecided is) (Undecided js) v w e =
      ap (λ (l : List Item). Undecided l) (same_once is js (fix_once is js v w (append_cancel_left (codes "spent") (behind 32 (map item_word is)) (behind 32 (map item_word js)) e)))
  spelled_once (Differ bs) (Differ cs) v w e = ap (λ (l : List Bool). Differ l) (values_once bs cs (append_cancel_left (codes "differ") (values_behind bs) (values_behind cs) e))
  spelled_once (Same is) (Undecided js) v w e = absurd (a_is_p (behind 32 (map item_word is)) (behind 32 (map item_word js)) e)
  spelled_once (Undecided is) (Same js) v w e = absurd (a_is_p (behind 32 (map item_word js)) (behind 32 (map item_word is)) (sym e))
  spelled_once (Same is) (Differ cs) v w e = absurd (s_is_d (codes "ame" ++ behind 32 (map item_word is)) (values_behind cs) e)
  spelled_once (Undecided is) (Differ cs) v w e = absurd (s_is_d (codes "pent" ++ behind 32 (map item_word is)) (values_behind cs) e)
  spelled_once (Differ bs) (Same js) v w e = absurd (s_is_d (codes "ame" ++ behind 32 (map item_word js)) (values_behind bs) (sym e))
  spelled_once (Differ bs) (Undecided js) v w e = absurd (s_is_d (codes "pent" ++ behind 32 (map item_word js)) (values_behind bs) (sym e))
