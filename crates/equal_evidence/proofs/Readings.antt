-- What is read of a text of evidence.
use Rattle.std.proofs.Common.{Err, IfErr, IfOk, IsErrAnd, List, Ok, Result, [], ap, arith, refl, subst, sym, ℕ, ◌++◌, ◌∙◌, ◌∷◌, ◌≡◌, ◌≢◌, ◌≤◌}
use Rattle.std.specs.Prelude.{Bool, MatchOption, None, Option, Some, codes, decimal, false, length, map, nat_eq}
use Rattle.equal_evidence.proofs.One.{versions_differ}
use Rattle.journal_text.specs.Runs.{records_text}
use Rattle.std.proofs.lemmas.List.{append-nil, append_cancel_left, append_cancel_right}
use Rattle.equal_evidence.specs.Evidence.{IsProof, IsWritten, evidence_text}
use Rattle.equal_evidence.specs.Inner.Lines.{fixed, hit, journal_with, spelled, spent}
use Rattle.equal_evidence.specs.declared.evidence.Evidence.{Evidence}
use Rattle.equal_evidence.specs.declared.evidence.Evidence.TheVariants.{Merged, Plain}
use Rattle.equal_miter.specs.Proof.{likeness_line, proof_text, values_behind}
use Rattle.equal_miter.specs.declared.likeness.Likeness.{Likeness}
use Rattle.equal_miter.specs.declared.likeness.Likeness.TheVariants.{Differ, Same, Undecided}
use Rattle.journal_text.specs.Cutting.{JournalsAreOne}
use Rattle.journal_text.specs.Faults.{IsJournal}
use Rattle.journal_text.specs.Laws.{LinesRead}
use Rattle.journal_text.specs.Pieces.{HasNo, behind}
use Rattle.journal_text.specs.Text.{IsEntry, entry_line, item_word}
use Rattle.journal_text.specs.declared.faults.JournalFault.{JournalFault}
use Rattle.journal_text.specs.declared.faults.JournalFault.TheVariants as fault
use Rattle.journal_text.specs.declared.record.Entry.TheVariants as entry
use Rattle.journal_text.specs.declared.record.Record.{Record}
use Rattle.journal_text.proofs.Public.{line_one, record_is}
use Rattle.refutation.specs.declared.items.Item.{Item}
use Rattle.equal_evidence.proofs.Cuts.{cut_once, uncut}
use Rattle.equal_evidence.proofs.Journals.{decimal_lacks, line_journal, line_read}
use Rattle.equal_evidence.proofs.Spelling.{a_is_p, fix_entry, fix_line, fix_written, hit_entry, hit_line, line_spelled, s_is_d, spelled_lacks, spent_entry, spent_line, spent_written}

-- what holds of the error holds of the answer that hands it on
pub handed_on : {V E : Type 0} (r : Result V E) (e : E) (P : E → Type 0) → IsErrAnd r (λ q. q ≡ e) → P e → IfErr r P
handed_on (Ok x) e P h p = tt
handed_on (Err q) e P h p = subst P (sym h) p

pub some_length : (xs : List ℕ) → ◌≡◌ {A = Bool} (nat_eq (length xs) 0) false → xs ≢ []
some_length [] e = absurd cc
some_length (x ∷ xs) e = λ f. cc

pub some_values : (xs : List ℕ) (b : Bool) → b ≡ nat_eq (length xs) 0 → b ≡ false → xs ≢ []
some_values xs b e f = some_length xs (sym e ∙ f)

-- what is said of an option where it is None, and where it is Some
pub at_none : {A : Type 0} (P : Type 0) (Q : A → Type 0) (r : Option A) → r ≡ None → MatchOption r P Q → P
at_none P Q None e m = m
at_none P Q (Some x) e m = absurd cc

pub at_some : {A : Type 0} (P : Type 0) (Q : A → Type 0) (r : Option A) (x : A) → r ≡ Some x → MatchOption r P Q → Q x
at_some P Q None x e m = absurd cc
at_some P Q (Some y) x e m = let same : y ≡ x = cc in subst Q same m

-- the text has another version
pub plain_refused : {A : Type 0} (text rest : List ℕ) (r : Result A JournalFault) → text ≡ codes "rambo-equal 1 " ++ rest
    → IfErr r (λ f. f ≢ fault.NoMemory → (b : ℕ) (l : Likeness) → IsProof (codes "rambo-equal 1 " ++ rest) b (Plain l) → ⊥)
    → IfErr r (λ f. f ≢ fault.NoMemory → (b : ℕ) (e : Evidence) → IsProof text b e → ⊥)
plain_refused text rest (Ok x) is h = tt
plain_refused text rest (Err f) is h = λ ne b e p. by_case e ne b (subst (λ (t : List ℕ). IsProof t b e) is p)
  where
    by_case : (e : Evidence) → f ≢ fault.NoMemory → (b : ℕ) → IsProof (codes "rambo-equal 1 " ++ rest) b e → ⊥
    by_case (Plain l) ne b p = h ne b l p
    by_case (Merged rs) ne b p = versions_differ rest (decimal b ++ 10 ∷ (records_text rs ++ codes "equal\n")) p.is

pub merged_refused : {A : Type 0} (text rest : List ℕ) (r : Result A JournalFault) → text ≡ codes "rambo-equal 2 " ++ rest
    → IfErr r (λ f. f ≢ fault.NoMemory → (b : ℕ) (rs : List Record) → IsProof (codes "rambo-equal 2 " ++ rest) b (Merged rs) → ⊥)
    → IfErr r (λ f. f ≢ fault.NoMemory → (b : ℕ) (e : Evidence) → IsProof text b e → ⊥)
merged_refused text rest (Ok x) is h = tt
merged_refused text rest (Err f) is h = λ ne b e p. by_case e ne b (subst (λ (t : List ℕ). IsProof t b e) is p)
  where
    by_case : (e : Evidence) → f ≢ fault.NoMemory → (b : ℕ) → IsProof (codes "rambo-equal 2 " ++ rest) b e → ⊥
    by_case (Plain l) ne b p = versions_differ (decimal b ++ 10 ∷ likeness_line l) rest (sym p.is)
    by_case (Merged rs) ne b p = h ne b rs p

module _ (laws : LinesRead) where
  -- the one record of a journal is the one of that line
  pub only_record : JournalsAreOne → (line : List ℕ) (b : ℕ) (rs : List Record) (r : Record) → IsJournal (journal_with (49 ∷ 10 ∷ (line ++ 10 ∷ []))) b rs → IsEntry (entry.Record r) → line ≡ entry_line (entry.Record r) → rs ≡ r ∷ []
  only_record one line b rs r j v e = (one.one (journal_with (49 ∷ 10 ∷ (line ++ 10 ∷ []))) b 1 rs (r ∷ []) j (line_journal laws line r v e)).1

  record_once : (line : List ℕ) (r q : Record) → IsEntry (entry.Record r) → IsEntry (entry.Record q) → line ≡ entry_line (entry.Record r) → line ≡ entry_line (entry.Record q) → r ≡ q
  record_once line r q v w e f = record_is r q (line_one laws (entry.Record r) (entry.Record q) v w (sym e ∙ f))

  -- SAME
  pub same_read : (items : List ℕ) (r : Record) (tree : List Item) → IsEntry (entry.Record r) → codes "fix 0 0 0" ++ items ≡ entry_line (entry.Record r) → r ≡ fixed tree → IsWritten (Plain (Same tree)) × (codes "same" ++ items ≡ spelled (Same tree))
  same_read items r tree v e is =
      let entry_is : IsEntry (entry.Record (fixed tree)) = subst (λ (q : Record). IsEntry (entry.Record q)) is v in
      let line : codes "fix 0 0 0" ++ items ≡ codes "fix 0 0 0" ++ behind 32 (map item_word tree) = e ∙ (ap (λ (q : Record). entry_line (entry.Record q)) is ∙ fix_line tree) in
      (fix_written tree entry_is, ap (λ (l : List ℕ). codes "same" ++ l) (append_cancel_left (codes "fix 0 0 0") items (behind 32 (map item_word tree)) line))

  -- another line is that of no tree
  not_same : (items : List ℕ) (l : Likeness) → IsWritten (Plain l) → codes "same" ++ items ≡ spelled l → ((tree : List Item) → IsEntry (entry.Record (fixed tree)) → codes "fix 0 0 0" ++ items ≡ entry_line (entry.Record (fixed tree)) → ⊥) → ⊥
  not_same items (Same tree) w e none =
      none tree (fix_entry tree w.0 w.1) (ap (λ (l : List ℕ). codes "fix 0 0 0" ++ l) (append_cancel_left (codes "same") items (behind 32 (map item_word tree)) e) ∙ sym (fix_line tree))
  not_same items (Undecided tree) w e none = a_is_p items (behind 32 (map item_word tree)) e
  not_same items (Differ bits) w e none = s_is_d (codes "ame" ++ items) (values_behind bits) e

  pub same_unread : (items : List ℕ) → ((r : Record) → IsEntry (entry.Record r) → codes "fix 0 0 0" ++ items ≢ entry_line (entry.Record r)) → (l : Likeness) → IsWritten (Plain l) → codes "same" ++ items ≢ spelled l
  same_unread items none l w e = not_same items l w e (λ tree v f. none (fixed tree) v f)

  pub same_other : (items : List ℕ) (r : Record) → IsEntry (entry.Record r) → codes "fix 0 0 0" ++ items ≡ entry_line (entry.Record r) → ((tree : List Item) → r ≢ fixed tree) → (l : Likeness) → IsWritten (Plain l) → codes "same" ++ items ≢ spelled l
  same_other items r v e other l w f = not_same items l w f (λ tree u g. other tree (record_once (codes "fix 0 0 0" ++ items) r (fixed tree) v u e g))

  -- SPENT
  pub spent_read : (items : List ℕ) (r : Record) (tree : List Item) → IsEntry (entry.Record r) → codes "spent 0 0 0" ++ items ≡ entry_line (entry.Record r) → r ≡ spent tree → IsWritten (Plain (Undecided tree)) × (codes "spent" ++ items ≡ spelled (Undecided tree))
  spent_read items r tree v e is =
      let entry_is : IsEntry (entry.Record (spent tree)) = subst (λ (q : Record). IsEntry (entry.Record q)) is v in
      let line : codes "spent 0 0 0" ++ items ≡ codes "spent 0 0 0" ++ behind 32 (map item_word tree) = e ∙ (ap (λ (q : Record). entry_line (entry.Record q)) is ∙ spent_line tree) in
      (spent_written tree entry_is, ap (λ (l : List ℕ). codes "spent" ++ l) (append_cancel_left (codes "spent 0 0 0") items (behind 32 (map item_word tree)) line))

  not_spent : (items : List ℕ) (l : Likeness) → IsWritten (Plain l) → codes "spent" ++ items ≡ spelled l → ((tree : List Item) → IsEntry (entry.Record (spent tree)) → codes "spent 0 0 0" ++ items ≡ entry_line (entry.Record (spent tree)) → ⊥) → ⊥
  not_spent items (Undecided tree) w e none =
      none tree (spent_entry tree w.0 w.1) (ap (λ (l : List ℕ). codes "spent 0 0 0" ++ l) (append_cancel_left (codes "spent") items (behind 32 (map item_word tree)) e) ∙ sym (spent_line tree))
  not_spent items (Same tree) w e none = a_is_p (behind 32 (map item_word tree)) items (sym e)
  not_spent items (Differ bits) w e none = s_is_d (codes "pent" ++ items) (values_behind bits) e

  pub spent_unread : (items : List ℕ) → ((r : Record) → IsEntry (entry.Record r) → codes "spent 0 0 0" ++ items ≢ entry_line (entry.Record r)) → (l : Likeness) → IsWritten (Plain l) → codes "spent" ++ items ≢ spelled l
  spent_unread items none l w e = not_spent items l w e (λ tree v f. none (spent tree) v f)

  pub spent_other : (items : List ℕ) (r : Record) → IsEntry (entry.Record r) → codes "spent 0 0 0" ++ items ≡ entry_line (entry.Record r) → ((tree : List Item) → r ≢ spent tree) → (l : Likeness) → IsWritten (Plain l) → codes "spent" ++ items ≢ spelled l
  spent_other items r v e other l w f = not_spent items l w f (λ tree u g. other tree (record_once (codes "spent 0 0 0" ++ items) r (spent tree) v u e g))

  -- DIFFER
  some_bits : (bits : List Bool) → IsEntry (entry.Record (hit bits)) → bits ≢ []
  some_bits bits v = v.writable

  pub differ_read : (values : List ℕ) (r : Record) (bits : List Bool) → IsEntry (entry.Record r) → codes "hit 0 0 0" ++ values ≡ entry_line (entry.Record r) → r ≡ hit bits → codes "differ" ++ values ≡ spelled (Differ bits)
  differ_read values r [] v e is = absurd (some_bits [] (subst (λ (q : Record). IsEntry (entry.Record q)) is v) refl)
  differ_read values r (b ∷ bits) v e is =
      let line : codes "hit 0 0 0" ++ values ≡ codes "hit 0 0 0" ++ values_behind (b ∷ bits) = e ∙ (ap (λ (q : Record). entry_line (entry.Record q)) is ∙ hit_line b bits) in
      ap (λ (l : List ℕ). codes "differ" ++ l) (append_cancel_left (codes "hit 0 0 0") values (values_behind (b ∷ bits)) line)

  not_differ : (values : List ℕ) (l : Likeness) → IsWritten (Plain l) → values ≢ [] → codes "differ" ++ values ≡ spelled l → ((bits : List Bool) → IsEntry (entry.Record (hit bits)) → codes "hit 0 0 0" ++ values ≡ entry_line (entry.Record (hit bits)) → ⊥) → ⊥
  not_differ values (Differ []) w some e none = some (append_cancel_left (codes "differ") values [] e)
  not_differ values (Differ (b ∷ bits)) w some e none =
      none (b ∷ bits) (hit_entry b bits) (ap (λ (l : List ℕ). codes "hit 0 0 0" ++ l) (append_cancel_left (codes "differ") values (values_behind (b ∷ bits)) e) ∙ sym (hit_line b bits))
  not_differ values (Same tree) w some e none = s_is_d (codes "ame" ++ behind 32 (map item_word tree)) values (sym e)
  not_differ values (Undecided tree) w some e none = s_is_d (codes "pent" ++ behind 32 (map item_word tree)) values (sym e)

  pub differ_unread : (values : List ℕ) → values ≢ [] → ((r : Record) → IsEntry (entry.Record r) → codes "hit 0 0 0" ++ values ≢ entry_line (entry.Record r)) → (l : Likeness) → IsWritten (Plain l) → codes "differ" ++ values ≢ spelled l
  differ_unread values some none l w e = not_differ values l w some e (λ bits v f. none (hit bits) v f)

  pub differ_other : (values : List ℕ) (r : Record) → values ≢ [] → IsEntry (entry.Record r) → codes "hit 0 0 0" ++ values ≡ entry_line (entry.Record r) → ((bits : List Bool) → r ≢ hit bits) → (l : Likeness) → IsWritten (Plain l) → codes "differ" ++ values ≢ spelled l
  differ_other values r some v e other l w f = not_differ values l w some f (λ bits u g. other bits (record_once (codes "hit 0 0 0" ++ values) r (hit bits) v u e g))

  -- PLAIN
  pub plain_read : (rest word second line more : List ℕ) (b : ℕ) (l : Likeness) → rest ≡ word ++ 10 ∷ second → second ≡ line ++ 10 ∷ more → more ≡ [] → 1 ≤ b → b ≤ 1048576 → word ≡ decimal b → IsWritten (Plain l) → line ≡ spelled l
      → IsProof (codes "rambo-equal 1 " ++ rest) b (Plain l)
  plain_read rest word second line more b l e f none least most is w are = record {
    some_budget = least;
    few_budget = most;
    written = w;
    is = ap (λ (x : List ℕ). codes "rambo-equal 1 " ++ x)
        (e ∙ (ap (λ (x : List ℕ). x ++ 10 ∷ second) is ∙ ap (λ (x : List ℕ). decimal b ++ 10 ∷ x) (f ∙ (ap (λ (x : List ℕ). line ++ 10 ∷ x) none ∙ (ap (λ (x : List ℕ). x ++ 10 ∷ []) are ∙ sym (line_spelled l))))));
  }

  -- the text behind the version
  rest_is : (rest : List ℕ) (b : ℕ) (l : Likeness) → IsProof (codes "rambo-equal 1 " ++ rest) b (Plain l) → rest ≡ decimal b ++ 10 ∷ likeness_line l
  rest_is rest b l p = append_cancel_left (codes "rambo-equal 1 ") rest (decimal b ++ 10 ∷ likeness_line l) p.is

  pub plain_has_line : (rest : List ℕ) (b : ℕ) (l : Likeness) → HasNo 10 rest → IsProof (codes "rambo-equal 1 " ++ rest) b (Plain l) → ⊥
  plain_has_line rest b l h p = uncut 10 rest (decimal b) (likeness_line l) h (rest_is rest b l p)

  cut_first : (rest word second : List ℕ) (b : ℕ) (l : Likeness) → rest ≡ word ++ 10 ∷ second → HasNo 10 word → IsProof (codes "rambo-equal 1 " ++ rest) b (Plain l) → (word ≡ decimal b) × (second ≡ spelled l ++ 10 ∷ [])
  cut_first rest word second b l e h p =
      let cut = cut_once 10 word (decimal b) second (likeness_line l) h (decimal_lacks laws b p.some_budget p.few_budget) (sym e ∙ rest_is rest b l p) in
      (cut.0, cut.1 ∙ line_spelled l)

  pub plain_budget : (rest word second : List ℕ) (b : ℕ) (l : Likeness) → rest ≡ word ++ 10 ∷ second → HasNo 10 word → ((k : ℕ) → 1 ≤ k → k ≤ 1048576 → word ≢ decimal k) → IsProof (codes "rambo-equal 1 " ++ rest) b (Plain l) → ⊥
  plain_budget rest word second b l e h none p = none b p.some_budget p.few_budget (cut_first rest word second b l e h p).0

  pub plain_second : (rest word second : List ℕ) (b : ℕ) (l : Likeness) → rest ≡ word ++ 10 ∷ second → HasNo 10 word → HasNo 10 second → IsProof (codes "rambo-equal 1 " ++ rest) b (Plain l) → ⊥
  plain_second rest word second b l e h none p = uncut 10 second (spelled l) [] none (cut_first rest word second b l e h p).1

  cut_second : (rest word second line more : List ℕ) (b : ℕ) (l : Likeness) → rest ≡ word ++ 10 ∷ second → HasNo 10 word → second ≡ line ++ 10 ∷ more → HasNo 10 line → IsProof (codes "rambo-equal 1 " ++ rest) b (Plain l) → (line ≡ spelled l) × (more ≡ [])
  cut_second rest word second line more b l e h f k p = cut_once 10 line (spelled l) more [] k (spelled_lacks laws l p.written) (sym f ∙ (cut_first rest word second b l e h p).1)

  pub plain_line : (rest word second line more : List ℕ) (b : ℕ) (l : Likeness) → rest ≡ word ++ 10 ∷ second → HasNo 10 word → second ≡ line ++ 10 ∷ more → HasNo 10 line → ((k : Likeness) → IsWritten (Plain k) → line ≢ spelled k)
      → IsProof (codes "rambo-equal 1 " ++ rest) b (Plain l) → ⊥
  plain_line rest word second line more b l e h f k none p = none l p.written (cut_second rest word second line more b l e h f k p).0

  pub plain_more : (rest word second line more : List ℕ) (b : ℕ) (l : Likeness) → rest ≡ word ++ 10 ∷ second → HasNo 10 word → second ≡ line ++ 10 ∷ more → HasNo 10 line → more ≢ [] → IsProof (codes "rambo-equal 1 " ++ rest) b (Plain l) → ⊥
  plain_more rest word second line more b l e h f k some p = some (cut_second rest word second line more b l e h f k p).1
