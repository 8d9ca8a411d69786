-- The text of a journal, and what appending makes of the file.
use Rattle.std.proofs.Common.{◌≡◌, ℕ, zero, suc, ◌+◌, List, [], ◌∷◌, ◌++◌, take, map, length, Option, Some, None, Result, Err, ◌⊎◌, inl, inr, refl, sym, ◌∙◌, ap, subst, arith, rules, append_assoc}
use Rattle.std.proofs.lemmas.List.{append-nil}
use Rattle.std.specs.Option.{option_map}
use Rattle.std.specs.FinMap.{gets}
use Rattle.rm_base.specs.Files.{Files, append_file, file_of, put_file}
use Rattle.rm_base.proofs.Public.{append_file-put_file, take_zero}
use Rattle.rm_base.specs.Shelves.{IsCreated}
use Rattle.rm_base.specs.declared.outside.OutsideFault.{OutsideFault}
use Rattle.rm_base.specs.declared.outside.OutsideFault.TheVariants as outside
use Rattle.journal_text.specs.Appends.{IsRecorded, IsThere}
use Rattle.journal_text.specs.declared.append.Stop.{Stop}
use Rattle.journal_text.specs.declared.append.Stop.TheVariants as stop
use Rattle.journal_text.specs.Text.{entry_text, entries_text, journal_text}
use Rattle.journal_text.specs.Runs.{HasAppended, records_text}
use Rattle.journal_text.specs.declared.record.Record.{Record}
use Rattle.journal_text.specs.declared.record.Entry.{Entry}
use Rattle.journal_text.specs.declared.record.Entry.TheVariants as entry

records_then : (rs : List Record) (es : List Entry) → entries_text (map (λ r. entry.Record r) rs ++ es) ≡ records_text rs ++ entries_text es
records_then [] es = refl
records_then (r ∷ rs) es = ap (λ (xs : List ℕ). entry_text (entry.Record r) ++ xs) (records_then rs es) ∙ sym (append_assoc (entry_text (entry.Record r)) (records_text rs) (entries_text es))

-- the header, the records and the end
pub whole_text : (budget : ℕ) (rs : List Record) → journal_text budget rs ≡ entry_text (entry.Header budget) ++ (records_text rs ++ entry_text entry.End)
whole_text budget rs =
    ap (λ (xs : List ℕ). entry_text (entry.Header budget) ++ xs)
    (records_then rs (entry.End ∷ []) ∙ ap (λ (xs : List ℕ). records_text rs ++ xs) (append-nil (entry_text entry.End)))

-- what was put, with more appended
pub put_more : (name a b : List ℕ) (old : Option Files) → option_map (append_file name b) (option_map (put_file name a) old) ≡ option_map (put_file name (a ++ b)) old
put_more name a b None = refl
put_more name a b (Some f) = ap (λ (g : Files). Some g) (append_file-put_file name a b f)

pub put_then : (name a b : List ℕ) (old mid new : Option Files) → mid ≡ option_map (put_file name a) old → HasAppended mid new name b → new ≡ option_map (put_file name (a ++ b)) old
put_then name a b old mid new e h = h ∙ (ap (option_map (append_file name b)) e ∙ put_more name a b old)

pub take_front : (a b : List ℕ) (k : ℕ) → a ++ take k b ≡ take (length a + k) (a ++ b)
take_front [] b k = let e : k ≡ 0 + k = omega arith in ap (λ (n : ℕ). take n b) e
take_front (x ∷ a) b k =
    let e : suc (length a + k) ≡ suc (length a) + k = omega arith in
    ap (λ (xs : List ℕ). x ∷ xs) (take_front a b k) ∙ ap (λ (n : ℕ). take n (x ∷ (a ++ b))) e

take_nil : (k : ℕ) → take {A = ℕ} k [] ≡ []
take_nil zero = refl
take_nil (suc k) = refl

-- a file that was put is there
pub put_there : (name bytes : List ℕ) (old new : Option Files) → new ≡ option_map (put_file name bytes) old → IsThere new name
put_there name bytes None new e = subst (λ (o : Option Files). IsThere o name) (sym e) tt
put_there name bytes (Some f) new e =
    let some : file_of (put_file name bytes f) name ≡ Some bytes = grind (gets, rules) in
    subst (λ (o : Option Files). IsThere o name) (sym e) (λ none. let bad : ◌≡◌ {A = Option (List ℕ)} (Some bytes) None = sym some ∙ none in cc)

-- where recording the first entry stops, a beginning of its line is there
pub stopped_header : (why : Stop) (name line : List ℕ) (old mid new : Option Files) → mid ≡ option_map (put_file name []) old → IsRecorded (Err why) mid new name line → (new ≡ old) ⊎ ((k : ℕ) × (new ≡ option_map (put_file name (take k line)) old))
stopped_header stop.Failed name line old mid new e h = inr (h.0, put_then name [] (take h.0 line) old mid new e h.1)
stopped_header stop.NoMemory name line old mid new e h = inr (0, h ∙ (e ∙ ap (λ (xs : List ℕ). option_map (put_file name xs) old) (sym (take_zero line))))

pub created_header : (r : Result (Unit {0}) OutsideFault) (why : OutsideFault) (name line : List ℕ) (old new : Option Files) → r ≡ Err why → IsCreated r old new name → (new ≡ old) ⊎ ((k : ℕ) × (new ≡ option_map (put_file name (take k line)) old))
created_header r outside.Failed name line old new e h =
    elim (subst (λ (q : Result (Unit {0}) OutsideFault). IsCreated q old new name) e h) [
      | inl same ↦ inl same
      | inr empty ↦ inr (0, empty ∙ ap (λ (xs : List ℕ). option_map (put_file name xs) old) (sym (take_zero line)))
    ]
created_header r outside.NoMemory name line old new e h = inl (subst (λ (q : Result (Unit {0}) OutsideFault). IsCreated q old new name) e h)
