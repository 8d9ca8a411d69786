-- From clap's answer to the accepted rows.
use Rattle.std.proofs.Common.{◌≡◌, ◌≢◌, inl, inr, ◌∙◌, refl, sym, ap, subst, cond, map, string_bytes, List, [], ◌∷◌, Some, None, true, false}
use Rattle.std.specs.Prelude.{String}
use Rattle.std.specs.List.{AllByRecursion}
use Rattle.std.specs.Str.{IsUtf8}
use Rattle.std.proofs.lemmas.Str.{IsUtf8-string_bytes}
use Rattle.clap.specs.Walk.{Row, Text, rows_of}
use Rattle.clap.specs.Simple.{App, HasMatchesOf, matches_of}
use Rattle.clap.specs.Matches.{found_of}
use Rattle.clap.specs.declared.parser.matches.ArgMatches.{ArgMatches}
use Rattle.clap.specs.Kinds.{HasKind, Kinds}
use Rattle.clap.specs.Words.{kind_of}
use Rattle.clap.specs.declared.error.Error.{Error}
use Rattle.clap.specs.declared.error.kind.ErrorKind.TheVariants.{OutOfMemory}
use Rattle.clap.specs.Faults.{fault_of, is_simple_and_free}
use Rattle.word_reading.specs.Inner.Judged.{accepted, clean}
use Rattle.word_reading.specs.Inner.Program.{program}
use Rattle.word_reading.proofs.Levels.{parsed_is}

all_texts : {Z : Type 0} (ws : List (String Z)) → AllByRecursion IsUtf8 (map string_bytes ws)
all_texts [] = tt
all_texts (w ∷ ws) = (IsUtf8-string_bytes w, all_texts ws)

pub reads_ok : {Z : Type 0} (ws : List (String Z)) (rows : List Row) → fault_of program (map string_bytes ws) ≡ []
    → rows ≡ matches_of program (map string_bytes ws) → accepted (map string_bytes ws) ≡ Some rows
reads_ok ws rows none same = sym (parsed_is (map string_bytes ws) (all_texts ws))
    ∙ ap (λ k. cond (clean k) (Some (matches_of program (map string_bytes ws))) None) none ∙ ap (λ r. Some r) (sym same)

unclean_by : (k : Kinds) → k ≢ [] → clean k ≡ false
unclean_by [] some = absurd (some refl)
unclean_by (k ∷ ks) some = refl

pub reads_none : {Z : Type 0} (ws : List (String Z)) → fault_of program (map string_bytes ws) ≢ [] → accepted (map string_bytes ws) ≡ None
reads_none ws some = sym (parsed_is (map string_bytes ws) (all_texts ws))
    ∙ ap (λ t. cond t (Some (matches_of program (map string_bytes ws))) None) (unclean_by _ some)

pub rows_given : (a : App) (ws : List Text) (m : ArgMatches) → a ≡ program → HasMatchesOf a ws m → rows_of (found_of m) ≡ matches_of program ws
rows_given a ws m e h = (subst (λ (x : App). HasMatchesOf x ws m) e h refl).0

pub fault_given : (a : App) (ws : List Text) → a ≡ program → (is_simple_and_free a ≡ true → fault_of a ws ≡ []) → fault_of program ws ≡ []
fault_given a ws e h = (subst (λ (x : App). is_simple_and_free x ≡ true → fault_of x ws ≡ []) e h) refl

-- words for which memory sufficed are refused by a fault
pub fault_refused : (a : App) (ws : List Text) (e : Error) → a ≡ program → (is_simple_and_free a ≡ true → HasKind (fault_of a ws) e) → (kind_of e ≢ OutOfMemory) → fault_of program ws ≢ []
fault_refused a ws e is h other = λ none.
    let k : HasKind (fault_of program ws) e = (subst (λ (x : App). is_simple_and_free x ≡ true → HasKind (fault_of x ws) e) is h) refl in
    at_none (subst (λ (ks : Kinds). HasKind ks e) none k)
  where
    at_none : HasKind [] e → ⊥
    at_none (inl memory) = other memory
    at_none (inr among) = among
