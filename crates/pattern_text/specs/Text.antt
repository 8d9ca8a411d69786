-- The text of test patterns.
use Rattle.std.specs.Prelude.{ℕ, suc, ◌+◌, ◌*◌, ◌/◌, ◌%◌, Bool, true, false, length, List, [], ◌∷◌, ◌++◌, Option, None, Some, codes, map, nat_eq, slice_index_or, if◌then◌else◌}
use Rattle.std.specs.Fmt.{decimal}
use Rattle.rm_base.specs.Words.{Word}
use Rattle.rm_model.specs.Value.{observed_names, source_names}
use Rattle.rm_model.specs.declared.parts.Model.{Model}
use Rattle.model_faults.specs.ModelFaults.{ModelFault, faults_of_model}
use Rattle.pattern_text.specs.declared.counts.Counts.{Counts}

-- the patterns, a value for each source in each; and for each fault of the model, in order, the number of the first pattern that
-- detects it, or None where its search was cut short, and whether it is the last of its class of equivalent faults
pub record Tests : Type 0 where
  pub patterns : List (List Bool)
  pub firsts : List (Option ℕ)
  pub lasts : List Bool

-- how many stand under a pattern
abbrev pub detected_of : List (Option ℕ) → ℕ
detected_of [] = 0
detected_of (Some number ∷ firsts) = suc (detected_of firsts)
detected_of (None ∷ firsts) = detected_of firsts

-- how many stand under none
abbrev pub undecided_of : List (Option ℕ) → ℕ
undecided_of [] = 0
undecided_of (Some number ∷ firsts) = undecided_of firsts
undecided_of (None ∷ firsts) = suc (undecided_of firsts)

-- those of the faults that are the last of their classes
abbrev pub of_last : List (Option ℕ) → List Bool → List (Option ℕ)
of_last [] lasts = []
of_last (first ∷ firsts) [] = []
of_last (first ∷ firsts) (true ∷ lasts) = first ∷ of_last firsts lasts
of_last (first ∷ firsts) (false ∷ lasts) = of_last firsts lasts

-- how many there are: a class is told by its last fault
abbrev pub counts_of : Tests → Counts
counts_of t = record {
  patterns = length t.patterns;
  detected = detected_of t.firsts;
  undecided = undecided_of t.firsts;
  classes_detected = detected_of (of_last t.firsts t.lasts);
  classes_undecided = undecided_of (of_last t.firsts t.lasts);
}

-- the vectors of these numbers
abbrev pub chosen : List (List Bool) → List ℕ → List (List Bool)
chosen vectors numbers = map (λ (n : ℕ). slice_index_or vectors n []) numbers

-- a blank and a number
abbrev pub number_after : ℕ → List ℕ
number_after n = 32 ∷ decimal n

-- names, each with a blank before it
abbrev pub names_text : List Word → List ℕ
names_text [] = []
names_text (x ∷ xs) = (32 ∷ x) ++ names_text xs

abbrev pub bit_of : Bool → ℕ
bit_of b = if b then 1 else 0

-- a digit for each value
abbrev pub bits_text : List Bool → List ℕ
bits_text bits = map (λ (b : Bool). if b then 49 else 48) bits

-- `tests 1`, with the version of the format
abbrev pub header_line : List ℕ
header_line = codes "tests 1" ++ 10 ∷ []

-- `sources NAME ..` and `observed NAME ..`: the model's own, in order
abbrev pub sources_line : Model → List ℕ
sources_line m = codes "sources" ++ (names_text (source_names m) ++ 10 ∷ [])

abbrev pub observed_line : Model → List ℕ
observed_line m = codes "observed" ++ (names_text (observed_names m) ++ 10 ∷ [])

-- `pattern NUMBER BITS`: a bit for each source; numbers count from 0
abbrev pub pattern_line : ℕ → List Bool → List ℕ
pattern_line n bits = codes "pattern" ++ (number_after n ++ (32 ∷ (bits_text bits ++ 10 ∷ [])))

abbrev pub pattern_lines : ℕ → List (List Bool) → List ℕ
pattern_lines n [] = []
pattern_lines n (bits ∷ rest) = pattern_line n bits ++ pattern_lines (n + 1) rest

-- ` COVER POSITION INPUT VALUE`: the output of the gate cover, the position of the input from 0 and its name, and the stuck value
abbrev pub pin_text : ModelFault → List ℕ
pin_text f = (32 ∷ f.cover.output) ++ (number_after f.position ++ ((32 ∷ slice_index_or f.cover.inputs f.position []) ++ number_after (bit_of f.value)))

-- `fault COVER POSITION INPUT VALUE NUMBER`: the pattern of that number is the first to detect the fault; `undecided COVER POSITION
-- INPUT VALUE`: the search for a pattern was cut short
abbrev pub fault_line : ModelFault → Option ℕ → List ℕ
fault_line f (Some number) = codes "fault" ++ (pin_text f ++ (number_after number ++ 10 ∷ []))
fault_line f None = codes "undecided" ++ (pin_text f ++ 10 ∷ [])

abbrev pub fault_lines : List ModelFault → List (Option ℕ) → List ℕ
fault_lines [] firsts = []
fault_lines (f ∷ fs) [] = []
fault_lines (f ∷ fs) (first ∷ firsts) = fault_line f first ++ fault_lines fs firsts

-- hundredths of a per cent, rounded down; 100 per cent of nothing
abbrev pub hundredths : ℕ → ℕ → ℕ
hundredths part whole = if nat_eq whole 0 then 10000 else 10000 * part / whole

-- ` 97.50`
abbrev pub percent_text : ℕ → List ℕ
percent_text n = number_after (n / 100) ++ (46 ∷ (decimal (n % 100 / 10) ++ decimal (n % 10)))

abbrev pub coverage_text : ℕ → ℕ → List ℕ
coverage_text detected undecided = percent_text (hundredths detected (detected + undecided))

-- `patterns NUMBER`, `faults DETECTED UNDECIDED PERCENT`, `classes DETECTED UNDECIDED PERCENT`
abbrev pub counts_lines : Counts → List ℕ
counts_lines c =
    codes "patterns" ++ (number_after c.patterns ++ (10 ∷ (
    codes "faults" ++ (number_after c.detected ++ (number_after c.undecided ++ (coverage_text c.detected c.undecided ++ (10 ∷ (
    codes "classes" ++ (number_after c.classes_detected ++ (number_after c.classes_undecided ++ (coverage_text c.classes_detected c.classes_undecided ++ 10 ∷ [])))))))))))

-- `patterns P faults D U classes D U`, which is printed
abbrev pub tests_line : Counts → List ℕ
tests_line c =
    codes "patterns" ++ (number_after c.patterns ++ (codes " faults" ++ (number_after c.detected ++ (number_after c.undecided
    ++ (codes " classes" ++ (number_after c.classes_detected ++ (number_after c.classes_undecided ++ 10 ∷ [])))))))

abbrev pub tests_text : Model → Tests → List ℕ
tests_text m t =
    header_line ++ (sources_line m ++ (observed_line m ++ (pattern_lines 0 t.patterns ++ (fault_lines (faults_of_model m) t.firsts ++ counts_lines (counts_of t)))))
