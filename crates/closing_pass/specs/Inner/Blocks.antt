-- How kept vectors are packed into blocks of 64, and that they are those of verdicts.
use Rattle.std.specs.Prelude.{◌≡◌, ◌∷◌, [], ℕ, Bool, List, Some, drop, slice_get, take}
use Rattle.podem.specs.declared.verdict.Verdict.{Verdict}
use Rattle.podem.specs.declared.verdict.Verdict.TheVariants.{Detected}
use Rattle.rm_base.specs.declared.numbers.Fault.{Fault}
use Rattle.closing_pass.specs.Inner.Findings.{ArePacked}

-- each block has the next 64 vectors, and the last one those that are left
abbrev pub AreBlocksOf : List (List Bool) → List (List ℕ) → Type 0
AreBlocksOf vectors [] = vectors ≡ []
AreBlocksOf vectors (words ∷ blocks) = ArePacked (take 64 vectors) words × AreBlocksOf (drop 64 vectors) blocks

-- each vector of a verdict is among the kept ones
abbrev pub AreKept : List (List Bool) → List (Fault × Verdict) → Type 0
AreKept kept verdicts = (j : ℕ) (fault : Fault) (vector : List Bool) → slice_get verdicts j ≡ Some (fault, Detected vector) → (k : ℕ) × (slice_get kept k ≡ Some vector)
