-- A file that is read piece by piece.
use Rattle.std.specs.Prelude.{◌≡◌, ◌<◌, ◌^◌, ℕ, List, [], ◌++◌, length, take, Option, Some, None, IfSome, IsSome}
use Rattle.rm_base.specs.Files.{Files, file_of}
use Rattle.rm_base.specs.Words.{Word}
use Rattle.file_pieces.specs.declared.PieceProblem.{PieceProblem}
use Rattle.file_pieces.specs.declared.PieceProblem.TheVariants.{Failed, Missing, NoMemory, TooLong}

-- the file, where it is there, begins with the text
abbrev pub FileBegins : Files → Word → List ℕ → Type 0
FileBegins files name text = (bytes : List ℕ) → file_of files name ≡ Some bytes → (rest : List ℕ) × (bytes ≡ text ++ rest)

-- so many bytes of the file were read: these
pub record IsReadSoFar (files : Option Files) (name text : List ℕ) (from : ℕ) : Type 0 where
  pub size : length text ≡ from
  pub begins : IfSome files (λ told. FileBegins told name text)

-- the file is there, and longer than is read; these are its first bytes
abbrev pub IsTooLong : Files → Word → List ℕ → Type 0
IsTooLong files name text = (bytes : List ℕ) × ((file_of files name ≡ Some bytes) × ((2 ^ 62 < length bytes) × (take (2 ^ 62) bytes ≡ text)))

-- what comes behind these bytes: a piece, or the end of the file
abbrev pub ComesNext : Option Files → Word → List ℕ → ℕ → Option (List ℕ) → Type 0
ComesNext files name text now (Some piece) = IsReadSoFar files name (text ++ piece) now × (0 < length piece)
ComesNext files name text now None = IfSome files (λ told. file_of told name ≡ Some text)

-- or why nothing comes
abbrev pub StopsBy : Option Files → Word → List ℕ → PieceProblem → Type 0
StopsBy files name text Failed = Unit {0}
StopsBy files name text Missing = IsSome files × IfSome files (λ told. file_of told name ≡ None)
StopsBy files name text TooLong = IfSome files (λ told. IsTooLong told name text)
StopsBy files name text NoMemory = Unit {0}

-- with each piece a file is read further
abbrev pub IsFurther : ℕ → ℕ → Option (List ℕ) → Type 0
IsFurther old new (Some piece) = old < new
IsFurther old new None = Unit {0}
