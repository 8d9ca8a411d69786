-- What is said of files, where the file store tells them.
use Rattle.std.specs.Prelude.{◌≡◌, List, ℕ, Option, None, Some, IfSome, IsSomeAnd}
use Rattle.rm_base.specs.Files.{Files, file_of}
use Rattle.rm_base.specs.Words.{Word}

-- what holds of the files before and after
abbrev pub IfTold : Option Files → Option Files → (Files → Files → Type 0) → Type 0
IfTold None new P = Unit {0}
IfTold (Some old) None P = ⊥
IfTold (Some old) (Some new) P = P old new

-- the file is there, and this holds of its bytes
abbrev pub Holds : Files → Word → (List ℕ → Type 0) → Type 0
Holds files name P = IsSomeAnd (file_of files name) P

abbrev pub OfFile : Word → Option Files → (List ℕ → Type 0) → Type 0
OfFile name files P = IfSome files (λ told. Holds told name P)

-- the files are told, and this one isn't there
abbrev pub IsAbsent : Word → Option Files → Type 0
IsAbsent name files = IsSomeAnd files (λ told. file_of told name ≡ None)
