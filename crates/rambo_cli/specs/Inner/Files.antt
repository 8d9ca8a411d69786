-- What replacing a file, or two one after the other, leaves where it ends early.
use Rattle.std.specs.Prelude.{◌≡◌, ◌⊎◌, ℕ, List, take, Option}
use Rattle.std.specs.Option.{option_map}
use Rattle.rm_base.specs.Files.{Files, put_file}
use Rattle.rm_base.specs.Words.{Word}

-- nothing has changed, or this file holds a beginning of the bytes
abbrev pub BeginsFile : Word → List ℕ → Option Files → Option Files → Type 0
BeginsFile name bytes old new = (new ≡ old) ⊎ ((k : ℕ) × (new ≡ option_map (put_file name (take k bytes)) old))

-- the first file was put, and then the other one
abbrev pub AreBothPut : Word → Word → List ℕ → List ℕ → Files → Files → Type 0
AreBothPut other first bytes more old new = new ≡ put_file other more (put_file first bytes old)

-- nothing has changed, or the first holds a beginning, or it is whole and the other one holds a beginning
abbrev pub BeginsBoth : Word → Word → List ℕ → List ℕ → Files → Files → Type 0
BeginsBoth other first bytes more old new =
    (new ≡ old) ⊎ (((k : ℕ) × (new ≡ put_file first (take k bytes) old)) ⊎ ((k : ℕ) × (new ≡ put_file other (take k more) (put_file first bytes old))))
