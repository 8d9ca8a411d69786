-- The journal while its header is written.
use Rattle.std.specs.Prelude.{◌≡◌, ◌⊎◌, ℕ, List, take, Option}
use Rattle.std.specs.Option.{option_map}
use Rattle.rm_base.specs.Files.{Files, put_file}
use Rattle.journal_text.specs.Text.{entry_text}
use Rattle.journal_text.specs.declared.record.Entry.TheVariants.{Header}

-- nothing has changed, or the journal holds a beginning of the header
abbrev pub BeginsHeader : ℕ → List ℕ → Option Files → Option Files → Type 0
BeginsHeader budget journal old new = (new ≡ old) ⊎ ((k : ℕ) × (new ≡ option_map (put_file journal (take k (entry_text (Header budget)))) old))
