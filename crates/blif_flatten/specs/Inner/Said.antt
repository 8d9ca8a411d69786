-- What the code has of the lines of a section so far.
use Rattle.std.specs.Prelude.{◌≡◌, ◌-◌, ℕ, List, Option, None, Some, codes, if◌then◌else◌}
use Rattle.std.specs.Option.{option_map}
use Rattle.rm_base.specs.Words.{Word}
use Rattle.rm_model.specs.Words.{is_word}
use Rattle.blif_lines.specs.Layout.{Spot}
use Rattle.blif_format.specs.declared.words.Part.{Part}
use Rattle.blif_format.specs.FirstFault.{OpenCover}
use Rattle.blif_reader.specs.Rows.{said_cover}
use Rattle.blif_flatten.specs.declared.line_faults.Body.{Body}
use Rattle.blif_flatten.specs.LineFaults.{BodySaid, part_fault, outputs_with}

abbrev pub said_of : Body → BodySaid
said_of b = record { ended = b.ended; cover = option_map said_cover b.cover; outputs = b.outputs }

-- the part has no fault, and the outputs have it
pub record Takes (outputs : List Word) (earlier : ℕ) (p : Part × Spot) (after : List Word) : Type 0 where
  pub faultless : part_fault outputs earlier p ≡ None
  pub listed : after ≡ outputs_with outputs p

-- the cover to which rows behind a line that begins with a dot may belong
abbrev pub cover_by : Word → ℕ → Option OpenCover
cover_by word count = if is_word (codes ".names") word then Some (record { inputs = count - 1; ending = None }) else None
