-- The windows that `cut` writes and `sew` makes again, and their files.
use Rattle.std.specs.Prelude.{◌++◌, ℕ, codes, decimal}
use Rattle.rm_base.specs.Words.{Word}
use Rattle.rm_model.specs.declared.parts.Model.{Model}
use Rattle.blif_lines.specs.Layout.{lines_of}
use Rattle.blif_format.specs.Grammar.{Reads}
use Rattle.blif_format.specs.Text.{text_of}
use Rattle.window_cut.specs.Laws.{IsStandalone}

-- how many windows there may be
abbrev pub most_windows : ℕ
most_windows = 1048576

-- a model that stands alone, well formed, ranked and with an output, and whose text says it
abbrev pub IsWindow : Model → Type 0
IsWindow w = IsStandalone w × Reads (lines_of (text_of w)) w

-- the name of the file of a window, and that of its journal
abbrev pub window_file : Word → ℕ → Word
window_file prefix k = prefix ++ (decimal k ++ codes ".blif")

abbrev pub window_journal : Word → ℕ → Word
window_journal prefix k = prefix ++ (decimal k ++ codes ".journal")
