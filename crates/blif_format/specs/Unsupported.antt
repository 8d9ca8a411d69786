-- Words of other dialects and uses of the format, which are refused by name.
use Rattle.std.specs.Prelude.{List, [], ◌∷◌, codes}
use Rattle.rm_base.specs.Words.{Word}

abbrev pub unsupported_words : List Word
unsupported_words =
    codes ".subckt" ∷ codes ".gate" ∷ codes ".mlatch" ∷ codes ".search" ∷ codes ".exdc" ∷ codes ".blackbox"
    ∷ codes ".start_kiss" ∷ codes ".end_kiss" ∷ codes ".latch_order" ∷ codes ".code" ∷ codes ".i" ∷ codes ".o" ∷ codes ".p"
    ∷ codes ".s" ∷ codes ".r" ∷ codes ".cycle" ∷ codes ".clock_event" ∷ codes ".area" ∷ codes ".delay"
    ∷ codes ".wire_load_slope" ∷ codes ".wire" ∷ codes ".input_arrival" ∷ codes ".default_input_arrival"
    ∷ codes ".output_required" ∷ codes ".default_output_required" ∷ codes ".input_drive" ∷ codes ".default_input_drive"
    ∷ codes ".output_load" ∷ codes ".default_output_load" ∷ codes ".max_input_load" ∷ codes ".default_max_input_load"
    ∷ codes ".attr" ∷ codes ".cname" ∷ codes ".conn" ∷ codes ".param" ∷ []
