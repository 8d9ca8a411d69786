-- Covers that are kept, beside a map from their bytes to places.
use Rattle.std.specs.Prelude.{◌≡◌, ℕ, List, map, Vec}
use Rattle.std.specs.BTreeMap.{BTreeMap, get_by}
use Rattle.std.specs.Cmp.Lexicographic.{slice_cmp}
use Rattle.std.specs.Ordering.{nat_cmp}
use Rattle.std.specs.Prelude.{Option, slice_get}
use Rattle.std.specs.Option.{option_map}
use Rattle.rm_base.specs.Words.{Word}
use Rattle.rm_model.specs.Numbers.{place_of}
use Rattle.rm_model.specs.declared.parts.Cover.{Cover}
use Rattle.cover_sharing.specs.Inner.Encoding.{encoding_of}
use Rattle.cover_sharing.specs.declared.kept_covers.KeptCovers.TheInside.{Inside}

-- what a map with bytes as keys has at these bytes
abbrev pub at_bytes : {Y : Type 0} → BTreeMap (Vec ℕ Y) ℕ → List ℕ → Option ℕ
at_bytes m q = get_by (λ k. slice_cmp nat_cmp q k.items) m

-- the bytes of the covers, in order
abbrev pub encodings : List Cover → List (List ℕ)
encodings cs = map encoding_of cs

-- the map gives the first place of each cover's bytes, and nothing for others
pub record IsPlaced (t : Inside) : Type 0 where
  pub at : (q : List ℕ) → at_bytes t.places q ≡ place_of (encodings t.covers.items) q

-- the output of the cover at a place
abbrev pub output_at : List Cover → ℕ → Option Word
output_at cs k = option_map (λ (c : Cover). c.output) (slice_get cs k)
