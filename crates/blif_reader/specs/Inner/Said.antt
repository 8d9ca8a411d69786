-- What a checker has of the lines so far.
use Rattle.std.specs.Prelude.{◌≡◌, Bool, List, Option, None}
use Rattle.std.specs.Option.{option_map}
use Rattle.blif_lines.specs.Layout.{Spot}
use Rattle.blif_format.specs.FirstFault.{Said, after_line}
use Rattle.blif_format.specs.declared.refusal.ReadRefusal.{ReadRefusal}
use Rattle.blif_reader.specs.Inner.Tally.{IsTally}
use Rattle.blif_reader.specs.Rows.{said_cover}
use Rattle.blif_reader.specs.declared.check.Checker.{Checker}

pub record IsSaid (said : Said) (c : Checker) : Type 0 where
  pub began : said.began ≡ c.began
  pub ended : said.ended ≡ c.ended
  pub cover : said.cover ≡ option_map said_cover c.cover
  pub tally : IsTally said.uses c.names

-- the line has no fault, and the checker has what is said with it
pub record Passes (said : Said) (line : List Spot) (fault : Option ReadRefusal) (c : Checker) : Type 0 where
  pub faultless : fault ≡ None
  pub taken : IsSaid (after_line said line) c
