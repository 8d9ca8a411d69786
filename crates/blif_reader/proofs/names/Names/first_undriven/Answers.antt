use Rattle.std.proofs.Common.{◌∙◌, sym, ap, subst}
use Rattle.std.specs.Option.{option_map}
use Rattle.rm_base.specs.declared.numbers.Place.{Place}
use Rattle.blif_format.specs.declared.refusal.FaultKind.TheVariants.{Undriven}
use Rattle.blif_format.specs.declared.refusal.ReadRefusal.TheVariants.{Fault}
use Rattle.blif_reader.specs.Inner.Tally.{IsTally}
use Rattle.blif_reader.specs.Inner.Views.{tally}
use Rattle.blif_reader.proofs.Free.{undriven_law}
use Rattle.blif_reader.proofs.names.Names.first_undriven.Goals as goal

pub returns : goal.returns
returns c uses is =
    ap (option_map (λ (p : Place). Fault Undriven p)) c.first_free_of.ensures
    ∙ undriven_law uses (tally c.self.inside) (subst (IsTally uses) (sym c.self.view_is) is)
