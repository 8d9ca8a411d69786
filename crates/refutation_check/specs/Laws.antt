-- Laws of refusals.
use Rattle.std.specs.Prelude.{List, ◌≡◌}
use Rattle.gate_net.specs.Net.{Net}
use Rattle.refutation.specs.declared.items.Form.{Form}
use Rattle.refutation.specs.declared.items.Item.{Item}
use Rattle.refutation_check.specs.FirstRefusal.{IsAcceptedAs, IsFirstRefusal}
use Rattle.refutation_check.specs.declared.refusals.CheckRefusal.{CheckRefusal}
use Rattle.rm_base.specs.declared.numbers.Fault.{Fault}

-- a tree has one first refusal at most
abbrev pub RefusalsAgree : Type 0
RefusalsAgree =
    (net : Net) (fault : Fault) (form : Form) (items : List Item) (r s : CheckRefusal) → IsFirstRefusal net fault form items r
    → IsFirstRefusal net fault form items s → r ≡ s

-- and none where it is accepted
abbrev pub AcceptedAreNotRefused : Type 0
AcceptedAreNotRefused =
    (net : Net) (fault : Fault) (form : Form) (items : List Item) (r : CheckRefusal) → IsAcceptedAs form net fault items
    → IsFirstRefusal net fault form items r → ⊥
