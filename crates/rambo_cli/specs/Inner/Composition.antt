-- What an audit that an output passes says of it.
use Rattle.std.specs.Prelude.{◌≡◌, ℕ, None}
use Rattle.rm_base.specs.Files.{Files}
use Rattle.rm_model.specs.Ranks.{first_without_rank}
use Rattle.journal_audit.specs.Audited.{IsPassed}
use Rattle.rm_model.specs.Value.{Equivalent, IsRanked}
use Rattle.rm_model.specs.WellFormed.{IsWellFormed as IsModel}
use Rattle.rm_model.specs.declared.parts.Model.{Model}
use Rattle.graph_to_model.specs.NetModel.{model_of_net}
use Rattle.rm_base.specs.Words.{Word}

-- an output that passes the audit is the text of a model with the original's outputs and latch pins
abbrev pub PassedAuditsTell : Type 0
PassedAuditsTell =
    (m : Model) (files : Files) (journal output : Word) (count : ℕ) → IsModel m → IsRanked m → first_without_rank m ≡ None → (passed : IsPassed m files journal output count)
    → Equivalent m (model_of_net m passed.last)
