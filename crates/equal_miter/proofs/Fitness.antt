-- Decompositions of models with the same names are alike.
use Rattle.std.proofs.Common.{ap, length, subst, sym, ◌∙◌, ◌≡◌}
use Rattle.std.specs.Prelude.{List, None}
use Rattle.cover_decompose.specs.Spelled.{plain_net}
use Rattle.cover_decompose.specs.StandsFor.{StandsFor}
use Rattle.gate_net.specs.Net.{IsWellFormed as IsWellFormedNet, Net}
use Rattle.rm_base.specs.Words.{Word}
use Rattle.rm_model.specs.Ranks.{first_without_rank}
use Rattle.rm_model.specs.WellFormed.{IsWellFormed}
use Rattle.rm_model.specs.declared.parts.Model.{Model}
use Rattle.equal_miter.specs.Laws.{AreAlike}
use Rattle.equal_miter.specs.Refusals.{HaveSameNames, IsReady}

pub alike_models : ((m : Model) → IsWellFormed m → first_without_rank m ≡ None → StandsFor (plain_net m) m) → ((m : Model) → IsWellFormedNet (plain_net m)) → (m n : Model) (v w : Net)
    → IsReady m → IsReady n → HaveSameNames m n → v ≡ plain_net m → w ≡ plain_net n → AreAlike v w
alike_models stands formed m n v w ready other same is are = subst (λ (x : Net). AreAlike x w) (sym is) (subst (λ (y : Net). AreAlike (plain_net m) y) (sym are) alike)
  where
    ours : StandsFor (plain_net m) m
    ours = stands m ready.formed ready.ranked

    theirs : StandsFor (plain_net n) n
    theirs = stands n other.formed other.ranked

    alike : AreAlike (plain_net m) (plain_net n)
    alike = record {
      first = formed m;
      second = formed n;
      sources = ours.sources ∙ (ap (λ (l : List Word). length l) same.sources ∙ sym theirs.sources);
      places = ours.observed ∙ (ap (λ (l : List Word). length l) same.observed ∙ sym theirs.observed);
    }
