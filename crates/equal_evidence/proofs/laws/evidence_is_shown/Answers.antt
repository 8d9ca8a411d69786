use Rattle.equal_evidence.proofs.Differences.{Given}
use Rattle.equal_evidence.proofs.Showing.{shown}
use Rattle.equal_evidence.proofs.laws.evidence_is_shown.Goals as goal

pub returns : goal.returns
returns c =
    let given : Given = record {
      tell = c.miters_tell.ensures;
      sources = c.miters_tell_models.ensures.sources;
      exist = c.values_exist.ensures;
      stands = c.plain_nets_stand.ensures.stands;
      formed = c.plain_nets_are_formed.ensures.formed;
    } in
    shown c.swept_models_agree.ensures c.trees_refute.ensures c.miters_tell_models.ensures.same c.miters_tell_models.ensures.apart c.miters_tell_models.ensures.not_both given
