use Rattle.std.proofs.Common.{◌∙◌, sym, subst, List, ℕ}
use Rattle.blif_flatten.specs.declared.modules.Module.{Module}
use Rattle.rm_base.proofs.Public.{read_stands}
use Rattle.blif_flatten.specs.declared.sections.Section.{Section}
use Rattle.blif_flatten.specs.CallFaults.{plain_modules}
use Rattle.blif_flatten.specs.Laws.{AreRankedBy}
use Rattle.blif_flatten.specs.Inner.Ranks.{AreFalling, AreKnownCalls}
use Rattle.blif_flatten.specs.Inner.Tokens.{IsSectionWithin, sections_at}
use Rattle.blif_flatten.proofs.Joined.{known-calls, lead-is, positive, some-length}
use Rattle.blif_flatten.proofs.Placed.{light-modules}
use Rattle.blif_flatten.proofs.reading.link_sections.Goals as goal

pub rank_modules-requires : goal.rank_modules-requires
rank_modules-requires c = subst (λ (ms : List Module). AreKnownCalls ms) (sym (c.as_slice.ensures.value ∙ c.in-Ok-modules_of.ensures)) (known-calls (sections_at c.args.text.now c.args.sections.now))

pub lead_of-requires : goal.lead_of-requires
lead_of-requires c = subst (λ (s : Section). IsSectionWithin c.args.text.now s) (sym c.index-sections-0.is) (c.requires.within 0 c.index-sections-0.result (some-length c.args.sections.now c.requires.some))

pub returns-in-Ok-lead_of-clause-linked : goal.returns-in-Ok-lead_of-clause-linked
returns-in-Ok-lead_of-clause-linked c = record {
  modules_are = c.in-Ok-modules_of.ensures;
  lead_is = c.in-Ok-lead_of.ensures (plain_modules (sections_at c.args.text.now c.args.sections.now)) c.requires.known ∙ sym (lead-is c.args.text.now c.args.sections.now c.index-sections-0.result (read_stands c.args.sections.now 0 c.index-sections-0.result (some-length c.args.sections.now c.requires.some) c.index-sections-0.is));
  falling = subst (λ (ms : List Module). AreFalling c.in-Ok-rank_modules.numbers.items ms) (c.as_slice.ensures.value ∙ c.in-Ok-modules_of.ensures) c.in-Ok-rank_modules.ensures.falling;
  ranked = subst (λ (ms : List Module). (rank : ℕ → ℕ) × AreRankedBy ms rank) (c.as_slice.ensures.value ∙ c.in-Ok-modules_of.ensures) c.in-Ok-rank_modules.ensures.ranked;
  light = light-modules (sections_at c.args.text.now c.args.sections.now);
  positive = positive c.args.text.now c.args.sections.now c.requires.within;
}
