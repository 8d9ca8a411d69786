use Rattle.blif_flatten.proofs.Lines.{interfaces-go}
use Rattle.rm_base.proofs.Public.{read_stands}
use Rattle.blif_flatten.proofs.interfaces.interfaces_of.Goals as goal

pub loop-section-preserved : goal.loop-section-preserved
loop-section-preserved c = interfaces-go c.loop-section.interfaces.items c.push.new.self.items c.args.text.now c.args.sections.now c.loop-section.section-index c.section-item.result c.in_ok-interface_of.field-0 (read_stands c.args.sections.now c.loop-section.section-index c.section-item.result c.loop-section-test.true c.section-item.is) c.loop-section.invariant c.in_ok-interface_of.ensures c.in_ok-push.ensures.items
