use Rattle.std.proofs.Common.{sym, subst}
use Rattle.diagnostics.specs.Terminal.{IsTerminalText}
use Rattle.diagnostics.proofs.TerminalTexts.{of_parts}
use Rattle.diagnostics.proofs.message.Message.say.Goals as goal

pub invariant_of-result : goal.invariant_of-result
invariant_of-result c =
    subst IsTerminalText (sym c.in_ok-push_parts.ensures) (of_parts c.self.inside.colours c.self.inside.text.items c.args.parts.now c.self.invariant)
