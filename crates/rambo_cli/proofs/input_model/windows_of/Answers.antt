use Rattle.std.proofs.Common.{◌≡◌, ◌<◌, ◌^◌, ◌∙◌, List, arith, length, rules, ap, subst, sym}
use Rattle.std.specs.Prelude.{All}
use Rattle.rm_model.specs.Value.{IsRanked}
use Rattle.rm_model.specs.declared.parts.Model.{Model}
use Rattle.window_cut.specs.Laws.{IsStandalone}
use Rattle.window_cut.specs.Windows.{window_models}
use Rattle.window_fit.specs.Shared.{shared_windows}
use Rattle.rambo_cli.proofs.input_model.windows_of.Goals as goal

pub cut-requires-clause-ranked : goal.cut-requires-clause-ranked
cut-requires-clause-ranked c = subst IsRanked (sym c.in_ok-whole.ensures) (c.shared_models_agree.ensures.agree c.args.model.now c.requires.formed c.requires.ranked).other_ranked

pub returns-clause-windows : goal.returns-clause-windows
returns-clause-windows c = c.in_ok-windows.ensures ∙ ap (λ (m : Model). window_models c.args.width c.args.shift m) c.in_ok-whole.ensures

pub returns-clause-each : goal.returns-clause-each
returns-clause-each c =
    let are : c.in_ok-windows.windows.items ≡ shared_windows c.args.width c.args.shift c.args.model.now = c.in_ok-windows.ensures ∙ ap (λ (m : Model). window_models c.args.width c.args.shift m) c.in_ok-whole.ensures in
    let small : length c.in_ok-windows.windows.items < 2 ^ 63 = first_of (omega (arith, c.in_ok-windows.windows.small), search (rules, c.in_ok-windows.windows.small), grind (arith, c.in_ok-windows.windows.small, c.in_ok-windows.windows.ok)) in
    let few : length (shared_windows c.args.width c.args.shift c.args.model.now) < 2 ^ 63 = subst (λ (ws : List Model). length ws < 2 ^ 63) are small in
    subst (All IsStandalone) (sym are) (c.shared_windows_stand_alone.ensures c.args.width c.args.shift c.args.model.now c.requires.formed c.requires.ranked (omega (arith, few)))
