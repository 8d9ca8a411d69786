use Rattle.std.proofs.Common.{◌∙◌, sym}
use Rattle.gate_graph.specs.Circuit.{net_of}
use Rattle.wire_edit.proofs.Conditions.{driver_live}
use Rattle.wire_edit.proofs.Reading.{twins_start, twins_step, twins_found, twins_none}
use Rattle.wire_edit.proofs.rules.least_twin.Goals as goal

pub readers_of-reader-items-requires : goal.readers_of-reader-items-requires
readers_of-reader-items-requires c = driver_live (net_of c.args.graph.now) c.well_formed-2.ensures.net c.args.gate.0 0 c.args.driver.0 (sym c.requires.driver)

pub loop-reader-init : goal.loop-reader-init
loop-reader-init c =
    twins_start c.args.graph.now c.args.gate.0 c.args.driver.0 _ c.readers_listed.ensures (sym c.requires.driver) (c.into_iter-reader-iterator.ensures.into_iter_gives ∙ c.readers_of-reader-items.ensures)

pub loop-reader-preserved : goal.loop-reader-preserved
loop-reader-preserved c =
    twins_step c.args.graph.now c.args.gate.0 c.args.driver.0 c.in-Some.reader.0 _ _ (sym c.requires.driver) c.loop-reader.invariant c.in-Some.ensures.steps (c.is_lower_not.ensures.other c.if-is_lower_not.false)

pub returns-then-is_lower_not : goal.returns-then-is_lower_not
returns-then-is_lower_not c =
    let lower = c.is_lower_not.ensures.lower c.if-is_lower_not.true in
    twins_found c.args.graph.now c.args.gate.0 c.args.driver.0 c.in-Some.reader.0 _ _ c.well_formed-2.ensures.net (sym c.requires.driver) c.requires.quiet c.loop-reader.invariant c.in-Some.ensures.steps lower.0 lower.1

pub returns : goal.returns
returns c = twins_none c.args.graph.now c.args.gate.0 c.args.driver.0 _ c.loop-reader.invariant c.in-None.ensures.steps.0
