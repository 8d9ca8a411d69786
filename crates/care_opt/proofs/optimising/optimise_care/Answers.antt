use Rattle.std.proofs.Common.{arith}
use Rattle.care_opt.proofs.optimising.optimise_care.Goals as goal

pub optimise_gated-requires-clause-gated : goal.optimise_gated-requires-clause-gated
optimise_gated-requires-clause-gated c = c.cares_tell.ensures.gated c.args.model.now c.args.care.now c.in_ok-graph.bound c.in_ok-graph.graph c.requires.ready c.requires.care_ready c.in_ok-graph.ensures.can.cares c.in_ok-graph.ensures.net c.well_formed-2.ensures.net c.in_ok-graph.ensures.bound

pub returns-clause-optimised : goal.returns-clause-optimised
returns-clause-optimised c =
    (c.cares_tell.ensures.tell c.args.model.now c.args.care.now c.in_ok-graph.bound c.args.depth c.args.budget c.in_ok-graph.graph c.in_ok-done.done.graph (record { adds = 0; fixes = c.in_ok-done.done.fixes; local = c.in_ok-done.done.local }) c.in_ok-done.done.records.items c.requires.ready c.requires.care_ready
    c.in_ok-graph.ensures.can.cares c.in_ok-graph.ensures.net c.well_formed-2.ensures.net c.well_formed-3.ensures.net (let nodes = c.well_formed-3.ensures.nodes in omega (arith, nodes)) c.in_ok-graph.ensures.bound c.in_ok-done.ensures).optimised

pub returns-clause-tidy : goal.returns-clause-tidy
returns-clause-tidy c =
    (c.cares_tell.ensures.tell c.args.model.now c.args.care.now c.in_ok-graph.bound c.args.depth c.args.budget c.in_ok-graph.graph c.in_ok-done.done.graph (record { adds = 0; fixes = c.in_ok-done.done.fixes; local = c.in_ok-done.done.local }) c.in_ok-done.done.records.items c.requires.ready c.requires.care_ready
    c.in_ok-graph.ensures.can.cares c.in_ok-graph.ensures.net c.well_formed-2.ensures.net c.well_formed-3.ensures.net (let nodes = c.well_formed-3.ensures.nodes in omega (arith, nodes)) c.in_ok-graph.ensures.bound c.in_ok-done.ensures).is_tidy

pub returns-clause-fits : goal.returns-clause-fits
returns-clause-fits c =
    (c.cares_tell.ensures.tell c.args.model.now c.args.care.now c.in_ok-graph.bound c.args.depth c.args.budget c.in_ok-graph.graph c.in_ok-done.done.graph (record { adds = 0; fixes = c.in_ok-done.done.fixes; local = c.in_ok-done.done.local }) c.in_ok-done.done.records.items c.requires.ready c.requires.care_ready
    c.in_ok-graph.ensures.can.cares c.in_ok-graph.ensures.net c.well_formed-2.ensures.net c.well_formed-3.ensures.net (let nodes = c.well_formed-3.ensures.nodes in omega (arith, nodes)) c.in_ok-graph.ensures.bound c.in_ok-done.ensures).fits

pub returns-clause-fewer : goal.returns-clause-fewer
returns-clause-fewer c =
    (c.cares_tell.ensures.tell c.args.model.now c.args.care.now c.in_ok-graph.bound c.args.depth c.args.budget c.in_ok-graph.graph c.in_ok-done.done.graph (record { adds = 0; fixes = c.in_ok-done.done.fixes; local = c.in_ok-done.done.local }) c.in_ok-done.done.records.items c.requires.ready c.requires.care_ready
    c.in_ok-graph.ensures.can.cares c.in_ok-graph.ensures.net c.well_formed-2.ensures.net c.well_formed-3.ensures.net (let nodes = c.well_formed-3.ensures.nodes in omega (arith, nodes)) c.in_ok-graph.ensures.bound c.in_ok-done.ensures).fewer

pub returns-clause-equivalent : goal.returns-clause-equivalent
returns-clause-equivalent c =
    (c.cares_tell.ensures.tell c.args.model.now c.args.care.now c.in_ok-graph.bound c.args.depth c.args.budget c.in_ok-graph.graph c.in_ok-done.done.graph (record { adds = 0; fixes = c.in_ok-done.done.fixes; local = c.in_ok-done.done.local }) c.in_ok-done.done.records.items c.requires.ready c.requires.care_ready
    c.in_ok-graph.ensures.can.cares c.in_ok-graph.ensures.net c.well_formed-2.ensures.net c.well_formed-3.ensures.net (let nodes = c.well_formed-3.ensures.nodes in omega (arith, nodes)) c.in_ok-graph.ensures.bound c.in_ok-done.ensures).equivalent

pub returns-clause-tests : goal.returns-clause-tests
returns-clause-tests c =
    (c.cares_tell.ensures.tell c.args.model.now c.args.care.now c.in_ok-graph.bound c.args.depth c.args.budget c.in_ok-graph.graph c.in_ok-done.done.graph (record { adds = 0; fixes = c.in_ok-done.done.fixes; local = c.in_ok-done.done.local }) c.in_ok-done.done.records.items c.requires.ready c.requires.care_ready
    c.in_ok-graph.ensures.can.cares c.in_ok-graph.ensures.net c.well_formed-2.ensures.net c.well_formed-3.ensures.net (let nodes = c.well_formed-3.ensures.nodes in omega (arith, nodes)) c.in_ok-graph.ensures.bound c.in_ok-done.ensures).tests
