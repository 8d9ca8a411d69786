use Rattle.accepted_steps.proofs.Entering.{IsGathered, piece_ends, piece_goes, piece_some}
use Rattle.accepted_steps.proofs.reading.take_piece.Goals as goal

pub take_entries-requires-clause-taken : goal.take_entries-requires-clause-taken
take_entries-requires-clause-taken c =
    let some = c.requires.taken in
    let gathers : IsGathered c.args.reader.now c.push.new.self c.gather.new.reader c.args.piece.now c.in_ok-gathered.gathered.entries.items c.as_slice.result.now c.in_ok-gathered.gathered.fault = record {
      pushes = c.in_ok-push.ensures.ok;
      gathers = c.in_ok-gathered.ensures;
      same = c.as_slice.ensures.value;
    } in
    piece_some c.cuts_agree.ensures c.args.model.now some.0 c.args.piece.now c.args.reader.now c.push.new.self c.gather.new.reader c.args.taking.now c.in_ok-gathered.gathered.entries.items c.as_slice.result.now c.in_ok-gathered.gathered.fault gathers some.1.0 some.1.1

pub returns-in-Some : goal.returns-in-Some
returns-in-Some c = λ text taking short.
    let gathers : IsGathered c.args.reader.now c.push.new.self c.gather.new.reader c.args.piece.now c.in_ok-gathered.gathered.entries.items c.as_slice.result.now c.in_ok-gathered.gathered.fault = record {
      pushes = c.in_ok-push.ensures.ok;
      gathers = c.in_ok-gathered.ensures;
      same = c.as_slice.ensures.value;
    } in
    piece_ends c.cuts_agree.ensures c.args.model.now text c.args.piece.now c.args.reader.now c.push.new.self c.gather.new.reader c.args.taking.now c.take_entries.new.taking c.in_ok-gathered.gathered.entries.items c.as_slice.result.now c.in_ok-gathered.gathered.fault c.in_ok-ended.field-0 c.in-Some.ended gathers taking short c.in-Some.is c.in_ok-ended.ensures

pub returns : goal.returns
returns c = λ text taking short.
    let gathers : IsGathered c.args.reader.now c.push.new.self c.gather.new.reader c.args.piece.now c.in_ok-gathered.gathered.entries.items c.as_slice.result.now c.in_ok-gathered.gathered.fault = record {
      pushes = c.in_ok-push.ensures.ok;
      gathers = c.in_ok-gathered.ensures;
      same = c.as_slice.ensures.value;
    } in
    piece_goes c.cuts_agree.ensures c.places_tell.ensures c.args.model.now text c.args.piece.now c.args.reader.now c.push.new.self c.gather.new.reader c.args.taking.now c.take_entries.new.taking c.in_ok-gathered.gathered.entries.items c.as_slice.result.now c.in_ok-gathered.gathered.fault c.in_ok-ended.field-0 c.ended_by.result gathers taking short c.in_default.is c.in_ok-ended.ensures c.ended_by.ensures
