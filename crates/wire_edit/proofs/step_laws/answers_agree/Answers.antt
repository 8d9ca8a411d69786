use Rattle.wire_edit.proofs.Unrefused.{rooms_agree, answers_one, applicable_made, room_there}
use Rattle.wire_edit.proofs.step_laws.answers_agree.Goals as goal

pub returns-clause-rooms : goal.returns-clause-rooms
returns-clause-rooms c = rooms_agree

pub returns-clause-one : goal.returns-clause-one
returns-clause-one c = answers_one

pub returns-clause-made : goal.returns-clause-made
returns-clause-made c = applicable_made

pub returns-clause-room : goal.returns-clause-room
returns-clause-room c = room_there
