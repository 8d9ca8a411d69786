use Rattle.std.proofs.Common.{◌≡◌, arith, ap}
use Rattle.std.specs.Prelude.{nat_lt}
use Rattle.std.proofs.lemmas.Bool.{lt-ltb}
use Rattle.wire_edit.proofs.Ending.{tidying_ends, fixes_end, adds_raise}
use Rattle.wire_edit.proofs.Calling.{tidying_has_room}
use Rattle.wire_edit.proofs.laws.room_suffices.Goals as goal
use Rattle.rm_base.specs.Numbers.{one_if}

pub returns-clause-tidying : goal.returns-clause-tidying
returns-clause-tidying c = λ net step k room well next le.
    let falls = tidying_ends net step well next in
    (omega (arith, falls, le), omega (arith, falls, le))

pub returns-clause-fixes : goal.returns-clause-fixes
returns-clause-fixes c = λ net step driver k room well applies fixes lt le.
    let falls = fixes_end net step driver well applies fixes in
    let one : one_if (nat_lt 1 driver) ≡ 1 = ap one_if (lt-ltb 1 driver lt) in
    (omega (arith, falls, one, le), omega (arith, falls, one, le))

pub returns-clause-adding : goal.returns-clause-adding
returns-clause-adding c = λ net step k room well applies makes le.
    let rises = adds_raise net step well applies makes in
    (omega (arith, rises, le), omega (arith, rises, le))

pub returns-clause-calls : goal.returns-clause-calls
returns-clause-calls c = tidying_has_room
