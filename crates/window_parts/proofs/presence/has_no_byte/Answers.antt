use Rattle.std.proofs.Common.{Global, List, Vec, ap, length, ◌==◌, ◌≡◌, ◌∙◌, true, ℕ}
use Rattle.window_parts.proofs.Emptiness.{memory_ran_out, no_byte, not_there, outside_refused}
use Rattle.window_parts.proofs.presence.has_no_byte.Goals as goal

pub returns-in-Ok-Some-clause-none : goal.returns-in-Ok-Some-clause-none
returns-in-Ok-Some-clause-none g c = λ e.
    let full : c.is_empty.result ≡ true = cc in
    no_byte (Vec ℕ Global) (λ v. v.items) c.args.name.now (g.S.Shelf.files c.args.shelf.now) c.in-Ok-Some.field-0 c.in-Ok-Some.bytes c.is_empty.result c.in-Ok-Some.field-0-is (c.is_empty.ensures ∙ ap (λ (xs : List ℕ). length xs == 0) c.as_slice.ensures.value) full c.in-Ok-Some.ensures.gives

pub returns-in-Ok-None-clause-none : goal.returns-in-Ok-None-clause-none
returns-in-Ok-None-clause-none g c = λ e.
    not_there (Vec ℕ Global) (λ v. v.items) c.args.name.now (g.S.Shelf.files c.args.shelf.now) c.in-Ok-None.field-0 c.in-Ok-None.field-0-is c.in-Ok-None.ensures.gives

pub returns-in-Err-Failed-clause-refused : goal.returns-in-Err-Failed-clause-refused
returns-in-Err-Failed-clause-refused g c = λ w. outside_refused c.args.name.now (g.S.Shelf.files c.args.shelf.now) w

pub returns-in-Err-NoMemory-clause-refused : goal.returns-in-Err-NoMemory-clause-refused
returns-in-Err-NoMemory-clause-refused g c = λ w. memory_ran_out c.args.name.now (g.S.Shelf.files c.args.shelf.now) w
