use Rattle.std.proofs.Common.{◌++◌, ℕ, List, sym, ap, ◌∙◌, Err, Some, refl, arith}
use Rattle.std.proofs.lemmas.Result.{err_from_is_err_and}
use Rattle.std.specs.Option.{option_map}
use Rattle.journal_convert.proofs.Faulty.{end_failed, end_missing, first, is_there, is_whole, no_piece, piece_fault, pushed, read_before, read_more, whole_fault, whole_read, within}
use Rattle.journal_convert.proofs.converting.read_file.Goals as goal

pub loop-kept-init : goal.loop-kept-init
loop-kept-init g c = (first c.cuts_agree.ensures (g.S.Shelf.files c.args.shelf.now) c.args.from.now c.new-pieces.result c.new.result.items c.new-reader.result c.new-pieces.ensures c.new.ensures.items c.new-reader.ensures, refl, omega arith)

pub loop-kept-preserved : goal.loop-kept-preserved
loop-kept-preserved g c =
    let at = c.loop-kept.invariant in
    let files = g.S.Shelf.files c.args.shelf.now in
    let told = g.S.Shelf.files c.loop-kept.shelf in
    let name = c.args.from.now in
    let text = at.0.text in
    let more = c.as_slice.result.now in
    let some = ap (λ o. option_map (λ v. v.items) o) c.in-Some.is ∙ ap (λ (xs : List ℕ). Some xs) (sym c.as_slice.ensures.value) in
    let read = read_more files told name text more c.next.new.self _ at.1 some (c.in_ok-piece.ensures.comes text (read_before files told name text c.loop-kept.pieces at.1 at.0.so_far)) in
    let says =
    c.in_ok-keep_lines.ensures (text ++ more) (pushed c.cuts_agree.ensures text more c.loop-kept.kept.budget c.loop-kept.kept.records.items c.loop-kept.reader c.push.new.self at.0.read c.in_ok-push.ensures.ok)
    (within files name (text ++ more) c.next.new.self c.in_ok-piece.ensures.most read) in
    (record { text = text ++ more; so_far = read; short = c.in_ok-piece.ensures.most; read = says.0; none = says.1 }, c.in_ok-piece.ensures.files ∙ at.1, omega (arith, at.2, c.in_ok-piece.ensures.later))

pub returns-in_err-piece-clause-problem : goal.returns-in_err-piece-clause-problem
returns-in_err-piece-clause-problem g c =
    let at = c.loop-kept.invariant in
    let files = g.S.Shelf.files c.args.shelf.now in
    let told = g.S.Shelf.files c.loop-kept.shelf in
    let p = err_from_is_err_and c.from_residual.result c.from_residual.ensures.1 in
    rw (p.1, p.2) (no_piece files told c.args.from.now at.0.text c.in_err-piece.field-0.0 at.1 (c.in_err-piece.ensures.stops at.0.text (read_before files told c.args.from.now at.0.text c.loop-kept.pieces at.1 at.0.so_far)))

pub returns-in_err-keep_lines-clause-problem : goal.returns-in_err-keep_lines-clause-problem
returns-in_err-keep_lines-clause-problem g c =
    let at = c.loop-kept.invariant in
    let files = g.S.Shelf.files c.args.shelf.now in
    let told = g.S.Shelf.files c.loop-kept.shelf in
    let name = c.args.from.now in
    let text = at.0.text in
    let more = c.as_slice.result.now in
    let some = ap (λ o. option_map (λ v. v.items) o) c.in-Some.is ∙ ap (λ (xs : List ℕ). Some xs) (sym c.as_slice.ensures.value) in
    let read = read_more files told name text more c.next.new.self _ at.1 some (c.in_ok-piece.ensures.comes text (read_before files told name text c.loop-kept.pieces at.1 at.0.so_far)) in
    let says =
    c.in_err-keep_lines.ensures (text ++ more) (pushed c.cuts_agree.ensures text more c.loop-kept.kept.budget c.loop-kept.kept.records.items c.loop-kept.reader c.push.new.self at.0.read c.in_ok-push.ensures.ok)
    (within files name (text ++ more) c.next.new.self c.in_ok-piece.ensures.most read) in
    let p = err_from_is_err_and c.from_residual-in_err-keep_lines.result c.from_residual-in_err-keep_lines.ensures.1 in
    rw (p.1, p.2) (piece_fault files name (text ++ more) c.next.new.self c.in_err-keep_lines.field-0.0 read (is_there files told name at.1 c.in_ok-piece.ensures.there) says)

pub returns-in_err-last-clause-problem : goal.returns-in_err-last-clause-problem
returns-in_err-last-clause-problem g c =
    let at = c.loop-kept.invariant in
    let files = g.S.Shelf.files c.args.shelf.now in
    let told = g.S.Shelf.files c.loop-kept.shelf in
    let name = c.args.from.now in
    let text = at.0.text in
    let none = ap (λ o. option_map (λ v. v.items) o) c.in_default.is in
    let whole = is_whole files told name text c.next.new.self _ at.1 none (c.in_ok-piece.ensures.comes text (read_before files told name text c.loop-kept.pieces at.1 at.0.so_far)) in
    let says = c.in_err-last.ensures text c.loop-kept.kept.budget c.loop-kept.kept.records.items at.0.read (within files name text c.loop-kept.pieces at.0.short at.0.so_far) in
    let p = err_from_is_err_and c.from_residual-in_err-last.result c.from_residual-in_err-last.ensures.1 in
    rw (p.1, p.2) (whole_fault files name text c.loop-kept.kept.budget c.loop-kept.kept.records.items c.in_err-last.field-0.0 whole says)

pub returns-in_err-last-clause-missing : goal.returns-in_err-last-clause-missing
returns-in_err-last-clause-missing g c = λ missing.
    let at = c.loop-kept.invariant in
    let says = c.in_err-last.ensures at.0.text c.loop-kept.kept.budget c.loop-kept.kept.records.items at.0.read (within (g.S.Shelf.files c.args.shelf.now) c.args.from.now at.0.text c.loop-kept.pieces at.0.short at.0.so_far) in
    let p = err_from_is_err_and c.from_residual-in_err-last.result c.from_residual-in_err-last.ensures.1 in
    absurd (end_missing at.0.text c.loop-kept.kept.budget c.loop-kept.kept.records.items c.in_err-last.field-0.0 c.from_residual-in_err-last.result says (p.1 ∙ ap (λ e. Err e) p.2) missing)

pub returns-in_err-last-clause-fault : goal.returns-in_err-last-clause-fault
returns-in_err-last-clause-fault g c = λ failed.
    let at = c.loop-kept.invariant in
    let says = c.in_err-last.ensures at.0.text c.loop-kept.kept.budget c.loop-kept.kept.records.items at.0.read (within (g.S.Shelf.files c.args.shelf.now) c.args.from.now at.0.text c.loop-kept.pieces at.0.short at.0.so_far) in
    let p = err_from_is_err_and c.from_residual-in_err-last.result c.from_residual-in_err-last.ensures.1 in
    absurd (end_failed at.0.text c.loop-kept.kept.budget c.loop-kept.kept.records.items c.in_err-last.field-0.0 c.from_residual-in_err-last.result says (p.1 ∙ ap (λ e. Err e) p.2) failed)

pub returns-clause-read : goal.returns-clause-read
returns-clause-read g c =
    let at = c.loop-kept.invariant in
    let files = g.S.Shelf.files c.args.shelf.now in
    let told = g.S.Shelf.files c.loop-kept.shelf in
    let name = c.args.from.now in
    let text = at.0.text in
    let none = ap (λ o. option_map (λ v. v.items) o) c.in_default.is in
    let whole = is_whole files told name text c.next.new.self _ at.1 none (c.in_ok-piece.ensures.comes text (read_before files told name text c.loop-kept.pieces at.1 at.0.so_far)) in
    let says = c.in_ok-last.ensures text c.loop-kept.kept.budget c.loop-kept.kept.records.items at.0.read (within files name text c.loop-kept.pieces at.0.short at.0.so_far) in
    whole_read files name text c.loop-kept.kept.budget c.loop-kept.kept.records.items whole says
