use Rattle.std.proofs.Common.{rules, ◌≡◌, ◌<◌, ◌≤◌, ◌⊎◌, inl, inr, ◌∙◌, ap, sym, length, slice_index, drop, ◌+◌}
use Rattle.journal_binary.specs.Binary.{magic}
use Rattle.journal_reading.specs.Inner.Readers.{parts as parts_from}
use Rattle.journal_reading.proofs.Magic.{parts_end, parts_step}
use Rattle.journal_reading.proofs.reader.parts.Goals as goal

pub loop-place-preserved : goal.loop-place-preserved
loop-place-preserved c =
    let first : c.loop-place.place < 8 = search rules in
    let second : c.loop-place.place < length c.args.bytes.now = search rules in
    let same : slice_index c.args.bytes.now c.loop-place.place ≡ slice_index magic c.loop-place.place = search rules in
    sym (parts_step c.loop-place.place magic c.args.bytes.now first second same) ∙ c.loop-place.invariant

pub returns : goal.returns
returns c =
    let ended : (8 ≤ c.loop-place.place) ⊎ (length c.args.bytes.now ≤ c.loop-place.place) = search rules in
    sym (parts_end c.loop-place.place magic c.args.bytes.now ended) ∙ c.loop-place.invariant
