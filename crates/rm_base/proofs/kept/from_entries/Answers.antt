use Rattle.std.specs.Prelude.{string_bytes}
use Rattle.std.proofs.lemmas.Map.Text.{btree_map_updates_text}
use Rattle.rm_base.proofs.KeptLaws.{put_turn}
use Rattle.rm_base.proofs.kept.from_entries.Goals as goal

pub loop-name-preserved : goal.loop-name-preserved
loop-name-preserved c =
    put_turn c.loop-name.kept c.insert.new.self c.loop-name.yielded (c.in-Some.name, c.in-Some.bytes) c.loop-name.invariant
    (btree_map_updates_text (string_bytes c.in-Some.name) c.loop-name.kept c.insert.new.self _ c.in_ok-insert.ensures.updates)

pub loop-name-preserved-in_ok-insert : goal.loop-name-preserved-in_ok-insert
loop-name-preserved-in_ok-insert c =
    put_turn c.loop-name.kept c.insert.new.self c.loop-name.yielded (c.in-Some.name, c.in-Some.bytes) c.loop-name.invariant
    (btree_map_updates_text (string_bytes c.in-Some.name) c.loop-name.kept c.insert.new.self _ c.in_ok-insert.ensures.updates)
