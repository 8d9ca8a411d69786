use Rattle.net_tests.proofs.pools.unlink_and_relink.Goals as goal

pub relink-requires : goal.relink-requires
relink-requires c = c.reserve.ensures.relinks _ _ c.unlink-slot.ensures.back
