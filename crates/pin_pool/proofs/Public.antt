-- What this crate proves of its definitions, for the proofs of the crates above. They import nothing of its proofs but through this file.

-- Places in the list of a gate.
pub use Rattle.pin_pool.proofs.Fingers.{has-drop, has-there}
-- What links spell, once one is written.
pub use Rattle.pin_pool.proofs.LinkLemmas.{length-apart}
-- Lists of pins once a pin is put in or taken out.
pub use Rattle.pin_pool.proofs.ListLaws.{has-put_after}
-- What a pool keeps, call by call.
pub use Rattle.pin_pool.proofs.PoolLemmas.{has-append, has-push}
-- What comes before and after each number, once a number is put in or taken out.
pub use Rattle.pin_pool.proofs.RingLemmas.{has-without, without-absent, without-push}
-- The pool's lists as functions of the node number.
pub use Rattle.pin_pool.proofs.RingsOf.{changed-other, changed-same, has-within, same-rings}
-- What a call did is undone.
pub use Rattle.pin_pool.proofs.Undone.{back, changed-back, stands}
-- Sums of the lengths of lists, and how many pins are linked.
pub use Rattle.pin_pool.proofs.Totalled.{len-one_less, length-listed, length-put_after, length-without, linked-less, linked-more, linked-over, linked-same, no-pins-from, pins-at, pins-few, pins-more, pins-split}
