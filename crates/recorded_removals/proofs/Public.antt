-- What this crate proves of its definitions, for the proofs of the crates above. They import nothing of its proofs but through this file.

-- What a change leaves of gates and of observed places.
pub use Rattle.recorded_removals.proofs.Gates.{add_gates, fix_gates, new_not_gates, places_stay}
-- Going on inside a trial, step after step.
pub use Rattle.recorded_removals.proofs.GoingOn.{goes_none, goes_then, left_then, no_larger_same, no_larger_then, removals_then, tallies_none, tallies_one, tallies_then, tidying_are_removals}
