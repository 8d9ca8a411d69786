-- What this crate proves of its definitions, for the proofs of the crates above. They import nothing of its proofs but through this file.

-- Nodes that are listed for a net, and those of two lists.
pub use Rattle.changed_nodes.proofs.Noting.{same_back, same_listed, same_through, unlisted_append}
-- Tidying makes no node.
pub use Rattle.changed_nodes.proofs.Noting.{tidying_no_not}
