-- What this crate proves of its definitions, for the proofs of the crates above. They import nothing of its proofs but through this file.

-- The words of lines without a fault of layout.
pub use Rattle.blif_reader.proofs.FitLaws.{layout_count}
pub use Rattle.blif_reader.proofs.TokenLaws.{layout_tokens}
-- The words behind a command, by their indices.
pub use Rattle.blif_reader.proofs.PartLaws.{drop_here, map_at, part_at, part_there, parts_length, take_whole}
-- The first cover without rank.
pub use Rattle.blif_reader.proofs.ModelLaws.{all_ranked, none_unranked, unranked_at}
