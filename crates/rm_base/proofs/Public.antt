-- What this crate proves of its definitions, for the proofs of the crates above. They import nothing of its proofs but through this file.

-- Booleans.
pub use Rattle.rm_base.proofs.Bools.{and_first, and_second, bool_cases, both_and, false_from_not, neither_first}
pub use Rattle.rm_base.proofs.Bools.{neither_second, never_opposite, not_excludes, not_from_false, true_from_not}
-- Laws of files.
pub use Rattle.rm_base.proofs.FileLaws.{append_file-put_file}
-- Elements of a list.
pub use Rattle.rm_base.proofs.Members.{all_by_index, all_from_members, all_in, all_pass_in, any_in, in_any, in_append}
pub use Rattle.rm_base.proofs.Members.{in_at, in_contained, in_contains, in_filter, in_filtered, in_left, in_map}
pub use Rattle.rm_base.proofs.Members.{in_mapped, in_right, none_found, place_of_member}
-- Options and results.
pub use Rattle.rm_base.proofs.Options.{not_some, on_err, some_is, some_same}
-- What stands at a place of a list.
pub use Rattle.rm_base.proofs.Places.{all_append, all_at, all_from_places, any_at, at_any, back_stands, drop_end}
pub use Rattle.rm_base.proofs.Places.{drop_stands, first_of_drop, front_stands, last_cases, last_stands, length_set}
pub use Rattle.rm_base.proofs.Places.{list_all-parts, list_all-at, list_all-join, map_agree, map_at, map_found}
pub use Rattle.rm_base.proofs.Places.{map_last_set, map_pointwise, map_set, number_at, one_stands, only_stands}
pub use Rattle.rm_base.proofs.Places.{pushed_stands, read_stands, same-in-map, seam_stands, set_cases, set_other}
pub use Rattle.rm_base.proofs.Places.{set_same, set_there, slice_get_below, stands_below, stands_or_not, tail_same}
pub use Rattle.rm_base.proofs.Places.{take_of_longer, take_one_more, take_zero, yielded_whole}
