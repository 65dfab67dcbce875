-- What the crates above cite.

-- items with commas between, up to a closing byte
pub use Rattle.syntax.proofs.Items.{Reads, byte_in, unexpected_both, list_empty, list_items, item_takes, items_refused, items_next}
pub use Rattle.syntax.proofs.Items.{items_close, items_bad}
-- values, names and members: which way each goes, and what it takes of the text
pub use Rattle.syntax.proofs.Values.{first_leaf, first_opens, opens_object, element_reads, member_reads, value_leaf, value_array}
pub use Rattle.syntax.proofs.Values.{value_object, value_deep_array, value_deep_object, value_takes, leaf_parsed, name_bare}
pub use Rattle.syntax.proofs.Values.{name_stopped, name_again, name_new, name_parsed, name_takes, name_within, member_bare}
pub use Rattle.syntax.proofs.Values.{member_value, member_parsed}
-- a rule for whatever is read
pub use Rattle.syntax.proofs.Induction.{Rule, read_begins, value_rule}
-- rows: how many, which entries, which words, and the tree that they hold
pub use Rattle.syntax.proofs.Sizes.{size_pos, count_few, count_members_few, count_add, count_members_add, sizes_add, sizes_members_add}
pub use Rattle.syntax.proofs.Sizes.{entries_all_add, entries_members_add}
pub use Rattle.syntax.proofs.rows.Each.{Each, each, each_left, each_right, each_join, each_at}
pub use Rattle.syntax.proofs.rows.Laws.{entries_length, parents_length, no_entry, laid_length, laid_word, stored}
pub use Rattle.syntax.proofs.Holding.{holds_same, kind_same, kind_small}
-- how deep a tree is
pub use Rattle.syntax.proofs.Depth.{Shallow, ShallowAll, ShallowMembers, read_shallow}
-- in which order values begin
pub use Rattle.syntax.proofs.Places.{places, places_all, places_members, Rising, read_rising}
