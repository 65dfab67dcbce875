-- What the crates above cite.

-- marks, the entries and the rows that they stand for
pub use Rattle.marks.proofs.marks.Laws.{leaf_entry, leaf_unnamed, list_entry, list_unnamed, name_entry, name_named, name_numbers}
pub use Rattle.marks.proofs.marks.Laws.{nothing_unnamed, entries_none, entries_cons, entries_append}
pub use Rattle.marks.proofs.filling.Trees.{tree_words, tree_fills}
-- the index of names
pub use Rattle.marks.proofs.names.Index.{bucket_in_lem, index_fresh, index_head, index_plain}
-- to which object the names among the marks belong
pub use Rattle.marks.proofs.names.Owners.{same_below, fresh_later, fresh_set, kept_add, kept_kept, kept_within, within_empty}
pub use Rattle.marks.proofs.names.Owners.{within_none, within_join, within_wider, within_kept, within_set}
