-- What the crates above cite.

-- a row and its tree
pub use Rattle.rows.proofs.records.Trees.{kind_of, elements_in, members_in, row, in_table, row_behind, kind_read, place_read, string_row}
pub use Rattle.rows.proofs.records.Trees.{array_row, object_row, string_quoted, string_read, as_row, as_object, as_array, array_as_row, part_object, row_object}
pub use Rattle.rows.proofs.records.Trees.{same_tree, same_members, same_part}
-- the members of an object, and the elements of an array, one after the other
pub use Rattle.rows.proofs.records.Members.{MembersLeft, MemberHere, members_start, member_here, members_next, members_end, ValuesLeft}
pub use Rattle.rows.proofs.records.Members.{ValueHere, values_start, value_here, values_next, values_end, member_read}
pub use Rattle.rows.proofs.records.Members.{quotes_read}
pub use Rattle.rows.proofs.records.Elements.{ElementsLeft, elements_start, element_here, elements_next, elements_end}
-- the same by iterators
pub use Rattle.rows.proofs.children.Laws.{NamesLeft, names_start, name_here, names_next, names_end}
pub use Rattle.rows.proofs.children.Laws.{ItemsLeft, items_start, item_here, items_next, items_end}
-- what was found for a name, and for many
pub use Rattle.rows.proofs.finding.Found.{found, not_found}
pub use Rattle.rows.proofs.finding.Laws.{read_same}
pub use Rattle.rows.proofs.matching.Laws.{matched_fresh, Answers, answers_start, answers_here, answers_next}
