-- What the crates above cite.

-- a schema that was read with room, and when it is accepted
pub use Rattle.definitions.proofs.accepting.Laws.{HasRead, has_read, has_rows}
pub use Rattle.definitions.proofs.accepting.Takes.{Takes, Way, accept_way, by_parse, no_room, one_tree, refused_none}
-- faults, the first byte of a definition, and definitions without their places
pub use Rattle.definitions.proofs.definitions.Faults.{fault_code, first_byte, located_first}
pub use Rattle.definitions.proofs.definitions.Meaning.{Added, added_fine, defined_plain, definition_forgets, forget, some_defined}
-- what stands under "required" and "optional"
pub use Rattle.definitions.proofs.definitions.Body.{part_rows}
-- what a definition is, by its row: a type name, or one member
pub use Rattle.definitions.proofs.shapes.Laws.{string_type, Under, generic_member, generic_named, has_generic}
-- what stands inside it
pub use Rattle.definitions.proofs.shapes.Laws.{ObjectBody, Element, Inside, inside, Within, Fielded, in_name}
pub use Rattle.definitions.proofs.shapes.Laws.{in_array, in_map, in-object, fields_found, part_less}
-- its fields, one after the other
pub use Rattle.definitions.proofs.shapes.Fields.{same_definition, same_fields, FieldsLeft, fields_none, fields_start, fields_empty}
pub use Rattle.definitions.proofs.shapes.Fields.{start_rest, behind_rest, fields_end, FieldHere, field_here}
-- its fields by the rows of its body
pub use Rattle.definitions.proofs.shapes.Objects.{as_kind, of-kind, object_fields, object_body, body_in, fields_object, fields_in_lem}
pub use Rattle.definitions.proofs.shapes.Objects.{find_required, find_optional, required_fields, optional_fields}
-- definitions that only objects meet
pub use Rattle.definitions.proofs.shapes.Laws.{objects_by, objects_in}
-- words that are spelled plainly
pub use Rattle.definitions.proofs.types.Laws.{spelled}
