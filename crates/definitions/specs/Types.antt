-- For private contracts: the names that definitions are made of (01, "Definitions": "after unescaping, exact case").
use Rattle.std.specs.Prelude.{ℕ, Bool, true, false, cond, ◌||◌, eqb, List, Option, Some, None}
use Rattle.std.proofs.Math.Option.{Option as MathOption, none, some}
use Rattle.model.specs.Text.{text, same}
use Rattle.model.specs.Definition.{Named, JSON as json, Schema as schema, Float as float, Integer as integer, String as string}
use Rattle.model.specs.Definition.{Boolean as boolean, DateTime as dateTime}
use Rattle.definitions.specs.declared.types.TypeName.{TypeName}
use Rattle.definitions.specs.declared.types.TypeName.TheVariants.{Json, Schema, Float, Integer, Text, Boolean, DateTime}
use Rattle.definitions.specs.declared.types.Generic.{Generic}
use Rattle.definitions.specs.declared.types.Generic.TheVariants.{Array, Map, Object}

abbrev pub type_of : Named → TypeName
type_of json = Json
type_of schema = Schema
type_of float = Float
type_of integer = Integer
type_of string = Text
type_of boolean = Boolean
type_of dateTime = DateTime

abbrev pub type_name : MathOption Named → Option TypeName
type_name none = None
type_name (some t) = Some (type_of t)

-- "an object with exactly one member, named Array, Map or Object"
unfoldable pub generic_of : List ℕ → Option Generic
generic_of n =
    cond (same n (text "Array")) (Some Array)
    (cond (same n (text "Map")) (Some Map)
    (cond (same n (text "Object")) (Some Object) None))

-- the kinds that a type takes, by their numbers: JSON every one; "Integer takes kind 4 only, Float kinds 4 and 5"
unfoldable pub takes_kind : TypeName → ℕ → Bool
takes_kind Json k = true
takes_kind Schema k = false
takes_kind Float k = eqb k 4 || eqb k 5
takes_kind Integer k = eqb k 4
takes_kind Text k = eqb k 6
takes_kind Boolean k = eqb k 2 || eqb k 3
takes_kind DateTime k = false

-- the kinds that what a string names takes; a string that names no type takes none
abbrev pub named_takes : Option TypeName → ℕ → Bool
named_takes (Some t) k = takes_kind t k
named_takes None k = false
