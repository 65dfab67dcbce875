-- "A well-formed text stands for the value that it spells" (01, "Meeting"): space, escapes and places are forgotten.
use Rattle.std.specs.Prelude.{ℕ, true, false, List}
use Rattle.model.specs.Value.{Value, null, boolean, number, string, Values, vnil, vcons, mnil, mcons, array as list, object as record_of}
use Rattle.model.specs.Value.{Members as ValueMembers}
use Rattle.chars.specs.Strings.{part}
use Rattle.tokens.specs.declared.tokens.Kind.{Kind}
use Rattle.tokens.specs.declared.tokens.Kind.TheVariants.{Null, False, True, Whole, Fractional, Quoted}
use Rattle.syntax.specs.Tree.{Node, scalar, array, object, Nodes, none, more, Members, no_member, member}
use Rattle.syntax.specs.Grammar.{name_of}

-- the value of the kind that the bytes from f up to e spell
abbrev pub scalar_of : List ℕ → Kind → ℕ → ℕ → Value
scalar_of s Null f e = null
scalar_of s False f e = boolean false
scalar_of s True f e = boolean true
scalar_of s Whole f e = number (part s f e)
scalar_of s Fractional f e = number (part s f e)
scalar_of s Quoted f e = string (name_of s f e)

abbrev mutual
  pub value_of : List ℕ → Node → Value
  value_of s (scalar k f e) = scalar_of s k f e
  value_of s (array f e ns) = list (values_of s ns)
  value_of s (object f e ms) = record_of (members_of s ms)

  pub values_of : List ℕ → Nodes → Values
  values_of s none = vnil
  values_of s (more n ns) = vcons (value_of s n) (values_of s ns)

  pub members_of : List ℕ → Members → ValueMembers
  members_of s no_member = mnil
  members_of s (member f e n ms) = mcons (name_of s f e) (value_of s n) (members_of s ms)
