-- For "L1's document must keep to the limit" (02, L7): the longest name of a value as it is spelled, and of a text as it stands there, in bytes between its quotes.
use Rattle.std.specs.Prelude.{ℕ, ◌-◌, max, length}
use Rattle.model.specs.Value.{Value, null, boolean, number, string, Values, vnil, vcons, mnil, mcons, array as list, object as record_of}
use Rattle.model.specs.Value.{Members as ValueMembers}
use Rattle.syntax.specs.Tree.{Node, scalar, array, object, Nodes, none, more, Members, no_member, member}
use Rattle.writer.specs.Spell.{spell_chars}

-- of a value
abbrev mutual
  pub longest_name : Value → ℕ
  longest_name null = 0
  longest_name (boolean b) = 0
  longest_name (number s) = 0
  longest_name (string s) = 0
  longest_name (list vs) = longest_of_all vs
  longest_name (record_of ms) = longest_of_members ms

  pub longest_of_all : Values → ℕ
  longest_of_all vnil = 0
  longest_of_all (vcons v vs) = max (longest_name v) (longest_of_all vs)

  pub longest_of_members : ValueMembers → ℕ
  longest_of_members mnil = 0
  longest_of_members (mcons n v ms) = max (length (spell_chars n)) (max (longest_name v) (longest_of_members ms))

-- of a text, by its tree
abbrev mutual
  pub longest_read : Node → ℕ
  longest_read (scalar k f e) = 0
  longest_read (array f e ns) = longest_read_in ns
  longest_read (object f e ms) = longest_read_under ms

  pub longest_read_in : Nodes → ℕ
  longest_read_in none = 0
  longest_read_in (more n ns) = max (longest_read n) (longest_read_in ns)

  pub longest_read_under : Members → ℕ
  longest_read_under no_member = 0
  longest_read_under (member f e n ms) = max (e - f - 2) (max (longest_read n) (longest_read_under ms))
