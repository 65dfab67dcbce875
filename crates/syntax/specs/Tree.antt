-- A value with its places, as a reader sees it.
use Rattle.std.specs.Prelude.{ℕ}
use Rattle.tokens.specs.declared.tokens.Kind.{Kind}

mutual
  pub data Node : Type 0 where
    scalar : Kind → ℕ → ℕ → Node  -- a value that holds no other: its kind, its first byte, the byte after its last
    array : ℕ → ℕ → Nodes → Node  -- first byte, byte after the last, elements
    object : ℕ → ℕ → Members → Node  -- first byte, byte after the last, members

  pub data Nodes : Type 0 where
    none : Nodes
    more : Node → Nodes → Nodes

  pub data Members : Type 0 where
    no_member : Members
    member : ℕ → ℕ → Node → Members → Members  -- the name's first byte, the byte after its last, the value

-- one element more, behind the others
abbrev pub add_node : Nodes → Node → Nodes
add_node none m = more m none
add_node (more n ns) m = more n (add_node ns m)

-- one member more, behind the others
abbrev pub add_member : Members → ℕ → ℕ → Node → Members
add_member no_member f e n = member f e n no_member
add_member (member g h m ms) f e n = member g h m (add_member ms f e n)

-- the first byte of a value
abbrev pub place_of : Node → ℕ
place_of (scalar k f e) = f
place_of (array f e ns) = f
place_of (object f e ms) = f
