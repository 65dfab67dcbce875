-- A rule for whatever is read, and the ways of a whole text.
use mathlib.Core.Path.{◌≡◌}
use mathlib.Core.List.{List}
use mathlib.Core.Bool.{false}
use Prim.Native.Nat.{ℕ, zero, suc, ◌≤◌, ◌<◌}
use native.Mathlib.Omega.{arith}
use lib.ListN.{length}
use lib.Dec.{ltb}
use borrow.Author.Tests.{ltb-true, ltb-false}
use Rattle.chars.specs.Bytes.{byte_at}
use Rattle.tokens.specs.Parse.{Parse, refused, parsed}
use Rattle.tokens.specs.Space.{skip}
use Rattle.tokens.specs.declared.tokens.Kind.{Kind}
use Rattle.tokens.specs.Scalars.{first_of, scalar_at}
use Rattle.tokens.specs.Spelling.{IsQuoted}
use Rattle.tokens.specs.declared.scalars.First.{First}
use Rattle.model.proofs.Basics.{never, both}
use Rattle.syntax.specs.Tree.{Node, scalar, array, object, Nodes, none, add_node, Members, no_member, add_member}
use Rattle.syntax.specs.Grammar.{element_at, array_at, name_of, repeated, member_at, object_at, leaf_at, value_by, value_at, alone, read_text}
use Rattle.syntax.proofs.Items.{then_both, list_keep}
use Rattle.syntax.proofs.Values.{by_ways, leaf_parsed, element_parsed, array_parsed, member_parsed, name_parsed, object_parsed, value_takes}
use Rattle.chars.specs.declared.refusals.Code.{Code}
use Rattle.chars.specs.declared.refusals.Code.TheVariants.{TooLong, NotAllowed, TooDeep}

-- ---- values

-- properties of trees, of elements and of members that each step of reading keeps
pub record Rule (s : List ℕ) (P : Node → Type 0) (Q : Nodes → Type 0) (R : Members → Type 0) : Type 0 where
  pub leaf : (k : Kind) (i e : ℕ) → i < e → e ≤ length s → scalar_at s i ≡ parsed k e → P (scalar k i e)
  pub elements : (i e : ℕ) (ns : Nodes) → i < e → e ≤ length s → Q ns → P (array i e ns)
  pub members : (i e : ℕ) (ms : Members) → i < e → e ≤ length s → R ms → P (object i e ms)
  pub no_element : Q none
  pub one_element : (ns : Nodes) (n : Node) → Q ns → P n → Q (add_node ns n)
  pub no_name : R no_member
  pub one_member : (ms : Members) (f e : ℕ) (n : Node) → IsQuoted s f e → repeated s ms (name_of s f e) ≡ false → R ms → P n → R (add_member ms f e n)

module _ {s : List ℕ} {P : Node → Type 0} {Q : Nodes → Type 0} {R : Members → Type 0} (r : Rule s P Q R) where
  -- what is read at i, with what it takes of the text
  abbrev Obeys : (ℕ → Parse Node) → ℕ → Type 0
  Obeys v i = (n : Node) (e : ℕ) → i < e → e ≤ length s → v i ≡ parsed n e → P n

  leaf_obeys : (i : ℕ) → Obeys (leaf_at s) i
  leaf_obeys i n e l h q = let x = leaf_parsed s q in rw x.1 (r.leaf x.0 i e l h x.2)

  by_obeys : (a o : ℕ → Parse Node) (i : ℕ) → Obeys a i → Obeys o i → (f : First) → Obeys (value_by f a o s) i
  by_obeys a o i g h f n e l m = by_ways (λ x. x ≡ parsed n e → P n) a o s i f (λ _. g n e l m) (λ _. h n e l m) (leaf_obeys i n e l m)

  deep_obeys : (i : ℕ) → Obeys (λ j. refused TooDeep j) i
  deep_obeys i n e l h q = never (cc)

  module _ (v : ℕ → Parse Node) (each : (i : ℕ) (n : Node) (e : ℕ) → v i ≡ parsed n e → P n) where
    one_more : (before all : Nodes) (i e : ℕ) → Q before → element_at v before i ≡ parsed all e → Q all
    one_more before all i e g q =
        let x = element_parsed v before q in rw x.1 (r.one_element before x.0 g (each i x.0 e x.2))

    array_obeys : (i : ℕ) → Obeys (array_at v s) i
    array_obeys i n e l h q =
        let x = array_parsed v s q in
        rw x.1 (r.elements i e x.0 l h (list_keep 0x5D (element_at v) s Q one_more none i r.no_element x.0 e x.2))

    member_more : (before all : Members) (i e : ℕ) → R before → member_at v s before i ≡ parsed all e → R all
    member_more before all i e g q =
        let x = member_parsed v s before i q in
        let y = name_parsed s before i x.name in
        rw x.added (r.one_member before i x.behind x.node (record { opens = y.0; ends = y.1 }) y.2 g (each _ x.node e x.value))

    object_obeys : (i : ℕ) → Obeys (object_at v s) i
    object_obeys i n e l h q =
        let x = object_parsed v s q in
        rw x.1 (r.members i e x.0 l h (list_keep 0x7D (member_at v s) s R member_more no_member i r.no_name x.0 e x.2))

  -- whatever is read has the property
  pub value_rule : (d i : ℕ) (n : Node) (e : ℕ) → value_at d s i ≡ parsed n e → P n
  unfolding value_at
  value_rule zero i n e q =
      let t = value_takes s zero q in
      by_obeys (λ j. refused TooDeep j) (λ j. refused TooDeep j) i (deep_obeys i) (deep_obeys i) (first_of (byte_at s i)) n e t.0 t.1 q
  value_rule (suc d) i n e q =
      let v = value_at d s in
      let t = value_takes s (suc d) q in
      by_obeys (array_at v s) (object_at v s) i (array_obeys v (value_rule d) i) (object_obeys v (value_rule d) i) (first_of (byte_at s i)) n e t.0 t.1 q

-- ---- texts

-- a text that is not too long begins with a value that ends before e
pub record Begins (bytes depth : ℕ) (s : List ℕ) (n : Node) (e : ℕ) : Type 0 where
  pub short : length s ≤ bytes
  pub reads : value_at depth s (skip s 0) ≡ parsed n e

module _ (bytes depth : ℕ) (s : List ℕ) where
  -- the four ways of a text: too long; a value refused; something behind the value; a value alone
  pub read_ways : (P : Parse Node → Type 0)
      → (bytes < length s → P (refused TooLong bytes))
      → ((c : Code) (p : ℕ) → value_at depth s (skip s 0) ≡ refused c p → P (refused c p))
      → ((n : Node) (e : ℕ) → Begins bytes depth s n e → skip s e < length s → P (refused NotAllowed (skip s e)))
      → ((n : Node) (e : ℕ) → Begins bytes depth s n e → length s ≤ skip s e → P (parsed n (skip s e)))
      → P (read_text bytes depth s)
  unfolding read_text alone
  read_ways P long broken followed whole =
      both P (ltb bytes (length s)) (λ t. long (ltb-true _ _ t))
      (λ u. then_both P (value_at depth s (skip s 0)) _ broken
      (λ n e q. let b : Begins bytes depth s n e = record { short = ltb-false _ _ u; reads = q } in
      both P (ltb (skip s e) (length s)) (λ t. followed n e b (ltb-true _ _ t)) (λ t. whole n e b (ltb-false _ _ t))))

  -- a text that was read
  pub read_begins : (n : Node) (e : ℕ) → read_text bytes depth s ≡ parsed n e → (f : ℕ) × Begins bytes depth s n f × (e ≡ skip s f) × (length s ≤ e)
  read_begins n e =
      read_ways (λ o. o ≡ parsed n e → (f : ℕ) × Begins bytes depth s n f × (e ≡ skip s f) × (length s ≤ e))
      (λ _ q. never (cc))
      (λ c p _ q. never (cc))
      (λ m f _ _ q. never (cc))
      (λ m f b l q. let x : m ≡ n = cc in let y : e ≡ skip s f = cc in (f, rw (← x) b, y, omega arith))
