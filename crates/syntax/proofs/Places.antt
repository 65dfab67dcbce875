-- The values of a text that was read begin in the order of their rows, no two of them at one byte.
use mathlib.Core.Path.{◌≡◌}
use mathlib.Core.List.{List, [], ◌∷◌, ◌++◌, append_assoc, append-nil}
use Prim.Native.Nat.{ℕ, zero, suc, ◌+◌, ◌-◌, ◌≤◌, ◌<◌}
use native.Mathlib.Omega.{arith}
use lib.ListN.{length}
use lib.Dec.{eqb}
use Rattle.chars.specs.Bytes.{byte_at}
use Rattle.chars.proofs.Facts.{run-from}
use Rattle.tokens.specs.Parse.{Parse, refused, parsed}
use Rattle.tokens.specs.Space.{is_space, skip}
use Rattle.tokens.specs.Scalars.{first_of}
use Rattle.model.proofs.Basics.{never, both}
use Rattle.syntax.specs.Tree.{Node, scalar, array, object, Nodes, none, more, add_node, Members, no_member, member, add_member}
use Rattle.syntax.specs.Grammar.{items_from, items_at, list_at, element_at, array_at, member_at, object_at, leaf_at, value_at, read_text}
use Rattle.syntax.proofs.Items.{then_both, unexpected_both, after_ways}
use Rattle.syntax.proofs.Values.{by_ways, leaf_parsed, element_parsed, array_parsed, member_parsed, object_parsed, name_takes, value_takes}
use Rattle.syntax.proofs.Induction.{read_begins}
use Rattle.chars.specs.declared.refusals.Code.TheVariants.{TooDeep}

-- the first bytes of the values, in the order of their rows
abbrev mutual
  pub places : Node → List ℕ
  places (scalar k f e) = f ∷ []
  places (array f e ns) = f ∷ places_all ns
  places (object f e ms) = f ∷ places_members ms

  pub places_all : Nodes → List ℕ
  places_all none = []
  places_all (more n ns) = places n ++ places_all ns

  pub places_members : Members → List ℕ
  places_members no_member = []
  places_members (member f e n ms) = places n ++ places_members ms

-- they rise, from lo on and below hi
abbrev pub Rising : ℕ → List ℕ → ℕ → Type 0
Rising lo [] hi = lo ≤ hi
Rising lo (x ∷ xs) hi = (lo ≤ x) × Rising (x + 1) xs hi

rising_from : (lo m hi : ℕ) (xs : List ℕ) → lo ≤ m → Rising m xs hi → Rising lo xs hi
rising_from lo m hi [] l h = omega arith
rising_from lo m hi (x ∷ xs) l h = (omega arith, h.1)

rising_to : (lo m hi : ℕ) (xs : List ℕ) → m ≤ hi → Rising lo xs m → Rising lo xs hi
rising_to lo m hi [] l h = omega arith
rising_to lo m hi (x ∷ xs) l h = (h.0, rising_to (x + 1) m hi xs l h.1)

rising_join : (lo m hi : ℕ) (xs ys : List ℕ) → Rising lo xs m → Rising m ys hi → Rising lo (xs ++ ys) hi
rising_join lo m hi [] ys g h = rising_from lo m hi ys g h
rising_join lo m hi (x ∷ xs) ys g h = (g.0, rising_join (x + 1) m hi xs ys g.1 h)

all_add : (ns : Nodes) (n : Node) → places_all (add_node ns n) ≡ places_all ns ++ places n
all_add none n = append-nil (places n)
all_add (more m ns) n = rw (all_add ns n, append_assoc)

members_add : (ms : Members) (f e : ℕ) (n : Node) → places_members (add_member ms f e n) ≡ places_members ms ++ places n
members_add no_member f e n = append-nil (places n)
members_add (member g h m ms) f e n = rw (members_add ms f e n, append_assoc)

-- ---- lists, and what each further item keeps up to where it ends

abbrev KeptTo : {L : Type 0} → (L → ℕ → Type 0) → Parse L → Type 0
KeptTo P (refused c p) = Unit
KeptTo P (parsed all e) = P all e

space_passed : (s : List ℕ) (i : ℕ) → i ≤ skip s i
space_passed s i = omega (arith, run-from is_space s i)

module _ {L : Type 0} (closing : ℕ) (item : L → ℕ → Parse L) (s : List ℕ) (P : L → ℕ → Type 0)
    (wider : (all : L) (i j : ℕ) → i ≤ j → P all i → P all j)
    (keep : (before all : L) (i e : ℕ) → P before i → item before i ≡ parsed all e → P all e) where
  from_keeps : (k : ℕ) (before : L) (i : ℕ) → P before i → KeptTo P (items_from k closing item s before i)
  unfolding items_from
  from_keeps zero before i h = tt
  from_keeps (suc k) before i h =
      then_both (KeptTo P) (item before i) _ (λ c p q. tt)
      (λ all e q. let j = skip s e in
      let g : P all j = wider all e j (space_passed s e) (keep before all i e h q) in
      after_ways closing s all j (KeptTo P) _
      (λ _. from_keeps k all (skip s (j + 1)) (wider all j (skip s (j + 1)) (omega (arith, space_passed s (j + 1))) g))
      (λ _. wider all j (j + 1) (omega arith) g) (unexpected_both s j (KeptTo P) (λ c p _. tt)))

  list_keeps : (empty : L) (i : ℕ) → P empty (i + 1) → KeptTo P (list_at closing item s empty i)
  unfolding list_at items_at
  list_keeps empty i h =
      let j = skip s (i + 1) in
      let g : P empty j = wider empty (i + 1) j (space_passed s (i + 1)) h in
      both (KeptTo P) (eqb (byte_at s j) closing) (λ _. wider empty j (j + 1) (omega arith) g) (λ _. from_keeps (length s - j) empty j g)

-- ---- values

module _ (s : List ℕ) where
  abbrev Begin : ℕ → Node → ℕ → Type 0
  Begin i n e = Rising i (places n) e

  leaf_begins : (d i : ℕ) (n : Node) (e : ℕ) → i < e → leaf_at s i ≡ parsed n e → Begin i n e
  leaf_begins d i n e l q = let x = leaf_parsed s q in rw x.1 (omega arith, omega arith)

  module _ (v : ℕ → Parse Node) (each : (i : ℕ) (n : Node) (e : ℕ) → v i ≡ parsed n e → Begin i n e) where
    array_begins : (i : ℕ) (n : Node) (e : ℕ) → array_at v s i ≡ parsed n e → Begin i n e
    array_begins i n e q =
        let x = array_parsed v s q in
        let P : Nodes → ℕ → Type 0 = λ ns j. Rising (i + 1) (places_all ns) j in
        let k = list_keeps 0x5D (element_at v) s P (λ all a b l h. rising_to (i + 1) a b (places_all all) l h)
        (λ before all a b h w. let y = element_parsed v before w in
        rw (y.1, all_add before y.0) (rising_join (i + 1) a b (places_all before) (places y.0) h (each a y.0 b y.2))) none i (omega arith) in
        rw x.1 (omega arith, rw x.2 at k)

    object_begins : (i : ℕ) (n : Node) (e : ℕ) → object_at v s i ≡ parsed n e → Begin i n e
    object_begins i n e q =
        let x = object_parsed v s q in
        let P : Members → ℕ → Type 0 = λ ms j. Rising (i + 1) (places_members ms) j in
        let k = list_keeps 0x7D (member_at v s) s P (λ all a b l h. rising_to (i + 1) a b (places_members all) l h)
        (λ before all a b h w. let y = member_parsed v s before a w in
        let g : a ≤ skip s (y.colon + 1) = omega (arith, name_takes s before a y.name, y.place, space_passed s y.behind, space_passed s (y.colon + 1)) in
        rw (y.added, members_add before a y.behind y.node)
        (rising_join (i + 1) (skip s (y.colon + 1)) b (places_members before) (places y.node)
        (rising_to (i + 1) a (skip s (y.colon + 1)) (places_members before) g h) (each (skip s (y.colon + 1)) y.node b y.value)))
        no_member i (omega arith) in
        rw x.1 (omega arith, rw x.2 at k)

  value_begins : (d i : ℕ) (n : Node) (e : ℕ) → value_at d s i ≡ parsed n e → Begin i n e
  unfolding value_at
  value_begins zero i n e q =
      by_ways (λ x. x ≡ parsed n e → Begin i n e) (λ j. refused TooDeep j) (λ j. refused TooDeep j) s i (first_of (byte_at s i))
      (λ _ z. never (cc)) (λ _ z. never (cc)) (leaf_begins zero i n e (value_takes s zero q).0) q
  value_begins (suc d) i n e q =
      let v = value_at d s in
      by_ways (λ x. x ≡ parsed n e → Begin i n e) (array_at v s) (object_at v s) s i (first_of (byte_at s i))
      (λ _. array_begins v (value_begins d) i n e) (λ _. object_begins v (value_begins d) i n e) (leaf_begins (suc d) i n e (value_takes s (suc d) q).0) q

  pub read_rising : (bytes d : ℕ) (n : Node) (e : ℕ) → read_text bytes d s ≡ parsed n e → Rising 0 (places n) e
  read_rising bytes d n e q =
      let b = read_begins bytes d s n e q in
      rising_to 0 b.0 e (places n) (omega (arith, b.2, space_passed s b.0))
      (rising_from 0 (skip s 0) b.0 (places n) (omega arith) (value_begins d (skip s 0) n b.0 b.1.reads))
