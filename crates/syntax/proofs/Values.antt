-- Values: which way each goes, what was read where one stands, and what it takes of the text.
use mathlib.Core.Path.{◌≡◌, refl, ap, ◌∙◌}
use mathlib.Core.List.{List, [], ◌∷◌}
use mathlib.Core.Logic.{◌⊎◌, inl, inr}
use mathlib.Core.Bool.{true, false}
use Prim.Native.Nat.{ℕ, zero, suc, ◌+◌, ◌*◌, ◌-◌, ◌≤◌, ◌<◌}
use native.Mathlib.Omega.{arith}
use lib.ListN.{length, get_or-eq_default}
use lib.Dec.{eqb}
use types.Run.{OneOf, miss}
use denote.Enum.Declared.{tag_of}
use borrow.Author.Tests.{eqb-true, ne_eqb}
use Rattle.chars.specs.Bytes.{byte_at}
use Rattle.tokens.specs.Parse.{Parse, refused, parsed, then, unexpected}
use Rattle.tokens.specs.Space.{is_space, skip}
use Rattle.chars.specs.Strings.{string_at}
use Rattle.tokens.specs.declared.tokens.Kind.{Kind}
use Rattle.tokens.specs.declared.tokens.Kind.TheVariants.{Quoted}
use Rattle.tokens.specs.Scalars.{first_of, quoted, scalar_at}
use Rattle.std.specs.Prelude.{Ok, Err}
use Rattle.chars.specs.Refusals.{Reading}
use Rattle.chars.specs.declared.refusals.Refusal.{Refusal}
use Rattle.tokens.specs.declared.scalars.First.{First}
use Rattle.tokens.specs.declared.scalars.First.TheVariants.{Array, Object, Quote, Number, LetterN, LetterF, LetterT, Other}
use Rattle.tokens.specs.contracts.scalars.First.{the_type}
use Rattle.model.proofs.Basics.{never, both}
use Rattle.chars.proofs.Facts.{run-from, ScanAhead, string_ahead}
use Rattle.tokens.proofs.Facts.{first_array, first_object, scalar_bounded, scalar_end, Bounded, unexpected_bounded, unexpected_end}
use Rattle.syntax.specs.Tree.{Node, scalar, array, object, Nodes, none, add_node, Members, no_member, add_member}
use Rattle.syntax.specs.Rows.{size, sizes, sizes_members}
use Rattle.syntax.specs.Grammar.{list_at, element_at, array_at, name_of, repeated, name_at, after_name, member_at, object_at, leaf_at, value_by, value_at}
use Rattle.syntax.proofs.Items.{then_both, then_parsed, IsRefusal, unexpected_both, unexpected_no, Adds, Reads, ListWithin, list_within, byte_in}
use Rattle.syntax.proofs.Sizes.{size_pos, sizes_add, sizes_members_add}
use Rattle.chars.specs.declared.refusals.Code.TheVariants.{Ended, NameTwice, TooDeep}

-- ---- which way a value goes

-- what an opening byte begins, with d more brackets allowed
abbrev opening : ((ℕ → Parse Node) → List ℕ → ℕ → Parse Node) → ℕ → List ℕ → ℕ → Parse Node
opening at zero s j = refused TooDeep j
opening at (suc d) s j = at (value_at d s) s j

-- the three ways: an array, an object, and what holds no other value
module _ (P : Parse Node → Type 0) (a o : ℕ → Parse Node) (s : List ℕ) (i : ℕ) where
  pub by_ways : (f : First) → (f ≡ Array → P (a i)) → (f ≡ Object → P (o i)) → P (leaf_at s i) → P (value_by f a o s i)
  by_ways Array g h l = g refl
  by_ways Object g h l = h refl
  by_ways Quote g h l = l
  by_ways Number g h l = l
  by_ways LetterN g h l = l
  by_ways LetterF g h l = l
  by_ways LetterT g h l = l
  by_ways Other g h l = l

module _ (d : ℕ) (s : List ℕ) (i : ℕ) where
  value-by : value_at d s i ≡ value_by (first_of (byte_at s i)) (opening array_at d s) (opening object_at d s) s i
  unfolding value_at
  value-by = go d
    where
      go : (d : ℕ) → value_at d s i ≡ value_by (first_of (byte_at s i)) (opening array_at d s) (opening object_at d s) s i
      go zero = refl
      go (suc d) = refl

  opened : (at : (ℕ → Parse Node) → List ℕ → ℕ → Parse Node) → (d ≡ 0 → ⊥) → opening at d s i ≡ at (value_at (d - 1) s) s i
  opened at z = let e : d ≡ suc (d - 1) = omega arith in ap (λ (k : ℕ). opening at k s i) e

  module _ (f : first_of (byte_at s i) ≡ Array) where
    pub value_deep_array : d ≡ 0 → value_at d s i ≡ refused TooDeep i
    value_deep_array z = value-by ∙ rw (f, z)

    pub value_array : (d ≡ 0 → ⊥) → value_at d s i ≡ array_at (value_at (d - 1) s) s i
    value_array z = value-by ∙ rw f (opened array_at z)

  module _ (f : first_of (byte_at s i) ≡ Object) where
    pub value_deep_object : d ≡ 0 → value_at d s i ≡ refused TooDeep i
    value_deep_object z = value-by ∙ rw (f, z)

    pub value_object : (d ≡ 0 → ⊥) → value_at d s i ≡ object_at (value_at (d - 1) s) s i
    value_object z = value-by ∙ rw f (opened object_at z)

  pub value_leaf : (first_of (byte_at s i) ≡ Array → ⊥) → (first_of (byte_at s i) ≡ Object → ⊥) → value_at d s i ≡ leaf_at s i
  value_leaf n m = value-by ∙ by_ways (λ o. o ≡ leaf_at s i) _ _ s i (first_of (byte_at s i)) (λ q. absurd (n q)) (λ q. absurd (m q)) refl

-- by its tag it opens an array or an object
pub first_opens : (f : First) → OneOf (0 ∷ 1 ∷ []) (tag_of the_type f) → (f ≡ Array) ⊎ (f ≡ Object)
first_opens Array h = inl refl
first_opens Object h = inr refl
first_opens Quote h = absurd (miss (0 ∷ 1 ∷ []) 2 tt h)
first_opens Number h = absurd (miss (0 ∷ 1 ∷ []) 3 tt h)
first_opens LetterN h = absurd (miss (0 ∷ 1 ∷ []) 4 tt h)
first_opens LetterF h = absurd (miss (0 ∷ 1 ∷ []) 5 tt h)
first_opens LetterT h = absurd (miss (0 ∷ 1 ∷ []) 6 tt h)
first_opens Other h = absurd (miss (0 ∷ 1 ∷ []) 7 tt h)

-- of the two, what is no array is an object
pub opens_object : (f : First) → OneOf (0 ∷ 1 ∷ []) (tag_of the_type f) → OneOf (1 ∷ 2 ∷ 3 ∷ 4 ∷ 5 ∷ 6 ∷ 7 ∷ []) (tag_of the_type f) → f ≡ Object
opens_object f h k =
    elim (first_opens f h) [ inl q ↦ absurd (miss (1 ∷ 2 ∷ 3 ∷ 4 ∷ 5 ∷ 6 ∷ 7 ∷ []) 0 tt (rw q at k)) | inr q ↦ q ]

-- what begins neither an array nor an object
pub first_leaf : (f : First) → OneOf (2 ∷ 3 ∷ 4 ∷ 5 ∷ 6 ∷ 7 ∷ []) (tag_of the_type f) → (f ≡ Array → ⊥) × (f ≡ Object → ⊥)
first_leaf f h =
    (λ q. miss (2 ∷ 3 ∷ 4 ∷ 5 ∷ 6 ∷ 7 ∷ []) 0 tt (rw q at h), λ q. miss (2 ∷ 3 ∷ 4 ∷ 5 ∷ 6 ∷ 7 ∷ []) 1 tt (rw q at h))

-- ---- which way a name and a member go

module _ (s : List ℕ) (before : Members) (i : ℕ) where
  pub name_bare : (byte_at s i ≡ 0x22 → ⊥) → name_at s before i ≡ unexpected s i
  unfolding name_at
  name_bare n = rw (ne_eqb (byte_at s i) 0x22 n)

  module _ (b : byte_at s i ≡ 0x22) where
    pub name_stopped : {r : Refusal} → string_at s (i + 1) ≡ Err r → name_at s before i ≡ refused r.code r.place
    unfolding name_at
    name_stopped q = rw (b, q)

    module _ {e : ℕ} (q : string_at s (i + 1) ≡ Ok e) where
      pub name_again : repeated s before (name_of s i e) ≡ true → name_at s before i ≡ refused NameTwice (e - 1)
      unfolding name_at
      name_again t = rw (b, q, t)

      pub name_new : repeated s before (name_of s i e) ≡ false → name_at s before i ≡ parsed Quoted e
      unfolding name_at
      name_new t = rw (b, q, t)

module _ (v : ℕ → Parse Node) (s : List ℕ) (before : Members) (i : ℕ) where
  module _ {k : Kind} {e j : ℕ} (q : name_at s before i ≡ parsed k e) (z : j ≡ skip s e) where
    pub member_bare : (byte_at s j ≡ 0x3A → ⊥) → member_at v s before i ≡ unexpected s j
    unfolding after_name
    member_bare n = rw (q, ← z, ne_eqb (byte_at s j) 0x3A n)

    pub member_value : byte_at s j ≡ 0x3A → member_at v s before i ≡ then (v (skip s (j + 1))) (λ n p. parsed (add_member before i e n) p)
    unfolding after_name
    member_value b = rw (q, ← z, b)

-- ---- what was read where something stands

-- what is made of a thing read ends where the thing ends
pub made_parsed : {A B : Type 0} (o : Parse A) (make : A → ℕ → B) (b : B) (e : ℕ) → then o (λ a f. parsed (make a f) f) ≡ parsed b e
    → (a : A) × (b ≡ make a e) × (o ≡ parsed a e)
made_parsed (refused c p) make b e q = never (cc)
made_parsed (parsed a f) make b e q = let z : f ≡ e = cc in (a, cc, ap (parsed a) z)

pub leaf_parsed : (s : List ℕ) {i e : ℕ} {n : Node} → leaf_at s i ≡ parsed n e → (k : Kind) × (n ≡ scalar k i e) × (scalar_at s i ≡ parsed k e)
leaf_parsed s {i} {e} {n} q = made_parsed (scalar_at s i) (λ k f. scalar k i f) n e q

quoted_parsed : (x : Reading ℕ) (k : Kind) (e : ℕ) → quoted x ≡ parsed k e → (x ≡ Ok e) × (k ≡ Quoted)
quoted_parsed (Ok f) k e q = let z : f ≡ e = cc in (ap Ok z, cc)
quoted_parsed (Err r) k e q = never (cc)

-- a name that none before has, from its opening quote at i up to e
abbrev pub Named : List ℕ → Members → ℕ → Kind → ℕ → Type 0
Named s before i k e = (byte_at s i ≡ 0x22) × (string_at s (i + 1) ≡ Ok e) × (repeated s before (name_of s i e) ≡ false) × (k ≡ Quoted)

pub name_parsed : (s : List ℕ) (before : Members) (i : ℕ) {k : Kind} {e : ℕ} → name_at s before i ≡ parsed k e → Named s before i k e
unfolding name_at
name_parsed s before i {k} {e} =
    both (λ o. o ≡ parsed k e → Named s before i k e) (eqb (byte_at s i) 0x22)
    (λ t q. let r = then_parsed (quoted (string_at s (i + 1))) _ k e q in
    let x = quoted_parsed (string_at s (i + 1)) r.0 r.1 r.2 in
    both (λ o. o ≡ parsed k e → Named s before i k e) (repeated s before (name_of s i r.1)) (λ _ z. never (cc))
    (λ u z. let y : r.1 ≡ e = cc in (eqb-true _ _ t, x.0 ∙ ap Ok y, rw (← y) u, cc))
    r.3)
    (λ _ q. absurd (unexpected_no s i k e q))

-- a member that was read: its name from i up to `behind`, a colon, its value
pub record MemberRead (v : ℕ → Parse Node) (s : List ℕ) (before all : Members) (i e : ℕ) : Type 0 where
  pub behind : ℕ
  pub colon : ℕ
  pub node : Node
  pub name : name_at s before i ≡ parsed Quoted behind
  pub place : colon ≡ skip s behind
  pub sign : byte_at s colon ≡ 0x3A
  pub value : v (skip s (colon + 1)) ≡ parsed node e
  pub added : all ≡ add_member before i behind node

module _ (v : ℕ → Parse Node) where
  pub element_parsed : (before : Nodes) {all : Nodes} {i e : ℕ} → element_at v before i ≡ parsed all e
      → (n : Node) × (all ≡ add_node before n) × (v i ≡ parsed n e)
  element_parsed before {all} {i} {e} q = made_parsed (v i) (λ n f. add_node before n) all e q

  module _ (s : List ℕ) where
    pub array_parsed : {i e : ℕ} {n : Node} → array_at v s i ≡ parsed n e
        → (ns : Nodes) × (n ≡ array i e ns) × (list_at 0x5D (element_at v) s none i ≡ parsed ns e)
    array_parsed {i} {e} {n} q = made_parsed (list_at 0x5D (element_at v) s none i) (λ ns f. array i f ns) n e q

    pub object_parsed : {i e : ℕ} {n : Node} → object_at v s i ≡ parsed n e
        → (ms : Members) × (n ≡ object i e ms) × (list_at 0x7D (member_at v s) s no_member i ≡ parsed ms e)
    object_parsed {i} {e} {n} q = made_parsed (list_at 0x7D (member_at v s) s no_member i) (λ ms f. object i f ms) n e q

    pub member_parsed : (before : Members) (i : ℕ) {all : Members} {e : ℕ} → member_at v s before i ≡ parsed all e → MemberRead v s before all i e
    unfolding after_name
    member_parsed before i {all} {e} q =
        let r = then_parsed (name_at s before i) _ all e q in
        let f = r.1 in
        let j = skip s f in
        both (λ o. o ≡ parsed all e → MemberRead v s before all i e) (eqb (byte_at s j) 0x3A)
        (λ t z. let x = made_parsed (v (skip s (j + 1))) (λ n p. add_member before i f n) all e z in
        record {
          behind = f;
          colon = j;
          node = x.0;
          name = r.2 ∙ ap (λ (k : Kind). parsed k f) (name_parsed s before i r.2).3;
          place = refl;
          sign = eqb-true _ _ t;
          value = x.2;
          added = x.1;
        })
        (λ _ z. absurd (unexpected_no s j all e z))
        r.3

-- ---- what is taken of the text

-- with the byte behind it, a value has two bytes for each of its rows
abbrev pub ValueWithin : List ℕ → ℕ → Parse Node → Type 0
ValueWithin s i (refused c p) = IsRefusal s c p
ValueWithin s i (parsed n e) = (i < e) × (e ≤ length s) × (i + 2 * size n ≤ e + 1)

-- ---- names

string_bounded : (s : List ℕ) (i : ℕ) → Bounded s i (quoted (string_at s i))
string_bounded s i = go (string_at s i) (string_ahead s i)
  where
    go : (x : Reading ℕ) → ScanAhead s i x → Bounded s i (quoted x)
    go (Ok e) h = omega arith
    go (Err r) h = omega arith

module _ (s : List ℕ) (before : Members) (i : ℕ) where
  pub name_within : Bounded s i (name_at s before i)
  unfolding name_at
  name_within =
      both (Bounded s i) (eqb (byte_at s i) 0x22)
      (λ _. then_both (Bounded s i) (quoted (string_at s (i + 1))) _ (λ c p q. rw q at (string_bounded s (i + 1)))
      (λ k e q. let w : (i + 1 < e) × (e ≤ length s) = rw q at (string_bounded s (i + 1)) in
      both (Bounded s i) (repeated s before (name_of s i e)) (λ _. omega arith) (λ _. omega arith)))
      (λ _. unexpected_bounded Kind s i i)

  -- both quotes
  pub name_takes : {k : Kind} {e : ℕ} → name_at s before i ≡ parsed k e → i + 2 ≤ e
  name_takes {k} {e} q = let w : (i + 1 < e) × (e ≤ length s) = rw (name_parsed s before i q).1 at (string_bounded s (i + 1)) in omega arith

  pub name-end : length s ≤ i → name_at s before i ≡ refused Ended (length s)
  unfolding name_at
  name-end h = let z : byte_at s i ≡ 0 = get_or-eq_default s 0 h in rw z (unexpected_end s i h)

-- ---- elements and members, over any way to read a value

module _ (s : List ℕ) (v : ℕ → Parse Node) (within : (i : ℕ) → ValueWithin s i (v i)) (ended : (i : ℕ) → length s ≤ i → v i ≡ refused Ended (length s)) where
  elements : Reads s sizes (element_at v)
  elements = record { adds = λ before i. go before i (v i) (within i); ended = λ before i h. rw (ended i h) }
    where
      go : (before : Nodes) (i : ℕ) (o : Parse Node) → ValueWithin s i o → Adds s sizes before i (then o (λ n e. parsed (add_node before n) e))
      go before i (refused c p) w = w
      go before i (parsed n e) w = omega (arith, sizes_add before n, size_pos n)

  array_of : (i : ℕ) → ValueWithin s i (array_at v s i)
  array_of i = go (list_at 0x5D (element_at v) s none i) (list_within elements 0x5D (omega arith) none i)
    where
      go : (o : Parse Nodes) → ListWithin s sizes none i o → ValueWithin s i (then o (λ ns e. parsed (array i e ns) e))
      go (refused c p) w = w
      go (parsed ns e) w = omega arith

  after_adds : (before : Members) (i e : ℕ) → i + 2 ≤ e → Adds s sizes_members before i (after_name v s before i e)
  unfolding after_name
  after_adds before i e l =
      let j = skip s e in
      let k = skip s (j + 1) in
      let m : i + 3 ≤ k = omega (arith, run-from is_space s e, run-from is_space s (j + 1)) in
      both (Adds s sizes_members before i) (eqb (byte_at s j) 0x3A) (λ _. go k m (v k) (within k))
      (λ _. unexpected_both s j (Adds s sizes_members before i) (λ c p w. w))
    where
      go : (k : ℕ) → i + 3 ≤ k → (o : Parse Node) → ValueWithin s k o → Adds s sizes_members before i (then o (λ n p. parsed (add_member before i e n) p))
      go k m (refused c p) w = w
      go k m (parsed n p) w = omega (arith, sizes_members_add before i e n)

  members : Reads s sizes_members (member_at v s)
  members = record { adds = adds; ended = λ before i h. rw (name-end s before i h) }
    where
      adds : (before : Members) (i : ℕ) → Adds s sizes_members before i (member_at v s before i)
      adds before i =
          then_both (Adds s sizes_members before i) (name_at s before i) _ (λ c p q. rw q at (name_within s before i))
          (λ k e q. after_adds before i e (name_takes s before i q))

  object-of : (i : ℕ) → ValueWithin s i (object_at v s i)
  object-of i = go (list_at 0x7D (member_at v s) s no_member i) (list_within members 0x7D (omega arith) no_member i)
    where
      go : (o : Parse Members) → ListWithin s sizes_members no_member i o → ValueWithin s i (then o (λ ms e. parsed (object i e ms) e))
      go (refused c p) w = w
      go (parsed ms e) w = omega arith

-- ---- values

pub value_end : (d : ℕ) (s : List ℕ) (i : ℕ) → length s ≤ i → value_at d s i ≡ refused Ended (length s)
value_end d s i h =
    let z : byte_at s i ≡ 0 = get_or-eq_default s 0 h in
    value_leaf d s i (λ q. omega (arith, first_array (byte_at s i) q)) (λ q. omega (arith, first_object (byte_at s i) q)) ∙ rw (scalar_end s i h)

leaf_within : (s : List ℕ) (i : ℕ) → ValueWithin s i (leaf_at s i)
leaf_within s i = go (scalar_at s i) (scalar_bounded s i)
  where
    go : (o : Parse Kind) → Bounded s i o → ValueWithin s i (then o (λ k e. parsed (scalar k i e) e))
    go (refused c p) w = w
    go (parsed k e) w = omega arith

pub value_within : (s : List ℕ) (d i : ℕ) → ValueWithin s i (value_at d s i)
unfolding value_at
value_within s zero i =
    by_ways (ValueWithin s i) _ _ s i (first_of (byte_at s i)) (λ q. omega (arith, byte_in s i 0x5B (omega arith) (first_array (byte_at s i) q)))
    (λ q. omega (arith, byte_in s i 0x7B (omega arith) (first_object (byte_at s i) q))) (leaf_within s i)
value_within s (suc d) i =
    by_ways (ValueWithin s i) _ _ s i (first_of (byte_at s i)) (λ _. array_of s (value_at d s) (value_within s d) (value_end d s) i)
    (λ _. object-of s (value_at d s) (value_within s d) (value_end d s) i) (leaf_within s i)

module _ (s : List ℕ) (d : ℕ) where
  pub element_reads : Reads s sizes (element_at (value_at d s))
  element_reads = elements s (value_at d s) (value_within s d) (value_end d s)

  pub member_reads : Reads s sizes_members (member_at (value_at d s) s)
  member_reads = members s (value_at d s) (value_within s d) (value_end d s)

  pub value_takes : {i e : ℕ} {n : Node} → value_at d s i ≡ parsed n e → (i < e) × (e ≤ length s) × (i + 2 * size n ≤ e + 1)
  value_takes {i} q = rw q at (value_within s d i)
