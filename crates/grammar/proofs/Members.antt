-- Members, each with a name that none before has: they are sound and complete if their values are.
use Prim.Native.Nat.{ℕ, suc, ◌+◌, ◌≤◌, ◌<◌}
use mathlib.Core.Path.{◌≡◌, refl, sym, ap, ◌∙◌, subst}
use mathlib.Core.Logic.{inr}
use mathlib.Core.Bool.{false}
use mathlib.Core.List.{List, [], ◌∷◌, ◌++◌, append_assoc}
use native.Mathlib.Omega.{arith}
use lib.ListN.{length, length-append, replicate}
use lib.Dec.{eqb, ltb}
use borrow.Author.Tests.{eqb-true, eqb-false}
use Rattle.model.specs.Text.{text, same}
use Rattle.model.specs.Value.{Value, null, vcons, Members, mnil, mcons, has_name}
use Rattle.model.proofs.Basics.{by_test, same_eq, same_comm}
use Rattle.chars.specs.Bytes.{byte_at}
use Rattle.tokens.specs.Parse.{Parse, parsed, then, unexpected}
use Rattle.tokens.specs.Space.{is_space, skip}
use Rattle.chars.specs.Strings.{string_at, part}
use Rattle.std.specs.Prelude.{Ok, Err}
use Rattle.chars.specs.Refusals.{Reading}
use Rattle.chars.proofs.Facts.{in_text, string_close}
use Rattle.syntax.specs.Tree.{Node, Nodes, none, more, add_node, no_member, member, Members as NodeMembers, add_member as addNodeMember}
use Rattle.syntax.specs.Grammar.{name_of, repeated, member_at}
use Rattle.syntax.specs.Spelling.{value_of, values_of, members_of}
use Rattle.syntax.proofs.Facts.{name_bare, name_stopped, name_again, name_new, member_bare, member_value}
use Rattle.grammar.specs.Written.{Language, IsSpace, IsChars, IsString}
use Rattle.grammar.proofs.Trimmed.{TrimmedMember, add_value, add_member}
use Rattle.grammar.proofs.Pieces.{At, at_first, at_second, Between, between_none, between, between_one, between_join, Spelled, Begun}
use Rattle.grammar.proofs.Pieces.{Sound, begun_none, spelled_begun, begun_more, sound_as, unexpected_sound, Space, space_spelled}
use Rattle.grammar.proofs.Pieces.{Complete, Opening}
use Rattle.grammar.proofs.Strings.{Scanned, string_sound, string_spelled, string_begun, string_reads, long_string}
use Rattle.grammar.proofs.Series.{separated}

-- ---- one more, in the tree and in the value

-- an element
pub values_add : (s : List ℕ) (ns : Nodes) (n : Node) → values_of s (add_node ns n) ≡ add_value (values_of s ns) (value_of s n)
values_add s none n = refl
values_add s (more m ns) n = ap (vcons (value_of s m)) (values_add s ns n)

-- a member
members_add : (s : List ℕ) (ms : NodeMembers) (f e : ℕ) (n : Node)
    → members_of s (addNodeMember ms f e n) ≡ add_member (members_of s ms) (name_of s f e) (value_of s n)
members_add s no_member f e n = refl
members_add s (member g h m ms) f e n = ap (mcons (name_of s g h) (value_of s m)) (members_add s ms f e n)

-- ---- names

-- a name is repeated in the tree if the value has it
repeated_has : (s : List ℕ) (ms : NodeMembers) (n : List ℕ) → repeated s ms n ≡ has_name n (members_of s ms)
unfolding repeated
repeated_has s no_member n = refl
repeated_has s (member f e v ms) n = rw (same_comm (name_of s f e) n, repeated_has s ms n)

-- the lengths of all names together; a longer name is none of them
abbrev name_lengths : Members → ℕ
name_lengths mnil = 0
name_lengths (mcons n v ms) = length n + name_lengths ms

long_differs : (ms : Members) (n : List ℕ) → suc (name_lengths ms) ≤ length n → has_name n ms ≡ false
long_differs mnil n h = refl
long_differs (mcons m v ms) n h =
    by_test (same n m) (λ t. absurd (omega (arith, ap length (same_eq n m t)))) (λ t. rw t (long_differs ms n (omega arith)))

-- ---- what is read, and what is refused

-- no name stands at i
pub no_quote : (v : ℕ → Parse Node) (s : List ℕ) (before : NodeMembers) (i : ℕ) → (byte_at s i ≡ 0x22 → ⊥) → member_at v s before i ≡ unexpected s i
unfolding unexpected
no_quote v s before i n = rw (name_bare s before i n) (by_test (ltb i (length s)) (λ t. rw t) (λ t. rw t))

module _ (s : List ℕ) (IsItem : Language Value) (is-null : IsItem (text "null") null) (v : ℕ → Parse Node)
    (sound : (i : ℕ) → i ≤ length s → Sound IsItem (value_of s) s i (v i)) (before : NodeMembers) (i : ℕ) (il : i ≤ length s) where
  abbrev X : Language Members
  X = TrimmedMember IsItem (members_of s before)

  member_of : (q a b w us : List ℕ) (u : Value) → IsString q us → has_name us (members_of s before) ≡ false → IsSpace a → IsSpace b → IsItem w u
      → X (q ++ (a ++ (0x3A ∷ b ++ w))) (add_member (members_of s before) us u)
  member_of q a b w us u h n sa sb i = record {
    quoted = q;
    name = us;
    a = a;
    b = b;
    x = w;
    value = u;
    spelled = refl;
    is-name = h;
    differs = n;
    space_a = sa;
    space_b = sb;
    is_value = i;
    added = refl;
  }

  -- a name, space, and what can be added
  with_null : (q a us : List ℕ) → IsString q us → has_name us (members_of s before) ≡ false → IsSpace a
      → X (q ++ (a ++ (0x3A ∷ text "null"))) (add_member (members_of s before) us null)
  with_null q a us h n sa = member_of q a [] (text "null") us null h n sa refl is-null

  -- a name of so many characters is none of those before
  abbrev enough : ℕ
  enough = suc (name_lengths (members_of s before))

  -- nothing yet
  bare_begun : Begun X s i i
  bare_begun =
      let name : List ℕ = replicate enough 0x61 in
      let q = long_string enough in
      begun_none X s i _ _ il (with_null _ [] name q.0 (long_differs (members_of s before) name q.1) refl)

  -- within a name
  broken_begun : byte_at s i ≡ 0x22 → {p : ℕ} → Begun IsChars s (i + 1) p → Begun X s i p
  broken_begun o b =
      begun_more (between_none s i) (0x3A ∷ text "null") (λ us. add_member (members_of s before) us null)
      (λ w us h. with_null w [] us h.0 (long_differs (members_of s before) us h.1) refl) (string_begun s i o b enough)

  -- behind a name from i up to e
  module _ (o : byte_at s i ≡ 0x22) (e : ℕ) (q : string_at s (i + 1) ≡ Ok e) (n : repeated s before (name_of s i e) ≡ false) where
    abbrev j : ℕ
    j = skip s e

    name : Spelled IsString s i e (name_of s i e)
    name = let b = string_close s (i + 1) e q in record { ahead = omega arith; within = b.1; spells = string_spelled s i o e q }

    space : Spelled Space s e j tt
    space = space_spelled s e name.within

    fresh : has_name (name_of s i e) (members_of s before) ≡ false
    fresh = sym (repeated_has s before (name_of s i e)) ∙ n

    no_colon : Begun X s i j
    no_colon =
        begun_more (between s name.ahead) (0x3A ∷ text "null") (λ _. add_member (members_of s before) (name_of s i e) null)
        (λ w _ h. with_null (part s i e) w (name_of s i e) name.spells fresh h) (spelled_begun space)

    module _ (z : byte_at s j ≡ 0x3A) where
      abbrev k : ℕ
      k = skip s (j + 1)

      in_j : j < length s
      in_j = in_text s j (omega arith)

      space₂ : Spelled Space s (j + 1) k tt
      space₂ = space_spelled s (j + 1) (omega (arith, in_j))

      to_value : Between s i k (part s i e ++ (part s e j ++ (0x3A ∷ part s (j + 1) k)))
      to_value =
          between_join (between s name.ahead) (between_join (between s space.ahead) (between_join (between_one s in_j z) (between s space₂.ahead)))

      with_value : (w : List ℕ) (u : Value) → IsItem w u
          → X ((part s i e ++ (part s e j ++ (0x3A ∷ part s (j + 1) k))) ++ w) (add_member (members_of s before) (name_of s i e) u)
      with_value w u h =
          simp append_assoc (member_of (part s i e) (part s e j) (part s (j + 1) k) w (name_of s i e) u name.spells fresh space.spells space₂.spells h)

      member_value_sound : (r : Parse Node) → Sound IsItem (value_of s) s k r → Sound X (members_of s) s i (then r (λ m p. parsed (addNodeMember before i e m) p))
      member_value_sound r g =
          sound_as IsItem X to_value (add_member (members_of s before) (name_of s i e)) with_value (value_of s) (members_of s) (λ m _. addNodeMember before i e m)
          (λ m _. sym (members_add s before i e m)) r g

  pub member_sound : Sound X (members_of s) s i (member_at v s before i)
  member_sound =
      by_test (eqb (byte_at s i) 0x22)
      (λ t. let o : byte_at s i ≡ 0x22 = eqb-true _ _ t in
      let l = in_text s i (omega arith) in go o (string_at s (i + 1)) refl (string_sound s (i + 1) (omega arith)))
      (λ t. rw (no_quote v s before i (eqb-false _ _ t)) (unexpected_sound X (members_of s) s i i bare_begun))
    where
      go : byte_at s i ≡ 0x22 → (x : Reading ℕ) → string_at s (i + 1) ≡ x → Scanned s (i + 1) x → Sound X (members_of s) s i (member_at v s before i)
      go o (Err r) q g = rw (name_stopped s before i o q) (broken_begun o g.0, g.1)
      go o (Ok e) q g =
          let b = string_close s (i + 1) e q in
          by_test (repeated s before (name_of s i e))
          (λ t. rw (name_again s before i o q t) (broken_begun o (spelled_begun g), inr (omega arith, omega arith)))
          (λ t. by_test (eqb (byte_at s (skip s e)) 0x3A)
          (λ u. let z : byte_at s (skip s e) ≡ 0x3A = eqb-true _ _ u in
          let k : ℕ = skip s (skip s e + 1) in
          rw (member_value v s before i (name_new s before i o q t) refl z) (member_value_sound o e q t z (v k) (sound k (space₂ o e q t z).within)))
          (λ u. rw (member_bare v s before i (name_new s before i o q t) refl (eqb-false _ _ u))
          (unexpected_sound X (members_of s) s i (skip s e) (no_colon o e q t))))

-- ---- what is spelled so

module _ (s : List ℕ) (IsItem : Language Value) (v : ℕ → Parse Node)
    (reads : Complete IsItem (value_of s) s v) (first : Opening IsItem 0x5D s) where
  pub member_reads : (before : NodeMembers) → Complete (TrimmedMember IsItem (members_of s before)) (members_of s) s (member_at v s before)
  unfolding is_space
  member_reads before i w all m a f =
      let y = m.a ++ (0x3A ∷ m.b ++ m.x) in
      let e = i + length m.quoted in
      let a₀ : At s i (m.quoted ++ y) = subst (At s i) m.spelled a in
      let r = string_reads s m.is-name i (at_first s i m.quoted y a₀) in
      let fresh : repeated s before (name_of s i e) ≡ false = repeated_has s before (name_of s i e) ∙ rw r.2 m.differs in
      let p = separated s e 0x3A m.a m.b m.x m.space_a refl m.space_b (λ i t. (first i m.x m.value m.is_value t).0)
      (at_second s i m.quoted y a₀) in
      let j = e + length m.a + 1 + length m.b in
      let z : j + length m.x ≡ i + length w =
      omega (arith, ap length m.spelled, length-append m.quoted y, length-append m.a (0x3A ∷ m.b ++ m.x), length-append m.b m.x) in
      let x = reads j m.x m.value m.is_value p.stands (rw z f) in (
        addNodeMember before i e x.0,
        member_value v s before i (name_new s before i r.0 r.1 fresh) (sym p.before) p.byte
            ∙ rw (p.behind, x.1) (ap (parsed (addNodeMember before i e x.0)) z),
        members_add s before i e x.0 ∙ cc (r.2, x.2, m.added),
      )

  pub member_first : (before : Members) → Opening (TrimmedMember IsItem before) 0x7D s
  unfolding is_space
  member_first before i w all m a =
      let y = m.a ++ (0x3A ∷ m.b ++ m.x) in
      let r = string_reads s m.is-name i (at_first s i m.quoted y (subst (At s i) m.spelled a)) in
      rw r.0 (refl, λ q. omega arith)
