-- Values, with any number of brackets open: they are sound and complete.
use Prim.Native.Nat.{ℕ, zero, suc, ◌+◌, ◌≤◌, ◌<◌}
use mathlib.Core.Path.{◌≡◌, refl, sym, ap, ◌∙◌}
use mathlib.Core.Logic.{inl, inr}
use mathlib.Core.List.{List}
use native.Mathlib.Omega.{arith}
use lib.ListN.{length}
use Rattle.model.specs.Text.{text}
use Rattle.model.specs.Value.{Value, null, array, object, vnil, mnil}
use Rattle.chars.specs.Bytes.{byte_at}
use Rattle.tokens.specs.Parse.{Parse, refused, parsed}
use Rattle.tokens.specs.Space.{is_space}
use Rattle.tokens.specs.Scalars.{first_of}
use Rattle.tokens.specs.declared.scalars.First.{First}
use Rattle.tokens.specs.declared.scalars.First.TheVariants.{Array, Object, Quote, Number, LetterN, LetterF, LetterT, Other}
use Rattle.chars.proofs.Facts.{in_text}
use Rattle.tokens.proofs.Facts.{first_array, first_object, array_first, object_first}
use Rattle.syntax.specs.Tree.{Node, Nodes, none, add_node, no_member, array as nodeArray, object as nodeObject}
use Rattle.syntax.specs.Grammar.{list_at, element_at, array_at, member_at, object_at, leaf_at, value_by, value_at}
use Rattle.syntax.specs.Spelling.{value_of, values_of, members_of}
use Rattle.syntax.proofs.Facts.{value_leaf, element_reads, member_reads as member-takes}
use Rattle.grammar.specs.Written.{Language, IsLeaf}
use Rattle.grammar.proofs.Trimmed.{TrimmedElement, TrimmedMember, TrimmedBracketed, no_items, some_items, TrimmedArray, TrimmedObject}
use Rattle.grammar.proofs.Trimmed.{TrimmedValue, add_value}
use Rattle.grammar.proofs.Pieces.{At, between_none, Begun, Stop, Sound, begun_none, sound_in, sound_as, Complete, Opening}
use Rattle.grammar.proofs.Leaves.{leaf_sound, LeafRead, leaf_reads, leaf_first}
use Rattle.grammar.proofs.Series.{list_sound, list_reads}
use Rattle.grammar.proofs.Members.{values_add, member_sound, member_reads, member_first}
use Rattle.chars.specs.declared.refusals.Code.TheVariants.{TooDeep}

-- a leaf is a value
leaf_value : (d : ℕ) (w : List ℕ) (v : Value) → IsLeaf w v → TrimmedValue d w v
unfolding TrimmedValue
leaf_value zero w v h = h
leaf_value (suc d) w v h = inl h

-- ---- what is read, and what is refused

module _ (s : List ℕ) where
  abbrev IsSound : ℕ → ℕ → Parse Node → Type 0
  IsSound d i o = Sound (TrimmedValue d) (value_of s) s i o

  leaf_sound_as : (d i : ℕ) → i ≤ length s → IsSound d i (leaf_at s i)
  leaf_sound_as d i l = sound_in IsLeaf (TrimmedValue d) (between_none s i) (λ v. v) (leaf_value d) (value_of s) (leaf_at s i) (leaf_sound s i l)

  -- by the first byte
  by_sound : (d i : ℕ) (a o : ℕ → Parse Node) → i ≤ length s → (f : First) → first_of (byte_at s i) ≡ f
      → (byte_at s i ≡ 0x5B → IsSound d i (a i)) → (byte_at s i ≡ 0x7B → IsSound d i (o i)) → IsSound d i (value_by f a o s i)
  by_sound d i a o l Array q g h = g (first_array (byte_at s i) q)
  by_sound d i a o l Object q g h = h (first_object (byte_at s i) q)
  by_sound d i a o l Quote q g h = leaf_sound_as d i l
  by_sound d i a o l Number q g h = leaf_sound_as d i l
  by_sound d i a o l LetterN q g h = leaf_sound_as d i l
  by_sound d i a o l LetterF q g h = leaf_sound_as d i l
  by_sound d i a o l LetterT q g h = leaf_sound_as d i l
  by_sound d i a o l Other q g h = leaf_sound_as d i l

  -- one bracket too many: another value can stand there
  too_deep : (d i : ℕ) → i < length s → Begun (TrimmedValue d) s i i × Stop s TooDeep i
  too_deep d i l = (begun_none (TrimmedValue d) s i (text "null") null (omega arith) (leaf_value d (text "null") null refl), inr (omega arith, l))

  element_sound : (d : ℕ) (v : ℕ → Parse Node) → ((i : ℕ) → i ≤ length s → IsSound d i (v i)) → (before : Nodes) (i : ℕ) → i ≤ length s
      → Sound (TrimmedElement (TrimmedValue d) (values_of s before)) (values_of s) s i (element_at v before i)
  element_sound d v sound before i l =
      sound_as (TrimmedValue d) (TrimmedElement (TrimmedValue d) (values_of s before)) (between_none s i) (add_value (values_of s before))
      (λ w a h. record { value = a; is_value = h; added = refl }) (value_of s) (values_of s) (λ n _. add_node before n) (λ n _. sym (values_add s before n))
      (v i) (sound i l)

  pub value_sound : (d i : ℕ) → i ≤ length s → Sound (TrimmedValue d) (value_of s) s i (value_at d s i)
  unfolding value_at TrimmedValue
  value_sound zero i l =
      by_sound zero i (λ j. refused TooDeep j) (λ j. refused TooDeep j) l (first_of (byte_at s i)) refl (λ q. too_deep zero i (in_text s i (omega arith)))
      (λ q. too_deep zero i (in_text s i (omega arith)))
  value_sound (suc d) i l =
      by_sound (suc d) i (λ j. array_at (value_at d s) s j) (λ j. object_at (value_at d s) s j) l (first_of (byte_at s i)) refl
      (λ q. sound_as (TrimmedBracketed 0x5B 0x5D (TrimmedElement (TrimmedValue d)) vnil) (TrimmedValue (suc d)) (between_none s i) array
      (λ w vs h. inr (inl (vs, refl, h))) (values_of s) (value_of s) (λ ns e. nodeArray i e ns) (λ ns e. refl) (list_at 0x5D (element_at (value_at d s)) s none i)
      (list_sound (element_reads s d) (TrimmedElement (TrimmedValue d)) (values_of s) none
      (element_sound d (value_at d s) (value_sound d)) 0x5B 0x5D (omega arith) i q (in_text s i (omega arith))))
      (λ q. sound_as (TrimmedBracketed 0x7B 0x7D (TrimmedMember (TrimmedValue d)) mnil) (TrimmedValue (suc d)) (between_none s i) object
      (λ w ms h. inr (inr (ms, refl, h))) (members_of s) (value_of s) (λ ms e. nodeObject i e ms) (λ ms e. refl)
      (list_at 0x7D (member_at (value_at d s) s) s no_member i)
      (list_sound (member-takes s d) (TrimmedMember (TrimmedValue d)) (members_of s) no_member
      (member_sound s (TrimmedValue d) (leaf_value d (text "null") null refl) (value_at d s) (value_sound d)) 0x7B 0x7D (omega arith) i q
      (in_text s i (omega arith))))

-- ---- what is spelled so

bracket_first : {L : Type 0} {c k : ℕ} {Item : L → Language L} {empty all : L} {w : List ℕ} → TrimmedBracketed c k Item empty w all
    → (s : List ℕ) (i : ℕ) → At s i w → byte_at s i ≡ c
bracket_first (no_items b sb) s i a = a.0
bracket_first (some_items b c sb S sc) s i a = a.0

module _ (s : List ℕ) where
  pub value_first : (d : ℕ) → Opening (TrimmedValue d) 0x5D s
  unfolding TrimmedValue is_space
  value_first zero i w v h a = leaf_first s i w v h a
  value_first (suc d) i w v (inl h) a = leaf_first s i w v h a
  value_first (suc d) i w v (inr (inl h)) a = rw (bracket_first h.2 s i a) (refl, λ q. omega arith)
  value_first (suc d) i w v (inr (inr h)) a = rw (bracket_first h.2 s i a) (refl, λ q. omega arith)

  -- the value v at i, up to e, is read
  abbrev pub ValueRead : ℕ → ℕ → ℕ → Value → Type 0
  ValueRead d i e v = (n : Node) × (value_at d s i ≡ parsed n e) × (value_of s n ≡ v)

  leaf_read : (d i e : ℕ) (v : Value) → LeafRead s i e v → ValueRead d i e v
  leaf_read d i e v r = (r.node, value_leaf d s i r.no_array r.no_object ∙ r.reads, r.means)

  module _ (d : ℕ) (reads : Complete (TrimmedValue d) (value_of s) s (value_at d s)) where
    element_read : (before : Nodes) → Complete (TrimmedElement (TrimmedValue d) (values_of s before)) (values_of s) s (element_at (value_at d s) before)
    element_read before i w all h a f =
        let x = reads i w h.value h.is_value a f in
        (add_node before x.0, rw x.1, values_add s before x.0 ∙ cc (x.2, h.added))

    array_read : (i : ℕ) (w : List ℕ) (v : Value) → TrimmedArray (TrimmedValue d) w v → At s i w → ValueRead (suc d) i (i + length w) v
    unfolding value_at is_space
    array_read i w v h a =
        let f = array_first (byte_at s i) (bracket_first h.2 s i a) in
        let x = list_reads (element_reads s d) (TrimmedElement (TrimmedValue d)) (values_of s) none 0x5B 0x5D (λ q. omega arith) refl refl element_read
        (λ before i w all h a. value_first d i w h.value h.is_value a) h.2 i a in
        (nodeArray i (i + length w) x.0, rw (f, x.1), ap array x.2 ∙ sym h.1)

    object_read : (i : ℕ) (w : List ℕ) (v : Value) → TrimmedObject (TrimmedValue d) w v → At s i w → ValueRead (suc d) i (i + length w) v
    unfolding value_at is_space
    object_read i w v h a =
        let f = object_first (byte_at s i) (bracket_first h.2 s i a) in
        let x = list_reads (member-takes s d) (TrimmedMember (TrimmedValue d)) (members_of s) no_member 0x7B 0x7D (λ q. omega arith) refl refl
        (member_reads s (TrimmedValue d) (value_at d s) reads (value_first d)) (member_first s (TrimmedValue d) (value_at d s) reads (value_first d))
        h.2 i a in
        (nodeObject i (i + length w) x.0, rw (f, x.1), ap object x.2 ∙ sym h.1)

  pub value_reads : (d : ℕ) → Complete (TrimmedValue d) (value_of s) s (value_at d s)
  unfolding TrimmedValue
  value_reads zero i w v h a f = leaf_read zero i (i + length w) v (leaf_reads s i w v h a f)
  value_reads (suc d) i w v (inl h) a f = leaf_read (suc d) i (i + length w) v (leaf_reads s i w v h a f)
  value_reads (suc d) i w v (inr (inl h)) a f = array_read d (value_reads d) i w v h a
  value_reads (suc d) i w v (inr (inr h)) a f = object_read d (value_reads d) i w v h a
