-- The witness of Compare (02, L1) is small: in bytes, in brackets that are open at once, and in the bytes of its names.
use mathlib.Core.Path.{◌≡◌, refl}
use mathlib.Core.List.{List, [], ◌∷◌}
use mathlib.Core.Bool.{Bool, true, false, not, ◌&&◌, false≢true}
use Prim.Native.Nat.{ℕ, zero, suc, ◌+◌, ◌*◌, ◌≤◌, ◌<◌, max}
use native.Mathlib.Omega.{arith}
use lib.ListN.{length, length-append}
use lib.Dec.{leb, eqb}
use Rattle.model.specs.Text.{same}
use Rattle.model.specs.Value.{Value, null, vnil, vcons, Members, mcons}
use Rattle.model.specs.Definition.{Named, JSON, Schema, Float, Integer, String, Boolean, DateTime, Def, named, array_of, map_of, object-of, Fields, fnil, fcons}
use Rattle.model.specs.Subtype.{field_or, of_objects, other, under, requires, subtype}
use Rattle.model.specs.Witness.{plain_value, apart, sample, kept, following, behind, rarer, avoiding, names}
use Rattle.model.specs.Witness.{own_names, fresh, others, with_member, beyond_named, witness, witness_fields}
use Rattle.model.proofs.Basics.{both, by_test}
use Rattle.model.proofs.Samples.{avoiding_short, fresh_under}
use Rattle.grammar.specs.Utf8.{utf8}
use Rattle.writer.specs.Spell.{spell_char, spell_chars, spell}
use Rattle.writer.specs.Depth.{depth_of, depth_of_members}
use Rattle.counterexample.specs.Names.{longest_name, longest_of_members}
use Rattle.counterexample.proofs.Lengths.{string_length, weight_of_members, array_length, object_length}
use Rattle.counterexample.proofs.Names.{all_three}
use Rattle.counterexample.proofs.Costs.{name_size, size_of, size_of_fields, brackets_of, brackets_of_fields, name_of_def, name_of_fields}

-- ---- the fresh name

pub least_size : (d : Def) → 6 ≤ size_of d
least_size (named JSON) = omega arith
least_size (named Schema) = omega arith
least_size (named Float) = omega arith
least_size (named Integer) = omega arith
least_size (named String) = omega arith
least_size (named Boolean) = omega arith
least_size (named DateTime) = omega arith
least_size (array_of d) = omega arith
least_size (map_of d) = omega arith
least_size (object-of r o) = omega arith

-- a schema spends ten bytes at least on a field
few_names : (fs : Fields) → 10 * length (names fs) ≤ size_of_fields fs
few_names fnil = omega arith
few_names (fcons n d fs) = omega (arith, few_names fs, least_size d, string_length n)

behind_less : (c : ℕ) (ns : List (List ℕ)) → length (behind c ns) ≤ length ns
behind_less c [] = omega arith
behind_less c (n ∷ ns) = omega (arith, one c n (behind c ns), behind_less c ns)
  where
    one : (c : ℕ) (n : List ℕ) (ms : List (List ℕ)) → length (following c n ms) ≤ suc (length ms)
    one c [] ms = omega arith
    one c (x ∷ n) ms = both (λ ls. length ls ≤ suc (length ms)) (eqb x c) (λ _. omega arith) (λ _. omega arith)

-- each letter takes a byte
letter_length : (ns : List (List ℕ)) → length (spell_char (rarer ns)) ≡ 1
unfolding spell_char utf8
letter_length ns = both (λ c. length (spell_char c) ≡ 1) (leb (length (behind 0x61 ns)) (length (behind 0x62 ns))) (λ _. refl) (λ _. refl)

avoiding_length : (k : ℕ) (ns : List (List ℕ)) → length (spell_chars (avoiding k ns)) ≡ length (avoiding k ns)
avoiding_length zero ns = refl
avoiding_length (suc k) [] = refl
avoiding_length (suc k) (n ∷ ns) =
    let c = rarer (n ∷ ns) in
    omega (arith, length-append (spell_char c) (spell_chars (avoiding k (behind c (n ∷ ns)))), letter_length (n ∷ ns), avoiding_length k (behind c (n ∷ ns)))

own_few : (a : Def) → size_of a < 40960 → length (own_names a) < 4096
own_few (named t) h = omega arith
own_few (array_of d) h = omega arith
own_few (map_of d) h = omega arith
own_few (object-of r o) h = omega (arith, length-append (names r) (names o), few_names r, few_names o)

pub fresh_small : (a : Def) → size_of a < 40960 → length (spell_chars (fresh a)) ≤ 13
unfolding spell_char utf8
fresh_small a h =
    let ns = own_names a in
    let l : length (behind 0x61 ns) < 4096 = omega (arith, behind_less 0x61 ns, own_few a h) in
    omega (arith, avoiding_length (length ns) (behind 0x61 ns), avoiding_short 12 (length ns) (behind 0x61 ns) l)

-- ---- samples

abbrev Modest : Def → Value → Type 0
Modest d v = (length (spell v) + 8 ≤ 3 * size_of d) × (depth_of v ≤ brackets_of d) × (longest_name v ≤ name_of_def d)

abbrev ModestMembers : Fields → Members → Type 0
ModestMembers fs ms = (weight_of_members ms ≤ 3 * size_of_fields fs) × (depth_of_members ms ≤ brackets_of_fields fs) × (longest_of_members ms ≤ name_of_fields fs)

plain_modest : (t : Named) → Modest (named t) (plain_value t)
unfolding spell_char utf8
plain_modest JSON = omega arith
plain_modest Schema = omega arith
plain_modest Float = omega arith
plain_modest Integer = omega arith
plain_modest String = omega arith
plain_modest Boolean = omega arith
plain_modest DateTime = omega arith

mutual
  sample_modest : (d : Def) → Modest d (sample d)
  sample_modest (named t) = plain_modest t
  sample_modest (array_of d) = omega arith
  sample_modest (map_of d) = omega arith
  sample_modest (object-of r o) =
      let h = kept_modest r (λ m. true) in
      (omega (arith, object_length (kept (λ m. true) r), h.0), omega (arith, h.1), omega (arith, h.2))

  kept_modest : (fs : Fields) (p : List ℕ → Bool) → ModestMembers fs (kept p fs)
  kept_modest fnil p = omega arith
  kept_modest (fcons m d fs) p =
      let h = sample_modest d in
      let g = kept_modest fs p in
      both (ModestMembers (fcons m d fs)) (p m) (λ _. (omega (arith, h.0, g.0), omega (arith, h.1, g.1), omega (arith, h.2, g.2)))
      (λ _. (omega (arith, g.0), omega (arith, g.1), omega (arith, g.2)))

-- ---- values of the new definition a, where the old one has k bytes and names of at most l

pub record Small (a : Def) (k l : ℕ) (v : Value) : Type 0 where
  pub size : length (spell v) ≤ 3 * size_of a + k
  pub depth : depth_of v ≤ suc (brackets_of a)
  pub name : longest_name v ≤ max 13 (max (name_of_def a) l)

sample_small : (a : Def) (k l : ℕ) → Small a k l (sample a)
sample_small a k l = let h = sample_modest a in record { size = omega (arith, h.0); depth = omega (arith, h.1); name = omega (arith, h.2) }

-- what is asked under a name, and the other members
module _ (n : List ℕ) where
  abbrev rest : Fields → Members
  rest r = kept (λ m. not (same n m)) r

  field_small : (e : Def) (r : Fields)
      → (3 * size_of (field_or e n r) + weight_of_members (rest r) ≤ 3 * size_of e + 3 * size_of_fields r)
      × (brackets_of (field_or e n r) ≤ max (brackets_of e) (brackets_of_fields r))
      × (name_of_def (field_or e n r) ≤ max (name_of_def e) (name_of_fields r))
  field_small e fnil = omega arith
  field_small e (fcons m d fs) =
      let h = sample_modest d in
      let g = field_small e fs in
      let k = kept_modest fs (λ m. not (same n m)) in
      by_test (same n m) (λ t. rw t (omega (arith, k.0), omega arith, omega arith))
      (λ f. rw f (omega (arith, h.0, g.0), omega (arith, g.1), omega (arith, g.2)))

  pub record Under (a : Def) : Type 0 where
    pub size : 3 * size_of (under a n) + weight_of_members (others a n) + 18 ≤ 3 * size_of a
    pub depth : brackets_of (under a n) < brackets_of a
    pub name : name_of_def (under a n) ≤ name_of_def a
    pub beside_depth : depth_of_members (others a n) ≤ brackets_of a
    pub beside_name : longest_of_members (others a n) ≤ name_of_def a

  under_small : (a : Def) → of_objects a ≡ true → Under a
  under_small (named t) e = absurd (false≢true e)
  under_small (array_of d) e = absurd (false≢true e)
  under_small (map_of d) e = record { size = omega arith; depth = omega arith; name = omega arith; beside_depth = omega arith; beside_name = omega arith }
  under_small (object-of r o) e =
      let h = field_small (field_or (named JSON) n o) r in
      let g = field_small (named JSON) o in
      let k = kept_modest r (λ m. not (same n m)) in
      record {
        size = omega (arith, h.0, g.0);
        depth = omega (arith, h.1, g.1);
        name = omega (arith, h.2, g.2);
        beside_depth = omega (arith, k.1);
        beside_name = omega (arith, k.2);
      }

most : (y l₂ c l d : ℕ) → y ≤ max 13 (max c l₂) → c ≤ d → l₂ ≤ l → y ≤ max 13 (max d l)
most y l₂ c l d h a b = omega arith

-- w under the name n, and the other members
member_small : (a : Def) → of_objects a ≡ true → (n : List ℕ) (w : Value) (k l k₂ l₂ : ℕ)
    → length (spell_chars n) + 5 + k₂ ≤ k + 18 → length (spell_chars n) ≤ max 13 l → l₂ ≤ l → Small (under a n) k₂ l₂ w → Small a k l (with_member a n w)
member_small a e n w k l k₂ l₂ c m p s =
    let u = under_small n a e in
    record {
      size = omega (arith, object_length (mcons n w (others a n)), string_length n, u.size, s.size);
      depth = omega (arith, u.depth, u.beside_depth, s.depth);
      name =
          all_three (length (spell_chars n)) (longest_name w) (longest_of_members (others a n)) (max 13 (max (name_of_def a) l))
          (omega arith) (most _ _ _ _ _ s.name u.name p) (omega (arith, u.beside_name));
    }

apart_small : (s : Named) (k l : ℕ) → Small (named s) k l (apart s)
unfolding spell_char utf8
apart_small JSON k l = record { size = omega arith; depth = omega arith; name = omega arith }
apart_small Schema k l = record { size = omega arith; depth = omega arith; name = omega arith }
apart_small Float k l = record { size = omega arith; depth = omega arith; name = omega arith }
apart_small Integer k l = record { size = omega arith; depth = omega arith; name = omega arith }
apart_small String k l = record { size = omega arith; depth = omega arith; name = omega arith }
apart_small Boolean k l = record { size = omega arith; depth = omega arith; name = omega arith }
apart_small DateTime k l = record { size = omega arith; depth = omega arith; name = omega arith }

beyond_small : (a : Def) → size_of a < 40960 → (k l : ℕ) → Small a k l (beyond_named a)
beyond_small (named s) h k l = apart_small s k l
beyond_small (array_of d) h k l = sample_small (array_of d) k l
beyond_small (map_of d) h k l = sample_small (map_of d) k l
beyond_small (object-of r o) h k l =
    let a : Def = object-of r o in
    let n : List ℕ = fresh a in
    let f = fresh_small a h in
    member_small a refl n null k l 0 0 (omega arith) (omega arith) (omega arith)
    (record { size = omega (arith, least_size (under a n)); depth = omega arith; name = omega arith })

mutual
  pub witness_small : (b a : Def) → size_of a < 40960 → Small a (size_of b) (name_of_def b) (witness a b)
  witness_small (named t) a h = beyond_small a h (name_size t) 0
  witness_small (array_of q) (named s) h = sample_small (named s) (10 + size_of q) (name_of_def q)
  witness_small (array_of q) (array_of p) h =
      let w = witness_small q p (omega arith) in
      record {
        size = omega (arith, array_length (vcons (witness p q) vnil), w.size);
        depth = omega (arith, w.depth);
        name = omega (arith, w.name);
      }
  witness_small (array_of q) (map_of p) h = sample_small (map_of p) (10 + size_of q) (name_of_def q)
  witness_small (array_of q) (object-of r o) h = sample_small (object-of r o) (10 + size_of q) (name_of_def q)
  witness_small (map_of q) a h =
      both (Small a (8 + size_of q) (name_of_def q)) (of_objects a)
      (λ t. let u = under_small (fresh a) a t in
      let f = fresh_small a h in
      let y : size_of (under a (fresh a)) < 40960 = omega (arith, u.size) in
      let z : size_of (other a) < 40960 = rw (fresh_under a) at y in
      member_small a t (fresh a) (witness (other a) q) _ _ (size_of q) (name_of_def q) (omega arith) (omega arith) (omega arith) (rw (fresh_under a) (witness_small q (other a) z)))
      (λ _. sample_small a (8 + size_of q) (name_of_def q))
  witness_small (object-of r o) a h =
      let k = size_of (object-of r o) in
      let l = name_of_def (object-of r o) in
      both (Small a k l) (of_objects a)
      (λ e. fields_small r true a e h k l (omega arith) (omega arith) (witness_fields false a o (sample a))
      (fields_small o false a e h k l (omega arith) (omega arith) (sample a) (sample_small a k l)))
      (λ _. sample_small a k l)

  fields_small : (fs : Fields) (required : Bool) (a : Def) → of_objects a ≡ true → size_of a < 40960 → (k l : ℕ) → size_of_fields fs ≤ k → name_of_fields fs ≤ l
      → (v : Value) → Small a k l v → Small a k l (witness_fields required a fs v)
  fields_small fnil required a e h k l c m v s = s
  fields_small (fcons n q fs) required a e h k l c m v s =
      let u = under_small n a e in
      let x = witness_small q (under a n) (omega (arith, u.size)) in
      let y = fields_small fs required a e h k l (omega arith) (omega arith) v s in
      both (Small a k l) (required && not (requires a n)) (λ _. sample_small a k l)
      (λ _. both (Small a k l) (subtype (under a n) q) (λ _. y)
      (λ _. member_small a e n (witness (under a n) q) k l (size_of q) (name_of_def q) (omega (arith, string_length n)) (omega arith) (omega arith) x))
