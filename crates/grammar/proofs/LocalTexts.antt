-- Local, for lists, members, values and whole texts.
use Prim.Native.Nat.{ℕ, zero, suc, ◌+◌, ◌-◌, ◌≤◌, ◌<◌}
use mathlib.Core.Path.{◌≡◌, refl, sym, ap, ◌∙◌}
use mathlib.Core.Bool.{false}
use mathlib.Core.List.{List}
use native.Mathlib.Omega.{arith}
use lib.ListN.{length}
use lib.Dec.{eqb, ltb}
use borrow.Author.Tests.{ltb-false, lt-ltb, eqb-true, eqb-false}
use Rattle.model.proofs.Basics.{by_test, both}
use Rattle.chars.specs.Bytes.{byte_at}
use Rattle.tokens.specs.Parse.{Parse, refused, parsed, then}
use Rattle.tokens.specs.Space.{is_space, skip}
use Rattle.chars.specs.Strings.{string_at, characters}
use Rattle.tokens.specs.Scalars.{first_of, scalar_at}
use Rattle.std.specs.Prelude.{Ok, Err}
use Rattle.chars.specs.Refusals.{Reading}
use Rattle.tokens.specs.declared.scalars.First.{First}
use Rattle.tokens.specs.declared.scalars.First.TheVariants.{Array, Object, Quote, Number, LetterN, LetterF, LetterT, Other}
use Rattle.chars.proofs.Facts.{in_text, run-from, run_within, string_close}
use Rattle.tokens.proofs.Facts.{first_array, first_object}
use Rattle.syntax.specs.Tree.{Node, Nodes, none, Members, no_member, member, add_member}
use Rattle.syntax.specs.Grammar.{items_at, list_at, element_at, array_at, name_of, repeated, member_at, object_at, leaf_at, value_by, value_at, alone, whole_at}
use Rattle.syntax.proofs.Facts.{Reads, item_takes, items_refused, items_next, items_close, items_bad, list_empty, list_items, name_stopped}
use Rattle.syntax.proofs.Facts.{name_again, name_new, member_bare, member_value, member_parsed, name_parsed, element_reads, member_reads}
use Rattle.grammar.proofs.Strings.{Scanned, string_sound}
use Rattle.grammar.proofs.Members.{no_quote}
use Rattle.grammar.proofs.Local.{Agree, place, Steady, Local, LocalIf, then_local, unexpected_local, part_steady, runs, string_steady}
use Rattle.grammar.proofs.Local.{scalar_local}
use Rattle.chars.specs.declared.refusals.Code.TheVariants.{TooDeep}

-- ---- lists

module _ {s t : List ℕ} {m : ℕ} (g : Agree s t m) {L : Type 0} {rows : L → ℕ} {item item₂ : L → ℕ → Parse L} (r : Reads s rows item) (r₂ : Reads t rows item₂)
    (Known : L → Type 0) (keep : (before all : L) (i e : ℕ) → Known before → item before i ≡ parsed all e → e < m → Known all)
    (items : (before : L) (i : ℕ) → i ≤ length s → LocalIf (Known before) m i (item before i) (item₂ before i)) (closing : ℕ) (pos : 0 < closing) where
  items_local : (f : ℕ) (before : L) (i : ℕ) → i ≤ length s → length s < i + f
      → LocalIf (Known before) m i (items_at closing item s before i) (items_at closing item₂ t before i)
  items_local zero before i l h = absurd (omega arith)
  items_local (suc f) before i l h = go (λ all n. items_local f all n) (item before i) refl
    where
      go : ((all : L) (n : ℕ) → n ≤ length s → length s < n + f → LocalIf (Known all) m n (items_at closing item s all n) (items_at closing item₂ t all n))
          → (o : Parse L) → item before i ≡ o → LocalIf (Known before) m i (items_at closing item s before i) (items_at closing item₂ t before i)
      go rec (refused c p) q =
          rw (items_refused r closing q) (λ b. let x = items before i l (rw q b) in (x.0, λ known. items_refused r₂ closing (x.1 known ∙ q)))
      go rec (parsed all e) q =
          let k : ℕ = skip s e in
          let w = item_takes r q in
          let ek : (e ≤ k) × (k ≤ length s) = (run-from is_space s e, run_within is_space s e w.1) in
          let n : ℕ = skip s (k + 1) in
          let kn : k + 1 ≤ n = run-from is_space s (k + 1) in
          let same : k < m → Known before → (item₂ before i ≡ parsed all e) × (k ≡ skip t e) × (byte_at t k ≡ byte_at s k) =
          λ b known. ((items before i l (rw q (omega arith))).1 known ∙ q, sym (runs g is_space e b), g.bytes k b) in
          by_test (eqb (byte_at s k) 0x2C)
          (λ u. let z : byte_at s k ≡ 0x2C = eqb-true _ _ u in
          let kl = in_text s k (omega arith) in
          rw (items_next r closing q refl z)
          (λ b. let y = rec all n (run_within is_space s (k + 1) (omega arith)) (omega arith) b in (
            omega arith,
            λ known. let x = same (omega arith) known in
                items_next r₂ closing x.0 x.1 (x.2 ∙ z) ∙ ap (items_at closing item₂ t all) (runs g is_space (k + 1) y.0)
                ∙ y.1 (keep before all i e known q (omega arith)),
          )))
          (λ u. by_test (eqb (byte_at s k) closing)
          (λ v. let z : byte_at s k ≡ closing = eqb-true _ _ v in
          let d : closing ≡ 0x2C → ⊥ = λ c. eqb-false _ _ u (z ∙ c) in
          rw (items_close r closing q refl d z)
          (λ b. (omega arith, λ known. let x = same (omega arith) known in items_close r₂ closing x.0 x.1 d (x.2 ∙ z))))
          (λ v. rw (items_bad r closing q refl (eqb-false _ _ u) (eqb-false _ _ v))
          (λ b. let y = unexpected_local g L k b in (
            omega arith,
            λ known. let x = same y.0 known in
                items_bad r₂ closing x.0 x.1 (λ c. eqb-false _ _ u (sym x.2 ∙ c)) (λ c. eqb-false _ _ v (sym x.2 ∙ c)) ∙ y.1,
          ))))

  list_local : (empty : L) (i : ℕ) → i < length s → Known empty → Local m i (list_at closing item s empty i) (list_at closing item₂ t empty i)
  list_local empty i l known =
      let j : ℕ = skip s (i + 1) in
      let ij : (i + 1 ≤ j) × (j ≤ length s) = (run-from is_space s (i + 1), run_within is_space s (i + 1) (omega arith)) in
      by_test (eqb (byte_at s j) closing)
      (λ u. let z : byte_at s j ≡ closing = eqb-true _ _ u in
      rw (list_empty closing item s empty i refl z)
      (λ h. let jm : j < m = omega arith in (omega arith, list_empty closing item₂ t empty i (sym (runs g is_space (i + 1) jm)) (g.bytes j jm ∙ z))))
      (λ u. let n = eqb-false (byte_at s j) closing u in
      rw (list_items closing item s empty i refl n)
      (λ h. let y = items_local (suc (length s)) empty j ij.1 (omega arith) h in
      (omega arith, list_items closing item₂ t empty i (sym (runs g is_space (i + 1) y.0)) (λ c. n (sym (g.bytes j y.0) ∙ c)) ∙ y.1 known)))

-- ---- members

-- every name ends by m
abbrev Known : ℕ → Members → Type 0
Known m no_member = Unit
Known m (member f e n ms) = (f + 1 ≤ e - 1) × (e ≤ m) × Known m ms

known_add : (m : ℕ) (ms : Members) (f e : ℕ) (n : Node) → Known m ms → f + 1 ≤ e - 1 → e ≤ m → Known m (add_member ms f e n)
known_add m no_member f e n k a b = (a, b, tt)
known_add m (member g h v ms) f e n k a b = (k.0, k.1, known_add m ms f e n k.2 a b)

module _ {s t : List ℕ} {m : ℕ} (g : Agree s t m) where
  name_same : (f e : ℕ) → f + 1 ≤ e - 1 → e ≤ m → name_of t f e ≡ name_of s f e
  name_same f e l h = ap characters (part_steady g (e - 1 - (f + 1)) (f + 1) (e - 1) (omega arith) (omega arith))

  repeated_same : (ms : Members) (n : List ℕ) → Known m ms → repeated t ms n ≡ repeated s ms n
  unfolding repeated
  repeated_same no_member n k = refl
  repeated_same (member f e v ms) n k = rw (name_same f e k.0 k.1, repeated_same ms n k.2)

  module _ (v v₂ : ℕ → Parse Node) (values : (i : ℕ) → i ≤ length s → Local m i (v i) (v₂ i)) where
    element_local : (before : Nodes) (i : ℕ) → i ≤ length s → LocalIf Unit m i (element_at v before i) (element_at v₂ before i)
    element_local before i l h = let x = then_local (v i) (v₂ i) _ _ (values i l) (λ n e b. (b, refl)) h in (x.0, λ _. x.1)

    module _ (before : Members) (i : ℕ) (l : i ≤ length s) where
      abbrev MemberLocal : Type 0
      MemberLocal = LocalIf (Known m before) m i (member_at v s before i) (member_at v₂ t before i)

      -- behind a name from i up to e, which the other text has too
      colon : byte_at s i ≡ 0x22 → (e : ℕ) → string_at s (i + 1) ≡ Ok e → repeated s before (name_of s i e) ≡ false
          → (Known m before → e ≤ m → (byte_at t i ≡ 0x22) × (string_at t (i + 1) ≡ Ok e) × (repeated t before (name_of t i e) ≡ false)) → MemberLocal
      colon o e q n other =
          let b = string_close s (i + 1) e q in
          let j : ℕ = skip s e in
          let ej : (e ≤ j) × (j ≤ length s) = (run-from is_space s e, run_within is_space s e b.1) in
          let k : ℕ = skip s (j + 1) in
          let jk : j + 1 ≤ k = run-from is_space s (j + 1) in
          let name = name_new s before i o q n in
          by_test (eqb (byte_at s j) 0x3A)
          (λ u. let z : byte_at s j ≡ 0x3A = eqb-true _ _ u in
          let jn = in_text s j (omega arith) in
          let f : Node → ℕ → Parse Members = λ n p. parsed (add_member before i e n) p in
          rw (member_value v s before i name refl z)
          (λ h. let y = then_local (v k) (v₂ k) f f (values k (run_within is_space s (j + 1) (omega arith))) (λ n e b. (b, refl)) h in (
            omega arith,
            λ known. let x = other known (omega arith) in
                member_value v₂ t before i (name_new t before i x.0 x.1 x.2) (sym (runs g is_space e (omega arith))) (g.bytes j (omega arith) ∙ z)
                ∙ ap (λ (k : ℕ). then (v₂ k) f) (runs g is_space (j + 1) y.0) ∙ y.1,
          )))
          (λ u. let z = eqb-false (byte_at s j) 0x3A u in
          rw (member_bare v s before i name refl z)
          (λ h. let y = unexpected_local g Members j h in (
            omega arith,
            λ known. let x = other known (omega arith) in
                member_bare v₂ t before i (name_new t before i x.0 x.1 x.2) (sym (runs g is_space e y.0)) (λ c. z (sym (g.bytes j y.0) ∙ c))
                ∙ y.1,
          )))

      member_local : MemberLocal
      member_local =
          by_test (eqb (byte_at s i) 0x22)
          (λ u. let o : byte_at s i ≡ 0x22 = eqb-true _ _ u in
          let n = in_text s i (omega arith) in quote o (omega arith) (string_at s (i + 1)) refl (string_sound s (i + 1) (omega arith)))
          (λ u. let n = eqb-false (byte_at s i) 0x22 u in
          rw (no_quote v s before i n)
          (λ h. let y = unexpected_local g Members i h in
          (y.0, λ _. no_quote v₂ t before i (λ c. n (sym (g.bytes i y.0) ∙ c)) ∙ y.1)))
        where
          quote : byte_at s i ≡ 0x22 → i + 1 ≤ length s → (x : Reading ℕ) → string_at s (i + 1) ≡ x → Scanned s (i + 1) x → MemberLocal
          quote o il (Err r) q b =
              rw (name_stopped s before i o q)
              (λ h. let im : i < m = omega (arith, b.0.ahead) in
              (im, λ _. rw (name_stopped t before i (g.bytes i im ∙ o) (string_steady g (i + 1) il (rw q h) ∙ q))))
          quote o il (Ok e) q b =
              let w = string_close s (i + 1) e q in
              let other : e ≤ m → (byte_at t i ≡ 0x22) × (string_at t (i + 1) ≡ Ok e) × (name_of t i e ≡ name_of s i e) =
              λ h. (g.bytes i (omega arith) ∙ o, string_steady g (i + 1) il (rw q (omega arith)) ∙ q, name_same i e (omega arith) h) in
              by_test (repeated s before (name_of s i e))
              (λ u. rw (name_again s before i o q u)
              (λ h. (
                omega arith,
                λ known. let x = other (omega arith) in
                    rw (name_again t before i x.0 x.1 (rw (x.2, repeated_same before (name_of s i e) known) u)),
              )))
              (λ u. colon o e q u (λ known h. let x = other h in (x.0, x.1, rw (x.2, repeated_same before (name_of s i e) known) u)))

    member_keep : (before all : Members) (i e : ℕ) → Known m before → member_at v s before i ≡ parsed all e → e < m → Known m all
    member_keep before all i e k q h =
        let x = member_parsed v s before i q in
        let n = name_parsed s before i x.name in
        let b = string_close s (i + 1) x.behind n.1 in
        let cl = in_text s x.colon (omega (arith, x.sign)) in
        let p : ℕ = skip s (x.colon + 1) in
        let pm : p < m = (values p (run_within is_space s (x.colon + 1) (omega arith)) (rw x.value h)).0 in
        rw x.added (known_add m before i x.behind x.node k (omega arith)
        (omega (arith, x.place, run-from is_space s x.behind, run-from is_space s (x.colon + 1))))

-- ---- values

module _ {s t : List ℕ} {m : ℕ} (g : Agree s t m) where
  leaf_local : (i : ℕ) → Local m i (leaf_at s i) (leaf_at t i)
  leaf_local i = then_local (scalar_at s i) (scalar_at t i) _ _ (scalar_local g i) (λ k e b. (b, refl))

  -- by the first byte
  by_first : (i : ℕ) (a o a₂ o₂ : ℕ → Parse Node) (f : First)
      → (f ≡ Array → Local m i (a i) (a₂ i)) → (f ≡ Object → Local m i (o i) (o₂ i)) → Local m i (value_by f a o s i) (value_by f a₂ o₂ t i)
  by_first i a o a₂ o₂ Array p q = p refl
  by_first i a o a₂ o₂ Object p q = q refl
  by_first i a o a₂ o₂ Quote p q = leaf_local i
  by_first i a o a₂ o₂ Number p q = leaf_local i
  by_first i a o a₂ o₂ LetterN p q = leaf_local i
  by_first i a o a₂ o₂ LetterF p q = leaf_local i
  by_first i a o a₂ o₂ LetterT p q = leaf_local i
  by_first i a o a₂ o₂ Other p q = leaf_local i

  value_local : (d i : ℕ) → i ≤ length s → Local m i (value_at d s i) (value_at d t i)
  unfolding value_at
  value_local zero i l h =
      let x = by_first i (λ j. refused TooDeep j) (λ j. refused TooDeep j) (λ j. refused TooDeep j) (λ j. refused TooDeep j) (first_of (byte_at s i)) (λ _ b. (b, refl))
      (λ _ b. (b, refl)) h in
      (x.0, rw (g.bytes i x.0) x.1)
  value_local (suc d) i l h =
      let v = value_at d s in
      let v₂ = value_at d t in
      let x = by_first i (array_at v s) (object_at v s) (array_at v₂ t) (object_at v₂ t) (first_of (byte_at s i))
      (λ q. let n = in_text s i (omega (arith, first_array (byte_at s i) q)) in
      then_local (list_at 0x5D (element_at v) s none i) (list_at 0x5D (element_at v₂) t none i) _ _
      (list_local g (element_reads s d) (element_reads t d) (λ _. Unit {0}) (λ _ _ _ _ _ _ _. tt) (element_local g v v₂ (value_local d)) 0x5D
      (omega arith) none i n tt)
      (λ _ e b. (b, refl)))
      (λ q. let n = in_text s i (omega (arith, first_object (byte_at s i) q)) in
      then_local (list_at 0x7D (member_at v s) s no_member i) (list_at 0x7D (member_at v₂ t) t no_member i) _ _
      (list_local g (member_reads s d) (member_reads t d) (Known m) (member_keep g v v₂ (value_local d)) (member_local g v v₂ (value_local d)) 0x7D
      (omega arith)
      no_member i n tt) (λ _ e b. (b, refl))) h in
      (x.0, rw (g.bytes i x.0) x.1)

  -- ---- texts

  alone_local : (n : Node) (e : ℕ) → Local m e (alone s n e) (alone t n e)
  unfolding alone
  alone_local n e =
      let l = run-from is_space s e in
      both (λ (o : Parse Node). place o < m → (e < m) × (alone t n e ≡ o)) (ltb (skip s e) (length s))
      (λ _ h. (omega arith, rw (runs g is_space e h, lt-ltb (skip s e) (length t) (omega (arith, g.in_t)))))
      (λ u h. absurd (omega (arith, ltb-false (skip s e) (length s) u, g.in_s)))

  -- an outcome whose place lies before m is that of every text that agrees below m
  pub text_steady : (d : ℕ) → Steady m (whole_at d s) (whole_at d t)
  text_steady d h =
      let j : ℕ = skip s 0 in
      let x = then_local (value_at d s j) (value_at d t j) _ _ (value_local d j (run_within is_space s 0 (omega arith))) alone_local h in
      ap (λ (k : ℕ). then (value_at d t k) (λ n e. alone t n e)) (runs g is_space 0 x.0) ∙ x.1
