-- Values in the first pass, by what they begin with: what is told of each kind.
use mathlib.Core.Path.{◌≡◌, refl, sym, ap, ◌∙◌}
use mathlib.Core.Logic.{inl, inr}
use mathlib.Core.List.{List, [], ◌∷◌}
use Prim.Native.Nat.{ℕ, ◌+◌, ◌-◌, ◌≤◌, ◌<◌}
use native.Mathlib.Omega.{arith}
use types.Run.{OneOf}
use denote.Enum.Declared.{tag_of}
use lib.ListN.{length, take, set}
use lib.Seq.{slice_empty, take-set-le}
use Rattle.chars.specs.Bytes.{byte_at}
use Rattle.tokens.specs.Parse.{Parse, refused, parsed}
use Rattle.tokens.specs.declared.tokens.Kind.{Kind}
use Rattle.tokens.specs.declared.tokens.Kind.TheVariants.{Whole}
use Rattle.tokens.specs.Scalars.{first_of, scalar_at}
use Rattle.tokens.specs.declared.scalars.First.{First}
use Rattle.tokens.specs.declared.scalars.First.TheVariants.{Array, Object, Number}
use Rattle.tokens.specs.Integers.{integer_end}
use Rattle.tokens.proofs.Facts.{first_array, first_object, scalar_bounded, integer_read}
use Rattle.tokens.specs.contracts.scalars.First.{the_type}
use Rattle.syntax.specs.Tree.{Node}
use Rattle.syntax.specs.Rows.{Entry, size}
use Rattle.syntax.specs.Grammar.{array_at, object_at, leaf_at, value_at}
use Rattle.marks.specs.Marks.{leaf_mark, mark_entry, mark_entries}
use Rattle.reader.specs.Scanning.{Begun, LeafReady, Ready, LeafAfter, LeafTold, Marked, After, Told}
use Rattle.reader.specs.declared.scanning.Scanned.{Scanned}
use Rattle.syntax.proofs.Facts.{byte_in, value_deep_array, value_array, value_deep_object, value_object, first_opens, first_leaf, value_leaf}
use Rattle.syntax.proofs.Facts.{leaf_parsed}
use Rattle.reader.proofs.scanning.Leaves.{LeafRead, leaf_fits, leaf_noted}
use Rattle.model.proofs.Basics.{never}
use Rattle.marks.proofs.Facts.{entries_cons, entries_none, fresh_later, within_empty}
use Rattle.reader.proofs.scanning.Slices.{slice_header}
use Rattle.reader.proofs.scanning.Told.{told_refused}
use Rattle.reader.proofs.scanning.Lists.{Filled, header_index, header_fresh, header_owned}
use Rattle.std.specs.Prelude.{Ok, Err, Option, Some}
use Rattle.chars.specs.Refusals.{refusal, Reading}
use Rattle.reader.specs.Scanning.{scanned}
use Rattle.tokens.specs.Tokens.{kind_number, token}
use Rattle.chars.specs.declared.refusals.Code.TheVariants.{TooDeep}

-- more brackets are open than may be
pub told_deep : {s : List ℕ} {i : ℕ} {f : First} {d row : ℕ} {ms hs₂ ms₂ : List ℕ} → Begun s i f → OneOf (0 ∷ 1 ∷ []) (tag_of the_type f) → d ≡ 0
    → Told s (value_at d s i) (Err (refusal TooDeep i)) row ms hs₂ ms₂
told_deep {s} {i} {f} {d} b h n =
    told_refused (elim (first_opens f h) [ inl q ↦ value_deep_array d s i (sym b.first ∙ q) n | inr q ↦ value_deep_object d s i (sym b.first ∙ q) n ])

-- f begins the value at i, an array or an object that may open
pub record Opening (s hs ms : List ℕ) (d row i : ℕ) (f : First) : Type 0 where
  pub ready : Ready s hs ms d row i
  pub begun : Begun s i f
  pub some : d ≡ 0 → ⊥

module _ {s hs ms : List ℕ} {d row i : ℕ} {f : First} (b : Opening s hs ms d row i f) where
  opening_ready : Ready s hs ms (d - 1 + 1) row i
  opening_ready = let z : d - 1 + 1 ≡ d = omega (arith, b.some) in rw z b.ready

  module _ (q : f ≡ Array) where
    pub array_opens : Ready s hs ms (d - 1 + 1) row i × (i < length s)
    array_opens = (opening_ready, byte_in s i 0x5B (omega arith) (first_array (byte_at s i) (sym b.begun.first ∙ q)))

    pub told_array : {r : Reading Scanned} {hs₂ ms₂ : List ℕ} → Told s (array_at (value_at (d - 1) s) s i) r row ms hs₂ ms₂ → Told s (value_at d s i) r row ms hs₂ ms₂
    told_array o = rw (value_array d s i (sym b.begun.first ∙ q) b.some) o

  module _ (q : f ≡ Object) where
    pub object_opens : Ready s hs ms (d - 1 + 1) row i × (i < length s)
    object_opens = (opening_ready, byte_in s i 0x7B (omega arith) (first_object (byte_at s i) (sym b.begun.first ∙ q)))

    pub told_object : {r : Reading Scanned} {hs₂ ms₂ : List ℕ} → Told s (object_at (value_at (d - 1) s) s i) r row ms hs₂ ms₂ → Told s (value_at d s i) r row ms hs₂ ms₂
    told_object o = rw (value_object d s i (sym b.begun.first ∙ q) b.some) o

-- there is a place for the row of a value that holds no other
pub leaf_ready : {s hs ms : List ℕ} {d row i : ℕ} → Ready s hs ms d row i → LeafReady s ms row i
leaf_ready r = record { short = r.room.short; free = λ l. omega (arith, r.rowed, r.room.rows) }

-- what is told of a value that holds no other is told of a value
module _ {s hs ms : List ℕ} {d row i : ℕ} (ms₂ : List ℕ) (p : Ready s hs ms d row i) where
  leaf_marked : (n : Node) (e : ℕ) → leaf_at s i ≡ parsed n e → LeafAfter (parsed n e) row ms ms₂ → Marked s n row ms hs ms₂
  leaf_marked n e q a =
      let k = leaf_parsed s q in
      let z : size n ≡ 1 = ap size k.1 in
      let x = a.0 in
      let w = leaf_in k.2 in
      let v = p.fresh.none row (omega arith) in
      let g : Filled s row hs ms (row + 1) = record { index = p.index; fresh = fresh_later (omega arith) p.fresh; owned = within_empty } in
      record {
        index = rw a.1 (header_index g (omega arith) w x v a.3);
        fresh = rw (z, a.1) (header_fresh g (omega arith) w x v a.3);
        below = ap (take row) a.1 ∙ take-set-le row ms row x (omega arith);
        rows =
            rw (z, a.1)
            (ap mark_entries (slice_header row (row + 1) x ms (omega arith) (omega arith) ∙ rw slice_empty)
            ∙ entries_cons x []
            ∙ ap (λ (ys : List Entry). mark_entry x ∷ ys) entries_none
            ∙ a.2);
        owned = rw (z, a.1) (header_owned g (omega arith) w x v a.3);
      }
    where
      leaf_in : {k : Kind} → scalar_at s i ≡ parsed k e → row < length ms
      leaf_in v = let b : (i < e) × (e ≤ length s) = rw v at (scalar_bounded s i) in omega (arith, p.rowed, p.room.rows)

  leaf_after : (o : Parse Node) → leaf_at s i ≡ o → LeafAfter o row ms ms₂ → After s o row ms hs ms₂
  leaf_after (refused c q) z a = tt
  leaf_after (parsed n e) z a = leaf_marked n e z a

  -- its first byte opens neither an array nor an object
  as_leaf : {r : Reading Scanned} → (first_of (byte_at s i) ≡ Array → ⊥) → (first_of (byte_at s i) ≡ Object → ⊥) → LeafTold (leaf_at s i) r row ms ms₂
      → Told s (value_at d s i) r row ms hs ms₂
  as_leaf m n o = rw (value_leaf d s i m n) (record { scan = o.scan; after = leaf_after (leaf_at s i) refl o.after })

pub told_leaf : {s hs ms ms₂ : List ℕ} {d row i : ℕ} {f : First} {r : Reading Scanned} → Ready s hs ms d row i × Begun s i f
    → OneOf (2 ∷ 3 ∷ 4 ∷ 5 ∷ 6 ∷ 7 ∷ []) (tag_of the_type f) → LeafTold (leaf_at s i) r row ms ms₂ → Told s (value_at d s i) r row ms hs ms₂
told_leaf {f = f} p h o = let n = first_leaf f h in as_leaf _ p.0 (λ e. n.0 (p.1.first ∙ e)) (λ e. n.1 (p.1.first ∙ e)) o

not_array : Number ≡ Array → ⊥
not_array q = never (cc)

not_object : Number ≡ Object → ⊥
not_object q = never (cc)

-- a number of digits alone stands at i, up to e
module _ {s hs ms : List ℕ} {d row i e : ℕ} {r : Option ℕ} (p : Ready s hs ms d row i) (ends : r ≡ integer_end s i) (some : r ≡ Some e) where
  integer_is : (first_of (byte_at s i) ≡ Number) × (scalar_at s i ≡ parsed Whole e)
  integer_is = integer_read s i e (sym ends ∙ some)

  integer_leaf : LeafRead s ms row i (Ok (token Whole e))
  integer_leaf = record { ready = leaf_ready p; is = rw integer_is.1 }

  pub integer_fits : ((kind_number Whole < 65536) × (i < e) × (e ≤ 65536)) × (row < length ms)
  integer_fits = leaf_fits integer_leaf refl

  pub told_integer : {m : ℕ} → m ≡ leaf_mark (kind_number Whole) i e → Told s (value_at d s i) (Ok (scanned e 1)) row ms hs (set ms row m)
  told_integer {m} q =
      let f = sym integer_is.0 in as_leaf (set ms row m) p (λ z. not_array (f ∙ z)) (λ z. not_object (f ∙ z)) (leaf_noted integer_leaf refl q)
