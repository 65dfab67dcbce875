-- Values that hold no other, in the first pass on plain values: what was read, and the row that is kept of it.
use mathlib.Core.Path.{◌≡◌, refl, sym, ap, ◌∙◌}
use mathlib.Core.List.{List, [], ◌∷◌}
use Prim.Native.Nat.{ℕ, ◌≤◌, ◌<◌}
use native.Mathlib.Omega.{arith}
use lib.ListN.{length, set}
use Rattle.tokens.specs.Parse.{Parse, refused, parsed}
use Rattle.tokens.specs.declared.tokens.Kind.{Kind}
use Rattle.tokens.specs.declared.tokens.Kind.TheVariants.{Null, False, True, Whole, Fractional, Quoted}
use Rattle.tokens.specs.Tokens.{kind_number, token, token_of}
use Rattle.tokens.specs.Scalars.{scalar_by, scalar_at}
use Rattle.tokens.specs.declared.scalars.First.{First}
use Rattle.tokens.specs.declared.tokens.Token.{Token}
use Rattle.tokens.proofs.Facts.{scalar_bounded}
use Rattle.syntax.specs.Rows.{Entry}
use Rattle.syntax.specs.Grammar.{leaf_at}
use Rattle.marks.specs.Marks.{leaf_mark, is_name, mark_entry}
use Rattle.reader.specs.Scanning.{Begun, LeafReady, LeafTold}
use Rattle.marks.proofs.Facts.{leaf_entry, leaf_unnamed}
use Rattle.model.proofs.Basics.{never}
use Rattle.std.specs.Prelude.{Ok, Err}
use Rattle.chars.specs.Refusals.{Reading}
use Rattle.chars.specs.declared.refusals.Refusal.{Refusal}
use Rattle.reader.specs.Scanning.{scanned}
use Rattle.reader.proofs.scanning.Outcomes.{read_refused}

kind_small : (k : Kind) → kind_number k < 65536
kind_small Null = omega arith
kind_small False = omega arith
kind_small True = omega arith
kind_small Whole = omega arith
kind_small Fractional = omega arith
kind_small Quoted = omega arith

token_broken : (o : Parse Kind) {bad : Refusal} → token_of o ≡ Err bad → o ≡ refused bad.code bad.place
token_broken o q = read_refused token o q

token_taken : (o : Parse Kind) {k : Kind} {e : ℕ} → token_of o ≡ Ok (token k e) → o ≡ parsed k e
token_taken (refused c p) q = never (cc)
token_taken (parsed n f) {k} {e} q =
    let z : token n f ≡ token k e = cc in
    ap (λ (x : Token). parsed x.kind x.end) z

-- x is what was read
pub record LeafRead (s ms : List ℕ) (row i : ℕ) (x : Reading Token) : Type 0 where
  pub ready : LeafReady s ms row i
  pub is : x ≡ token_of (scalar_at s i)

-- the token is that of the value, since it begins so
pub leaf_read : {s ms : List ℕ} {row i : ℕ} {f : First} {x : Reading Token} → LeafReady s ms row i × Begun s i f → x ≡ token_of (scalar_by f s i) → LeafRead s ms row i x
leaf_read {s} {i = i} p q = record { ready = p.0; is = q ∙ ap (λ (f : First). token_of (scalar_by f s i)) p.1.first }

module _ {s ms : List ℕ} {row i : ℕ} {x : Reading Token} (l : LeafRead s ms row i x) where
  pub leaf_broken : {bad : Refusal} → x ≡ Err bad → LeafTold (leaf_at s i) (Err bad) row ms ms
  leaf_broken z = rw (token_broken (scalar_at s i) (sym l.is ∙ z)) (record { scan = refl; after = refl })

  module _ {k : Kind} {e : ℕ} (z : x ≡ Ok (token k e)) where
    abbrev taken : scalar_at s i ≡ parsed k e
    taken = token_taken (scalar_at s i) (sym l.is ∙ z)

    pub leaf_fits : ((kind_number k < 65536) × (i < e) × (e ≤ 65536)) × (row < length ms)
    leaf_fits =
        let b : (i < e) × (e ≤ length s) = rw taken at (scalar_bounded s i) in
        ((kind_small k, b.0, omega (arith, l.ready.short)), l.ready.free (omega arith))

    pub leaf_noted : {m : ℕ} → m ≡ leaf_mark (kind_number k) i e → LeafTold (leaf_at s i) (Ok (scanned e 1)) row ms (set ms row m)
    leaf_noted {m} w =
        let f = leaf_fits.0 in
        rw taken (record {
          scan = refl;
          after = (
            m,
            refl,
            ap (λ (y : ℕ). mark_entry y ∷ []) w ∙ ap (λ (y : Entry). y ∷ []) (leaf_entry (kind_number k) i e f.0 f.1 f.2),
            ap is_name w ∙ leaf_unnamed (kind_number k) i e f.0 f.1 f.2,
          );
        })
