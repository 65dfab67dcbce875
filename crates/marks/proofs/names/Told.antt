-- What is told of the name at a place: no quote, a string that is refused, a name that a member before has, and another name.
use mathlib.Core.Path.{◌≡◌, sym, ap, ◌∙◌}
use mathlib.Core.Bool.{Bool, true, false}
use mathlib.Core.List.{List}
use Prim.Native.Nat.{ℕ, ◌+◌, ◌-◌, ◌%◌, ◌<◌}
use native.Mathlib.Omega.{arith}
use Rattle.chars.specs.Bytes.{byte_at}
use Rattle.chars.specs.Hashing.{hash_of, hashed, hashed_at}
use Rattle.std.specs.Prelude.{Ok, Err}
use Rattle.chars.specs.Characters.{refusal_at}
use Rattle.chars.specs.Refusals.{refusal}
use Rattle.chars.specs.declared.refusals.Refusal.{Refusal}
use Rattle.chars.specs.declared.refusals.Code.TheVariants.{NotAllowed, NameTwice}
use Rattle.tokens.proofs.Facts.{unexpected_read}
use Rattle.chars.proofs.Facts.{hash_small, name_hashed, name_broken}
use Rattle.tokens.specs.Spelling.{IsQuoted}
use Rattle.syntax.specs.Tree.{Members}
use Rattle.syntax.specs.Rows.{sizes_members}
use Rattle.syntax.specs.Grammar.{name_of, repeated}
use Rattle.syntax.proofs.Facts.{name_bare, name_stopped, name_again, name_new}
use Rattle.marks.specs.Names.{Fresh, Kept, Seen, hashed_of, NameTold}
use Rattle.marks.proofs.names.Owners.{kept_seen}

-- a string was read from i up to e, with the hash of its characters
pub record NameRead (s : List ℕ) (i e hash : ℕ) : Type 0 where
  pub quoted : IsQuoted s i e
  pub is : hash ≡ hash_of (name_of s i e)
  pub small : hash < 65536

pub name_read : {s : List ℕ} {i e hash : ℕ} → byte_at s i ≡ 0x22 → hashed_at s (i + 1) ≡ Ok (hashed e hash) → NameRead s i e hash
name_read {s} {i} {e} {hash} b q =
    let h = name_hashed s (i + 1) e hash q in
    record { quoted = record { opens = b; ends = h.0 }; is = h.1; small = omega (arith, h.1, hash_small (name_of s i e)) }

module _ {s ms : List ℕ} {o i : ℕ} where
  pub told_bare : {r : Refusal} → (byte_at s i ≡ 0x22 → ⊥) → r ≡ refusal_at s i NotAllowed → NameTold s ms o i (Err r)
  told_bare n q = record {
    tells = λ before k f. unexpected_read _ s i q ∙ sym (ap (hashed_of s o i) (name_bare s before i n));
  }

  pub told_broken : {r : Refusal} → byte_at s i ≡ 0x22 → hashed_at s (i + 1) ≡ Err r → NameTold s ms o i (Err r)
  told_broken {r} b q = record {
    tells = λ before k f. ap (hashed_of s o i) (sym (name_stopped s before i b (name_broken s (i + 1) r q)));
  }

  -- the marks were searched for the name
  module _ {e hash : ℕ} {t : Bool} (m : o < 65536) (r : NameRead s i e hash) (w : Seen s ms o ((hash + o) % 65536) (name_of s i e) t) where
    searched : (before : Members) → Kept s o ms (o + 1) before → Fresh ms (o + 1 + sizes_members before) → repeated s before (name_of s i e) ≡ t
    searched before k f = kept_seen before m k f (name_of s i e) t (rw r.is at w)

    pub told_again : t ≡ true → NameTold s ms o i (Err (refusal NameTwice (e - 1)))
    told_again z = record {
      tells = λ before k f. ap (hashed_of s o i) (sym (name_again s before i r.quoted.opens r.quoted.ends (searched before k f ∙ z)));
    }

    pub told_new : t ≡ false → NameTold s ms o i (Ok (hashed e ((hash + o) % 65536)))
    told_new z = record {
      tells = λ before k f.
          (let new = name_new s before i r.quoted.opens r.quoted.ends (searched before k f ∙ z) in
          rw r.is (ap (hashed_of s o i) (sym new)));
    }
