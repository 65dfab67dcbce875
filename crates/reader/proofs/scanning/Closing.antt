-- What stands behind an item: looked for at once, and behind the space after it.
use mathlib.Core.Path.{◌≡◌, refl, ap, ◌∙◌}
use mathlib.Core.Logic.{inl, inr}
use mathlib.Core.List.{List, [], ◌∷◌}
use mathlib.Core.Bool.{false}
use Prim.Native.Nat.{ℕ, ◌<◌}
use native.Mathlib.Omega.{arith}
use types.Run.{OneOf}
use denote.Enum.Declared.{tag_of}
use Rattle.chars.specs.Bytes.{byte_at}
use Rattle.tokens.specs.Space.{is_space, skip}
use Rattle.chars.proofs.Facts.{run_stop}
use Rattle.reader.specs.Scanning.{Follows}
use Rattle.reader.specs.declared.scanning.Following.{Following}
use Rattle.reader.specs.declared.scanning.Following.TheVariants.{Closing, Item, Other}
use Rattle.reader.specs.contracts.scanning.Following.{the_type}

-- ---- signs are no space

pub array_closing : (0 < 0x5D) × (is_space 0x5D ≡ false)
unfolding is_space
array_closing = (omega arith, refl)

pub object_closing : (0 < 0x7D) × (is_space 0x7D ≡ false)
unfolding is_space
object_closing = (omega arith, refl)

pub colon_sign : is_space 0x3A ≡ false
unfolding is_space
colon_sign = refl

comma_sign : is_space 0x2C ≡ false
unfolding is_space
comma_sign = refl

-- where a sign stands, there is no space to pass
pub sign_stops : (s : List ℕ) (i b : ℕ) → is_space b ≡ false → byte_at s i ≡ b → skip s i ≡ i
sign_stops s i b n q = run_stop is_space s i (ap is_space q ∙ n)

-- ---- told at once, or behind the space

module _ (closing : ℕ) (s : List ℕ) (e : ℕ) where
  -- the closing byte or a comma stands there already
  pub follows_soon : (r : Following) → is_space closing ≡ false → OneOf (0 ∷ 1 ∷ []) (tag_of the_type r) → Follows closing s e r → Follows closing s (skip s e) r
  follows_soon (Closing f) n _ h = rw (sign_stops s e closing n h.0) h
  follows_soon (Item i) n _ h = rw (sign_stops s e 0x2C comma_sign h.0) h
  follows_soon (Other i) n (inl q) h = absurd (omega arith)
  follows_soon (Other i) n (inr q) h = absurd (omega arith)

  pub follows_later : {r : Following} {i j : ℕ} (r₂ : Following) → r ≡ Other i → Follows closing s e r → j ≡ skip s i → Follows closing s j r₂
      → Follows closing s (skip s e) r₂
  follows_later {r} {i} {j} r₂ q h z k =
      let o : (i ≡ e) × (byte_at s e ≡ 0x2C → ⊥) × (byte_at s e ≡ closing → ⊥) = rw q at h in
      let y : j ≡ skip s e = z ∙ ap (skip s) o.0 in
      rw y at k
