-- Tree, the tests that the bytes of a character pass one after the other: what its walk reads or refuses is sound, and what its language spells is read.
use Prim.Native.Nat.{ℕ, suc, ◌+◌, ◌≤◌, ◌<◌}
use mathlib.Core.Path.{◌≡◌, refl, ap, ◌∙◌, subst}
use mathlib.Core.Logic.{inl, inr}
use mathlib.Core.Bool.{Bool, true, false, cond}
use mathlib.Core.List.{List, [], ◌∷◌}
use native.Mathlib.Omega.{arith}
use native.Mathlib.Decide.{dec_lt}
use lib.ListN.{length}
use lib.Dec.{ltb}
use borrow.Author.Tests.{ltb-true, ltb-false}
use Rattle.model.proofs.Basics.{clash, both}
use Rattle.chars.specs.Bytes.{byte_at}
use Rattle.std.specs.Prelude.{Ok, Err}
use Rattle.chars.specs.Refusals.{number, refusal, Reading}
use Rattle.chars.specs.declared.refusals.Code.{Code}
use Rattle.chars.specs.declared.refusals.Code.TheVariants.{Ended}
use Rattle.chars.specs.declared.refusals.Refusal.{Refusal}
use Rattle.chars.specs.Characters.{refusal_at, stop_at}
use Rattle.chars.specs.declared.characters.Step.{Step}
use Rattle.chars.specs.declared.characters.Step.TheVariants.{Char, Quote}
use Rattle.chars.proofs.Facts.{in_text}
use Rattle.tokens.proofs.Facts.{part_none}
use Rattle.grammar.proofs.Pieces.{At, between_one, Spelled, Begun, Stop, begun_none, begun_same, spelled_in, begun_in}

-- a character; or a byte that has to pass a test, the code of one that does not, and what follows it
pub data Tree : Type 0 where
  give : ℕ → Tree
  next : (ℕ → Bool) → (ℕ → Code) → (ℕ → Tree) → Tree

-- what is read at i
abbrev pub walk : Tree → List ℕ → ℕ → Reading Step
walk (give v) s i = Ok (Char v i)
walk (next t c f) s i = let r = walk (f (byte_at s i)) s (i + 1) in cond (t (byte_at s i)) r (stop_at s i (c (byte_at s i)))

-- the bytes that it takes, and the character that they spell
abbrev pub Lang : Tree → List ℕ → ℕ → Type 0
Lang (give v) [] u = v ≡ u
Lang (give v) (b ∷ w) u = ⊥
Lang (next t c f) [] u = ⊥
Lang (next t c f) (b ∷ w) u = (t b ≡ true) × Lang (f b) w u

-- no test takes a 0, each takes some byte, and every code is above 2
abbrev pub Good : Tree → Type 0
Good (give v) = Unit
Good (next t c f) = (t 0 ≡ false) × (b : ℕ) × (t b ≡ true) × ((b : ℕ) → t b ≡ true → Good (f b)) × ((b : ℕ) → 3 ≤ number (c b))

-- it takes something
some : (x : Tree) → Good x → (w : List ℕ) × (v : ℕ) × Lang x w v
some (give v) g = ([], v, refl)
some (next t c f) g = let r = some (f g.1) (g.3 g.1 g.2) in (g.1 ∷ r.0, r.1, (g.2, r.2))

-- a byte that passes a test stands in the text
pub passes_in : (t : ℕ → Bool) → t 0 ≡ false → (s : List ℕ) (i : ℕ) → t (byte_at s i) ≡ true → i < length s
passes_in t z s i h = go (dec_lt 0 (byte_at s i))
  where
    go : Dec (0 < byte_at s i) → i < length s
    go (yes l) = in_text s i l
    go (no n) = let e : byte_at s i ≡ 0 = omega arith in clash (t 0) (subst (λ (b : ℕ). t b ≡ true) e h) z

-- soundness of a step that is no quote: a character is spelled so, and a refusal stands where one is begun up to it
abbrev pub Stepped : Tree → List ℕ → ℕ → Reading Step → Type 0
Stepped x s i (Ok (Char v j)) = Spelled (Lang x) s i j v
Stepped x s i (Ok Quote) = ⊥
Stepped x s i (Err r) = Begun (Lang x) s i r.place × Stop s r.code r.place

-- both ways in which a byte is refused
pub stop_ways : (P : Reading Step → Type 0) (s : List ℕ) (i : ℕ) (c : Code) → (i < length s → P (Err (refusal c i)))
    → (length s ≤ i → P (Err (refusal Ended (length s)))) → P (stop_at s i c)
unfolding refusal_at
stop_ways P s i c f g = both (λ (r : Refusal). P (Err r)) (ltb i (length s)) (λ t. f (ltb-true _ _ t)) (λ t. g (ltb-false _ _ t))

-- behind a byte that passes
lift : (t : ℕ → Bool) (c : ℕ → Code) (f : ℕ → Tree) (s : List ℕ) (i : ℕ) → i < length s → t (byte_at s i) ≡ true
    → (o : Reading Step) → Stepped (f (byte_at s i)) s (i + 1) o → Stepped (next t c f) s i o
lift t c f s i l h (Ok (Char v j)) r = spelled_in (between_one s l refl) (λ v. v) (λ w v x. (h, x)) r
lift t c f s i l h (Ok Quote) r = r
lift t c f s i l h (Err e) r = (begun_in (between_one s l refl) (λ v. v) (λ w v x. (h, x)) r.0, r.1)

pub walk_sound : (x : Tree) → Good x → (s : List ℕ) (i : ℕ) → i ≤ length s → Stepped x s i (walk x s i)
walk_sound (give v) g s i l = record { ahead = omega arith; within = l; spells = rw (part_none s i) refl }
walk_sound (next t c f) g s i l =
    both (Stepped (next t c f) s i) (t (byte_at s i))
    (λ h. let m = passes_in t g.0 s i h in lift t c f s i m h (walk (f (byte_at s i)) s (i + 1))
    (walk_sound (f (byte_at s i)) (g.3 (byte_at s i) h) s (i + 1) (omega arith)))
    (λ _. let r = some (next t c f) g in
    let b = begun_none (Lang (next t c f)) s i r.0 r.1 l r.2 in
    stop_ways (Stepped (next t c f) s i) s i (c (byte_at s i)) (λ m. (b, inr (g.4 (byte_at s i), m))) (λ m. (begun_same (omega arith) b, inl (refl, refl))))

-- what its language spells is read
pub walk_reads : (x : Tree) (w : List ℕ) (v : ℕ) → Lang x w v → (s : List ℕ) (i : ℕ) → At s i w → walk x s i ≡ Ok (Char v (i + length w))
walk_reads (give u) [] v h s i a = let z : i ≡ i + 0 = omega arith in cc
walk_reads (give u) (b ∷ w) v h s i a = absurd h
walk_reads (next t c f) [] v h s i a = absurd h
walk_reads (next t c f) (b ∷ w) v h s i a =
    let z : i + 1 + length w ≡ i + suc (length w) = omega arith in
    rw (a.0, h.0) (walk_reads (f b) w v h.1 s (i + 1) a.2 ∙ ap (λ (j : ℕ). Ok (Char v j)) z)
