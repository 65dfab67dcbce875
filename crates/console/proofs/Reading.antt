-- What was read into a buffer stands behind what was read before.
use Rattle.std.proofs.Common.{ℕ, ◌≡◌, ◌≤◌, ◌+◌, List, ◌++◌, Option, length, take, sym, ap, subst, ◌∙◌}
use Rattle.std.proofs.KnownBytes.{Consumes-trans}
use Rattle.std.proofs.Math.Seq.{take-append-add}
use Rattle.std.proofs.lemmas.List.{take-append-le}
use Rattle.std.specs.Io.KnownBytes.{Consumes}

-- n bytes of a part come behind the front of a buffer
pub take-more : (front part rest : List ℕ) (at n : ℕ) → length front ≡ at → n ≤ length part → take (at + n) (front ++ (part ++ rest)) ≡ front ++ take n part
take-more front part rest at n long fits =
    ap (λ k. take (k + n) (front ++ (part ++ rest))) (sym long) ∙ take-append-add front (part ++ rest) n ∙ ap (λ l. front ++ l) (take-append-le n part rest fits)

-- what the reader gave before and what it gives now is what the buffer begins with
pub reads_more : (a b c : Option (List ℕ)) (front part rest : List ℕ) (at n : ℕ) → length front ≡ at → n ≤ length part
    → Consumes a b front → Consumes b c (take n part) → Consumes a c (take (at + n) (front ++ (part ++ rest)))
reads_more a b c front part rest at n long fits before read =
    subst (Consumes a c) (sym (take-more front part rest at n long fits)) (Consumes-trans a b c front (take n part) before read)
