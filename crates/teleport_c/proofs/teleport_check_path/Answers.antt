-- `teleport_check_path` is `schema::check`, its answer and its steps as words.
use mathlib.Core.Path.{ap}
use mathlib.Core.List.{[], ◌∷◌}
use Prim.Native.Nat.{ℕ}
use Rattle.teleport_c.proofs.Laws.{words_of, words_code}
use Rattle.teleport_c.proofs.teleport_check_path.Goals as goal

pub returns : goal.returns
returns c =
    record {
      answers = words_of _ _ c.words.ensures _ c.check-r.ensures.answers;
      rows1 = c.check-r.ensures.rows1;
      rows2 = c.check-r.ensures.rows2;
      meets = (λ l. words_code _ _ c.words.ensures _ (c.check-r.ensures.meets l));
      paths = c.check-r.ensures.paths;
      stepped = ap (λ (k : ℕ). k ∷ []) c.check-r.ensures.steps;
    }
