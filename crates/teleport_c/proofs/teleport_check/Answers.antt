-- `teleport_check` is `schema::check` with a list that is long enough, its answer as words.
use native.Mathlib.Omega.{arith}
use Rattle.teleport_c.proofs.Laws.{words_of, words_code}
use Rattle.teleport_c.proofs.teleport_check.Goals as goal

pub returns : goal.returns
returns c =
    record {
      answers = words_of _ _ c.words.ensures _ c.check-r.ensures.answers;
      rows1 = c.check-r.ensures.rows1;
      rows2 = c.check-r.ensures.rows2;
      meets = words_code _ _ c.words.ensures _ (c.check-r.ensures.meets (omega arith));
    }
