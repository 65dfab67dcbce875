-- `writer::compacting::compact` meets its contract: a refusal of Read stays as it is, and what was read is made of tokens.
use mathlib.Core.Path.{sym, ap, ◌∙◌}
use native.Mathlib.Omega.{arith}
use lib.ListN.{length}
use Rattle.syntax.specs.declared.answers.Answer.{Answer}
use Rattle.writer.proofs.Answers.{refused_stays, Read, read_done, read_ready, read_answers}
use Rattle.writer.proofs.compacting.compact.Goals as goal

-- a refusal of Read
pub returns-then-a-ne0 : goal.returns-then-a-ne0
returns-then-a-ne0 c =
    let z = refused_stays _ _ _ (λ e. c.if-a-ne0.true (ap (λ (a : Answer). a.code) c.read-a.ensures.answers ∙ e)) in
    record {
      answers = c.read-a.ensures.answers ∙ z.0 _;
      rows = c.read-a.ensures.rows;
      writes = z.1 _;
    }

pub write_measured-requires : goal.write_measured-requires
write_measured-requires c =
    let was_read : Read (length c.args.table.now) c.args.text.now =
    read_done _ _ (sym (ap (λ (a : Answer). a.code) c.read-a.ensures.answers) ∙ c.if-a-ne0.false) in
    read_ready _ _ was_read (omega arith)

pub returns-then-buffer-text : goal.returns-then-buffer-text
returns-then-buffer-text c =
    let was_read : Read (length c.args.table.now) c.args.text.now =
    read_done _ _ (sym (ap (λ (a : Answer). a.code) c.read-a.ensures.answers) ∙ c.if-a-ne0.false) in
    let w = read_answers _ _ was_read _ c.write_measured.ensures c.read-a.ensures.rows in record { answers = w.0; rows = w.1.0; writes = w.1.1 }

pub write_whole-requires : goal.write_whole-requires
write_whole-requires c =
    let was_read : Read (length c.args.table.now) c.args.text.now =
    read_done _ _ (sym (ap (λ (a : Answer). a.code) c.read-a.ensures.answers) ∙ c.if-a-ne0.false) in
    read_ready _ _ was_read (omega arith)

pub returns : goal.returns
returns c =
    let was_read : Read (length c.args.table.now) c.args.text.now =
    read_done _ _ (sym (ap (λ (a : Answer). a.code) c.read-a.ensures.answers) ∙ c.if-a-ne0.false) in
    let w = read_answers _ _ was_read _ c.write_whole.ensures c.read-a.ensures.rows in record { answers = w.0; rows = w.1.0; writes = w.1.1 }
