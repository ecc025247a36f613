use Rattle.std.proofs.Common.{◌≤◌, length, ◌∙◌, arith}
use Rattle.mt_click.proofs.TableEntries.{told_old, told_new, told_all, absent, present, inserted}
use Rattle.mt_click.proofs.symbols.table_of.Goals as goal
use Rattle.mt_click.proofs.symbols.table_of.Goals.{then-is_none+in_ok-insert, else-is_none}

pub loop-at-preserved : goal.loop-at-preserved
loop-at-preserved c =
    elim c.if-is_none.branch [
      | then-is_none+in_ok-insert w ↦
          let none = absent c.get.result _ c.is_none.result c.get.ensures.value c.is_none.ensures w.if-is_none.true in
          rw w.indices-is (told_new c.args.text.now c.loop-at.indices.entries _ c.loop-at.at c.args.entries.items c.index-entry.result.now c.word_bytes.result (omega arith) c.index-entry.ensures c.word_bytes.ensures.bytes (w.in_ok-insert.ensures.entries ∙ inserted _ c.loop-at.indices.entries _ c.loop-at.at none) c.loop-at.invariant)
      | else-is_none w ↦
          let there = present c.get.result _ c.is_none.result c.get.ensures.value c.is_none.ensures w.if-is_none.false in
          rw w.indices-is (told_old c.args.text.now c.loop-at.indices.entries c.loop-at.at c.args.entries.items c.index-entry.result.now (omega arith) c.index-entry.ensures (rw c.word_bytes.ensures.bytes at there) c.loop-at.invariant)
    ]

pub returns-clause-table : goal.returns-clause-table
returns-clause-table c = let le : length c.args.entries.items ≤ c.loop-at.at = omega arith in told_all c.args.text.now c.loop-at.indices.entries c.loop-at.at c.args.entries.items le c.loop-at.invariant
