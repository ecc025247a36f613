use Rattle.mt_elements.proofs.numbering.add_pool.Goals as goal

-- src/numbering.rt:66:1
pub returns-in_ok-insert : goal.returns-in_ok-insert
returns-in_ok-insert c = rw (c.in-Some.is, c.in-Range.is) c.in_ok-insert.ensures.keys
