use Rattle.std.proofs.Common.{◌≡◌, ◌-◌, length, false}
use Rattle.mt_rewriter.specs.Tries.{try_template, ring}
use Rattle.mt_rewriter.proofs.ring.ring.Given as goal

-- what is left of the ring
abbrev pub invariant-loop : goal.invariant-loop
invariant-loop l =
    ring (try_template l.given.pools.now l.given.picks.now l.tables.mappings l.key) l.templates (length l.templates) l.start false l.used-2
    ≡ ring (try_template l.given.pools.now l.given.picks.now l.tables.mappings l.key) l.templates (length l.templates - l.counter) l.turn l.clashed l.used
