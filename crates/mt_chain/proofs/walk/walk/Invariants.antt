use Rattle.std.proofs.Common.{◌≡◌, ◌≤◌, suc, ◌-◌, length}
use Rattle.mt_rewriter.specs.Mappings.{taken_back}
use Rattle.mt_chain.specs.Step.{IsSound}
use Rattle.mt_chain.specs.Run.{run_from}
use Rattle.mt_chain.proofs.walk.walk.Given as goal

-- the run that is left, from where the packet is
abbrev pub invariant-loop : goal.invariant-loop
invariant-loop l = record {
  way : run_from (suc (length l.chain.wires)) l.chain l.given.picks.now (l.entry, 0) (record { packet = l.fn.packet; tables = l.fn.tables; used = 0 })
      ≡ run_from (suc (length l.chain.wires) - l.counter) l.chain l.given.picks.now l.port (record { packet = l.packet; tables = l.tables; used = l.used });
  sound : IsSound l.packet;
  back : taken_back l.log l.tables ≡ taken_back l.fn.log l.fn.tables;
  within : l.used ≤ length l.given.picks.now;
}
