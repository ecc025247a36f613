use Rattle.mt_pcap.proofs.SoFar.{begins_to_merge, merges_on, merges_whole, merges_full, merges_so_far, merges_broken, fails_to_read, opened_still, merged_still}
use Rattle.mt_pcap.proofs.laws.merges_all.Goals as goal

pub returns-clause-begins : goal.returns-clause-begins
returns-clause-begins c = begins_to_merge

pub returns-clause-on : goal.returns-clause-on
returns-clause-on c = merges_on

pub returns-clause-whole : goal.returns-clause-whole
returns-clause-whole c = merges_whole

pub returns-clause-full : goal.returns-clause-full
returns-clause-full c = merges_full

pub returns-clause-so_far : goal.returns-clause-so_far
returns-clause-so_far c = merges_so_far

pub returns-clause-broken : goal.returns-clause-broken
returns-clause-broken c = merges_broken

pub returns-clause-fails : goal.returns-clause-fails
returns-clause-fails c = fails_to_read

pub returns-clause-opened_still : goal.returns-clause-opened_still
returns-clause-opened_still c = opened_still

pub returns-clause-still : goal.returns-clause-still
returns-clause-still c = merged_still
