use Rattle.std.proofs.Common.{◌≤◌, length, map}
use Rattle.mt_pcap.specs.Stream.{ReaderState}
use Rattle.mt_pcap.specs.Sources.{AreApart}
use Rattle.mt_pcap.proofs.Apart.{none_given, some_given}
use Rattle.mt_pcap.proofs.merging.can_merge.Goals as goal

pub returns-then-are_apart-clause-none_given : goal.returns-then-are_apart-clause-none_given
returns-then-are_apart-clause-none_given c = none_given c.have_given_none.result c.args.readers.now c.have_given_none.ensures

pub returns-then-are_apart-clause-cause : goal.returns-then-are_apart-clause-cause
returns-then-are_apart-clause-cause c =
    some_given c.have_given_none.result c.args.readers.now (length c.args.readers.now ≤ 32) (AreApart (map (λ (r : ReaderState). r.name) c.args.readers.now)) c.have_given_none.ensures
