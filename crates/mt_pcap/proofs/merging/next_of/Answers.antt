use Rattle.std.proofs.Common.{refl, sym, subst, ◌∙◌, arith}
use Rattle.mt_pcap.specs.Merge.{Done}
use Rattle.mt_pcap.specs.Sources.{EndsSo, GivesSo, all_left}
use Rattle.mt_pcap.specs.Filling.{IsOfMerge}
use Rattle.mt_pcap.proofs.MergeStreams.{room_of, of_merge_filled, of_merge_taken, names_taken, device_within, done_here, gives_here}
use Rattle.mt_pcap.proofs.AllGoes.{taken_given, ready_taken, unbroken_taken}
use Rattle.mt_pcap.proofs.merging.next_of.Goals as goal

pub fill_all-requires-clause-given : goal.fill_all-requires-clause-given
fill_all-requires-clause-given g c = room_of c.args.queues.now c.args.given c.requires.merge c.requires.given

pub returns-in-Err-clause-merge : goal.returns-in-Err-clause-merge
returns-in-Err-clause-merge g c = of_merge_filled c.args.queues.now c.fill_all.new.queues c.args.given c.requires.merge c.fill_all.auto.queues c.in-Err.ensures.names c.in-Err.ensures.balanced

pub returns-in-None-clause-ends : goal.returns-in-None-clause-ends
returns-in-None-clause-ends g c = λ _. subst (λ o. EndsSo o Done) c.in-Ok.ensures.left (done_here _ c.fill_all.new.queues c.in-Ok.ensures.ready (c.in-None.ensures.none refl))

pub returns-in-None-clause-merge : goal.returns-in-None-clause-merge
returns-in-None-clause-merge g c =
    subst (λ l. IsOfMerge l c.args.given) (sym (c.in-None.ensures.kept refl)) (of_merge_filled c.args.queues.now c.fill_all.new.queues c.args.given c.requires.merge c.fill_all.auto.queues c.in-Ok.ensures.names c.in-Ok.ensures.balanced)

pub returns-in-Some-clause-gives : goal.returns-in-Some-clause-gives
returns-in-Some-clause-gives g c =
    subst (λ o. GivesSo c.args.given o (record { stamp = c.in-Some.stamp; device = c.in-Some.device; number = c.args.given; frame = c.in-Some.frame }) (all_left (g.F.Files.held c.fill_all.new.files) c.take_next.new.queues)) c.in-Ok.ensures.left
    (gives_here _ c.fill_all.new.queues c.take_next.new.queues c.in-Some.device c.args.given (c.in-Some.stamp, c.in-Some.frame) c.in-Ok.ensures.ready c.in-Some.ensures.taken)

pub returns-in-Some-clause-each_gives : goal.returns-in-Some-clause-each_gives
returns-in-Some-clause-each_gives g c =
    taken_given c.args.queues.now c.fill_all.new.queues c.take_next.new.queues c.in-Some.device c.args.given (c.in-Some.stamp, c.in-Some.frame) _ _ c.in-Some.ensures.taken c.in-Ok.ensures.goes_on

pub returns-in-Some-clause-ready : goal.returns-in-Some-clause-ready
returns-in-Some-clause-ready g c = ready_taken c.fill_all.new.queues c.take_next.new.queues c.in-Some.device (c.in-Some.stamp, c.in-Some.frame) c.in-Some.ensures.taken c.in-Ok.ensures.ready

pub returns-in-Some-clause-unbroken : goal.returns-in-Some-clause-unbroken
returns-in-Some-clause-unbroken g c = λ unbroken. unbroken_taken c.fill_all.new.queues c.take_next.new.queues c.in-Some.device (c.in-Some.stamp, c.in-Some.frame) c.in-Some.ensures.taken (c.in-Ok.ensures.unbroken unbroken)

pub returns-in-Some-clause-device : goal.returns-in-Some-clause-device
returns-in-Some-clause-device g c =
    let d = device_within c.fill_all.new.queues c.take_next.new.queues c.in-Some.device (c.in-Some.stamp, c.in-Some.frame) c.in-Some.ensures.taken in
    (d.0, omega (arith, d.1, c.fill_all.auto.queues))

pub returns-in-Some-clause-names : goal.returns-in-Some-clause-names
returns-in-Some-clause-names g c = names_taken c.fill_all.new.queues c.take_next.new.queues c.in-Some.device (c.in-Some.stamp, c.in-Some.frame) c.in-Some.ensures.taken ∙ c.in-Ok.ensures.names

pub returns-in-Some-clause-merge : goal.returns-in-Some-clause-merge
returns-in-Some-clause-merge g c =
    of_merge_taken c.fill_all.new.queues c.take_next.new.queues c.args.given c.in-Some.device (c.in-Some.stamp, c.in-Some.frame)
    (of_merge_filled c.args.queues.now c.fill_all.new.queues c.args.given c.requires.merge c.fill_all.auto.queues c.in-Ok.ensures.names c.in-Ok.ensures.balanced) c.in-Some.ensures.taken
