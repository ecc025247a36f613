-- What a rewriter does to a packet.
use Rattle.mt_packet.specs.Packet.{PacketState, with_field}
use Rattle.mt_packet.specs.declared.field.Field.TheVariants as of
use Rattle.mt_packet.specs.declared.flow.Flow.{Flow}
use Rattle.mt_rewriter.specs.declared.passage.Passage.{Passage}
use Rattle.mt_rewriter.specs.declared.passage.Passage.TheVariants.{Rewritten, Passed, Dropped}
use Rattle.mt_chain.specs.Classifier.{value_of}
use Rattle.mt_chain.specs.declared.step.Exit.{Exit}
use Rattle.mt_chain.specs.declared.step.Exit.TheVariants.{Leaves, Stops}
use Rattle.mt_chain.specs.declared.step.Ending.TheVariants as ending

-- the packet with the two ends of a flow
abbrev pub with_flow : PacketState → Flow → PacketState
with_flow packet flow =
    with_field (with_field (with_field (with_field packet of.Src flow.sa) of.Sport flow.sp) of.Dst flow.da) of.Dport flow.dp

-- its annotation is its destination
abbrev pub annotated : PacketState → PacketState
annotated packet = with_field packet of.Annotation (value_of packet of.Dst)

-- Every packet that leaves has its annotation set to its destination.
abbrev pub passed : Passage → PacketState → PacketState × Exit
passed (Rewritten meeting) packet = (annotated (with_flow packet meeting.after), Leaves meeting.output)
passed (Passed out) packet = (annotated packet, Leaves out)
passed (Dropped why) packet = (packet, Stops (ending.Dropped why))
