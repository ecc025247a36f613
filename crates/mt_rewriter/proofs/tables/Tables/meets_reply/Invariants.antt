use Rattle.std.proofs.Common.{◌≡◌, option_map}
use Rattle.std.specs.List.{find}
use Rattle.mt_rewriter.specs.Mappings.{answers, meets_reply, reply_meeting}
use Rattle.mt_rewriter.proofs.tables.Tables.meets_reply.Given as goal

-- the flow is no reply to a mapping so far
abbrev pub invariant-loop-key : goal.invariant-loop-key
invariant-loop-key l = meets_reply l.self.mappings l.element l.flow ≡ option_map reply_meeting (find (answers l.element l.flow) l.key-iterator)
