-- The status of each fault, and what an outcome tells of the frames.
use Rattle.std.specs.Prelude.{ℕ, List, []}
use Rattle.metron.specs.declared.outcome.FileId.{FileId}
use Rattle.metron.specs.declared.outcome.FileId.TheVariants as file
use Rattle.metron.specs.declared.outcome.Fault.{Fault}
use Rattle.metron.specs.declared.outcome.Fault.TheVariants.{Done, UsageWord, Unbound, Unbuilt, TooLong, Click, Chain, Classes, Script, Capture, Read, Write, Memory, Frames}
use Rattle.metron.specs.declared.outcome.Outcome.{Outcome}
use Rattle.metron.specs.declared.outcome.Tally.{Tally}

-- of a text that is refused for its form
abbrev pub text_status : FileId → ℕ
text_status file.Chain = 2
text_status file = 3

abbrev pub status_of : Fault → ℕ
status_of Done = 0
status_of (UsageWord word) = 1
status_of (Unbound device) = 1
status_of (Unbuilt file) = text_status file
status_of (TooLong file) = text_status file
status_of (Click told) = 2
status_of (Chain told) = 2
status_of (Classes count) = 2
status_of (Script told) = 3
status_of (Read file) = 4
status_of (Capture device why) = 5
status_of (Write file) = 6
status_of Memory = 7
status_of (Frames count) = 8

-- What is told of the frames that were served: their numbers and the ports that were picked for them, in the order in
-- which they were served, how many classes the chain has, and how many fields were written.
pub record Account : Type 0 where
  pub order : List ℕ
  pub picks : List ℕ
  pub classes : ℕ
  pub writes : ℕ

abbrev pub nothing_served : Account
nothing_served = record { order = []; picks = []; classes = 0; writes = 0 }

abbrev pub account_of : Tally → Account
account_of tally = record { order = tally.order.items; picks = tally.picks.items; classes = tally.classes; writes = tally.writes }

abbrev pub told_of : Outcome → Account
told_of outcome = record { order = outcome.order.items; picks = outcome.picks.items; classes = outcome.classes; writes = outcome.writes }
