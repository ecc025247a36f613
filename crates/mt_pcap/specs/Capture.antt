-- Reading a capture from its first byte to its last: the records, and the first fault if any.
use Rattle.std.specs.Prelude.{⊤, ℕ, zero, suc, ◌+◌, ◌*◌, ◌%◌, List, [], ◌∷◌, length, take, drop, Option, Some, None, Result, Ok, Err, nat_lt, nat_le, Bool, true, false, ◌==◌, ◌||◌, if◌then◌else◌}
use Rattle.mt_pcap.specs.declared.form.Order.{Order}
use Rattle.mt_pcap.specs.declared.form.Order.TheVariants.{Big, Little}
use Rattle.mt_pcap.specs.declared.form.Resolution.{Resolution}
use Rattle.mt_pcap.specs.declared.form.Resolution.TheVariants.{Microseconds, Nanoseconds}
use Rattle.mt_pcap.specs.declared.form.Form.{Form}
use Rattle.mt_pcap.specs.declared.fault.PcapFault.{PcapFault}
use Rattle.mt_pcap.specs.declared.fault.PcapFault.TheVariants.{ReadFault, NoMemory, Torn, BadRecord, NotPcap, WrongLink}
use Rattle.mt_pcap.specs.declared.reading.WholeCapture.{WholeCapture}
use Rattle.mt_pcap.specs.Format.{number, nanoseconds_in, second, longest}

-- The records of a capture, each the time in nanoseconds and the bytes of the frame, and the fault
-- that ends it early.
pub record Capture : Type 0 where
  pub records : List (ℕ × List ℕ)
  pub end : Option PcapFault

-- a capture that was read, as it is seen
abbrev pub capture_seen : WholeCapture → Capture
capture_seen c = record { records = c.records.items; end = c.end }

-- the end is one that the bytes of a file have, and not of reading the file or of memory
abbrev pub IsOfBytes : Option PcapFault → Type 0
IsOfBytes (Some ReadFault) = ⊥
IsOfBytes (Some NoMemory) = ⊥
IsOfBytes end = ⊤

-- the fault is one of the header: the bytes begin with none, or with that of another link
abbrev pub is_header_fault : Option PcapFault → Bool
is_header_fault (Some NotPcap) = true
is_header_fault (Some (WrongLink link)) = true
is_header_fault end = false

-- ---- the header

unfoldable pub resolution_of : ℕ → Option Resolution
resolution_of n = if n == 0xa1b2c3d4 then Some Microseconds else (if n == 0xa1b23c4d then Some Nanoseconds else None)

-- the form, where the bytes begin with its magic number in this order
abbrev pub form_with : Order → Option Resolution → Option Form
form_with order None = None
form_with order (Some resolution) = Some (record { order = order; resolution = resolution })

unfoldable pub form_in : Order → List ℕ → Option Form
form_in order bytes = form_with order (resolution_of (number order bytes))

abbrev pub or_else : Option Form → Option Form → Option Form
or_else None second_choice = second_choice
or_else (Some form) second_choice = Some form

unfoldable pub form_of : List ℕ → Option Form
form_of bytes = or_else (form_in Little bytes) (form_in Big bytes)

-- only the low 16 bits of the link type count, and 1 is Ethernet
abbrev pub linked : Option Form → List ℕ → Result Form PcapFault
linked None bytes = Err NotPcap
linked (Some form) bytes =
    let link = number form.order (drop 20 bytes) % 65536 in
    if link == 1 then Ok form else Err (WrongLink link)

unfoldable pub header_of : List ℕ → Result Form PcapFault
header_of bytes = if nat_lt (length bytes) 24 then Err NotPcap else linked (form_of bytes) bytes

-- ---- the records

-- the record at the front of the bytes, which begin at an offset, and the bytes behind it
unfoldable pub record_at : Form → ℕ → List ℕ → Result ((ℕ × List ℕ) × List ℕ) PcapFault
record_at form offset bytes =
    let seconds = number form.order bytes in
    let fraction = number form.order (drop 4 bytes) * nanoseconds_in form.resolution in
    let captured = number form.order (drop 8 bytes) in
    let behind = drop 16 bytes in
    if nat_lt (length bytes) 16 then Err (Torn offset)
    else (if nat_le second fraction || nat_lt longest captured then Err (BadRecord offset)
    else (if nat_lt (length behind) captured then Err (Torn offset)
    else Ok ((seconds * second + fraction, take captured behind), drop captured behind)))

-- a capture that ends at once
abbrev pub ended : Option PcapFault → Capture
ended end = record { records = []; end = end }

-- a record, and what the bytes behind it are
abbrev pub onwards : Result ((ℕ × List ℕ) × List ℕ) PcapFault → ((ℕ × List ℕ) × List ℕ → Capture) → Capture
onwards (Err fault) others = ended (Some fault)
onwards (Ok x) others = record { records = x.0 ∷ (others x).records; end = (others x).end }

-- the bytes as records; `most` is no less than their number
unfoldable pub records_of : ℕ → Form → ℕ → List ℕ → Capture
records_of zero form offset bytes = ended None
records_of (suc most) form offset bytes =
    if length bytes == 0 then ended None
    else onwards (record_at form offset bytes) (λ x. records_of most form (offset + 16 + length x.0.1) x.1)

-- a record has 16 bytes or more, so there are fewer records than bytes
unfoldable pub all_records : Form → ℕ → List ℕ → Capture
all_records form offset bytes = records_of (length bytes) form offset bytes

abbrev pub with_header : Result Form PcapFault → List ℕ → Capture
with_header (Err fault) bytes = ended (Some fault)
with_header (Ok form) bytes = all_records form 24 (drop 24 bytes)

-- what the bytes of a file are as a capture
unfoldable pub capture_of : List ℕ → Capture
capture_of bytes = with_header (header_of bytes) bytes
