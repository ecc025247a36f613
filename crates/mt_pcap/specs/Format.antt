-- The libpcap file format, version 2.4, as a writer of it sees it: a header of 24 bytes, and then
-- records, each a head of 16 bytes with its data behind it. The magic number at the front tells the
-- order of the bytes in each number, and what the fraction of a second in a head counts.
use Rattle.std.specs.Prelude.{◌≡◌, ◌<◌, ◌≤◌, ◌⊎◌, ℕ, ◌+◌, ◌*◌, ◌%◌, ◌^◌, List, [], ◌++◌, length, Option, Some, None}
use Rattle.byteorder.specs.Endian.{big_number, little_number, big_bytes, little_bytes}
use Rattle.mt_pcap.specs.declared.form.Order.{Order}
use Rattle.mt_pcap.specs.declared.form.Order.TheVariants.{Big, Little}
use Rattle.mt_pcap.specs.declared.form.Resolution.{Resolution}
use Rattle.mt_pcap.specs.declared.form.Resolution.TheVariants.{Microseconds, Nanoseconds}
use Rattle.mt_pcap.specs.declared.form.Form.{Form}
use Rattle.mt_pcap.specs.declared.fault.PcapFault.{PcapFault}
use Rattle.mt_pcap.specs.declared.fault.PcapFault.TheVariants.{Torn, BadRecord}

-- the number in the first four bytes
unfoldable pub number : Order → List ℕ → ℕ
number Big bytes = big_number 4 bytes
number Little bytes = little_number 4 bytes

-- a number as four bytes, and as two
unfoldable pub four : Order → ℕ → List ℕ
four Big n = big_bytes 4 n
four Little n = little_bytes 4 n

unfoldable pub two : Order → ℕ → List ℕ
two Big n = big_bytes 2 n
two Little n = little_bytes 2 n

unfoldable pub magic : Resolution → ℕ
magic Microseconds = 0xa1b2c3d4
magic Nanoseconds = 0xa1b23c4d

unfoldable pub nanoseconds_in : Resolution → ℕ
nanoseconds_in Microseconds = 1000
nanoseconds_in Nanoseconds = 1

-- a second, in nanoseconds
abbrev pub second : ℕ
second = 1000000000

-- the most bytes of a frame that a record has
abbrev pub longest : ℕ
longest = 262144

-- the header of a capture
pub record Header : Type 0 where
  pub form : Form
  pub major : ℕ
  pub minor : ℕ
  pub zone : ℕ
  pub sigfigs : ℕ
  pub snaplen : ℕ
  pub link : ℕ

unfoldable pub header_bytes : Header → List ℕ
header_bytes h =
    let order = h.form.order in
    four order (magic h.form.resolution)
    ++ (two order h.major ++ (two order h.minor ++ (four order h.zone ++ (four order h.sigfigs ++ (four order h.snaplen ++ four order h.link)))))

-- the low 16 bits of the link type say what a frame is, and 1 is Ethernet
abbrev pub link_type : Header → ℕ
link_type h = h.link % 65536

-- the head of a record: when the frame came, how many of its bytes follow, and how many it had
pub record Head : Type 0 where
  pub seconds : ℕ
  pub fraction : ℕ
  pub captured : ℕ
  pub original : ℕ

unfoldable pub head_bytes : Order → Head → List ℕ
head_bytes order h = four order h.seconds ++ (four order h.fraction ++ (four order h.captured ++ four order h.original))

-- four numbers that four bytes each can hold
pub record Fits (h : Head) : Type 0 where
  pub seconds : h.seconds < 2 ^ 32
  pub fraction : h.fraction < 2 ^ 32
  pub captured : h.captured < 2 ^ 32
  pub original : h.original < 2 ^ 32

-- the fraction of a second, in nanoseconds
abbrev pub fraction_of : Form → Head → ℕ
fraction_of form h = h.fraction * nanoseconds_in form.resolution

-- the fraction is below a second, and the frame is not too long
abbrev pub IsProper : Form → Head → Type 0
IsProper form h = (fraction_of form h < second) × (h.captured ≤ longest)

-- the fraction is a second or more, or the frame is too long
abbrev pub IsImproper : Form → Head → Type 0
IsImproper form h = (second ≤ fraction_of form h) ⊎ (longest < h.captured)

-- a head with its data
pub record Record : Type 0 where
  pub head : Head
  pub frame : List ℕ

abbrev pub record_bytes : Form → Record → List ℕ
record_bytes form r = head_bytes form.order r.head ++ r.frame

pub record IsRecord (form : Form) (r : Record) : Type 0 where
  pub fits : Fits r.head
  pub proper : IsProper form r.head
  pub whole : length r.frame ≡ r.head.captured

-- what a record tells: the time in nanoseconds, and the bytes of the frame
abbrev pub told : Form → Record → ℕ × List ℕ
told form r = (r.head.seconds * second + fraction_of form r.head, r.frame)

-- the bytes are a head that is cut
abbrev pub IsCutHead : List ℕ → Type 0
IsCutHead bytes = (0 < length bytes) × (length bytes < 16)

-- the bytes are a proper head, with fewer bytes behind it than it says
pub record IsCutData (form : Form) (bytes : List ℕ) : Type 0 where
  pub head : Head
  pub frame : List ℕ
  pub fits : Fits head
  pub proper : IsProper form head
  pub cut : length frame < head.captured
  pub parts : bytes ≡ head_bytes form.order head ++ frame

-- the bytes begin with a head that is not proper
pub record IsBad (form : Form) (bytes : List ℕ) : Type 0 where
  pub head : Head
  pub after : List ℕ
  pub fits : Fits head
  pub improper : IsImproper form head
  pub parts : bytes ≡ head_bytes form.order head ++ after

-- the bytes behind the last whole record, which begin at an offset, end the capture so
abbrev pub EndsAs : Form → ℕ → List ℕ → Option PcapFault → Type 0
EndsAs form offset bytes None = bytes ≡ []
EndsAs form offset bytes (Some (Torn at)) = (at ≡ offset) × (IsCutHead bytes ⊎ IsCutData form bytes)
EndsAs form offset bytes (Some (BadRecord at)) = (at ≡ offset) × IsBad form bytes
EndsAs form offset bytes (Some fault) = ⊥
