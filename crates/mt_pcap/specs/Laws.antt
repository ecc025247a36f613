-- What a capture stands for, in the words of the format and not of the reader, and the laws of
-- `capture_of`.
use Rattle.std.specs.Prelude.{◌≡◌, ◌≢◌, ◌<◌, ◌≤◌, ◌⊎◌, ℕ, ◌-◌, ◌*◌, ◌/◌, ◌^◌, List, [], ◌++◌, length, map, Some, None, All}
use Rattle.std.specs.List.{flat_map, AllByRecursion}
use Rattle.mt_pcap.specs.declared.fault.PcapFault.TheVariants.{NotPcap, WrongLink}
use Rattle.mt_pcap.specs.Format.{Header, header_bytes, link_type, Record, record_bytes, IsRecord, told, EndsAs, second, longest}
use Rattle.mt_pcap.specs.Capture.{Capture, capture_of}
use Rattle.mt_pcap.specs.Text.{capture_text}
use Rattle.mt_pcap.specs.Capture.{IsOfBytes}

-- the bytes are an Ethernet header, the records that the capture has, and a rest that ends it so
pub record IsOfRecords (bytes : List ℕ) (capture : Capture) : Type 0 where
  pub header : Header
  pub written : List Record
  pub rest : List ℕ
  pub fits : header.link < 2 ^ 32
  pub ethernet : link_type header ≡ 1
  pub proper : AllByRecursion (IsRecord header.form) written
  pub parts : bytes ≡ header_bytes header ++ (flat_map (record_bytes header.form) written ++ rest)
  pub records : capture.records ≡ map (told header.form) written
  pub end : EndsAs header.form (length bytes - length rest) rest capture.end

-- the bytes begin with the header of another link
pub record IsOfOtherLink (bytes : List ℕ) (capture : Capture) : Type 0 where
  pub header : Header
  pub after : List ℕ
  pub fits : header.link < 2 ^ 32
  pub other : link_type header ≢ 1
  pub parts : bytes ≡ header_bytes header ++ after
  pub records : capture.records ≡ []
  pub end : capture.end ≡ Some (WrongLink (link_type header))

-- the bytes do not begin with a header
pub record IsOfNoHeader (bytes : List ℕ) (capture : Capture) : Type 0 where
  pub none : (header : Header) (after : List ℕ) → bytes ≢ header_bytes header ++ after
  pub records : capture.records ≡ []
  pub end : capture.end ≡ Some NotPcap

abbrev pub StandsFor : List ℕ → Capture → Type 0
StandsFor bytes capture = IsOfRecords bytes capture ⊎ (IsOfOtherLink bytes capture ⊎ IsOfNoHeader bytes capture)

-- all bytes stand for what is read of them
abbrev pub CaptureStands : Type 0
CaptureStands = (bytes : List ℕ) → All (λ b. b < 256) bytes → StandsFor bytes (capture_of bytes)

-- and for nothing else
abbrev pub CaptureStandsAlone : Type 0
CaptureStandsAlone =
    (bytes : List ℕ) (capture : Capture) → All (λ b. b < 256) bytes → StandsFor bytes capture → capture ≡ capture_of bytes

-- a time whose seconds fit 32 bits, and a frame that is not too long
abbrev pub IsWritable : ℕ × List ℕ → Type 0
IsWritable r = (r.0 / second < 2 ^ 32) × (length r.1 ≤ longest)

-- what is written is read back, with no fault
abbrev pub CaptureReadsBack : Type 0
CaptureReadsBack =
    (records : List (ℕ × List ℕ)) → All IsWritable records
    → capture_of (capture_text records) ≡ record { records = records; end = None }

-- what is read can be written, each record takes 16 bytes or more, and no end is one of reading
abbrev pub CaptureIsSound : Type 0
CaptureIsSound =
    (bytes : List ℕ) → All (λ b. b < 256) bytes
    → All IsWritable (capture_of bytes).records
    × (16 * length (capture_of bytes).records ≤ length bytes)
    × IsOfBytes (capture_of bytes).end
