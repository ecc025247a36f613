-- The definitions, worked on small captures.
use Rattle.std.proofs.Common.{◌≡◌, ℕ, ◌+◌, ◌-◌, ◌*◌, cond, List, [], ◌∷◌, ◌++◌, Some, None, refl}
use Rattle.std.specs.Prelude.{codes, nat_lt}
use Rattle.mt_pcap.specs.declared.fault.PcapFault.TheVariants.{NotPcap, WrongLink, BadRecord, Torn}
use Rattle.mt_pcap.specs.Format.{number, four, two, magic, nanoseconds_in, header_bytes, head_bytes}
use Rattle.mt_pcap.specs.declared.form.Order.TheVariants.{Big}
use Rattle.mt_pcap.specs.declared.form.Resolution.TheVariants.{Microseconds}
use Rattle.mt_pcap.specs.Stream.{within, left_at, in_front}
use Rattle.mt_pcap.specs.Merge.{step, gives, fault_met, taken, next_index}
use Rattle.mt_pcap.specs.Capture.{Capture, ended, resolution_of, form_in, form_of, header_of, record_at, records_of, all_records, capture_of}
use Rattle.mt_pcap.specs.Text.{header_text, record_head_text}

-- the bytes that a text in hexadecimal stands for
abbrev digit : ℕ → ℕ
digit c = cond (nat_lt c 58) (c - 48) (c - 87)

abbrev hex_bytes : List ℕ → List ℕ
hex_bytes (a ∷ b ∷ text) = (16 * digit a + digit b) ∷ hex_bytes text
hex_bytes text = []

abbrev hex : List ℕ → List ℕ
hex text = hex_bytes text

-- an Ethernet header alone, 14 bytes
abbrev frame : List ℕ
frame = hex (codes "0200000000020200000000010800")

little_nano : List ℕ
little_nano = hex (codes "4d3cb2a10200040000000000000000000000040001000000")

big_micro : List ℕ
big_micro = hex (codes "a1b2c3d40002000400000000000000000000ffff00000001")

header_is : header_text ≡ little_nano
unfolding header_text header_bytes four two magic little_nano
header_is = refl

head_is : record_head_text 1000002000 14 ≡ hex (codes "01000000d00700000e0000000e000000")
unfolding record_head_text head_bytes four
head_is = refl

header_alone : capture_of little_nano ≡ record { records = []; end = None }
unfolding capture_of header_of form_of form_in resolution_of number all_records records_of little_nano
header_alone = refl

-- one second and two microseconds
one_record : capture_of (big_micro ++ hex (codes "00000001000000020000000e0000000e") ++ frame) ≡ record { records = (1000002000, frame) ∷ []; end = None }
unfolding capture_of header_of form_of form_in resolution_of number nanoseconds_in all_records records_of record_at big_micro
one_record = refl

too_long : capture_of (big_micro ++ hex (codes "00000001000000020004000100040001")) ≡ record { records = []; end = Some (BadRecord 24) }
unfolding capture_of header_of form_of form_in resolution_of number nanoseconds_in all_records records_of record_at big_micro
too_long = refl

no_whole_header : capture_of (hex (codes "4d3cb2a102000400000000000000000000000400010000")) ≡ record { records = []; end = Some NotPcap }
unfolding capture_of header_of
no_whole_header = refl

other_link : capture_of (hex (codes "4d3cb2a10200040000000000000000000000040071000000")) ≡ record { records = []; end = Some (WrongLink 113) }
unfolding capture_of header_of form_of form_in resolution_of number
other_link = refl

-- the second record lacks its last byte
cut : capture_of (little_nano ++ hex (codes "01000000d00700000100000001000000ab01000000d00700000200000002000000cd")) ≡ record { records = (1000002000, 0xab ∷ []) ∷ []; end = Some (Torn 41) }
unfolding capture_of header_of form_of form_in resolution_of number nanoseconds_in all_records records_of record_at little_nano
cut = refl

-- a head that is cut is Torn, though it has a fraction of a second and more already
cut_first : capture_of (big_micro ++ hex (codes "00000001ffffffff")) ≡ record { records = []; end = Some (Torn 24) }
unfolding capture_of header_of form_of form_in resolution_of number nanoseconds_in all_records records_of record_at big_micro
cut_first = refl

-- the head of a record was taken, and its data is held
head_taken : left_at (within (record { order = Big; resolution = Microseconds }) 24 (hex (codes "00000001000000020000000e0000000e"))) frame ≡ in_front (1000002000, frame) (ended None)
unfolding all_records records_of record_at number nanoseconds_in
head_taken = refl

abbrev one_at : ℕ → Capture
one_at stamp = record { records = (stamp, []) ∷ []; end = None }

-- of equal times the record of the lowest device
lowest_first : step (one_at 7 ∷ one_at 5 ∷ one_at 5 ∷ []) ≡ gives (record { device = 2; given = (5, []); left = one_at 7 ∷ ended None ∷ one_at 5 ∷ [] })
unfolding step fault_met taken next_index
lowest_first = refl
