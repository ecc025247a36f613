-- What is written: little-endian, in nanoseconds, with no byte of a frame left out.
use Rattle.std.specs.Prelude.{ℕ, ◌/◌, ◌%◌, List, ◌++◌, length}
use Rattle.std.specs.List.{flat_map}
use Rattle.mt_pcap.specs.declared.form.Order.TheVariants.{Little}
use Rattle.mt_pcap.specs.declared.form.Resolution.TheVariants.{Nanoseconds}
use Rattle.mt_pcap.specs.declared.form.Form.{Form}
use Rattle.mt_pcap.specs.Format.{Header, header_bytes, Head, head_bytes, second, longest}

abbrev pub own_form : Form
own_form = record { order = Little; resolution = Nanoseconds }

-- version 2.4, UTC, frames of up to 262,144 bytes, Ethernet
abbrev pub own_header : Header
own_header = record { form = own_form; major = 2; minor = 4; zone = 0; sigfigs = 0; snaplen = longest; link = 1 }

unfoldable pub header_text : List ℕ
header_text = header_bytes own_header

-- the head for a time in nanoseconds and the length of a frame
abbrev pub own_head : ℕ → ℕ → Head
own_head stamp len = record { seconds = stamp / second; fraction = stamp % second; captured = len; original = len }

unfoldable pub record_head_text : ℕ → ℕ → List ℕ
record_head_text stamp len = head_bytes Little (own_head stamp len)

abbrev pub record_text : ℕ × List ℕ → List ℕ
record_text r = record_head_text r.0 (length r.1) ++ r.1

abbrev pub capture_text : List (ℕ × List ℕ) → List ℕ
capture_text records = header_text ++ flat_map record_text records
