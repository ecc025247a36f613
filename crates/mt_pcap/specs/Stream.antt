-- Captures that are read piece by piece: where a reader stands, and what is left of its capture where
-- bytes of the file are still held. Of bytes that are not told (None) nothing is said.
use Rattle.std.specs.Prelude.{◌≡◌, ◌<◌, ℕ, List, [], ◌∷◌, ◌++◌, length, Option, Some, None, Result, Ok, Err, option_map, ⊤}
use Rattle.mt_pcap.specs.declared.form.Form.{Form}
use Rattle.mt_pcap.specs.declared.fault.PcapFault.{PcapFault}
use Rattle.mt_io.specs.Files.{Takes}
use Rattle.mt_pcap.specs.Capture.{Capture, ended, all_records, capture_of}

-- in the record at an offset, of which some bytes were taken; or at the end, which may be a fault
pub data Standing : Type 0 where
  within : Form → ℕ → List ℕ → Standing
  over : Option PcapFault → Standing

-- a reader: the name of its file, how many records it has given, and where it stands
pub record ReaderState : Type 0 where
  pub name : List ℕ
  pub given : ℕ
  pub standing : Standing

-- the capture that is left where these bytes are held
abbrev pub left_at : Standing → List ℕ → Capture
left_at (within form offset taken) held = all_records form offset (taken ++ held)
left_at (over end) held = ended end

-- the capture that is left to a reader, where what its file holds is told
abbrev pub left_of : ReaderState → (List ℕ → Option (List ℕ)) → Option Capture
left_of reader held = option_map (left_at reader.standing) (held reader.name)

-- a record, and then what else there is
abbrev pub in_front : ℕ × List ℕ → Capture → Capture
in_front r c = record { records = r ∷ c.records; end = c.end }

-- some bytes were taken from the front of what is held, of which this holds
abbrev pub TakesSo : Option (List ℕ) → Option (List ℕ) → (List ℕ → Type 0) → Type 0
TakesSo before after P = (bytes : List ℕ) × Takes before bytes after × P bytes

-- the end was not met
abbrev pub IsWithin : Standing → Type 0
IsWithin (within form offset taken) = ⊤
IsWithin (over end) = ⊥

-- a capture that begins with these bytes was read so far, whatever is behind them
abbrev pub HasBegun : List ℕ → Standing → Type 0
HasBegun bytes standing = IsWithin standing × ((behind : List ℕ) → left_at standing behind ≡ capture_of (bytes ++ behind))

-- a record comes first, whatever is behind these bytes, and then what is left at the other standing
abbrev pub HasRead : Standing → List ℕ → ℕ × List ℕ → Standing → Type 0
HasRead old bytes r new = IsWithin new × ((behind : List ℕ) → left_at old (bytes ++ behind) ≡ in_front r (left_at new behind))

-- what is left at the other standing is what was left in front of these bytes, whatever is behind them
abbrev pub HasGoneOn : Standing → List ℕ → Standing → Type 0
HasGoneOn old bytes new = (behind : List ℕ) → left_at old (bytes ++ behind) ≡ left_at new behind

-- these bytes hold no whole record
abbrev pub HasNoRecord : Standing → List ℕ → Type 0
HasNoRecord standing bytes = (left_at standing bytes).records ≡ []

-- this capture is what is left, if it is told
abbrev pub IsLeft : Option Capture → Capture → Type 0
IsLeft None capture = ⊤
IsLeft (Some left) capture = left ≡ capture

-- what is answered at the end
abbrev pub at_end : {X : Type 0} → Option PcapFault → Result (Option X) PcapFault
at_end None = Ok None
at_end (Some fault) = Err fault

-- so many bytes are held, if it is told
abbrev pub HasLength : ℕ → Option (List ℕ) → Type 0
HasLength n None = ⊤
HasLength n (Some held) = length held ≡ n

-- some bytes are held, and fewer than the head of a record has, if it is told
abbrev pub IsCut : Option (List ℕ) → Type 0
IsCut None = ⊤
IsCut (Some held) = (0 < length held) × (length held < 16)

-- the head of a record was taken, and no byte behind it
abbrev pub HasHead : Standing → List ℕ → Type 0
HasHead (within form offset taken) head = taken ≡ head
HasHead (over end) head = ⊥
