-- Captures that are opened one after the other, each in a file of its own.
use Rattle.std.specs.Prelude.{◌≡◌, false, ℕ, List, map, slice_get, Option, Some, IfSome, option_map, All}
use Rattle.mt_io.specs.Files.{IsSameBut}
use Rattle.mt_lists.specs.Options.{each}
use Rattle.mt_pcap.specs.Capture.{Capture, is_header_fault, capture_of}
use Rattle.mt_pcap.specs.Stream.{ReaderState, left_of, TakesSo, HasBegun}
use Rattle.mt_pcap.specs.Sources.{begun, all_left, IsSameBeside}

-- the capture that a file holds, if it is told
abbrev pub capture_in : (List ℕ → Option (List ℕ)) → List ℕ → Option Capture
capture_in held name = option_map capture_of (held name)

-- the captures that files hold, if each is told
abbrev pub captures_in : (List ℕ → Option (List ℕ)) → List (List ℕ) → Option (List Capture)
captures_in held names = each (capture_in held) names

-- what opening the file of a name has to leave
pub record IsOpened (name : List ℕ) (old new : List ℕ → Option (List ℕ)) (reader : ReaderState) : Type 0 where
  pub named : reader.name ≡ name
  pub none_given : reader.given ≡ 0
  pub left : left_of reader new ≡ capture_in old name
  pub begins : IfSome (left_of reader new) (λ c. is_header_fault c.end ≡ false)
  pub reads : TakesSo (old name) (new name) (λ bytes. HasBegun bytes reader.standing)
  pub others : IsSameBut name old new

-- The files of these names were opened, each once, since what files held was `first`: together the readers leave the
-- captures that the files held, none of which has a fault of its header.
pub record AreOpened (names : List (List ℕ)) (first held : List ℕ → Option (List ℕ)) (readers : List ReaderState) : Type 0 where
  pub named : map (λ r. r.name) readers ≡ names
  pub none_given : (k : ℕ) (r : ReaderState) → slice_get readers k ≡ Some r → r.given ≡ 0
  pub left : all_left held (begun readers) ≡ captures_in first names
  pub begin : All (λ name. IfSome (capture_in first name) (λ c. is_header_fault c.end ≡ false)) names
  pub read : (k : ℕ) (r : ReaderState) → slice_get readers k ≡ Some r → TakesSo (first r.name) (held r.name) (λ bytes. HasBegun bytes r.standing)
  pub others : IsSameBeside names first held
