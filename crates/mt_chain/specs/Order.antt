-- Orders in which frames are served.
use Rattle.std.specs.Prelude.{◌≡◌, ◌<◌, ℕ, List, length, Option, Some, slice_get, IsPermutation}
use Rattle.std.specs.List.{range_with_len}
use Rattle.mt_lists.specs.Options.{each}
use Rattle.mt_packet.specs.Header.{header_of, visible_of}
use Rattle.mt_packet.specs.declared.frame.Stamped.{Stamped}

-- the first n numbers, from 0 on
abbrev pub numbers : ℕ → List ℕ
numbers n = range_with_len 0 n

-- the flow of a frame: the part of its header that a switch sees, as it arrives
abbrev pub flow_of : Stamped → List ℕ
flow_of frame = visible_of (header_of frame.device frame.frame)

-- An order of frames, told by their numbers, has each frame once, and the frames of one flow in the order in which
-- they came.
pub record KeepsOrder (frames : List Stamped) (order : List ℕ) : Type 0 where
  pub all : IsPermutation (numbers (length frames)) order
  pub flows :
      (i j m n : ℕ) (f g : Stamped) → i < j → slice_get order i ≡ Some m → slice_get order j ≡ Some n
      → slice_get frames m ≡ Some f → slice_get frames n ≡ Some g → flow_of f ≡ flow_of g → m < n

-- the frames in that order
abbrev pub in_order : List ℕ → List Stamped → Option (List Stamped)
in_order order frames = each (slice_get frames) order
