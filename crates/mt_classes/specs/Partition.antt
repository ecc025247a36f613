-- Classes that are together all headers of a chain, by their regions in order.
use Rattle.std.specs.Prelude.{ℕ, ◌≡◌, ◌<◌, ◌≤◌, List, [], ◌∷◌, slice_index_or}
use Rattle.mt_packet.specs.Header.{field_of}
use Rattle.mt_packet.specs.declared.span.Span.{Span}
use Rattle.mt_boxes.specs.Boxes.{IsIn, span_at}
use Rattle.mt_cuts.specs.Headers.{IsHeaderOf}
use Rattle.mt_cuts.specs.Tree.{Tree, value_of}

-- the region of this number has the header
abbrev pub HasClass : List (List (List Span)) → ℕ → List ℕ → Type 0
HasClass regions number header = IsIn (slice_index_or regions number []) header

-- the devices of the boxes are from 1 to a last one; the device is the first field
abbrev pub AreOnDevices : ℕ → List (List Span) → Type 0
AreOnDevices devices [] = Unit {0}
AreOnDevices devices (box ∷ boxes) = ((1 ≤ (span_at box 0).lo) × ((span_at box 0).hi ≤ devices)) × AreOnDevices devices boxes

-- each header of a chain with so many devices lies in one region, none lies in two, and no region has a header on
-- another device
pub record IsPartition (devices : ℕ) (regions : List (List (List Span))) : Type 0 where
  pub some : 0 < devices
  pub few : devices ≤ 32
  pub covered : (header : List ℕ) → IsHeaderOf devices header → (number : ℕ) × HasClass regions number header
  pub apart : (header : List ℕ) (number other : ℕ) → HasClass regions number header → HasClass regions other header → number ≡ other
  pub on_devices : (number : ℕ) → AreOnDevices devices (slice_index_or regions number [])

-- the tree's value at a header of the chain is the number of the region that has it
pub record IsIndexOf (regions : List (List (List Span))) (devices : ℕ) (tree : Tree) : Type 0 where
  pub partition : IsPartition devices regions
  pub finds : (header : List ℕ) → IsHeaderOf devices header → HasClass regions (value_of tree (field_of header)) header
