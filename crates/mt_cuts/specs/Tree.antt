-- A function of headers as a binary tree of cuts, and what it gives at a header. A header is a number for
-- each field.
use Rattle.std.specs.Prelude.{ℕ, nat_le, ◌==◌, if◌then◌else◌}
use Rattle.mt_packet.specs.Header.{number_of}
use Rattle.mt_packet.specs.declared.field.Field.{Field}

-- one value for all headers; `low` where the field's value is at most `end`, and `high` elsewhere; and
-- what stands for no tree
pub data Tree : Type 0 where
  class : ℕ → Tree
  cut : Field → ℕ → Tree → Tree → Tree
  broken : Tree

-- the value that a tree gives a header
abbrev pub value_of : Tree → (Field → ℕ) → ℕ
value_of (class value) header = value
value_of (cut field end low high) header =
    if nat_le (header field) end then value_of low header else value_of high header
value_of broken header = 0

-- what is left of a tree where a field has a value and no earlier field is cut
abbrev pub piece : Field → ℕ → Tree → Tree
piece field at (class value) = class value
piece field at (cut other end low high) =
    if number_of other == number_of field then (if nat_le at end then low else piece field at high)
    else (cut other end low high)
piece field at broken = broken
