-- Comments: `// ..` up to before the end of its line, and `/* .. */`, which do not nest.
use Rattle.std.specs.Prelude.{ℕ, zero, suc, ◌+◌, ◌-◌, ◌≤◌, List, [], ◌∷◌, length, drop, Option, Some, None, ◌&&◌, ◌||◌, not, ◌==◌, nat_lt, slice_index, if◌then◌else◌}
use Rattle.std.specs.List.{prefix_len}
use Rattle.std.specs.Option.{option_map}
use Rattle.mt_syntax.specs.declared.comment.Comment.{Comment}
use Rattle.mt_syntax.specs.declared.comment.Comment.TheVariants.{Absent, Closed, Open}

-- how many bytes stand before the first line feed
abbrev pub line_len : List ℕ → ℕ
line_len bytes = prefix_len (λ b. not (b == 10)) bytes

-- how many bytes the first `*/` ends at
abbrev pub block_len : List ℕ → Option ℕ
block_len [] = None
block_len (b ∷ bs) = if b == 42 && slice_index bs 0 == 47 then Some 2 else option_map (λ n. n + 1) (block_len bs)

abbrev pub closed : Option ℕ → Comment
closed None = Open
closed (Some n) = Closed (n + 2)

-- the comment at the front of a text
unfoldable pub comment_at : List ℕ → Comment
comment_at bytes = if nat_lt (length bytes) 2 || not (slice_index bytes 0 == 47) then Absent
    else if slice_index bytes 1 == 47 then Closed (line_len bytes)
    else if not (slice_index bytes 1 == 42) then Absent
    else closed (block_len (drop 2 bytes))

-- a comment that is closed ends within the text
abbrev pub ClosedWithin : ℕ → Comment → Type 0
ClosedWithin most Absent = Unit {0}
ClosedWithin most (Closed n) = n ≤ most
ClosedWithin most Open = Unit {0}

-- The text place by place, with nothing in place of each byte of a comment; `skip` bytes at the front
-- belong to a comment that began before. Behind the begin of an open comment nothing is seen.
unfoldable pub hidden : ℕ → List ℕ → List (Option ℕ)
hidden skip [] = []
hidden (suc skip) (b ∷ bs) = None ∷ hidden skip bs
hidden zero (b ∷ bs) =
    elim (comment_at (b ∷ bs)) [ Absent ↦ Some b ∷ hidden 0 bs | Closed n ↦ None ∷ hidden (n - 1) bs | Open ↦ None ∷ hidden (length bs) bs ]

abbrev pub bare : List ℕ → List (Option ℕ)
bare text = hidden 0 text

-- nothing is seen of these bytes
abbrev pub nothings : List ℕ → List (Option ℕ)
nothings [] = []
nothings (b ∷ bs) = None ∷ nothings bs
