-- The definitions at small files.
use Rattle.std.proofs.Common.{◌≡◌, true, false, [], ◌∷◌, Some, refl, lit<, lit≤}
use Rattle.mt_io.specs.declared.entry.Call.TheVariants.{Read}
use Rattle.mt_io.specs.Files.{Takes, Gains, Rose}
use Rattle.mt_io.specs.Copy.{GainsFront, IsWhole, IsLongerThan}
use Rattle.mt_io.specs.State.{FileState, one_more, unnamed, fails_read, fails_write, after_read, after_failed_read, after_write, after_failed_write, after_hold, after_fail}

abbrev bytes : FileState
bytes = after_hold (1 ∷ 2 ∷ 3 ∷ []) unnamed

-- a name that was never held has nothing to read, and its reads fail
never_held : fails_read unnamed ≡ true
never_held = refl

held : fails_read bytes ≡ false
held = refl

-- the second of two reads fails, and the third takes what the first left
abbrev second_fails : FileState
second_fails = after_read 2 (after_fail Read 2 bytes)

first_read : (after_fail Read 2 bytes).left ≡ 1 ∷ 2 ∷ 3 ∷ []
first_read = refl

second_read : fails_read second_fails ≡ true
second_read = refl

third_read : fails_read (after_failed_read second_fails) ≡ false
third_read = refl

third_left : (after_failed_read second_fails).left ≡ 3 ∷ []
third_left = refl

third_faults : (after_failed_read second_fails).read_faults ≡ 1
third_faults = refl

-- reads and writes have numbers of their own
writes_pass : fails_write second_fails ≡ false
writes_pass = refl

two_writes : (after_write (5 ∷ []) (after_write (4 ∷ []) unnamed)).written ≡ 4 ∷ 5 ∷ []
two_writes = refl

failed_write : (after_failed_write (after_write (4 ∷ []) unnamed)).written ≡ 4 ∷ []
failed_write = refl

-- counts and numbers stand still at the end of their type
last : one_more 0xffff_ffff_ffff_ffff ≡ 0xffff_ffff_ffff_ffff
last = refl

last_rose : Rose 0xffff_ffff_ffff_ffff 0xffff_ffff_ffff_ffff
last_rose = lit≤ tt

rose : Rose 3 4
rose = lit≤ tt

taken : Takes (Some (1 ∷ 2 ∷ 3 ∷ [])) (1 ∷ []) (Some (2 ∷ 3 ∷ []))
taken = (2 ∷ 3 ∷ [], refl, refl)

gained : Gains (Some (1 ∷ [])) (2 ∷ []) (Some (1 ∷ 2 ∷ []))
gained = refl

front : GainsFront (Some []) (1 ∷ 2 ∷ []) (Some (1 ∷ []))
front = (1 ∷ [], 2 ∷ [], refl, refl)

whole : IsWhole (Some (1 ∷ 2 ∷ [])) (1 ∷ 2 ∷ []) (Some [])
whole = (refl, refl)

longer : IsLongerThan 1 (Some (1 ∷ 2 ∷ []))
longer = lit< tt
