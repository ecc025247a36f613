-- Numbers that are too few, too many, or as many as they should be.
use Rattle.std.proofs.Common.{◌≡◌, ℕ, ◌<◌, true, false, ltb, List, length, Err, refl, ok_or, arith}
use Rattle.std.proofs.lemmas.Bool.Decides.{nat_tests}
use Rattle.mt_script.specs.declared.fault.ScriptWhy.TheVariants.{BadNumber, Missing, Extra}
use Rattle.mt_script.specs.Script.{numbers_from, numbers_of}

pub too_few : (leasts : List ℕ) (words : List (List ℕ)) → length words < length leasts → numbers_of leasts words ≡ Err Missing
unfolding numbers_of
too_few leasts words less = let e : ltb (length words) (length leasts) ≡ true = grind (arith, nat_tests) in rw e refl

pub too_many : (leasts : List ℕ) (words : List (List ℕ)) → length leasts < length words → numbers_of leasts words ≡ Err Extra
unfolding numbers_of
too_many leasts words more =
    let e : ltb (length words) (length leasts) ≡ false = grind (arith, nat_tests) in
    let f : ltb (length leasts) (length words) ≡ true = grind (arith, nat_tests) in
    rw (e, f) refl

pub as_many : (leasts : List ℕ) (words : List (List ℕ)) → length words ≡ length leasts → numbers_of leasts words ≡ ok_or (numbers_from leasts words) BadNumber
unfolding numbers_of
as_many leasts words same =
    let e : ltb (length words) (length leasts) ≡ false = grind (arith, nat_tests) in
    let f : ltb (length leasts) (length words) ≡ false = grind (arith, nat_tests) in
    rw (e, f) refl

pub ruleset counted = (too_few, too_many, as_many)
