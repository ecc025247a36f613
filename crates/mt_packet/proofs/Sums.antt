-- Sums of words, and their ones' complement numbers.
use Rattle.std.proofs.Common.{◌≡◌, ◌∙◌, sym, ap, ℕ, ◌+◌, ◌%◌, ◌≤◌, List, [], ◌∷◌, ◌++◌, ◌<◌, length, drop, sum, fold, false, zero-add, if◌then◌else◌, ◌==◌, arith}
use Rattle.std.proofs.lemmas.Bool.Decides.{nat_tests}
use Rattle.std.proofs.lemmas.List.{drop_all}
use Rattle.std.proofs.lemmas.List.Sums.{fold-append}
use Rattle.mt_packet.specs.Checksum.{words_of, ones_complement, negative_of, transport_after_write}

-- a number of 16 bits is its own ones' complement number
pub ones_complement-small : (n : ℕ) → n ≤ 65535 → ones_complement n ≡ n
ones_complement-small n h = grind (arith, nat_tests)

-- where no words are left, the total is the sum
pub ones_complement-done : (total : ℕ) (bytes : List ℕ) (offset all : ℕ) → total ≤ 65535 → length bytes ≤ offset
    → ones_complement (total + sum (words_of (drop offset bytes))) ≡ all → total ≡ all
ones_complement-done total bytes offset all small done whole =
    let e : ones_complement (total + 0) ≡ all = rw (drop_all offset bytes done) at whole in
    let same : total + 0 ≡ total = omega arith in
    sym (ones_complement-small total small) ∙ ap ones_complement (sym same) ∙ e

-- a sum from some number on
pub sum-from : (n : ℕ) (xs : List ℕ) → fold ◌+◌ n xs ≡ n + fold ◌+◌ 0 xs
sum-from n [] = omega arith
sum-from n (x ∷ xs) =
    let here : fold ◌+◌ (n + x) xs ≡ n + x + fold ◌+◌ 0 xs = sum-from (n + x) xs in
    let from_0 : fold ◌+◌ (0 + x) xs ≡ 0 + x + fold ◌+◌ 0 xs = sum-from (0 + x) xs in
    here ∙ omega (arith, from_0)

-- a sum begins with its first number
pub sum-cons : (x : ℕ) (xs : List ℕ) → sum (x ∷ xs) ≡ x + sum xs
sum-cons x xs = sum-from (0 + x) xs ∙ ap (λ n. n + sum xs) (zero-add x)

-- the sum of two lists joined
pub sum-append : (xs ys : List ℕ) → sum (xs ++ ys) ≡ sum xs + sum ys
sum-append xs ys = fold-append ◌+◌ 0 xs ys ∙ sum-from (sum xs) ys

-- two writes equal one of both, for plain differences
twice : (c o1 n1 o2 n2 : ℕ)
    → ((c + o1 + negative_of n1) % 65535 + o2 + negative_of n2) % 65535 ≡ (c + (o1 + o2) + negative_of (n1 + n2)) % 65535
twice c o1 n1 o2 n2 = omega arith

-- and where the first result of 0 was written 65535
twice-full : (c o1 n1 o2 n2 : ℕ) → (c + o1 + negative_of n1) % 65535 ≡ 0
    → (65535 + o2 + negative_of n2) % 65535 ≡ (c + (o1 + o2) + negative_of (n1 + n2)) % 65535
twice-full c o1 n1 o2 n2 h = omega arith

pub written-twice : (protocol c : ℕ) (o1 n1 o2 n2 : List ℕ)
    → transport_after_write protocol (transport_after_write protocol c o1 n1) o2 n2
    ≡ transport_after_write protocol c (o1 ++ o2) (n1 ++ n2)
written-twice protocol c o1 n1 o2 n2 =
    let o = sum-append o1 o2 in
    let n = sum-append n1 n2 in
    let plain = twice c (sum o1) (sum n1) (sum o2) (sum n2) in
    let full = twice-full c (sum o1) (sum n1) (sum o2) (sum n2) in
    grind (arith, nat_tests)

-- an error in a UDP checksum stays
udp-rest : (c e o n : ℕ) → 0 < c
    → (if (ones_complement (c + e) + o + negative_of n) % 65535 == 0 then 65535 else (ones_complement (c + e) + o + negative_of n) % 65535)
    ≡ ones_complement ((if (c + o + negative_of n) % 65535 == 0 then 65535 else (c + o + negative_of n) % 65535) + e)
udp-rest c e o n some = grind (arith, nat_tests)

pub udp_error : (c e : ℕ) (old new : List ℕ) → 0 < c
    → transport_after_write 17 (ones_complement (c + e)) old new ≡ ones_complement (transport_after_write 17 c old new + e)
udp_error c e old new some =
    let here : (c == 0) ≡ false = grind (arith, nat_tests) in
    let there : (ones_complement (c + e) == 0) ≡ false = grind (arith, nat_tests) in
    rw (here, there) (udp-rest c e (sum old) (sum new) some)
