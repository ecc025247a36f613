-- What lies in the span of a prefix, and in that of a relation.
use Rattle.std.proofs.Common.{◌≡◌, ℕ, ◌+◌, ◌-◌, ◌*◌, ◌/◌, ◌%◌, ◌^◌, ◌<◌, ◌≤◌, Bool, true, false, Some, None, refl, ap, subst, arith}
use Rattle.std.specs.Prelude.{◌↔◌, ◌==◌, if◌then◌else◌}
use Rattle.std.proofs.lemmas.Bool.Decides.{nat_tests}
use Rattle.std.proofs.lemmas.Bool.{eqb-true, eqb-false}
use Rattle.std.proofs.lemmas.Nat.{div-mul-add, mod_below, pow_pos}
use Rattle.std.proofs.Math.Nat.{div-add-mod, mul_comm}
use Rattle.mt_pattern.specs.declared.test.Relation.{Relation}
use Rattle.mt_pattern.specs.declared.test.Relation.TheVariants.{More, Less, AtLeast, AtMost}
use Rattle.mt_pattern.specs.Meaning.{contains_number}
use Rattle.mt_pattern.specs.Span.{span, prefix_span}
use Rattle.mt_pattern.specs.Test.{related}
use Rattle.mt_pattern.specs.Forms.{IsRelated, IsIn}

in_span : (lo hi n : ℕ) → lo ≤ n → n ≤ hi → contains_number (span lo hi) n ≡ true
in_span lo hi n h k = grind (arith, nat_tests)

from_span : (lo hi n : ℕ) → contains_number (span lo hi) n ≡ true → (lo ≤ n) × (n ≤ hi)
from_span lo hi n h = (grind (arith, nat_tests), grind (arith, nat_tests))

-- the quotient, by the multiples around a number
quotient_is : (q s n : ℕ) → q * s ≤ n → n < q * s + s → n / s ≡ q
quotient_is q s n h k = let e : q * s + (n - q * s) ≡ n = omega arith in subst (λ (m : ℕ). m / s ≡ q) e (div-mul-add q s (n - q * s) (omega arith))

same_quotient : (s a n : ℕ) → 0 < s → a - a % s ≤ n → n ≤ a - a % s + (s - 1) → n / s ≡ a / s
same_quotient s a n some low high =
    let whole = div-add-mod a s in
    let turned : (a / s) * s ≡ s * (a / s) = mul_comm (a / s) s in
    let rest = mod_below a s some in
    quotient_is (a / s) s n (omega arith) (omega arith)

within_quotient : (s a n : ℕ) → 0 < s → n / s ≡ a / s → (a - a % s ≤ n) × (n ≤ a - a % s + (s - 1))
within_quotient s a n some e =
    let whole = div-add-mod a s in
    let other = div-add-mod n s in
    let same = ap (λ q. s * q) e in
    let rest = mod_below a s some in
    let left = mod_below n s some in
    (omega arith, omega arith)

prefix_within : (s a n : ℕ) → 0 < s → (contains_number (span (a - a % s) (a - a % s + (s - 1))) n ≡ true) ↔ (n / s ≡ a / s)
prefix_within s a n some = (
  λ h. let b = from_span (a - a % s) (a - a % s + (s - 1)) n h in same_quotient s a n some b.0 b.1,
  λ e. let b = within_quotient s a n some e in in_span (a - a % s) (a - a % s + (s - 1)) n b.0 b.1,
)

pub prefix_by_high_bits : (address len n : ℕ) → (contains_number (prefix_span address len) n ≡ true) ↔ (n / 2 ^ (32 - len) ≡ address / 2 ^ (32 - len))
unfolding prefix_span
prefix_by_high_bits address len n = prefix_within (2 ^ (32 - len)) address n (pow_pos (32 - len))

-- relations

more_in : (m greatest n : ℕ) → n ≤ greatest → (b : Bool) → (m == greatest) ≡ b → IsIn (if b then None else Some (span (m + 1) greatest)) n ↔ (m < n)
more_in m greatest n h true e = (λ f. absurd f, λ lt. absurd (omega (arith, eqb-true m greatest e)))
more_in m greatest n h false e = (λ f. let b = from_span (m + 1) greatest n f in omega arith, λ lt. in_span (m + 1) greatest n (omega arith) h)

less_in : (m n : ℕ) → (b : Bool) → (m == 0) ≡ b → IsIn (if b then None else Some (span 0 (m - 1))) n ↔ (n < m)
less_in m n true e = (λ f. absurd f, λ lt. absurd (omega (arith, eqb-true m 0 e)))
less_in m n false e = (λ f. let b = from_span 0 (m - 1) n f in let some = eqb-false m 0 e in omega arith, λ lt. in_span 0 (m - 1) n (omega arith) (omega arith))

pub related_by_order : (relation : Relation) (m greatest n : ℕ) → n ≤ greatest → IsIn (related relation m greatest) n ↔ IsRelated relation n m
unfolding related
related_by_order More m greatest n h = more_in m greatest n h (m == greatest) refl
related_by_order Less m greatest n h = less_in m n (m == 0) refl
related_by_order AtLeast m greatest n h = (λ f. (from_span m greatest n f).0, λ le. in_span m greatest n le h)
related_by_order AtMost m greatest n h = (λ f. (from_span 0 m n f).1, λ le. in_span 0 m n (omega arith) le)
