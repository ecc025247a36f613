-- A term less an amount.
use Rattle.std.proofs.Common.{◌≡◌, ℕ, ◌+◌, ◌-◌, ◌<◌, ◌^◌, min, List, refl, arith}
use Rattle.mt_packet.specs.declared.flow.Flow.{Flow}
use Rattle.mt_terms.specs.Terms.{TermForm, const, entry, minus, flow_part, IsPlain, IsWhole, less_by, value_of}

pub whole_less : (term : TermForm) (amount : ℕ) (header : List ℕ) (passed : List Flow) → IsWhole term → value_of (less_by term amount) header passed ≡ value_of term header passed - amount
whole_less (const value) amount header passed whole = refl
whole_less (entry field) amount header passed whole = refl
whole_less (minus term before) amount header passed whole = absurd whole
whole_less (flow_part passage part) amount header passed whole = refl

taken : (v before amount : ℕ) → v < 2 ^ 64 → v - min (before + amount) (2 ^ 64 - 1) ≡ v - before - amount
taken v before amount below = omega arith

pub difference_less : (term : TermForm) (before amount : ℕ) (header : List ℕ) (passed : List Flow) → value_of term header passed < 2 ^ 64
    → value_of (less_by (minus term before) amount) header passed ≡ value_of (minus term before) header passed - amount
difference_less term before amount header passed below = taken (value_of term header passed) before amount below

pub stays_plain : (term : TermForm) (amount : ℕ) → IsPlain term → IsPlain (less_by term amount)
stays_plain (const value) amount plain = tt
stays_plain (entry field) amount plain = tt
stays_plain (minus term before) amount plain = plain
stays_plain (flow_part passage part) amount plain = tt
