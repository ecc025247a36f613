-- Ascending ports: how many there can be, and what a port put in its place leaves.
use Rattle.std.proofs.lemmas.Option.{slice_get-get_or}
use Rattle.std.specs.Option.{OnSome, option_to_list}
use Rattle.std.proofs.Common.{Option, Some, None, IfNone, IfSome, IsSome, slice_get, ◌≡◌, ◌≢◌, ℕ, zero, suc, ◌+◌, ◌-◌, ◌<◌, ◌≤◌, true, false, ltb, List, [], ◌∷◌, ◌++◌, length, get_or, refl, ap, arith, inl, inr, sym, ◌∙◌}
use Rattle.std.proofs.lemmas.Bool.{cases_lt}
use Rattle.std.proofs.lemmas.Bool.Decides.{nat_tests}
use Rattle.std.specs.List.{remove, insert}
use Rattle.std.specs.List.Sorted.{IsNonDecreasingBy, IsPartitionPoint}
use Rattle.mt_ledger.specs.Ports.{times, IsAscending, placed}

-- there are no more ascending ports than the range has
pub length_ascending : (least greatest : ℕ) (ports : List ℕ) → IsAscending least greatest ports → length ports ≤ greatest + 1 - least
length_ascending least greatest [] h = omega arith
length_ascending least greatest (port ∷ ports) h = let rest = length_ascending (suc port) greatest ports h.2 in omega (arith, rest, h.0, h.1)

-- a port goes before the first, or behind it
pub placed_cases : (P : List ℕ → Type 0) (port other : ℕ) (ports : List ℕ)
    → (other < port → P (other ∷ placed port ports)) → (port ≤ other → P (port ∷ other ∷ ports)) → P (placed port (other ∷ ports))
placed_cases P port other ports behind before = elim (cases_lt other port) [
  | inl less ↦ (let e : ltb other port ≡ true = grind (arith, nat_tests) in rw e (behind less))
  | inr more ↦ (let e : ltb other port ≡ false = grind (arith, nat_tests) in rw e (before more))
]

absent_behind : (port other : ℕ) (ports : List ℕ) → times port (other ∷ ports) ≡ 0 → times port ports ≡ 0
absent_behind port other ports e = omega arith

apart_from : (port other : ℕ) (ports : List ℕ) → times port (other ∷ ports) ≡ 0 → port ≢ other
apart_from port other ports e same = grind (arith, nat_tests)

pub ascending_placed : (port least greatest : ℕ) (ports : List ℕ) → least ≤ port → port ≤ greatest → times port ports ≡ 0 → IsAscending least greatest ports → IsAscending least greatest (placed port ports)
ascending_placed port least greatest [] low high absent h = (low, high, tt)
ascending_placed port least greatest (other ∷ ports) low high absent h =
    let apart = apart_from port other ports absent in
    placed_cases (λ found. IsAscending least greatest found) port other ports
    (λ less. (h.0, h.1, ascending_placed port (suc other) greatest ports less high (absent_behind port other ports absent) h.2))
    (λ more. (low, high, ((let lt : suc port ≤ other = omega arith in lt), h.1, h.2)))

pub length_placed : (port : ℕ) (ports : List ℕ) → length (placed port ports) ≡ suc (length ports)
length_placed port [] = refl
length_placed port (other ∷ ports) = placed_cases (λ found. length found ≡ suc (suc (length ports))) port other ports (λ _. ap suc (length_placed port ports)) (λ _. refl)

-- a port that is not there finds room
pub room_for : (port least greatest : ℕ) (ports : List ℕ) → least ≤ port → port ≤ greatest → times port ports ≡ 0 → IsAscending least greatest ports → length ports < greatest + 1 - least
room_for port least greatest ports low high absent h =
    let all = length_ascending least greatest (placed port ports) (ascending_placed port least greatest ports low high absent h) in
    let e = length_placed port ports in
    omega (arith, all, e)

pub ascending_lower : (least bound greatest : ℕ) (ports : List ℕ) → least ≤ bound → IsAscending bound greatest ports → IsAscending least greatest ports
ascending_lower least bound greatest [] below h = tt
ascending_lower least bound greatest (port ∷ ports) below h = ((let first = h.0 in omega arith), h.1, h.2)

pub ascending_remove : (least greatest : ℕ) (ports : List ℕ) (place : ℕ) → IsAscending least greatest ports → IsAscending least greatest (remove ports place)
ascending_remove least greatest [] zero h = tt
ascending_remove least greatest [] (suc place) h = tt
ascending_remove least greatest (port ∷ ports) zero h = ascending_lower least (suc port) greatest ports (let first = h.0 in omega arith) h.2
ascending_remove least greatest (port ∷ ports) (suc place) h = (h.0, h.1, ascending_remove (suc port) greatest ports place h.2)

pub ascending_behind : (least greatest port : ℕ) (ports : List ℕ) → IsAscending least greatest (port ∷ ports) → IsAscending least greatest ports
ascending_behind least greatest port ports h = ascending_lower least (suc port) greatest ports (let first = h.0 in omega arith) h.2

at_least : (least greatest : ℕ) (ports : List ℕ) (k d : ℕ) → IsAscending least greatest ports → k < length ports → least ≤ get_or ports k d
at_least least greatest [] k d h lt = absurd (omega arith)
at_least least greatest (port ∷ ports) zero d h lt = h.0
at_least least greatest (port ∷ ports) (suc k) d h lt = let more = at_least (suc port) greatest ports k d h.2 (omega arith) in let first = h.0 in omega arith

pub non_decreasing : (least greatest : ℕ) (ports : List ℕ) → IsAscending least greatest ports → IsNonDecreasingBy (λ port. port) ports
non_decreasing least greatest [] h i j d up lt = absurd (omega arith)
non_decreasing least greatest (port ∷ ports) h zero zero d up lt = omega arith
non_decreasing least greatest (port ∷ ports) h zero (suc j) d up lt = let more = at_least (suc port) greatest ports j d h.2 (omega arith) in omega arith
non_decreasing least greatest (port ∷ ports) h (suc i) zero d up lt = absurd (omega arith)
non_decreasing least greatest (port ∷ ports) h (suc i) (suc j) d up lt = non_decreasing (suc port) greatest ports h.2 i j d (omega arith) (omega arith)

-- a port put where the ports below it end is in its place
pub insert_is_placed : (port : ℕ) (ports : List ℕ) (place : ℕ) → place ≤ length ports
    → IsPartitionPoint (λ other. ltb other port ≡ true) (λ other. ltb other port ≡ false) ports place
    → insert ports place port ≡ placed port ports
insert_is_placed port [] zero le h = refl
insert_is_placed port [] (suc place) le h = absurd (omega arith)
insert_is_placed port (other ∷ ports) zero le h = let e : ltb other port ≡ false = h.1 0 0 (omega arith) (omega arith) in rw e refl
insert_is_placed port (other ∷ ports) (suc place) le h =
    let e : ltb other port ≡ true = h.0 0 0 (omega arith) (omega arith) in
    rw e (ap (λ rest. other ∷ rest) (insert_is_placed port ports place (omega arith)
    (λ k d low high. h.0 (suc k) d (omega arith) (omega arith), λ k d low high. h.1 (suc k) d (omega arith) (omega arith))))

pub ascending_taken : (result : Option ℕ) (least greatest place : ℕ) (old new : List ℕ) → OnSome result (new ≡ remove old place) → IfNone result (new ≡ old) → IsAscending least greatest old → IsAscending least greatest new
ascending_taken (Some port) least greatest place old new some none h = rw some (ascending_remove least greatest old place h)
ascending_taken None least greatest place old new some none h = rw none h

pub taken_port : (result : Option ℕ) (ports : List ℕ) (place : ℕ) → IfSome result (λ port. port ≡ get_or ports place port) → (IsSome result → place < length ports) → IfSome result (λ port. slice_get ports place ≡ Some port)
taken_port (Some port) ports place value within = slice_get-get_or ports place port (within refl) ∙ ap Some (sym value)
taken_port None ports place value within = tt

pub ascending_rest : (least greatest : ℕ) (result : Option ℕ) (ports : List ℕ) → IsAscending least greatest (option_to_list result ++ ports) → IsAscending least greatest ports
ascending_rest least greatest (Some port) ports h = ascending_behind least greatest port ports h
ascending_rest least greatest None ports h = h
