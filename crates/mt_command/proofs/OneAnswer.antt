-- Words, and bindings with devices, have one answer.
use Rattle.std.proofs.Common.{◌≡◌, ◌∙◌, sym, ap, inl, inr, ℕ, ◌+◌, ◌<◌, true, false, List, length, slice_get, arith}
use Rattle.std.specs.Prelude.{Some, None}
use Rattle.std.proofs.lemmas.Bool.{cases_lt}
use Rattle.std.proofs.lemmas.Option.{slice_get_within}
use Rattle.mt_command.specs.Parts.{BindingView, BoundView, DeviceView, RunView}
use Rattle.mt_command.specs.Words.{is_at_fault}
use Rattle.mt_command.specs.Command.{IsCommand, IsFirstAtFault}
use Rattle.mt_command.specs.Devices.{AreBound, AreFit, IsFirstUnbound, IsFirstUnfit}
use Rattle.mt_command.proofs.Ends.{fine_past}

same_some : {X : Type 0} (x y : X) → Some x ≡ Some y → x ≡ y
same_some x y e = let q : Some x ≡ Some y = e in cc

-- one of two numbers is the lower, or they are one
data Ordered (n m : ℕ) : Type 0 where
  lower : n < m → Ordered n m
  equal : n ≡ m → Ordered n m
  higher : m < n → Ordered n m

ordered : (n m : ℕ) → Ordered n m
ordered n m = elim (cases_lt n m) [
  | inl less ↦ lower less
  | inr past ↦ elim (cases_lt m n) [ inl less ↦ higher less | inr within ↦ equal (omega (arith, past, within)) ]
]

-- ---- words

at_fault_and_fine : (names words : List (List ℕ)) (n : ℕ) → is_at_fault names words n ≡ true → is_at_fault names words n ≡ false → ⊥
at_fault_and_fine names words n wrong fine = let e : true ≡ false = sym wrong ∙ fine in cc

pub one_command : (names words : List (List ℕ)) (r s : RunView) → IsCommand names words r → IsCommand names words s → r ≡ s
one_command names words r s c d = same_some r s (sym c.says ∙ d.says)

pub command_or_fault : (names words : List (List ℕ)) (r : RunView) (n : ℕ) → IsCommand names words r → IsFirstAtFault names words n → ⊥
command_or_fault names words r n c f = elim f.fault [
  | inl wrong ↦ at_fault_and_fine names words n wrong (c.faultless n)
  | inr short ↦ (let e : true ≡ false = sym short.1 ∙ c.complete in cc)
]

-- the lower of two
first_lower : (names words : List (List ℕ)) (n m : ℕ) → n < m → IsFirstAtFault names words n → IsFirstAtFault names words m → ⊥
first_lower names words n m less f g = elim f.fault [
  | inl wrong ↦ at_fault_and_fine names words n wrong (g.first n less)
  | inr short ↦ elim g.fault [
    | inl wrong ↦ at_fault_and_fine names words m wrong (fine_past names words m (let end = short.0 in omega (arith, less, end)))
    | inr other ↦ (let end = short.0 in let also = other.0 in omega (arith, less, end, also))
  ]
]

pub one_fault : (names words : List (List ℕ)) (n m : ℕ) → IsFirstAtFault names words n → IsFirstAtFault names words m → n ≡ m
one_fault names words n m f g = elim (ordered n m) [
  | lower less ↦ absurd (first_lower names words n m less f g)
  | equal e ↦ e
  | higher less ↦ absurd (first_lower names words m n less g f)
]

-- ---- bindings

unfit_and_fit : (bindings : List BindingView) (devices : List DeviceView) (n k : ℕ) (u : IsFirstUnfit bindings devices n) → AreFit devices bindings k → u.place < k → ⊥
unfit_and_fit bindings devices n k u fit less =
    let e : true ≡ false = sym u.unfit ∙ fit u.place u.binding less u.stands in cc

pub one_unfit : (bindings : List BindingView) (devices : List DeviceView) (n m : ℕ) → IsFirstUnfit bindings devices n → IsFirstUnfit bindings devices m → n ≡ m
one_unfit bindings devices n m u v = elim (ordered u.place v.place) [
  | lower less ↦ absurd (unfit_and_fit bindings devices n v.place u v.first less)
  | equal e ↦ sym u.number ∙ ap (λ b. b.word) (same_some u.binding v.binding (sym u.stands ∙ ap (slice_get bindings) e ∙ v.stands)) ∙ v.number
  | higher less ↦ absurd (unfit_and_fit bindings devices m u.place v u.first less)
]

pub one_unbound : (bindings : List BindingView) (devices : List DeviceView) (n m : ℕ) → IsFirstUnbound bindings devices n → IsFirstUnbound bindings devices m → n ≡ m
one_unbound bindings devices n m u v = u.counted ∙ ap (λ k. k + 1) (same_some u.place v.place (sym u.lowest ∙ v.lowest)) ∙ sym v.counted

pub one_bound : (bindings : List BindingView) (devices : List DeviceView) (b c : List BoundView) → AreBound bindings devices b → AreBound bindings devices c → b ≡ c
one_bound bindings devices b c u v = u.files ∙ sym v.files

pub unfit_or_fit : (bindings : List BindingView) (devices : List DeviceView) (n : ℕ) → IsFirstUnfit bindings devices n → AreFit devices bindings (length bindings) → ⊥
unfit_or_fit bindings devices n u fit = unfit_and_fit bindings devices n (length bindings) u fit (slice_get_within bindings u.place u.binding u.stands)

pub bound_or_unbound : (bindings : List BindingView) (devices : List DeviceView) (b : List BoundView) (n : ℕ) → AreBound bindings devices b → IsFirstUnbound bindings devices n → ⊥
bound_or_unbound bindings devices b n u v = let e : None ≡ Some v.place = sym u.none_left ∙ v.lowest in cc
