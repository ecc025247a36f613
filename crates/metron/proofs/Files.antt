-- The files of a command's devices: which they are, and that they differ.
use Rattle.std.proofs.Common.{◌≡◌, ◌≢◌, ℕ, zero, suc, ◌+◌, ◌<◌, ◌≤◌, Bool, true, false, not, ◌&&◌, ◌||◌, cond, List, [], ◌∷◌, length, map, take, refl, sym, ◌∙◌, ap, arith}
use Rattle.std.specs.Prelude.{Some, None, nat_lt, slice_get, option_map, if◌then◌else◌, position}
use Rattle.std.specs.List.{list_any, find, position_or_len}
use Rattle.std.proofs.lemmas.Bool.{false≢true}
use Rattle.std.proofs.lemmas.Bool.Decides.{nat_tests}
use Rattle.std.proofs.lemmas.List.Sums.{fails_before_first}
use Rattle.std.proofs.lemmas.List.{length-map, length-take}
use Rattle.std.proofs.lemmas.Option.{none-some, get_or_from_slice_get, slice_get_within}
use Rattle.mt_elements.specs.ChainState.{ChainState}
use Rattle.mt_command.specs.declared.binding.Side.TheVariants.{In, Out}
use Rattle.mt_command.specs.Parts.{RunView, BindingView, DeviceView, BoundView}
use Rattle.mt_command.specs.Devices.{has_side, is_of, lacks, is_unbound, file_for, bound_of, AreBound}
use Rattle.mt_command.specs.Apart.{HasFile, AreBoundApart}
use Rattle.mt_pcap.specs.Sources.{AreApart}
use Rattle.metron.specs.Inputs.{device_of, devices_from, devices_of, or_empty, inputs_of, outputs_of}
use Rattle.metron.specs.Serving.{IsFile, AreFilesApart}

-- ---- lists

find_either : {X : Type 0} (p : X → Bool) (b : Bool) (x : X) (xs : List X) → (list_any p xs ≡ true → (y : X) × (find p xs ≡ Some y)) → (b || list_any p xs) ≡ true → (y : X) × ((cond b (Some x) (find p xs)) ≡ Some y)
find_either p true x xs later h = (x, refl)
find_either p false x xs later h = later h

find_of_any : {X : Type 0} (p : X → Bool) (xs : List X) → list_any p xs ≡ true → (x : X) × (find p xs ≡ Some x)
find_of_any p [] h = absurd (false≢true h)
find_of_any p (x ∷ xs) h = find_either p (p x) x xs (find_of_any p xs) h

none_at : {X : Type 0} (p : X → Bool) (xs : List X) (k : ℕ) (x : X) → position p xs ≡ None → slice_get xs k ≡ Some x → p x ≡ false
none_at p xs k x none at =
    let within : k < length xs = slice_get_within xs k x at in
    let past : length xs ≤ position_or_len p xs = past_end (position_or_len p xs) (length xs) none in
    ap p (sym (get_or_from_slice_get xs k x x at)) ∙ fails_before_first p xs k x (omega (arith, within, past))
  where
    past_end : (i n : ℕ) → cond (nat_lt i n) (Some i) None ≡ None → n ≤ i
    past_end i n none = grind (arith, nat_tests)

get_of_map : {X Y : Type 0} (f : X → Y) (xs : List X) (k : ℕ) (y : Y) → slice_get (map f xs) k ≡ Some y → (x : X) × (slice_get xs k ≡ Some x) × (f x ≡ y)
get_of_map f [] k y at = absurd (none-some y at)
get_of_map f (x ∷ xs) zero y at = (x, refl, cc)
get_of_map f (x ∷ xs) (suc k) y at = get_of_map f xs k y at

pub get_of_take : {X : Type 0} (n : ℕ) (xs : List X) (k : ℕ) (x : X) → slice_get (take n xs) k ≡ Some x → (k < n) × (slice_get xs k ≡ Some x)
get_of_take zero xs k x at = absurd (none-some x at)
get_of_take (suc n) [] k x at = absurd (none-some x at)
get_of_take (suc n) (y ∷ xs) zero x at = (omega arith, at)
get_of_take (suc n) (y ∷ xs) (suc k) x at = let h = get_of_take n xs k x at in (omega (arith, h.0), h.1)

-- ---- devices

pub device_at : (chain : ChainState) (number : ℕ) (names : List (List ℕ)) (k : ℕ) (device : DeviceView) → slice_get (devices_from chain number names) k ≡ Some device
    → (name : List ℕ) × (device ≡ device_of chain (number + k) name)
device_at chain number [] k device at = absurd (none-some device at)
device_at chain number (name ∷ names) zero device at = (name, (let e : device ≡ device_of chain number name = cc in e ∙ ap (λ n. device_of chain n name) (omega arith)))
device_at chain number (name ∷ names) (suc k) device at =
    let h = device_at chain (number + 1) names k device at in (h.0, h.1 ∙ ap (λ n. device_of chain n h.0) (omega arith))

pub length-devices : (chain : ChainState) (number : ℕ) (names : List (List ℕ)) → length (devices_from chain number names) ≡ length names
length-devices chain number [] = refl
length-devices chain number (name ∷ names) = ap suc (length-devices chain (number + 1) names)

both : (a b : Bool) → (a && b) ≡ false → a ≡ true → b ≡ false
both true b none is = none
both false b none is = absurd (false≢true is)

first_false : (a b : Bool) → (a || b) ≡ false → a ≡ false
first_false true b h = h
first_false false b h = refl

from_not : (b : Bool) → not b ≡ false → b ≡ true
from_not true h = refl
from_not false h = absurd (false≢true (sym h))

-- a device with an input has a file for it
has_input : (bindings : List BindingView) (device : DeviceView) → is_unbound bindings device ≡ false → device.is_input ≡ true → (file : List ℕ) × (file_for bindings In device ≡ Some file)
unfolding is_unbound file_for
has_input bindings device bound input =
    let lacking : lacks bindings In device ≡ false = first_false (lacks bindings In device) (lacks bindings Out device) bound in
    let some : list_any (is_of In device.name) bindings ≡ true = from_not _ (both (has_side In device) (not (list_any (is_of In device.name) bindings)) lacking input) in
    let found = find_of_any (is_of In device.name) bindings some in (
      found.0.file,
      ap (λ b. if b then option_map (λ (b : BindingView). b.file) (find (is_of In device.name) bindings) else None) input
          ∙ ap (option_map (λ (b : BindingView). b.file)) found.1,
    )

module _ (chain : ChainState) (bindings : List BindingView) (bound : List BoundView) (are : AreBound bindings (devices_of chain) bound) where
  -- the files of the captures are those of the inputs
  pub input_is : (k : ℕ) (name : List ℕ) → slice_get (inputs_of chain bound) k ≡ Some name → HasFile bound k In name
  input_is k name at =
      let mapped = get_of_map (λ (b : BoundView). or_empty b.input) (take chain.entries bound) k name at in
      let taken = get_of_take chain.entries bound k mapped.0 mapped.1 in
      let from = get_of_map (bound_of bindings) (devices_of chain) k mapped.0 (ap (λ (l : List BoundView). slice_get l k) (sym are.files) ∙ taken.1) in
      let here = device_at chain 1 chain.devices k from.0 from.1 in
      let input : from.0.is_input ≡ true = ap (λ (d : DeviceView). d.is_input) here.1 ∙ (let le : 1 + k ≤ chain.entries = omega (arith, taken.0) in grind (arith, nat_tests)) in
      let file = has_input bindings from.0 (none_at (is_unbound bindings) (devices_of chain) k from.0 are.none_left from.1) input in
      let told : mapped.0.input ≡ Some file.0 = ap (λ (b : BoundView). b.input) (sym from.2) ∙ file.1 in
      let same : file.0 ≡ name = sym (ap or_empty told) ∙ mapped.2 in
      (mapped.0, taken.1, told ∙ ap (λ (f : List ℕ). Some f) same)

  pub output_is : (k : ℕ) (name : List ℕ) → IsFile (outputs_of bound) k name → HasFile bound k Out name
  output_is k name at =
      let mapped = get_of_map (λ (b : BoundView). b.output) bound k (Some name) at in
      (mapped.0, mapped.1, mapped.2)

  module _ (run : RunView) (apart : AreBoundApart run bound) where
    pub inputs_apart : AreApart (inputs_of chain bound)
    inputs_apart i j name at_i at_j = (apart.differ i j In In name (input_is i name at_i) (input_is j name at_j)).0

    pub outputs_apart : AreFilesApart (outputs_of bound)
    outputs_apart j k name at_j at_k = (apart.differ j k Out Out name (output_is j name at_j) (output_is k name at_k)).0

    pub not_chain : (k : ℕ) (name : List ℕ) → slice_get (inputs_of chain bound) k ≡ Some name → name ≢ run.chain
    not_chain k name at = apart.not_chain k In name (input_is k name at)

    pub not_script : (k : ℕ) (name : List ℕ) → slice_get (inputs_of chain bound) k ≡ Some name → name ≢ run.script
    not_script k name at = apart.not_script k In name (input_is k name at)

  pub few_bound : length bound ≡ length chain.devices
  few_bound = ap length are.files ∙ length-map (devices_of chain) (bound_of bindings) ∙ length-devices chain 1 chain.devices

  pub few_inputs : length (inputs_of chain bound) ≤ chain.entries
  few_inputs =
      let mapped : length (inputs_of chain bound) ≡ length (take chain.entries bound) = length-map (take chain.entries bound) (λ (b : BoundView). or_empty b.input) in
      let taken = length-take chain.entries bound in
      grind (arith, nat_tests)
