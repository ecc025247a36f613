-- The first binding at fault, and the first device without one.
use Rattle.std.proofs.Common.{◌≡◌, ◌∙◌, refl, sym, ap, inl, inr, ℕ, zero, suc, ◌+◌, ◌<◌, ◌≤◌, true, false, List, [], ◌∷◌, length, map, take, get_or, slice_get, arith}
use Rattle.std.specs.Prelude.{Some, None, Bool, position}
use Rattle.std.proofs.lemmas.Bool.{cases_lt}
use Rattle.std.proofs.lemmas.List.{length-map, take-map}
use Rattle.mt_lists.proofs.Positions.{NoneBefore, found, missing, one_more}
use Rattle.mt_command.specs.declared.devices.Device.{Device}
use Rattle.mt_command.specs.declared.binding.Binding.{Binding}
use Rattle.mt_command.specs.Parts.{DeviceView, binding_view, device_view}
use Rattle.mt_command.specs.Devices.{is_unfit, AreFit, IsFirstUnfit}

-- an element of a list, by what is seen of each
pub seen_at : {X Y : Type 0} (f : X → Y) (xs : List X) (i : ℕ) (d : X) → i < length xs → slice_get (map f xs) i ≡ Some (f (get_or xs i d))
seen_at f [] i d less = absurd (omega (arith, less))
seen_at f (x ∷ xs) zero d less = refl
seen_at f (x ∷ xs) (suc i) d less = seen_at f xs i d (omega (arith, less))

one_thing : {X : Type 0} (x y : X) → Some x ≡ Some y → x ≡ y
one_thing x y e = let q : Some x ≡ Some y = e in cc

module _ (devices : List DeviceView) (bindings : List Binding) (n : ℕ) (d : Binding) (within : n < length bindings) (fit : AreFit devices (map binding_view bindings) n) where
  pub fit_more : false ≡ is_unfit devices (map binding_view (take n bindings)) (binding_view (get_or bindings n d)) → AreFit devices (map binding_view bindings) (n + 1)
  fit_more fine k b less is = elim (cases_lt k n) [
    | inl before ↦ fit k b before is
    | inr here ↦
        let last : k ≡ n = omega (arith, less, here) in
        let same : b ≡ binding_view (get_or bindings n d) = one_thing b (binding_view (get_or bindings n d)) (sym is ∙ ap (slice_get (map binding_view bindings)) last ∙ seen_at binding_view bindings n d within) in
        ap (λ m. is_unfit devices (take m (map binding_view bindings)) b) last
        ∙ ap (is_unfit devices (take n (map binding_view bindings))) same
        ∙ ap (λ l. is_unfit devices l (binding_view (get_or bindings n d))) (take-map binding_view n bindings)
        ∙ sym fine
  ]

  pub unfit_here : true ≡ is_unfit devices (map binding_view (take n bindings)) (binding_view (get_or bindings n d)) → IsFirstUnfit (map binding_view bindings) devices (get_or bindings n d).word
  unfit_here wrong = record {
    place = n;
    binding = binding_view (get_or bindings n d);
    stands = seen_at binding_view bindings n d within;
    unfit = ap (λ l. is_unfit devices l (binding_view (get_or bindings n d))) (take-map binding_view n bindings) ∙ sym wrong;
    first = fit;
    number = refl;
  }

module _ (test : DeviceView → Bool) (devices : List Device) (n : ℕ) (before : NoneBefore test (map device_view devices) n) where
  pub found_here : (d : Device) → n < length devices → test (device_view (get_or devices n d)) ≡ true → Some n ≡ position test (map device_view devices)
  found_here d within e = sym (found test (map device_view devices) n (device_view (get_or devices n d)) before (seen_at device_view devices n d within) e)

  pub none_here : (d : Device) → n < length devices → test (device_view (get_or devices n d)) ≡ false → NoneBefore test (map device_view devices) (n + 1)
  none_here d within e = one_more test (map device_view devices) n (device_view (get_or devices n d)) before (seen_at device_view devices n d within) e

  pub none_at_all : length devices ≤ n → n ≤ length devices → None ≡ position test (map device_view devices)
  none_at_all past within =
      let same = length-map devices device_view in
      sym (missing test (map device_view devices) n (omega (arith, same)) before)
