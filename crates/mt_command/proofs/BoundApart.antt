-- Where the files of a command differ, so do those of devices.
use Rattle.std.proofs.Common.{◌≡◌, ◌≢◌, ◌∙◌, refl, sym, ap, subst, inl, inr, ℕ, zero, suc, ◌<◌, Bool, true, List, [], ◌∷◌, map, find, slice_get, get_or, AllPairs, arith}
use Rattle.std.specs.Prelude.{Some, None, Option, option_map, codes}
use Rattle.std.specs.Str.{bytes_eq}
use Rattle.std.proofs.lemmas.Bool.{cases_lt}
use Rattle.std.proofs.lemmas.Option.{slice_get_within, get_or_from_slice_get, slice_get-map}
use Rattle.std.proofs.lemmas.Slice.Eq.{bytes_eq-Decides}
use Rattle.mt_lists.proofs.Bools.{chosen, and_true}
use Rattle.mt_command.specs.declared.binding.Side.{Side}
use Rattle.mt_command.specs.declared.binding.Side.TheVariants.{In, Out}
use Rattle.mt_command.specs.Apart.{AreApart, AreBoundApart, HasFile, HaveNames, file_on, files_of}
use Rattle.mt_command.specs.Devices.{is_side, is_of, has_side, file_for, bound_of, AreBound}
use Rattle.mt_command.specs.Parts.{BindingView, BoundView, DeviceView, RunView}

one_thing : {X : Type 0} (x y : X) → Some x ≡ Some y → x ≡ y
one_thing x y e = let q : Some x ≡ Some y = e in cc

-- the same side
same_side : (s t : Side) → is_side s t ≡ true → s ≡ t
same_side In In e = refl
same_side In Out e = absurd cc
same_side Out In e = absurd cc
same_side Out Out e = refl

-- what is found stands somewhere, and passes
record Found (test : BindingView → Bool) (bindings : List BindingView) (b : BindingView) : Type 0 where
  place : ℕ
  stands : slice_get bindings place ≡ Some b
  passes : test b ≡ true

found : (test : BindingView → Bool) (bindings : List BindingView) (b : BindingView) → find test bindings ≡ Some b → Found test bindings b
found test [] b e = absurd (let never : None ≡ Some b = e in cc)
found test (x ∷ xs) b e = elim (chosen (test x) (Some x) (find test xs) (Some b) e) [
  | inl here ↦
      let same : x ≡ b = one_thing x b here.1 in
      record { place = 0; stands = here.1; passes = ap test (sym same) ∙ here.0 }
  | inr past ↦
      let later = found test xs b past.1 in
      record { place = suc later.place; stands = later.stands; passes = later.passes }
]

-- the binding that a file of a device comes from, and the device
record Source (bindings : List BindingView) (devices : List DeviceView) (j : ℕ) (s : Side) (file : List ℕ) : Type 0 where
  device : DeviceView
  at : slice_get devices j ≡ Some device
  place : ℕ
  binding : BindingView
  stands : slice_get bindings place ≡ Some binding
  side : s ≡ binding.side
  name : device.name ≡ binding.device
  names : binding.file ≡ file

mapped : {X Y : Type 0} (f : X → Y) (xs : List X) (j : ℕ) (y : Y) → slice_get (map f xs) j ≡ Some y → (x : X) × (slice_get xs j ≡ Some x) × (f x ≡ y)
mapped f [] j y e = absurd (let never : None ≡ Some y = e in cc)
mapped f (x ∷ xs) zero y e = (x, refl, one_thing (f x) y e)
mapped f (x ∷ xs) (suc j) y e = mapped f xs j y e

file_found : (bindings : List BindingView) (s : Side) (device : DeviceView) (file : List ℕ) → file_for bindings s device ≡ Some file
    → (b : BindingView) × (find (is_of s device.name) bindings ≡ Some b) × (b.file ≡ file)
unfolding file_for
file_found bindings s device file e = elim (chosen (has_side s device) (option_map (λ (b : BindingView). b.file) (find (is_of s device.name) bindings)) None (Some file) e) [
  | inl there ↦ by (find (is_of s device.name) bindings) refl there.1
  | inr none ↦ absurd (let never : None ≡ Some file = none.1 in cc)
]
  where
    by : (o : Option BindingView) → find (is_of s device.name) bindings ≡ o → option_map (λ (b : BindingView). b.file) o ≡ Some file
        → (b : BindingView) × (find (is_of s device.name) bindings ≡ Some b) × (b.file ≡ file)
    by None is q = absurd (let never : None ≡ Some file = q in cc)
    by (Some b) is q = (b, is, one_thing b.file file q)

on_side : (bindings : List BindingView) (device : DeviceView) (s : Side) → file_on s (bound_of bindings device) ≡ file_for bindings s device
on_side bindings device In = refl
on_side bindings device Out = refl

source : (bindings : List BindingView) (devices : List DeviceView) (bound : List BoundView) (j : ℕ) (s : Side) (file : List ℕ)
    → bound ≡ map (bound_of bindings) devices → HasFile bound j s file → Source bindings devices j s file
source bindings devices bound j s file files h =
    let there = mapped (bound_of bindings) devices j h.0 (ap (λ l. slice_get l j) (sym files) ∙ h.1) in
    let device : DeviceView = there.0 in
    let said : file_for bindings s there.0 ≡ Some file = sym (on_side bindings there.0 s) ∙ ap (file_on s) there.2 ∙ h.2 in
    let b = file_found bindings s there.0 file said in
    let f = found (is_of s (there.0).name) bindings b.0 b.1 in
    let both = and_true (is_side s (b.0).side) (bytes_eq (there.0).name (b.0).device) f.passes in
    record {
      device = there.0;
      at = there.1;
      place = f.place;
      binding = b.0;
      stands = f.stands;
      side = same_side s (b.0).side both.0;
      name = (bytes_eq-Decides (there.0).name (b.0).device).0 both.1;
      names = b.2;
    }

-- ---- places of elements that differ

differ_at : {X : Type 0} (R : X → X → Type 0) (xs : List X) → AllPairs R xs → (i j : ℕ) (x y : X) → i < j → slice_get xs i ≡ Some x → slice_get xs j ≡ Some y → R x y
differ_at R xs pairs i j x y less first second =
    let within = slice_get_within xs j y second in
    subst (R x) (get_or_from_slice_get xs j y x second) (subst (λ z. R z (get_or xs j x)) (get_or_from_slice_get xs i x x first) (pairs i j x less within))

-- two elements that are one stand at one place
one_place : {X Y : Type 0} (f : X → Y) (xs : List X) → AllPairs (λ x y. f x ≢ f y) xs → (i j : ℕ) (x y : X) → slice_get xs i ≡ Some x → slice_get xs j ≡ Some y → f x ≡ f y → i ≡ j
one_place f xs pairs i j x y first second same = elim (cases_lt i j) [
  | inl less ↦ absurd (differ_at (λ x y. f x ≢ f y) xs pairs i j x y less first second same)
  | inr past ↦ elim (cases_lt j i) [
    | inl less ↦ absurd (differ_at (λ x y. f x ≢ f y) xs pairs j i y x less second first (sym same))
    | inr within ↦ omega (arith, past, within)
  ]
]

module _ (run : RunView) (devices : List DeviceView) (bound : List BoundView) (apart : AreApart run) (names : HaveNames devices) (are : AreBound run.bindings devices bound) where
  -- the file of a binding among those of the command
  file_at_place : (place : ℕ) (b : BindingView) → slice_get run.bindings place ≡ Some b → slice_get (files_of run) (suc (suc place)) ≡ Some b.file
  file_at_place place b stands = slice_get-map (λ (v : BindingView). v.file) run.bindings place ∙ ap (option_map (λ (v : BindingView). v.file)) stands

  from : (j : ℕ) (s : Side) (file : List ℕ) → HasFile bound j s file → Source run.bindings devices j s file
  from j s file h = source run.bindings devices bound j s file are.files h

  other_than : (k : ℕ) (named file : List ℕ) (j : ℕ) (s : Side) → k < 2 → slice_get (files_of run) k ≡ Some named → HasFile bound j s file → file ≢ named
  other_than k named file j s less is h same =
      let w = from j s file h in
      differ_at (λ file other. file ≢ other) (files_of run) apart.differ k (suc (suc w.place)) named w.binding.file (omega (arith, less)) is (file_at_place w.place w.binding w.stands)
      (sym same ∙ sym w.names)

  pub bound_apart : AreBoundApart run bound
  bound_apart = record {
    differ = λ j k s t file h i.
        let v = from j s file h in
        let w = from k t file i in
        let place : suc (suc v.place) ≡ suc (suc w.place) =
        one_place (λ x. x) (files_of run) apart.differ (suc (suc v.place)) (suc (suc w.place)) v.binding.file w.binding.file
        (file_at_place v.place v.binding v.stands) (file_at_place w.place w.binding w.stands) (v.names ∙ sym w.names) in
        let same_place : v.place ≡ w.place = omega (arith, place) in
        let same : v.binding ≡ w.binding = one_thing v.binding w.binding (sym v.stands ∙ ap (slice_get run.bindings) same_place ∙ w.stands) in (
          one_place (λ (d : DeviceView). d.name) devices names j k v.device w.device v.at w.at (v.name ∙ ap (λ (b : BindingView). b.device) same ∙ sym w.name),
          v.side ∙ ap (λ (b : BindingView). b.side) same ∙ sym w.side,
        );
    not_chain = λ j s file h. other_than 0 run.chain file j s (omega arith) refl h;
    not_script = λ j s file h. other_than 1 run.script file j s (omega arith) refl h;
    named = λ j s file h.
        let w = from j s file h in
        let stands = file_at_place w.place w.binding w.stands in
        let all = apart.named (suc (suc w.place)) w.binding.file (slice_get_within (files_of run) (suc (suc w.place)) w.binding.file stands) in
        subst (λ f. f ≢ codes "-") (get_or_from_slice_get (files_of run) (suc (suc w.place)) w.binding.file w.binding.file stands ∙ w.names) all;
  }
