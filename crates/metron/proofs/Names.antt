-- The devices of a chain have different names.
use Rattle.std.proofs.Common.{◌≡◌, ◌≢◌, ◌<◌, ◌+◌, ℕ, zero, suc, Bool, true, false, ◌||◌, List, [], ◌∷◌, ◌++◌, length, get_or, refl, sym, ◌∙◌, ap, subst, arith}
use Rattle.std.specs.Prelude.{if◌then◌else◌}
use Rattle.std.specs.List.{AllPairs, list_any, fold, flat_map}
use Rattle.std.specs.Str.{bytes_eq}
use Rattle.std.proofs.lemmas.List.Quantifiers.{all_pairs_push}
use Rattle.std.proofs.lemmas.Slice.Eq.{bytes_eq-Decides}
use Rattle.mt_graph.specs.declared.Element.{Element}
use Rattle.mt_graph.specs.declared.Wire.{Wire}
use Rattle.mt_elements.specs.ChainState.{ChainState}
use Rattle.mt_elements.specs.Described.{added, entry_in, exit_in, IsChainOf}
use Rattle.mt_command.specs.Apart.{HaveNames}
use Rattle.mt_command.specs.Parts.{DeviceView}
use Rattle.metron.specs.Inputs.{devices_from, devices_of}
use Rattle.metron.proofs.Files.{length-devices}

abbrev Differ : List ℕ → List ℕ → Type 0
Differ a b = a ≢ b

unequal : (a b : List ℕ) → bytes_eq b a ≡ false → a ≢ b
unequal a b differs same =
    let equal : bytes_eq b a ≡ true = (bytes_eq-Decides b a).1 (sym same) in
    let contra : true ≡ false = sym equal ∙ differs in
    cc

first_false : (a b : Bool) → (a || b) ≡ false → a ≡ false
first_false true b h = h
first_false false b h = refl

second_false : (a b : Bool) → (a || b) ≡ false → b ≡ false
second_false true b h = cc
second_false false b h = h

none_equal : (name : List ℕ) (names : List (List ℕ)) → list_any (bytes_eq name) names ≡ false → (k : ℕ) (d : List ℕ) → k < length names → get_or names k d ≢ name
none_equal name [] none k d within = absurd (omega (arith, within))
none_equal name (other ∷ names) none zero d within = unequal other name (first_false (bytes_eq name other) (list_any (bytes_eq name) names) none)
none_equal name (other ∷ names) none (suc k) d within = none_equal name names (second_false (bytes_eq name other) (list_any (bytes_eq name) names) none) k d (omega (arith, within))

by_test : (names : List (List ℕ)) (name : List ℕ) (b : Bool) → list_any (bytes_eq name) names ≡ b → AllPairs Differ names → AllPairs Differ (if b then names else names ++ name ∷ [])
by_test names name true is apart = apart
by_test names name false is apart = all_pairs_push Differ names name apart (none_equal name names is)

one_apart : (names : List (List ℕ)) (name : List ℕ) → AllPairs Differ names → AllPairs Differ (added bytes_eq names name)
one_apart names name apart = by_test names name (list_any (bytes_eq name) names) refl apart

all_apart : (names more : List (List ℕ)) → AllPairs Differ names → AllPairs Differ (fold (added bytes_eq) names more)
all_apart names [] apart = apart
all_apart names (name ∷ more) apart = all_apart (added bytes_eq names name) more (one_apart names name apart)

none_apart : AllPairs Differ []
none_apart i j d lt within = absurd (omega (arith, within))

device_name : (chain : ChainState) (number : ℕ) (names : List (List ℕ)) (k : ℕ) (d : DeviceView) → k < length names → (get_or (devices_from chain number names) k d).name ≡ get_or names k []
device_name chain number [] k d within = absurd (omega (arith, within))
device_name chain number (name ∷ names) zero d within = refl
device_name chain number (name ∷ names) (suc k) d within = device_name chain (number + 1) names k d (omega (arith, within))

have_names : (chain : ChainState) → AllPairs Differ chain.devices → HaveNames (devices_of chain)
have_names chain apart i j d lt within same =
    let long : length (devices_of chain) ≡ length chain.devices = length-devices chain 1 chain.devices in
    apart i j [] lt (omega (arith, within, long))
    (sym (device_name chain 1 chain.devices i d (omega (arith, lt, within, long))) ∙ same ∙ device_name chain 1 chain.devices j d (omega (arith, within, long)))

pub names_differ : (elements : List Element) (wires : List Wire) (chain : ChainState) → IsChainOf elements wires chain → HaveNames (devices_of chain)
names_differ elements wires chain is =
    have_names chain (subst (AllPairs Differ) (sym (ap (λ (c : ChainState). c.devices) is.chain_is)) (all_apart [] (flat_map entry_in is.descriptions ++ flat_map exit_in is.descriptions) none_apart))
