-- How many devices, pools, mappers and elements there can be.
use Rattle.std.proofs.Common.{◌≡◌, ◌∙◌, ap, sym, ℕ, suc, ◌+◌, ◌*◌, ◌≤◌, cond, Bool, true, false, List, [], ◌∷◌, ◌++◌, length, map, fold, arith}
use Rattle.std.specs.Prelude.{Ok}
use Rattle.std.specs.List.{All, flat_map, filter}
use Rattle.std.specs.Str.{bytes_eq}
use Rattle.std.proofs.lemmas.List.{length-append, length-map}
use Rattle.std.proofs.lemmas.List.Sums.{fold-append}
use Rattle.mt_graph.specs.declared.Element.{Element}
use Rattle.mt_kinds.specs.declared.description.Description.{Description}
use Rattle.mt_kinds.specs.declared.description.Description.TheVariants.{FromDevice, ToDevice, Rewriter, Mapper, Settled}
use Rattle.mt_graph.specs.declared.Wire.{Wire}
use Rattle.mt_kinds.specs.declared.kind.Kind.{Kind}
use Rattle.mt_kinds.specs.declared.rewriter.Pool.{Pool}
use Rattle.mt_elements.specs.ChainState.{ChainState}
use Rattle.mt_elements.specs.Described.{describe, is_mapper, mapper_names, entry_in, exit_in, pools_in, is_pool, added, entries_of, devices_of, pools_of, kinds_of, chain_of, HasFewArguments}
use Rattle.mt_elements.proofs.Classes.{fits, flat_map_length}
use Rattle.mt_elements.proofs.Firsts.{at_most}
use Rattle.mt_elements.proofs.Numbered.{head_says, tail_says}

pub one_each : (es : List Element) (ds : List Description) → map describe es ≡ map Ok ds → length es ≡ length ds
one_each es ds h = sym (length-map es describe) ∙ ap length h ∙ length-map ds Ok

-- ---- devices

entry_most : (d : Description) → length (entry_in d) ≤ 1
entry_most (FromDevice name) = omega arith
entry_most (ToDevice name) = omega arith
entry_most (Rewriter specs) = omega arith
entry_most (Mapper templates) = omega arith
entry_most (Settled k) = omega arith

exit_most : (d : Description) → length (exit_in d) ≤ 1
exit_most (FromDevice name) = omega arith
exit_most (ToDevice name) = omega arith
exit_most (Rewriter specs) = omega arith
exit_most (Mapper templates) = omega arith
exit_most (Settled k) = omega arith

pub entries_few : (ds : List Description) → length (entries_of ds) ≤ length ds
entries_few ds =
    let coming = flat_map_length entry_in 1 ds entry_most in
    let all = at_most bytes_eq [] (flat_map entry_in ds) in
    omega (arith, coming, all)

pub devices_few : (ds : List Description) → length (devices_of ds) ≤ length ds + length ds
devices_few ds =
    let coming = flat_map_length entry_in 1 ds entry_most in
    let going = flat_map_length exit_in 1 ds exit_most in
    let both = length-append (flat_map entry_in ds) (flat_map exit_in ds) in
    let all = at_most bytes_eq [] (flat_map entry_in ds ++ flat_map exit_in ds) in
    omega (arith, coming, going, both, all)

-- the devices after those by which frames enter and then those on which they are sent
pub devices_are : (ds : List Description) (first all : List (List ℕ)) → first ≡ fold (added bytes_eq) [] (flat_map entry_in ds) → all ≡ fold (added bytes_eq) first (flat_map exit_in ds) → all ≡ devices_of ds
devices_are ds first all h k =
    k ∙ ap (λ l. fold (added bytes_eq) l (flat_map exit_in ds)) h ∙ sym (fold-append (added bytes_eq) [] (flat_map entry_in ds) (flat_map exit_in ds))

-- ---- pools

flat_pools : (es : List Element) (ds : List Description) → map describe es ≡ map Ok ds → All HasFewArguments es → length (flat_map pools_in ds) ≤ length es * 1048576
flat_pools [] [] h few = omega arith
flat_pools [] (d ∷ ds) h few = absurd cc
flat_pools (e ∷ es) [] h few = absurd cc
flat_pools (e ∷ es) (d ∷ ds) h few =
    let known = fits e.class e.args d (head_says e es d ds h) in
    let here = known.pools in
    let most : length e.args ≤ 1048576 = few 0 e (omega arith) in
    let later = flat_pools es ds (tail_says e es d ds h) (λ k x lt. few (suc k) x (omega (arith, lt))) in
    let both = length-append (pools_in d) (flat_map pools_in ds) in
    omega (arith, here, most, later, both)

pub pools_few : (es : List Element) (ds : List Description) → map describe es ≡ map Ok ds → All HasFewArguments es → length (pools_of ds) ≤ length es * 1048576
pools_few es ds h few =
    let flat = flat_pools es ds h few in
    let all = at_most is_pool [] (flat_map pools_in ds) in
    omega (arith, flat, all)

-- ---- mappers and elements

filter_few : {A : Type 0} (p : A → Bool) (xs : List A) → length (filter p xs) ≤ length xs
filter_few p [] = omega arith
filter_few p (x ∷ xs) = either (p x) (filter_few p xs)
  where
    either : (b : Bool) → length (filter p xs) ≤ length xs → length (cond b (x ∷ filter p xs) (filter p xs)) ≤ length (x ∷ xs)
    either true h = omega (arith, h)
    either false h = omega (arith, h)

pub names_few : {A : Type 0} (f : A → List ℕ) (names : List A) (es : List Element) → map f names ≡ mapper_names es → length names ≤ length es
names_few f names es h =
    let same : length names ≡ length (filter is_mapper es) = sym (length-map names f) ∙ ap length h ∙ length-map (filter is_mapper es) (λ (e : Element). e.name) in
    let most = filter_few is_mapper es in
    omega (arith, same, most)

pub kinds_few : (devices : List (List ℕ)) (pools : List Pool) (names : List (List ℕ)) (es : List Element) (ds : List Description) → length (kinds_of devices pools names es ds) ≤ length es
unfolding kinds_of
kinds_few devices pools names [] ds = omega arith
kinds_few devices pools names (e ∷ es) [] = omega arith
kinds_few devices pools names (e ∷ es) (d ∷ ds) = let rest = kinds_few devices pools names es ds in omega (arith, rest)

-- ---- of at most 512 elements

module _ (es : List Element) (ds : List Description) (described : map describe es ≡ map Ok ds) (few : length es ≤ 512) where
  pub entries_fit : (first : List (List ℕ)) → first ≡ fold (added bytes_eq) [] (flat_map entry_in ds) → length first ≤ 512
  entries_fit first is =
      let same = ap length is in let most = entries_few ds in let all = one_each es ds described in omega (arith, same, most, all, few)

  pub devices_fit : (devices : List (List ℕ)) → devices ≡ devices_of ds → length devices ≤ 1024
  devices_fit devices is =
      let same = ap length is in let most = devices_few ds in let all = one_each es ds described in omega (arith, same, most, all, few)

  pub pools_fit : All HasFewArguments es → (pools : List Pool) → pools ≡ pools_of ds → length pools ≤ 536870912
  pools_fit arguments pools is = let same = ap length is in let most = pools_few es ds described arguments in omega (arith, same, most, few)

-- ---- the chain, by its parts

abbrev chain_by : List Wire → List Kind → List (List ℕ) → ℕ → List Pool → ChainState
chain_by wires kinds devices entries pools = record { kinds = kinds; wires = wires; devices = devices; entries = entries; pools = pools }

pub chain_is : (es : List Element) (wires : List Wire) (ds : List Description) (kinds : List Kind) (devices names : List (List ℕ)) (entries : ℕ) (pools : List Pool)
    → kinds ≡ kinds_of devices pools names es ds → names ≡ mapper_names es → devices ≡ devices_of ds → entries ≡ length (entries_of ds) → pools ≡ pools_of ds
    → chain_by wires kinds devices entries pools ≡ chain_of es wires ds
chain_is es wires ds kinds devices names entries pools at_kinds at_names at_devices at_entries at_pools =
    ap (λ (k : List Kind). chain_by wires k devices entries pools)
    (at_kinds
    ∙ ap (λ (d : List (List ℕ)). kinds_of d pools names es ds) at_devices
    ∙ ap (λ (p : List Pool). kinds_of (devices_of ds) p names es ds) at_pools
    ∙ ap (λ (n : List (List ℕ)). kinds_of (devices_of ds) (pools_of ds) n es ds) at_names)
    ∙ ap (λ (d : List (List ℕ)). chain_by wires (chain_of es wires ds).kinds d entries pools) at_devices
    ∙ ap (λ (n : ℕ). chain_by wires (chain_of es wires ds).kinds (devices_of ds) n pools) at_entries
    ∙ ap (λ (p : List Pool). chain_by wires (chain_of es wires ds).kinds (devices_of ds) (length (entries_of ds)) p) at_pools
