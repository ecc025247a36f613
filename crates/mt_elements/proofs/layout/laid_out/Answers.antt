use Rattle.std.proofs.Common.{◌≡◌, length, map, IfOk, ℕ, List, [], Bor, ap, ◌∙◌, arith}
use Rattle.std.proofs.Common.{fold, subst}
use Rattle.std.specs.List.{flat_map}
use Rattle.std.specs.Str.{bytes_eq}
use Rattle.mt_elements.specs.ChainState.{ChainState}
use Rattle.mt_elements.specs.Described.{added, firsts, is_pool, entry_in, exit_in, pools_in, entries_of, devices_of, pools_of, kinds_of}
use Rattle.mt_elements.proofs.Bounds.{entries_fit, devices_fit, pools_fit, names_few, kinds_few, devices_are, chain_is}
use Rattle.mt_elements.proofs.layout.laid_out.Goals as goal

pub overflow_cast-entries : goal.overflow_cast-entries
overflow_cast-entries c =
    let first : c.add_entries.new.devices.items ≡ fold (added bytes_eq) [] (flat_map entry_in c.args.descriptions.items) =
    c.in_ok-add_entries.ensures
    ∙ ap (λ (a : List (List ℕ)). fold (added bytes_eq) a (flat_map entry_in c.deref.result.now)) c.new-devices.ensures.items
    ∙ ap (λ d. fold (added bytes_eq) [] (flat_map entry_in d)) c.deref.ensures.value in
    let within = entries_fit c.args.elements.now c.args.descriptions.items c.requires.described c.requires.few c.add_entries.new.devices.items first in
    let counted = c.len-entries.ensures ∙ c.add_entries.new.devices.ok.0 in
    omega (arith, within, counted)

pub kinds_of-requires-clause-devices : goal.kinds_of-requires-clause-devices
kinds_of-requires-clause-devices c =
    let first : c.add_entries.new.devices.items ≡ fold (added bytes_eq) [] (flat_map entry_in c.args.descriptions.items) =
    c.in_ok-add_entries.ensures
    ∙ ap (λ (a : List (List ℕ)). fold (added bytes_eq) a (flat_map entry_in c.deref.result.now)) c.new-devices.ensures.items
    ∙ ap (λ d. fold (added bytes_eq) [] (flat_map entry_in d)) c.deref.ensures.value in
    let devices : c.add_exits.new.devices.items ≡ devices_of c.args.descriptions.items =
    devices_are c.args.descriptions.items c.add_entries.new.devices.items c.add_exits.new.devices.items first
    (c.in_ok-add_exits.ensures ∙ ap (λ d. fold (added bytes_eq) c.add_entries.new.devices.items (flat_map exit_in d)) c.deref-2.ensures.value) in
    devices_fit c.args.elements.now c.args.descriptions.items c.requires.described c.requires.few c.deref-4.result.now (c.deref-4.ensures.value ∙ devices)

pub kinds_of-requires-clause-pools : goal.kinds_of-requires-clause-pools
kinds_of-requires-clause-pools c =
    let pools : c.in_ok-pools.pools.keys ≡ pools_of c.args.descriptions.items = c.in_ok-pools.ensures.pools ∙ ap (λ d. firsts is_pool (flat_map pools_in d)) c.deref-3.ensures.value in
    pools_fit c.args.elements.now c.args.descriptions.items c.requires.described c.requires.few c.requires.arguments c.in_ok-pools.pools.keys pools

pub kinds_of-requires-clause-names : goal.kinds_of-requires-clause-names
kinds_of-requires-clause-names c =
    let few = names_few (λ (x : Bor (List ℕ)). x.now) c.deref-5.result.now c.args.elements.now (ap (map (λ (x : Bor (List ℕ)). x.now)) c.deref-5.ensures.value ∙ c.in_ok-names.ensures) in
    let most = c.requires.few in
    omega (arith, few, most)

pub new-requires : goal.new-requires
new-requires c =
    let same = ap length c.in_ok-kinds.ensures in
    let few = kinds_few c.deref-4.result.now c.in_ok-pools.pools.keys (map (λ (x : Bor (List ℕ)). x.now) c.deref-5.result.now) c.args.elements.now c.args.descriptions.items in
    let most = c.requires.few in
    record { few = omega (arith, same, few, most) }

pub returns : goal.returns
returns c =
    let first : c.add_entries.new.devices.items ≡ fold (added bytes_eq) [] (flat_map entry_in c.args.descriptions.items) =
    c.in_ok-add_entries.ensures
    ∙ ap (λ (a : List (List ℕ)). fold (added bytes_eq) a (flat_map entry_in c.deref.result.now)) c.new-devices.ensures.items
    ∙ ap (λ d. fold (added bytes_eq) [] (flat_map entry_in d)) c.deref.ensures.value in
    let devices : c.add_exits.new.devices.items ≡ devices_of c.args.descriptions.items =
    devices_are c.args.descriptions.items c.add_entries.new.devices.items c.add_exits.new.devices.items first
    (c.in_ok-add_exits.ensures ∙ ap (λ d. fold (added bytes_eq) c.add_entries.new.devices.items (flat_map exit_in d)) c.deref-2.ensures.value) in
    let pools : c.in_ok-pools.pools.keys ≡ pools_of c.args.descriptions.items = c.in_ok-pools.ensures.pools ∙ ap (λ d. firsts is_pool (flat_map pools_in d)) c.deref-3.ensures.value in
    let entries : c.len-entries.result ≡ length (entries_of c.args.descriptions.items) = c.len-entries.ensures ∙ c.add_entries.new.devices.ok.0 ∙ ap length first in
    subst (λ (chain : ChainState). IfOk c.new.result (λ l. l ≡ chain))
    (chain_is c.args.elements.now c.args.wires.items c.args.descriptions.items c.in_ok-kinds.kinds.items c.add_exits.new.devices.items (map (λ (x : Bor (List ℕ)). x.now) c.deref-5.result.now) c.len-entries.result c.in_ok-pools.pools.keys
    (c.in_ok-kinds.ensures ∙ ap (λ d. kinds_of d c.in_ok-pools.pools.keys (map (λ (x : Bor (List ℕ)). x.now) c.deref-5.result.now) c.args.elements.now c.args.descriptions.items) c.deref-4.ensures.value)
    (ap (map (λ (x : Bor (List ℕ)). x.now)) c.deref-5.ensures.value ∙ c.in_ok-names.ensures) devices entries pools)
    c.new.ensures
