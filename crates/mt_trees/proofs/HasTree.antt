-- Every header that arrives on a device of an accepted chain has a tree.
use Rattle.std.proofs.Common.{◌≡◌, ◌∙◌, sym, ap, subst, refl, ℕ, zero, suc, ◌<◌, true, List, length, arith}
use Rattle.std.specs.Prelude.{Option, Some, None, slice_get, option_map, option_and_then, if◌then◌else◌}
use Rattle.std.specs.List.{find}
use Rattle.std.proofs.lemmas.Option.{none-some}
use Rattle.mt_graph.specs.declared.Wire.{Wire}
use Rattle.mt_packet.specs.Header.{field_of}
use Rattle.mt_packet.specs.declared.cause.Cause.{Cause}
use Rattle.mt_packet.specs.declared.field.Field.TheVariants.{Device}
use Rattle.mt_packet.specs.declared.layer.Layer.{Layer}
use Rattle.mt_kinds.specs.Layers.{takes, layer_behind}
use Rattle.mt_kinds.specs.Ports.{leads, LeadsWithin}
use Rattle.mt_kinds.specs.declared.kind.Kind.{Kind}
use Rattle.mt_wiring.specs.Ways.{IsRank}
use Rattle.mt_elements.specs.Accepted.{IsAccepted, behavior_of}
use Rattle.mt_elements.specs.ChainState.{ChainState, IsKind, is_from, is_entry, target, entry_of, mappers_of}
use Rattle.mt_chain.specs.Run.{IsThere}
use Rattle.mt_chain.specs.Step.{unwired_cause}
use Rattle.mt_terms.specs.Trees.{drop}
use Rattle.mt_trees.proofs.Arrivals.{position_is, kind_device, kind_is, Stands, arrived, fits, spec_there, step, goes, next_kind, may_drop}
use Rattle.mt_trees.proofs.ClassThere.{IsWay, HasWays, class_there}
use Rattle.mt_trees.proofs.TestsThere.{there_then}
use Rattle.mt_trees.specs.Elements.{Along, by_wire, class_tree, element_tree, tree_from, tree_of}
use Rattle.mt_trees.specs.Symbols.{Symbol, first_symbol}

module _ (chain : ChainState) (header : List ℕ) (accepted : IsAccepted chain) (within_law : LeadsWithin) (rank : ℕ × ℕ → ℕ) (ranks : IsRank (behavior_of chain.kinds).leads chain.wires rank) where
  module _ (along : Along) (port : ℕ × ℕ) (kind : Kind) (is : IsKind chain port.0 kind)
      (again : (next : ℕ × ℕ) (symbol : Symbol) (k : Kind) → IsKind chain next.0 k → rank next < rank port → Stands chain next symbol.layer → IsThere (along next symbol)) where
    dropped_there : (symbol : Symbol) (why : Option Cause) → IsThere why → IsThere (by_wire along symbol None why)
    dropped_there symbol (Some why) there = (drop why, refl)
    dropped_there symbol None there = absurd (none-some there.0 there.1)

    -- behind an output, wired or not
    to_next : (layer : Layer) → Stands chain port layer → (next : Symbol) (out : ℕ) → next.layer ≡ layer_behind kind layer out → leads (mappers_of chain.kinds) kind port.1 out ≡ true → IsWay chain header along port kind out
        → (found : Option Wire) → find (is_from port.0 out) chain.wires ≡ found → IsThere (by_wire along next (option_map target found) (unwired_cause kind out))
    to_next layer stands next out layer_is lead way (Some wire) found =
        let k = next_kind chain accepted port kind is out lead wire found in
        again (target wire) next k.0 k.1 (ranks.falls port wire (step chain accepted port kind is out lead wire found))
        (subst (Stands chain (target wire)) (sym layer_is) (goes chain accepted port kind is out lead wire found layer stands))
    to_next layer stands next out layer_is lead way None found = dropped_there next (unwired_cause kind out) (may_drop chain accepted port kind is out (ap (option_map target) found) way)

    ways : (layer : Layer) → Stands chain port layer → HasWays chain header along port kind layer
    ways layer stands next out layer_is lead way = to_next layer stands next out layer_is lead way (find (is_from port.0 out) chain.wires) refl

    element_there : (symbol : Symbol) → Stands chain port symbol.layer → IsThere (element_tree chain header along port symbol kind)
    element_there symbol stands =
        subst (λ b. IsThere (if b then class_tree chain header along port kind symbol else None)) (sym took)
        (class_there chain header along port kind symbol within_law took (spec_there chain accepted port symbol.layer kind is stands) (ways symbol.layer stands))
      where
        took : takes kind symbol.layer ≡ true
        took = fits chain accepted port symbol.layer kind is stands

  -- from where a packet stands
  from_there : (most : ℕ) (port : ℕ × ℕ) (symbol : Symbol) (kind : Kind) → IsKind chain port.0 kind → rank port < most → Stands chain port symbol.layer → IsThere (tree_from most chain header port symbol)
  unfolding tree_from
  from_there zero port symbol kind is below stands = absurd (omega (arith, below))
  from_there (suc most) port symbol kind is below stands =
      there_then (slice_get chain.kinds port.0) kind (element_tree chain header (tree_from most chain header) port symbol) is
      (element_there (tree_from most chain header) port kind is
      (λ next symbol' k is' falls stands'. from_there most next symbol' k is' (omega (arith, below, falls)) stands')
      symbol stands)

  entered : (device : ℕ) (found : Option ℕ) → entry_of chain device ≡ found → IsThere found
      → IsThere (option_and_then (λ first. tree_from (suc (length chain.wires)) chain header (first, 0) first_symbol) found)
  entered device (Some entry) is there =
      let kind = position_is (is_entry device) chain.kinds entry is in
      let from = kind.1 ∙ ap Some (kind_is device kind.0 kind.2) in
      let bounded = ranks.bounded (entry, 0) in
      from_there (suc (length chain.wires)) (entry, 0) first_symbol kind.0 kind.1 (omega (arith, bounded)) (arrived (kind_device device kind.0 kind.2) from refl)
  entered device None is there = absurd (none-some there.0 there.1)

  tree_there : IsThere (entry_of chain (field_of header Device)) → IsThere (tree_of chain header)
  unfolding tree_of
  tree_there known = entered (field_of header Device) (entry_of chain (field_of header Device)) refl known

-- the tree of a header is there
pub has_tree : (chain : ChainState) (header : List ℕ) → IsAccepted chain → LeadsWithin → (rank : ℕ × ℕ → ℕ) → IsRank (behavior_of chain.kinds).leads chain.wires rank
    → IsThere (entry_of chain (field_of header Device)) → IsThere (tree_of chain header)
has_tree = tree_there
