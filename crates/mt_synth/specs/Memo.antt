-- What the walk keeps of the stations that it came to.
use Rattle.std.specs.Prelude.{ℕ, zero, suc, ◌≡◌, List, map, Some}
use Rattle.std.specs.BTreeMap as stations
use Rattle.std.specs.BTreeMap.{BTreeMap}
use Rattle.std.specs.declared.cmp.Ordering.{Ordering}
use Rattle.mt_packet.specs.declared.layer.Layer.{Layer}
use Rattle.mt_packet.specs.declared.layer.Layer.TheVariants.{Frame, Bare, Ip, Framed}
use Rattle.mt_cuts.specs.Canonical.{IsCanonical}
use Rattle.mt_cuts.specs.View.{tree_of}
use Rattle.mt_cuts.specs.declared.cut.Cut.{Cut}
use Rattle.mt_elements.specs.ChainState.{ChainState}
use Rattle.mt_terms.specs.Terms.{term_form}
use Rattle.mt_terms.specs.declared.tree.Tree.{Tree}
use Rattle.mt_trees.specs.Elements.{tree_from}
use Rattle.mt_trees.specs.Symbols.{Symbol}
use Rattle.mt_synth.specs.Cuts.{Means}
use Rattle.mt_synth.specs.contracts.memo.StationOrd.TheImpl as order
use Rattle.mt_synth.specs.declared.memo.Station.{Station}

-- the layer of a number
abbrev pub layer_of : ℕ → Layer
layer_of zero = Frame
layer_of (suc zero) = Bare
layer_of (suc (suc zero)) = Ip
layer_of (suc (suc (suc more))) = Framed

-- the packet under way
abbrev pub symbol_of : Station → Symbol
symbol_of key = record { terms = map term_form key.terms.items; layer = layer_of key.layer; trim = key.trim; passages = key.passages }

abbrev pub compare_stations : Station → Station → Ordering
compare_stations a b = order.ghosts.cmp a b

-- the tree of cuts stands for the trees of the headers from a station on
pub record IsKept (chain : ChainState) (trees : List Tree) (key : Station) (cut : Cut) : Type 0 where
  pub canonical : IsCanonical chain.entries (tree_of cut)
  pub means : Means chain.entries trees (tree_of cut) (λ header. tree_from key.most chain header (key.element, key.input) (symbol_of key))

-- so does each that is found at a station
abbrev pub Remembers : ChainState → List Tree → BTreeMap Station Cut → Type 0
Remembers chain trees kept = (key : Station) (cut : Cut) → stations.get compare_stations kept key ≡ Some cut → IsKept chain trees key cut
