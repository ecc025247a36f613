-- What serving needs of a chain.
use Rattle.std.specs.Prelude.{◌≡◌, ℕ, List, map}
use Rattle.mt_packet.specs.declared.span.Span.{Span}
use Rattle.mt_cuts.specs.View.{tree_of as cut_of}
use Rattle.mt_cuts.specs.declared.cut.Cut.{Cut}
use Rattle.mt_elements.specs.Accepted.{IsAccepted}
use Rattle.mt_elements.specs.ChainState.{ChainState, mappers_of, specs_in}
use Rattle.mt_elements.specs.Numbered.{IsNumbered}
use Rattle.mt_elements.specs.declared.chain.Rewriters.{Rewriters}
use Rattle.mt_terms.specs.declared.tree.Tree.{Tree}
use Rattle.mt_trees.specs.Elements.{tree_of}
use Rattle.mt_synth.specs.Classes.{AreClasses, class_form}
use Rattle.mt_classes.specs.Partition.{IsIndexOf}

-- the rewriters are those of a chain
pub record AreRewritersOf (chain : ChainState) (rewriters : Rewriters) : Type 0 where
  pub specs : map (λ v. v.items) rewriters.specs.items ≡ map specs_in chain.kinds
  pub mappers : rewriters.mappers.items ≡ mappers_of chain.kinds
  pub pools : rewriters.pools.items ≡ chain.pools

-- the rewriters, the classes and the index are made of one accepted chain
pub record IsContextOf (chain : ChainState) (rewriters : Rewriters) (classes : List (List (List Span) × Tree)) (index : ℕ × Cut) : Type 0 where
  pub accepted : IsAccepted chain
  pub numbered : IsNumbered chain
  pub made : AreRewritersOf chain rewriters
  pub partition : AreClasses chain.entries (tree_of chain) (map class_form classes)
  pub found : IsIndexOf (map (λ class. class.0) classes) index.0 (cut_of index.1)
