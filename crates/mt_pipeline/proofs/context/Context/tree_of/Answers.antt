use Rattle.std.proofs.Common.{◌<◌, List, ap, sym, subst, ◌∙◌, length, map}
use Rattle.std.specs.Prelude.{slice_get}
use Rattle.mt_packet.specs.declared.span.Span.{Span}
use Rattle.mt_terms.specs.declared.tree.Tree.{Tree}
use Rattle.mt_pipeline.proofs.ClassFound.{class_tree, class_within, index_domain}
use Rattle.mt_pipeline.proofs.context.Context.tree_of.Goals as goal

pub class_of-class-requires : goal.class_of-class-requires
class_of-class-requires g c =
    index_domain c.requires.0 c.args.self.now.rewriters c.args.self.now.classes c.args.self.now.index c.requires.1 c.args.header.now c.values.ensures.whole c.values.ensures.ranges c.requires.2 c.requires.3

pub class_at-requires : goal.class_at-requires
class_at-requires g c =
    subst (λ (l : List (List (List Span) × Tree)). c.class_of-class.result < length l) (sym c.list.ensures)
    (class_within c.requires.0 c.args.self.now.rewriters c.args.self.now.classes c.args.self.now.index c.requires.1 c.args.header.now c.values.ensures.whole c.values.ensures.ranges c.requires.2 c.requires.3 c.class_of-class.result
    (c.class_of-class.ensures (map (λ (class : List (List Span) × Tree). class.0) c.args.self.now.classes) c.requires.1.found))

pub returns : goal.returns
returns g c = λ chain is first last.
    class_tree chain c.args.self.now.rewriters c.args.self.now.classes c.args.self.now.index is c.args.header.now c.values.ensures.whole c.values.ensures.ranges first last c.class_of-class.result
    (c.class_of-class.ensures (map (λ (class : List (List Span) × Tree). class.0) c.args.self.now.classes) is.found) c.class_at.result.now
    (ap (λ (l : List (List (List Span) × Tree)). slice_get l c.class_of-class.result) (sym c.list.ensures) ∙ c.class_at.ensures)
