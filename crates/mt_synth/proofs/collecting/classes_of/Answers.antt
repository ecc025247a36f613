-- The classes of a chain.
use Rattle.std.proofs.Common.{List, map, sym, ◌∙◌, subst}
use Rattle.mt_cuts.specs.View.{tree_of}
use Rattle.mt_cuts.specs.declared.leaves.Leaf.{Leaf}
use Rattle.mt_synth.specs.Classes.{AreClasses, class_form, tree_at}
use Rattle.mt_synth.specs.Numbering.{IsNumbering}
use Rattle.mt_synth.specs.Collecting.{AreCollected}
use Rattle.mt_synth.proofs.ClassesMade.{leaves_named, leaves_formed, leaves_apart, too_many_classes, classes_made}
use Rattle.mt_synth.proofs.collecting.classes_of.Goals as goal

pub number_leaves-requires : goal.number_leaves-requires
number_leaves-requires c =
    record {
      below = leaves_named c.args.devices (tree_of c.args.cut.now) c.args.trees.now c.deref.result.now c.requires.some c.requires.few c.requires.canonical c.requires.named c.requires.apart
          (c.deref.ensures.value ∙ c.in_ok-leaves.ensures.leaves);
    }

pub returns-in-Err-clause-many : goal.returns-in-Err-clause-many
returns-in-Err-clause-many c =
    too_many_classes c.args.devices (tree_of c.args.cut.now) c.args.trees.now c.deref.result.now c.requires.some c.requires.few c.requires.canonical c.requires.named c.requires.apart
    (c.deref.ensures.value ∙ c.in_ok-leaves.ensures.leaves) c.in-Err.fault c.in-Err.ensures.many

pub collected-requires-clause-named : goal.collected-requires-clause-named
collected-requires-clause-named c =
    leaves_named c.args.devices (tree_of c.args.cut.now) c.args.trees.now c.deref-2.result.now c.requires.some c.requires.few c.requires.canonical c.requires.named c.requires.apart
    (c.deref-2.ensures.value ∙ c.in_ok-leaves.ensures.leaves)

pub collected-requires-clause-formed : goal.collected-requires-clause-formed
collected-requires-clause-formed c =
    leaves_formed c.args.devices (tree_of c.args.cut.now) c.args.trees.now c.deref-2.result.now c.requires.some c.requires.few c.requires.canonical c.requires.named c.requires.apart
    (c.deref-2.ensures.value ∙ c.in_ok-leaves.ensures.leaves)

pub collected-requires-clause-apart : goal.collected-requires-clause-apart
collected-requires-clause-apart c =
    leaves_apart c.args.devices (tree_of c.args.cut.now) c.args.trees.now c.deref-2.result.now c.requires.some c.requires.few c.requires.canonical c.requires.named c.requires.apart
    (c.deref-2.ensures.value ∙ c.in_ok-leaves.ensures.leaves)

pub returns-clause-classes : goal.returns-clause-classes
returns-clause-classes c =
    let classes : AreCollected c.args.trees.now c.in-Ok.made.order.items c.in_ok-leaves.leaves.items (map class_form c.in_ok-classes.classes.items) =
    subst (λ (leaves : List Leaf). AreCollected c.args.trees.now c.in-Ok.made.order.items leaves (map class_form c.in_ok-classes.classes.items)) c.deref-2.ensures.value c.in_ok-classes.ensures in
    let numbering : IsNumbering (map (λ leaf. leaf.value) c.in_ok-leaves.leaves.items) c.in-Ok.made.numbers.items c.in-Ok.made.order.items =
    subst (λ (leaves : List Leaf). IsNumbering (map (λ leaf. leaf.value) leaves) c.in-Ok.made.numbers.items c.in-Ok.made.order.items) c.deref.ensures.value c.in-Ok.ensures.numbering in
    subst (λ classes. AreClasses c.args.devices (tree_at (tree_of c.args.cut.now) c.args.trees.now) (map class_form classes)) (sym c.new.ensures)
    (classes_made c.args.devices (tree_of c.args.cut.now) c.args.trees.now c.in_ok-leaves.leaves.items c.requires.some c.requires.few c.requires.canonical c.requires.named c.requires.apart c.in_ok-leaves.ensures.leaves
    c.in-Ok.made.numbers.items c.in-Ok.made.order.items (map class_form c.in_ok-classes.classes.items) c.in_ok-leaves.ensures.boxes numbering classes)
