use Rattle.std.proofs.Common.{◌≡◌, sym, subst, ℕ, ◌<◌, List, length, map}
use Rattle.std.specs.Prelude.{IfErr, Ok, Err, Result}
use Rattle.mt_packet.specs.Header.{field_of}
use Rattle.mt_packet.specs.declared.field.Field.TheVariants.{Device}
use Rattle.mt_cuts.specs.Canonical.{InDomain}
use Rattle.mt_cuts.specs.Tree.{value_of}
use Rattle.mt_cuts.specs.View.{tree_of as cut_of}
use Rattle.mt_chain.specs.Run.{IsThere}
use Rattle.mt_terms.specs.declared.tree.Tree.{Tree}
use Rattle.mt_trees.specs.Elements.{tree_of}
use Rattle.mt_cuts.specs.Headers.{IsHeaderOf}
use Rattle.mt_synth.specs.Classes.{AreClasses, IsFaultOf, class_form, tree_at}
use Rattle.mt_synth.proofs.Synthesised.{classes_same, fault_same, same_trees, all_numbered, one_number}
use Rattle.std.proofs.lemmas.Result.{IfOk-weaker}
use Rattle.mt_synth.specs.Cuts.{AreApart}
use Rattle.mt_synth.proofs.classes.synthesise.Goals as goal

if_err : {A E : Type 0} (r : Result A E) (P Q : E → Type 0) → ((e : E) → P e → Q e) → IfErr r P → IfErr r Q
if_err (Ok x) P Q step h = h
if_err (Err e) P Q step h = step e h

pub classes_of-requires-clause-named : goal.classes_of-requires-clause-named
classes_of-requires-clause-named c = λ header inside.
    let have : (header : List ℕ) → InDomain c.args.chain.now.entries (field_of header) → IsThere (tree_of c.args.chain.now header) =
    λ header within. c.headers_have_trees.ensures c.args.chain.now c.is_accepted.ensures.accepted c.is_accepted.ensures.numbered header (within.from_least Device) (within.to_last Device) in
    let below : value_of (cut_of c.in_ok-cut.cut) header < length c.walked.new.trees =
    all_numbered c.args.chain.now.entries c.walked.new.trees (cut_of c.in_ok-cut.cut) (tree_of c.args.chain.now) c.in_ok-cut.ensures.means have header (subst (λ n. InDomain n header) c.entries.ensures inside) in
    subst (λ (ts : List Tree). value_of (cut_of c.in_ok-cut.cut) header < length ts) (sym c.as_slice.ensures.trees) below

pub classes_of-requires-clause-apart : goal.classes_of-requires-clause-apart
classes_of-requires-clause-apart c = one_number c.as_slice.result.now (subst AreApart (sym c.as_slice.ensures.trees) c.as_slice.ensures.apart)

pub returns-clause-classes : goal.returns-clause-classes
returns-clause-classes c =
    let have : (header : List ℕ) → InDomain c.args.chain.now.entries (field_of header) → IsThere (tree_of c.args.chain.now header) =
    λ header within. c.headers_have_trees.ensures c.args.chain.now c.is_accepted.ensures.accepted c.is_accepted.ensures.numbered header (within.from_least Device) (within.to_last Device) in
    let same : (header : List ℕ) → IsHeaderOf c.args.chain.now.entries header → tree_at (cut_of c.in_ok-cut.cut) c.walked.new.trees header ≡ tree_of c.args.chain.now header =
    same_trees c.args.chain.now.entries c.walked.new.trees (cut_of c.in_ok-cut.cut) (tree_of c.args.chain.now) c.in_ok-cut.ensures.means have in
    IfOk-weaker c.classes_of.result _ _
    (λ classes are. classes_same c.args.chain.now.entries (tree_at (cut_of c.in_ok-cut.cut) c.walked.new.trees) (tree_of c.args.chain.now) same (map class_form classes)
    (subst (λ (ts : List Tree). AreClasses c.args.chain.now.entries (tree_at (cut_of c.in_ok-cut.cut) ts) (map class_form classes)) c.as_slice.ensures.trees
    (subst (λ n. AreClasses n (tree_at (cut_of c.in_ok-cut.cut) c.as_slice.result.now) (map class_form classes)) c.entries.ensures are)))
    c.classes_of.ensures.classes

pub returns-clause-many : goal.returns-clause-many
returns-clause-many c =
    let have : (header : List ℕ) → InDomain c.args.chain.now.entries (field_of header) → IsThere (tree_of c.args.chain.now header) =
    λ header within. c.headers_have_trees.ensures c.args.chain.now c.is_accepted.ensures.accepted c.is_accepted.ensures.numbered header (within.from_least Device) (within.to_last Device) in
    let same : (header : List ℕ) → IsHeaderOf c.args.chain.now.entries header → tree_at (cut_of c.in_ok-cut.cut) c.walked.new.trees header ≡ tree_of c.args.chain.now header =
    same_trees c.args.chain.now.entries c.walked.new.trees (cut_of c.in_ok-cut.cut) (tree_of c.args.chain.now) c.in_ok-cut.ensures.means have in
    if_err c.classes_of.result _ _
    (λ fault is. fault_same c.args.chain.now.entries (tree_at (cut_of c.in_ok-cut.cut) c.walked.new.trees) (tree_of c.args.chain.now) same fault
    (subst (λ (ts : List Tree). IsFaultOf c.args.chain.now.entries (tree_at (cut_of c.in_ok-cut.cut) ts) fault) c.as_slice.ensures.trees
    (subst (λ n. IsFaultOf n (tree_at (cut_of c.in_ok-cut.cut) c.as_slice.result.now) fault) c.entries.ensures is)))
    c.classes_of.ensures.many
