-- The classes of the trees of a chain's headers.
use Rattle.std.proofs.Common.{◌≡◌, ◌∙◌, ap, sym, subst, refl, ℕ, ◌<◌, List, map, length}
use Rattle.std.specs.Prelude.{Some, None, Option, option_map, slice_get}
use Rattle.std.proofs.lemmas.Option.{slice_get_within}
use Rattle.mt_packet.specs.Header.{field_of, fields}
use Rattle.mt_packet.specs.declared.field.Field.{Field}
use Rattle.mt_packet.specs.declared.field.Field.TheVariants.{Device, EthType, EthDst, EthSrc, ArpOp, Proto, Src, Dst, Dscp, Ecn, Sport, Dport, IcmpType, IpOk, Ports, Mf, FragOff, Ttl, Syn, Ack, Fin, Rst, Paint, Annotation}
use Rattle.mt_cuts.specs.Canonical.{InDomain}
use Rattle.mt_cuts.specs.Tree as cuts
use Rattle.mt_cuts.specs.Tree.{value_of}
use Rattle.mt_terms.specs.Trees.{TreeForm, tree_form}
use Rattle.mt_terms.specs.declared.tree.Tree.{Tree}
use Rattle.mt_chain.specs.Run.{IsThere}
use Rattle.mt_cuts.specs.Headers.{IsHeaderOf}
use Rattle.mt_synth.specs.Classes.{Class, AreClasses, HasTrees, IsFaultOf, tree_at}
use Rattle.mt_synth.specs.Cuts.{TreeAt, AreApart}
use Rattle.mt_synth.specs.declared.fault.SynthFault.{SynthFault}
use Rattle.mt_synth.specs.declared.fault.SynthFault.TheVariants.{TooManyClasses, NoMemory}

-- ---- functions that are the same on the headers of a chain

module _ (devices : ℕ) (one other : List ℕ → Option TreeForm) (same : (header : List ℕ) → IsHeaderOf devices header → one header ≡ other header) where
  pub classes_same : (classes : List Class) → AreClasses devices one classes → AreClasses devices other classes
  classes_same classes are = record {
    covers = λ header whole. let here = are.covers header whole in (here.0, here.1, here.2, here.3, here.4, sym (same header whole) ∙ here.5);
    had = are.had;
    once = are.once;
    apart = are.apart;
    ascend = are.ascend;
    boxes = are.boxes;
  }

  pub trees_same : (count : ℕ) → HasTrees devices one count → HasTrees devices other count
  trees_same count has = (
    has.0,
    has.1,
    has.2,
    λ i j a b at_i at_j is. has.3 i j a b at_i at_j (same a (has.2 a i at_i) ∙ (is ∙ sym (same b (has.2 b j at_j)))),
  )

  pub fault_same : (fault : SynthFault) → IsFaultOf devices one fault → IsFaultOf devices other fault
  fault_same (TooManyClasses count) is = (is.0, trees_same 65536 is.1)
  fault_same NoMemory is = tt

-- ---- a header as a list and as a function

listed_at : (f : Field → ℕ) (field : Field) → field_of (map f fields) field ≡ f field
listed_at f Device = refl
listed_at f EthType = refl
listed_at f EthDst = refl
listed_at f EthSrc = refl
listed_at f ArpOp = refl
listed_at f Proto = refl
listed_at f Src = refl
listed_at f Dst = refl
listed_at f Dscp = refl
listed_at f Ecn = refl
listed_at f Sport = refl
listed_at f Dport = refl
listed_at f IcmpType = refl
listed_at f IpOk = refl
listed_at f Ports = refl
listed_at f Mf = refl
listed_at f FragOff = refl
listed_at f Ttl = refl
listed_at f Syn = refl
listed_at f Ack = refl
listed_at f Fin = refl
listed_at f Rst = refl
listed_at f Paint = refl
listed_at f Annotation = refl

pub listed : (f : Field → ℕ) → field_of (map f fields) ≡ f
listed f = λ i field. listed_at f field i

-- ---- a table that means the trees of all headers

mapped_from : (found : Option Tree) (tree : TreeForm) → option_map tree_form found ≡ Some tree → (t : Tree) × (found ≡ Some t)
mapped_from None tree is = absurd cc
mapped_from (Some t) tree is = (t, refl)

module _ (devices : ℕ) (trees : List Tree) (numbers : cuts.Tree) (at : TreeAt) (means : (header : List ℕ) → InDomain devices (field_of header) → (tree : TreeForm) → at header ≡ Some tree → tree_at numbers trees header ≡ Some tree)
    (have : (header : List ℕ) → InDomain devices (field_of header) → IsThere (at header)) where
  pub same_trees : (header : List ℕ) → IsHeaderOf devices header → tree_at numbers trees header ≡ at header
  same_trees header whole = let found = have header whole.in_domain in means header whole.in_domain found.0 found.1 ∙ sym found.1

  numbered_within : (header : List ℕ) → InDomain devices (field_of header) → value_of numbers (field_of header) < length trees
  numbered_within header inside =
      let found = have header inside in
      let there = mapped_from (slice_get trees (value_of numbers (field_of header))) found.0 (means header inside found.0 found.1) in
      slice_get_within trees (value_of numbers (field_of header)) there.0 there.1

  pub all_numbered : (header : Field → ℕ) → InDomain devices header → value_of numbers header < length trees
  all_numbered header inside =
      subst (λ (f : Field → ℕ). value_of numbers f < length trees) (listed header)
      (numbered_within (map header fields) (subst (InDomain devices) (sym (listed header)) inside))

-- trees that are equal have one number
pub one_number : (trees : List Tree) → AreApart trees → (i j : ℕ) (t u : Tree) → slice_get trees i ≡ Some t → slice_get trees j ≡ Some u → tree_form t ≡ tree_form u → i ≡ j
one_number trees apart i j t u at_i at_j same = apart i j (tree_form u) (ap (option_map tree_form) at_i ∙ ap Some same) (ap (option_map tree_form) at_j)
