-- The headers of the devices, one device after the other.
use Rattle.std.proofs.Common.{◌≡◌, ◌∙◌, ap, sym, inl, inr, ℕ, ◌+◌, ◌≤◌, ◌≢◌, true, false, cond, List, arith}
use Rattle.std.specs.Prelude.{Some}
use Rattle.std.proofs.lemmas.Bool.{cond-true, cond-false, cases_eq}
use Rattle.std.proofs.lemmas.Bool.Decides.{nat_tests}
use Rattle.mt_packet.specs.Header.{field_of}
use Rattle.mt_packet.specs.declared.field.Field.{Field}
use Rattle.mt_packet.specs.declared.field.Field.TheVariants.{Device}
use Rattle.mt_cuts.specs.Canonical.{InDomain, is_within}
use Rattle.mt_cuts.specs.Tree.{value_of}
use Rattle.mt_cuts.specs.Tree as cuts
use Rattle.mt_cuts.specs.View.{tree_of}
use Rattle.mt_cuts.specs.declared.cut.Cut.{Cut}
use Rattle.mt_elements.specs.ChainState.{ChainState}
use Rattle.mt_terms.specs.Trees.{TreeForm}
use Rattle.mt_terms.specs.declared.tree.Tree.{Tree}
use Rattle.mt_trees.specs.Elements.{tree_of as tree_at}
use Rattle.mt_synth.specs.Cuts.{Means, Grows, number_at, tree_numbered}
use Rattle.mt_synth.specs.Entries.{entered_at}

-- a tree of cuts means the trees of the headers of the first devices
pub record MeansUpTo (devices : ℕ) (trees : List Tree) (numbers : cuts.Tree) (chain : ChainState) (count : ℕ) : Type 0 where
  pub upto : (header : List ℕ) → InDomain devices (field_of header) → field_of header Device ≤ count → (tree : TreeForm) → tree_at chain header ≡ Some tree → tree_numbered trees (number_at numbers header) ≡ Some tree

enters : (chain : ChainState) (header : List ℕ) (device : ℕ) → field_of header Device ≡ device → tree_at chain header ≡ entered_at chain header device
unfolding tree_at
enters chain header device is = ap (entered_at chain header) is

pub none_before : (devices : ℕ) (trees : List Tree) (numbers : cuts.Tree) (chain : ChainState) → MeansUpTo devices trees numbers chain 0
none_before devices trees numbers chain = record { upto = λ header inside low tree found. absurd (let least : 1 ≤ field_of header Device = inside.from_least Device in omega (arith, least, low)) }

pub all_devices : (devices : ℕ) (trees : List Tree) (cut : Cut) (chain : ChainState) (count : ℕ) → devices ≤ count → MeansUpTo devices trees (tree_of cut) chain count → Means devices trees (tree_of cut) (λ header. tree_at chain header)
all_devices devices trees cut chain count all means = λ header inside tree found.
    let last : field_of header Device ≤ devices = inside.to_last Device in
    means.upto header inside (omega (arith, last, all)) tree found

within_itself : (n : ℕ) → is_within (record { lo = n; hi = n }) n ≡ true
within_itself n = grind (arith, nat_tests)

within_other : (n m : ℕ) → m ≢ n → is_within (record { lo = n; hi = n }) m ≡ false
within_other n m apart = grind (arith, nat_tests)

module _ (devices : ℕ) (old new : List Tree) (made cut next : Cut) (chain : ChainState) (count : ℕ) (grows : Grows old new) (before : MeansUpTo devices old (tree_of made) chain count)
    (means : Means devices new (tree_of cut) (λ header. entered_at chain header (count + 1)))
    (split : (header : Field → ℕ) → InDomain devices header → value_of (tree_of next) header
    ≡ cond (is_within (record { lo = count + 1; hi = count + 1 }) (header Device)) (value_of (tree_of cut) header) (value_of (tree_of made) header)) where
  here : (header : List ℕ) (inside : InDomain devices (field_of header)) (tree : TreeForm) → tree_at chain header ≡ Some tree → field_of header Device ≡ count + 1 → tree_numbered new (number_at (tree_of next) header) ≡ Some tree
  here header inside tree found is =
      let value : number_at (tree_of next) header ≡ number_at (tree_of cut) header =
      split (field_of header) inside ∙ cond-true _ _ _ (ap (is_within (record { lo = count + 1; hi = count + 1 })) is ∙ within_itself (count + 1)) in
      ap (tree_numbered new) value ∙ means header inside tree (sym (enters chain header (count + 1) is) ∙ found)

  there_before : (header : List ℕ) (inside : InDomain devices (field_of header)) (tree : TreeForm) → tree_at chain header ≡ Some tree → field_of header Device ≤ count → tree_numbered new (number_at (tree_of next) header) ≡ Some tree
  there_before header inside tree found low =
      let value : number_at (tree_of next) header ≡ number_at (tree_of made) header =
      split (field_of header) inside ∙ cond-false _ _ _ (within_other (count + 1) (field_of header Device) (λ same. omega (arith, low, same))) in
      ap (tree_numbered new) value ∙ grows _ tree (before.upto header inside low tree found)

  pub one_more : MeansUpTo devices new (tree_of next) chain (count + 1)
  one_more = record {
    upto = λ header inside low tree found. elim (cases_eq (field_of header Device) (count + 1)) [
      | inl is ↦ here header inside tree found is
      | inr apart ↦ there_before header inside tree found (omega (arith, low, apart))
    ];
  }
