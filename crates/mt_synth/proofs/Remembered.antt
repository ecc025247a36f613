-- What the walk keeps: while more trees are numbered, where a station is met again, and where one more is kept.
use Rattle.std.proofs.Common.{◌≡◌, ◌⊎◌, ◌∙◌, sym, ap, subst, refl, inl, inr, ℕ, Bool, true, false, List, [], ◌∷◌, map, ◌&&◌, Ordering, Less, Equal, Greater}
use Rattle.std.specs.Prelude.{Some}
use Rattle.std.specs.Bool.{Decides}
use Rattle.std.specs.BTreeMap as stations
use Rattle.std.specs.BTreeMap.{BTreeMap}
use Rattle.std.specs.Cmp.{Equal-is}
use Rattle.std.specs.Cmp.Lexicographic.{pointwise}
use Rattle.std.specs.Ordering.{is_eq}
use mathlib.Core.Bool.{beq}
use Rattle.mt_packet.specs.declared.field.Field.{Field}
use Rattle.mt_cuts.specs.Canonical.{IsCanonical}
use Rattle.mt_cuts.specs.Tree as cuts
use Rattle.mt_cuts.specs.Tree.{value_of}
use Rattle.mt_cuts.specs.View.{tree_of}
use Rattle.mt_cuts.specs.declared.cut.Cut.{Cut}
use Rattle.mt_elements.specs.ChainState.{ChainState}
use Rattle.mt_terms.proofs.Same.{both, numbers, decides_terms}
use Rattle.mt_terms.specs.Orders.{equal_terms}
use Rattle.mt_terms.specs.Terms.{TermForm, term_form}
use Rattle.mt_terms.specs.declared.term.Term.{Term}
use Rattle.mt_terms.specs.declared.tree.Tree.{Tree}
use Rattle.mt_trees.specs.Elements.{tree_from}
use Rattle.mt_trees.specs.Symbols.{Symbol}
use Rattle.mt_trees.proofs.Writes.{unsome}
use Rattle.mt_synth.specs.Cuts.{Means, Grows}
use Rattle.mt_synth.specs.Memo.{layer_of, symbol_of, compare_stations, IsKept, Remembers}
use Rattle.mt_synth.specs.contracts.memo.StationOrd.TheImpl.Laws as laws
use Rattle.mt_synth.specs.declared.memo.Station.{Station}
use Rattle.mt_synth.proofs.Meant.{means_later, means_values}

-- ---- two stations that are one

bools : (s t : Bool) → Decides (beq s t) (s ≡ t)
bools true true = (λ e. refl, λ e. refl)
bools true false = (λ e. absurd cc, λ e. absurd cc)
bools false true = (λ e. absurd cc, λ e. absurd cc)
bools false false = (λ e. refl, λ e. refl)

and_true : (a b : Bool) → (a && b) ≡ true → (a ≡ true) × (b ≡ true)
and_true true b e = (refl, e)
and_true false b e = absurd cc

rows : (xs ys : List Term) → pointwise equal_terms xs ys ≡ true → map term_form xs ≡ map term_form ys
rows [] [] e = refl
rows [] (y ∷ ys) e = absurd cc
rows (x ∷ xs) [] e = absurd cc
rows (x ∷ xs) (y ∷ ys) e =
    let first : (equal_terms x y ≡ true) × (pointwise equal_terms xs ys ≡ true) = and_true (equal_terms x y) (pointwise equal_terms xs ys) e in
    let head : term_form x ≡ term_form y = (decides_terms x y).0 first.0 in
    ap (λ (t : TermForm). t ∷ map term_form xs) head ∙ ap (λ (ts : List TermForm). term_form y ∷ ts) (rows xs ys first.1)

symbol_from : (l k : ℕ) (t u : Bool) (p q : ℕ) (xs ys : List TermForm) → l ≡ k → t ≡ u → p ≡ q → xs ≡ ys
    → (let s : Symbol = record { terms = xs; layer = layer_of l; trim = t; passages = p } in s) ≡ record { terms = ys; layer = layer_of k; trim = u; passages = q }
symbol_from l k t u p q xs ys e f g h = λ i. record { terms = h i; layer = layer_of (e i); trim = f i; passages = g i }

pub record AreOne (a b : Station) : Type 0 where
  pub most : a.most ≡ b.most
  pub element : a.element ≡ b.element
  pub input : a.input ≡ b.input
  pub symbol : symbol_of a ≡ symbol_of b

pub one_station : (a b : Station) → compare_stations a b ≡ Equal → AreOne a b
one_station a b e =
    let all = laws.matches_eq-law a b ∙ (Equal-is (compare_stations a b)).1 e in
    let most = and_true _ _ all in
    let element = and_true _ _ most.1 in
    let input = and_true _ _ element.1 in
    let layer = and_true _ _ input.1 in
    let trim = and_true _ _ layer.1 in
    let passages = and_true _ _ trim.1 in
    record {
      most = (numbers a.most b.most).0 most.0;
      element = (numbers a.element b.element).0 element.0;
      input = (numbers a.input b.input).0 input.0;
      symbol = symbol_from a.layer b.layer a.trim b.trim a.passages b.passages (map term_form a.terms.items) (map term_form b.terms.items)
          ((numbers a.layer b.layer).0 layer.0) ((bools a.trim b.trim).0 trim.0) ((numbers a.passages b.passages).0 passages.0) (rows a.terms.items b.terms.items passages.1);
    }

-- ---- what stands for the trees from one place on

pub moved : (chain : ChainState) (trees : List Tree) (tree : cuts.Tree) (m n a b c d : ℕ) (s t : Symbol) → m ≡ n → a ≡ c → b ≡ d → s ≡ t
    → Means chain.entries trees tree (λ header. tree_from m chain header (a, b) s) → Means chain.entries trees tree (λ header. tree_from n chain header (c, d) t)
moved chain trees tree m n a b c d s t most element input symbol means =
    subst (λ (k : ℕ). Means chain.entries trees tree (λ header. tree_from k chain header (c, d) t)) most
    (subst (λ (k : ℕ). Means chain.entries trees tree (λ header. tree_from m chain header (k, d) t)) element
    (subst (λ (k : ℕ). Means chain.entries trees tree (λ header. tree_from m chain header (a, k) t)) input
    (subst (λ (k : Symbol). Means chain.entries trees tree (λ header. tree_from m chain header (a, b) k)) symbol means)))

pub remembers_later : (chain : ChainState) (old new : List Tree) (kept : BTreeMap Station Cut) → Grows old new → Remembers chain old kept → Remembers chain new kept
remembers_later chain old new kept grows has key cut found =
    let is = has key cut found in
    record { canonical = is.canonical; means = means_later chain.entries old new (tree_of cut) (λ header. tree_from key.most chain header (key.element, key.input) (symbol_of key)) grows is.means }

equal_or_not : (o : Ordering) → (o ≡ Equal) ⊎ (is_eq o ≡ false)
equal_or_not Less = inr refl
equal_or_not Equal = inl refl
equal_or_not Greater = inr refl

-- one more is kept
module _ (chain : ChainState) (trees : List Tree) (old new : BTreeMap Station Cut) (key : Station) (cut copy : Cut) (updates : stations.Updates compare_stations old new key (Some copy))
    (canonical : IsCanonical chain.entries (tree_of copy)) (same : (header : Field → ℕ) → value_of (tree_of copy) header ≡ value_of (tree_of cut) header) (is : IsKept chain trees key cut) where
  at_key : (other : Station) → AreOne key other → IsKept chain trees other copy
  at_key other one = record {
    canonical = canonical;
    means = means_values chain.entries trees (tree_of cut) (tree_of copy) (λ header. tree_from other.most chain header (other.element, other.input) (symbol_of other)) same
        (moved chain trees (tree_of cut) key.most other.most key.element key.input other.element other.input (symbol_of key) (symbol_of other) one.most one.element one.input one.symbol is.means);
  }

  pub one_more_kept : Remembers chain trees old → Remembers chain trees new
  one_more_kept has other found is_found = elim (equal_or_not (compare_stations key other)) [
    | inl equal ↦ subst (IsKept chain trees other) (unsome copy found (sym (updates.0 other ∙ rw equal refl) ∙ is_found)) (at_key other (one_station key other equal))
    | inr apart ↦ has other found (sym (updates.2 other apart) ∙ is_found)
  ]
