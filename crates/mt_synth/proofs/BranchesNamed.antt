-- Passages by the numbers of the trees of their branches.
use Rattle.std.proofs.Common.{◌≡◌, ◌∙◌, sym, ap, subst, refl, ℕ, suc, ◌+◌, ◌<◌, ◌≤◌, List, [], ◌∷◌, ◌++◌, length, map, take, get_or, ◌⊎◌, inl, inr, arith}
use Rattle.std.specs.Prelude.{Option, Some, None, slice_get, option_map, option_and_then}
use Rattle.std.proofs.lemmas.List.{append-nil, map-append, take_more, get_or_append_left}
use Rattle.std.proofs.lemmas.Bool.{cases_lt}
use Rattle.std.proofs.lemmas.Option.{none-some, same_Some, slice_get-map, get_or_from_slice_get}
use Rattle.std.proofs.Math.Seq.{get_or-append_seam}
use Rattle.mt_lists.specs.Options.{each}
use Rattle.mt_packet.specs.declared.field.Field.{Field}
use Rattle.mt_packet.specs.Header.{field_of}
use Rattle.mt_cuts.specs.Tree as cutting
use Rattle.mt_cuts.specs.Tree.{value_of}
use Rattle.mt_cuts.specs.View.{tree_of}
use Rattle.mt_cuts.specs.declared.cut.Cut.{Cut}
use Rattle.mt_elements.specs.ChainState.{ChainState, mappers_of}
use Rattle.mt_kinds.specs.declared.kind.Kind.{Kind}
use Rattle.mt_kinds.specs.declared.rewriter.Spec.{Spec}
use Rattle.mt_terms.specs.Trees.{OpForm, TreeForm, branch_form, branches_of, tree_form}
use Rattle.mt_terms.specs.Trees.{passage as op}
use Rattle.mt_terms.specs.declared.tree.Tree.{Tree}
use Rattle.mt_trees.specs.Elements.{Along, leaves, passage_tree}
use Rattle.mt_trees.specs.Passages.{keeps_part, behind, code_of, outputs_taken}
use Rattle.mt_trees.specs.Symbols.{Symbol}
use Rattle.mt_trees.specs.Tests.{Found}
use Rattle.mt_synth.specs.Branches.{branch_named, branches_named, IsNamed}
use Rattle.mt_synth.specs.Cuts.{Means, Grows, AreBehind, tree_numbered}
use Rattle.mt_synth.specs.Exits.{Exits, taken_exits}

-- ---- a branch

pub branch_pushed : (old new : List (ℕ × Tree)) (trees : List Tree) (out number : ℕ) (tree copy : Tree) → slice_get trees number ≡ Some tree → tree_form copy ≡ tree_form tree → new ≡ old ++ (out, copy) ∷ []
    → map branch_form new ≡ map branch_form old ++ branch_named out (tree_numbered trees number)
branch_pushed old new trees out number tree copy is same pushed =
    ap (map branch_form) pushed ∙ map-append branch_form old ((out, copy) ∷ [])
    ∙ ap (λ (t : TreeForm). map branch_form old ++ (out, t) ∷ []) same
    ∙ sym (ap (λ (found : Option Tree). map branch_form old ++ branch_named out (option_map tree_form found)) is)

pub branch_missed : (old : List (ℕ × Tree)) (trees : List Tree) (out number : ℕ) → slice_get trees number ≡ None → map branch_form old ≡ map branch_form old ++ branch_named out (tree_numbered trees number)
branch_missed old trees out number is =
    sym (append-nil (map branch_form old)) ∙ sym (ap (λ (found : Option Tree). map branch_form old ++ branch_named out (option_map tree_form found)) is)

-- ---- lists of values

abbrev pub longer_by : List (List ℕ) → ℕ × ℕ → List ℕ
longer_by lists pair = get_or lists pair.0 [] ++ pair.1 ∷ []

-- at a header: one value more
pub one_value_more : (header : Field → ℕ) (cuts : List Cut) (place : ℕ) (cut : Cut) (lists new : List (List ℕ)) (pairs : List (ℕ × ℕ)) (value made : ℕ) → place < length cuts → cut ≡ get_or cuts place cut
    → slice_get lists made ≡ Some (map (λ cut. value_of (tree_of cut) header) (take place cuts))
    → slice_get pairs value ≡ Some (made, value_of (tree_of cut) header) → new ≡ map (longer_by lists) pairs
    → slice_get new value ≡ Some (map (λ cut. value_of (tree_of cut) header) (take (place + 1) cuts))
one_value_more header cuts place cut lists new pairs value made lt is so_far pair longer =
    let values : List Cut → List ℕ = map (λ cut. value_of (tree_of cut) header) in
    let step : take (place + 1) cuts ≡ take place cuts ++ cut ∷ [] = take_more cuts place cut lt ∙ ap (λ (c : Cut). take place cuts ++ c ∷ []) (sym is) in
    ap (λ (xs : List (List ℕ)). slice_get xs value) longer ∙ slice_get-map (longer_by lists) pairs value ∙ ap (option_map (longer_by lists)) pair
    ∙ ap (λ (front : List ℕ). Some (front ++ value_of (tree_of cut) header ∷ [])) (get_or_from_slice_get lists made (values (take place cuts)) [] so_far)
    ∙ sym (ap Some (ap values step ∙ map-append (λ cut. value_of (tree_of cut) header) (take place cuts) (cut ∷ [])))

-- ---- names of lists

name_kept : (old mid new : List Tree) (code : OpForm) (outs list : List ℕ) (name : ℕ) → Grows mid new → IsNamed old mid code outs list name → IsNamed old new code outs list name
name_kept old mid new code outs list name grows is = record { trees = is.trees; grows = is.grows; named = grows name (op code (branches_of (branches_named is.trees outs list))) is.named }

pub one_name_more : (old mid new : List Tree) (code : OpForm) (outs : List ℕ) (lists : List (List ℕ)) (names more : List ℕ) (at : ℕ) (here : List ℕ) (name : ℕ) → Grows old mid → Grows mid new → length names ≡ at
    → slice_get lists at ≡ Some here → more ≡ names ++ name ∷ []
    → tree_numbered new name ≡ Some (op code (branches_of (branches_named mid outs here)))
    → ((place : ℕ) (list : List ℕ) → slice_get lists place ≡ Some list → place < at → IsNamed old mid code outs list (get_or names place 0))
    → (place : ℕ) (list : List ℕ) → slice_get lists place ≡ Some list → place < at + 1 → IsNamed old new code outs list (get_or more place 0)
one_name_more old mid new code outs lists names more at here name grows goes_on count is pushed named earlier place list is_list below = either (cases_lt place at)
  where
    either : (place < at) ⊎ (at ≤ place) → IsNamed old new code outs list (get_or more place 0)
    either (inl lt) =
        subst (λ (n : ℕ). IsNamed old new code outs list n) (sym (ap (λ (xs : List ℕ). get_or xs place 0) pushed ∙ get_or_append_left names (name ∷ []) 0 place (omega (arith, count, lt))))
        (name_kept old mid new code outs list (get_or names place 0) goes_on (earlier place list is_list lt))
    either (inr ge) =
        let same : place ≡ length names = omega (arith, count, ge, below) in
        let last : get_or more place 0 ≡ name = ap (λ (xs : List ℕ). get_or xs place 0) pushed ∙ ap (λ (n : ℕ). get_or (names ++ name ∷ []) n 0) same ∙ get_or-append_seam names name [] 0 in
        let listed : here ≡ list = same_Some here list (sym is ∙ ap (slice_get lists) (sym (same ∙ count)) ∙ is_list) in
        subst (λ (n : ℕ). IsNamed old new code outs list n) (sym last)
        (record { trees = mid; grows = grows; named = subst (λ (l : List ℕ). tree_numbered new name ≡ Some (op code (branches_of (branches_named mid outs l)))) listed named })

-- ---- the passage of a header

module _ (trees : List Tree) (value : Cut → ℕ) (tree_at : ℕ → Found) where
  abbrev pair_at : ℕ → Option (ℕ × TreeForm)
  pair_at out = option_map (λ tree. (out, tree)) (tree_at out)

  abbrev AreValues : List ℕ → List Cut → Type 0
  AreValues outs cuts =
      (place out : ℕ) (cut : Cut) → slice_get outs place ≡ Some out → slice_get cuts place ≡ Some cut → (tree : TreeForm) → tree_at out ≡ Some tree → tree_numbered trees (value cut) ≡ Some tree

  one_branch : (out : ℕ) (outs : List ℕ) (cut : Cut) (cuts : List Cut) (branches : List (ℕ × TreeForm)) → AreValues (out ∷ outs) (cut ∷ cuts)
      → ((more : List (ℕ × TreeForm)) → each pair_at outs ≡ Some more → branches_named trees outs (map value cuts) ≡ more)
      → (first : Found) → tree_at out ≡ first → (rest : Option (List (ℕ × TreeForm))) → each pair_at outs ≡ rest
      → option_and_then (λ y. option_map (λ more. y ∷ more) rest) (option_map (λ tree. (out, tree)) first) ≡ Some branches
      → branches_named trees (out ∷ outs) (map value (cut ∷ cuts)) ≡ branches
  one_branch out outs cut cuts branches are again None e rest k h = absurd (none-some branches h)
  one_branch out outs cut cuts branches are again (Some tree) e None k h = absurd (none-some branches h)
  one_branch out outs cut cuts branches are again (Some tree) e (Some more) k h =
      ap (λ (found : Found). branch_named out found ++ branches_named trees outs (map value cuts)) (are 0 out cut refl refl tree e)
      ∙ ap (λ (bs : List (ℕ × TreeForm)). (out, tree) ∷ bs) (again more k)
      ∙ same_Some ((out, tree) ∷ more) branches h

  branches_found : (outs : List ℕ) (cuts : List Cut) (branches : List (ℕ × TreeForm)) → length cuts ≡ length outs → AreValues outs cuts → each pair_at outs ≡ Some branches
      → branches_named trees outs (map value cuts) ≡ branches
  unfolding each
  branches_found [] [] branches count are h = same_Some [] branches h
  branches_found [] (cut ∷ cuts) branches count are h = absurd (omega (arith, count))
  branches_found (out ∷ outs) [] branches count are h = absurd (omega (arith, count))
  branches_found (out ∷ outs) (cut ∷ cuts) branches count are h =
      one_branch out outs cut cuts branches are (λ more k. branches_found outs cuts more (omega (arith, count)) (λ place o c is_out is_cut. are (suc place) o c is_out is_cut) k)
      (tree_at out) refl (each pair_at outs) refl h

firsts : (symbol : Symbol) (outs : List ℕ) → map (λ (exit : ℕ × Symbol). exit.0) (map (λ out. (out, symbol)) outs) ≡ outs
firsts symbol [] = refl
firsts symbol (out ∷ outs) = ap (λ (rest : List ℕ). out ∷ rest) (firsts symbol outs)

pub passage_stands : (devices : ℕ) (old new : List Tree) (symbol : Symbol) (at : ℕ × ℕ) (exits : Exits) (outs : List ℕ) (cuts : List Cut) (names : List ℕ) (lists : List (List ℕ)) (made result : cutting.Tree)
    → outs ≡ map (λ (exit : ℕ × Symbol). exit.0) exits → length cuts ≡ length outs
    → ((header : Field → ℕ) → slice_get lists (value_of made header) ≡ Some (map (λ cut. value_of (tree_of cut) header) cuts))
    → ((place : ℕ) (list : List ℕ) → slice_get lists place ≡ Some list → IsNamed old new (code_of at symbol) outs list (get_or names place 0))
    → ((header : Field → ℕ) → value_of result header ≡ get_or names (value_of made header) 0)
    → (chain : ChainState) (along : List ℕ → Along) (own : Kind) (specs : List Spec) (spec : Spec) → exits ≡ taken_exits chain at specs spec symbol
    → AreBehind devices old chain along at own (taken_exits chain at specs spec symbol) cuts
    → Means devices new result (λ header. passage_tree chain header (along header) at own symbol specs spec)
passage_stands devices old new symbol at exits outs cuts names lists made result are_outs count listed named renamed chain along own specs spec are behind_them header inside tree found =
    built (each (λ out. option_map (λ tree. (out, tree)) (tree_at out)) outputs) refl found
  where
    after : Symbol
    after = behind (keeps_part (mappers_of chain.kinds) specs spec) symbol

    outputs : List ℕ
    outputs = outputs_taken (mappers_of chain.kinds) specs at.1

    same_outs : outs ≡ outputs
    same_outs = are_outs ∙ ap (map (λ (exit : ℕ × Symbol). exit.0)) are ∙ firsts after outputs

    tree_at : ℕ → Found
    tree_at out = leaves chain header (along header) at own after out

    built : (o : Option (List (ℕ × TreeForm))) → each (λ out. option_map (λ tree. (out, tree)) (tree_at out)) outputs ≡ o → option_map (λ branches. op (code_of at symbol) (branches_of branches)) o ≡ Some tree
        → tree_numbered new (value_of result (field_of header)) ≡ Some tree
    built None e h = absurd (none-some tree h)
    built (Some branches) e h =
        let values : List ℕ = map (λ cut. value_of (tree_of cut) (field_of header)) cuts in
        let name = named (value_of made (field_of header)) values (listed (field_of header)) in
        ap (tree_numbered new) (renamed (field_of header)) ∙ name.named
        ∙ ap (λ (os : List ℕ). Some (op (code_of at symbol) (branches_of (branches_named name.trees os values)))) same_outs
        ∙ ap (λ (bs : List (ℕ × TreeForm)). Some (op (code_of at symbol) (branches_of bs)))
        (branches_found name.trees (λ cut. value_of (tree_of cut) (field_of header)) tree_at outputs cuts branches (count ∙ ap length same_outs)
        (λ place out cut is_out is_cut t is. name.grows (value_of (tree_of cut) (field_of header)) t
        (behind_them place (out, after) cut (slice_get-map (λ out. (out, after)) outputs place ∙ ap (option_map (λ out. (out, after))) is_out) is_cut header inside t is))
        e)
        ∙ h
