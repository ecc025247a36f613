-- A mapper has no more patterns than its element has arguments.
use Rattle.std.proofs.Common.{◌≡◌, ◌∙◌, ap, refl, sym, subst, inl, inr, ℕ, suc, ◌^◌, ◌<◌, ◌≤◌, ◌==◌, cond, Bool, true, false, List, [], ◌∷◌, length, map, IfSome, All, Contains, arith}
use Rattle.std.specs.Prelude.{⊤, codes, Option, Some, None, Ok, Err, option_map, option_and_then}
use Rattle.std.specs.Str.{bytes_eq}
use Rattle.std.proofs.lemmas.List.{length-map}
use Rattle.std.proofs.lemmas.List.Elements.{All-tail, Contains-append_cases}
use Rattle.mt_lists.specs.Options.{each}
use Rattle.mt_lists.proofs.Members.{all_of, cases_in, none_in}
use Rattle.mt_graph.specs.declared.Element.{Element}
use Rattle.mt_graph.specs.declared.Wire.{Wire}
use Rattle.mt_kinds.specs.Classes.{kind_of as settled_kind}
use Rattle.mt_kinds.specs.Descriptions.{is_class_name, device_of, described, or_bad, description_of}
use Rattle.mt_kinds.specs.Rewriters.{specs_of, templates_of, template_of as written_of}
use Rattle.mt_kinds.specs.declared.description.Description.{Description}
use Rattle.mt_kinds.specs.declared.description.Description.TheVariants.{FromDevice, ToDevice, Rewriter, Mapper, Settled}
use Rattle.mt_kinds.specs.declared.description.Misread.TheVariants.{UnknownClass}
use Rattle.mt_kinds.specs.declared.kind.Kind.{Kind}
use Rattle.mt_kinds.specs.declared.kind.Kind.TheVariants.{RoundRobinIPMapper}
use Rattle.mt_kinds.specs.declared.rewriter.Pool.{Pool}
use Rattle.mt_kinds.specs.declared.rewriter.Template.{Template}
use Rattle.mt_kinds.specs.declared.written.WrittenTemplate.{WrittenTemplate}
use Rattle.mt_elements.specs.ChainState.{ChainState, mappers_of, patterns_in}
use Rattle.mt_elements.specs.Described.{describe, scope_of, mapper_names, devices_of, pools_of, kind_of, kinds_of, template_of, HasFewArguments, IsChainOf}
use Rattle.mt_elements.proofs.Classes.{IsPlain, settled_is, fits}
use Rattle.mt_elements.proofs.Numbered.{head_says, tail_says}

each_long : {A B : Type 0} (f : A → Option B) (xs : List A) → IfSome (each f xs) (λ ys. length ys ≡ length xs)
unfolding each
each_long f [] = refl
each_long {B = B} f (x ∷ xs) = one (f x) (each f xs) (each_long f xs)
  where
    one : (o : Option B) (more : Option (List B)) → IfSome more (λ ys. length ys ≡ length xs) → IfSome (option_and_then (λ y. option_map (λ ys. y ∷ ys) more) o) (λ ys. length ys ≡ suc (length xs))
    one None more h = tt
    one (Some y) None h = tt
    one (Some y) (Some ys) h = ap suc h

-- a mapper of at most so many patterns
HasFew : ℕ → Description → Type 0
HasFew n (Mapper templates) = length templates ≤ n
HasFew n (FromDevice name) = ⊤
HasFew n (ToDevice name) = ⊤
HasFew n (Rewriter specs) = ⊤
HasFew n (Settled kind) = ⊤

by_test : (n : ℕ) (b : Bool) (o q : Option Description) → IfSome o (HasFew n) → IfSome q (HasFew n) → IfSome (cond b o q) (HasFew n)
by_test n true o q h k = h
by_test n false o q h k = k

of_each : {X : Type 0} (n : ℕ) (f : X → Description) (o : Option X) → ((x : X) → HasFew n (f x)) → IfSome (option_map f o) (HasFew n)
of_each n f None h = tt
of_each n f (Some x) h = h x

mapped : (n : ℕ) (o : Option (List WrittenTemplate)) → IfSome o (λ ts. length ts ≤ n) → IfSome (option_map Mapper o) (HasFew n)
unfolding HasFew
mapped n None h = tt
mapped n (Some ts) h = h

templates_few : (arguments : List (List ℕ)) → IfSome (templates_of arguments) (λ ts. length ts ≤ length arguments)
unfolding templates_of
templates_few arguments = by (length arguments == 0) (each written_of arguments) (each_long written_of arguments)
  where
    by : (b : Bool) (o : Option (List WrittenTemplate)) → IfSome o (λ ts. length ts ≡ length arguments) → IfSome (cond b None o) (λ ts. length ts ≤ length arguments)
    by true o h = tt
    by false None h = tt
    by false (Some ts) h = omega (arith, h)

described_few : (class : List ℕ) (arguments : List (List ℕ)) → IfSome (described class arguments) (HasFew (length arguments))
unfolding described HasFew
described_few class arguments =
    let n = length arguments in
    by_test n (bytes_eq class (codes "FromDevice")) _ _ (of_each n FromDevice (device_of arguments) (λ x. tt))
    (by_test n (bytes_eq class (codes "ToDevice")) _ _ (of_each n ToDevice (device_of arguments) (λ x. tt))
    (by_test n (bytes_eq class (codes "IPRewriter")) _ _ (of_each n Rewriter (specs_of arguments) (λ x. tt))
    (by_test n (bytes_eq class (codes "RoundRobinIPMapper")) _ _ (mapped n (templates_of arguments) (templates_few arguments)) (of_each n Settled (settled_kind class arguments) (λ x. tt)))))

few_of : (class : List ℕ) (arguments : List (List ℕ)) (d : Description) → description_of class arguments ≡ Ok d → HasFew (length arguments) d
unfolding description_of
few_of class arguments d h = known (is_class_name class) (described class arguments) (described_few class arguments) h
  where
    known : (b : Bool) (o : Option Description) → IfSome o (HasFew (length arguments)) → cond b (or_bad o) (Err UnknownClass) ≡ Ok d → HasFew (length arguments) d
    known true None k e = absurd cc
    known true (Some other) k e = subst (HasFew (length arguments)) (let same : other ≡ d = cc in same) k
    known false o k e = absurd cc

plain_none : (kind : Kind) (templates : List Template) → IsPlain kind → Contains (patterns_in kind) templates → ⊥
plain_none (RoundRobinIPMapper ts) templates h c = h
plain_none other templates h c = none_in templates c

module _ (devices : List (List ℕ)) (pools : List Pool) (names : List (List ℕ)) where
  here : (scope : List ℕ) (n : ℕ) (d : Description) (templates : List Template) → settled_is d → HasFew n d → Contains (patterns_in (kind_of devices pools names scope d)) templates → length templates ≤ n
  unfolding HasFew
  here scope n (FromDevice name) templates s h c = none_in templates c
  here scope n (ToDevice name) templates s h c = none_in templates c
  here scope n (Rewriter specs) templates s h c = none_in templates c
  here scope n (Settled kind) templates s h c = absurd (plain_none kind templates s c)
  here scope n (Mapper ts) templates s h c = elim (cases_in (map (template_of pools) ts) [] templates c) [
    | inl same ↦ let e = sym (ap length same) ∙ length-map ts (template_of pools) in omega (arith, e, h)
    | inr later ↦ none_in templates later
  ]

  each_few : (es : List Element) (ds : List Description) → map describe es ≡ map Ok ds → All HasFewArguments es → (templates : List Template) → Contains (mappers_of (kinds_of devices pools names es ds)) templates
      → length templates ≤ 1048576
  unfolding kinds_of mappers_of
  each_few [] ds h few templates c = none_in templates c
  each_few (e ∷ es) [] h few templates c = absurd cc
  each_few (e ∷ es) (d ∷ ds) h few templates c =
      elim (Contains-append_cases (patterns_in (kind_of devices pools names (scope_of e.name) d)) (mappers_of (kinds_of devices pools names es ds)) templates c) [
        | inl first ↦
            let known = fits e.class e.args d (head_says e es d ds h) in
            let at_most = here (scope_of e.name) (length e.args) d templates known.settled (few_of e.class e.args d (head_says e es d ds h)) first in
            let most : length e.args ≤ 1048576 = few 0 e (omega arith) in
            omega (arith, at_most, most)
        | inr later ↦ each_few es ds (tail_says e es d ds h) (All-tail HasFewArguments e es few) templates later
      ]

pub turns_short : (elements : List Element) (wires : List Wire) (chain : ChainState) → IsChainOf elements wires chain → All HasFewArguments elements
    → All (λ (templates : List Template). length templates < 2 ^ 32) (mappers_of chain.kinds)
turns_short elements wires chain p few =
    all_of (λ (templates : List Template). length templates < 2 ^ 32) (mappers_of chain.kinds) (λ templates c.
    let ds = p.descriptions in
    let at_most = each_few (devices_of ds) (pools_of ds) (mapper_names elements) elements ds p.described few templates
    (subst (λ (x : ChainState). Contains (mappers_of x.kinds) templates) p.chain_is c) in
    omega (arith, at_most))
