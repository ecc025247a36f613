-- A packet leaves a rewriter by an output that it has.
use Rattle.std.proofs.Common.{◌≡◌, ℕ, zero, suc, ◌+◌, ◌<◌, Bool, true, false, List, [], ◌∷◌, map, refl, sym, subst, arith}
use Rattle.std.specs.Prelude.{◌==◌, ◌||◌, max, Option, Some, None, slice_get}
use Rattle.std.proofs.Math.Nat.{le-max_left, le-max_right}
use Rattle.std.proofs.lemmas.Bool.{false≢true, eqb-true}
use Rattle.std.proofs.lemmas.Option.{same_Some, none-some}
use Rattle.mt_kinds.specs.declared.kind.Kind.TheVariants.{IPRewriter}
use Rattle.mt_kinds.specs.declared.rewriter.Spec.{Spec}
use Rattle.mt_kinds.specs.declared.rewriter.Spec.TheVariants as spec
use Rattle.mt_kinds.specs.declared.rewriter.Template.{Template}
use Rattle.mt_kinds.specs.Outputs.{greatest, template_outs, templates_outs}
use Rattle.mt_kinds.specs.Ports.{mapper_at, forward_outs, reply_outs, spec_outs, rewriter_outs, is_in, is_reply_out, spec_leads, if_there, leads}

one_of : {P : Type 0} (a b : Bool) → (a || b) ≡ true → (a ≡ true → P) → (b ≡ true → P) → P
one_of true b h first second = first h
one_of false b h first second = second h

-- ---- the greatest

in_front : {A : Type 0} (of : A → ℕ) (x : A) (xs : List A) (n : ℕ) → n < of x → n < greatest of (x ∷ xs)
unfolding greatest
in_front of x xs n below = let most = le-max_left (of x) (greatest of xs) in omega (arith, below, most)

in_rest : {A : Type 0} (of : A → ℕ) (x : A) (xs : List A) (n : ℕ) → n < greatest of xs → n < greatest of (x ∷ xs)
unfolding greatest
in_rest of x xs n below = let most = le-max_right (of x) (greatest of xs) in omega (arith, below, most)

at_place : {A : Type 0} (of : A → ℕ) (xs : List A) (i : ℕ) (x : A) (n : ℕ) → slice_get xs i ≡ Some x → n < of x → n < greatest of xs
at_place of [] i x n at below = absurd (none-some x at)
at_place of (y ∷ xs) zero x n at below = in_front of y xs n (subst (λ z. n < of z) (sym (same_Some y x at)) below)
at_place of (y ∷ xs) (suc i) x n at below = in_rest of y xs n (at_place of xs i x n at below)

-- ---- outputs of templates

the_one : (out other n : ℕ) → is_in out (other ∷ []) ≡ true → other < n → out < n
the_one out other n h below = one_of (other == out) false h (λ e. let same = eqb-true other out e in omega (arith, same, below)) (λ e. absurd (false≢true e))

of_templates : (by : Template → ℕ) → ((t : Template) → by t < template_outs t) → (templates : List Template) (out : ℕ) → is_in out (map by templates) ≡ true → out < templates_outs templates
of_templates by within [] out h = absurd (false≢true h)
of_templates by within (t ∷ templates) out h =
    one_of (by t == out) (is_in out (map by templates)) h
    (λ e. in_front template_outs t templates out (let same = eqb-true (by t) out e in let below = within t in omega (arith, same, below)))
    (λ rest. in_rest template_outs t templates out (of_templates by within templates out rest))

forward_of : (t : Template) → t.fout < template_outs t
forward_of t = let most = le-max_left (t.fout + 1) (t.rout + 1) in omega (arith, most)

reply_of : (t : Template) → t.rout < template_outs t
reply_of t = let most = le-max_right (t.fout + 1) (t.rout + 1) in omega (arith, most)

module _ (mappers : List (List Template)) where
  forward_within : (s : Spec) (out : ℕ) → is_in out (forward_outs mappers s) ≡ true → out < spec_outs mappers s
  forward_within spec.Drop out h = absurd (false≢true h)
  forward_within (spec.Pass own) out h = absurd (false≢true h)
  forward_within (spec.Keep fout rout) out h = the_one out fout (max (fout + 1) (rout + 1)) h (let most = le-max_left (fout + 1) (rout + 1) in omega (arith, most))
  forward_within (spec.Pattern t) out h = the_one out t.fout (template_outs t) h (forward_of t)
  forward_within (spec.Mapper number) out h = of_templates (λ t. t.fout) forward_of (mapper_at mappers number) out h

  reply_within : (s : Spec) (out : ℕ) → is_in out (reply_outs mappers s) ≡ true → out < spec_outs mappers s
  reply_within spec.Drop out h = absurd (false≢true h)
  reply_within (spec.Pass own) out h = absurd (false≢true h)
  reply_within (spec.Keep fout rout) out h = the_one out rout (max (fout + 1) (rout + 1)) h (let most = le-max_right (fout + 1) (rout + 1) in omega (arith, most))
  reply_within (spec.Pattern t) out h = the_one out t.rout (template_outs t) h (reply_of t)
  reply_within (spec.Mapper number) out h = of_templates (λ t. t.rout) reply_of (mapper_at mappers number) out h

  reply_counted : (specs : List Spec) (out : ℕ) → is_reply_out mappers specs out ≡ true → out < rewriter_outs mappers specs
  reply_counted [] out h = absurd (false≢true h)
  reply_counted (s ∷ specs) out h =
      one_of (is_in out (reply_outs mappers s)) (is_reply_out mappers specs out) h
      (λ here. in_front (spec_outs mappers) s specs out (reply_within s out here))
      (λ rest. in_rest (spec_outs mappers) s specs out (reply_counted specs out rest))

  spec_counted : (specs : List Spec) (input out : ℕ) (s : Spec) → slice_get specs input ≡ Some s → spec_leads mappers specs out s ≡ true → out < rewriter_outs mappers specs
  spec_counted specs input out spec.Drop at h = reply_counted specs out h
  spec_counted specs input out (spec.Pass own) at h =
      one_of (own == out) (is_reply_out mappers specs out) h
      (λ e. at_place (spec_outs mappers) specs input (spec.Pass own) out at (let same = eqb-true own out e in omega (arith, same)))
      (λ rest. reply_counted specs out rest)
  spec_counted specs input out (spec.Keep fout rout) at h = at_place (spec_outs mappers) specs input (spec.Keep fout rout) out at (forward_within (spec.Keep fout rout) out h)
  spec_counted specs input out (spec.Pattern t) at h = at_place (spec_outs mappers) specs input (spec.Pattern t) out at (forward_within (spec.Pattern t) out h)
  spec_counted specs input out (spec.Mapper number) at h = at_place (spec_outs mappers) specs input (spec.Mapper number) out at (forward_within (spec.Mapper number) out h)

  by_input : (specs : List Spec) (input out : ℕ) (found : Option Spec) → slice_get specs input ≡ found → if_there (spec_leads mappers specs out) found ≡ true → out < rewriter_outs mappers specs
  by_input specs input out (Some s) at h = spec_counted specs input out s at h
  by_input specs input out None at h = absurd (false≢true h)

pub leads_counted : (mappers : List (List Template)) (specs : List Spec) (input out : ℕ) → leads mappers (IPRewriter specs) input out ≡ true → out < rewriter_outs mappers specs
leads_counted mappers specs input out h = by_input mappers specs input out (slice_get specs input) refl h
