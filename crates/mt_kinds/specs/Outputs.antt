-- The outputs that arguments name, each from 0 to 511.
use Rattle.std.specs.Prelude.{◌≤◌, ℕ, ◌+◌, max, List, [], ◌∷◌, ⊤}
use Rattle.mt_kinds.specs.declared.hop.Hop.{Hop}
use Rattle.mt_kinds.specs.declared.rewriter.Spec.{Spec}
use Rattle.mt_kinds.specs.declared.rewriter.Spec.TheVariants as spec
use Rattle.mt_kinds.specs.declared.rewriter.Template.{Template}
use Rattle.mt_kinds.specs.declared.rule.FilterAction.{FilterAction}
use Rattle.mt_kinds.specs.declared.rule.FilterAction.TheVariants.{Deny, Out}
use Rattle.mt_kinds.specs.declared.rule.Rule.{Rule}

-- ---- that they are outputs

abbrev pub IsOutput : ℕ → Type 0
IsOutput out = out ≤ 511

abbrev pub ActionInRange : FilterAction → Type 0
ActionInRange Deny = ⊤
ActionInRange (Out number) = IsOutput number

-- the output that a rule names
abbrev pub RuleInRange : Rule → Type 0
RuleInRange rule = ActionInRange rule.action

-- that of an entry of a route table
abbrev pub HopInRange : Hop → Type 0
HopInRange hop = IsOutput hop.out

-- those of a template
abbrev pub TemplateInRange : Template → Type 0
TemplateInRange template = IsOutput template.fout × IsOutput template.rout

-- those of a specification itself, not of the mapper that it names
abbrev pub SpecInRange : Spec → Type 0
SpecInRange spec.Drop = ⊤
SpecInRange (spec.Pass out) = IsOutput out
SpecInRange (spec.Keep fout rout) = IsOutput fout × IsOutput rout
SpecInRange (spec.Pattern template) = TemplateInRange template
SpecInRange (spec.Mapper number) = ⊤

-- ---- how many outputs there are by them

-- the greatest value of a function on a list, 0 where the list is empty
unfoldable pub greatest : {A : Type 0} → (A → ℕ) → List A → ℕ
greatest of [] = 0
greatest of (x ∷ xs) = max (of x) (greatest of xs)

-- one more than the output that an action names, 0 where it names none
abbrev pub action_outs : FilterAction → ℕ
action_outs Deny = 0
action_outs (Out number) = number + 1

-- one more than the greatest output that the rules of a filter name
abbrev pub filter_outs : List Rule → ℕ
filter_outs rules = greatest (λ rule. action_outs rule.action) rules

-- that the entries of a route table name
abbrev pub route_outs : List Hop → ℕ
route_outs hops = greatest (λ hop. hop.out + 1) hops

abbrev pub template_outs : Template → ℕ
template_outs template = max (template.fout + 1) (template.rout + 1)

-- that the templates of a mapper name
abbrev pub templates_outs : List Template → ℕ
templates_outs templates = greatest template_outs templates
