use Rattle.std.proofs.Common.{◌∙◌, ap, sym, ◌==◌}
use Rattle.mt_pattern.specs.Meaning.{size_of}
use Rattle.mt_terms.specs.Terms.{TermForm, passages_of}
use Rattle.mt_synth.specs.Symbols.{symbol_form}
use Rattle.mt_synth.proofs.PatternSizes.{size-true, size-within, smaller, smaller-not, smaller-and, smaller-or}
use Rattle.mt_synth.proofs.StacksDecided.{after-true, after-within, at_unknown, after-not, after-and, after-or}
use Rattle.mt_synth.proofs.patterns.is_decided.Goals as goal

pub loop-pattern-smaller-in-True : goal.loop-pattern-smaller-in-True
loop-pattern-smaller-in-True c = let taken = rw c.in-Some.is at c.pop.ensures.items in smaller _ _ c.in-Some.pattern taken (ap size_of c.in-True.is ∙ size-true)

pub loop-pattern-preserved-in-True : goal.loop-pattern-preserved-in-True
loop-pattern-preserved-in-True c = let taken = rw c.in-Some.is at c.pop.ensures.items in after-true (symbol_form c.args.symbol.now) _ _ c.in-Some.pattern _ taken c.loop-pattern.invariant c.in-True.is

pub returns-then-not-is_known : goal.returns-then-not-is_known
returns-then-not-is_known c = let taken = rw c.in-Some.is at c.pop.ensures.items in at_unknown (symbol_form c.args.symbol.now) _ _ c.in-Some.pattern _ taken c.loop-pattern.invariant _ _ c.in-Within.is (ap (λ (t : TermForm). passages_of t == 0) (sym c.term.ensures) ∙ (sym c.is_known.ensures ∙ c.if-not-is_known.true))

pub loop-pattern-smaller-else-not-is_known : goal.loop-pattern-smaller-else-not-is_known
loop-pattern-smaller-else-not-is_known c = let taken = rw c.in-Some.is at c.pop.ensures.items in smaller _ _ c.in-Some.pattern taken (ap size_of c.in-Within.is ∙ size-within _ _)

pub loop-pattern-preserved-else-not-is_known : goal.loop-pattern-preserved-else-not-is_known
loop-pattern-preserved-else-not-is_known c = let taken = rw c.in-Some.is at c.pop.ensures.items in after-within (symbol_form c.args.symbol.now) _ _ c.in-Some.pattern _ taken c.loop-pattern.invariant _ _ c.in-Within.is (ap (λ (t : TermForm). passages_of t == 0) (sym c.term.ensures) ∙ (sym c.is_known.ensures ∙ c.if-not-is_known.false))

pub loop-pattern-smaller-in-Continue-branch-2 : goal.loop-pattern-smaller-in-Continue-branch-2
loop-pattern-smaller-in-Continue-branch-2 c = let taken = rw c.in-Some.is at c.pop.ensures.items in smaller-not _ _ c.in-Some.pattern taken _ c.get.result _ c.in-Not.is c.get.ensures c.in_ok-push-in-Not.ensures.items

pub loop-pattern-preserved-in-Continue-branch-2 : goal.loop-pattern-preserved-in-Continue-branch-2
loop-pattern-preserved-in-Continue-branch-2 c = let taken = rw c.in-Some.is at c.pop.ensures.items in after-not (symbol_form c.args.symbol.now) _ _ c.in-Some.pattern _ taken c.loop-pattern.invariant _ c.get.result _ c.in-Not.is c.get.ensures c.in_ok-push-in-Not.ensures.items

pub loop-pattern-smaller-in-Continue-branch-4 : goal.loop-pattern-smaller-in-Continue-branch-4
loop-pattern-smaller-in-Continue-branch-4 c = let taken = rw c.in-Some.is at c.pop.ensures.items in smaller-and _ _ c.in-Some.pattern taken _ _ c.get-in-And.result c.get-in-And-2.result _ _ c.in-And.is c.get-in-And.ensures c.get-in-And-2.ensures c.in_ok-push-in-And.ensures.items c.in_ok-push-in-And-2.ensures.items

pub loop-pattern-preserved-in-Continue-branch-4 : goal.loop-pattern-preserved-in-Continue-branch-4
loop-pattern-preserved-in-Continue-branch-4 c = let taken = rw c.in-Some.is at c.pop.ensures.items in after-and (symbol_form c.args.symbol.now) _ _ c.in-Some.pattern _ taken c.loop-pattern.invariant _ _ c.get-in-And.result c.get-in-And-2.result _ _ c.in-And.is c.get-in-And.ensures c.get-in-And-2.ensures c.in_ok-push-in-And.ensures.items c.in_ok-push-in-And-2.ensures.items

pub loop-pattern-smaller : goal.loop-pattern-smaller
loop-pattern-smaller c = let taken = rw c.in-Some.is at c.pop.ensures.items in smaller-or _ _ c.in-Some.pattern taken _ _ c.get-in-Or.result c.get-in-Or-2.result _ _ c.in-Or.is c.get-in-Or.ensures c.get-in-Or-2.ensures c.in_ok-push-in-Or.ensures.items c.in_ok-push-in-Or-2.ensures.items

pub loop-pattern-preserved : goal.loop-pattern-preserved
loop-pattern-preserved c = let taken = rw c.in-Some.is at c.pop.ensures.items in after-or (symbol_form c.args.symbol.now) _ _ c.in-Some.pattern _ taken c.loop-pattern.invariant _ _ c.get-in-Or.result c.get-in-Or-2.result _ _ c.in-Or.is c.get-in-Or.ensures c.get-in-Or-2.ensures c.in_ok-push-in-Or.ensures.items c.in_ok-push-in-Or-2.ensures.items
