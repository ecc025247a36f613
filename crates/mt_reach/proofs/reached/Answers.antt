use Rattle.std.proofs.Common.{◌≤◌, ◌++◌, ◌∷◌, [], ℕ, List, length, get_or, refl, sym, ap, subst, ◌∙◌, arith}
use Rattle.std.proofs.lemmas.List.{length-set}
use Rattle.std.proofs.lemmas.List.Elements.{Contains-get_or}
use Rattle.mt_reach.specs.Reach.{Reaches, AreWithin}
use Rattle.mt_reach.proofs.Searches.{begins, complete}
use Rattle.mt_reach.proofs.reached.Goals as goal

pub loop-at-init : goal.loop-at-init
loop-at-init c =
    let e = c.in_ok-push.ensures.items ∙ ap (λ (xs : List ℕ). xs ++ c.args.start ∷ []) c.new-order.ensures.items in
    record {
      search = begins c.args.graph.now c.args.mark c.args.start c.args.seen.now.items c.push.new.self.items c.requires.start c.requires.fresh e;
      first = ap (λ (xs : List ℕ). get_or xs 0 0) e;
      within = subst (AreWithin c.args.graph.now) (sym (length-set c.args.seen.now.items c.args.start c.args.mark)) c.requires.within;
      at = omega arith;
      len = refl;
    }

pub loop-at-preserved : goal.loop-at-preserved
loop-at-preserved c = record {
  search = c.in_ok-follow.ensures.search;
  first = c.in_ok-follow.ensures.first ∙ c.loop-at.invariant.first;
  within = subst (AreWithin c.args.graph.now) (sym c.in_ok-follow.ensures.len) c.loop-at.invariant.within;
  at = omega (arith, c.in_ok-follow.ensures.longer);
  len = c.in_ok-follow.ensures.len ∙ c.loop-at.invariant.len;
}

pub returns-clause-complete : goal.returns-clause-complete
returns-clause-complete c = λ n way.
    let s = c.loop-at.invariant.search in
    let start = subst (λ x. Reaches c.args.graph.now x n) (sym c.loop-at.invariant.first) way in
    let le : length c.loop-at.order.items ≤ c.loop-at.at = omega arith in
    let first = get_or c.loop-at.order.items 0 0 in
    s.found n (complete c.args.graph.now c.args.mark c.loop-at.at c.loop-at.seen.items c.loop-at.order.items le s first n start (s.marked first (Contains-get_or c.loop-at.order.items 0 0 s.there)))
