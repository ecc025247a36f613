-- The sizes of patterns.
use Rattle.std.proofs.Common.{◌≡◌, ◌∙◌, ap, ℕ, ◌+◌, ◌<◌, List, [], ◌∷◌, ◌++◌, Bor, arith}
use Rattle.mt_packet.specs.declared.field.Field.{Field}
use Rattle.mt_packet.specs.declared.span.Span.{Span}
use Rattle.mt_pattern.specs.Meaning.{layer_size, size_of}
use Rattle.mt_pattern.specs.declared.pattern.Pattern.{Pattern, fold-roll-Pattern}
use Rattle.mt_pattern.specs.declared.pattern.Pattern.TheVariants.{True, Within, Not, And, Or}
use Rattle.mt_pattern.specs.declared.pattern.Pattern.TheOpen.{Pattern-F}

-- of the patterns behind references
abbrev pub sizes : List (Bor Pattern) → ℕ
sizes [] = 0
sizes (p ∷ ps) = size_of p.now + sizes ps

pub sizes-append : (ps qs : List (Bor Pattern)) → sizes (ps ++ qs) ≡ sizes ps + sizes qs
sizes-append [] qs = omega arith
sizes-append (p ∷ ps) qs = let h = sizes-append ps qs in omega (arith, h)

pub size-true : size_of True ≡ 1
unfolding Rattle.mt_pattern.specs.declared.pattern.Pattern.TheViews.roll-Pattern denote.Hole.Carrier.roll
size-true = fold-roll-Pattern ℕ layer_size Pattern-F.True

pub size-within : (field : Field) (span : Span) → size_of (Within field span) ≡ 1
unfolding Rattle.mt_pattern.specs.declared.pattern.Pattern.TheViews.roll-Pattern denote.Hole.Carrier.roll
size-within field span = fold-roll-Pattern ℕ layer_size (Pattern-F.Within field span)

pub size-not : (p : Pattern) → size_of (Not p) ≡ 1 + size_of p
unfolding Rattle.mt_pattern.specs.declared.pattern.Pattern.TheViews.roll-Pattern denote.Hole.Carrier.roll
size-not p = fold-roll-Pattern ℕ layer_size (Pattern-F.Not p)

pub size-and : (p q : Pattern) → size_of (And p q) ≡ 1 + size_of p + size_of q
unfolding Rattle.mt_pattern.specs.declared.pattern.Pattern.TheViews.roll-Pattern denote.Hole.Carrier.roll
size-and p q = fold-roll-Pattern ℕ layer_size (Pattern-F.And p q)

pub size-or : (p q : Pattern) → size_of (Or p q) ≡ 1 + size_of p + size_of q
unfolding Rattle.mt_pattern.specs.declared.pattern.Pattern.TheViews.roll-Pattern denote.Hole.Carrier.roll
size-or p q = fold-roll-Pattern ℕ layer_size (Pattern-F.Or p q)

-- ---- a stack from which one is taken, and what is put there instead

last : (ps : List (Bor Pattern)) (p : Bor Pattern) → sizes (ps ++ p ∷ []) ≡ sizes ps + size_of p.now
last ps p = let h = sizes-append ps (p ∷ []) in omega (arith, h)

module _ (all ps : List (Bor Pattern)) (p : Bor Pattern) (taken : all ≡ ps ++ p ∷ []) where
  pub smaller : size_of p.now ≡ 1 → sizes ps < sizes all
  smaller one = let h = ap sizes taken in let l = last ps p in omega (arith, h, l, one)

  pub smaller-not : (inner : Pattern) (q : Bor Pattern) (new : List (Bor Pattern)) → p.now ≡ Not inner → q.now ≡ inner → new ≡ ps ++ q ∷ [] → sizes new < sizes all
  smaller-not inner q new is same put =
      let h = ap sizes taken in let l = last ps p in let s = ap size_of is ∙ size-not inner in
      let k = ap sizes put in let m = last ps q in let e = ap size_of same in omega (arith, h, l, s, k, m, e)

  smaller-two : (left right : Pattern) (q r : Bor Pattern) (mid new : List (Bor Pattern)) → size_of p.now ≡ 1 + size_of left + size_of right → q.now ≡ left → r.now ≡ right → mid ≡ ps ++ q ∷ [] → new ≡ mid ++ r ∷ []
      → sizes new < sizes all
  smaller-two left right q r mid new s same-left same-right put put-more =
      let h = ap sizes taken in let l = last ps p in
      let k = ap sizes put in let m = last ps q in let k' = ap sizes put-more in let m' = last mid r in let e = ap size_of same-left in let e' = ap size_of same-right in omega (arith, h, l, s, k, m, k', m', e, e')

  pub smaller-and : (left right : Pattern) (q r : Bor Pattern) (mid new : List (Bor Pattern)) → p.now ≡ And left right → q.now ≡ left → r.now ≡ right → mid ≡ ps ++ q ∷ [] → new ≡ mid ++ r ∷ [] → sizes new < sizes all
  smaller-and left right q r mid new is = smaller-two left right q r mid new (ap size_of is ∙ size-and left right)

  pub smaller-or : (left right : Pattern) (q r : Bor Pattern) (mid new : List (Bor Pattern)) → p.now ≡ Or left right → q.now ≡ left → r.now ≡ right → mid ≡ ps ++ q ∷ [] → new ≡ mid ++ r ∷ [] → sizes new < sizes all
  smaller-or left right q r mid new is = smaller-two left right q r mid new (ap size_of is ∙ size-or left right)
