-- Whether a pattern is decided, by its outermost part, and what it means then.
use Rattle.std.proofs.Common.{◌≡◌, ◌∙◌, sym, ap, refl, subst, ℕ, ◌==◌, Bool, true, false, ◌&&◌, ◌||◌, not, List, arith}
use Rattle.std.specs.Prelude.{if◌then◌else◌}
use Rattle.std.proofs.lemmas.Bool.Decides.{nat_tests}
use Rattle.mt_packet.specs.declared.field.Field.{Field}
use Rattle.mt_packet.specs.declared.span.Span.{Span}
use Rattle.mt_pattern.proofs.Meanings.{meaning-true, meaning-within, meaning-not, meaning-and, meaning-or}
use Rattle.mt_pattern.specs.declared.pattern.Pattern.{Pattern, map-Pattern, roll-Pattern, fold-roll-Pattern, ind-Pattern}
use Rattle.mt_pattern.specs.declared.pattern.Pattern.TheVariants.{True, Within, Not, And, Or}
use Rattle.mt_pattern.specs.declared.pattern.Pattern.TheOpen.{Pattern-F}
use Rattle.mt_terms.specs.Terms.{passages_of}
use Rattle.mt_trees.specs.Symbols.{Symbol, term_at}
use Rattle.mt_trees.specs.Tests.{Found, pattern_tried}
use Rattle.mt_synth.specs.Decided.{layer_decided, is_decided, field_value, pattern_holds}
use Rattle.mt_synth.proofs.PatternsTried.{tried-true, tried-within, tried-not, tried-and, tried-or}
use Rattle.mt_synth.proofs.TestsMeant.{tested_decided}

module _ (symbol : Symbol) where
  pub decided-true : is_decided symbol True ≡ true
  unfolding Rattle.mt_pattern.specs.declared.pattern.Pattern.TheViews.roll-Pattern denote.Hole.Carrier.roll
  decided-true = fold-roll-Pattern Bool (layer_decided symbol) Pattern-F.True

  pub decided-within : (field : Field) (span : Span) → is_decided symbol (Within field span) ≡ (passages_of (term_at symbol field) == 0)
  unfolding Rattle.mt_pattern.specs.declared.pattern.Pattern.TheViews.roll-Pattern denote.Hole.Carrier.roll
  decided-within field span = fold-roll-Pattern Bool (layer_decided symbol) (Pattern-F.Within field span)

  pub decided-not : (p : Pattern) → is_decided symbol (Not p) ≡ is_decided symbol p
  unfolding Rattle.mt_pattern.specs.declared.pattern.Pattern.TheViews.roll-Pattern denote.Hole.Carrier.roll
  decided-not p = fold-roll-Pattern Bool (layer_decided symbol) (Pattern-F.Not p)

  pub decided-and : (p q : Pattern) → is_decided symbol (And p q) ≡ (is_decided symbol p && is_decided symbol q)
  unfolding Rattle.mt_pattern.specs.declared.pattern.Pattern.TheViews.roll-Pattern denote.Hole.Carrier.roll
  decided-and p q = fold-roll-Pattern Bool (layer_decided symbol) (Pattern-F.And p q)

  pub decided-or : (p q : Pattern) → is_decided symbol (Or p q) ≡ (is_decided symbol p && is_decided symbol q)
  unfolding Rattle.mt_pattern.specs.declared.pattern.Pattern.TheViews.roll-Pattern denote.Hole.Carrier.roll
  decided-or p q = fold-roll-Pattern Bool (layer_decided symbol) (Pattern-F.Or p q)

-- ---- what it means

both : (a b : Bool) → (a && b) ≡ true → (a ≡ true) × (b ≡ true)
both true true e = (refl, refl)
both true false e = absurd cc
both false b e = absurd cc

module _ (header : List ℕ) (symbol : Symbol) where
  abbrev value : Field → ℕ
  value = field_value header symbol

  -- the pattern leads to the side on which its meaning lies
  abbrev Sides : Pattern → Type 0
  Sides pattern = is_decided symbol pattern ≡ true → (f g : Found) → pattern_tried header symbol pattern f g ≡ (if pattern_holds header symbol pattern then f else g)

  side_true : Sides True
  side_true d f g = ap (λ (t : Found → Found → Found). t f g) (tried-true header symbol) ∙ ap (λ (b : Bool). if b then f else g) (sym (meaning-true value))

  side_within : (field : Field) (span : Span) → Sides (Within field span)
  side_within field span d f g =
      let known : (passages_of (term_at symbol field) == 0) ≡ true = sym (decided-within symbol field span) ∙ d in
      let none : passages_of (term_at symbol field) ≡ 0 = grind (arith, nat_tests) in
      ap (λ (t : Found → Found → Found). t f g) (tried-within header symbol field span)
      ∙ (tested_decided header (term_at symbol field) span f g none ∙ ap (λ (b : Bool). if b then f else g) (sym (meaning-within field span value)))

  flipped : (b : Bool) (f g : Found) → (if b then g else f) ≡ (if not b then f else g)
  flipped true f g = refl
  flipped false f g = refl

  first_then : (a b : Bool) (f g : Found) → (if a then (if b then f else g) else g) ≡ (if a && b then f else g)
  first_then true b f g = refl
  first_then false b f g = refl

  first_else : (a b : Bool) (f g : Found) → (if a then f else (if b then f else g)) ≡ (if a || b then f else g)
  first_else true b f g = refl
  first_else false b f g = refl

  side_not : (p : Pattern) → Sides p → Sides (Not p)
  side_not p t d f g =
      ap (λ (t : Found → Found → Found). t f g) (tried-not header symbol p)
      ∙ (t (sym (decided-not symbol p) ∙ d) g f ∙ (flipped (pattern_holds header symbol p) f g ∙ ap (λ (b : Bool). if b then f else g) (sym (meaning-not p value))))

  side_and : (p q : Pattern) → Sides p → Sides q → Sides (And p q)
  side_and p q t s d f g =
      let parts = both _ _ (sym (decided-and symbol p q) ∙ d) in
      ap (λ (t : Found → Found → Found). t f g) (tried-and header symbol p q)
      ∙ (t parts.0 (pattern_tried header symbol q f g) g
      ∙ (ap (λ (x : Found). if pattern_holds header symbol p then x else g) (s parts.1 f g)
      ∙ (first_then (pattern_holds header symbol p) (pattern_holds header symbol q) f g ∙ ap (λ (b : Bool). if b then f else g) (sym (meaning-and p q value)))))

  side_or : (p q : Pattern) → Sides p → Sides q → Sides (Or p q)
  side_or p q t s d f g =
      let parts = both _ _ (sym (decided-or symbol p q) ∙ d) in
      ap (λ (t : Found → Found → Found). t f g) (tried-or header symbol p q)
      ∙ (t parts.0 f (pattern_tried header symbol q f g)
      ∙ (ap (λ (x : Found). if pattern_holds header symbol p then f else x) (s parts.1 f g)
      ∙ (first_else (pattern_holds header symbol p) (pattern_holds header symbol q) f g ∙ ap (λ (b : Bool). if b then f else g) (sym (meaning-or p q value)))))

  by_part : (y : Pattern-F ((p : Pattern) × Sides p)) → Sides (roll-Pattern (map-Pattern ((p : Pattern) × Sides p) Pattern (λ e. e.0) y))
  unfolding Rattle.mt_pattern.specs.declared.pattern.Pattern.TheViews.roll-Pattern denote.Hole.Carrier.roll
  by_part Pattern-F.True = side_true
  by_part (Pattern-F.Within field span) = side_within field span
  by_part (Pattern-F.Not p) = side_not p.0 p.1
  by_part (Pattern-F.And p q) = side_and p.0 q.0 p.1 q.1
  by_part (Pattern-F.Or p q) = side_or p.0 q.0 p.1 q.1

  pub decided_sides : (pattern : Pattern) → Sides pattern
  decided_sides = ind-Pattern Sides (λ x y is. subst (λ z. Sides (roll-Pattern z)) is (by_part y))
