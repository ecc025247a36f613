-- Whether all patterns of a stack are decided, where one is taken from it and its parts are put there instead.
use Rattle.std.proofs.Common.{◌≡◌, ◌∙◌, sym, ap, refl, ◌==◌, Bool, true, false, ◌&&◌, List, [], ◌∷◌, ◌++◌, Bor}
use Rattle.std.specs.List.{list_all}
use Rattle.std.proofs.lemmas.List.Folds.{list_all-append}
use Rattle.mt_packet.specs.declared.field.Field.{Field}
use Rattle.mt_packet.specs.declared.span.Span.{Span}
use Rattle.mt_pattern.specs.declared.pattern.Pattern.{Pattern}
use Rattle.mt_pattern.specs.declared.pattern.Pattern.TheVariants.{True, Within, Not, And, Or}
use Rattle.mt_terms.specs.Terms.{passages_of}
use Rattle.mt_trees.specs.Symbols.{Symbol, term_at}
use Rattle.mt_synth.specs.Decided.{is_decided}
use Rattle.mt_synth.proofs.PatternsDecided.{decided-true, decided-within, decided-not, decided-and, decided-or}

and_true : (a b : Bool) → (a && (b && true)) ≡ (a && b)
and_true true true = refl
and_true true false = refl
and_true false b = refl

true_last : (a : Bool) → (a && true) ≡ a
true_last true = refl
true_last false = refl

false_last : (a : Bool) → (a && false) ≡ false
false_last true = refl
false_last false = refl

in_turn : (a b c : Bool) → ((a && b) && c) ≡ (a && (b && c))
in_turn true b c = refl
in_turn false b c = refl

module _ (symbol : Symbol) where
  abbrev pub all_decided : List (Bor Pattern) → Bool
  all_decided ps = list_all (λ p. is_decided symbol p.now) ps

  last : (ps : List (Bor Pattern)) (p : Bor Pattern) → all_decided (ps ++ p ∷ []) ≡ (all_decided ps && is_decided symbol p.now)
  last ps p = list_all-append (λ (q : Bor Pattern). is_decided symbol q.now) ps (p ∷ []) ∙ and_true (all_decided ps) (is_decided symbol p.now)

  module _ (all ps : List (Bor Pattern)) (p : Bor Pattern) (whole : Bool) (taken : all ≡ ps ++ p ∷ []) (so_far : all_decided all ≡ whole) where
    left_over : (b : Bool) → is_decided symbol p.now ≡ b → (all_decided ps && b) ≡ whole
    left_over b is = ap (λ (x : Bool). all_decided ps && x) (sym is) ∙ (sym (last ps p) ∙ (ap all_decided (sym taken) ∙ so_far))

    pub after-true : p.now ≡ True → all_decided ps ≡ whole
    after-true is = sym (true_last (all_decided ps)) ∙ left_over true (ap (is_decided symbol) is ∙ decided-true symbol)

    pub after-within : (field : Field) (span : Span) → p.now ≡ Within field span → (passages_of (term_at symbol field) == 0) ≡ true → all_decided ps ≡ whole
    after-within field span is none = sym (true_last (all_decided ps)) ∙ left_over true (ap (is_decided symbol) is ∙ (decided-within symbol field span ∙ none))

    pub at_unknown : (field : Field) (span : Span) → p.now ≡ Within field span → (passages_of (term_at symbol field) == 0) ≡ false → false ≡ whole
    at_unknown field span is some = sym (false_last (all_decided ps)) ∙ left_over false (ap (is_decided symbol) is ∙ (decided-within symbol field span ∙ some))

    pub after-not : (inner : Pattern) (q : Bor Pattern) (new : List (Bor Pattern)) → p.now ≡ Not inner → q.now ≡ inner → new ≡ ps ++ q ∷ [] → all_decided new ≡ whole
    after-not inner q new is same put =
        ap all_decided put ∙ (last ps q ∙ (ap (λ (x : Pattern). all_decided ps && is_decided symbol x) same ∙ left_over (is_decided symbol inner) (ap (is_decided symbol) is ∙ decided-not symbol inner)))

    after-two : (left right : Pattern) (q r : Bor Pattern) (mid new : List (Bor Pattern)) → is_decided symbol p.now ≡ (is_decided symbol left && is_decided symbol right) → q.now ≡ left → r.now ≡ right → mid ≡ ps ++ q ∷ [] → new ≡ mid ++ r ∷ []
        → all_decided new ≡ whole
    after-two left right q r mid new is same-left same-right put put-more =
        ap all_decided put-more ∙ (last mid r
        ∙ (ap (λ (x : Bool). x && is_decided symbol r.now) (ap all_decided put ∙ last ps q)
        ∙ (in_turn (all_decided ps) (is_decided symbol q.now) (is_decided symbol r.now)
        ∙ (ap (λ (x : Pattern). all_decided ps && (is_decided symbol x && is_decided symbol r.now)) same-left
        ∙ (ap (λ (x : Pattern). all_decided ps && (is_decided symbol left && is_decided symbol x)) same-right
        ∙ left_over (is_decided symbol left && is_decided symbol right) is)))))

    pub after-and : (left right : Pattern) (q r : Bor Pattern) (mid new : List (Bor Pattern)) → p.now ≡ And left right → q.now ≡ left → r.now ≡ right → mid ≡ ps ++ q ∷ [] → new ≡ mid ++ r ∷ [] → all_decided new ≡ whole
    after-and left right q r mid new is = after-two left right q r mid new (ap (is_decided symbol) is ∙ decided-and symbol left right)

    pub after-or : (left right : Pattern) (q r : Bor Pattern) (mid new : List (Bor Pattern)) → p.now ≡ Or left right → q.now ≡ left → r.now ≡ right → mid ≡ ps ++ q ∷ [] → new ≡ mid ++ r ∷ [] → all_decided new ≡ whole
    after-or left right q r mid new is = after-two left right q r mid new (ap (is_decided symbol) is ∙ decided-or symbol left right)
