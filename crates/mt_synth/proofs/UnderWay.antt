-- A pattern that is tried with others that wait: each step of the machine comes to the same trees in the end.
use Rattle.std.proofs.Common.{◌≡◌, ◌∙◌, sym, ap, refl, subst, ℕ, ◌+◌, ◌<◌, List, [], ◌∷◌, ◌++◌, length, reverse, arith, Bor}
use Rattle.std.proofs.lemmas.List.{reverse-append}
use Rattle.mt_packet.specs.declared.field.Field.{Field}
use Rattle.mt_packet.specs.declared.span.Span.{Span}
use Rattle.mt_cuts.specs.Tree.{value_of}
use Rattle.mt_cuts.specs.View.{tree_of}
use Rattle.mt_cuts.specs.declared.cut.Cut.{Cut}
use Rattle.mt_pattern.specs.Meaning.{size_of}
use Rattle.mt_pattern.specs.declared.pattern.Pattern.{Pattern}
use Rattle.mt_pattern.specs.declared.pattern.Pattern.TheVariants.{True, Within, Not, And, Or}
use Rattle.mt_terms.specs.Terms.{TermForm}
use Rattle.mt_terms.specs.declared.tree.Tree.{Tree}
use Rattle.mt_trees.specs.Symbols.{Symbol, term_at}
use Rattle.mt_trees.specs.Tests.{Found, tested, pattern_tried}
use Rattle.mt_synth.specs.Cuts.{TreeAt, Means, Grows, tree_numbered}
use Rattle.mt_synth.specs.Waiting.{waiting_size, IsWhole, AreWholeBeside, LeadsTo, IsUnderWay}
use Rattle.mt_synth.specs.declared.patterns.Waiting.{Waiting}
use Rattle.mt_synth.specs.declared.patterns.Waiting.TheVariants.{Inside, Outside}
use Rattle.mt_synth.proofs.Meant.{means_values, means_later}
use Rattle.mt_synth.proofs.PatternSizes.{size-true, size-within, size-and, size-or}
use Rattle.mt_synth.proofs.PatternsTried.{tried-true, tried-within, tried-not, tried-and, tried-or}

-- the last one of a list comes first
pub last_first : (before : List Waiting) (w : Waiting) (all : List Waiting) → all ≡ before ++ w ∷ [] → reverse all ≡ w ∷ reverse before
last_first before w all is = ap reverse is ∙ reverse-append before (w ∷ [])

pub none_left : (all : List Waiting) → length all ≡ 0 → reverse all ≡ []
none_left [] is = refl
none_left (w ∷ ws) is = absurd (omega (arith, is))

-- ---- sizes

smaller-two : (size : ℕ) (left right : ℕ) (new : ℕ) (w : ℕ) (ws : ℕ) → size ≡ 1 + left + right → new ≡ right → w ≡ left → new + (w + ws) < size + ws
smaller-two size left right new w ws s e e' = omega (arith, s, e, e')

pub smaller-and : (rest left right new : Pattern) (l : Bor Pattern) (copy : Cut) (before all : List Waiting) → rest ≡ And left right → new ≡ right → l.now ≡ left → all ≡ before ++ Inside l copy ∷ []
    → size_of new + waiting_size (reverse all) < size_of rest + waiting_size (reverse before)
smaller-and rest left right new l copy before all is same same-left put =
    subst (λ (ws : List Waiting). size_of new + waiting_size ws < size_of rest + waiting_size (reverse before)) (sym (last_first before (Inside l copy) all put))
    (smaller-two (size_of rest) (size_of left) (size_of right) (size_of new) (size_of l.now) (waiting_size (reverse before)) (ap size_of is ∙ size-and left right) (ap size_of same) (ap size_of same-left))

pub smaller-or : (rest left right new : Pattern) (l : Bor Pattern) (copy : Cut) (before all : List Waiting) → rest ≡ Or left right → new ≡ right → l.now ≡ left → all ≡ before ++ Outside l copy ∷ []
    → size_of new + waiting_size (reverse all) < size_of rest + waiting_size (reverse before)
smaller-or rest left right new l copy before all is same same-left put =
    subst (λ (ws : List Waiting). size_of new + waiting_size ws < size_of rest + waiting_size (reverse before)) (sym (last_first before (Outside l copy) all put))
    (smaller-two (size_of rest) (size_of left) (size_of right) (size_of new) (size_of l.now) (waiting_size (reverse before)) (ap size_of is ∙ size-or left right) (ap size_of same) (ap size_of same-left))

pub one-true : (rest : Pattern) → rest ≡ True → size_of rest ≡ 1
one-true rest is = ap size_of is ∙ size-true

pub one-within : (rest : Pattern) (field : Field) (span : Span) → rest ≡ Within field span → size_of rest ≡ 1
one-within rest field span is = ap size_of is ∙ size-within field span

pub smaller-inside : (rest : Pattern) (l : Bor Pattern) (copy : Cut) (before all : List Waiting) → size_of rest ≡ 1 → all ≡ before ++ Inside l copy ∷ [] → size_of l.now + waiting_size (reverse before) < size_of rest + waiting_size (reverse all)
smaller-inside rest l copy before all one put = let e = ap waiting_size (last_first before (Inside l copy) all put) in omega (arith, one, e)

pub smaller-outside : (rest : Pattern) (l : Bor Pattern) (copy : Cut) (before all : List Waiting) → size_of rest ≡ 1 → all ≡ before ++ Outside l copy ∷ [] → size_of l.now + waiting_size (reverse before) < size_of rest + waiting_size (reverse all)
smaller-outside rest l copy before all one put = let e = ap waiting_size (last_first before (Outside l copy) all put) in omega (arith, one, e)

-- ---- whole trees of cuts

pub whole-inside : (devices : ℕ) (l : Bor Pattern) (copy : Cut) (before all : List Waiting) → all ≡ before ++ Inside l copy ∷ [] → IsWhole devices copy → AreWholeBeside devices (reverse before) → AreWholeBeside devices (reverse all)
whole-inside devices l copy before all put here beside = subst (AreWholeBeside devices) (sym (last_first before (Inside l copy) all put)) (here, beside)

pub whole-outside : (devices : ℕ) (l : Bor Pattern) (copy : Cut) (before all : List Waiting) → all ≡ before ++ Outside l copy ∷ [] → IsWhole devices copy → AreWholeBeside devices (reverse before) → AreWholeBeside devices (reverse all)
whole-outside devices l copy before all put here beside = subst (AreWholeBeside devices) (sym (last_first before (Outside l copy) all put)) (here, beside)

pub taken-inside : (devices : ℕ) (l : Bor Pattern) (copy : Cut) (before all : List Waiting) → all ≡ before ++ Inside l copy ∷ [] → AreWholeBeside devices (reverse all) → IsWhole devices copy × AreWholeBeside devices (reverse before)
taken-inside devices l copy before all put beside = subst (AreWholeBeside devices) (last_first before (Inside l copy) all put) beside

pub taken-outside : (devices : ℕ) (l : Bor Pattern) (copy : Cut) (before all : List Waiting) → all ≡ before ++ Outside l copy ∷ [] → AreWholeBeside devices (reverse all) → IsWhole devices copy × AreWholeBeside devices (reverse before)
taken-outside devices l copy before all put beside = subst (AreWholeBeside devices) (last_first before (Outside l copy) all put) beside

-- ---- what it comes to

module _ (devices : ℕ) (symbol : Symbol) (wanted : TreeAt) where
  leads_same : (trees : List Tree) (ws : List Waiting) (f g : TreeAt) → ((header : List ℕ) → f header ≡ g header) → LeadsTo devices trees symbol wanted ws f → LeadsTo devices trees symbol wanted ws g
  leads_same trees ws f g same leads = let path : f ≡ g = λ i header. same header i in subst (LeadsTo devices trees symbol wanted ws) path leads

  leads_later : (old new : List Tree) (ws : List Waiting) (f : TreeAt) → Grows old new → LeadsTo devices old symbol wanted ws f → LeadsTo devices new symbol wanted ws f
  leads_later old new [] f grows leads = leads
  leads_later old new (Inside left other ∷ ws) f grows leads = (leads.0, means_later devices old new (tree_of other) leads.0 grows leads.1, leads_later old new ws _ grows leads.2)
  leads_later old new (Outside left other ∷ ws) f grows leads = (leads.0, means_later devices old new (tree_of other) leads.0 grows leads.1, leads_later old new ws _ grows leads.2)

  -- what comes of a pattern without parts, and what waits for it
  pub record IsMade (trees : List Tree) (made : Cut) (ws : List Waiting) : Type 0 where
    pub made_at : TreeAt
    pub means : Means devices trees (tree_of made) made_at
    pub leads : LeadsTo devices trees symbol wanted ws made_at

  formed : (trees : List Tree) (rest : Pattern) (form : (header : List ℕ) → Found → Found → Found) (inside outside : Cut) (ws : List Waiting) → ((header : List ℕ) → pattern_tried header symbol rest ≡ form header)
      → (way : IsUnderWay devices trees symbol wanted rest inside outside ws) → LeadsTo devices trees symbol wanted ws (λ header. form header (way.inside_at header) (way.outside_at header))
  formed trees rest form inside outside ws is way =
      leads_same trees ws (λ header. pattern_tried header symbol rest (way.inside_at header) (way.outside_at header)) (λ header. form header (way.inside_at header) (way.outside_at header))
      (λ header. ap (λ (t : Found → Found → Found). t (way.inside_at header) (way.outside_at header)) (is header)) way.leads

  pub step-not : (trees : List Tree) (rest inner new : Pattern) (inside outside : Cut) (ws : List Waiting) → rest ≡ Not inner → new ≡ inner → IsUnderWay devices trees symbol wanted rest inside outside ws → IsUnderWay devices trees symbol wanted new outside inside ws
  step-not trees rest inner new inside outside ws is same way = record {
    inside_at = way.outside_at;
    outside_at = way.inside_at;
    inside_means = way.outside_means;
    outside_means = way.inside_means;
    leads = formed trees rest (λ header f g. pattern_tried header symbol new g f) inside outside ws
        (λ header. ap (pattern_tried header symbol) (is ∙ ap Not (sym same)) ∙ tried-not header symbol new) way;
  }

  pub step-and : (trees : List Tree) (rest left right new : Pattern) (l : Bor Pattern) (inside outside copy : Cut) (before all : List Waiting) → rest ≡ And left right → new ≡ right → l.now ≡ left → all ≡ before ++ Inside l copy ∷ []
      → ((header : Field → ℕ) → value_of (tree_of copy) header ≡ value_of (tree_of outside) header)
      → IsUnderWay devices trees symbol wanted rest inside outside (reverse before) → IsUnderWay devices trees symbol wanted new inside outside (reverse all)
  step-and trees rest left right new l inside outside copy before all is same same-left put values way = record {
    inside_at = way.inside_at;
    outside_at = way.outside_at;
    inside_means = way.inside_means;
    outside_means = way.outside_means;
    leads = subst (λ (ws : List Waiting). LeadsTo devices trees symbol wanted ws (λ header. pattern_tried header symbol new (way.inside_at header) (way.outside_at header))) (sym (last_first before (Inside l copy) all put)) (
      way.outside_at,
      means_values devices trees (tree_of outside) (tree_of copy) way.outside_at values way.outside_means,
      formed trees rest (λ header f g. pattern_tried header symbol l.now (pattern_tried header symbol new f g) g) inside outside (reverse before)
          (λ header. ap (pattern_tried header symbol) (is ∙ (ap (λ (p : Pattern). And p right) (sym same-left) ∙ ap (λ (p : Pattern). And l.now p) (sym same))) ∙ tried-and header symbol l.now new) way,
    );
  }

  pub step-or : (trees : List Tree) (rest left right new : Pattern) (l : Bor Pattern) (inside outside copy : Cut) (before all : List Waiting) → rest ≡ Or left right → new ≡ right → l.now ≡ left → all ≡ before ++ Outside l copy ∷ []
      → ((header : Field → ℕ) → value_of (tree_of copy) header ≡ value_of (tree_of inside) header)
      → IsUnderWay devices trees symbol wanted rest inside outside (reverse before) → IsUnderWay devices trees symbol wanted new inside outside (reverse all)
  step-or trees rest left right new l inside outside copy before all is same same-left put values way = record {
    inside_at = way.inside_at;
    outside_at = way.outside_at;
    inside_means = way.inside_means;
    outside_means = way.outside_means;
    leads = subst (λ (ws : List Waiting). LeadsTo devices trees symbol wanted ws (λ header. pattern_tried header symbol new (way.inside_at header) (way.outside_at header))) (sym (last_first before (Outside l copy) all put)) (
      way.inside_at,
      means_values devices trees (tree_of inside) (tree_of copy) way.inside_at values way.inside_means,
      formed trees rest (λ header f g. pattern_tried header symbol l.now f (pattern_tried header symbol new f g)) inside outside (reverse before)
          (λ header. ap (pattern_tried header symbol) (is ∙ (ap (λ (p : Pattern). Or p right) (sym same-left) ∙ ap (λ (p : Pattern). Or l.now p) (sym same))) ∙ tried-or header symbol l.now new) way,
    );
  }

  pub made-true : (trees : List Tree) (rest : Pattern) (inside outside : Cut) (ws : List Waiting) → rest ≡ True → IsUnderWay devices trees symbol wanted rest inside outside ws → IsMade trees inside ws
  made-true trees rest inside outside ws is way = record {
    made_at = way.inside_at;
    means = way.inside_means;
    leads = formed trees rest (λ header f g. f) inside outside ws (λ header. ap (pattern_tried header symbol) is ∙ tried-true header symbol) way;
  }

  pub made-within : (old new : List Tree) (rest : Pattern) (field : Field) (span : Span) (term : TermForm) (inside outside made : Cut) (ws : List Waiting) → rest ≡ Within field span → term ≡ term_at symbol field
      → ((f g : TreeAt) → Means devices old (tree_of inside) f → Means devices old (tree_of outside) g → Means devices new (tree_of made) (λ header. tested header term span (f header) (g header)))
      → Grows old new → IsUnderWay devices old symbol wanted rest inside outside ws → IsMade new made ws
  made-within old new rest field span term inside outside made ws is same means grows way = record {
    made_at = λ header. tested header term span (way.inside_at header) (way.outside_at header);
    means = means way.inside_at way.outside_at way.inside_means way.outside_means;
    leads = leads_later old new ws _ grows (formed old rest (λ header f g. tested header term span f g) inside outside ws
        (λ header. ap (pattern_tried header symbol) is ∙ (tried-within header symbol field span ∙ ap (λ (t : TermForm). λ (f : Found) (g : Found). tested header t span f g) (sym same))) way);
  }

  pub finished : (trees : List Tree) (made : Cut) (all : List Waiting) → length all ≡ 0 → IsMade trees made (reverse all) → Means devices trees (tree_of made) wanted
  finished trees made all none is header domain tree found =
      let leads : LeadsTo devices trees symbol wanted [] is.made_at = subst (λ (ws : List Waiting). LeadsTo devices trees symbol wanted ws is.made_at) (none_left all none) is.leads in
      is.means header domain tree (leads header ∙ found)

  pub resumed-inside : (trees : List Tree) (made : Cut) (l : Bor Pattern) (other : Cut) (before all : List Waiting) → all ≡ before ++ Inside l other ∷ [] → IsMade trees made (reverse all) → IsUnderWay devices trees symbol wanted l.now made other (reverse before)
  resumed-inside trees made l other before all put is =
      let leads : LeadsTo devices trees symbol wanted (Inside l other ∷ reverse before) is.made_at = subst (λ (ws : List Waiting). LeadsTo devices trees symbol wanted ws is.made_at) (last_first before (Inside l other) all put) is.leads in
      record { inside_at = is.made_at; outside_at = leads.0; inside_means = is.means; outside_means = leads.1; leads = leads.2 }

  pub resumed-outside : (trees : List Tree) (made : Cut) (l : Bor Pattern) (other : Cut) (before all : List Waiting) → all ≡ before ++ Outside l other ∷ [] → IsMade trees made (reverse all) → IsUnderWay devices trees symbol wanted l.now other made (reverse before)
  resumed-outside trees made l other before all put is =
      let leads : LeadsTo devices trees symbol wanted (Outside l other ∷ reverse before) is.made_at = subst (λ (ws : List Waiting). LeadsTo devices trees symbol wanted ws is.made_at) (last_first before (Outside l other) all put) is.leads in
      record { inside_at = leads.0; outside_at = is.made_at; inside_means = leads.1; outside_means = is.means; leads = leads.2 }

-- ---- a pattern without parts

pub record HasMade (devices : ℕ) (symbol : Symbol) (before now : List Tree) (rest : Pattern) (inside outside made : Cut) (ws : List Waiting) : Type 0 where
  pub one : size_of rest ≡ 1
  pub whole : IsWhole devices made
  pub grows : Grows before now
  pub comes_to : (wanted : TreeAt) → IsUnderWay devices before symbol wanted rest inside outside ws → IsMade devices symbol wanted now made ws

pub has-true : (devices : ℕ) (symbol : Symbol) (before now : List Tree) (rest : Pattern) (inside outside made : Cut) (ws : List Waiting) → rest ≡ True → IsWhole devices inside → now ≡ before → made ≡ inside
    → HasMade devices symbol before now rest inside outside made ws
has-true devices symbol before now rest inside outside made ws is whole same same-made = record {
  one = one-true rest is;
  whole = subst (IsWhole devices) (sym same-made) whole;
  grows = λ number tree found. ap (λ (trees : List Tree). tree_numbered trees number) same ∙ found;
  comes_to = λ wanted way. subst (λ (trees : List Tree). IsMade devices symbol wanted trees made ws) (sym same)
      (subst (λ (m : Cut). IsMade devices symbol wanted before m ws) (sym same-made) (made-true devices symbol wanted before rest inside outside ws is way));
}

pub has-within : (devices : ℕ) (symbol : Symbol) (before later now : List Tree) (rest : Pattern) (field : Field) (span : Span) (term : TermForm) (inside outside cut made : Cut) (ws : List Waiting) → rest ≡ Within field span → term ≡ term_at symbol field
    → IsWhole devices cut
    → ((f g : TreeAt) → Means devices before (tree_of inside) f → Means devices before (tree_of outside) g → Means devices later (tree_of cut) (λ header. tested header term span (f header) (g header)))
    → Grows before later → now ≡ later → made ≡ cut → HasMade devices symbol before now rest inside outside made ws
has-within devices symbol before later now rest field span term inside outside cut made ws is term-is whole means grows same same-made = record {
  one = one-within rest field span is;
  whole = subst (IsWhole devices) (sym same-made) whole;
  grows = λ number tree found. ap (λ (trees : List Tree). tree_numbered trees number) same ∙ grows number tree found;
  comes_to = λ wanted way. subst (λ (trees : List Tree). IsMade devices symbol wanted trees made ws) (sym same)
      (subst (λ (m : Cut). IsMade devices symbol wanted later m ws) (sym same-made) (made-within devices symbol wanted before later rest field span term inside outside cut ws is term-is means grows way));
}

-- the beginning
pub started : (devices : ℕ) (symbol : Symbol) (trees : List Tree) (pattern : Pattern) (inside outside : Cut) (ws : List Waiting) (f g : TreeAt) → ws ≡ [] → Means devices trees (tree_of inside) f → Means devices trees (tree_of outside) g
    → IsUnderWay devices trees symbol (λ header. pattern_tried header symbol pattern (f header) (g header)) pattern inside outside (reverse ws)
started devices symbol trees pattern inside outside ws f g none first second = record {
  inside_at = f;
  outside_at = g;
  inside_means = first;
  outside_means = second;
  leads = subst (λ (ws : List Waiting). LeadsTo devices trees symbol (λ header. pattern_tried header symbol pattern (f header) (g header)) (reverse ws) (λ header. pattern_tried header symbol pattern (f header) (g header))) (sym none) (λ header. refl);
}
