-- No two items are made at one place in one use, and each act makes a item at its place.
use Rattle.std.proofs.Common.{◌≡◌, ℕ, ◌+◌, ◌<◌, ◌≤◌, ◌⊎◌, inl, inr, List, [], ◌∷◌, ◌++◌, length, Contains, refl, sym, ap, ◌∙◌, subst, arith, append_assoc, length-append}
use Rattle.std.specs.List.{AllByRecursion}
use Rattle.std.proofs.lemmas.List.{append-nil}
use Rattle.std.proofs.lemmas.List.Elements.{Contains-append_left, Contains-append_right, Contains-append_cases}
use Rattle.mt_syntax.specs.Grammar.{ClassTree}
use Rattle.mt_click.specs.declared.action.CreatedItem.TheVariants as created_items
use Rattle.mt_click.specs.declared.action.Created.{Created}
use Rattle.mt_click.specs.Acts.{body_sight, Act, body_acts}
use Rattle.mt_click.specs.Elements.{Context, State, own_offset, with_element, with_use, with_connection}
use Rattle.mt_click.specs.Expands.{context_inside, Builds, done, makes, expands, comes, leaves, connects}
use Rattle.mt_click.specs.Connections.{IsElsewhere, AreCreatedOnce}
use Rattle.mt_lists.proofs.Members.{first_in, later_in, cases_in, none_in}
use Rattle.mt_lists.proofs.Pairs.{first_with, later_pairs, no_pairs, one_first, pairs_both}
use Rattle.mt_click.proofs.ActNames.{StandsIn, Stands}
use Rattle.mt_click.proofs.OffsetsOfActs.{sites, AreApart}

-- something is made in a use at a place
abbrev pub IsCreatedAt : List Created → ℕ → ℕ → Type 0
IsCreatedAt created enclosing n = (m : Created) × Contains created m × (m.enclosing ≡ enclosing) × (m.offset ≡ n)

-- What is made in a use is made at one of some places, or else in a use that came later.
abbrev Formed : ℕ → ℕ → ℕ → List ℕ → Created → Type 0
Formed enclosing least most ns m = ((m.enclosing ≡ enclosing) × Contains ns m.offset) ⊎ ((least < m.enclosing) × (m.enclosing ≤ most))

-- items that are made in a use behind those that are there
pub record Gained (enclosing least : ℕ) (ns : List ℕ) (old now : List Created) : Type 0 where
  pub new : List Created
  pub all : now ≡ old ++ new
  pub once : AreCreatedOnce new
  pub forms : (m : Created) → Contains new m → Formed enclosing least (length now) ns m
  pub kept : (n : ℕ) → Contains ns n → IsCreatedAt new enclosing n

none_gained : (enclosing least : ℕ) (old : List Created) → Gained enclosing least [] old old
none_gained enclosing least old = record {
  new = [];
  all = sym (append-nil old);
  once = no_pairs IsElsewhere;
  forms = λ m c. none_in m c;
  kept = λ n c. none_in n c;
}

lowered : (enclosing more least most : ℕ) (ns : List ℕ) (m : Created) → least ≤ more → Formed enclosing more most ns m → Formed enclosing least most ns m
lowered enclosing more least most ns m le (inl here) = inl here
lowered enclosing more least most ns m le (inr (low, high)) = inr (omega (arith, le, low), high)

created_later : (x : Created) (xs : List Created) (enclosing n : ℕ) → IsCreatedAt xs enclosing n → IsCreatedAt (x ∷ xs) enclosing n
created_later x xs enclosing n (m, c, e, f) = (m, later_in x xs m c, e, f)

pub created_behind : (xs ys : List Created) (enclosing n : ℕ) → IsCreatedAt ys enclosing n → IsCreatedAt (xs ++ ys) enclosing n
created_behind xs ys enclosing n (m, c, e, f) = (m, Contains-append_right xs ys m c, e, f)

pub created_still : (xs ys : List Created) (enclosing n : ℕ) → IsCreatedAt xs enclosing n → IsCreatedAt (xs ++ ys) enclosing n
created_still xs ys enclosing n (m, c, e, f) = (m, Contains-append_left xs ys m c, e, f)

-- one item, and then what is made behind it
elsewhere : (enclosing least most : ℕ) (ns : List ℕ) (x : Created) → x.enclosing ≡ enclosing → enclosing ≤ least → (Contains ns x.offset → ⊥) → (m : Created) → Formed enclosing least most ns m → IsElsewhere x m
elsewhere enclosing least most ns x e le new m (inl (here, c)) = λ a b. new (subst (Contains ns) (sym b) c)
elsewhere enclosing least most ns x e le new m (inr (low, high)) = λ a b. omega (arith, e, le, low, a)

pub one_gained : (enclosing least : ℕ) (ns : List ℕ) (old now : List Created) (x : Created) → x.enclosing ≡ enclosing → enclosing ≤ least → (Contains ns x.offset → ⊥) → Gained enclosing least ns (old ++ x ∷ []) now
    → Gained enclosing least (x.offset ∷ ns) old now
one_gained enclosing least ns old now x e le new g = record {
  new = x ∷ g.new;
  all = g.all ∙ append_assoc old (x ∷ []) g.new;
  once = one_first IsElsewhere x g.new (λ m c. elsewhere enclosing least (length now) ns x e le new m (g.forms m c)) g.once;
  forms = λ m c. elim (cases_in x g.new m c) [
    | inl same ↦ inl (subst (λ (y : Created). y.enclosing ≡ enclosing) same e, subst (λ (y : Created). Contains (x.offset ∷ ns) y.offset) same (first_in x.offset ns))
    | inr later ↦ more m (g.forms m later)
  ];
  kept = λ n c. elim (cases_in x.offset ns n c) [
    | inl same ↦ (x, first_in x g.new, e, same)
    | inr later ↦ created_later x g.new enclosing n (g.kept n later)
  ];
}
  where
    more : (m : Created) → Formed enclosing least (length now) ns m → Formed enclosing least (length now) (x.offset ∷ ns) m
    more m (inl (here, c)) = inl (here, later_in x.offset ns m.offset c)
    more m (inr h) = inr h

-- what is made in a use, and then what is made behind it
inside_first : (enclosing least inner low mid most : ℕ) (ns ms : List ℕ) (a b : Created) → enclosing ≤ least → least < inner → least ≤ low → inner ≤ mid → Formed inner low mid ns a → Formed enclosing mid most ms b → IsElsewhere a b
inside_first enclosing least inner low mid most ns ms a b le less up top (inl (here, c)) (inl (there, d)) = λ e f. omega (arith, le, less, here, there, e)
inside_first enclosing least inner low mid most ns ms a b le less up top (inl (here, c)) (inr (least_b, most_b)) = λ e f. omega (arith, top, here, least_b, e)
inside_first enclosing least inner low mid most ns ms a b le less up top (inr (least_a, most_a)) (inl (there, d)) = λ e f. omega (arith, le, up, least_a, there, e)
inside_first enclosing least inner low mid most ns ms a b le less up top (inr (least_a, most_a)) (inr (least_b, most_b)) = λ e f. omega (arith, most_a, least_b, e)

inside_formed : (enclosing least inner low mid most : ℕ) (ns ms : List ℕ) (m : Created) → least < inner → least ≤ low → inner ≤ mid → mid ≤ most → Formed inner low mid ns m → Formed enclosing least most ms m
inside_formed enclosing least inner low mid most ns ms m less up top wide (inl (here, c)) = inr (omega (arith, less, here), omega (arith, here, top, wide))
inside_formed enclosing least inner low mid most ns ms m less up top wide (inr (low_m, high_m)) = inr (omega (arith, up, low_m), omega (arith, high_m, wide))

pub longer : (old new now : List Created) → now ≡ old ++ new → length old ≤ length now
longer old new now e =
    let count : length now ≡ length old + length new = ap length e ∙ length-append old new in
    omega (arith, count)

both_gained : (enclosing least inner : ℕ) (ns ms : List ℕ) (old mid now : List Created) → enclosing ≤ least → least < inner → inner ≤ length old → Gained inner (length old) ns old mid → Gained enclosing (length mid) ms mid now
    → Gained enclosing least ms old now
both_gained enclosing least inner ns ms old mid now le less top g h =
    let up : least ≤ length old = omega (arith, less, top) in
    let wide : length old ≤ length mid = longer old g.new mid g.all in
    let all : length mid ≤ length now = longer mid h.new now h.all in
    let in_mid : inner ≤ length mid = omega (arith, top, wide) in
    record {
      new = g.new ++ h.new;
      all = h.all ∙ ap (λ (ms : List Created). ms ++ h.new) g.all ∙ append_assoc old g.new h.new;
      once = pairs_both IsElsewhere g.new h.new g.once h.once (λ a b c d. inside_first enclosing least inner (length old) (length mid) (length now) ns ms a b le less up in_mid (g.forms a c) (h.forms b d));
      forms = λ m c. elim (Contains-append_cases g.new h.new m c) [
        | inl first ↦ inside_formed enclosing least inner (length old) (length mid) (length now) ns ms m less up in_mid all (g.forms m first)
        | inr later ↦ lowered enclosing (length mid) least (length now) ms m (omega (arith, up, wide)) (h.forms m later)
      ];
      kept = λ n c. created_behind g.new h.new enclosing n (h.kept n c);
    }

-- acts that make at places of their own, and whose classes stand among some
pub record Spaced (classes : List ClassTree) (acts : List Act) : Type 0 where
  pub apart : AreApart (sites acts)
  pub stand : AllByRecursion (Stands classes) acts

not_later : (n : ℕ) (ns : List ℕ) → AreApart (n ∷ ns) → Contains ns n → ⊥
not_later n ns h c = first_with (λ a b. a ≡ b → ⊥) n ns h n c refl

pub spaced_later : (classes : List ClassTree) (n : ℕ) (acts : List Act) → AreApart (n ∷ sites acts) → AllByRecursion (Stands classes) acts → Spaced classes acts
spaced_later classes n acts h k = record { apart = later_pairs (λ a b. a ≡ b → ⊥) n (sites acts) h; stand = k }

-- acts make each item once, where the body of each class is spaced
module _ (classes : List ClassTree) where
  abbrev pub AreSpaced : List ℕ → Type 0
  AreSpaced text = (before : List ClassTree) (c : ClassTree) → StandsIn classes before c → Spaced classes (body_acts (body_sight text before c) c.body)

  pub gained : (text : List ℕ) (p : Context) (s : State) (acts : List Act) (t : State) → Builds text p s acts t → AreSpaced text → Spaced classes acts → (least : ℕ) → p.enclosing ≤ least → least ≤ length s.created
      → Gained p.enclosing least (sites acts) s.created t.created
  gained _ _ _ _ _ (done text p s) bodies spaced least le few = none_gained p.enclosing least s.created
  gained _ _ _ _ _ (makes text p s t name u acts less known b) bodies spaced least le few =
      let x : Created = record { enclosing = p.enclosing; offset = own_offset name u; item = created_items.Element (length s.elements) } in
      let one : length (s.created ++ x ∷ []) ≡ length s.created + 1 = length-append s.created (x ∷ []) in
      one_gained p.enclosing least (sites acts) s.created t.created x refl le (not_later (own_offset name u) (sites acts) spaced.apart)
      (gained text p (with_element text p s name u) acts t b bodies (spaced_later classes (own_offset name u) acts spaced.apart spaced.stand.1) least le (omega (arith, few, one)))
  gained _ _ _ _ _ (expands text p s m t c before name u acts known arity b d) bodies spaced least le few =
      let x : Created = record { enclosing = p.enclosing; offset = own_offset name u; item = created_items.Use (length s.created + 1) } in
      let one : length (s.created ++ x ∷ []) ≡ length s.created + 1 = length-append s.created (x ∷ []) in
      let body = body_acts (body_sight text before c) c.body in
      let start = s.created ++ x ∷ [] in
      let inside = gained text (context_inside text p s c u) (with_use p s (own_offset name u)) body m b bodies (bodies before c spaced.stand.0) (length start) (omega (arith, one)) (omega arith) in
      let wide : length start ≤ length m.created = longer start inside.new m.created inside.all in
      let rest = gained text p m acts t d bodies (spaced_later classes (own_offset name u) acts spaced.apart spaced.stand.1) (length m.created) (omega (arith, le, few, one, wide)) (omega arith) in
      one_gained p.enclosing least (sites acts) s.created t.created x refl le (not_later (own_offset name u) (sites acts) spaced.apart)
      (both_gained p.enclosing least (length s.created + 1) (sites body) (sites acts) start m.created t.created le (omega (arith, few)) (omega (arith, one)) inside rest)
  gained _ _ _ _ _ (comes text p s t c k acts named b) bodies spaced least le few = gained text p s acts t b bodies (record { apart = spaced.apart; stand = spaced.stand.1 }) least le few
  gained _ _ _ _ _ (leaves text p s t c k acts named b) bodies spaced least le few = gained text p s acts t b bodies (record { apart = spaced.apart; stand = spaced.stand.1 }) least le few
  gained _ _ _ _ _ (connects text p s t arrow from to acts b) bodies spaced least le few = gained text p (with_connection p s arrow from to) acts t b bodies (record { apart = spaced.apart; stand = spaced.stand.1 }) least le few
