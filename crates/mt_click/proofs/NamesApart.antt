-- No two elements have one name, unless it is that of their scope alone.
use Rattle.std.proofs.Common.{◌≡◌, ℕ, ◌+◌, ◌^◌, ◌<◌, ◌≤◌, List, [], ◌∷◌, ◌++◌, length, decimal, AllPairs, Contains, Option, Some, None, inl, inr, refl, sym, ap, ◌∙◌, subst, arith, append_assoc, length-append}
use Rattle.std.specs.List.{AllByRecursion}
use Rattle.std.proofs.lemmas.List.{append-nil, append_cancel_left}
use Rattle.std.proofs.lemmas.List.Elements.{Contains-append_cases}
use Rattle.std.proofs.lemmas.Fmt.{decimal_injective}
use Rattle.mt_syntax.specs.declared.word.Word.{Word}
use Rattle.mt_syntax.specs.declared.phrase.Use.{Use}
use Rattle.mt_syntax.specs.Grammar.{ClassTree, OuterTree, IsConfig}
use Rattle.mt_syntax.specs.Words.{bytes_of}
use Rattle.mt_graph.specs.declared.Element.{Element}
use Rattle.mt_click.specs.Declarations.{spelling, Declaration, declared_body, declared_outside, classes_of}
use Rattle.mt_click.specs.Acts.{body_sight, Act, body_acts, outside_acts}
use Rattle.mt_click.specs.Elements.{Context, State, element_of, scope_text, own_offset, empty, top, with_element, with_use, with_connection}
use Rattle.mt_click.specs.Expands.{IsOther, AreOnce, IsRightClass, AreRightClasses, context_inside, Builds, done, makes, expands, comes, leaves, connects, Expands}
use Rattle.mt_click.specs.Sound.{IsOwn, AreNamesApart}
use Rattle.mt_lists.proofs.Members.{first_in, later_in, cases_in, none_in}
use Rattle.mt_lists.proofs.Pairs.{first_with, later_pairs, no_pairs, one_first, pairs_both}
use Rattle.mt_syntax.specs.Spelled.{IsIdentifier}
use Rattle.mt_click.proofs.NamesIdentifiers.{AreNamed, AreIdentifiers, spelled, body_identified, outside_identified}
use Rattle.mt_click.proofs.ScopeTexts.{HasNoSlash, before_slash, slash_in, identifier_plain, identifier_some, decimal_plain, scope_more, scope_alone}
use Rattle.mt_click.proofs.ActNames.{word_name, act_names, names_in, StandsIn, Stands, Tells, body_tells, outside_tells}

-- names that differ from one another, each an identifier
pub record Plain (names : List (List ℕ)) : Type 0 where
  pub apart : AllPairs (λ a b. a ≡ b → ⊥) names
  pub identifiers : (name : List ℕ) → Contains names name → IsIdentifier name

-- acts whose names are plain and whose classes stand among some
pub record Ready (text : List ℕ) (classes : List ClassTree) (acts : List Act) : Type 0 where
  pub names : Plain (act_names text acts)
  pub stand : AllByRecursion (Stands classes) acts

-- What follows the scope in the name of an element that is made after so many others: nothing, a name that
-- is declared at this place, or the number of a use, a `/` and more.
pub data Tail : List (List ℕ) → ℕ → List ℕ → Type 0 where
  bare : (names : List (List ℕ)) (least : ℕ) (rest : List ℕ) → rest ≡ [] → Tail names least rest
  own : (names : List (List ℕ)) (least : ℕ) (rest : List ℕ) → Contains names rest → Tail names least rest
  inner : (names : List (List ℕ)) (least : ℕ) (rest : List ℕ) (n : ℕ) (more : List ℕ) → least ≤ n → n ≤ 512 → rest ≡ decimal n ++ 47 ∷ more → Tail names least rest

abbrev pub Formed : List (List ℕ) → List ℕ → ℕ → Element → Type 0
Formed names scope least e = (rest : List ℕ) × (e.name ≡ scope ++ rest) × Tail names least rest

-- no two of them have one name
abbrev pub IsUnlike : Element → Element → Type 0
IsUnlike a b = IsOwn a.name → a.name ≡ b.name → ⊥

-- elements that are made at a place behind those that are there
pub record Grown (names : List (List ℕ)) (scope : List ℕ) (old now : List Element) : Type 0 where
  pub new : List Element
  pub all : now ≡ old ++ new
  pub few : length now ≤ 512
  pub apart : AllPairs IsUnlike new
  pub forms : (e : Element) → Contains new e → Formed names scope (length old) e

widened : (names more : List (List ℕ)) (least from : ℕ) → ((name : List ℕ) → Contains names name → Contains more name) → from ≤ least → (rest : List ℕ) → Tail names least rest → Tail more from rest
widened _ more _ from h le _ (bare names least rest e) = bare more from rest e
widened _ more _ from h le _ (own names least rest c) = own more from rest (h rest c)
widened _ more _ from h le _ (inner names least rest n tail low high e) = inner more from rest n tail (omega (arith, le, low)) high e

no_name : (rest tail : List ℕ) → HasNoSlash rest → rest ≡ tail → (n : ℕ) (more : List ℕ) → tail ≡ decimal n ++ 47 ∷ more → ⊥
no_name rest tail h e n more f = slash_in (decimal n) more (subst HasNoSlash (e ∙ f) h)

-- a name of this place is no other behind it
own_apart : (name : List ℕ) (names : List (List ℕ)) → Plain (name ∷ names) → (least : ℕ) (rest : List ℕ) → Tail names least rest → name ≡ rest → ⊥
own_apart name _ h _ _ (bare names least rest e) same = identifier_some name (h.identifiers name (first_in name names)) (same ∙ e)
own_apart name _ h _ _ (own names least rest c) same = first_with (λ a b. a ≡ b → ⊥) name names h.apart rest c same
own_apart name _ h _ _ (inner names least rest n more low high e) same = no_name name rest (identifier_plain name (h.identifiers name (first_in name names))) same n more e

-- nor is what is made in a use the same as what is made behind it
use_apart : (n : ℕ) (more : List ℕ) (names : List (List ℕ)) (least : ℕ) (rest : List ℕ) → n < least → n ≤ 512 → Plain names → Tail names least rest → decimal n ++ 47 ∷ more ≡ rest → ⊥
use_apart n more _ _ _ less few h (bare names least rest e) same = slash_in (decimal n) more (subst HasNoSlash (sym (same ∙ e)) tt)
use_apart n more _ _ _ less few h (own names least rest c) same = no_name rest rest (identifier_plain rest (h.identifiers rest c)) refl n more (sym same)
use_apart n more _ _ _ less few h (inner names least rest m tail low high e) same =
    let wide_n : n < 2 ^ 64 = omega (arith, few) in
    let wide_m : m < 2 ^ 64 = omega (arith, high) in
    let text = before_slash (decimal n) (decimal m) more tail (decimal_plain n wide_n) (decimal_plain m wide_m) (same ∙ e) in
    let number = decimal_injective n m wide_n wide_m text in
    omega (arith, number, less, low)

nothing_more : (names : List (List ℕ)) (scope : List ℕ) (old : List Element) → length old ≤ 512 → Grown names scope old old
nothing_more names scope old few = record {
  new = [];
  all = sym (append-nil old);
  few = few;
  apart = no_pairs IsUnlike;
  forms = λ e c. none_in e c;
}

-- an element, and then what is made behind it
pushed : (names more : List (List ℕ)) (scope : List ℕ) (old now : List Element) (e : Element) (rest : List ℕ) → e.name ≡ scope ++ rest → Tail more (length old) rest
    → ((name : List ℕ) → Contains names name → Contains more name) → ((b : Element) → Formed names scope (length (old ++ e ∷ [])) b → IsUnlike e b)
    → Grown names scope (old ++ e ∷ []) now → Grown more scope old now
pushed names more scope old now e rest is tail within unlike g = record {
  new = e ∷ g.new;
  all = g.all ∙ append_assoc old (e ∷ []) g.new;
  few = g.few;
  apart = one_first IsUnlike e g.new (λ b c. unlike b (g.forms b c)) g.apart;
  forms = λ b c. elim (cases_in e g.new b c) [
    | inl same ↦ subst (Formed more scope (length old)) same (rest, is, tail)
    | inr later ↦
        let f = g.forms b later in
        let one : length (old ++ e ∷ []) ≡ length old + 1 = length-append old (e ∷ []) in
        (f.0, f.1, widened names more (length (old ++ e ∷ [])) (length old) within (omega (arith, one)) f.0 f.2)
  ];
}

with_more : (text : List ℕ) (p : Context) (name : Option Word) (u : Use) (names : List (List ℕ)) (old now : List Element) → Plain (word_name text name ++ names)
    → Grown names (scope_text p.numbers) (old ++ element_of text p.numbers p.bindings name u ∷ []) now → Grown (word_name text name ++ names) (scope_text p.numbers) old now
unfolding element_of
with_more text p None u names old now h g =
    pushed names names (scope_text p.numbers) old now (element_of text p.numbers p.bindings None u) [] refl (bare names (length old) [] refl) (λ name c. c)
    (λ b f. λ is same. scope_alone p.numbers (scope_text p.numbers ++ []) refl is) g
with_more text p (Some w) u names old now h g =
    pushed names (bytes_of text w ∷ names) (scope_text p.numbers) old now (element_of text p.numbers p.bindings (Some w) u) (bytes_of text w) refl (own (bytes_of text w ∷ names) (length old) (bytes_of text w) (first_in (bytes_of text w) names)) (λ name c. later_in (bytes_of text w) names name c)
    (λ b f. λ is same. own_apart (bytes_of text w) names h (length (old ++ element_of text p.numbers p.bindings (Some w) u ∷ [])) f.0 f.2 (append_cancel_left (scope_text p.numbers) (bytes_of text w) f.0 (same ∙ f.1))) g

-- a list that has something is not empty
some_there : {X : Type 0} (xs : List X) (x : X) → Contains xs x → 0 < length xs
some_there xs x c = let lt = c.1 in omega (arith, lt)

-- what is made in a use, and then what is made behind it
used : (inside names more : List (List ℕ)) (numbers : List ℕ) (old mid now : List Element) → ((name : List ℕ) → Contains names name → Contains more name) → Plain names → length old ≤ 512
    → Grown inside (scope_text (numbers ++ length old ∷ [])) old mid → Grown names (scope_text numbers) mid now → Grown more (scope_text numbers) old now
used inside names more numbers old mid now within plain few g h =
    let count : length mid ≡ length old + length g.new = ap length g.all ∙ length-append old g.new in
    let scope : (a : Element) (rest : List ℕ) → a.name ≡ scope_text (numbers ++ length old ∷ []) ++ rest → a.name ≡ scope_text numbers ++ (decimal (length old) ++ 47 ∷ rest) = λ a rest e. e ∙ scope_more numbers (length old) rest in
    record {
      new = g.new ++ h.new;
      all = h.all ∙ ap (λ (es : List Element). es ++ h.new) g.all ∙ append_assoc old g.new h.new;
      few = h.few;
      apart = pairs_both IsUnlike g.new h.new g.apart h.apart (λ a b c d. λ is same.
          let f = g.forms a c in
          let k = h.forms b d in
          let some = some_there g.new a c in
          use_apart (length old) f.0 names (length mid) k.0 (omega (arith, count, some)) few plain k.2
          (append_cancel_left (scope_text numbers) (decimal (length old) ++ 47 ∷ f.0) k.0 (sym (scope a f.0 f.1) ∙ same ∙ k.1)));
      forms = λ e c. elim (Contains-append_cases g.new h.new e c) [
        | inl first ↦
            let f = g.forms e first in
            (decimal (length old) ++ 47 ∷ f.0, scope e f.0 f.1, inner more (length old) (decimal (length old) ++ 47 ∷ f.0) (length old) f.0 (omega arith) few refl)
        | inr later ↦
            let f = h.forms e later in
            (f.0, f.1, widened names more (length mid) (length old) within (omega (arith, count)) f.0 f.2)
      ];
    }

plain_later : (name : List ℕ) (names : List (List ℕ)) → Plain (name ∷ names) → Plain names
plain_later name names h = record { apart = later_pairs (λ a b. a ≡ b → ⊥) name names h.apart; identifiers = λ x c. h.identifiers x (later_in name names x c) }

plain_rest : (text : List ℕ) (name : Option Word) (names : List (List ℕ)) → Plain (word_name text name ++ names) → Plain names
plain_rest text None names h = h
plain_rest text (Some w) names h = plain_later (bytes_of text w) names h

word_more : (text : List ℕ) (w : Option Word) (names : List (List ℕ)) (name : List ℕ) → Contains names name → Contains (word_name text w ++ names) name
word_more text None names name c = c
word_more text (Some w) names name c = later_in (bytes_of text w) names name c

-- acts build elements with names apart, where the body of each class is ready
module _ (classes : List ClassTree) where
  abbrev pub AreReady : List ℕ → Type 0
  AreReady text = (before : List ClassTree) (c : ClassTree) → StandsIn classes before c → Ready text classes (body_acts (body_sight text before c) c.body)

  pub grown : (text : List ℕ) (p : Context) (s : State) (acts : List Act) (t : State) → Builds text p s acts t → AreReady text → Ready text classes acts → length s.elements ≤ 512
      → Grown (act_names text acts) (scope_text p.numbers) s.elements t.elements
  grown _ _ _ _ _ (done text p s) bodies ready few = nothing_more [] (scope_text p.numbers) s.elements few
  grown _ _ _ _ _ (makes text p s t name u acts less known b) bodies ready few =
      let one : length (s.elements ++ element_of text p.numbers p.bindings name u ∷ []) ≡ length s.elements + 1 = length-append s.elements (element_of text p.numbers p.bindings name u ∷ []) in
      with_more text p name u (act_names text acts) s.elements t.elements ready.names
      (grown text p (with_element text p s name u) acts t b bodies (record { names = plain_rest text name (act_names text acts) ready.names; stand = ready.stand.1 }) (omega (arith, one, less)))
  grown _ _ _ _ _ (expands text p s m t c before name u acts known arity b d) bodies ready few =
      let inside = grown text (context_inside text p s c u) (with_use p s (own_offset name u)) (body_acts (body_sight text before c) c.body) m b bodies (bodies before c ready.stand.0) few in
      let rest : Ready text classes acts = record { names = plain_rest text name (act_names text acts) ready.names; stand = ready.stand.1 } in
      used (act_names text (body_acts (body_sight text before c) c.body)) (act_names text acts) (word_name text name ++ act_names text acts) p.numbers s.elements m.elements t.elements
      (word_more text name (act_names text acts)) rest.names few inside (grown text p m acts t d bodies rest inside.few)
  grown _ _ _ _ _ (comes text p s t c k acts named b) bodies ready few = grown text p s acts t b bodies (record { names = ready.names; stand = ready.stand.1 }) few
  grown _ _ _ _ _ (leaves text p s t c k acts named b) bodies ready few = grown text p s acts t b bodies (record { names = ready.names; stand = ready.stand.1 }) few
  grown _ _ _ _ _ (connects text p s t arrow from to acts b) bodies ready few = grown text p (with_connection p s arrow from to) acts t b bodies (record { names = ready.names; stand = ready.stand.1 }) few

-- names that are declared once

named_in : (text : List ℕ) (ds : List Declaration) (name : List ℕ) → Contains (names_in text ds) name → (d : Declaration) × Contains ds d × (spelling text d.name ≡ name)
named_in text [] name c = none_in name c
named_in text (d ∷ ds) name c = elim (cases_in (spelling text d.name) (names_in text ds) name c) [
  | inl same ↦ (d, first_in d ds, same)
  | inr later ↦ let f = named_in text ds name later in (f.0, later_in d ds f.0 f.1, f.2)
]

once_apart : (text : List ℕ) (ds : List Declaration) → AreOnce text ds → AllPairs (λ a b. a ≡ b → ⊥) (names_in text ds)
once_apart text [] h = no_pairs (λ a b. a ≡ b → ⊥)
once_apart text (d ∷ ds) h =
    one_first (λ a b. a ≡ b → ⊥) (spelling text d.name) (names_in text ds)
    (λ name c. λ same. let f = named_in text ds name c in first_with (λ a b. IsOther text a.name b.name) d ds h f.0 f.1 (same ∙ sym f.2))
    (once_apart text ds (later_pairs (λ a b. IsOther text a.name b.name) d ds h))

identified : (text : List ℕ) (ds : List Declaration) → AreIdentifiers text ds → (name : List ℕ) → Contains (names_in text ds) name → IsIdentifier name
identified text [] h name c = none_in name c
identified text (d ∷ ds) h name c = elim (cases_in (spelling text d.name) (names_in text ds) name c) [
  | inl same ↦ subst IsIdentifier same h.0
  | inr later ↦ identified text ds h.1 name later
]

created_ready : (text : List ℕ) (classes : List ClassTree) (acts : List Act) (ds : List Declaration) → Tells text classes acts ds → AreOnce text ds → AreIdentifiers text ds → Ready text classes acts
created_ready text classes acts ds tells once named = record {
  names = subst Plain (sym tells.names) (record { apart = once_apart text ds once; identifiers = identified text ds named });
  stand = tells.stand;
}

-- each class of a configuration is right where it stands
right_there : (text : List ℕ) (front all before : List ClassTree) (c : ClassTree) (after : List ClassTree) → all ≡ before ++ c ∷ after → AreRightClasses text front all → IsRightClass text (front ++ before) c
right_there text front all [] c after e h =
    let right : AreRightClasses text front (c ∷ after) = subst (AreRightClasses text front) e h in
    subst (λ before. IsRightClass text before c) (sym (append-nil front)) right.0
right_there text front all (b ∷ before) c after e h =
    let right : AreRightClasses text front (b ∷ (before ++ c ∷ after)) = subst (AreRightClasses text front) e h in
    subst (λ before. IsRightClass text before c) (append_assoc front (b ∷ []) before) (right_there text (front ++ b ∷ []) (before ++ c ∷ after) before c after refl right.1)

pub stands_there : (before : List ClassTree) (c : ClassTree) (after : List ClassTree) → Contains (before ++ c ∷ after) c
stands_there [] c after = first_in c after
stands_there (b ∷ before) c after = later_in b (before ++ c ∷ after) c (stands_there before c after)

-- A configuration's elements have names apart.
pub names_apart : (text : List ℕ) (tree : List OuterTree) (s : State) → IsConfig tree → AreNamed text tree → Expands text tree s → AreNamesApart s.elements
names_apart text tree s right named h =
    let classes = classes_of tree in
    let bodies : AreReady classes text = λ before c stands.
    let is : IsRightClass text before c = right_there text [] classes before c stands.0 stands.1 h.classes in
    let body = spelled text tree right named c (subst (λ (cs : List ClassTree). Contains cs c) (sym stands.1) (stands_there before c stands.0)) in
    created_ready text classes (body_acts (body_sight text before c) c.body) (declared_body before c.body)
    (body_tells classes (body_sight text before c) (c ∷ stands.0, stands.1) before c.body) is.once (body_identified text before c.body body.right body.names) in
    let ready = created_ready text classes (outside_acts text (declared_outside [] tree) [] tree) (declared_outside [] tree)
    (outside_tells text classes (declared_outside [] tree) [] tree refl) h.once (outside_identified text [] tree right named) in
    let g = grown classes text top empty (outside_acts text (declared_outside [] tree) [] tree) s h.builds bodies ready (omega arith) in
    subst AreNamesApart (sym g.all) g.apart
