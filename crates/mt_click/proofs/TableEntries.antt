-- A table with one more entry.
use Rattle.std.proofs.Common.{◌≡◌, ℕ, ◌+◌, ◌<◌, ◌≤◌, List, [], ◌∷◌, ◌++◌, length, drop, get_or, cond, Bool, true, false, ◌&&◌, nat_eq, Option, Some, None, is_some, not, refl, sym, ap, ◌∙◌}
use Rattle.std.specs.Map.{lookup}
use Rattle.std.specs.Option.{option_map}
use Rattle.std.proofs.Math.ListN.{drop_of_length-le}
use denote.Ref.{Bor}
use Rattle.std.proofs.lemmas.Bool.{eqb-true}
use Rattle.std.proofs.lemmas.Slice.Eq.{bytes_eq-Decides}
use Rattle.std.proofs.lemmas.List.{at_drop_more}
use Rattle.mt_lists.proofs.Bools.{and_true}
use Rattle.mt_click.specs.declared.symbols.Entry.{Entry}
use Rattle.mt_syntax.specs.Words.{bytes_of}
use Rattle.mt_click.specs.Names.{is_entry, first_from, first_entry}
use Rattle.mt_click.specs.Tables.{is_key}
use Rattle.indexmap.specs.IndexMap.{insert_entry}
use Rattle.std.specs.Str.{bytes_eq}

abbrev pub or_else : Option ℕ → Option ℕ → Option ℕ
or_else (Some i) other = Some i
or_else None other = other

pub lookup_more : {K : Type 0} (test : K → Bool) (xs : List (K × ℕ)) (k : K) (v : ℕ) → lookup test (xs ++ (k, v) ∷ []) ≡ or_else (lookup test xs) (cond (test k) (Some v) None)
lookup_more test [] k v = refl
lookup_more test (x ∷ xs) k v = by (test x.0) (lookup_more test xs k v)
  where
    by : (b : Bool) → lookup test (xs ++ (k, v) ∷ []) ≡ or_else (lookup test xs) (cond (test k) (Some v) None) → cond b (Some x.1) (lookup test (xs ++ (k, v) ∷ [])) ≡ or_else (cond b (Some x.1) (lookup test xs)) (cond (test k) (Some v) None)
    by true e = refl
    by false e = e

pub same_key : (text : List ℕ) (scope number : ℕ) (name : List ℕ) (e : Entry) → is_entry text scope number name e ≡ true → (scope ≡ e.scope) × (number ≡ e.number) × (name ≡ bytes_of text e.word)
same_key text scope number name e t =
    let a = and_true (nat_eq scope e.scope && nat_eq number e.number) (bytes_eq name (bytes_of text e.word)) t in
    let b = and_true (nat_eq scope e.scope) (nat_eq number e.number) a.0 in
    (eqb-true scope e.scope b.0, eqb-true number e.number b.1, (bytes_eq-Decides name (bytes_of text e.word)).0 a.1)

or_same : (a : Option ℕ) (t : Bool) (at : ℕ) (rest : Option ℕ) → or_else (or_else a (cond t (Some at) None)) rest ≡ or_else a (cond t (Some at) rest)
or_same (Some i) t at rest = refl
or_same None true at rest = refl
or_same None false at rest = refl

first_step : (test : Entry → Bool) (at : ℕ) (e : Entry) (es : List Entry) → first_from test at (e ∷ es) ≡ cond (test e) (Some at) (first_from test (at + 1) es)
unfolding first_from
first_step test at e es = refl

pub first_endpoint : (test : Entry → Bool) (at : ℕ) → first_from test at [] ≡ None
unfolding first_from
first_endpoint test at = refl

-- what is known of the entries before a place, with those from it on
abbrev pub so_far : Option ℕ → (Entry → Bool) → ℕ → List Entry → Option ℕ
so_far found test at es = or_else found (first_from test at (drop at es))

-- a new entry
pub so_far_new : (found : Option ℕ) (test : Entry → Bool) (at : ℕ) (es : List Entry) (e : Entry) → at < length es
    → so_far (or_else found (cond (test (get_or es at e)) (Some at) None)) test (at + 1) es ≡ so_far found test at es
so_far_new found test at es e lt =
    or_same found (test (get_or es at e)) at (first_from test (at + 1) (drop (at + 1) es))
    ∙ ap (or_else found) (sym (at_drop_more (first_from test at) es at e lt ∙ first_step test at (get_or es at e) (drop (at + 1) es)))

-- an entry whose name is there
pub so_far_old : (found : Option ℕ) (test : Entry → Bool) (at : ℕ) (es : List Entry) (e : Entry) → at < length es
    → (test (get_or es at e) ≡ true → is_some found ≡ true)
    → so_far found test (at + 1) es ≡ so_far found test at es
so_far_old found test at es e lt there = by found (test (get_or es at e)) refl there ∙ ap (or_else found) (sym (at_drop_more (first_from test at) es at e lt ∙ first_step test at (get_or es at e) (drop (at + 1) es)))
  where
    by : (f : Option ℕ) (t : Bool) → test (get_or es at e) ≡ t → (t ≡ true → is_some f ≡ true)
        → so_far f test (at + 1) es ≡ or_else f (cond (test (get_or es at e)) (Some at) (first_from test (at + 1) (drop (at + 1) es)))
    by (Some i) t q h = refl
    by None true q h = absurd (let x : false ≡ true = h refl in cc)
    by None false q h = rw q refl

abbrev pub Key : Type 0
Key = ℕ × ℕ × Bor (List ℕ)

-- what a loop over the entries keeps: with those from a place on, the places of all names are told
abbrev pub AreTold : List ℕ → List (Key × ℕ) → ℕ → List Entry → Type 0
AreTold text m at es =
    (scope number : ℕ) (name : List ℕ) → so_far (lookup (is_key scope number name) m) (is_entry text scope number name) at es ≡ first_entry text es scope number name

pub told_old : (text : List ℕ) (m : List (Key × ℕ)) (at : ℕ) (es : List Entry) (e : Entry) → at < length es → e ≡ get_or es at e
    → is_some (lookup (is_key e.scope e.number (bytes_of text e.word)) m) ≡ true → AreTold text m at es → AreTold text m (at + 1) es
told_old text m at es e lt q there told scope number name =
    so_far_old (lookup (is_key scope number name) m) (is_entry text scope number name) at es e lt here ∙ told scope number name
  where
    here : is_entry text scope number name (get_or es at e) ≡ true → is_some (lookup (is_key scope number name) m) ≡ true
    here t =
        let same = same_key text scope number name e (ap (is_entry text scope number name) q ∙ t) in
        ap (λ x. is_some (lookup (is_key x number name) m)) same.0 ∙ ap (λ x. is_some (lookup (is_key e.scope x name) m)) same.1
        ∙ ap (λ x. is_some (lookup (is_key e.scope e.number x) m)) same.2 ∙ there

pub told_new : (text : List ℕ) (m more : List (Key × ℕ)) (at : ℕ) (es : List Entry) (e : Entry) (name : Bor (List ℕ)) → at < length es → e ≡ get_or es at e
    → name.now ≡ bytes_of text e.word → more ≡ m ++ ((e.scope, e.number, name), at) ∷ [] → AreTold text m at es → AreTold text more (at + 1) es
told_new text m more at es e k lt q named new told scope number name =
    let test : Key → Bool = is_key scope number name in
    let passes : Entry → Bool = is_entry text scope number name in
    let found = lookup test m in
    let key : Key = (e.scope, e.number, k) in
    let one : lookup test more ≡ or_else found (cond (test key) (Some at) None) = ap (lookup test) new ∙ lookup_more test m key at in
    let same : test key ≡ passes (get_or es at e) = ap (λ x. nat_eq scope e.scope && nat_eq number e.number && bytes_eq name x) named ∙ ap passes q in
    ap (λ x. so_far x passes (at + 1) es) (one ∙ ap (λ t. or_else found (cond t (Some at) None)) same) ∙ so_far_new found passes at es e lt ∙ told scope number name

or_none : (a : Option ℕ) → or_else a None ≡ a
or_none None = refl
or_none (Some i) = refl

pub told_all : (text : List ℕ) (m : List (Key × ℕ)) (at : ℕ) (es : List Entry) → length es ≤ at → AreTold text m at es
    → (scope number : ℕ) (name : List ℕ) → lookup (is_key scope number name) m ≡ first_entry text es scope number name
told_all text m at es le told scope number name =
    let test : Entry → Bool = is_entry text scope number name in
    let found = lookup (is_key scope number name) m in
    let none : first_from test at (drop at es) ≡ None = ap (first_from test at) (drop_of_length-le es le) ∙ first_endpoint test at in
    sym (ap (or_else found) none ∙ or_none found) ∙ told scope number name

pub absent : (r : Option (Bor ℕ)) (l : Option ℕ) (b : Bool) → option_map (λ x. x.now) r ≡ l → is_some r ≡ not b → b ≡ true → l ≡ None
absent None l b e f g = sym e
absent (Some x) l b e f g = absurd (let y : true ≡ false = f ∙ ap not g in cc)

pub present : (r : Option (Bor ℕ)) (l : Option ℕ) (b : Bool) → option_map (λ x. x.now) r ≡ l → is_some r ≡ not b → b ≡ false → is_some l ≡ true
present None l b e f g = absurd (let y : false ≡ true = f ∙ ap not g in cc)
present (Some x) l b e f g = ap is_some (sym e)

-- a key that is new goes last
pub inserted : {K : Type 0} (eq : K → K → Bool) (es : List (K × ℕ)) (k : K) (v : ℕ) → lookup (eq k) es ≡ None → insert_entry eq es k v ≡ es ++ (k, v) ∷ []
inserted eq [] k v none = refl
inserted eq (e ∷ es) k v none = by (eq k e.0) (inserted eq es k v) none
  where
    by : (b : Bool) → (lookup (eq k) es ≡ None → insert_entry eq es k v ≡ es ++ (k, v) ∷ []) → cond b (Some e.1) (lookup (eq k) es) ≡ None → cond b ((e.0, v) ∷ es) (e ∷ insert_entry eq es k v) ≡ e ∷ (es ++ (k, v) ∷ [])
    by true later h = absurd (let x : Some e.1 ≡ None = h in cc)
    by false later h = ap (λ xs. e ∷ xs) (later h)
