-- The first entry that passes a test, and what stands at its place.
use Rattle.std.proofs.Common.{◌≡◌, ℕ, ◌+◌, List, [], ◌∷◌, ◌++◌, length, slice_get, cond, nat_lt, Bool, true, false, ◌||◌, Option, Some, None, is_some, refl, sym, ap, ◌∙◌, subst}
use Rattle.std.specs.Str.{bytes_eq}
use Rattle.std.proofs.lemmas.List.{append_assoc, length-append}
use Rattle.std.proofs.lemmas.Slice.Eq.{bytes_eq-Decides}
use Rattle.mt_click.specs.declared.symbols.Entry.{Entry}
use Rattle.mt_click.specs.Names.{first_from}
use Rattle.mt_click.specs.Actions.{is_before, class_at, offset_at}

-- texts are equal either path round
pub bytes_sym : (xs ys : List ℕ) → bytes_eq xs ys ≡ bytes_eq ys xs
bytes_sym xs ys = by (bytes_eq xs ys) refl (bytes_eq ys xs) refl
  where
    by : (b : Bool) → bytes_eq xs ys ≡ b → (c : Bool) → bytes_eq ys xs ≡ c → b ≡ c
    by true p true q = refl
    by false p false q = refl
    by true p false q = let e : true ≡ false = sym ((bytes_eq-Decides ys xs).1 (sym ((bytes_eq-Decides xs ys).0 p))) ∙ q in absurd cc
    by false p true q = let e : true ≡ false = sym ((bytes_eq-Decides xs ys).1 (sym ((bytes_eq-Decides ys xs).0 q))) ∙ p in absurd cc

pub bytes_self : (xs : List ℕ) → bytes_eq xs xs ≡ true
bytes_self xs = (bytes_eq-Decides xs xs).1 refl

abbrev pub found_in : (Entry → Bool) → List Entry → Option Entry
found_in test [] = None
found_in test (e ∷ es) = cond (test e) (Some e) (found_in test es)

abbrev pub or_first : Option Entry → Option Entry → Option Entry
or_first (Some e) other = Some e
or_first None other = other

pub found_append : (test : Entry → Bool) (xs ys : List Entry) → found_in test (xs ++ ys) ≡ or_first (found_in test xs) (found_in test ys)
found_append test [] ys = refl
found_append test (x ∷ xs) ys = by (test x) (found_append test xs ys)
  where
    by : (b : Bool) → found_in test (xs ++ ys) ≡ or_first (found_in test xs) (found_in test ys) → cond b (Some x) (found_in test (xs ++ ys)) ≡ or_first (cond b (Some x) (found_in test xs)) (found_in test ys)
    by true h = refl
    by false h = h

pub or_none : (o : Option Entry) → or_first o None ≡ o
or_none None = refl
or_none (Some e) = refl

pub found_left : (test : Entry → Bool) (xs ys : List Entry) → found_in test ys ≡ None → found_in test (xs ++ ys) ≡ found_in test xs
found_left test xs ys h = found_append test xs ys ∙ ap (or_first (found_in test xs)) h ∙ or_none (found_in test xs)

pub found_right : (test : Entry → Bool) (xs ys : List Entry) → found_in test xs ≡ None → found_in test (xs ++ ys) ≡ found_in test ys
found_right test xs ys h = found_append test xs ys ∙ ap (λ o. or_first o (found_in test ys)) h

-- an entry that stands at a place, or none
abbrev pub Stands : List Entry → Option ℕ → Option Entry → Type 0
Stands es None None = Unit {0}
Stands es (Some k) (Some e) = slice_get es k ≡ Some e
Stands es None (Some e) = ⊥
Stands es (Some k) None = ⊥

there : (pre : List Entry) (e : Entry) (es : List Entry) → slice_get (pre ++ e ∷ es) (length pre) ≡ Some e
there [] e es = refl
there (x ∷ pre) e es = there pre e es

stands_in : (test : Entry → Bool) (pre es : List Entry) → Stands (pre ++ es) (first_from test (length pre) es) (found_in test es)
unfolding first_from
stands_in test pre [] = tt
stands_in test pre (e ∷ es) =
    by (test e) (subst (λ xs. Stands xs (first_from test (length pre + 1) es) (found_in test es)) (append_assoc pre (e ∷ []) es)
    (subst (λ n. Stands (pre ++ e ∷ [] ++ es) (first_from test n es) (found_in test es)) (length-append pre (e ∷ [])) (stands_in test (pre ++ e ∷ []) es)))
  where
    by : (b : Bool) → Stands (pre ++ e ∷ es) (first_from test (length pre + 1) es) (found_in test es)
        → Stands (pre ++ e ∷ es) (cond b (Some (length pre)) (first_from test (length pre + 1) es)) (cond b (Some e) (found_in test es))
    by true h = there pre e es
    by false h = h

pub stands_first : (test : Entry → Bool) (es : List Entry) → Stands es (first_from test 0 es) (found_in test es)
stands_first test es = stands_in test [] es

-- what is read off an entry by its place is read off the entry
abbrev pub before_entry : ℕ → Option Entry → Bool
before_entry at None = false
before_entry at (Some e) = nat_lt e.word.from at

pub before_stands : (es : List Entry) (at : ℕ) (o : Option ℕ) (x : Option Entry) → Stands es o x → is_before es at o ≡ before_entry at x
before_stands es at None None h = refl
before_stands es at None (Some e) h = absurd h
before_stands es at (Some k) None h = absurd h
before_stands es at (Some k) (Some e) h = rw (h, is_before) refl

abbrev pub class_entry : Option Entry → Option ℕ
class_entry None = None
class_entry (Some e) = e.class

pub class_stands : (es : List Entry) (o : Option ℕ) (x : Option Entry) → Stands es o x → class_at es o ≡ class_entry x
class_stands es None None h = refl
class_stands es None (Some e) h = absurd h
class_stands es (Some k) None h = absurd h
class_stands es (Some k) (Some e) h = rw h refl

abbrev pub place_entry : ℕ → Option Entry → ℕ
place_entry at None = at
place_entry at (Some e) = e.word.from

pub place_stands : (es : List Entry) (at : ℕ) (o : Option ℕ) (x : Option Entry) → Stands es o x → offset_at es at o ≡ place_entry at x
place_stands es at None None h = refl
place_stands es at None (Some e) h = absurd h
place_stands es at (Some k) None h = absurd h
place_stands es at (Some k) (Some e) h = rw (h, offset_at) refl

pub some_stands : (es : List Entry) (o : Option ℕ) (x : Option Entry) → Stands es o x → is_some o ≡ is_some x
some_stands es None None h = refl
some_stands es None (Some e) h = absurd h
some_stands es (Some k) None h = absurd h
some_stands es (Some k) (Some e) h = refl

-- whether an entry passes
abbrev pub has : (Entry → Bool) → List Entry → Bool
has test [] = false
has test (e ∷ es) = test e || has test es

pub has_first : (test : Entry → Bool) (at : ℕ) (es : List Entry) → is_some (first_from test at es) ≡ has test es
unfolding first_from
has_first test at [] = refl
has_first test at (e ∷ es) = by (test e) (has_first test (at + 1) es)
  where
    by : (b : Bool) → is_some (first_from test (at + 1) es) ≡ has test es → is_some (cond b (Some at) (first_from test (at + 1) es)) ≡ (b || has test es)
    by true h = refl
    by false h = h

pub or_assoc : (a b c : Bool) → (a || (b || c)) ≡ ((a || b) || c)
or_assoc true b c = refl
or_assoc false b c = refl

pub has_append : (test : Entry → Bool) (xs ys : List Entry) → has test (xs ++ ys) ≡ (has test xs || has test ys)
has_append test [] ys = refl
has_append test (x ∷ xs) ys = ap (λ b. test x || b) (has_append test xs ys) ∙ or_assoc (test x) (has test xs) (has test ys)
