-- Steps one after the other, each of which may fail.
use Rattle.std.proofs.Common.{◌≡◌, List, [], ◌∷◌, ◌++◌, Option, Some, None, Bool, true, false, cond, refl, sym, ap, ◌∙◌}
use Rattle.std.specs.Prelude.{◌&&◌}
use Rattle.std.specs.Option.{option_and_then}
use Rattle.std.proofs.lemmas.List.{append_assoc}

-- what the steps of a list make of a state
abbrev pub over : {A S : Type 0} → (A → S → Option S) → List A → S → Option S
over f [] s = Some s
over f (x ∷ xs) s = option_and_then (over f xs) (f x s)

pub over_one : {A S : Type 0} (f : A → S → Option S) (x : A) (s : S) → over f (x ∷ []) s ≡ f x s
over_one {A} {S} f x s = by (f x s)
  where
    by : (o : Option S) → option_and_then (over f []) o ≡ o
    by None = refl
    by (Some m) = refl

pub over_append : {A S : Type 0} (f : A → S → Option S) (xs ys : List A) (s : S) → over f (xs ++ ys) s ≡ option_and_then (over f ys) (over f xs s)
over_append f [] ys s = refl
over_append {A} {S} f (x ∷ xs) ys s = by (f x s) (over_append f xs ys)
  where
    by : (o : Option S) → ((m : S) → over f (xs ++ ys) m ≡ option_and_then (over f ys) (over f xs m)) → option_and_then (over f (xs ++ ys)) o ≡ option_and_then (over f ys) (option_and_then (over f xs) o)
    by None later = refl
    by (Some m) later = later m

-- Steps that change nothing: they are passed where a test holds.
abbrev pub Guards : {A S : Type 0} → (A → S → Option S) → List A → Bool → Type 0
Guards f xs b = (s : _) → over f xs s ≡ cond b (Some s) None

pub guards_both : {A S : Type 0} (f : A → S → Option S) (xs ys : List A) (a b : Bool) → Guards f xs a → Guards f ys b → Guards f (xs ++ ys) (a && b)
guards_both {A} {S} f xs ys a b h k s = over_append f xs ys s ∙ ap (option_and_then (over f ys)) (h s) ∙ by a
  where
    by : (c : Bool) → option_and_then (over f ys) (cond c (Some s) None) ≡ cond (c && b) (Some s) None
    by true = k s
    by false = refl

pub guarded : {A S : Type 0} (f : A → S → Option S) (gs xs : List A) (b : Bool) → Guards f gs b → (s : S) → over f (gs ++ xs) s ≡ cond b (over f xs s) None
guarded {A} {S} f gs xs b h s = over_append f gs xs s ∙ ap (option_and_then (over f xs)) (h s) ∙ by b
  where
    by : (c : Bool) → option_and_then (over f xs) (cond c (Some s) None) ≡ cond c (over f xs s) None
    by true = refl
    by false = refl

pub guarded_behind : {A S : Type 0} (f : A → S → Option S) (xs gs : List A) (b : Bool) → Guards f gs b → (s : S) → over f (xs ++ gs) s ≡ cond b (over f xs s) None
guarded_behind {A} {S} f xs gs b h s = over_append f xs gs s ∙ by (over f xs s)
  where
    none : (c : Bool) → None ≡ cond c (let o : Option S = None in o) None
    none true = refl
    none false = refl

    by : (o : Option S) → option_and_then (over f gs) o ≡ cond b o None
    by None = none b
    by (Some m) = h m

-- Two lists of steps that make the same of each state.
abbrev pub Alike : {A B S : Type 0} → (A → S → Option S) → (B → S → Option S) → List A → List B → Type 0
Alike f g xs ys = (s : _) → over f xs s ≡ over g ys s

pub alike_append : {A B S : Type 0} (f : A → S → Option S) (g : B → S → Option S) (xs more : List A) (ys others : List B)
    → Alike f g xs ys → Alike f g more others → Alike f g (xs ++ more) (ys ++ others)
alike_append {A} {B} {S} f g xs more ys others h k s =
    over_append f xs more s ∙ ap (option_and_then (over f more)) (h s) ∙ by (over g ys s) ∙ sym (over_append g ys others s)
  where
    by : (o : Option S) → option_and_then (over f more) o ≡ option_and_then (over g others) o
    by None = refl
    by (Some m) = k m

pub alike_three : {A B S : Type 0} (f : A → S → Option S) (g : B → S → Option S) (xs ys more : List A) (zs others : List B)
    → Alike f g (xs ++ ys) zs → Alike f g more others → Alike f g (xs ++ (ys ++ more)) (zs ++ others)
alike_three f g xs ys more zs others h k s =
    ap (λ l. over f l s) (sym (append_assoc xs ys more)) ∙ alike_append f g (xs ++ ys) more zs others h k s

pub alike_behind : {A B S : Type 0} (f : A → S → Option S) (g : B → S → Option S) (gs xs : List A) (ys : List B)
    → Guards f gs true → Alike f g xs ys → Alike f g (gs ++ xs) ys
alike_behind f g gs xs ys h k s = guarded f gs xs true h s ∙ k s

-- Two lists of steps that make the same where a test holds; where it does not, the first makes nothing.
abbrev pub AlikeWhere : {A B S : Type 0} → Bool → (A → S → Option S) → (B → S → Option S) → List A → List B → Type 0
AlikeWhere b f g xs ys = (s : _) → over f xs s ≡ cond b (over g ys s) None

pub alike_where_append : {A B S : Type 0} (b c : Bool) (f : A → S → Option S) (g : B → S → Option S) (xs more : List A) (ys others : List B)
    → AlikeWhere b f g xs ys → AlikeWhere c f g more others → AlikeWhere (b && c) f g (xs ++ more) (ys ++ others)
alike_where_append {A} {B} {S} b c f g xs more ys others h k s =
    over_append f xs more s ∙ ap (option_and_then (over f more)) (h s) ∙ by b (over g ys s) ∙ ap (λ o. cond (b && c) o None) (sym (over_append g ys others s))
  where
    none : (d : Bool) → None ≡ cond d (let o : Option S = None in o) None
    none true = refl
    none false = refl

    by : (d : Bool) (o : Option S) → option_and_then (over f more) (cond d o None) ≡ cond (d && c) (option_and_then (over g others) o) None
    by false o = refl
    by true None = none c
    by true (Some m) = k m
