-- Identifiers and decimal numbers have no `/`, and the text before a first `/` is one.
use Rattle.std.proofs.Common.{◌≡◌, ℕ, ◌^◌, ◌<◌, List, [], ◌∷◌, ◌++◌, decimal, IsTrue, false, true, refl, sym, ap, ap₂, ◌∙◌, subst, arith, append_assoc}
use Rattle.std.specs.List.{AllByRecursion}
use Rattle.std.specs.Str.Parse.{AllDigits}
use Rattle.std.proofs.lemmas.List.{append-nil}
use Rattle.std.proofs.lemmas.Fmt.{decimal_is_IsNumeral}
use Rattle.std.proofs.lemmas.Str.Parse.{digit_from_value}
use Rattle.mt_text.specs.Byte.{is_letter, is_name_byte}
use Rattle.mt_click.specs.Elements.{scope_text}
use Rattle.mt_click.specs.Sound.{IsOwn}
use Rattle.mt_syntax.specs.Spelled.{IsIdentifier}

abbrev pub HasNoSlash : List ℕ → Type 0
HasNoSlash bs = AllByRecursion (λ b. b ≡ 47 → ⊥) bs

first_same : (a b : ℕ) (x y : List ℕ) → a ∷ x ≡ b ∷ y → a ≡ b
first_same a b x y e = let q : a ∷ x ≡ b ∷ y = e in cc

rest_same : (a b : ℕ) (x y : List ℕ) → a ∷ x ≡ b ∷ y → x ≡ y
rest_same a b x y e = let q : a ∷ x ≡ b ∷ y = e in cc

pub before_slash : (a b x y : List ℕ) → HasNoSlash a → HasNoSlash b → a ++ 47 ∷ x ≡ b ++ 47 ∷ y → a ≡ b
before_slash [] [] x y m n e = refl
before_slash [] (d ∷ b) x y m n e = absurd (n.0 (sym (first_same 47 d x (b ++ 47 ∷ y) e)))
before_slash (c ∷ a) [] x y m n e = absurd (m.0 (first_same c 47 (a ++ 47 ∷ x) y e))
before_slash (c ∷ a) (d ∷ b) x y m n e =
    ap₂ (λ (k : ℕ) (ks : List ℕ). k ∷ ks) (first_same c d (a ++ 47 ∷ x) (b ++ 47 ∷ y) e) (before_slash a b x y m.1 n.1 (rest_same c d (a ++ 47 ∷ x) (b ++ 47 ∷ y) e))

pub slash_in : (a x : List ℕ) → HasNoSlash (a ++ 47 ∷ x) → ⊥
slash_in [] x h = h.0 refl
slash_in (b ∷ bs) x h = slash_in bs x h.1

false_true : false ≡ true → ⊥
false_true e = let q : false ≡ true = e in cc

letter_plain : (b : ℕ) → IsTrue (is_letter b) → b ≡ 47 → ⊥
letter_plain b h e = false_true (subst (λ n. IsTrue (is_letter n)) e h)

byte_plain : (b : ℕ) → IsTrue (is_name_byte b) → b ≡ 47 → ⊥
byte_plain b h e = false_true (subst (λ n. IsTrue (is_name_byte n)) e h)

bytes_plain : (bs : List ℕ) → AllByRecursion (λ c. IsTrue (is_name_byte c)) bs → HasNoSlash bs
bytes_plain [] h = tt
bytes_plain (b ∷ bs) h = (byte_plain b h.0, bytes_plain bs h.1)

pub identifier_plain : (bs : List ℕ) → IsIdentifier bs → HasNoSlash bs
identifier_plain [] h = tt
identifier_plain (b ∷ bs) h = (letter_plain b h.0, bytes_plain bs h.1)

pub identifier_some : (bs : List ℕ) → IsIdentifier bs → bs ≡ [] → ⊥
identifier_some bs h e = subst IsIdentifier e h

digits_plain : (ds : List ℕ) → AllDigits 10 ds → HasNoSlash ds
digits_plain [] h = tt
digits_plain (d ∷ ds) h = ((λ e. let r = digit_from_value d h.0 in let low = r.0 in omega (arith, e, low)), digits_plain ds h.1)

pub decimal_plain : (n : ℕ) → n < 2 ^ 64 → HasNoSlash (decimal n)
decimal_plain n less = digits_plain (decimal n) (decimal_is_IsNumeral n less).0.1

-- one use more enclosing
pub scope_more : (numbers : List ℕ) (n : ℕ) (rest : List ℕ) → scope_text (numbers ++ n ∷ []) ++ rest ≡ scope_text numbers ++ (decimal n ++ 47 ∷ rest)
scope_more [] n rest = ap (λ (x : List ℕ). x ++ rest) (append-nil (decimal n ++ 47 ∷ [])) ∙ append_assoc (decimal n) (47 ∷ []) rest
scope_more (m ∷ ms) n rest =
    append_assoc (decimal m ++ 47 ∷ []) (scope_text (ms ++ n ∷ [])) rest
    ∙ ap (λ (x : List ℕ). (decimal m ++ 47 ∷ []) ++ x) (scope_more ms n rest)
    ∙ sym (append_assoc (decimal m ++ 47 ∷ []) (scope_text ms) (decimal n ++ 47 ∷ rest))

scope_ends : (m : ℕ) (ms : List ℕ) → (front : List ℕ) × (scope_text (m ∷ ms) ≡ front ++ 47 ∷ [])
scope_ends m [] = (decimal m, append-nil (decimal m ++ 47 ∷ []))
scope_ends m (n ∷ ns) =
    let e = scope_ends n ns in
    ((decimal m ++ 47 ∷ []) ++ e.0, ap (λ (x : List ℕ). (decimal m ++ 47 ∷ []) ++ x) e.1 ∙ sym (append_assoc (decimal m ++ 47 ∷ []) e.0 (47 ∷ [])))

-- what has no name of its own has the scope alone
pub scope_alone : (numbers name : List ℕ) → name ≡ scope_text numbers ++ [] → IsOwn name → ⊥
scope_alone [] name e own = own.some e
scope_alone (m ∷ ms) name e own = let f = scope_ends m ms in own.ending f.0 (e ∙ append-nil (scope_text (m ∷ ms)) ∙ f.1)
