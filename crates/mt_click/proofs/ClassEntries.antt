-- The classes of a configuration as entries of a table, and the class of a name among them.
use Rattle.std.proofs.Common.{◌≡◌, ℕ, ◌+◌, ◌<◌, ◌≤◌, List, [], ◌∷◌, ◌++◌, length, map, slice_get, cond, nat_lt, Bool, true, false, Option, Some, None, refl, ap, ◌∙◌, subst, arith}
use Rattle.std.specs.Str.{bytes_eq}
use Rattle.std.proofs.lemmas.Bool.Decides.{nat_tests}
use Rattle.std.proofs.lemmas.List.{append_assoc, length-append}
use Rattle.mt_syntax.specs.declared.token.Token.{Token}
use Rattle.mt_syntax.specs.declared.phrase.Phrase.{Phrase}
use Rattle.mt_syntax.specs.declared.phrase.Phrase.TheVariants as phrases
use Rattle.mt_syntax.specs.Reading.{word}
use Rattle.mt_syntax.specs.Grammar.{UseTree, use_of, EndpointTree, StatementTree, connect, declare, InnerTree, sign, plain, ParameterTree, ClassTree, OuterTree, outer, class, next_endpoints, more_names, statement_phrases, body_phrases, more_parameters, parameter_phrases, class_phrases, config_phrases}
use Rattle.mt_click.specs.declared.symbols.Scope.{Scope}
use Rattle.mt_click.specs.declared.symbols.Entry.{Entry}
use Rattle.mt_click.specs.Names.{entry, is_entry, first_from, classes_in, below, class_of}
use Rattle.mt_click.specs.Declarations.{spelling, class_from, class_under, classes_of}
use Rattle.mt_click.specs.Spread.{number}
use Rattle.mt_click.proofs.FirstEntry.{bytes_sym}

abbrev pub entry_of_class : ClassTree → Entry
entry_of_class c = entry 0 0 (word c.name) None

next_none : (more : List (Token × EndpointTree)) (ps : List Phrase) → classes_in (next_endpoints more ++ ps) ≡ classes_in ps
unfolding classes_in
next_none [] ps = refl
next_none (next ∷ more) ps = next_none more ps

more_none : (more : List (Token × Token)) (u : UseTree) (ps : List Phrase) → classes_in (more_names more ++ phrases.Made (use_of u) ∷ [] ++ ps) ≡ classes_in ps
unfolding classes_in
more_none [] u ps = refl
more_none (next ∷ more) u ps = more_none more u ps

statement_none : (s : StatementTree) (ps : List Phrase) → classes_in (statement_phrases s ++ ps) ≡ classes_in ps
unfolding classes_in
statement_none (connect e more) ps = next_none more ps
statement_none (declare first next more colons last) ps = more_none more last ps

body_none : (us : List InnerTree) (ps : List Phrase) → classes_in (body_phrases us ++ ps) ≡ classes_in ps
body_none [] ps = refl
body_none (sign t ∷ us) ps = body_none us ps
body_none (plain s ∷ us) ps = ap classes_in (append_assoc (statement_phrases s) (body_phrases us) ps) ∙ statement_none s (body_phrases us ++ ps) ∙ body_none us ps

parameter_none : (more : List (Token × Token)) (ps : List Phrase) → classes_in (more_parameters more ++ ps) ≡ classes_in ps
unfolding classes_in
parameter_none [] ps = refl
parameter_none (next ∷ more) ps = parameter_none more ps

parameters_none : (o : Option ParameterTree) (ps : List Phrase) → classes_in (parameter_phrases o ++ ps) ≡ classes_in ps
unfolding classes_in
parameters_none None ps = refl
parameters_none (Some p) ps = parameter_none p.more ps

-- the phrases of a class, with those behind it
pub class_split : (c : ClassTree) (ps : List Phrase) → class_phrases c ++ ps ≡ phrases.Class (word c.name) ∷ (parameter_phrases c.parameters ++ (body_phrases c.body ++ phrases.Close ∷ ps))
class_split c ps =
    ap (λ xs. phrases.Class (word c.name) ∷ xs) (append_assoc (parameter_phrases c.parameters) (body_phrases c.body ++ phrases.Close ∷ []) ps
    ∙ ap (λ xs. parameter_phrases c.parameters ++ xs) (append_assoc (body_phrases c.body) (phrases.Close ∷ []) ps))

class_one : (c : ClassTree) (ps : List Phrase) → classes_in (class_phrases c ++ ps) ≡ entry_of_class c ∷ classes_in ps
unfolding classes_in
class_one c ps = ap classes_in (class_split c ps) ∙ ap (λ xs. entry_of_class c ∷ xs) (parameters_none c.parameters (body_phrases c.body ++ phrases.Close ∷ ps) ∙ body_none c.body (phrases.Close ∷ ps))

pub classes_agree : (tree : List OuterTree) → classes_in (config_phrases tree) ≡ map entry_of_class (classes_of tree)
unfolding classes_of classes_in
classes_agree [] = refl
classes_agree (outer (sign t) ∷ us) = classes_agree us
classes_agree (outer (plain s) ∷ us) = statement_none s (config_phrases us) ∙ classes_agree us
classes_agree (class c ∷ us) = class_one c (config_phrases us) ∙ ap (λ xs. entry_of_class c ∷ xs) (classes_agree us)

-- entries from a place on stand at no place below it
none_below : (test : Entry → Bool) (n at : ℕ) (es : List Entry) → n ≤ at → below n (first_from test at es) ≡ None
unfolding first_from
none_below test n at [] le = refl
none_below test n at (e ∷ es) le = by (test e) (none_below test n (at + 1) es (omega (arith, le)))
  where
    by : (b : Bool) → below n (first_from test (at + 1) es) ≡ None → below n (cond b (Some at) (first_from test (at + 1) es)) ≡ None
    by true h = let less : nat_lt at n ≡ false = grind (arith, nat_tests) in rw less refl
    by false h = h

below_less : (k n : ℕ) → k < n → below n (Some k) ≡ Some k
below_less k n lt = let less : nat_lt k n ≡ true = grind (arith, nat_tests) in rw less refl

class_step : (text : List ℕ) (before cs rest : List ClassTree) (n : ℕ) (name : List ℕ) → n ≡ length before + length cs
    → below n (first_from (is_entry text 0 0 name) (length before) (map entry_of_class (cs ++ rest))) ≡ number (class_from text before cs name)
unfolding class_from first_from
class_step text before [] rest n name e = none_below (is_entry text 0 0 name) n (length before) (map entry_of_class rest) (omega (arith, e))
class_step text before (c ∷ cs) rest n name e =
    ap (λ b. below n (cond b (Some (length before)) later)) (bytes_sym name (spelling text c.name))
    ∙ by (bytes_eq (spelling text c.name) name)
    (subst (λ k. below n (first_from (is_entry text 0 0 name) k (map entry_of_class (cs ++ rest))) ≡ number (class_from text (before ++ c ∷ []) cs name)) longer
    (class_step text (before ++ c ∷ []) cs rest n name (let l = longer in omega (arith, e, l))))
  where
    later : Option ℕ
    later = first_from (is_entry text 0 0 name) (length before + 1) (map entry_of_class (cs ++ rest))

    longer : length (before ++ c ∷ []) ≡ length before + 1
    longer = length-append before (c ∷ [])

    by : (b : Bool) → below n later ≡ number (class_from text (before ++ c ∷ []) cs name)
        → below n (cond b (Some (length before)) later) ≡ number (cond b (Some (c, before)) (class_from text (before ++ c ∷ []) cs name))
    by true h = below_less (length before) n (omega (arith, e))
    by false h = h

-- The class of a name among those that stand before a place.
pub class_agrees : (text : List ℕ) (classes rest : List ClassTree) (s : Scope) (name : List ℕ) → s.class_count ≡ length classes
    → class_of text (map entry_of_class (classes ++ rest)) s name ≡ number (class_under text classes name)
unfolding class_of
class_agrees text classes rest s name e = class_step text [] classes rest s.class_count name (omega (arith, e))

pub class_stands_at : (classes : List ClassTree) (c : ClassTree) (rest : List ClassTree) → slice_get (map entry_of_class (classes ++ c ∷ rest)) (length classes) ≡ Some (entry_of_class c)
class_stands_at [] c rest = refl
class_stands_at (x ∷ classes) c rest = class_stands_at classes c rest
