-- The actions of the phrases of a configuration are those that its trees tell.
use Rattle.std.proofs.Common.{◌≡◌, ℕ, ◌+◌, List, [], ◌∷◌, ◌++◌, length, map, cond, Option, Some, None, is_some, refl, sym, ap, ◌∙◌, subst}
use Rattle.std.specs.Option.{option_map}
use Rattle.std.proofs.lemmas.List.{append_assoc, append-nil}
use Rattle.mt_syntax.specs.declared.token.Token.{Token}
use Rattle.mt_syntax.specs.declared.fault.ClickWhy.TheVariants as whys
use Rattle.mt_syntax.specs.declared.phrase.Phrase.{Phrase}
use Rattle.mt_syntax.specs.declared.phrase.Phrase.TheVariants as phrases
use Rattle.mt_syntax.specs.Reading.{word}
use Rattle.mt_syntax.specs.Grammar.{sign, plain, ParameterTree, ClassTree, print_statement, print_class, OuterTree, outer, class, print_config, body_phrases, more_parameters, parameter_phrases, config_phrases}
use Rattle.mt_click.specs.declared.symbols.Scope.{Scope}
use Rattle.mt_click.specs.declared.symbols.Entry.{Entry}
use Rattle.mt_click.specs.declared.action.Action.{Action}
use Rattle.mt_click.specs.declared.action.Action.TheVariants as actions
use Rattle.mt_click.specs.Names.{Names, is_entry, classes_in, names_from, ports_from}
use Rattle.mt_click.specs.Actions.{wrong, class_named, class_actions, phrase_actions, side_behind, actions_from, actions_in}
use Rattle.mt_click.specs.Declarations.{spelling, class_under, Declaration, declared_statement, declared_body, declared_outside, declared_under, classes_of, following, parameters_in, parameters_of}
use Rattle.mt_click.specs.Acts.{body_sight}
use Rattle.mt_syntax.specs.Ascends.{Ascends}
use Rattle.mt_click.specs.Spread.{Found, number, parameter_actions, class_naming, actions_of_body, actions_of_statement, actions_within, actions_of_outside, actions_of_tree}
use Rattle.mt_click.proofs.FirstEntry.{found_in}
use Rattle.mt_click.proofs.ClassEntries.{entry_of_class, class_split, classes_agree}
use Rattle.mt_click.proofs.NameEntries.{entry_of, out_at, in_at, Knows, knows_all, one_longer, moved_on, entries_of, names_agree, outside_found, Passed, passed_statement, passed_class}
use Rattle.mt_click.proofs.PortEntries.{ArePorted, ports_agree, connected_config}
use Rattle.mt_click.proofs.NamesAscend.{Above, above_all, above_rest, among_front, class_among, outside_among, Rises, rises}
use Rattle.mt_click.proofs.ScopesAgree.{Sees, AllOf, all_outside, sees_outside, sees_body}
use Rattle.mt_click.proofs.StatementsAgree.{statement_agrees, body_agrees}

following_agrees : (names : Names) (s : Scope) (more : List (Token × Token)) (ps : List Phrase) → actions_from names s [] None (more_parameters more ++ ps) ≡ parameter_actions (following more) ++ actions_from names s [] None ps
unfolding actions_from phrase_actions side_behind parameter_actions
following_agrees names s [] ps = refl
following_agrees names s (next ∷ more) ps = ap (λ xs. actions.Parameter (word next.1) ∷ xs) (following_agrees names s more ps)

parameters_agree : (names : Names) (s : Scope) (o : Option ParameterTree) (ps : List Phrase) → actions_from names s [] None (parameter_phrases o ++ ps) ≡ parameter_actions (parameters_in o) ++ actions_from names s [] None ps
unfolding actions_from phrase_actions side_behind parameter_actions
parameters_agree names s None ps = refl
parameters_agree names s (Some p) ps = ap (λ xs. actions.Parameter (word p.first) ∷ xs) (following_agrees names s p.more ps)

class_told : (at : ℕ) (o : Found) → cond (is_some (number o)) (actions.Name (wrong whys.Redeclared at) ∷ actions.Class ∷ []) (actions.Class ∷ []) ≡ cond (is_some o) (actions.Name (wrong whys.Redeclared at) ∷ []) [] ++ actions.Class ∷ []
class_told at None = refl
class_told at (Some x) = refl

class_agrees : (text : List ℕ) (cl ns po : List Entry) (classes : List ClassTree) (c : ClassTree) → Knows text cl (out_at (length classes)) classes
    → class_actions (record { text = text; classes = cl; names = ns; ports = po }) (out_at (length classes)) (word c.name) ≡ class_naming text classes c ++ actions.Class ∷ []
unfolding class_actions class_named class_naming
class_agrees text cl ns po classes c knows =
    ap (λ k. cond (is_some k) (actions.Name (wrong whys.Redeclared c.name.from) ∷ actions.Class ∷ []) (actions.Class ∷ [])) (knows (spelling text c.name)) ∙ class_told c.name.from (class_under text classes (spelling text c.name))

-- the phrases of a class
within_agrees : (names : Names) (text : List ℕ) (k : ℕ) (classes : List ClassTree) (c : ClassTree) (ps : List Phrase) → Sees names (in_at k) (body_sight text classes c)
    → actions_from names (in_at k) [] None (parameter_phrases c.parameters ++ (body_phrases c.body ++ phrases.Close ∷ ps)) ≡ actions_within text classes c ++ actions_from names (out_at (k + 1)) [] None ps
unfolding actions_within actions_from phrase_actions side_behind
within_agrees names text k classes c ps h =
    parameters_agree names (in_at k) c.parameters (body_phrases c.body ++ phrases.Close ∷ ps)
    ∙ ap (λ xs. parameter_actions (parameters_of c) ++ xs) (body_agrees names (in_at k) (body_sight text classes c) h [] [] c.body (phrases.Close ∷ ps) refl (sym (append-nil (declared_body classes c.body))))
    ∙ ap (λ xs. parameter_actions (parameters_of c) ++ xs) (sym (append_assoc body (actions.Close ∷ []) after))
    ∙ sym (append_assoc (parameter_actions (parameters_of c)) (body ++ actions.Close ∷ []) after)
  where
    body : List Action
    body = actions_of_body (body_sight text classes c) [] c.body

    after : List Action
    after = actions_from names (out_at (k + 1)) [] None ps

outside_agrees : (text : List ℕ) (cl ns po : List Entry) (declared : List Declaration) (classes : List ClassTree) (earlier : List Declaration) (us : List OuterTree)
    → cl ≡ map entry_of_class (classes ++ classes_of us)
    → declared ≡ earlier ++ declared_outside classes us
    → ((name : List ℕ) → found_in (is_entry text 0 0 name) ns ≡ option_map (entry_of text 0) (declared_under text declared name))
    → Passed text ns classes us
    → Rises 0 declared
    → Above 0 (print_config us)
    → ArePorted text po [] (classes ++ classes_of us)
    → AllOf (ArePorted text po []) declared
    → actions_from (record { text = text; classes = cl; names = ns; ports = po }) (out_at (length classes)) [] None (config_phrases us) ≡ actions_of_outside text declared classes earlier us
unfolding actions_of_outside classes_of declared_outside actions_from phrase_actions side_behind
outside_agrees text cl ns po declared classes earlier [] e q found passed up above ported all = refl
outside_agrees text cl ns po declared classes earlier (outer (sign t) ∷ us) e q found passed up above ported all =
    outside_agrees text cl ns po declared classes earlier us e q found passed up (above_rest 0 (t ∷ []) (print_config us) above) ported all
outside_agrees text cl ns po declared classes earlier (outer (plain st) ∷ us) e q found passed up above ported all =
    statement_agrees (record { text = text; classes = cl; names = ns; ports = po }) (out_at (length classes)) (record { text = text; declared = declared; classes = classes; own = None })
    (sees_outside text cl ns po declared classes (classes_of us) e found up ported all) earlier (declared_outside classes us) st (config_phrases us) (connected_config us) q
    ∙ ap (λ xs. actions_of_statement (record { text = text; declared = declared; classes = classes; own = None }) earlier st ++ xs)
    (outside_agrees text cl ns po declared classes (earlier ++ declared_statement classes st) us e (q ∙ sym (append_assoc earlier (declared_statement classes st) (declared_outside classes us))) found (passed_statement text ns classes st us passed) up
    (above_rest 0 (print_statement st) (print_config us) above) ported all)
outside_agrees text cl ns po declared classes earlier (class c ∷ us) e q found passed up above ported all =
    ap (actions_from names (out_at (length classes)) [] None) (class_split c (config_phrases us))
    ∙ ap (λ xs. xs ++ actions_from names (in_at (length classes)) [] None (parameter_phrases c.parameters ++ (body_phrases c.body ++ phrases.Close ∷ config_phrases us)))
    (class_agrees text cl ns po classes c (knows_all text cl classes (c ∷ classes_of us) (out_at (length classes)) e refl))
    ∙ append_assoc (class_naming text classes c) (actions.Class ∷ []) (actions_from names (in_at (length classes)) [] None (parameter_phrases c.parameters ++ (body_phrases c.body ++ phrases.Close ∷ config_phrases us)))
    ∙ ap (λ xs. class_naming text classes c ++ actions.Class ∷ xs)
    (within_agrees names text (length classes) classes c (config_phrases us)
    (sees_body text cl ns po classes c us e passed
    (rises 0 (declared_body classes c.body) (print_class c ++ print_config us) (among_front (declared_body classes c.body) (print_class c) (print_config us) (class_among classes c)) above) ported)
    ∙ ap (λ xs. actions_within text classes c ++ xs)
    (ap (λ k. actions_from names (out_at k) [] None (config_phrases us)) (sym (one_longer classes c))
    ∙ outside_agrees text cl ns po declared (classes ++ c ∷ []) earlier us (moved_on cl classes c (classes_of us) e) q found (passed_class text ns classes c us passed) up
    (above_rest 0 (print_class c) (print_config us) above) (subst (ArePorted text po []) (sym (append_assoc classes (c ∷ []) (classes_of us))) ported) all))
  where
    names : Names
    names = record { text = text; classes = cl; names = ns; ports = po }

-- The actions of a configuration whose tokens ascend.
pub actions_agree : (text : List ℕ) (tree : List OuterTree) → Ascends (print_config tree) → actions_in text (config_phrases tree) ≡ actions_of_tree text tree
actions_agree text tree h =
    outside_agrees text (classes_in (config_phrases tree)) ns (ports_from text (out_at 0) (config_phrases tree)) (declared_outside [] tree) [] [] tree
    (classes_agree tree)
    refl
    (λ name. ap (found_in (is_entry text 0 0 name)) all ∙ outside_found text [] tree name)
    (λ n name less. ap (found_in (is_entry text n 0 name)) all)
    (rises 0 (declared_outside [] tree) (print_config tree) (outside_among [] tree) (above_all (print_config tree) h))
    (above_all (print_config tree) h)
    (ports_agree text tree)
    (all_outside text (ports_from text (out_at 0) (config_phrases tree)) [] tree (ports_agree text tree))
  where
    ns : List Entry
    ns = names_from text (classes_in (config_phrases tree)) (out_at 0) [] (config_phrases tree)

    all : ns ≡ entries_of text [] tree
    all = names_agree text (classes_in (config_phrases tree)) [] tree (classes_agree tree)
