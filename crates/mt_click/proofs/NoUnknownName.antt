-- The place of a byte that no comment hides.
use Rattle.std.proofs.Common.{◌≡◌, ℕ, List, [], ◌∷◌, length, Option, Some, None, refl, arith, ap, ◌∙◌}
use Rattle.std.proofs.Common.{Result, Ok, Err, Bool, true}
use Rattle.mt_syntax.specs.declared.fault.ClickWhy.TheVariants as whys
use Rattle.mt_syntax.specs.declared.fault.Fault.{Fault}
use Rattle.mt_syntax.specs.declared.word.Word.{Word}
use Rattle.mt_syntax.specs.declared.phrase.Use.{Use}
use Rattle.mt_syntax.specs.declared.replacing.Binding.{Binding}
use Rattle.mt_syntax.specs.Comment.{hidden}
use Rattle.mt_syntax.specs.Arguments.{shown}
use Rattle.mt_syntax.specs.Replacing.{unknown_in}
use Rattle.mt_syntax.specs.Words.{inner}
use Rattle.mt_click.specs.Actions.{wrong}
use Rattle.mt_click.specs.Walk.{unknown_offset, known_names}

nothing : (xs : List ℕ) → length xs ≡ 0 → xs ≡ []
nothing [] h = refl
nothing (x ∷ xs) h = absurd (omega arith)

none_shown : (bindings : List Binding) (word : Option Word) → elim (unknown_in bindings (shown [])) as (λ (o : Option ℕ). Result Bool Fault) [ None ↦ Ok true | Some n ↦ Err (wrong whys.UnknownName (unknown_offset word [] n)) ] ≡ Ok true
unfolding unknown_in hidden
none_shown bindings word = refl

-- no argument text has no unknown name
pub none_unknown : (text : List ℕ) (bindings : List Binding) (u : Use) → length (inner text u.arguments) ≡ 0 → known_names text bindings u ≡ Ok true
unfolding known_names
none_unknown text bindings u h =
    ap (λ (x : List ℕ). elim (unknown_in bindings (shown x)) as (λ (o : Option ℕ). Result Bool Fault) [ None ↦ Ok true | Some n ↦ Err (wrong whys.UnknownName (unknown_offset u.arguments x n)) ]) (nothing (inner text u.arguments) h)
    ∙ none_shown bindings u.arguments
