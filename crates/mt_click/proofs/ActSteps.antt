-- What an act makes of a state where it may, and what acts build in the same words.
use Rattle.std.proofs.Common.{ℕ, List, length, nat_lt, Option, Some, None, Bool, cond}
use Rattle.std.specs.Prelude.{◌==◌, not, is_some}
use Rattle.mt_syntax.specs.declared.phrase.Use.{Use}
use Rattle.mt_syntax.specs.declared.replacing.Binding.{Binding}
use Rattle.mt_syntax.specs.Arguments.{shown}
use Rattle.mt_syntax.specs.Replacing.{unknown_in}
use Rattle.mt_syntax.specs.Words.{inner}
use Rattle.mt_syntax.specs.Grammar.{ClassTree}
use Rattle.mt_click.specs.Declarations.{parameters_of, inputs_of, outputs_of}
use Rattle.mt_click.specs.Acts.{Act, element, expand, input, output, join}
use Rattle.mt_click.specs.Elements.{Context, State, arguments_in, own_offset, with_element, with_use, with_connection}
use Rattle.mt_click.specs.Expands.{context_inside}
use Rattle.mt_click.specs.Spread.{is_in}

-- what the use of a class makes, before which some classes stand
abbrev pub Within : Type 0
Within = ClassTree → List ClassTree → Context → State → Option State

-- each `$` name of an argument text is a parameter
abbrev pub is_known : List ℕ → List Binding → Use → Bool
is_known text bindings u = not (is_some (unknown_in bindings (shown (inner text u.arguments))))

abbrev pub has_all : List ℕ → List Binding → ClassTree → Use → Bool
has_all text bindings c u = length (arguments_in text bindings u) == length (parameters_of c)

unfoldable pub does : List ℕ → Within → Context → Act → State → Option State
does text within p (element name u) s = cond (nat_lt (length s.elements) 512) (cond (is_known text p.bindings u) (Some (with_element text p s name u)) None) None
does text within p (expand c before name u) s =
    cond (has_all text p.bindings c u) (cond (is_known text p.bindings u) (within c before (context_inside text p s c u) (with_use p s (own_offset name u))) None) None
does text within p (input c k) s = cond (is_in k (inputs_of text c)) (Some s) None
does text within p (output c k) s = cond (is_in k (outputs_of text c)) (Some s) None
does text within p (join arrow from to) s = Some (with_connection p s arrow from to)
