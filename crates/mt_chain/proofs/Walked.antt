-- A packet's way, one element after the other.
use Rattle.std.proofs.Common.{◌≡◌, ℕ, ◌+◌, ◌-◌, ◌<◌, ◌≤◌, List, Ok, Err, sym, ◌∙◌, ap, arith}
use Rattle.std.specs.Prelude.{Option, Some, None, slice_get, option_and_then, drop}
use Rattle.mt_lists.proofs.Counts.{one_left}
use Rattle.mt_kinds.specs.declared.kind.Kind.{Kind}
use Rattle.mt_kinds.specs.declared.rewriter.Pool.{Pool}
use Rattle.mt_kinds.specs.declared.rewriter.Template.{Template}
use Rattle.mt_elements.specs.ChainState.{ChainState}
use Rattle.mt_chain.specs.declared.step.Exit.{Exit}
use Rattle.mt_chain.specs.declared.step.Ending.{Ending}
use Rattle.mt_chain.specs.declared.walk.Next.{Next}
use Rattle.mt_chain.specs.declared.walk.Next.TheVariants.{Goes, Ends}
use Rattle.mt_chain.specs.declared.walk.Stop.{Stop}
use Rattle.mt_chain.specs.declared.walk.Stop.TheVariants.{NoWay, BadPick, NoMemory}
use Rattle.mt_chain.specs.Run.{State, Run, Answer, element_step, next_after, follow, goes_on, at_element, run_from, fate_of}
use Rattle.mt_chain.specs.Walking.{IsStop, IsGiven}

module _ (chain : ChainState) (picks : List ℕ) (all : Answer Run) (n i : ℕ) (port : ℕ × ℕ) (state : State) (so_far : all ≡ run_from (n - i) chain picks port state) where
  abbrev rest : ℕ × ℕ → State → Answer Run
  rest = run_from (n - (i + 1)) chain picks

  at_kind : i < n → (found : Option Kind) → slice_get chain.kinds port.0 ≡ found → all ≡ option_and_then (at_element chain picks port state rest) found
  unfolding run_from
  at_kind within found is =
      so_far ∙ ap (λ m. run_from m chain picks port state) (one_left n i within) ∙ ap (option_and_then (at_element chain picks port state rest)) is

  -- there is no such element
  pub nowhere : i < n → slice_get chain.kinds port.0 ≡ None → all ≡ None
  nowhere within none = at_kind within None none

  -- no element is left for the way
  pub used_up : n ≤ i → all ≡ None
  unfolding run_from
  used_up past = so_far ∙ ap (λ m. run_from m chain picks port state) (none_left n i past)
    where
      none_left : (n i : ℕ) → n ≤ i → n - i ≡ 0
      none_left n i past = omega (arith, past)

  module _ (within : i < n) (kind : Kind) (there : slice_get chain.kinds port.0 ≡ Some kind) (mappers : List (List Template)) (pools : List Pool) (given : IsGiven chain mappers pools) where
    stepped : (answer : Answer (State × Exit)) → element_step mappers pools picks port kind state ≡ answer → all ≡ option_and_then (goes_on chain picks port.0 kind rest) answer
    stepped answer is =
        at_kind within (Some kind) there
        ∙ ap (option_and_then (goes_on chain picks port.0 kind rest))
        (ap (λ m. element_step m chain.pools picks port kind state) (sym given.mappers_are) ∙ ap (λ p. element_step mappers p picks port kind state) (sym given.pools_are) ∙ is)

    -- the element does not take the packet, or its pick is wrong
    pub stops : (stop : Stop) → IsStop (element_step mappers pools picks port kind state) stop → IsStop all stop
    stops NoWay is = stepped None is
    stops (BadPick place) is = stepped (Some (Err place)) is
    stops NoMemory is = tt

    -- it takes it, and this is where it goes
    module _ (after : State) (exit : Exit) (taken : element_step mappers pools picks port kind state ≡ Some (Ok (after, exit))) (next : Option Next) (next_is : next ≡ next_after chain port.0 kind exit) where
      goes : (other : Option Next) → next ≡ other → all ≡ option_and_then (follow picks rest after) other
      goes other is = stepped (Some (Ok (after, exit))) taken ∙ ap (option_and_then (follow picks rest after)) (sym next_is ∙ is)

      -- to an output that leads nowhere and has to
      pub lost : next ≡ None → all ≡ None
      lost none = goes None none

      -- on to another element
      pub goes_to : (element input : ℕ) → next ≡ Some (Goes element input) → all ≡ rest (element, input) after
      goes_to element input is = goes (Some (Goes element input)) is

      -- to its end
      pub ends : (ending : Ending) → next ≡ Some (Ends ending) → all ≡ Some (Ok (record { fate = fate_of after.packet ending; tables = after.tables; picks = drop after.used picks }))
      ends ending is = goes (Some (Ends ending)) is
