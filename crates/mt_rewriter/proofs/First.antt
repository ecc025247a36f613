-- The first tables of a chain.
use Rattle.std.proofs.Common.{◌≡◌, ◌∙◌, sym, subst, refl, ℕ, zero, suc, ◌<◌, List, [], ◌∷◌, ◌++◌, length, map, get_or, arith, rules}
use Rattle.mt_lists.proofs.Members.{none_in}
use Rattle.mt_lists.proofs.Pairs.{no_pairs}
use Rattle.mt_kinds.specs.declared.rewriter.Template.{Template}
use Rattle.mt_elements.specs.ChainState.{ChainState, mappers_of}
use Rattle.mt_rewriter.specs.Kept.{IsBefore, AnswerApart, HoldApart, AreTables}
use Rattle.mt_rewriter.specs.Mappings.{Mapping, first_tables}

abbrev zeros : List (List Template) → List ℕ
zeros mappers = map (λ patterns. 0) mappers

all_zero : (mappers : List (List Template)) (n : ℕ) → get_or (zeros mappers) n 0 ≡ zero
all_zero [] n = refl
all_zero (patterns ∷ mappers) zero = refl
all_zero (patterns ∷ mappers) (suc n) = all_zero mappers n

first_is : (chain : ChainState) → AreTables chain (first_tables chain)
first_is chain = record {
  ordered = no_pairs IsBefore;
  replies = no_pairs AnswerApart;
  ports = no_pairs HoldApart;
  fit = λ m c. none_in m c;
  turns = λ mapper. let none = all_zero (mappers_of chain.kinds) mapper in omega (arith, none);
}

-- no turn has moved where no mapper is left
pub first_made : (chain : ChainState) (mappings : List Mapping) (turns : List ℕ) (rest : List (List Template)) → mappings ≡ [] → turns ++ zeros rest ≡ zeros (mappers_of chain.kinds) → length rest < 1
    → AreTables chain (record { mappings = mappings; turns = turns })
first_made chain mappings turns [] empty same past =
    subst (λ m. AreTables chain (record { mappings = m; turns = turns })) (sym empty)
    (subst (λ t. AreTables chain (record { mappings = []; turns = t })) (sym (sym (append_nil turns) ∙ same)) (first_is chain))
  where
    append_nil : (xs : List ℕ) → xs ++ [] ≡ xs
    append_nil xs = search rules
first_made chain mappings turns (patterns ∷ rest) empty same past = absurd (omega (arith, past))
