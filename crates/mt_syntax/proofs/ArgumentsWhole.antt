-- An argument text from its `(` to its `)`: its parentheses, and the tokens that are such texts.
use Rattle.std.proofs.Common.{◌≡◌, ℕ, zero, suc, ◌+◌, ◌-◌, ◌≤◌, List, [], ◌∷◌, length, take, drop, eqb, true, ◌&&◌, Option, Some, None, refl, ap, ◌∙◌, inl, inr, arith, length-drop, length-take}
use Rattle.std.specs.List.{flat_map}
use Rattle.std.specs.Option.{option_to_list}
use Rattle.std.proofs.lemmas.List.Concat.{flat_map-cons}
use Rattle.std.proofs.lemmas.Bool.Decides.{nat_tests}
use Rattle.mt_syntax.specs.declared.replacing.Binding.{Binding}
use Rattle.mt_syntax.specs.Comment.{bare}
use Rattle.mt_syntax.specs.Closing.{closing, depth_after}
use Rattle.mt_syntax.specs.Words.{within}
use Rattle.mt_syntax.specs.Arguments.{shown, separated}
use Rattle.mt_syntax.specs.Replacing.{replaced_in}
use Rattle.mt_syntax.specs.Balance.{depth_behind, IsBalanced, AreWhole, AreWholeBindings, IsClosed}
use Rattle.mt_syntax.proofs.HiddenComments.{length_hidden}
use Rattle.mt_syntax.proofs.ParenthesisDepth.{depth_step}
use Rattle.mt_syntax.proofs.CommentsCut.{closing_low, next_closing, here_or_next, cut}
use Rattle.mt_syntax.proofs.ArgumentsBalanced.{replaced_balanced, replaced_parts, separated_balanced, separated_parts, few_raws}

-- what is seen of a text, and how much
few_seen : (bytes : List (Option ℕ)) → length (flat_map option_to_list bytes) ≤ length bytes
few_seen [] = omega arith
few_seen (None ∷ bs) = let e = ap length (flat_map-cons option_to_list None bs) in omega (arith, e, few_seen bs)
few_seen (Some b ∷ bs) = let e = ap length (flat_map-cons option_to_list (Some b) bs) in omega (arith, e, few_seen bs)

pub few_shown : (body : List ℕ) → length (shown body) ≤ length body
few_shown body = omega (arith, few_seen (bare body), length_hidden body 0)

-- before the `)` that closes an argument text, its parentheses match

closes_nothing : (depth : ℕ) (b : ℕ) → (eqb b 41 && eqb depth 0) ≡ true → depth ≡ 0
closes_nothing depth b t = grind (arith, nat_tests)

here_nothing : (depth : ℕ) → depth_behind depth [] ≡ Some depth
unfolding depth_behind
here_nothing depth = refl

seen_balanced : (bytes : List (Option ℕ)) (depth k : ℕ) → closing depth bytes ≡ Some (suc k) → depth_behind depth (flat_map option_to_list (take k bytes)) ≡ Some 0
unfolding closing
seen_balanced [] depth k e = absurd cc
seen_balanced (None ∷ bs) depth zero e =
    let n = next_closing depth 1 bs e in
    absurd (omega (arith, n.2, closing_low bs depth n.0 n.1))
seen_balanced (None ∷ bs) depth (suc k) e =
    let n = next_closing depth (suc (suc k)) bs e in
    let same : n.0 ≡ suc k = omega (arith, n.2) in
    let more = seen_balanced bs depth k (n.1 ∙ ap (λ (x : ℕ). Some x) same) in
    ap (depth_behind depth) (flat_map-cons option_to_list None (take k bs)) ∙ more
seen_balanced (Some b ∷ bs) depth zero e = elim (here_or_next depth b 1 bs e) [
  | inl h ↦ here_nothing depth ∙ ap (λ (x : ℕ). Some x) (closes_nothing depth b h.0)
  | inr h ↦ (let n = h.1 in absurd (omega (arith, n.2, closing_low bs (depth_after depth b) n.0 n.1)))
]
seen_balanced (Some b ∷ bs) depth (suc k) e = elim (here_or_next depth b (suc (suc k)) bs e) [
  | inl h ↦ absurd (omega (arith, h.1))
  | inr h ↦
      (let n = h.1 in
      let same : n.0 ≡ suc k = omega (arith, n.2) in
      let more = seen_balanced bs (depth_after depth b) k (n.1 ∙ ap (λ (x : ℕ). Some x) same) in
      ap (depth_behind depth) (flat_map-cons option_to_list (Some b) (take k bs)) ∙ depth_step depth b (flat_map option_to_list (take k bs)) h.0 ∙ more)
]

pub closed_is_balanced : (bytes : List ℕ) → IsClosed bytes → IsBalanced (shown (within bytes))
closed_is_balanced bytes c =
    let body = drop 1 bytes in
    let k = length bytes - 2 in
    let n : length bytes - 1 ≡ suc k = omega (arith, c.1) in
    let e : closing 0 (bare body) ≡ Some (suc k) = c.2 ∙ ap (λ (x : ℕ). Some x) n in
    ap (λ (x : List (Option ℕ)). depth_behind 0 (flat_map option_to_list x)) (cut body 0 0 k (suc k) e (omega arith) (omega arith)) ∙ seen_balanced (bare body) 0 k e

within_length : (bytes : List ℕ) → 2 ≤ length bytes → length (within bytes) + 2 ≡ length bytes
within_length bytes h = omega (arith, h, length-take (length bytes - 2) (drop 1 bytes), length-drop 1 bytes)

-- The arguments of an argument text with arguments in place of its parameters: each is whole, and there
-- are no more than the text had bytes.
pub few_arguments : (bytes : List ℕ) (bindings : List Binding) → IsClosed bytes → AreWholeBindings bindings → length (separated (replaced_in bindings (shown (within bytes)))) ≤ length bytes
few_arguments bytes bindings c w =
    let text = shown (within bytes) in
    let a = separated_parts (replaced_in bindings text) in
    let b = replaced_parts bindings text w in
    let d = few_raws text in
    let e = few_shown (within bytes) in
    omega (arith, a, b, d, e, within_length bytes c.1)

pub arguments_whole : (bytes : List ℕ) (bindings : List Binding) → IsClosed bytes → AreWholeBindings bindings → AreWhole (separated (replaced_in bindings (shown (within bytes))))
arguments_whole bytes bindings c w =
    let text = shown (within bytes) in
    separated_balanced (replaced_in bindings text) (replaced_balanced bindings text w (closed_is_balanced bytes c))
