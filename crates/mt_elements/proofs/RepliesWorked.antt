-- The outputs of replies, element by element.
use Rattle.std.proofs.Common.{◌≡◌, ◌∙◌, ap, sym, subst, inl, inr, ℕ, ◌+◌, Bool, List, [], ◌∷◌, ◌++◌, length, slice_get, Some, None, arith}
use Rattle.std.proofs.lemmas.List.{length_push}
use Rattle.mt_kinds.specs.declared.kind.Kind.{Kind}
use Rattle.mt_kinds.specs.declared.rewriter.Template.{Template}
use Rattle.mt_kinds.specs.OutTables.{IsReplyTable}
use Rattle.mt_elements.specs.Replies.{AreReplies}
use Rattle.mt_elements.proofs.TableBuilt.{push_cases}
use Rattle.mt_elements.proofs.WiresTold.{some_same}

-- those of the first so many elements
pub record AreRepliesTo (mappers : List (List Template)) (kinds : List Kind) (tables : List (List Bool)) (count : ℕ) : Type 0 where
  pub whole : length tables ≡ count
  pub each : (element : ℕ) (kind : Kind) (table : List Bool) → slice_get kinds element ≡ Some kind → slice_get tables element ≡ Some table → IsReplyTable mappers kind table

pub replies_begin : (mappers : List (List Template)) (kinds : List Kind) (tables : List (List Bool)) → tables ≡ [] → AreRepliesTo mappers kinds tables 0
replies_begin mappers kinds tables e = record { whole = ap length e; each = λ element kind table at is. absurd (let q : None ≡ Some table = ap (λ xs. slice_get xs element) (sym e) ∙ is in cc) }

pub replies_more : (mappers : List (List Template)) (kinds : List Kind) (old new : List (List Bool)) (count : ℕ) (kind : Kind) (table : List Bool) → slice_get kinds count ≡ Some kind → IsReplyTable mappers kind table → new ≡ old ++ table ∷ []
    → AreRepliesTo mappers kinds old count → AreRepliesTo mappers kinds new (count + 1)
replies_more mappers kinds old new count kind table at is pushed h = record {
  whole = (let a = ap length pushed in let b = length_push old table in let c = h.whole in omega (arith, a, b, c));
  each = λ element other found there got. elim (push_cases old table element found (ap (λ xs. slice_get xs element) (sym pushed) ∙ got)) [
    | inl before ↦ h.each element other found there before
    | inr last ↦
        let same : kind ≡ other = some_same kind other (sym at ∙ ap (slice_get kinds) (sym (last.0 ∙ h.whole)) ∙ there) in
        subst (IsReplyTable mappers other) last.1 (subst (λ k. IsReplyTable mappers k table) same is)
  ];
}

pub replies_done : (mappers : List (List Template)) (kinds : List Kind) (tables : List (List Bool)) (count : ℕ) → length kinds ≡ count → AreRepliesTo mappers kinds tables count → AreReplies mappers kinds tables
replies_done mappers kinds tables count e h = record { whole = h.whole ∙ sym e; each = h.each }
