-- How packets leave a rewriter: without visible ports first, then behind a passage.
use Rattle.std.proofs.Common.{◌≡◌, ◌∙◌, ℕ, List, ◌++◌, ap, sym}
use Rattle.std.specs.Prelude.{Some, Option, slice_get}
use Rattle.mt_elements.specs.Accepted.{behavior_of, leads_at}
use Rattle.mt_elements.specs.ChainState.{ChainState, mappers_of}
use Rattle.mt_kinds.specs.Ports.{rewriter_outs}
use Rattle.mt_kinds.specs.declared.kind.Kind.{Kind}
use Rattle.mt_kinds.specs.declared.kind.Kind.TheVariants.{IPRewriter}
use Rattle.mt_kinds.specs.declared.rewriter.Spec.{Spec}
use Rattle.mt_rewriter.specs.Passages.{unported}
use Rattle.mt_trees.specs.Passages.{keeps_part, behind}
use Rattle.mt_trees.specs.Symbols.{Symbol}
use Rattle.mt_synth.specs.Exits.{Exits, by_outputs, passed_exits, rewriter_exits}

pub both_ways : (chain : ChainState) (at : ℕ × ℕ) (specs : List Spec) (spec : Spec) (symbol after : Symbol) (passed all : Exits) (count : ℕ)
    → slice_get chain.kinds at.0 ≡ Some (IPRewriter specs) → slice_get specs at.1 ≡ Some spec
    → passed ≡ passed_exits (unported spec) symbol → count ≡ rewriter_outs (mappers_of chain.kinds) specs
    → after ≡ behind (keeps_part (mappers_of chain.kinds) specs spec) symbol
    → all ≡ passed ++ by_outputs ((behavior_of chain.kinds).leads at.0 at.1) count after → all ≡ rewriter_exits chain at specs (slice_get specs at.1) symbol
both_ways chain at specs spec symbol after passed all count there here first outs same is =
    is
    ∙ (ap (λ (kind : Option Kind). passed ++ by_outputs (leads_at (mappers_of chain.kinds) kind at.1) count after) there
    ∙ (ap (λ (n : ℕ). passed ++ by_outputs (leads_at (mappers_of chain.kinds) (Some (IPRewriter specs)) at.1) n after) outs
    ∙ (ap (λ (s : Symbol). passed ++ by_outputs (leads_at (mappers_of chain.kinds) (Some (IPRewriter specs)) at.1) (rewriter_outs (mappers_of chain.kinds) specs) s) same
    ∙ (ap (λ (front : Exits). front ++ by_outputs (leads_at (mappers_of chain.kinds) (Some (IPRewriter specs)) at.1) (rewriter_outs (mappers_of chain.kinds) specs) (behind (keeps_part (mappers_of chain.kinds) specs spec) symbol)) first
    ∙ ap (λ (o : Option Spec). rewriter_exits chain at specs o symbol) (sym here)))))
