-- The step of a rewriter, by what was decided and done.
use Rattle.std.proofs.Common.{◌≡◌, ◌∙◌, sym, ap, ℕ, true, false, List, Ok}
use Rattle.std.specs.Prelude.{Option, Some, None, slice_get, if◌then◌else◌}
use Rattle.mt_packet.specs.Flow.{packet_flow}
use Rattle.mt_packet.specs.Packet.{PacketState}
use Rattle.mt_packet.specs.declared.flow.Flow.{Flow}
use Rattle.mt_kinds.specs.Layers.{is_ip, takes}
use Rattle.mt_kinds.specs.declared.kind.Kind.{Kind}
use Rattle.mt_kinds.specs.declared.kind.Kind.TheVariants.{IPRewriter}
use Rattle.mt_kinds.specs.declared.rewriter.Pool.{Pool}
use Rattle.mt_kinds.specs.declared.rewriter.Spec.{Spec}
use Rattle.mt_kinds.specs.declared.rewriter.Template.{Template}
use Rattle.mt_rewriter.specs.Mappings.{TablesState}
use Rattle.mt_rewriter.specs.Passages.{decide_for, remembered}
use Rattle.mt_rewriter.specs.declared.passage.Decision.{Decision}
use Rattle.mt_chain.specs.declared.step.Exit.{Exit}
use Rattle.mt_chain.specs.Rewriting.{passed}
use Rattle.mt_chain.specs.Run.{State, with_passage, by_decision, at_input, rewriter_step, element_step}

module _ (mappers : List (List Template)) (pools : List Pool) (picks : List ℕ) (port : ℕ × ℕ) (state : State) where
  -- what was decided is done
  pub rewriter_is : (specs : List Spec) → is_ip state.packet.layer ≡ true → (spec : Spec) → slice_get specs port.1 ≡ Some spec → (flow : Option Flow) → flow ≡ packet_flow state.packet
      → (decision : Decision) → decide_for mappers pools picks state.tables port.0 port.1 state.used spec flow ≡ Ok decision
      → (packet : PacketState) (exit : Exit) (tables : TablesState) → (packet, exit) ≡ passed decision.passage state.packet → tables ≡ remembered decision state.tables
      → rewriter_step mappers pools picks port specs state ≡ Some (Ok (record { packet = packet; tables = tables; used = decision.used }, exit))
  unfolding rewriter_step
  rewriter_is specs ip spec at flow flow_is decision decided packet exit tables passed_is tables_is =
      ap (λ b. if b then at_input mappers pools picks port state (slice_get specs port.1) else None) ip
      ∙ ap (at_input mappers pools picks port state) at
      ∙ ap (λ f. by_decision state (decide_for mappers pools picks state.tables port.0 port.1 state.used spec f)) (sym flow_is)
      ∙ ap (by_decision state) decided
      ∙ ap (λ (after : PacketState × Exit). Some (Ok (with_passage state decision after))) (sym passed_is)
      ∙ ap (λ t. Some (Ok (record { packet = packet; tables = t; used = decision.used }, exit))) (sym tables_is)

  -- a rewriter does not take the layer
  pub not_taken : (kind : Kind) (specs : List Spec) → kind ≡ IPRewriter specs → takes kind state.packet.layer ≡ false → element_step mappers pools picks port kind state ≡ None
  unfolding rewriter_step
  not_taken kind specs is refuses =
      ap (λ k. element_step mappers pools picks port k state) is
      ∙ ap (λ b. if b then at_input mappers pools picks port state (slice_get specs port.1) else None) (ap (λ k. takes k state.packet.layer) (sym is) ∙ refuses)
