-- Clauses that are tried: the last one first, and what they mean where the header decides them.
use Rattle.std.proofs.Common.{◌≡◌, ◌∙◌, ap, refl, ℕ, Bool, true, false, ◌&&◌, List, [], ◌∷◌, ◌++◌}
use Rattle.std.specs.Prelude.{if◌then◌else◌}
use Rattle.mt_packet.specs.declared.field.Field.TheVariants as of
use Rattle.mt_kinds.specs.declared.kind.Clause.{Clause}
use Rattle.mt_kinds.specs.declared.kind.Clause.TheVariants as clause
use Rattle.mt_trees.specs.Symbols.{Symbol, term_at}
use Rattle.mt_trees.specs.Tests.{Found, clauses_tried, value_tried, whole_tested}
use Rattle.mt_synth.specs.Decided.{AreKnown, clause_tried, has_value, clause_holds, clauses_hold}
use Rattle.mt_synth.proofs.TestsMeant.{tested_decided}

module _ (header : List ℕ) (symbol : Symbol) where
  -- one more at the end
  pub tried_last : (clauses : List Clause) (last : Clause) (f g : Found) → clauses_tried header symbol (clauses ++ last ∷ []) f g ≡ clauses_tried header symbol clauses (clause_tried header symbol last f g) g
  unfolding clauses_tried
  tried_last [] last f g = refl
  tried_last (first ∷ rest) last f g = ap (λ (x : Found). whole_tested header symbol (value_tried header symbol first x g) g) (tried_last rest last f g)

  pub tried_none : (f g : Found) → clauses_tried header symbol [] f g ≡ f
  unfolding clauses_tried
  tried_none f g = refl

  value_sides : AreKnown symbol → (asked : Clause) (f g : Found) → value_tried header symbol asked f g ≡ (if clause_holds header symbol asked then f else g)
  value_sides known (clause.EthType value) f g = tested_decided header (term_at symbol of.EthType) _ f g known.eth_type
  value_sides known (clause.EthDst value) f g = tested_decided header (term_at symbol of.EthDst) _ f g known.eth_dst
  value_sides known (clause.EthSrc value) f g = tested_decided header (term_at symbol of.EthSrc) _ f g known.eth_src
  value_sides known (clause.ArpOp value) f g = tested_decided header (term_at symbol of.ArpOp) _ f g known.arp_op

  all_three : (a b c : Bool) (f g : Found) → (if a then (if b then (if c then f else g) else g) else g) ≡ (if a && (b && c) then f else g)
  all_three true true c f g = refl
  all_three true false c f g = refl
  all_three false b c f g = refl

  pub clauses_sides : AreKnown symbol → (clauses : List Clause) (f g : Found) → clauses_tried header symbol clauses f g ≡ (if clauses_hold header symbol clauses then f else g)
  unfolding clauses_tried
  clauses_sides known [] f g = refl
  clauses_sides known (first ∷ rest) f g =
      tested_decided header (term_at symbol of.EthType) _ (value_tried header symbol first (clauses_tried header symbol rest f g) g) g known.eth_type
      ∙ (ap (λ (x : Found). if has_value header symbol of.EthType 0 65535 then x else g)
      (value_sides known first (clauses_tried header symbol rest f g) g ∙ ap (λ (x : Found). if clause_holds header symbol first then x else g) (clauses_sides known rest f g))
      ∙ all_three (has_value header symbol of.EthType 0 65535) (clause_holds header symbol first) (clauses_hold header symbol rest) f g)
