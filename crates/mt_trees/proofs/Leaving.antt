-- A packet and its symbol at an element: what goes on behind it, and what is known of them.
use Rattle.std.proofs.Common.{◌≡◌, ◌≢◌, ◌∙◌, ap, refl, ℕ, ◌≤◌, Bool, true, false, List, length, arith}
use Rattle.std.specs.Prelude.{drop, Option, Some, None, Ok, option_and_then}
use Rattle.mt_packet.specs.Ipv4.{IsValidIpv4}
use Rattle.mt_packet.specs.Packet.{PacketState, datagram_of}
use Rattle.mt_packet.specs.declared.cause.Cause.{Cause}
use Rattle.mt_packet.specs.declared.field.Field.{Field}
use Rattle.mt_packet.specs.declared.field.Field.TheVariants as of
use Rattle.mt_packet.specs.declared.flow.Flow.{Flow}
use Rattle.mt_kinds.specs.declared.kind.Kind.{Kind}
use Rattle.mt_elements.specs.ChainState.{ChainState, next_of}
use Rattle.mt_rewriter.specs.Kept.{AreTables}
use Rattle.mt_rewriter.specs.Mappings.{TablesState}
use Rattle.mt_chain.specs.Run.{State, Run, Answer, by_wire as run_by_wire, follow}
use Rattle.mt_chain.specs.Step.{unwired_cause}
use Rattle.mt_chain.specs.declared.run.Fate.TheVariants as fate
use Rattle.mt_terms.specs.Terms.{TermForm, entry, minus, passages_of}
use Rattle.mt_terms.specs.Trees.{drop as drop_tree}
use Rattle.mt_trees.proofs.Shadow.{is_checked_layer, IsShadow, term_beside}
use Rattle.mt_trees.proofs.Tested.{IsMeant, Agrees, none_agrees, one_agrees}
use Rattle.mt_trees.proofs.Writes.{is_same}
use Rattle.mt_trees.specs.Elements.{Along, by_wire, dropped, leaves}
use Rattle.mt_trees.specs.Meaning.{Under, meaning_of, CanServe, rewriters_of}
use Rattle.mt_trees.specs.Ranges.{AreInRange}
use Rattle.mt_trees.specs.Symbols.{Symbol, term_at, with_term}
use Rattle.mt_trees.specs.Tests.{Found}

-- ---- a packet under way

abbrev pub is_lowered : TermForm → Bool
is_lowered (entry own) = is_same own of.Ttl
is_lowered (minus (entry own) amount) = is_same own of.Ttl
is_lowered term = false

module _ (header : List ℕ) (first : PacketState) where
  pub record Shade (symbol : Symbol) (passed : List Flow) (p : PacketState) : Type 0 where
    pub shadow : IsShadow header first symbol passed p
    -- behind a check the frame that arrived was valid IPv4
    pub valid : is_checked_layer symbol.layer ≡ true → IsValidIpv4 (datagram_of first)
    -- no passage changes the paint
    pub painted : passages_of (term_at symbol of.Paint) ≡ 0
    -- the time to live is that of the frame, or less by a number
    pub lowered : is_lowered (term_at symbol of.Ttl) ≡ true

  -- the flows of its terms are known
  pub are_known : (symbol : Symbol) (passed : List Flow) (p : PacketState) → Shade symbol passed p → (field : Field) → passages_of (term_at symbol field) ≤ length passed
  are_known symbol passed p shade field = let b = shade.shadow.bounded field in let c = shade.shadow.counted in omega (arith, b, c)

pub unpainted : (symbol : Symbol) (field : Field) (term : TermForm) → of.Paint ≢ field → passages_of (term_at symbol of.Paint) ≡ 0 → passages_of (term_at (with_term symbol field term) of.Paint) ≡ 0
unpainted symbol field term apart h = ap passages_of (term_beside symbol field of.Paint term apart) ∙ h

pub unlowered : (symbol : Symbol) (field : Field) (term : TermForm) → of.Ttl ≢ field → is_lowered (term_at symbol of.Ttl) ≡ true → is_lowered (term_at (with_term symbol field term) of.Ttl) ≡ true
unlowered symbol field term apart h = ap is_lowered (term_beside symbol field of.Ttl term apart) ∙ h

-- what is known of the tables
pub record IsGood (chain : ChainState) (tables : TablesState) : Type 0 where
  pub kept : AreTables chain tables
  pub range : AreInRange tables

abbrev pub under_of : List Flow → State → Under
under_of passed state = record { passed = passed; tables = state.tables; used = state.used }

-- ---- behind an element

module _ (chain : ChainState) (header : List ℕ) (first : PacketState) (picks : List ℕ) where
  abbrev pub Agree : List Flow → State → Found → Answer Run → Type 0
  Agree passed state found answer = Agrees (rewriters_of chain) picks first header (under_of passed state) found answer

  -- a packet that is dropped
  abbrev pub drop_answer : State → Cause → Answer Run
  drop_answer state why = Some (Ok (record { fate = fate.Dropped why; tables = state.tables; picks = drop state.used picks }))

  drop_means : (passed : List Flow) (state : State) (why : Cause) → AreInRange state.tables → IsMeant (rewriters_of chain) picks first header (under_of passed state) (drop_tree why) (drop_answer state why)
  unfolding meaning_of CanServe
  drop_means passed state why range = (refl, range, tt)

  pub drop_agrees : (passed : List Flow) (state : State) (why : Cause) → AreInRange state.tables → Agree passed state (dropped why) (drop_answer state why)
  drop_agrees passed state why range = one_agrees (rewriters_of chain) picks first header (under_of passed state) (drop_tree why) (drop_answer state why) (drop_means passed state why range)

  module _ (at : ℕ × ℕ) (along : Along) (along_run : ℕ × ℕ → State → Answer Run)
      (again : (next : ℕ × ℕ) (symbol : Symbol) (passed : List Flow) (state : State) → Shade header first symbol passed state.packet → IsGood chain state.tables → Agree passed state (along next symbol) (along_run next state)) where
    -- a packet that leaves by an output
    abbrev pub leave_answer : Kind → State → ℕ → Answer Run
    leave_answer own state out = option_and_then (follow picks along_run state) (run_by_wire (next_of chain at.0 out) (unwired_cause own out))

    pub leaves_agree : (own : Kind) (symbol : Symbol) (passed : List Flow) (state : State) (out : ℕ) → Shade header first symbol passed state.packet → IsGood chain state.tables
        → Agree passed state (leaves chain header along at own symbol out) (leave_answer own state out)
    leaves_agree own symbol passed state out shade good = either (next_of chain at.0 out) (unwired_cause own out)
      where
        either : (found : Option (ℕ × ℕ)) (why : Option Cause) → Agree passed state (by_wire along symbol found why) (option_and_then (follow picks along_run state) (run_by_wire found why))
        either (Some port) why = again port symbol passed state shade good
        either None (Some why) = drop_agrees passed state why good.range
        either None None = none_agrees (rewriters_of chain) picks first header (under_of passed state) None
