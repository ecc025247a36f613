-- What tests of terms mean, and what serving them asks for: a tree of tests goes on by the side to which the values of the
-- packet lead.
use Rattle.std.proofs.Common.{◌≡◌, ◌∙◌, sym, ap, subst, refl, ℕ, suc, ◌-◌, ◌≤◌, Bool, true, false, List, [], length, arith}
use Rattle.std.specs.Prelude.{⊤, Some, None, Ok, Err, ◌==◌, if◌then◌else◌}
use Rattle.std.proofs.lemmas.Bool.Decides.{nat_tests}
use Rattle.std.proofs.lemmas.Option.{none-some}
use Rattle.mt_packet.specs.Packet.{PacketState}
use Rattle.mt_packet.specs.declared.flow.Flow.{Flow}
use Rattle.mt_packet.specs.declared.span.Span.{Span}
use Rattle.mt_pattern.specs.Meaning.{contains_number}
use Rattle.mt_chain.specs.Run.{Run, Answer}
use Rattle.mt_terms.specs.Terms.{TermForm, const, entry, minus, flow_part, value_of, passages_of}
use Rattle.mt_terms.specs.Trees.{TreeForm, test}
use Rattle.mt_trees.proofs.Writes.{unsome}
use Rattle.mt_trees.specs.Meaning.{RewritersState, Under, OfSide, meaning_of, CanServe}
use Rattle.mt_trees.specs.Ranges.{AreInRange}
use Rattle.mt_trees.specs.Tests.{Found, kept, tested}

-- a term that needs no passage has its value by the header alone
pub header_value : (header : List ℕ) (passed : List Flow) (term : TermForm) → (passages_of term == 0) ≡ true → value_of term header [] ≡ value_of term header passed
header_value header passed (const value) h = refl
header_value header passed (entry field) h = refl
header_value header passed (minus term amount) h = ap (λ v. v - amount) (header_value header passed term h)
header_value header passed (flow_part passage part) h = let e : suc passage ≡ 0 = grind (arith, nat_tests) in absurd (omega (arith, e))

-- where a run comes to its end, the flows of all mappings are in range
abbrev pub Fine : Answer Run → Type 0
Fine None = ⊤
Fine (Some (Ok run)) = AreInRange run.tables
Fine (Some (Err place)) = ⊤

module _ (rewriters : RewritersState) (picks : List ℕ) (packet : PacketState) (header : List ℕ) (under : Under) where
  -- the tree means that answer, and the packet can be served by it
  abbrev pub IsMeant : TreeForm → Answer Run → Type 0
  IsMeant tree answer = (meaning_of rewriters picks packet header tree under ≡ answer) × Fine answer × CanServe rewriters picks packet header tree under

  -- so does the tree that is found
  abbrev pub Agrees : Found → Answer Run → Type 0
  Agrees found answer = (tree : TreeForm) → found ≡ Some tree → IsMeant tree answer

  abbrev pub value : TermForm → ℕ
  value term = value_of term header under.passed

  -- the flows of a term are known
  abbrev pub IsKnown : TermForm → Type 0
  IsKnown term = passages_of term ≤ length under.passed

  pub none_agrees : (answer : Answer Run) → Agrees None answer
  none_agrees answer tree is = absurd (none-some tree is)

  pub one_agrees : (own : TreeForm) (answer : Answer Run) → IsMeant own answer → Agrees (Some own) answer
  one_agrees own answer meant tree is = subst (λ t. IsMeant t answer) (unsome own tree is) meant

  by_side : (term : TermForm) (span : Span) (y n : TreeForm) (b : Bool) → contains_number span (value term) ≡ b
      → meaning_of rewriters picks packet header (test term span y n) under ≡ (if b then meaning_of rewriters picks packet header y under else meaning_of rewriters picks packet header n under)
  unfolding meaning_of
  by_side term span y n b e = ap (λ c. if c then meaning_of rewriters picks packet header y under else meaning_of rewriters picks packet header n under) e

  served_side : (term : TermForm) (span : Span) (y n : TreeForm) (b : Bool) → IsKnown term → contains_number span (value term) ≡ b
      → OfSide b (CanServe rewriters picks packet header y under) (CanServe rewriters picks packet header n under) → CanServe rewriters picks packet header (test term span y n) under
  unfolding CanServe
  served_side term span y n b known e served = (
    known,
    subst (λ c. OfSide c (CanServe rewriters picks packet header y under) (CanServe rewriters picks packet header n under)) (sym e) served,
  )

  kept_agrees : (term : TermForm) (span : Span) → IsKnown term → (inside outside : Found) (answer : Answer Run) → (contains_number span (value term) ≡ true → Agrees inside answer)
      → (contains_number span (value term) ≡ false → Agrees outside answer) → Agrees (kept term span inside outside) answer
  kept_agrees term span known (Some y) (Some n) answer h k = one_agrees (test term span y n) answer (either (contains_number span (value term)) refl)
    where
      either : (b : Bool) → contains_number span (value term) ≡ b → IsMeant (test term span y n) answer
      either true e = let meant = h e y refl in (by_side term span y n true e ∙ meant.0, meant.1, served_side term span y n true known e meant.2)
      either false e = let meant = k e n refl in (by_side term span y n false e ∙ meant.0, meant.1, served_side term span y n false known e meant.2)
  kept_agrees term span known (Some y) None answer h k = none_agrees answer
  kept_agrees term span known None outside answer h k = none_agrees answer

  pub tested_agrees : (term : TermForm) (span : Span) → IsKnown term → (inside outside : Found) (answer : Answer Run) → (contains_number span (value term) ≡ true → Agrees inside answer)
      → (contains_number span (value term) ≡ false → Agrees outside answer) → Agrees (tested header term span inside outside) answer
  unfolding tested
  tested_agrees term span known inside outside answer h k = either (passages_of term == 0) refl
    where
      decided : (passages_of term == 0) ≡ true → (b : Bool) → contains_number span (value_of term header []) ≡ b → Agrees (if b then inside else outside) answer
      decided e true d = h (ap (contains_number span) (sym (header_value header under.passed term e)) ∙ d)
      decided e false d = k (ap (contains_number span) (sym (header_value header under.passed term e)) ∙ d)

      either : (b : Bool) → (passages_of term == 0) ≡ b → Agrees (if b then (if contains_number span (value_of term header []) then inside else outside) else kept term span inside outside) answer
      either true e = decided e (contains_number span (value_of term header [])) refl
      either false e = kept_agrees term span known inside outside answer h k
