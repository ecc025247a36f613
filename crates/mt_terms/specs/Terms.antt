-- Terms in their plain form, as data with no place in memory, and their values. A term says what a field of a
-- packet is at some element, in terms of the header of the frame that arrived and of the flows after the
-- passages of rewriters that the packet has behind it.
use Rattle.std.specs.Prelude.{ℕ, suc, ◌+◌, ◌-◌, ◌^◌, min, List, map, slice_index}
use Rattle.mt_packet.specs.Header.{field_of}
use Rattle.mt_packet.specs.declared.field.Field.{Field}
use Rattle.mt_packet.specs.declared.flow.Flow.{Flow}
use Rattle.mt_terms.specs.declared.term.Part.{Part}
use Rattle.mt_terms.specs.declared.term.Part.TheVariants.{Sa, Sp, Da, Dp}
use Rattle.mt_terms.specs.declared.term.Term.{Term, fold-Term}
use Rattle.mt_terms.specs.declared.term.Term.TheOpen.{Term-F}

-- a number; the value of a field as the frame arrived; what is left of a term behind an amount; and a part of
-- the flow after a passage, these being numbered from 0
pub data TermForm : Type 0 where
  const : ℕ → TermForm
  entry : Field → TermForm
  minus : TermForm → ℕ → TermForm
  flow_part : ℕ → Part → TermForm

-- one layer of a term, given the forms of the terms in it
abbrev pub layer_form : Term-F TermForm → TermForm
layer_form (Term-F.Const value) = const value
layer_form (Term-F.Entry field) = entry field
layer_form (Term-F.Less term amount) = minus term.value amount
layer_form (Term-F.Flow passage part) = flow_part passage part

-- the plain form of a term
abbrev pub term_form : Term → TermForm
term_form term = fold-Term TermForm layer_form term

-- a part of a flow
abbrev pub part_of : Part → Flow → ℕ
part_of Sa ends = ends.sa
part_of Sp ends = ends.sp
part_of Da ends = ends.da
part_of Dp ends = ends.dp

-- the value of a term at a header, behind these passages: 0 where an amount is more than there is
abbrev pub value_of : TermForm → List ℕ → List Flow → ℕ
value_of (const value) header passed = value
value_of (entry field) header passed = field_of header field
value_of (minus term amount) header passed = value_of term header passed - amount
value_of (flow_part passage part) header passed = slice_index (map (part_of part) passed) passage

-- how many passages a term needs
abbrev pub passages_of : TermForm → ℕ
passages_of (const value) = 0
passages_of (entry field) = 0
passages_of (minus term amount) = passages_of term
passages_of (flow_part passage part) = suc passage

-- a term that is no difference
abbrev pub IsWhole : TermForm → Type 0
IsWhole (const value) = Unit {0}
IsWhole (entry field) = Unit {0}
IsWhole (minus term amount) = ⊥
IsWhole (flow_part passage part) = Unit {0}

-- no difference stands in a difference
abbrev pub IsPlain : TermForm → Type 0
IsPlain (const value) = Unit {0}
IsPlain (entry field) = Unit {0}
IsPlain (minus term amount) = IsWhole term
IsPlain (flow_part passage part) = Unit {0}

-- an amount less than a term, where the amounts of a difference are added up. Numbers of 64 bits are 0 behind
-- the greatest of them, so the sum need not go on beyond it
abbrev pub less_by : TermForm → ℕ → TermForm
less_by (const value) amount = minus (const value) amount
less_by (entry field) amount = minus (entry field) amount
less_by (minus term before) amount = minus term (min (before + amount) (2 ^ 64 - 1))
less_by (flow_part passage part) amount = minus (flow_part passage part) amount
