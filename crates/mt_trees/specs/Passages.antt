-- A passage at a rewriter, by terms: the outputs that can be taken, and what a packet is behind it.
use Rattle.std.specs.Prelude.{ℕ, suc, Bool, true, false, not, if◌then◌else◌, List, is_some}
use Rattle.std.specs.List.{filter, list_all, range_with_len}
use Rattle.mt_packet.specs.declared.field.Field.{Field}
use Rattle.mt_packet.specs.declared.field.Field.TheVariants as of
use Rattle.mt_kinds.specs.Ports.{leads, rewriter_outs, mapper_at}
use Rattle.mt_kinds.specs.declared.kind.Kind.TheVariants.{IPRewriter}
use Rattle.mt_kinds.specs.declared.rewriter.SourcePort.{SourcePort}
use Rattle.mt_kinds.specs.declared.rewriter.SourcePort.TheVariants as port
use Rattle.mt_kinds.specs.declared.rewriter.Spec.{Spec}
use Rattle.mt_kinds.specs.declared.rewriter.Spec.TheVariants as spec
use Rattle.mt_kinds.specs.declared.rewriter.Template.{Template}
use Rattle.mt_rewriter.specs.Passages.{is_reply}
use Rattle.mt_terms.specs.Terms.{flow_part}
use Rattle.mt_terms.specs.Trees.{OpForm}
use Rattle.mt_terms.specs.declared.term.Part.{Part}
use Rattle.mt_terms.specs.declared.term.Part.TheVariants.{Sa, Sp, Da, Dp}
use Rattle.mt_trees.specs.Symbols.{Symbol, term_at, with_term, annotated}

-- ---- parts that a specification leaves

abbrev pub is_same : SourcePort → Bool
is_same port.Same = true
is_same other = false

-- a template leaves a part as it is
abbrev pub template_leaves : Part → Template → Bool
template_leaves Sa template = not (is_some template.sa)
template_leaves Sp template = is_same template.sp
template_leaves Da template = not (is_some template.da)
template_leaves Dp template = not (is_some template.dp)

-- all that a specification can make leaves it; a reply input makes nothing
abbrev pub spec_leaves : List (List Template) → Part → Spec → Bool
spec_leaves mappers part spec.Drop = true
spec_leaves mappers part (spec.Pass out) = true
spec_leaves mappers part (spec.Keep fout rout) = true
spec_leaves mappers part (spec.Pattern template) = template_leaves part template
spec_leaves mappers part (spec.Mapper number) = list_all (template_leaves part) (mapper_at mappers number)

-- the part of the other end, from which replies are rewritten
abbrev pub across : Part → Part
across Sa = Da
across Sp = Dp
across Da = Sa
across Dp = Sp

-- A part keeps its term: at a forward input where the input leaves it, at a reply input where every specification leaves
-- the part from which it is rewritten.
abbrev pub keeps_part : List (List Template) → List Spec → Spec → Part → Bool
keeps_part mappers specs spec part =
    if is_reply spec then list_all (spec_leaves mappers (across part)) specs else spec_leaves mappers part spec

-- ---- behind the passage

abbrev pub field_of_part : Part → Field
field_of_part Sa = of.Src
field_of_part Sp = of.Sport
field_of_part Da = of.Dst
field_of_part Dp = of.Dport

-- a part that may change is that of the flow after this passage
abbrev pub part_behind : ℕ → Bool → Part → Symbol → Symbol
part_behind passage true part symbol = symbol
part_behind passage false part symbol = with_term symbol (field_of_part part) (flow_part passage part)

abbrev pub one_more : Symbol → Symbol
one_more symbol = record symbol { passages = suc symbol.passages }

-- the packet behind it; its annotation is its destination
abbrev pub behind : (Part → Bool) → Symbol → Symbol
behind keeps symbol =
    annotated (part_behind symbol.passages (keeps Dp) Dp
    (part_behind symbol.passages (keeps Da) Da
    (part_behind symbol.passages (keeps Sp) Sp
    (part_behind symbol.passages (keeps Sa) Sa (one_more symbol)))))

-- the code of the passage
abbrev pub code_of : ℕ × ℕ → Symbol → OpForm
code_of at symbol = record {
  element = at.0;
  input = at.1;
  sa = term_at symbol of.Src;
  sp = term_at symbol of.Sport;
  da = term_at symbol of.Dst;
  dp = term_at symbol of.Dport;
}

-- the outputs that can be taken, ascending
abbrev pub outputs_taken : List (List Template) → List Spec → ℕ → List ℕ
outputs_taken mappers specs input = filter (leads mappers (IPRewriter specs) input) (range_with_len 0 (rewriter_outs mappers specs))
