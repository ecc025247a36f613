-- A packet on its way with terms in place of values: each field as what it is of the header of the frame that arrived
-- and of the flows behind the passages at rewriters.
use Rattle.std.specs.Prelude.{ℕ, Bool, false, true, List, [], ◌∷◌, ◌++◌, map, take, get_or, slice_set}
use Rattle.mt_packet.specs.Header.{fields, number_of}
use Rattle.mt_packet.specs.Packet.{layer_below}
use Rattle.mt_packet.specs.declared.field.Field.{Field}
use Rattle.mt_packet.specs.declared.field.Field.TheVariants as of
use Rattle.mt_packet.specs.declared.layer.Layer.{Layer}
use Rattle.mt_packet.specs.declared.layer.Layer.TheVariants.{Frame, Bare, Ip, Framed}
use Rattle.mt_terms.specs.Terms.{TermForm, const, entry}

-- A term for each field by its number, the layer, whether the packet was checked, and the number of passages behind it.
pub record Symbol : Type 0 where
  pub terms : List TermForm
  pub layer : Layer
  pub trim : Bool
  pub passages : ℕ

-- as its frame arrives: without paint and annotation, which begin as 0
abbrev pub first_symbol : Symbol
first_symbol = record { terms = map entry (take 22 fields) ++ const 0 ∷ const 0 ∷ []; layer = Frame; trim = false; passages = 0 }

abbrev pub term_at : Symbol → Field → TermForm
term_at symbol field = get_or symbol.terms (number_of field) (const 0)

abbrev pub with_term : Symbol → Field → TermForm → Symbol
with_term symbol field term = record symbol { terms = slice_set symbol.terms (number_of field) term }

-- the annotation is the destination
abbrev pub annotated : Symbol → Symbol
annotated symbol = with_term symbol of.Annotation (term_at symbol of.Dst)

-- ---- the Ethernet header

-- the fields of a header that is not there
abbrev pub without_header : Symbol → Symbol
without_header symbol =
    with_term (with_term (with_term (with_term symbol of.EthType (const 65536)) of.EthDst (const 0)) of.EthSrc (const 0)) of.ArpOp (const 65536)

abbrev pub stripped : Symbol → Symbol
stripped symbol = record (without_header symbol) { layer = layer_below symbol.layer }

abbrev pub encapsulated : Symbol → ℕ → ℕ → ℕ → Symbol
encapsulated symbol ether_type src dst =
    record (with_term (with_term (with_term (with_term symbol of.EthType (const ether_type)) of.EthDst (const dst)) of.EthSrc (const src)) of.ArpOp (const 65536)) { layer = Framed }

-- the addresses of the two stations exchanged
abbrev pub ethernet_swapped : Symbol → Symbol
ethernet_swapped symbol = with_term (with_term symbol of.EthDst (term_at symbol of.EthSrc)) of.EthSrc (term_at symbol of.EthDst)

-- ---- IPv4

-- checked: it is of layer Ip, what follows its total length is cut off, and the annotation is the destination
abbrev pub checked : Symbol → Symbol
checked symbol = record (annotated symbol) { layer = Ip; trim = true }

abbrev pub refused : Symbol → Symbol
refused symbol = record symbol { layer = Bare }

abbrev pub addresses_swapped : Symbol → Symbol
addresses_swapped symbol = with_term (with_term symbol of.Src (term_at symbol of.Dst)) of.Dst (term_at symbol of.Src)

abbrev pub ports_swapped : Symbol → Symbol
ports_swapped symbol = with_term (with_term symbol of.Sport (term_at symbol of.Dport)) of.Dport (term_at symbol of.Sport)
