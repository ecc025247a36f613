-- Behind a passage at a rewriter: the parts that may change are those of the flow after it.
use Rattle.std.proofs.Common.{◌≡◌, ◌≢◌, ◌∙◌, sym, ap, subst, refl, ℕ, suc, ◌≤◌, Bool, true, false, List, [], ◌∷◌, ◌++◌, length, arith}
use Rattle.mt_packet.proofs.Forms.{Part as Form, source, destination, source_port, destination_port}
use Rattle.mt_packet.proofs.Settled.{same-write-keeps, written-sums-settle}
use Rattle.mt_packet.specs.Header.{field_of}
use Rattle.mt_packet.specs.Ipv4.{has_ports}
use Rattle.mt_packet.specs.Packet.{PacketState, datagram_of, packet_header, with_field, CanWrite, HasWrittenSums}
use Rattle.mt_packet.specs.declared.field.Field.{Field}
use Rattle.mt_packet.specs.declared.field.Field.TheVariants as of
use Rattle.mt_packet.specs.declared.flow.Flow.{Flow}
use Rattle.mt_packet.specs.declared.layer.Layer.TheVariants.{Ip}
use Rattle.mt_chain.specs.Rewriting.{with_flow, annotated as annotate}
use Rattle.mt_terms.specs.Terms.{flow_part, value_of, passages_of, part_of}
use Rattle.mt_terms.specs.declared.term.Part.{Part}
use Rattle.mt_terms.specs.declared.term.Part.TheVariants.{Sa, Sp, Da, Dp}
use Rattle.mt_trees.proofs.Checks.{IsWhole, sums_now}
use Rattle.mt_trees.proofs.More.{passed_more, value_more, value_last}
use Rattle.mt_trees.proofs.Moves.{annotation, marked}
use Rattle.mt_trees.proofs.Parts.{at}
use Rattle.mt_trees.proofs.Shadow.{data_base, IsShadow, term_beside, can_now, part_written}
use Rattle.mt_trees.proofs.Writes.{two_fields}
use Rattle.mt_trees.specs.Passages.{field_of_part, part_behind, one_more, behind}
use Rattle.mt_trees.specs.Ranges.{FlowFits}
use Rattle.mt_trees.specs.Symbols.{Symbol, term_at, with_term, annotated}

-- ---- parts and their fields

abbrev form : Part → Form
form Sa = source
form Sp = source_port
form Da = destination
form Dp = destination_port

field_same : (part : Part) → field_of_part part ≡ at (form part)
field_same Sa = refl
field_same Sp = refl
field_same Da = refl
field_same Dp = refl

behind_layer : (k : ℕ) (b : Bool) (part : Part) (symbol : Symbol) → (part_behind k b part symbol).layer ≡ symbol.layer
behind_layer k true part symbol = refl
behind_layer k false part symbol = refl

behind_passages : (k : ℕ) (b : Bool) (part : Part) (symbol : Symbol) → (part_behind k b part symbol).passages ≡ symbol.passages
behind_passages k true part symbol = refl
behind_passages k false part symbol = refl

pub behind_beside : (k : ℕ) (b : Bool) (part : Part) (symbol : Symbol) (other : Field) → other ≢ field_of_part part → term_at (part_behind k b part symbol) other ≡ term_at symbol other
behind_beside k true part symbol other apart = refl
behind_beside k false part symbol other apart = term_beside symbol (field_of_part part) other (flow_part k part) apart

-- the part of the flow may be written
base_can : (header : List ℕ) (first : PacketState) → HasWrittenSums (data_base header first) → has_ports (datagram_of (data_base header first)) ≡ true → (flow : Flow) → FlowFits flow
    → (part : Part) → CanWrite (data_base header first) (at (form part)) (part_of part flow)
base_can header first sums visible flow fits Sa = (sums.is_checked, fits.sa)
base_can header first sums visible flow fits Sp = (record { is_checked = sums.is_checked; are_visible = visible }, fits.sp)
base_can header first sums visible flow fits Da = (sums.is_checked, fits.da)
base_can header first sums visible flow fits Dp = (record { is_checked = sums.is_checked; are_visible = visible }, fits.dp)

module _ (header : List ℕ) (first : PacketState) (sums : HasWrittenSums (data_base header first)) (same_data : (q : Form) → field_of (packet_header (data_base header first)) (at q) ≡ field_of header (at q))
    (whole : IsWhole (datagram_of (data_base header first))) (visible : has_ports (datagram_of (data_base header first)) ≡ true) (keeps : Part → Bool) (passed : List Flow) (flow : Flow) (fits : FlowFits flow) (k : ℕ) (counted : length passed ≡ k) where
  abbrev all_passed : List Flow
  all_passed = passed ++ flow ∷ []

  -- one part
  module _ (symbol : Symbol) (p : PacketState) (shadow : IsShadow header first symbol all_passed p) (ip : symbol.layer ≡ Ip) (more : symbol.passages ≡ suc k) (part : Part) where
    abbrev v : ℕ
    v = part_of part flow

    can : CanWrite (data_base header first) (at (form part)) v
    can = base_can header first sums visible flow fits part

    last : value_of (flow_part k part) header all_passed ≡ v
    last = value_last header passed flow k part counted

    within : passages_of (flow_part k part) ≤ symbol.passages
    within = omega (arith, more)

    allowed : CanWrite p (at (form part)) v
    allowed = can_now header first sums same_data symbol all_passed p shadow ip (form part) (flow_part k part) v last within can

    held : v ≡ field_of (packet_header p) (at (form part)) → with_field p (at (form part)) v ≡ p
    held is =
        ap (with_field p (at (form part))) is
        ∙ (same-write-keeps p (at (form part)) shadow.are_bytes (subst (CanWrite p (at (form part))) is allowed)).1
        (written-sums-settle p (at (form part)) (sums_now header first symbol all_passed p shadow ip sums whole))

    part_step : (b : Bool) → (b ≡ true → v ≡ value_of (term_at symbol (field_of_part part)) header all_passed) → IsShadow header first (part_behind k b part symbol) all_passed (with_field p (field_of_part part) v)
    part_step true same =
        subst (λ f. IsShadow header first symbol all_passed (with_field p f v)) (sym (field_same part))
        (subst (λ q. IsShadow header first symbol all_passed q) (sym (held (same refl ∙ shadow.values (field_of_part part) ∙ ap (field_of (packet_header p)) (field_same part)))) shadow)
    part_step false same =
        subst (λ f. IsShadow header first (with_term symbol f (flow_part k part)) all_passed (with_field p f v)) (sym (field_same part))
        (part_written header first sums same_data symbol all_passed p shadow ip (form part) (flow_part k part) v last within can)

  -- all four, and the annotation
  module _ (symbol : Symbol) (p : PacketState) (shadow : IsShadow header first symbol passed p) (ip : symbol.layer ≡ Ip) (is_k : symbol.passages ≡ k)
      (kept : (part : Part) → keeps part ≡ true → part_of part flow ≡ value_of (term_at symbol (field_of_part part)) header passed) where
    abbrev s0 : Symbol
    s0 = one_more symbol

    abbrev s1 : Symbol
    s1 = part_behind k (keeps Sa) Sa s0

    abbrev s2 : Symbol
    s2 = part_behind k (keeps Sp) Sp s1

    abbrev s3 : Symbol
    s3 = part_behind k (keeps Da) Da s2

    abbrev s4 : Symbol
    s4 = part_behind k (keeps Dp) Dp s3

    still : (part : Part) → keeps part ≡ true → part_of part flow ≡ value_of (term_at symbol (field_of_part part)) header all_passed
    still part e = kept part e ∙ sym (value_more header passed flow (term_at symbol (field_of_part part)) (let b = shadow.bounded (field_of_part part) in omega (arith, b, counted, is_k)))

    l1 : s1.layer ≡ Ip
    l1 = behind_layer k (keeps Sa) Sa s0 ∙ ip

    l2 : s2.layer ≡ Ip
    l2 = behind_layer k (keeps Sp) Sp s1 ∙ l1

    l3 : s3.layer ≡ Ip
    l3 = behind_layer k (keeps Da) Da s2 ∙ l2

    n0 : s0.passages ≡ suc k
    n0 = ap suc is_k

    n1 : s1.passages ≡ suc k
    n1 = behind_passages k (keeps Sa) Sa s0 ∙ n0

    n2 : s2.passages ≡ suc k
    n2 = behind_passages k (keeps Sp) Sp s1 ∙ n1

    n3 : s3.passages ≡ suc k
    n3 = behind_passages k (keeps Da) Da s2 ∙ n2

    t1 : term_at s1 of.Sport ≡ term_at symbol of.Sport
    t1 = behind_beside k (keeps Sa) Sa s0 of.Sport (two_fields of.Sport of.Src refl)

    t2 : term_at s2 of.Dst ≡ term_at symbol of.Dst
    t2 = behind_beside k (keeps Sp) Sp s1 of.Dst (two_fields of.Dst of.Sport refl) ∙ behind_beside k (keeps Sa) Sa s0 of.Dst (two_fields of.Dst of.Src refl)

    t3 : term_at s3 of.Dport ≡ term_at symbol of.Dport
    t3 =
        behind_beside k (keeps Da) Da s2 of.Dport (two_fields of.Dport of.Dst refl)
        ∙ behind_beside k (keeps Sp) Sp s1 of.Dport (two_fields of.Dport of.Sport refl)
        ∙ behind_beside k (keeps Sa) Sa s0 of.Dport (two_fields of.Dport of.Src refl)

    abbrev p1 : PacketState
    p1 = with_field p of.Src flow.sa

    abbrev p2 : PacketState
    p2 = with_field p1 of.Sport flow.sp

    abbrev p3 : PacketState
    p3 = with_field p2 of.Dst flow.da

    abbrev p4 : PacketState
    p4 = with_field p3 of.Dport flow.dp

    h0 : IsShadow header first s0 all_passed p
    h0 = passed_more header first symbol passed p flow shadow

    h1 : IsShadow header first s1 all_passed p1
    h1 = part_step s0 p h0 ip n0 Sa (keeps Sa) (still Sa)

    h2 : IsShadow header first s2 all_passed p2
    h2 = part_step s1 p1 h1 l1 n1 Sp (keeps Sp) (λ e. still Sp e ∙ ap (λ t. value_of t header all_passed) (sym t1))

    h3 : IsShadow header first s3 all_passed p3
    h3 = part_step s2 p2 h2 l2 n2 Da (keeps Da) (λ e. still Da e ∙ ap (λ t. value_of t header all_passed) (sym t2))

    h4 : IsShadow header first s4 all_passed p4
    h4 = part_step s3 p3 h3 l3 n3 Dp (keeps Dp) (λ e. still Dp e ∙ ap (λ t. value_of t header all_passed) (sym t3))

    passed_at : IsShadow header first (with_term s4 of.Annotation (term_at s4 of.Dst)) all_passed (annotate (with_flow p flow))
    passed_at = marked header first annotation s4 all_passed p4 (term_at s4 of.Dst) _ h4 (h4.values of.Dst) (h4.bounded of.Dst)

  -- the packet behind the passage
  pub behind_shadow : (symbol : Symbol) (p : PacketState) → IsShadow header first symbol passed p → symbol.layer ≡ Ip → (is_k : symbol.passages ≡ k)
      → ((part : Part) → keeps part ≡ true → part_of part flow ≡ value_of (term_at symbol (field_of_part part)) header passed)
      → IsShadow header first (behind keeps symbol) all_passed (annotate (with_flow p flow))
  behind_shadow symbol p shadow ip is_k kept =
      subst (λ n. IsShadow header first (annotated (part_behind n (keeps Dp) Dp (part_behind n (keeps Da) Da (part_behind n (keeps Sp) Sp (part_behind n (keeps Sa) Sa (one_more symbol)))))) all_passed (annotate (with_flow p flow)))
      (sym is_k) (passed_at symbol p shadow ip is_k kept)
