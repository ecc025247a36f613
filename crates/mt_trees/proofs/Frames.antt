-- The Ethernet header of a packet and of its symbol: taken away, and put on.
use Rattle.std.proofs.Common.{◌≡◌, ◌∙◌, sym, ap, subst, refl, ℕ, true, false, List, [], length, drop, arith}
use Rattle.std.specs.Prelude.{if◌then◌else◌, slice_set}
use Rattle.std.proofs.lemmas.Bool.{false≢true}
use Rattle.std.proofs.lemmas.List.{length-set}
use Rattle.mt_packet.proofs.Ranges.{AreBytes-drop}
use Rattle.mt_packet.specs.Field.{eth_dst_of, eth_src_of, arp_op_of}
use Rattle.mt_packet.specs.Header.{field_of, fields_of}
use Rattle.mt_packet.specs.Packet.{PacketState, has_ethernet, datagram_of, packet_header, layer_below, stripped as strip}
use Rattle.mt_packet.specs.declared.field.Field.{Field}
use Rattle.mt_packet.specs.declared.field.Field.TheVariants as of
use Rattle.mt_packet.specs.declared.flow.Flow.{Flow}
use Rattle.mt_packet.specs.declared.layer.Layer.{Layer}
use Rattle.mt_packet.specs.declared.layer.Layer.TheVariants.{Frame, Bare, Ip, Framed}
use Rattle.mt_terms.specs.Terms.{TermForm, const}
use Rattle.mt_trees.proofs.More.{Reads, reads_set, Bounded, bounded_set}
use Rattle.mt_trees.proofs.Moves.{data_alike}
use Rattle.mt_trees.proofs.Shadow.{is_checked_layer, is_data, of_data, data_base, IsShadow, term_beside}
use Rattle.mt_trees.proofs.Writes.{all, May, two_fields}
use Rattle.mt_trees.specs.Elements.{is_own, data_fields}
use Rattle.mt_trees.specs.Symbols.{Symbol, term_at, with_term, stripped}

-- ---- layers

pub below_checked : (l : Layer) → is_checked_layer (layer_below l) ≡ is_checked_layer l
below_checked Frame = refl
below_checked Bare = refl
below_checked Ip = refl
below_checked Framed = refl

below_bare : (l : Layer) → has_ethernet (layer_below l) ≡ false
below_bare Frame = refl
below_bare Bare = refl
below_bare Ip = refl
below_bare Framed = refl

-- ---- four terms of the Ethernet header, which no other term looks at

abbrev one : Symbol → TermForm → Symbol
one symbol kind = with_term symbol of.EthType kind

abbrev two : Symbol → TermForm → TermForm → Symbol
two symbol kind dst = with_term (one symbol kind) of.EthDst dst

abbrev three : Symbol → TermForm → TermForm → TermForm → Symbol
three symbol kind dst src = with_term (two symbol kind dst) of.EthSrc src

abbrev pub four : Symbol → TermForm → TermForm → TermForm → TermForm → Symbol
four symbol kind dst src arp = with_term (three symbol kind dst src) of.ArpOp arp

pub four_long : (symbol : Symbol) (kind dst src arp : TermForm) → length symbol.terms ≡ 24 → length (four symbol kind dst src arp).terms ≡ 24
four_long symbol kind dst src arp long =
    length-set (three symbol kind dst src).terms 4 arp ∙ length-set (two symbol kind dst).terms 3 src ∙ length-set (one symbol kind).terms 2 dst ∙ length-set symbol.terms 1 kind ∙ long

pub four_beside : (symbol : Symbol) (kind dst src arp : TermForm) (field : Field) → is_data field ≡ true → term_at (four symbol kind dst src arp) field ≡ term_at symbol field
four_beside symbol kind dst src arp field e =
    term_beside (three symbol kind dst src) of.ArpOp field arp (λ s. false≢true (ap is_data (sym s) ∙ e))
    ∙ term_beside (two symbol kind dst) of.EthSrc field src (λ s. false≢true (ap is_data (sym s) ∙ e))
    ∙ term_beside (one symbol kind) of.EthDst field dst (λ s. false≢true (ap is_data (sym s) ∙ e))
    ∙ term_beside symbol of.EthType field kind (λ s. false≢true (ap is_data (sym s) ∙ e))

pub four_proto : (symbol : Symbol) (kind dst src arp : TermForm) → term_at (four symbol kind dst src arp) of.Proto ≡ term_at symbol of.Proto
four_proto symbol kind dst src arp =
    term_beside (three symbol kind dst src) of.ArpOp of.Proto arp (two_fields of.Proto of.ArpOp refl)
    ∙ term_beside (two symbol kind dst) of.EthSrc of.Proto src (two_fields of.Proto of.EthSrc refl)
    ∙ term_beside (one symbol kind) of.EthDst of.Proto dst (two_fields of.Proto of.EthDst refl)
    ∙ term_beside symbol of.EthType of.Proto kind (two_fields of.Proto of.EthType refl)

pub four_paint : (symbol : Symbol) (kind dst src arp : TermForm) → term_at (four symbol kind dst src arp) of.Paint ≡ term_at symbol of.Paint
four_paint symbol kind dst src arp =
    term_beside (three symbol kind dst src) of.ArpOp of.Paint arp (two_fields of.Paint of.ArpOp refl)
    ∙ term_beside (two symbol kind dst) of.EthSrc of.Paint src (two_fields of.Paint of.EthSrc refl)
    ∙ term_beside (one symbol kind) of.EthDst of.Paint dst (two_fields of.Paint of.EthDst refl)
    ∙ term_beside symbol of.EthType of.Paint kind (two_fields of.Paint of.EthType refl)

abbrev pub four_values : List ℕ → ℕ → ℕ → ℕ → ℕ → List ℕ
four_values values kind dst src arp = slice_set (slice_set (slice_set (slice_set values 1 kind) 2 dst) 3 src) 4 arp

-- constants
pub four_reads : (header : List ℕ) (passed : List Flow) (symbol : Symbol) (values : List ℕ) (kind dst src arp : ℕ) → length symbol.terms ≡ 24 → length values ≡ 24 → Reads header passed symbol values
    → Reads header passed (four symbol (const kind) (const dst) (const src) (const arp)) (four_values values kind dst src arp)
four_reads header passed symbol values kind dst src arp long wide reads =
    let s1 = with_term symbol of.EthType (const kind) in
    let s2 = with_term s1 of.EthDst (const dst) in
    let s3 = with_term s2 of.EthSrc (const src) in
    let v1 = slice_set values 1 kind in
    let v2 = slice_set v1 2 dst in
    let v3 = slice_set v2 3 src in
    let l1 : length s1.terms ≡ 24 = length-set symbol.terms 1 (const kind) ∙ long in
    let l2 : length s2.terms ≡ 24 = length-set s1.terms 2 (const dst) ∙ l1 in
    let l3 : length s3.terms ≡ 24 = length-set s2.terms 3 (const src) ∙ l2 in
    let w1 : length v1 ≡ 24 = length-set values 1 kind ∙ wide in
    let w2 : length v2 ≡ 24 = length-set v1 2 dst ∙ w1 in
    let w3 : length v3 ≡ 24 = length-set v2 3 src ∙ w2 in
    reads_set header passed s3 v3 of.ArpOp (const arp) arp l3 w3 refl
    (reads_set header passed s2 v2 of.EthSrc (const src) src l2 w2 refl
    (reads_set header passed s1 v1 of.EthDst (const dst) dst l1 w1 refl
    (reads_set header passed symbol values of.EthType (const kind) kind long wide refl reads)))

pub four_bounded : (symbol : Symbol) (n kind dst src arp : ℕ) → length symbol.terms ≡ 24 → Bounded symbol n → Bounded (four symbol (const kind) (const dst) (const src) (const arp)) n
four_bounded symbol n kind dst src arp long bounded =
    let s1 = with_term symbol of.EthType (const kind) in
    let s2 = with_term s1 of.EthDst (const dst) in
    let s3 = with_term s2 of.EthSrc (const src) in
    let l1 : length s1.terms ≡ 24 = length-set symbol.terms 1 (const kind) ∙ long in
    let l2 : length s2.terms ≡ 24 = length-set s1.terms 2 (const dst) ∙ l1 in
    let l3 : length s3.terms ≡ 24 = length-set s2.terms 3 (const src) ∙ l2 in
    bounded_set s3 n of.ArpOp (const arp) l3 (omega arith)
    (bounded_set s2 n of.EthSrc (const src) l2 (omega arith)
    (bounded_set s1 n of.EthDst (const dst) l1 (omega arith)
    (bounded_set symbol n of.EthType (const kind) long (omega arith) bounded)))

-- ---- without a header

no_type : (device : ℕ) (bytes behind : List ℕ) (paint annotation : ℕ) → fields_of device [] behind paint annotation ≡ four_values (fields_of device bytes behind paint annotation) 65536 0 0 65536
unfolding eth_dst_of eth_src_of arp_op_of
no_type device bytes behind paint annotation = refl

strip_header : (p : PacketState) → has_ethernet p.layer ≡ true → packet_header (strip p) ≡ four_values (packet_header p) 65536 0 0 65536
strip_header p there = by_layer p.layer there
  where
    by_layer : (l : Layer) → has_ethernet l ≡ true
        → fields_of p.device (if has_ethernet (layer_below l) then drop 14 p.bytes else []) (if has_ethernet (layer_below l) then drop 14 (drop 14 p.bytes) else drop 14 p.bytes) p.paint p.annotation
        ≡ four_values (fields_of p.device (if has_ethernet l then p.bytes else []) (if has_ethernet l then drop 14 p.bytes else p.bytes) p.paint p.annotation) 65536 0 0 65536
    by_layer Frame e = no_type p.device p.bytes (drop 14 p.bytes) p.paint p.annotation
    by_layer Bare e = absurd (false≢true e)
    by_layer Ip e = absurd (false≢true e)
    by_layer Framed e = no_type p.device p.bytes (drop 14 p.bytes) p.paint p.annotation

strip_datagram : (p : PacketState) → has_ethernet p.layer ≡ true → datagram_of (strip p) ≡ datagram_of p
strip_datagram p there =
    ap (λ b. if b then drop 14 (drop 14 p.bytes) else drop 14 p.bytes) (below_bare p.layer)
    ∙ sym (ap (λ b. if b then drop 14 p.bytes else p.bytes) there)

module _ (header : List ℕ) (first : PacketState) (symbol : Symbol) (passed : List Flow) (p : PacketState) (shadow : IsShadow header first symbol passed p) (there : has_ethernet symbol.layer ≡ true) where
  now_there : has_ethernet p.layer ≡ true
  now_there = ap has_ethernet shadow.layer ∙ there

  same_data : of_data header first (stripped symbol) passed ≡ of_data header first symbol passed
  same_data = data_alike header first symbol (stripped symbol) passed (four_beside symbol (const 65536) (const 0) (const 0) (const 65536))

  pub strip_shadow : IsShadow header first (stripped symbol) passed (strip p)
  strip_shadow = record {
    long = four_long symbol (const 65536) (const 0) (const 0) (const 65536) shadow.long;
    counted = shadow.counted;
    bounded = four_bounded symbol symbol.passages 65536 0 0 65536 shadow.long shadow.bounded;
    values = λ field. four_reads header passed symbol (packet_header p) 65536 0 0 65536 shadow.long refl shadow.values field ∙ sym (ap (λ h. field_of h field) (strip_header p now_there));
    layer = ap layer_below shadow.layer;
    came = record { stamp = shadow.came.stamp; device = shadow.came.device; number = shadow.came.number };
    are_bytes = AreBytes-drop p.bytes 14 shadow.are_bytes;
    protocol = subst (λ t. is_own of.Proto t ≡ true) (sym (four_proto symbol (const 65536) (const 0) (const 0) (const 65536))) shadow.protocol;
    trim = shadow.trim ∙ sym (below_checked symbol.layer);
    checked = λ h. (let t = shadow.checked (sym (below_checked symbol.layer) ∙ h) in record {
      may = subst (λ w. May w (data_base header first)) (sym same_data) t.may;
      same = strip_datagram p now_there ∙ t.same ∙ ap (λ w. (all w (data_base header first) data_fields).bytes) (sym same_data);
    });
    unchecked = λ h. (let u = shadow.unchecked (sym (below_checked symbol.layer) ∙ h) in record {
      own = λ field e. subst (λ t. is_own field t ≡ true) (sym (four_beside symbol (const 65536) (const 0) (const 0) (const 65536) field e)) (u.own field e);
      same = strip_datagram p now_there ∙ u.same;
    });
    front = λ h. absurd (false≢true (sym (below_bare symbol.layer) ∙ h));
  }
