-- The leaf of a symbol makes the packet on its way: the frame as it arrived, checked where the symbol was, with the
-- terms written, first those of the Ethernet header, then those of IPv4.
use Rattle.std.proofs.Common.{◌≡◌, ◌∙◌, sym, ap, refl, ℕ, ◌≤◌, Bool, true, false, List, [], ◌∷◌, ◌++◌, length, map, take, drop, arith}
use Rattle.std.specs.Prelude.{Option, Some, None, if◌then◌else◌}
use Rattle.std.specs.List.{flat_map}
use Rattle.std.proofs.lemmas.List.{length-take, length-drop, take-append-drop, take-append-le, take_all}
use Rattle.std.proofs.lemmas.Option.{none-some}
use Rattle.mt_packet.proofs.Forms.{Part, source, destination, code_point, life, source_port, destination_port, written}
use Rattle.mt_packet.proofs.Kept.{datagram_of-with, datagram_of-checked}
use Rattle.mt_packet.proofs.PacketWrites.{Side, type, receiver, sender, ethernet, part, field_for, as-after, side-datagram, can as can_after}
use Rattle.mt_packet.specs.Ipv4.{IsValidIpv4}
use Rattle.mt_packet.specs.Packet.{PacketState, has_ethernet, datagram_of, with_datagram, with_field, checked, checked_datagram, layer_checked, CanWrite, HasEthernet, IsChecked}
use Rattle.mt_packet.specs.declared.field.Field.{Field}
use Rattle.mt_packet.specs.declared.field.Field.TheVariants as of
use Rattle.mt_packet.specs.declared.flow.Flow.{Flow}
use Rattle.mt_packet.specs.declared.layer.Layer.TheVariants.{Frame, Ip}
use Rattle.mt_chain.specs.Run.{stamped_of}
use Rattle.mt_terms.specs.Terms.{value_of, passages_of}
use Rattle.mt_terms.specs.Writes.{WriteForm}
use Rattle.mt_trees.proofs.Parts.{at, Came, same_layer, same_origin, came_again, bare_bytes, part_bytes, can_as, opt_may}
use Rattle.mt_trees.proofs.Shadow.{is_data, of_data, of_front, write_value, data_base, front_base, data_written, front_written, IsTrimmed, IsAsArrived, HasFront, IsShadow}
use Rattle.mt_trees.proofs.Stations.{take_two, take_six}
use Rattle.mt_trees.proofs.Writes.{opt, all, May}
use Rattle.mt_trees.specs.Elements.{is_own, write_of, front_fields, data_fields, rewrite_of}
use Rattle.mt_trees.specs.Meaning.{trimmed, written_all, rewritten, CanWriteAll, CanRewrite}
use Rattle.mt_trees.specs.Symbols.{Symbol, term_at}

-- ---- what came with a frame

opt_came : (p : PacketState) (field : Field) (o : Option ℕ) → Came p (opt p field o)
opt_came p field None = record { stamp = refl; device = refl; number = refl }
opt_came p field (Some v) = same_origin p field v

all_came : (t : Field → Option ℕ) (fs : List Field) (p : PacketState) → Came p (all t p fs)
all_came t [] p = record { stamp = refl; device = refl; number = refl }
all_came t (f ∷ fs) p = came_again p (opt p f (t f)) (all t p (f ∷ fs)) (opt_came p f (t f)) (all_came t fs (opt p f (t f)))

stamped_same : (p q r : PacketState) → Came p q → Came p r → q.bytes ≡ r.bytes → stamped_of q ≡ stamped_of r
stamped_same p q r a b same = λ i. record { stamp = (a.stamp ∙ sym b.stamp) i; device = (a.device ∙ sym b.device) i; number = (a.number ∙ sym b.number) i; frame = same i }

-- nothing is written
none_changes : (t : Field → Option ℕ) (fs : List Field) (p : PacketState) → ((f : Field) → t f ≡ None) → all t p fs ≡ p
none_changes t [] p gone = refl
none_changes t (f ∷ fs) p gone = ap (λ o. all t (opt p f o) fs) (gone f) ∙ none_changes t fs p gone

-- ---- 14 bytes and what is behind them

-- a packet with an Ethernet header, whose first 14 bytes and whose data are these
record IsJoined (p : PacketState) (front data_bytes : List ℕ) : Type 0 where
  there : has_ethernet p.layer ≡ true
  front_is : take 14 p.bytes ≡ front
  data_is : datagram_of p ≡ data_bytes

joined_bytes : (p : PacketState) (front behind : List ℕ) → IsJoined p front behind → p.bytes ≡ front ++ behind
joined_bytes p front behind j =
    sym (take-append-drop 14 p.bytes) ∙ ap (λ f. f ++ drop 14 p.bytes) j.front_is
    ∙ ap (λ d. front ++ d) (sym (ap (λ b. if b then drop 14 p.bytes else p.bytes) j.there) ∙ j.data_is)

joined_same : (p r : PacketState) (front behind : List ℕ) → IsJoined p front behind → IsJoined r front behind → p.bytes ≡ r.bytes
joined_same p r front behind j k = joined_bytes p front behind j ∙ sym (joined_bytes r front behind k)

-- a write into the first 14 bytes
abbrev at_side : Side → Field
at_side s = field_for (ethernet s)

side_front : (s : Side) (p w : PacketState) (v : ℕ) → take 14 p.bytes ≡ w.bytes → take 14 (with_field p (at_side s) v).bytes ≡ (with_field w (at_side s) v).bytes
side_front type p w v e = take_two p.bytes 12 v (omega arith) ∙ ap (λ b. (with_field (record w { bytes = b }) of.EthType v).bytes) e
side_front receiver p w v e = take_six p.bytes 0 v (omega arith) ∙ ap (λ b. (with_field (record w { bytes = b }) of.EthDst v).bytes) e
side_front sender p w v e = take_six p.bytes 6 v (omega arith) ∙ ap (λ b. (with_field (record w { bytes = b }) of.EthSrc v).bytes) e

whole_front : (p w : PacketState) (behind : List ℕ) → HasEthernet w → IsJoined p w.bytes behind → HasEthernet p
whole_front p w behind h j = record {
  is_there = j.there;
  is_whole = let n = length-take 14 p.bytes in let m = ap length j.front_is in let l = h.is_whole in omega (arith, n, m, l);
}

front_opt : (s : Side) (p w : PacketState) (behind : List ℕ) (o : Option ℕ) → ((v : ℕ) → o ≡ Some v → CanWrite w (at_side s) v) → IsJoined p w.bytes behind
    → IsJoined (opt p (at_side s) o) (opt w (at_side s) o).bytes behind
front_opt s p w behind None may j = j
front_opt s p w behind (Some v) may j = record {
  there = ap has_ethernet (same_layer p (at_side s) v) ∙ j.there;
  front_is = side_front s p w v j.front_is;
  data_is = ap datagram_of (as-after p (ethernet s) v) ∙ side-datagram p s v (whole_front p w behind (can_after w (ethernet s) v (may v refl)) j) ∙ j.data_is;
}

front_joined : (t : Field → Option ℕ) (sides : List Side) (p w : PacketState) (behind : List ℕ) → May t w → IsJoined p w.bytes behind
    → IsJoined (all t p (map at_side sides)) (all t w (map at_side sides)).bytes behind
front_joined t [] p w behind may j = j
front_joined t (s ∷ sides) p w behind may j =
    front_joined t sides (opt p (at_side s) (t (at_side s))) (opt w (at_side s) (t (at_side s))) behind (opt_may t w (at_side s) (t (at_side s)) refl may)
    (front_opt s p w behind (t (at_side s)) (may (at_side s)) j)

-- a write into the data
long_joined : (p : PacketState) → has_ethernet p.layer ≡ true → IsChecked p → 14 ≤ length p.bytes
long_joined p there valid =
    let least = valid.has_fixed_part in
    let same = ap (λ b. length (if b then drop 14 p.bytes else p.bytes)) there in
    let n = length-drop 14 p.bytes in
    omega (arith, least, same, n)

front_stays : (p : PacketState) (behind : List ℕ) → has_ethernet p.layer ≡ true → 14 ≤ length p.bytes → take 14 (with_datagram p behind).bytes ≡ take 14 p.bytes
front_stays p behind there long =
    let n : length (take 14 p.bytes) ≡ 14 = length-take 14 p.bytes ∙ omega (arith, long) in
    ap (λ b. take 14 (if b then take 14 p.bytes ++ behind else behind)) there
    ∙ take-append-le 14 (take 14 p.bytes) behind (omega (arith, n))
    ∙ take_all 14 (take 14 p.bytes) (omega (arith, n))

data_opt : (q : Part) (p u : PacketState) (front : List ℕ) (o : Option ℕ) → u.layer ≡ Ip → ((v : ℕ) → o ≡ Some v → CanWrite u (at q) v) → IsJoined p front u.bytes
    → IsJoined (opt p (at q) o) front (opt u (at q) o).bytes
data_opt q p u front None ip may j = j
data_opt q p u front (Some v) ip may j =
    let valid : IsChecked p = (can_after p (part q) v (can_as u p q v (j.data_is ∙ sym (bare_bytes u ip)) (may v refl))).0 in
    record {
      there = ap has_ethernet (same_layer p (at q) v) ∙ j.there;
      front_is = ap (λ r. take 14 r.bytes) (as-after p (part q) v) ∙ front_stays p (written (datagram_of p) q v) j.there (long_joined p j.there valid) ∙ j.front_is;
      data_is = ap datagram_of (as-after p (part q) v) ∙ datagram_of-with p (written (datagram_of p) q v) valid ∙ ap (λ d. written d q v) j.data_is ∙ sym (part_bytes u q v ip);
    }

opt_ip : (u : PacketState) (field : Field) (o : Option ℕ) → u.layer ≡ Ip → (opt u field o).layer ≡ Ip
opt_ip u field None ip = ip
opt_ip u field (Some v) ip = same_layer u field v ∙ ip

data_joined : (t : Field → Option ℕ) (parts : List Part) (p u : PacketState) (front : List ℕ) → u.layer ≡ Ip → May t u → IsJoined p front u.bytes
    → IsJoined (all t p (map at parts)) front (all t u (map at parts)).bytes
data_joined t [] p u front ip may j = j
data_joined t (q ∷ parts) p u front ip may j =
    data_joined t parts (opt p (at q) (t (at q))) (opt u (at q) (t (at q))) front (opt_ip u (at q) (t (at q)) ip) (opt_may t u (at q) (t (at q)) refl may)
    (data_opt q p u front (t (at q)) ip (may (at q)) j)

-- ---- the writes of a leaf

module _ (header : List ℕ) (first : PacketState) (symbol : Symbol) (passed : List Flow) where
  abbrev writes : List Field → List WriteForm
  writes fs = flat_map (λ field. write_of field (term_at symbol field)) fs

  -- some writes are those of these fields
  abbrev AreOf : (Field → Option ℕ) → List Field → Type 0
  AreOf t [] = Unit {0}
  AreOf t (f ∷ fs) = (t f ≡ write_value header first f (term_at symbol f) passed) × AreOf t fs

  -- one after the other
  all_written : (t : Field → Option ℕ) (fs rest : List Field) (p : PacketState) → AreOf t fs → written_all header passed (writes (fs ++ rest)) p ≡ written_all header passed (writes rest) (all t p fs)
  all_written t [] rest p same = refl
  all_written t (f ∷ fs) rest p same =
      either (is_own f (term_at symbol f)) (all_written t fs rest p same.1) (all_written t fs rest (with_field p f (value_of (term_at symbol f) header passed)) same.1)
      ∙ ap (λ o. written_all header passed (writes rest) (all t (opt p f o) fs)) (sym same.0)
    where
      value : ℕ
      value = value_of (term_at symbol f) header passed

      either : (b : Bool) → written_all header passed (writes (fs ++ rest)) p ≡ written_all header passed (writes rest) (all t p fs)
          → written_all header passed (writes (fs ++ rest)) (with_field p f value) ≡ written_all header passed (writes rest) (all t (with_field p f value) fs)
          → written_all header passed ((if b then [] else record { field = f; term = term_at symbol f } ∷ []) ++ writes (fs ++ rest)) p
          ≡ written_all header passed (writes rest) (all t (opt p f (if b then None else Some value)) fs)
      either true as_is more = as_is
      either false as_is more = more

  -- each of them may be made
  all_can : (t : Field → Option ℕ) (fs rest : List Field) (p : PacketState) → AreOf t fs → ((f : Field) → passages_of (term_at symbol f) ≤ length passed) → May t p
      → CanWriteAll header passed (writes rest) p → CanWriteAll header passed (writes (fs ++ rest)) p
  all_can t [] rest p same within may others = others
  all_can t (f ∷ fs) rest p same within may others = either (is_own f (term_at symbol f)) same.0 (all_can t fs rest p same.1 within may others)
    where
      value : ℕ
      value = value_of (term_at symbol f) header passed

      either : (b : Bool) → t f ≡ (if b then None else Some value) → CanWriteAll header passed (writes (fs ++ rest)) p
          → CanWriteAll header passed ((if b then [] else record { field = f; term = term_at symbol f } ∷ []) ++ writes (fs ++ rest)) p
      either true e more = more
      either false e more = (within f, may f value e, more)

  front_are : AreOf (of_front header first symbol passed) front_fields
  front_are = (refl, (refl, (refl, tt)))

  data_are : AreOf (of_data header first symbol passed) data_fields
  data_are = (refl, (refl, (refl, (refl, (refl, (refl, tt))))))

  -- the frame with its front written, and then its data
  abbrev fronted : PacketState → PacketState
  fronted p = all (of_front header first symbol passed) p front_fields

  abbrev filled : PacketState → PacketState
  filled p = all (of_data header first symbol passed) (fronted p) data_fields

  rewritten_is : rewritten header passed (rewrite_of symbol) first ≡ filled (trimmed symbol.trim first)
  rewritten_is =
      all_written (of_front header first symbol passed) front_fields data_fields (trimmed symbol.trim first) front_are
      ∙ all_written (of_data header first symbol passed) data_fields [] (fronted (trimmed symbol.trim first)) data_are

  filled_came : (p : PacketState) → Came p (filled p)
  filled_came p = came_again p (fronted p) (filled p) (all_came (of_front header first symbol passed) front_fields p) (all_came (of_data header first symbol passed) data_fields (fronted p))

  -- what may be written goes by the 14 bytes, and by the data
  front_may : (p : PacketState) (behind : List ℕ) → IsJoined p (front_base header first).bytes behind → May (of_front header first symbol passed) (front_base header first) → May (of_front header first symbol passed) p
  front_may p behind j may of.EthType v e = let c = may of.EthType v e in (whole_front p (front_base header first) behind c.0 j, c.1)
  front_may p behind j may of.EthDst v e = let c = may of.EthDst v e in (whole_front p (front_base header first) behind c.0 j, c.1)
  front_may p behind j may of.EthSrc v e = let c = may of.EthSrc v e in (whole_front p (front_base header first) behind c.0 j, c.1)
  front_may p behind j may field v e = absurd (none-some v e)

  data_may : (p : PacketState) → datagram_of p ≡ datagram_of (data_base header first) → May (of_data header first symbol passed) (data_base header first) → May (of_data header first symbol passed) p
  data_may p same may of.Src v e = can_as (data_base header first) p source v same (may of.Src v e)
  data_may p same may of.Dst v e = can_as (data_base header first) p destination v same (may of.Dst v e)
  data_may p same may of.Dscp v e = can_as (data_base header first) p code_point v same (may of.Dscp v e)
  data_may p same may of.Sport v e = can_as (data_base header first) p source_port v same (may of.Sport v e)
  data_may p same may of.Dport v e = can_as (data_base header first) p destination_port v same (may of.Dport v e)
  data_may p same may of.Ttl v e = can_as (data_base header first) p life v same (may of.Ttl v e)
  data_may p same may field v e = absurd (none-some v e)

  -- ---- a shadow with an Ethernet header

  module _ (p : PacketState) (frame : first.layer ≡ Frame) (shadow : IsShadow header first symbol passed p) (there : has_ethernet symbol.layer ≡ true) (valid : symbol.trim ≡ true → IsValidIpv4 (datagram_of first)) where
    has_front : HasFront header first symbol passed p
    has_front = shadow.front there

    -- the frame before its writes
    start : (b : Bool) → symbol.trim ≡ b → IsJoined (trimmed b first) (front_base header first).bytes (if b then checked_datagram (datagram_of first) else datagram_of first)
    start true e = record {
      there = ap (λ l. has_ethernet (layer_checked l)) frame;
      front_is = front_stays first (checked_datagram (datagram_of first)) (ap has_ethernet frame) (long_joined first (ap has_ethernet frame) (valid e));
      data_is = datagram_of-checked first (valid e);
    }
    start false e = record { there = ap has_ethernet frame; front_is = refl; data_is = refl }

    front_there : (b : Bool) → symbol.trim ≡ b → IsJoined (fronted (trimmed b first)) (front_written header first symbol passed).bytes (if b then checked_datagram (datagram_of first) else datagram_of first)
    front_there b e = front_joined (of_front header first symbol passed) (type ∷ receiver ∷ sender ∷ []) (trimmed b first) (front_base header first) (if b then checked_datagram (datagram_of first) else datagram_of first) has_front.may (start b e)

    behind_check : symbol.trim ≡ true → IsTrimmed header first symbol passed p
    behind_check e = shadow.checked (sym shadow.trim ∙ e)

    before_check : symbol.trim ≡ false → IsAsArrived header first symbol p
    before_check e = shadow.unchecked (sym shadow.trim ∙ e)

    -- before a check no data are written
    no_data : symbol.trim ≡ false → (f : Field) → of_data header first symbol passed f ≡ None
    no_data e f = by_kind (is_data f) refl
      where
        by_kind : (b : Bool) → is_data f ≡ b → of_data header first symbol passed f ≡ None
        by_kind true d = ap (λ b. if b then write_value header first f (term_at symbol f) passed else None) d
            ∙ ap (λ (b : Bool). if b then None else Some (value_of (term_at symbol f) header passed)) ((before_check e).own f d)
        by_kind false d = ap (λ b. if b then write_value header first f (term_at symbol f) passed else None) d

    same_bytes : (b : Bool) → symbol.trim ≡ b → (filled (trimmed b first)).bytes ≡ p.bytes
    same_bytes true e =
        joined_same (filled (checked first)) p (front_written header first symbol passed).bytes (data_written header first symbol passed).bytes
        (data_joined (of_data header first symbol passed) (source ∷ destination ∷ code_point ∷ source_port ∷ destination_port ∷ life ∷ []) (fronted (checked first)) (data_base header first)
        (front_written header first symbol passed).bytes refl (behind_check e).may (front_there true e))
        (record { there = ap has_ethernet shadow.layer ∙ there; front_is = has_front.same; data_is = (behind_check e).same })
    same_bytes false e =
        ap (λ r. r.bytes) (none_changes (of_data header first symbol passed) data_fields (fronted first) (no_data e))
        ∙ joined_same (fronted first) p (front_written header first symbol passed).bytes (datagram_of first) (front_there false e)
        (record { there = ap has_ethernet shadow.layer ∙ there; front_is = has_front.same; data_is = (before_check e).same })

    trimmed_came : (b : Bool) → Came first (trimmed b first)
    trimmed_came true = record { stamp = refl; device = refl; number = refl }
    trimmed_came false = record { stamp = refl; device = refl; number = refl }

    -- the leaf makes the packet
    pub leaf_is : stamped_of (rewritten header passed (rewrite_of symbol) first) ≡ stamped_of p
    leaf_is =
        ap (λ r. stamped_of r) rewritten_is
        ∙ stamped_same first (filled (trimmed symbol.trim first)) p
        (came_again first (trimmed symbol.trim first) (filled (trimmed symbol.trim first)) (trimmed_came symbol.trim) (filled_came (trimmed symbol.trim first)))
        shadow.came (same_bytes symbol.trim refl)

    data_can : (b : Bool) → symbol.trim ≡ b → May (of_data header first symbol passed) (trimmed b first)
    data_can true e = data_may (checked first) (start true e).data_is (behind_check e).may
    data_can false e = λ f v is. absurd (none-some v (sym (no_data e f) ∙ is))

    within : (field : Field) → passages_of (term_at symbol field) ≤ length passed
    within field = let b = shadow.bounded field in let c = shadow.counted in omega (arith, b, c)

    -- and it can be made
    pub leaf_can : CanRewrite header passed (rewrite_of symbol) first
    leaf_can = record {
      valid = valid;
      allowed =
          all_can (of_front header first symbol passed) front_fields data_fields (trimmed symbol.trim first) front_are within
          (front_may (trimmed symbol.trim first) _ (start symbol.trim refl) has_front.may)
          (all_can (of_data header first symbol passed) data_fields [] (trimmed symbol.trim first) data_are within (data_can symbol.trim refl) tt);
    }
