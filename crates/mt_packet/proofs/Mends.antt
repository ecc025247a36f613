-- Bytes set in a packet with its checksums mended: in which order, and how often.
use Rattle.std.proofs.Common.{◌≡◌, ◌∙◌, sym, ap, refl, ℕ, ◌+◌, ◌/◌, ◌%◌, ◌<◌, ◌≤◌, List, [], ◌∷◌, ◌++◌, length, get_or, set, take, sum, Bool, true, false, cond, ◌&&◌, ◌||◌, arith}
use Rattle.std.proofs.lemmas.Bool.Decides.{nat_tests}
use Rattle.std.proofs.lemmas.List.{length-set, set-get_or}
use Rattle.mt_packet.proofs.Puts.{put_two-again, two-put}
use Rattle.mt_packet.proofs.Right.{take-put_two-beyond}
use Rattle.mt_packet.proofs.Spots.{Spot, low, high, offset_of, sets, clear, disjoint, renew, beyond, Holds, sets-length, sets-at, sets-sets, sets-same, sets-again, take-sets}
use Rattle.mt_packet.proofs.Sums.{sum-append, written-twice}
use Rattle.mt_packet.specs.Checksum.{words_of, negative_of, transport_after_write}
use Rattle.mt_packet.specs.Field.{two_bytes_at}
use Rattle.mt_packet.specs.Write.{put_two}

-- what a write looks up in a packet: the length of the header, where the transport checksum stands behind
-- it, the protocol, and whether ports are visible
pub record Context : Type 0 where
  pub header : ℕ
  pub distance : ℕ
  pub protocol : ℕ
  pub ports : Bool

-- a write: the bytes that it sets, which checksums it mends, and the words that it replaces
pub record Change : Type 0 where
  pub bytes : List (Spot × ℕ)
  pub in_header : Bool
  pub in_transport : Bool
  pub old : List ℕ
  pub new : List ℕ

-- the header checksum of a packet whose header has some length
abbrev pub sum_of : ℕ → List ℕ → ℕ
sum_of h d = negative_of (sum (words_of (take h (put_two d 10 0))))

abbrev pub mend_header : ℕ → Bool → List ℕ → List ℕ
mend_header h b d = cond b (put_two d 10 (sum_of h d)) d

abbrev pub mend_transport : Context → Bool → List ℕ → List ℕ → List ℕ → List ℕ
mend_transport x b old new d =
    cond b (put_two d (x.header + x.distance) (transport_after_write x.protocol (two_bytes_at d (x.header + x.distance)) old new)) d

-- the packet with its bytes set and its checksums mended
abbrev pub perform : Context → Change → List ℕ → List ℕ
perform x w d =
    mend_transport x (w.in_transport && x.ports) w.old w.new (mend_header x.header w.in_header (sets x.header w.bytes d))

-- the bytes set stand apart from both checksums
pub record Clear (x : Context) (ws : List (Spot × ℕ)) : Type 0 where
  pub c10 : clear ws (low 10) ≡ true
  pub c11 : clear ws (low 11) ≡ true
  pub c_first : clear ws (high x.distance) ≡ true
  pub c_second : clear ws (high (x.distance + 1)) ≡ true

abbrev pub sum_bytes : ℕ → List (Spot × ℕ)
sum_bytes v = (low 10, v / 256 % 256) ∷ (low 11, v % 256) ∷ []

abbrev pub far_bytes : ℕ → ℕ → List (Spot × ℕ)
far_bytes k v = (high k, v / 256 % 256) ∷ (high (k + 1), v % 256) ∷ []

both : (a b : Bool) → a ≡ true → b ≡ true → (a && (b && true)) ≡ true
both true true p q = refl
both true false p q = cc
both false b p q = cc

far-put : (h k v : ℕ) (d : List ℕ) → put_two d (h + k) v ≡ sets h (far_bytes k v) d
far-put h k v d =
    let e : h + k + 1 ≡ h + (k + 1) = omega arith in
    ap (λ n. set (set d (h + k) (v / 256 % 256)) n (v % 256)) e

-- bytes are set before or behind a checksum
sets-header : (x : Context) (ws : List (Spot × ℕ)) (d : List ℕ) (v : ℕ) → 20 ≤ x.header → Clear x ws
    → sets x.header ws (put_two d 10 v) ≡ put_two (sets x.header ws d) 10 v
sets-header x ws d v least c =
    sets-sets x.header ws (sum_bytes v) d least (both (clear ws (low 10)) (clear ws (low 11)) c.c10 c.c11)

sets-far : (x : Context) (ws : List (Spot × ℕ)) (d : List ℕ) (v : ℕ) → 20 ≤ x.header
    → clear ws (high x.distance) ≡ true → clear ws (high (x.distance + 1)) ≡ true
    → sets x.header ws (put_two d (x.header + x.distance) v) ≡ put_two (sets x.header ws d) (x.header + x.distance) v
sets-far x ws d v least p q =
    ap (sets x.header ws) (far-put x.header x.distance v d)
    ∙ sets-sets x.header ws (far_bytes x.distance v) d least (both (clear ws (high x.distance)) (clear ws (high (x.distance + 1))) p q)
    ∙ sym (far-put x.header x.distance v (sets x.header ws d))

far-held : (x : Context) (ws : List (Spot × ℕ)) (d : List ℕ) → 20 ≤ x.header
    → clear ws (high x.distance) ≡ true → clear ws (high (x.distance + 1)) ≡ true
    → two_bytes_at (sets x.header ws d) (x.header + x.distance) ≡ two_bytes_at d (x.header + x.distance)
far-held x ws d least p q =
    let e : x.header + (x.distance + 1) ≡ x.header + x.distance + 1 = omega arith in
    let a = sets-at x.header ws (high x.distance) d least p in
    let b : get_or (sets x.header ws d) (x.header + x.distance + 1) 0 ≡ get_or d (x.header + x.distance + 1) 0
    = ap (λ n. get_or (sets x.header ws d) n 0) (sym e) ∙ sets-at x.header ws (high (x.distance + 1)) d least q ∙ ap (λ n. get_or d n 0) e in
    cc

sets-transport : (x : Context) (b : Bool) (old new : List ℕ) (ws : List (Spot × ℕ)) (d : List ℕ) → 20 ≤ x.header → Clear x ws
    → sets x.header ws (mend_transport x b old new d) ≡ mend_transport x b old new (sets x.header ws d)
sets-transport x true old new ws d least c =
    sets-far x ws d _ least c.c_first c.c_second
    ∙ ap (λ n. put_two (sets x.header ws d) (x.header + x.distance) (transport_after_write x.protocol n old new))
    (sym (far-held x ws d least c.c_first c.c_second))
sets-transport x false old new ws d least c = refl

-- the header checksum does not go by what stands behind the header
sum-far : (x : Context) (d : List ℕ) (v : ℕ) → 20 ≤ x.header → sum_of x.header (put_two d (x.header + x.distance) v) ≡ sum_of x.header d
sum-far x d v least =
    ap (λ b. negative_of (sum (words_of (take x.header b)))) (sets-far x (sum_bytes 0) d v least refl refl)
    ∙ ap (λ b. negative_of (sum (words_of b)))
    (take-put_two-beyond x.header (put_two d 10 0) (x.header + x.distance) v (omega arith))

header-transport : (x : Context) (a b : Bool) (old new : List ℕ) (d : List ℕ) → 20 ≤ x.header
    → mend_header x.header a (mend_transport x b old new d) ≡ mend_transport x b old new (mend_header x.header a d)
header-transport x true true old new d least =
    ap (λ n. put_two (mend_transport x true old new d) 10 n) (sum-far x d _ least)
    ∙ sets-far x (sum_bytes (sum_of x.header d)) d _ least refl refl
    ∙ ap (λ n. put_two (put_two d 10 (sum_of x.header d)) (x.header + x.distance) (transport_after_write x.protocol n old new))
    (sym (far-held x (sum_bytes (sum_of x.header d)) d least refl refl))
header-transport x true false old new d least = refl
header-transport x false b old new d least = refl

-- the header checksum does not go by the one that stood there
sum-again : (h : ℕ) (d : List ℕ) (v : ℕ) → sum_of h (put_two d 10 v) ≡ sum_of h d
sum-again h d v = ap (λ b. negative_of (sum (words_of (take h b)))) (put_two-again d 10 v 0)

header-again : (h : ℕ) (d : List ℕ) (v : ℕ) → mend_header h true (put_two d 10 v) ≡ mend_header h true d
header-again h d v =
    ap (λ n. put_two (put_two d 10 v) 10 n) (sum-again h d v) ∙ put_two-again d 10 v (sum_of h d)

header-beyond : (x : Context) (ws : List (Spot × ℕ)) (d : List ℕ) → 20 ≤ x.header → Clear x ws → beyond ws ≡ true
    → sum_of x.header (sets x.header ws d) ≡ sum_of x.header d
header-beyond x ws d least c far =
    ap (λ b. negative_of (sum (words_of (take x.header b)))) (sym (sets-header x ws d 0 least c))
    ∙ ap (λ b. negative_of (sum (words_of b))) (take-sets x.header ws (put_two d 10 0) far)

-- a header is mended once for two writes
header-once : (x : Context) (a b : Bool) (ws : List (Spot × ℕ)) (d : List ℕ) → 20 ≤ x.header → Clear x ws → (b ≡ false → beyond ws ≡ true)
    → mend_header x.header b (sets x.header ws (mend_header x.header a d)) ≡ mend_header x.header (b || a) (sets x.header ws d)
header-once x true true ws d least c far =
    ap (mend_header x.header true) (sets-header x ws d (sum_of x.header d) least c)
    ∙ header-again x.header (sets x.header ws d) (sum_of x.header d)
header-once x false true ws d least c far = refl
header-once x true false ws d least c far =
    sets-header x ws d (sum_of x.header d) least c
    ∙ ap (λ n. put_two (sets x.header ws d) 10 n) (sym (header-beyond x ws d least c (far refl)))
header-once x false false ws d least c far = refl

-- two writes, in a form that tells little of their order
pub perform-twice : (x : Context) (w u : Change) (d : List ℕ) → 20 ≤ x.header → Clear x w.bytes → Clear x u.bytes
    → (u.in_header ≡ false → beyond u.bytes ≡ true)
    → perform x u (perform x w d)
    ≡ mend_transport x (u.in_transport && x.ports) u.old u.new
    (mend_transport x (w.in_transport && x.ports) w.old w.new
    (mend_header x.header (u.in_header || w.in_header) (sets x.header u.bytes (sets x.header w.bytes d))))
perform-twice x w u d least c k far =
    ap (λ e. mend_transport x (u.in_transport && x.ports) u.old u.new (mend_header x.header u.in_header e))
    (sets-transport x (w.in_transport && x.ports) w.old w.new u.bytes (mend_header x.header w.in_header (sets x.header w.bytes d)) least k)
    ∙ ap (mend_transport x (u.in_transport && x.ports) u.old u.new)
    (header-transport x u.in_header (w.in_transport && x.ports) w.old w.new (sets x.header u.bytes (mend_header x.header w.in_header (sets x.header w.bytes d))) least
    ∙ ap (mend_transport x (w.in_transport && x.ports) w.old w.new)
    (header-once x w.in_header u.in_header u.bytes (sets x.header w.bytes d) least k far))

-- the transport checksum of two writes
after-range : (protocol c : ℕ) (old new : List ℕ) → transport_after_write protocol c old new ≤ 65535
after-range protocol c old new = grind (arith, nat_tests)

transport-twice : (x : Context) (o n o2 n2 : List ℕ) (d : List ℕ) → x.header + x.distance + 1 < length d
    → mend_transport x true o2 n2 (mend_transport x true o n d)
    ≡ put_two d (x.header + x.distance)
    (transport_after_write x.protocol (two_bytes_at d (x.header + x.distance)) (o ++ o2) (n ++ n2))
transport-twice x o n o2 n2 d within =
    let c = x.header + x.distance in
    let first = transport_after_write x.protocol (two_bytes_at d c) o n in
    let small : transport_after_write x.protocol (two_bytes_at d c) o n ≤ 65535 = after-range x.protocol (two_bytes_at d c) o n in
    let read = two-put d c first within in
    let held : two_bytes_at (put_two d c first) c ≡ first = read ∙ remains first small in
    put_two-again d c first (transport_after_write x.protocol (two_bytes_at (put_two d c first) c) o2 n2)
    ∙ ap (λ m. put_two d c (transport_after_write x.protocol m o2 n2)) held
    ∙ ap (put_two d c) (written-twice x.protocol (two_bytes_at d c) o n o2 n2)
  where
    remains : (m : ℕ) → m ≤ 65535 → m % 65536 ≡ m
    remains m small = omega arith

-- only the sums of the words count
after-sums : (protocol c : ℕ) (o n o2 n2 : List ℕ) → sum o ≡ sum o2 → sum n ≡ sum n2
    → transport_after_write protocol c o n ≡ transport_after_write protocol c o2 n2
after-sums protocol c o n o2 n2 p q = cc

after-exchanged : (protocol c : ℕ) (o n o2 n2 : List ℕ)
    → transport_after_write protocol c (o ++ o2) (n ++ n2) ≡ transport_after_write protocol c (o2 ++ o) (n2 ++ n)
after-exchanged protocol c o n o2 n2 =
    let a = sum-append o o2 in
    let b = sum-append o2 o in
    let e = sum-append n n2 in
    let f = sum-append n2 n in
    after-sums protocol c (o ++ o2) (n ++ n2) (o2 ++ o) (n2 ++ n) (omega arith) (omega arith)

telescope : (c so sn sm s2 : ℕ) → sm ≡ sn → (c + (so + sm) + negative_of (sn + s2)) % 65535 ≡ (c + so + negative_of s2) % 65535
telescope c so sn sm s2 e = omega arith

-- words that were written and are replaced again count for nothing
after-replaced : (protocol c : ℕ) (o n m n2 : List ℕ) → sum m ≡ sum n
    → transport_after_write protocol c (o ++ m) (n ++ n2) ≡ transport_after_write protocol c o n2
after-replaced protocol c o n m n2 e =
    let a = sum-append o m in
    let b = sum-append n n2 in
    let t = telescope c (sum o) (sum n) (sum m) (sum n2) e in
    let u : (c + sum (o ++ m) + negative_of (sum (n ++ n2))) % 65535 ≡ (c + sum o + negative_of (sum n2)) % 65535 = cc in
    cc

transport-exchanged : (x : Context) (t u : Bool) (o n o2 n2 : List ℕ) (d : List ℕ) → (x.ports ≡ true → x.header + x.distance + 1 < length d)
    → mend_transport x (u && x.ports) o2 n2 (mend_transport x (t && x.ports) o n d)
    ≡ mend_transport x (t && x.ports) o n (mend_transport x (u && x.ports) o2 n2 d)
transport-exchanged x false false o n o2 n2 d within = refl
transport-exchanged x false true o n o2 n2 d within = refl
transport-exchanged x true false o n o2 n2 d within = refl
transport-exchanged x true true o n o2 n2 d within = by_ports x.ports within
  where
    by_ports : (b : Bool) → (b ≡ true → x.header + x.distance + 1 < length d)
        → mend_transport x b o2 n2 (mend_transport x b o n d) ≡ mend_transport x b o n (mend_transport x b o2 n2 d)
    by_ports false w = refl
    by_ports true w =
        transport-twice x o n o2 n2 d (w refl)
        ∙ ap (put_two d (x.header + x.distance)) (after-exchanged x.protocol (two_bytes_at d (x.header + x.distance)) o n o2 n2)
        ∙ sym (transport-twice x o2 n2 o n d (w refl))

transport-replaced : (x : Context) (t : Bool) (o n m n2 : List ℕ) (d : List ℕ) → (x.ports ≡ true → x.header + x.distance + 1 < length d)
    → sum m ≡ sum n
    → mend_transport x (t && x.ports) m n2 (mend_transport x (t && x.ports) o n d) ≡ mend_transport x (t && x.ports) o n2 d
transport-replaced x false o n m n2 d within e = refl
transport-replaced x true o n m n2 d within e = by_ports x.ports within
  where
    by_ports : (b : Bool) → (b ≡ true → x.header + x.distance + 1 < length d)
        → mend_transport x b m n2 (mend_transport x b o n d) ≡ mend_transport x b o n2 d
    by_ports false w = refl
    by_ports true w =
        transport-twice x o n m n2 d (w refl)
        ∙ ap (put_two d (x.header + x.distance)) (after-replaced x.protocol (two_bytes_at d (x.header + x.distance)) o n m n2 e)

header-length : (h : ℕ) (b : Bool) (d : List ℕ) → length (mend_header h b d) ≡ length d
header-length h true d =
    length-set (set d 10 (sum_of h d / 256 % 256)) 11 (sum_of h d % 256) ∙ length-set d 10 (sum_of h d / 256 % 256)
header-length h false d = refl

-- writes of bytes at other spots, in either order
pub perform-exchanged : (x : Context) (w u : Change) (d : List ℕ) → 20 ≤ x.header → Clear x w.bytes → Clear x u.bytes
    → (w.in_header ≡ false → beyond w.bytes ≡ true) → (u.in_header ≡ false → beyond u.bytes ≡ true)
    → disjoint u.bytes w.bytes ≡ true → (x.ports ≡ true → x.header + x.distance + 1 < length d)
    → perform x u (perform x w d) ≡ perform x w (perform x u d)
perform-exchanged x w u d least c k far_w far_u apart within =
    let inner = mend_header x.header (u.in_header || w.in_header) (sets x.header u.bytes (sets x.header w.bytes d)) in
    let n : length (mend_header x.header (u.in_header || w.in_header) (sets x.header u.bytes (sets x.header w.bytes d))) ≡ length d
    = header-length x.header (u.in_header || w.in_header) (sets x.header u.bytes (sets x.header w.bytes d))
    ∙ sets-length x.header u.bytes (sets x.header w.bytes d) ∙ sets-length x.header w.bytes d in
    perform-twice x w u d least c k far_u
    ∙ transport-exchanged x w.in_transport u.in_transport w.old w.new u.old u.new inner (λ p. let l = within p in omega arith)
    ∙ ap (λ e. mend_transport x (w.in_transport && x.ports) w.old w.new (mend_transport x (u.in_transport && x.ports) u.old u.new e))
    (ap (λ b. mend_header x.header b (sets x.header u.bytes (sets x.header w.bytes d))) (either-order u.in_header w.in_header)
    ∙ ap (mend_header x.header (w.in_header || u.in_header)) (sets-sets x.header u.bytes w.bytes d least apart))
    ∙ sym (perform-twice x u w d least k c far_w)
  where
    either-order : (a b : Bool) → (a || b) ≡ (b || a)
    either-order true true = refl
    either-order true false = refl
    either-order false true = refl
    either-order false false = refl

-- a write over a write of the same bytes, by what the second alone would be
pub record Over (w u v : Change) : Type 0 where
  pub same_bytes : u.bytes ≡ v.bytes
  pub renewed : renew w.bytes v.bytes ≡ true
  pub header_u : u.in_header ≡ v.in_header
  pub header_w : w.in_header ≡ v.in_header
  pub transport_u : u.in_transport ≡ v.in_transport
  pub transport_w : w.in_transport ≡ v.in_transport
  pub same_new : u.new ≡ v.new
  pub same_old : w.old ≡ v.old
  pub replaced : sum u.old ≡ sum w.new

pub perform-over : (x : Context) (w u v : Change) (d : List ℕ) → 20 ≤ x.header → Clear x w.bytes → Clear x u.bytes
    → (u.in_header ≡ false → beyond u.bytes ≡ true) → Over w u v → (x.ports ≡ true → x.header + x.distance + 1 < length d)
    → perform x u (perform x w d) ≡ perform x v d
perform-over x w u v d least c k far o within =
    let n : length (mend_header x.header (u.in_header || w.in_header) (sets x.header u.bytes (sets x.header w.bytes d))) ≡ length d
    = header-length x.header (u.in_header || w.in_header) (sets x.header u.bytes (sets x.header w.bytes d))
    ∙ sets-length x.header u.bytes (sets x.header w.bytes d) ∙ sets-length x.header w.bytes d in
    perform-twice x w u d least c k far
    ∙ ap (λ t. mend_transport x (u.in_transport && x.ports) u.old u.new (mend_transport x (t && x.ports) w.old w.new (mend_header x.header (u.in_header || w.in_header) (sets x.header u.bytes (sets x.header w.bytes d)))))
    (o.transport_w ∙ sym o.transport_u)
    ∙ transport-replaced x u.in_transport w.old w.new u.old u.new (mend_header x.header (u.in_header || w.in_header) (sets x.header u.bytes (sets x.header w.bytes d))) (λ p. let l = within p in omega arith) o.replaced
    ∙ ap (λ t. mend_transport x (t && x.ports) w.old u.new (mend_header x.header (u.in_header || w.in_header) (sets x.header u.bytes (sets x.header w.bytes d)))) o.transport_u
    ∙ ap (λ l. mend_transport x (v.in_transport && x.ports) l u.new (mend_header x.header (u.in_header || w.in_header) (sets x.header u.bytes (sets x.header w.bytes d)))) o.same_old
    ∙ ap (λ l. mend_transport x (v.in_transport && x.ports) v.old l (mend_header x.header (u.in_header || w.in_header) (sets x.header u.bytes (sets x.header w.bytes d)))) o.same_new
    ∙ ap (mend_transport x (v.in_transport && x.ports) v.old v.new)
    (ap (λ b. mend_header x.header b (sets x.header u.bytes (sets x.header w.bytes d))) (twice u.in_header w.in_header v.in_header o.header_u o.header_w)
    ∙ ap (mend_header x.header v.in_header)
    (ap (λ b. sets x.header b (sets x.header w.bytes d)) o.same_bytes ∙ sets-again x.header w.bytes v.bytes d least o.renewed))
  where
    twice : (a b e : Bool) → a ≡ e → b ≡ e → (a || b) ≡ e
    twice true b e p q = p
    twice false b e p q = q

-- a byte at a spot that a write leaves
pub perform-at : (x : Context) (w : Change) (s : Spot) (d : List ℕ) → 20 ≤ x.header → clear w.bytes s ≡ true
    → ((v : ℕ) → clear (sum_bytes v) s ≡ true) → ((v : ℕ) → clear (far_bytes x.distance v) s ≡ true)
    → get_or (perform x w d) (offset_of x.header s) 0 ≡ get_or d (offset_of x.header s) 0
perform-at x w s d least c near far =
    at_transport (w.in_transport && x.ports) (mend_header x.header w.in_header (sets x.header w.bytes d))
    ∙ at_header w.in_header (sets x.header w.bytes d)
    ∙ sets-at x.header w.bytes s d least c
  where
    at_header : (b : Bool) (e : List ℕ) → get_or (mend_header x.header b e) (offset_of x.header s) 0 ≡ get_or e (offset_of x.header s) 0
    at_header true e = sets-at x.header (sum_bytes (sum_of x.header e)) s e least (near (sum_of x.header e))
    at_header false e = refl

    at_transport : (b : Bool) (e : List ℕ) → get_or (mend_transport x b w.old w.new e) (offset_of x.header s) 0 ≡ get_or e (offset_of x.header s) 0
    at_transport true e =
        let v = transport_after_write x.protocol (two_bytes_at e (x.header + x.distance)) w.old w.new in
        ap (λ l. get_or l (offset_of x.header s) 0) (far-put x.header x.distance v e)
        ∙ sets-at x.header (far_bytes x.distance v) s e least (far v)
    at_transport false e = refl

-- a number that stands there is put there
put_two-same : (d : List ℕ) (p : ℕ) → ((i : ℕ) → get_or d i 0 < 256) → put_two d p (two_bytes_at d p) ≡ d
put_two-same d p bytes =
    let a = bytes p in
    let b = bytes (p + 1) in
    let e : two_bytes_at d p / 256 % 256 ≡ get_or d p 0 = omega arith in
    let f : two_bytes_at d p % 256 ≡ get_or d (p + 1) 0 = omega arith in
    ap (λ v. set (set d p v) (p + 1) (two_bytes_at d p % 256)) e
    ∙ ap (λ l. set l (p + 1) (two_bytes_at d p % 256)) (set-get_or d p 0)
    ∙ ap (λ v. set d (p + 1) v) f
    ∙ set-get_or d (p + 1) 0

-- a write of bytes that are held, in a packet whose checksums have their written form, changes nothing
pub perform-same : (x : Context) (w : Change) (d : List ℕ) → ((i : ℕ) → get_or d i 0 < 256) → Holds x.header w.bytes d
    → (w.in_header ≡ true → sum_of x.header d ≡ two_bytes_at d 10)
    → ((w.in_transport && x.ports) ≡ true → transport_after_write x.protocol (two_bytes_at d (x.header + x.distance)) w.old w.new ≡ two_bytes_at d (x.header + x.distance))
    → perform x w d ≡ d
perform-same x w d bytes held near far =
    ap (λ e. mend_transport x (w.in_transport && x.ports) w.old w.new (mend_header x.header w.in_header e)) (sets-same x.header w.bytes d held)
    ∙ ap (mend_transport x (w.in_transport && x.ports) w.old w.new) (same_header w.in_header near)
    ∙ same_transport (w.in_transport && x.ports) far
  where
    same_header : (b : Bool) → (b ≡ true → sum_of x.header d ≡ two_bytes_at d 10) → mend_header x.header b d ≡ d
    same_header true h = ap (put_two d 10) (h refl) ∙ put_two-same d 10 bytes
    same_header false h = refl

    same_transport : (b : Bool) → (b ≡ true → transport_after_write x.protocol (two_bytes_at d (x.header + x.distance)) w.old w.new ≡ two_bytes_at d (x.header + x.distance))
        → mend_transport x b w.old w.new d ≡ d
    same_transport true h = ap (put_two d (x.header + x.distance)) (h refl) ∙ put_two-same d (x.header + x.distance) bytes
    same_transport false h = refl

-- the checksums after a write
pub header-after : (x : Context) (w : Change) (d : List ℕ) → 20 ≤ x.header → 20 ≤ length d → Clear x w.bytes
    → (w.in_header ≡ false → two_bytes_at d 10 ≤ 65534) → two_bytes_at (perform x w d) 10 ≤ 65534
header-after x w d least long c held =
    let e = mend_header x.header w.in_header (sets x.header w.bytes d) in
    let t = at_transport (w.in_transport && x.ports) (mend_header x.header w.in_header (sets x.header w.bytes d)) in
    let m = at_header w.in_header held in
    omega arith
  where
    left_there : (d : List ℕ) (ws : List (Spot × ℕ)) → clear ws (low 10) ≡ true → clear ws (low 11) ≡ true
        → two_bytes_at (sets x.header ws d) 10 ≡ two_bytes_at d 10
    left_there d ws p q =
        let a = sets-at x.header ws (low 10) d least p in
        let b = sets-at x.header ws (low 11) d least q in
        cc

    at_transport : (b : Bool) (e : List ℕ) → two_bytes_at (mend_transport x b w.old w.new e) 10 ≡ two_bytes_at e 10
    at_transport true e =
        let v = transport_after_write x.protocol (two_bytes_at e (x.header + x.distance)) w.old w.new in
        ap (λ l. two_bytes_at l 10) (far-put x.header x.distance v e) ∙ left_there e (far_bytes x.distance v) refl refl
    at_transport false e = refl

    at_header : (b : Bool) → (b ≡ false → two_bytes_at d 10 ≤ 65534) → two_bytes_at (mend_header x.header b (sets x.header w.bytes d)) 10 ≤ 65534
    at_header true h =
        let n = sets-length x.header w.bytes d in
        let r = two-put (sets x.header w.bytes d) 10 (sum_of x.header (sets x.header w.bytes d)) (omega arith) in
        omega arith
    at_header false h = let s = left_there d w.bytes c.c10 c.c11 in let l = h refl in omega arith

pub transport-after : (x : Context) (w : Change) (d : List ℕ) → 20 ≤ x.header → Clear x w.bytes
    → (x.ports ≡ true → x.header + x.distance + 1 < length d) → x.ports ≡ true → x.protocol ≡ 6
    → ((w.in_transport && x.ports) ≡ false → two_bytes_at d (x.header + x.distance) ≤ 65534)
    → two_bytes_at (perform x w d) (x.header + x.distance) ≤ 65534
transport-after x w d least c within ports tcp held =
    by_flag (w.in_transport && x.ports) held
  where
    inner : List ℕ
    inner = mend_header x.header w.in_header (sets x.header w.bytes d)

    tcp-range : (protocol n : ℕ) → protocol ≡ 6 → transport_after_write protocol n w.old w.new ≤ 65534
    tcp-range protocol n e = grind (arith, nat_tests)

    by_flag : (b : Bool) → (b ≡ false → two_bytes_at d (x.header + x.distance) ≤ 65534)
        → two_bytes_at (mend_transport x b w.old w.new (mend_header x.header w.in_header (sets x.header w.bytes d))) (x.header + x.distance) ≤ 65534
    by_flag true h =
        let n = header-length x.header w.in_header (sets x.header w.bytes d) in
        let m = sets-length x.header w.bytes d in
        let l = within ports in
        let v = transport_after_write x.protocol (two_bytes_at (mend_header x.header w.in_header (sets x.header w.bytes d)) (x.header + x.distance)) w.old w.new in
        let r = two-put (mend_header x.header w.in_header (sets x.header w.bytes d)) (x.header + x.distance) (transport_after_write x.protocol (two_bytes_at (mend_header x.header w.in_header (sets x.header w.bytes d)) (x.header + x.distance)) w.old w.new) (omega arith) in
        let s = tcp-range x.protocol (two_bytes_at (mend_header x.header w.in_header (sets x.header w.bytes d)) (x.header + x.distance)) tcp in
        omega arith
    by_flag false h =
        let a = at_header w.in_header (sets x.header w.bytes d) in
        let b = far-held x w.bytes d least c.c_first c.c_second in
        let l = h refl in
        omega arith
      where
        at_header : (b : Bool) (e : List ℕ) → two_bytes_at (mend_header x.header b e) (x.header + x.distance) ≡ two_bytes_at e (x.header + x.distance)
        at_header true e = far-held x (sum_bytes (sum_of x.header e)) e least refl refl
        at_header false e = refl
