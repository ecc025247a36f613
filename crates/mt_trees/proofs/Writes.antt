-- Writes of several fields, one after the other: one write more is a write in its field's place.
use Rattle.std.proofs.Common.{◌≡◌, ◌≢◌, ◌∙◌, sym, ap, refl, ℕ, Bool, true, false, List, [], ◌∷◌, arith}
use Rattle.std.specs.Prelude.{Option, Some, None, ◌==◌, if◌then◌else◌, slice_get}
use Rattle.std.proofs.lemmas.Bool.{false≢true}
use Rattle.std.proofs.lemmas.Bool.Decides.{nat_tests}
use Rattle.std.proofs.lemmas.Option.{none-some}
use Rattle.mt_packet.proofs.PacketWrites.{last-write-wins, writes-commute, writes-stay-allowed}
use Rattle.mt_packet.specs.Header.{fields, number_of}
use Rattle.mt_packet.specs.Packet.{PacketState, with_field, CanWrite}
use Rattle.mt_packet.specs.declared.field.Field.{Field}
use Rattle.mt_packet.specs.declared.field.Field.TheVariants.{Device, EthType, EthDst, EthSrc, ArpOp, Proto, Src, Dst, Dscp, Ecn, Sport, Dport, IcmpType, IpOk, Ports, Mf, FragOff, Ttl, Syn, Ack, Fin, Rst, Paint, Annotation}

pub unsome : {A : Type 0} (x y : A) → Some x ≡ Some y → x ≡ y
unsome x y e = ap (λ o. elim o as (λ _. _) [ Some z ↦ z | None ↦ x ]) e

-- ---- fields by their numbers

number_here : (f : Field) → slice_get fields (number_of f) ≡ Some f
number_here Device = refl
number_here EthType = refl
number_here EthDst = refl
number_here EthSrc = refl
number_here ArpOp = refl
number_here Proto = refl
number_here Src = refl
number_here Dst = refl
number_here Dscp = refl
number_here Ecn = refl
number_here Sport = refl
number_here Dport = refl
number_here IcmpType = refl
number_here IpOk = refl
number_here Ports = refl
number_here Mf = refl
number_here FragOff = refl
number_here Ttl = refl
number_here Syn = refl
number_here Ack = refl
number_here Fin = refl
number_here Rst = refl
number_here Paint = refl
number_here Annotation = refl

abbrev pub is_same : Field → Field → Bool
is_same g f = number_of g == number_of f

equal_numbers : (a b : ℕ) → (a == b) ≡ true → a ≡ b
equal_numbers a b e = grind (arith, nat_tests)

number_itself : (n : ℕ) → (n == n) ≡ true
number_itself n = grind (arith, nat_tests)

pub same_number : (g f : Field) → number_of g ≡ number_of f → g ≡ f
same_number g f e = unsome g f (sym (number_here g) ∙ ap (slice_get fields) e ∙ number_here f)

pub one_field : (g f : Field) → is_same g f ≡ true → g ≡ f
one_field g f e = same_number g f (equal_numbers _ _ e)

pub two_fields : (g f : Field) → is_same g f ≡ false → g ≢ f
two_fields g f e same = false≢true (sym e ∙ ap (λ h. is_same h f) same ∙ number_itself (number_of f))

pub other_field : (g f : Field) → g ≢ f → is_same g f ≡ false
other_field g f apart = either (is_same g f) refl
  where
    either : (b : Bool) → is_same g f ≡ b → is_same g f ≡ false
    either true e = absurd (apart (one_field g f e))
    either false e = e

-- ---- writes of some fields, in the order of a list

abbrev pub opt : PacketState → Field → Option ℕ → PacketState
opt p f None = p
opt p f (Some v) = with_field p f v

abbrev pub all : (Field → Option ℕ) → PacketState → List Field → PacketState
all t p [] = p
all t p (f ∷ fs) = all t (opt p f (t f)) fs

-- what is written may be written
abbrev pub May : (Field → Option ℕ) → PacketState → Type 0
May t p = (f : Field) (v : ℕ) → t f ≡ Some v → CanWrite p f v

may_opt : (t : Field → Option ℕ) (p : PacketState) (g : Field) (o : Option ℕ) → t g ≡ o → (u : Field → Option ℕ) → May t p → May u p → May u (opt p g o)
may_opt t p g None e u m n = n
may_opt t p g (Some w) e u m n = λ f v is. writes-stay-allowed p g f w v (m g w e) (n f v is)

can_opt : (t : Field → Option ℕ) (p : PacketState) (g : Field) (o : Option ℕ) → t g ≡ o → May t p → (f : Field) (v : ℕ) → CanWrite p f v → CanWrite (opt p g o) f v
can_opt t p g None e m f v c = c
can_opt t p g (Some w) e m f v c = writes-stay-allowed p g f w v (m g w e) c

-- and may still be written behind them
pub can_all : (t : Field → Option ℕ) (fs : List Field) (p : PacketState) → May t p → (f : Field) (v : ℕ) → CanWrite p f v → CanWrite (all t p fs) f v
can_all t [] p m f v c = c
can_all t (g ∷ gs) p m f v c = can_all t gs (opt p g (t g)) (may_opt t p g (t g) refl t m m) f v (can_opt t p g (t g) refl m f v c)

exchanged : (t : Field → Option ℕ) (p : PacketState) (g : Field) (o : Option ℕ) → t g ≡ o → (f : Field) (v : ℕ) → t f ≡ None → May t p → CanWrite p f v
    → with_field (opt p g o) f v ≡ opt (with_field p f v) g o
exchanged t p g None e f v gone m c = refl
exchanged t p g (Some w) e f v gone m c = writes-commute p g f w v (λ s. none-some w (sym gone ∙ ap t (sym s) ∙ e)) (m g w e) c

-- a write of a field that the others leave goes before them
pushed : (t : Field → Option ℕ) (fs : List Field) (p : PacketState) (f : Field) (v : ℕ) → t f ≡ None → May t p → CanWrite p f v
    → with_field (all t p fs) f v ≡ all t (with_field p f v) fs
pushed t [] p f v gone m c = refl
pushed t (g ∷ gs) p f v gone m c =
    pushed t gs (opt p g (t g)) f v gone (may_opt t p g (t g) refl t m m) (can_opt t p g (t g) refl m f v c)
    ∙ ap (λ q. all t q gs) (exchanged t p g (t g) refl f v gone m c)

-- ---- a field that stands once in a list

abbrev never : Field → List Field → Bool
never f [] = true
never f (g ∷ gs) = if is_same g f then false else never f gs

abbrev pub once : Field → List Field → Bool
once f [] = false
once f (g ∷ gs) = if is_same g f then never f gs else once f gs

-- two lists of writes that differ at one field at most
abbrev pub Beside : Field → (Field → Option ℕ) → (Field → Option ℕ) → Type 0
Beside f t u = (g : Field) → g ≢ f → u g ≡ t g

alike : (t u : Field → Option ℕ) (f : Field) → Beside f t u → (fs : List Field) → never f fs ≡ true → (p : PacketState) → all u p fs ≡ all t p fs
alike t u f others [] h p = refl
alike t u f others (g ∷ gs) h p = either (λ k. alike t u f others gs k (opt p g (t g))) (is_same g f) refl h
  where
    either : (never f gs ≡ true → all u (opt p g (t g)) gs ≡ all t (opt p g (t g)) gs) → (b : Bool) → is_same g f ≡ b → (if b then false else never f gs) ≡ true
        → all u (opt p g (u g)) gs ≡ all t (opt p g (t g)) gs
    either again true e k = absurd (false≢true k)
    either again false e k = ap (λ o. all u (opt p g o) gs) (others g (two_fields g f e)) ∙ again k

opt_exchanged : (t : Field → Option ℕ) (p : PacketState) (g : Field) (o : Option ℕ) → t g ≡ o → (f : Field) (q : Option ℕ) → t f ≡ None → May t p
    → ((v : ℕ) → q ≡ Some v → CanWrite p f v) → opt (opt p g o) f q ≡ opt (opt p f q) g o
opt_exchanged t p g o e f None gone m c = refl
opt_exchanged t p g o e f (Some v) gone m c = exchanged t p g o e f v gone m (c v refl)

-- a field's write goes before the others
front : (t u : Field → Option ℕ) (f : Field) (o : Option ℕ) → u f ≡ o → t f ≡ None → Beside f t u → (fs : List Field) → once f fs ≡ true
    → (p : PacketState) → May t p → ((v : ℕ) → o ≡ Some v → CanWrite p f v) → all u p fs ≡ all t (opt p f o) fs
front t u f o is gone others [] h p m c = absurd (false≢true h)
front t u f o is gone others (g ∷ gs) h p m c =
    either (λ k. front t u f o is gone others gs k (opt p g (t g)) (may_opt t p g (t g) refl t m m) (λ v e. can_opt t p g (t g) refl m f v (c v e))) (is_same g f) refl h
  where
    at_field : g ≡ f → never f gs ≡ true → all u (opt p g (u g)) gs ≡ all t (opt (opt p f o) g (t g)) gs
    at_field same k =
        ap (λ q. all u q gs) (ap (λ h. opt p h (u h)) same ∙ ap (opt p f) is)
        ∙ alike t u f others gs k (opt p f o)
        ∙ ap (λ q. all t q gs) (ap (opt (opt p f o) f) (sym gone) ∙ ap (λ h. opt (opt p f o) h (t h)) (sym same))

    behind : (once f gs ≡ true → all u (opt p g (t g)) gs ≡ all t (opt (opt p g (t g)) f o) gs) → g ≢ f → once f gs ≡ true → all u (opt p g (u g)) gs ≡ all t (opt (opt p f o) g (t g)) gs
    behind again apart k =
        ap (λ r. all u (opt p g r) gs) (others g apart)
        ∙ again k
        ∙ ap (λ q. all t q gs) (opt_exchanged t p g (t g) refl f o gone m c)

    either : (once f gs ≡ true → all u (opt p g (t g)) gs ≡ all t (opt (opt p g (t g)) f o) gs) → (b : Bool) → is_same g f ≡ b → (if b then never f gs else once f gs) ≡ true
        → all u (opt p g (u g)) gs ≡ all t (opt (opt p f o) g (t g)) gs
    either again true e k = at_field (one_field g f e) k
    either again false e k = behind again (two_fields g f e) k

-- without a field
abbrev without : Field → (Field → Option ℕ) → Field → Option ℕ
without f t g = if is_same g f then None else t g

without_here : (f : Field) (t : Field → Option ℕ) → without f t f ≡ None
without_here f t = ap (λ b. if b then None else t f) (number_itself (number_of f))

without_others : (f : Field) (t : Field → Option ℕ) (g : Field) → g ≢ f → t g ≡ without f t g
without_others f t g apart = ap (λ b. if b then None else t g) (sym (other_field g f apart))

without_may : (f : Field) (t : Field → Option ℕ) (p : PacketState) → May t p → May (without f t) p
without_may f t p m g v is = either (is_same g f) is
  where
    either : (b : Bool) → (if b then None else t g) ≡ Some v → CanWrite p g v
    either true e = absurd (none-some v e)
    either false e = m g v e

over : (t : Field → Option ℕ) (p : PacketState) (f : Field) (v : ℕ) (o : Option ℕ) → t f ≡ o → May t p → CanWrite p f v → with_field (opt p f o) f v ≡ with_field p f v
over t p f v None e m c = refl
over t p f v (Some w) e m c = last-write-wins p f w v (m f w e) c

-- One write more: what is written in its field's place gives the same packet. It is not written at all where that
-- changes nothing.
pub put : (t u : Field → Option ℕ) (f : Field) (v : ℕ) (fs : List Field) (p : PacketState) → once f fs ≡ true → Beside f t u → May t p → May u p → CanWrite p f v
    → with_field p f v ≡ opt p f (u f) → with_field (all t p fs) f v ≡ all u p fs
put t u f v fs p there others m n c same =
    ap (λ q. with_field q f v) (front (without f t) t f (t f) refl (without_here f t) (without_others f t) fs there p (without_may f t p m) (m f))
    ∙ pushed (without f t) fs (opt p f (t f)) f v (without_here f t) (may_opt t p f (t f) refl (without f t) m (without_may f t p m)) (can_opt t p f (t f) refl m f v c)
    ∙ ap (λ q. all (without f t) q fs) (over t p f v (t f) refl m c ∙ same)
    ∙ sym (front (without f t) u f (u f) refl (without_here f t) (λ g apart. others g apart ∙ without_others f t g apart) fs there p (without_may f t p m) (n f))
