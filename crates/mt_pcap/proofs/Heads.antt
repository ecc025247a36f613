-- Heads and headers as bytes: what is written is read, and the bytes of a file are one that was
-- written.
use Rattle.std.proofs.Common.{◌≡◌, ℕ, ◌+◌, ◌≤◌, List, ◌++◌, length, drop, refl, sym, ap, ◌∙◌, append_assoc, arith}
use Rattle.std.proofs.lemmas.List.{length-append, length-drop, drop-drop}
use Rattle.mt_pcap.specs.declared.form.Order.{Order}
use Rattle.mt_pcap.specs.declared.form.Form.{Form}
use Rattle.mt_pcap.specs.Format.{number, four, two, magic, Header, header_bytes, Head, head_bytes, Fits}
use Rattle.mt_pcap.proofs.Numbers.{IsBytes, IsBytes-drop, length-four, number-four, number-lt, four_split, two_split, drop-four, drop-two}

-- a head and what is behind it, number by number
regroup : (order : Order) (h : Head) (rest : List ℕ) → head_bytes order h ++ rest ≡ four order h.seconds ++ (four order h.fraction ++ (four order h.captured ++ (four order h.original ++ rest)))
unfolding head_bytes
regroup order h rest = simp append_assoc

-- what is read of a head that was written
pub record Reads (order : Order) (h : Head) (rest bytes : List ℕ) : Type 0 where
  pub seconds : number order bytes ≡ h.seconds
  pub fraction : number order (drop 4 bytes) ≡ h.fraction
  pub captured : number order (drop 8 bytes) ≡ h.captured
  pub behind : drop 16 bytes ≡ rest
  pub long : 16 ≤ length bytes

pub length-head_bytes : (order : Order) (h : Head) → length (head_bytes order h) ≡ 16
unfolding head_bytes
length-head_bytes order h = simp (length-append, length-four) refl

pub head_again : (order : Order) (h : Head) (rest : List ℕ) → Fits h → Reads order h rest (head_bytes order h ++ rest)
head_again order h rest fits =
    let r3 = four order h.original ++ rest in
    let r2 = four order h.captured ++ r3 in
    let r1 = four order h.fraction ++ r2 in
    let bytes = four order h.seconds ++ r1 in
    let d4 : drop 4 bytes ≡ r1 = drop-four order h.seconds r1 in
    let d8 : drop 8 bytes ≡ r2 = sym (drop-drop 4 4 bytes) ∙ ap (drop 4) d4 ∙ drop-four order h.fraction r2 in
    let d12 : drop 12 bytes ≡ r3 = sym (drop-drop 4 8 bytes) ∙ ap (drop 4) d8 ∙ drop-four order h.captured r3 in
    let d16 : drop 16 bytes ≡ rest = sym (drop-drop 4 12 bytes) ∙ ap (drop 4) d12 ∙ drop-four order h.original rest in
    rw (regroup order h rest) (record {
      seconds = number-four order h.seconds r1 fits.seconds;
      fraction = rw d4 (number-four order h.fraction r2 fits.fraction);
      captured = rw d8 (number-four order h.captured r3 fits.captured);
      behind = d16;
      long = omega (arith, length-append (four order h.seconds) r1, length-append (four order h.fraction) r2, length-append (four order h.captured) r3, length-append (four order h.original) rest, length-four order h.seconds, length-four order h.fraction, length-four order h.captured, length-four order h.original);
    })

-- the head at the front of the bytes
abbrev pub head_of : Order → List ℕ → Head
head_of order bytes = record { seconds = number order bytes; fraction = number order (drop 4 bytes); captured = number order (drop 8 bytes); original = number order (drop 12 bytes) }

pub head_of-fits : (order : Order) (bytes : List ℕ) → IsBytes bytes → Fits (head_of order bytes)
head_of-fits order bytes fits = record {
  seconds = number-lt order bytes fits;
  fraction = number-lt order (drop 4 bytes) (IsBytes-drop 4 bytes fits);
  captured = number-lt order (drop 8 bytes) (IsBytes-drop 8 bytes fits);
  original = number-lt order (drop 12 bytes) (IsBytes-drop 12 bytes fits);
}

-- the bytes, from the next number on
split_at : (n : ℕ) (order : Order) (bytes : List ℕ) → IsBytes bytes → n + 4 ≤ length bytes → drop n bytes ≡ four order (number order (drop n bytes)) ++ drop (n + 4) bytes
split_at n order bytes fits long =
    four_split order (drop n bytes) (IsBytes-drop n bytes fits) (omega (arith, length-drop n bytes)) ∙ ap (λ (r : List ℕ). four order (number order (drop n bytes)) ++ r) (drop-drop 4 n bytes)

pub head_split : (order : Order) (bytes : List ℕ) → IsBytes bytes → 16 ≤ length bytes → bytes ≡ head_bytes order (head_of order bytes) ++ drop 16 bytes
head_split order bytes fits long =
    let s0 = four_split order bytes fits (omega arith) in
    let s4 = split_at 4 order bytes fits (omega arith) in
    let s8 = split_at 8 order bytes fits (omega arith) in
    let s12 = split_at 12 order bytes fits (omega arith) in
    let after4 = λ (r : List ℕ). four order (number order bytes) ++ r in
    let after8 = λ (r : List ℕ). four order (number order bytes) ++ (four order (number order (drop 4 bytes)) ++ r) in
    let after12 = λ (r : List ℕ). four order (number order bytes) ++ (four order (number order (drop 4 bytes)) ++ (four order (number order (drop 8 bytes)) ++ r)) in
    s0 ∙ ap after4 s4 ∙ ap after8 s8 ∙ ap after12 s12 ∙ sym (regroup order (head_of order bytes) (drop 16 bytes))

-- ---- headers

regroup_header : (h : Header) (rest : List ℕ) → header_bytes h ++ rest
    ≡ four h.form.order (magic h.form.resolution) ++ (two h.form.order h.major ++ (two h.form.order h.minor ++ (four h.form.order h.zone ++ (four h.form.order h.sigfigs ++ (four h.form.order h.snaplen ++ (four h.form.order h.link ++ rest))))))
unfolding header_bytes
regroup_header h rest = simp append_assoc

-- what is read of a header that was written
pub record ReadsHeader (h : Header) (rest bytes : List ℕ) : Type 0 where
  pub front : (after : List ℕ) × (bytes ≡ four h.form.order (magic h.form.resolution) ++ after)
  pub link : drop 20 bytes ≡ four h.form.order h.link ++ rest
  pub behind : drop 24 bytes ≡ rest
  pub long : 24 ≤ length bytes

pub header_again : (h : Header) (rest : List ℕ) → ReadsHeader h rest (header_bytes h ++ rest)
header_again h rest =
    let order = h.form.order in
    let r20 = four order h.link ++ rest in
    let r16 = four order h.snaplen ++ r20 in
    let r12 = four order h.sigfigs ++ r16 in
    let r8 = four order h.zone ++ r12 in
    let r6 = two order h.minor ++ r8 in
    let r4 = two order h.major ++ r6 in
    let bytes = four order (magic h.form.resolution) ++ r4 in
    let d4 : drop 4 bytes ≡ r4 = drop-four order (magic h.form.resolution) r4 in
    let d6 : drop 6 bytes ≡ r6 = sym (drop-drop 2 4 bytes) ∙ ap (drop 2) d4 ∙ drop-two order h.major r6 in
    let d8 : drop 8 bytes ≡ r8 = sym (drop-drop 2 6 bytes) ∙ ap (drop 2) d6 ∙ drop-two order h.minor r8 in
    let d12 : drop 12 bytes ≡ r12 = sym (drop-drop 4 8 bytes) ∙ ap (drop 4) d8 ∙ drop-four order h.zone r12 in
    let d16 : drop 16 bytes ≡ r16 = sym (drop-drop 4 12 bytes) ∙ ap (drop 4) d12 ∙ drop-four order h.sigfigs r16 in
    let d20 : drop 20 bytes ≡ r20 = sym (drop-drop 4 16 bytes) ∙ ap (drop 4) d16 ∙ drop-four order h.snaplen r20 in
    let d24 : drop 24 bytes ≡ rest = sym (drop-drop 4 20 bytes) ∙ ap (drop 4) d20 ∙ drop-four order h.link rest in
    let len20 : length r20 ≡ 4 + length rest = omega (arith, length-append (four order h.link) rest, length-four order h.link) in
    let len : length (drop 20 bytes) ≡ 4 + length rest = ap length d20 ∙ len20 in
    rw (regroup_header h rest) (record { front = (r4, refl); link = d20; behind = d24; long = omega (arith, length-drop 20 bytes) })

-- the bytes of a form's header as its fields
pub header_split : (form : Form) (bytes : List ℕ) → IsBytes bytes → 24 ≤ length bytes → number form.order bytes ≡ magic form.resolution
    → (h : Header) × (h.form ≡ form) × (h.link ≡ number form.order (drop 20 bytes)) × (bytes ≡ header_bytes h ++ drop 24 bytes)
header_split form bytes fits long is_magic =
    let order = form.order in
    let s0 : bytes ≡ four order (magic form.resolution) ++ drop 4 bytes = four_split order bytes fits (omega arith) ∙ ap (λ (n : ℕ). four order n ++ drop 4 bytes) is_magic in
    let m4 = two_split order (drop 4 bytes) (IsBytes-drop 4 bytes fits) (omega (arith, length-drop 4 bytes)) in
    let s4 : drop 4 bytes ≡ two order m4.0 ++ drop 6 bytes = m4.1 ∙ ap (λ (r : List ℕ). two order m4.0 ++ r) (drop-drop 2 4 bytes) in
    let m6 = two_split order (drop 6 bytes) (IsBytes-drop 6 bytes fits) (omega (arith, length-drop 6 bytes)) in
    let s6 : drop 6 bytes ≡ two order m6.0 ++ drop 8 bytes = m6.1 ∙ ap (λ (r : List ℕ). two order m6.0 ++ r) (drop-drop 2 6 bytes) in
    let s8 = split_at 8 order bytes fits (omega arith) in
    let s12 = split_at 12 order bytes fits (omega arith) in
    let s16 = split_at 16 order bytes fits (omega arith) in
    let s20 = split_at 20 order bytes fits (omega arith) in
    let h : Header = record { form = form; major = m4.0; minor = m6.0; zone = number order (drop 8 bytes); sigfigs = number order (drop 12 bytes); snaplen = number order (drop 16 bytes); link = number order (drop 20 bytes) } in
    let a4 = λ (r : List ℕ). four order (magic form.resolution) ++ r in
    let a6 = λ (r : List ℕ). a4 (two order h.major ++ r) in
    let a8 = λ (r : List ℕ). a6 (two order h.minor ++ r) in
    let a12 = λ (r : List ℕ). a8 (four order h.zone ++ r) in
    let a16 = λ (r : List ℕ). a12 (four order h.sigfigs ++ r) in
    let a20 = λ (r : List ℕ). a16 (four order h.snaplen ++ r) in
    let parts : bytes ≡ header_bytes h ++ drop 24 bytes = s0 ∙ ap a4 s4 ∙ ap a6 s6 ∙ ap a8 s8 ∙ ap a12 s12 ∙ ap a16 s16 ∙ ap a20 s20 ∙ sym (regroup_header h (drop 24 bytes)) in
    (h, refl, refl, parts)
