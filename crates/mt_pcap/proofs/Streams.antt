-- Reading piece by piece: what was taken, and what is left.
use Rattle.std.proofs.Common.{◌≡◌, ◌≢◌, ◌⊎◌, inl, inr, ℕ, ◌+◌, ◌-◌, ◌*◌, ◌/◌, ◌^◌, ◌<◌, ◌≤◌, ltb, leb, true, false, List, [], ◌++◌, length, take, drop, Option, Some, None, Result, Ok, Err, refl, sym, ap, subst, ◌∙◌, append_assoc, arith}
use Rattle.std.specs.Prelude.{◌||◌, option_map, IfErr, IfOk, IfSome}
use Rattle.std.proofs.lemmas.Bool.{cases_lt, le-ltb, lt-leb, or_from, or_parts, leb-false, ltb-false}
use Rattle.std.proofs.lemmas.List.{append-nil, length-append, length-drop, length-take, length-take-le, take-append-le, drop-append-le, take_at, drop_at, nil_from_length}
use Rattle.std.proofs.lemmas.Option.{same_Some}
use Rattle.std.proofs.lemmas.Nat.{div-mul-add}
use Rattle.std.proofs.Math.Seq.{take-append-add}
use borrow.Rule.Slice.PartMut.{put_mid, post_of}
use Rattle.byteorder.specs.Numbers.{big_from-append, little_from-append}
use Rattle.mt_io.specs.Files.{Takes, IsAtEnd}
use Rattle.mt_io.specs.Copy.{TakesAtMost}
use Rattle.mt_io.specs.Laws.{takes_nothing, takes_twice}
use Rattle.mt_pcap.specs.declared.form.Order.{Order}
use Rattle.mt_pcap.specs.declared.form.Order.TheVariants.{Big, Little}
use Rattle.mt_pcap.specs.declared.form.Form.{Form}
use Rattle.mt_pcap.specs.declared.fault.PcapFault.{PcapFault}
use Rattle.mt_pcap.specs.declared.fault.PcapFault.TheVariants.{ReadFault, NoMemory, NotPcap, WrongLink, Torn, BadRecord}
use Rattle.mt_pcap.specs.declared.reader.Progress.{Progress}
use Rattle.mt_pcap.specs.declared.reader.Progress.TheVariants.{Record, Data, Over}
use Rattle.mt_pcap.specs.Format.{number, second, longest}
use Rattle.mt_pcap.specs.Capture.{Capture, IsOfBytes, is_header_fault, ended, form_in, form_of, linked, header_of, with_header, all_records, record_at, capture_of}
use Rattle.mt_pcap.specs.Stream.{within, left_at, in_front, Standing, TakesSo, HasBegun, HasRead, HasGoneOn, HasNoRecord, IsLeft, HasLength, HasHead, IsCut, at_end}
use Rattle.mt_pcap.specs.Standings.{standing_of}
use Rattle.mt_pcap.proofs.Facts.{no_header_fault}
use Rattle.mt_pcap.proofs.Headers.{too_short, unknown, other_link, ethernet, header_case, link_in}
use Rattle.mt_pcap.proofs.Records.{seconds, fraction, captured, cut_head, bad, cut_data, whole, case_of, reads_whole, at_cut_head, at_cut_data, records-end, records-fault, records-next}

-- ---- a piece that is read by several reads

-- what stands in front after one more read
pub read_more : (buf new : List ℕ) (count more : ℕ) → count ≤ length buf → more ≤ length new
    → take (count + more) (put_mid count (length buf - count) buf new) ≡ take count buf ++ take more new
read_more buf new count more le long =
    let rest = post_of count (length buf - count) buf in
    ap (λ n. take (n + more) (put_mid count (length buf - count) buf new)) (sym (length-take-le count buf le))
    ∙ take-append-add (take count buf) (new ++ rest) more
    ∙ ap (λ (l : List ℕ). take count buf ++ l) (take-append-le more new rest long)

pub room_left : (buf new : List ℕ) (count more : ℕ) → count ≤ length buf → more ≤ length new → count + more ≤ length (put_mid count (length buf - count) buf new)
room_left buf new count more le long =
    let rest = post_of count (length buf - count) buf in
    omega (arith, length-take-le count buf le, length-append (take count buf) (new ++ rest), length-append new rest)

-- nothing more was taken
pub at_most_so_far : (most : ℕ) (buf : List ℕ) (count : ℕ) (before now after : Option (List ℕ)) → length buf ≡ most → Takes before (take count buf) now → after ≡ now → TakesAtMost most before after
at_most_so_far most buf count before now after long taken same =
    (take count buf, omega (arith, length-take count buf), subst (λ o. Takes before (take count buf) o) (sym same) taken)

-- some bytes more were taken, and they have room
pub at_most_more : (most : ℕ) (buf new : List ℕ) (count more : ℕ) (before now after : Option (List ℕ)) → count + more ≤ most
    → Takes before (take count buf) now → Takes now (take more new) after → TakesAtMost most before after
at_most_more most buf new count more before now after room first second =
    (take count buf ++ take more new, omega (arith, length-append (take count buf) (take more new), length-take count buf, length-take more new), takes_twice before now after (take count buf) (take more new) first second)

pub nothing_at_most : (n : ℕ) (before after : Option (List ℕ)) → after ≡ before → TakesAtMost n before after
nothing_at_most n before after same = ([], omega arith, takes_nothing before after same)

-- what is at most so much is at most more
pub at_most_weaker : (m n : ℕ) (before after : Option (List ℕ)) → m ≤ n → TakesAtMost m before after → TakesAtMost n before after
at_most_weaker m n before after le t = let w = t.1 in (t.0, omega arith, t.2)

pub at_most_twice : (m n : ℕ) (before now after : Option (List ℕ)) → TakesAtMost m before now → TakesAtMost n now after → TakesAtMost (m + n) before after
at_most_twice m n before now after one two =
    let a = one.1 in
    let b = two.1 in
    (one.0 ++ two.0, omega (arith, length-append one.0 two.0), takes_twice before now after one.0 two.0 one.2 two.2)

-- ---- numbers in the first bytes

number_more : (order : Order) (xs ys : List ℕ) → 4 ≤ length xs → number order (xs ++ ys) ≡ number order xs
unfolding number
number_more Big xs ys long = big_from-append 4 xs ys long
number_more Little xs ys long = little_from-append 4 xs ys long

number_at : (order : Order) (n : ℕ) (xs ys : List ℕ) → n + 4 ≤ length xs → number order (drop n (xs ++ ys)) ≡ number order (drop n xs)
number_at order n xs ys long =
    ap (number order) (drop-append-le n xs ys (omega arith)) ∙ number_more order (drop n xs) ys (omega (arith, length-drop n xs))

-- ---- what was taken

-- no byte was taken
pub nothing_so : (before after : Option (List ℕ)) (P : List ℕ → Type 0) → after ≡ before → P [] → TakesSo before after P
nothing_so before after P same p = ([], takes_nothing before after same, p)

-- what was taken by two calls
pub takes_so_twice : (before now after : Option (List ℕ)) (P Q R : List ℕ → Type 0) → TakesSo before now P → TakesSo now after Q → ((a b : List ℕ) → P a → Q b → R (a ++ b)) → TakesSo before after R
takes_so_twice before now after P Q R one two both = (one.0 ++ two.0, takes_twice before now after one.0 two.0 one.1 two.1, both one.0 two.0 one.2 two.2)

-- a piece that is not full was taken
pub short_so_far : (most : ℕ) (buf : List ℕ) (count : ℕ) (before now after : Option (List ℕ)) → count < most → Takes before (take count buf) now → after ≡ now → TakesSo before after (λ bytes. length bytes < most)
short_so_far most buf count before now after lt taken same =
    (take count buf, subst (λ o. Takes before (take count buf) o) (sym same) taken, omega (arith, length-take count buf))

-- the last bytes of a record
pub read_on : (old middle new : Standing) (a b : List ℕ) (r : ℕ × List ℕ) → HasGoneOn old a middle → HasRead middle b r new → HasRead old (a ++ b) r new
read_on old middle new a b r one two = (two.0, λ behind. ap (left_at old) (append_assoc a b behind) ∙ one (b ++ behind) ∙ two.1 behind)

-- and too few of them
pub cut_on : (old middle : Standing) (a b : List ℕ) → HasGoneOn old a middle → HasNoRecord middle b → HasNoRecord old (a ++ b)
cut_on old middle a b one none = ap (λ (c : Capture). c.records) (one b) ∙ none

-- ---- the header

form_in_more : (order : Order) (xs ys : List ℕ) → 4 ≤ length xs → form_in order (xs ++ ys) ≡ form_in order xs
unfolding form_in
form_in_more order xs ys long = rw (number_more order xs ys long) refl

form_of_more : (xs ys : List ℕ) → 4 ≤ length xs → form_of (xs ++ ys) ≡ form_of xs
unfolding form_of
form_of_more xs ys long = rw (form_in_more Little xs ys long, form_in_more Big xs ys long) refl

linked_more : (o : Option Form) (xs ys : List ℕ) → 24 ≤ length xs → linked o (xs ++ ys) ≡ linked o xs
linked_more None xs ys long = refl
linked_more (Some form) xs ys long = rw (number_at form.order 20 xs ys (omega arith)) refl

header_more : (xs ys : List ℕ) → 24 ≤ length xs → header_of (xs ++ ys) ≡ header_of xs
unfolding header_of
header_more xs ys long =
    rw (le-ltb (length (xs ++ ys)) 24 (omega (arith, length-append xs ys)), le-ltb (length xs) 24 long, form_of_more xs ys (omega arith))
    (linked_more (form_of xs) xs ys long)

-- the header is told by the bytes that were read for it
header_same : (header all rest : List ℕ) → all ≡ header ++ rest → (length header < 24 → length all ≡ length header) → header_of all ≡ header_of header
header_same header all rest parts short =
    elim (cases_lt (length header) 24) [
      | inr long ↦ rw parts (header_more header rest long)
      | inl lt ↦
          let none : rest ≡ [] = nil_from_length rest (omega (arith, short lt, ap length parts, length-append header rest)) in
          ap header_of (parts ∙ ap (λ (l : List ℕ). header ++ l) none ∙ append-nil header)
    ]

capture_with : (all : List ℕ) (r : Result Form PcapFault) → header_of all ≡ r → capture_of all ≡ with_header r all
unfolding capture_of
capture_with all r is = ap (λ h. with_header h all) is

pub header_left : (form : Form) (header : List ℕ) (before after : Option (List ℕ)) → header_of header ≡ Ok form → length header ≡ 24 → Takes before header after
    → option_map (left_at (within form 24 [])) after ≡ option_map capture_of before
header_left form header None after is long none = ap (option_map (left_at (within form 24 []))) none
header_left form header (Some all) after is long taken =
    let rest = taken.0 in
    let read = header_same header all rest taken.2 (λ lt. absurd (omega (arith, long, lt))) ∙ is in
    let behind : drop 24 all ≡ rest = ap (drop 24) taken.2 ∙ drop_at header rest 24 long in
    ap (option_map (left_at (within form 24 []))) taken.1
    ∙ ap (λ (l : List ℕ). Some (all_records form 24 l)) (sym behind)
    ∙ ap (λ (c : Capture). Some c) (sym (capture_with all (Ok form) read))

pub header_begun : (r : Result Form PcapFault) (header : List ℕ) (before after : Option (List ℕ)) → r ≡ header_of header → IfOk r (λ _. 24 ≤ length header) → length header ≤ 24 → Takes before header after
    → IfOk r (λ form. TakesSo before after (λ bytes. HasBegun bytes (within form 24 [])))
header_begun (Ok form) header before after is long le taken =
    (header, taken, (tt, λ behind. same_Some (left_at (within form 24 []) behind) (capture_of (header ++ behind)) (header_left form header (Some (header ++ behind)) (Some behind) (sym is) (omega arith) (behind, refl, refl))))
header_begun (Err fault) header before after is long le taken = tt

-- what is left behind a header ends with no fault of one
pub begins_well : (form : Form) (held : Option (List ℕ)) → IfSome (option_map (left_at (within form 24 [])) held) (λ c. is_header_fault c.end ≡ false)
begins_well form None = tt
begins_well form (Some bytes) = no_header_fault form 24 bytes

pub header_refused : (fault : PcapFault) (header : List ℕ) (before after : Option (List ℕ)) → header_of header ≡ Err fault → Takes before header after → (length header < 24 → HasLength (length header) before)
    → IsLeft (option_map capture_of before) (ended (Some fault))
header_refused fault header None after is taken short = tt
header_refused fault header (Some all) after is taken short = capture_with all (Err fault) (header_same header all taken.0 taken.2 short ∙ is)

-- a header is refused for its bytes
pub header_fault : (header : List ℕ) (fault : PcapFault) → header_of header ≡ Err fault → IsOfBytes (Some fault)
header_fault header fault read =
    elim (header_case header) [
      | too_short short e ↦ let is : fault ≡ NotPcap = cc in rw is tt
      | unknown long none e ↦ let is : fault ≡ NotPcap = cc in rw is tt
      | other_link form long some other e ↦ let is : fault ≡ WrongLink (link_in form header) = cc in rw is tt
      | ethernet form long some one e ↦ absurd cc
    ]

-- it is one of the header
header_kind : (header : List ℕ) (fault : PcapFault) → header_of header ≡ Err fault → is_header_fault (Some fault) ≡ true
header_kind header fault read =
    elim (header_case header) [
      | too_short short e ↦ let is : fault ≡ NotPcap = cc in rw is refl
      | unknown long none e ↦ let is : fault ≡ NotPcap = cc in rw is refl
      | other_link form long some other e ↦ let is : fault ≡ WrongLink (link_in form header) = cc in rw is refl
      | ethernet form long some one e ↦ absurd cc
    ]

-- the same of the reading of a header
pub header_of_kind : (r : Result Form PcapFault) (header : List ℕ) → r ≡ header_of header → IfErr r (λ fault. IsOfBytes (Some fault) → is_header_fault (Some fault) ≡ true)
header_of_kind (Ok form) header is = tt
header_of_kind (Err fault) header is = λ _. header_kind header fault (sym is)

pub header_whole : (r : Result Form PcapFault) (header : List ℕ) (before after : Option (List ℕ)) → r ≡ header_of header → IfOk r (λ _. 24 ≤ length header) → length header ≤ 24 → Takes before header after
    → IfOk r (λ form. option_map (left_at (within form 24 [])) after ≡ option_map capture_of before)
header_whole (Ok form) header before after is long le taken = header_left form header before after (sym is) (omega arith) taken
header_whole (Err fault) header before after is long le taken = tt

pub header_err : (r : Result Form PcapFault) (header : List ℕ) (before after : Option (List ℕ)) → r ≡ header_of header → Takes before header after → (length header < 24 → HasLength (length header) before)
    → IfErr r (λ fault. IsOfBytes (Some fault) → IsLeft (option_map capture_of before) (ended (Some fault)))
header_err (Ok form) header before after is taken short = tt
header_err (Err fault) header before after is taken short = λ _. header_refused fault header before after (sym is) taken short

pub header_no_memory : (r : Result Form PcapFault) (header : List ℕ) → r ≡ header_of header → IfErr r (λ fault. fault ≢ NoMemory)
header_no_memory (Ok form) header is = tt
header_no_memory (Err fault) header is = λ same. subst (λ (f : PcapFault). IsOfBytes (Some f)) same (header_fault header fault (sym is))

pub header_no_read : (r : Result Form PcapFault) (header : List ℕ) → r ≡ header_of header → r ≢ Err ReadFault
header_no_read r header is = λ same. header_fault header ReadFault (sym is ∙ same)

-- ---- the head of a record

pub left_taken : (form : Form) (offset : ℕ) (taken bytes : List ℕ) (before after : Option (List ℕ)) → Takes before bytes after
    → option_map (left_at (within form offset (taken ++ bytes))) after ≡ option_map (left_at (within form offset taken)) before
left_taken form offset taken bytes None after none = ap (option_map (left_at (within form offset (taken ++ bytes)))) none
left_taken form offset taken bytes (Some all) after t =
    ap (option_map (left_at (within form offset (taken ++ bytes)))) t.1
    ∙ ap (λ (l : List ℕ). Some (all_records form offset l)) (append_assoc taken bytes t.0 ∙ ap (λ (l : List ℕ). taken ++ l) (sym t.2))

pub none_left : (form : Form) (offset : ℕ) (before : Option (List ℕ)) → IsAtEnd before → IsLeft (option_map (left_at (within form offset [])) before) (ended None)
none_left form offset None end = tt
none_left form offset (Some all) end = ap (all_records form offset) end ∙ records-end form offset

pub head_cut : (form : Form) (offset : ℕ) (fault : PcapFault) (before : Option (List ℕ)) → (fault ≡ ReadFault) ⊎ ((fault ≡ Torn offset) × IsCut before) → IsOfBytes (Some fault)
    → IsLeft (option_map (left_at (within form offset [])) before) (ended (Some fault))
head_cut form offset fault before (inl failed) named = absurd (subst (λ (f : PcapFault). IsOfBytes (Some f)) failed named)
head_cut form offset fault None (inr torn) named = tt
head_cut form offset fault (Some all) (inr torn) named =
    let cut = torn.1 in
    rw torn.0 (records-fault form offset all (Torn offset) cut.0 (at_cut_head form offset all cut.1))

-- the bytes that were taken of a head hold no record
pub cut_head_none : (form : Form) (offset : ℕ) (bytes : List ℕ) → length bytes < 16 → HasNoRecord (within form offset []) bytes
cut_head_none form offset bytes short =
    elim (cases_lt 0 (length bytes)) [
      | inl some ↦ ap (λ (c : Capture). c.records) (records-fault form offset bytes (Torn offset) some (at_cut_head form offset bytes short))
      | inr none ↦ ap (λ (l : List ℕ). (all_records form offset l).records) (nil_from_length bytes (omega arith)) ∙ ap (λ (c : Capture). c.records) (records-end form offset)
    ]

pub head_kept : (form : Form) (offset : ℕ) (progress : Progress) (head : List ℕ) → HasHead (standing_of form offset progress) head → standing_of form offset progress ≡ within form offset head
head_kept form offset Record head is = ap (within form offset) is
head_kept form offset (Data bytes) head is = ap (within form offset) is
head_kept form offset (Over end) head is = absurd is

pub head_stands : (form : Form) (offset : ℕ) (progress : Progress) (standing : Standing) (head : List ℕ) → standing_of form offset progress ≡ standing → HasHead standing head → standing ≡ within form offset head
head_stands form offset progress standing head is has = sym is ∙ head_kept form offset progress head (subst (λ s. HasHead s head) (sym is) has)

-- what is answered at the end is no record, and is the same of heads and of records
abbrev pub ok : {X : Type 0} → Option X → Result (Option X) PcapFault
ok o = Ok o

abbrev pub err : {X : Type 0} → PcapFault → Result (Option X) PcapFault
err fault = Err fault

pub no_end : {X : Type 0} (o : Option X) (x : X) (end : Option PcapFault) → o ≡ Some x → ok o ≡ at_end end → ⊥
no_end None x None is same = cc
no_end (Some y) x None is same = cc
no_end o x (Some fault) is same = cc

pub end_alike : {X Y : Type 0} (o : Option X) (end : Option PcapFault) → o ≡ None → ok o ≡ at_end end → ok {X = Y} None ≡ at_end end
end_alike o None is same = refl
end_alike o (Some fault) is same = absurd cc

pub fault_alike : {X Y : Type 0} (fault : PcapFault) (end : Option PcapFault) → err {X = X} fault ≡ at_end end → err {X = Y} fault ≡ at_end end
fault_alike fault None same = absurd cc
fault_alike fault (Some other) same = let is : fault ≡ other = cc in ap (λ (f : PcapFault). err f) is

-- ---- the data of a record

-- the numbers of a head, whatever is behind it
record HeadIs (form : Form) (head more : List ℕ) : Type 0 where
  seconds_is : seconds form (head ++ more) ≡ seconds form head
  fraction_is : fraction form (head ++ more) ≡ fraction form head
  captured_is : captured form (head ++ more) ≡ captured form head
  behind : drop 16 (head ++ more) ≡ more
  long : 16 ≤ length (head ++ more)

head_is : (form : Form) (head more : List ℕ) → length head ≡ 16 → HeadIs form head more
head_is form head more sixteen = record {
  seconds_is = number_more form.order head more (omega arith);
  fraction_is = rw (number_at form.order 4 head more (omega arith)) refl;
  captured_is = number_at form.order 8 head more (omega arith);
  behind = drop_at head more 16 sixteen;
  long = omega (arith, length-append head more);
}

-- what was told of a head
pub record Told (form : Form) (head : List ℕ) (s f n : ℕ) : Type 0 where
  pub long : length head ≡ 16
  pub seconds_is : s ≡ seconds form head
  pub fraction_is : f ≡ fraction form head
  pub captured_is : n ≡ captured form head

-- a whole record, in front of what else there is
whole_in_front : (form : Form) (offset : ℕ) (head bytes rest : List ℕ) (s f n : ℕ) → Told form head s f n → (leb second f || ltb longest n) ≡ false → length bytes ≡ n
    → all_records form offset (head ++ (bytes ++ rest)) ≡ in_front (s * second + f, bytes) (all_records form (offset + (16 + length bytes)) rest)
whole_in_front form offset head bytes rest s f n told proper long =
    let h = head_is form head (bytes ++ rest) told.long in
    let front : bytes ≡ take n (drop 16 (head ++ (bytes ++ rest))) = rw h.behind (sym (take_at bytes rest n long)) in
    let back : rest ≡ drop n (drop 16 (head ++ (bytes ++ rest))) = rw h.behind (sym (drop_at bytes rest n long)) in
    let enough : n ≤ length (drop 16 (head ++ (bytes ++ rest))) = rw h.behind (omega (arith, length-append bytes rest)) in
    let read = reads_whole form offset (head ++ (bytes ++ rest)) s f n bytes rest h.long (told.seconds_is ∙ sym h.seconds_is) (told.fraction_is ∙ sym h.fraction_is) (told.captured_is ∙ sym h.captured_is) proper enough front back in
    let at : offset + 16 + length bytes ≡ offset + (16 + length bytes) = omega arith in
    records-next form offset (head ++ (bytes ++ rest)) ((s * second + f, bytes), rest) read
    ∙ ap (λ (k : ℕ). in_front (s * second + f, bytes) (all_records form k rest)) at

pub record_left : (form : Form) (offset : ℕ) (head bytes : List ℕ) (s f n : ℕ) (before after : Option (List ℕ)) → Told form head s f n → (leb second f || ltb longest n) ≡ false → length bytes ≡ n
    → Takes before bytes after
    → option_map (left_at (within form offset head)) before ≡ option_map (in_front (s * second + f, bytes)) (option_map (left_at (within form (offset + (16 + length bytes)) [])) after)
record_left form offset head bytes s f n None after told proper long none =
    ap (λ o. option_map (in_front (s * second + f, bytes)) (option_map (left_at (within form (offset + (16 + length bytes)) [])) o)) (sym none)
record_left form offset head bytes s f n (Some all) after told proper long taken =
    let gone = ap (λ o. option_map (in_front (s * second + f, bytes)) (option_map (left_at (within form (offset + (16 + length bytes)) [])) o)) taken.1 in
    ap (λ (l : List ℕ). Some (all_records form offset (head ++ l))) taken.2
    ∙ ap (λ (c : Capture). Some c) (whole_in_front form offset head bytes taken.0 s f n told proper long)
    ∙ sym gone

-- the same whatever is behind the record
pub record_read : (form : Form) (offset : ℕ) (head bytes : List ℕ) (s f n : ℕ) (before after : Option (List ℕ)) → Told form head s f n → (leb second f || ltb longest n) ≡ false → length bytes ≡ n → Takes before bytes after
    → TakesSo before after (λ bytes'. HasRead (within form offset head) bytes' (s * second + f, bytes) (within form (offset + (16 + length bytes)) []))
record_read form offset head bytes s f n before after told proper long taken = (bytes, taken, (tt, λ behind. whole_in_front form offset head bytes behind s f n told proper long))

-- a head that is not proper
bad_at : (form : Form) (offset : ℕ) (bytes : List ℕ) → 16 ≤ length bytes → (leb second (fraction form bytes) || ltb longest (captured form bytes)) ≡ true → record_at form offset bytes ≡ Err (BadRecord offset)
bad_at form offset bytes long improper =
    elim (case_of form offset bytes) [
      | cut_head short e ↦ absurd (omega arith)
      | bad _ why e ↦ e
      | cut_data _ early fits short e ↦ let proper = or_from _ _ (lt-leb second (fraction form bytes) early) (le-ltb longest (captured form bytes) fits) in absurd cc
      | whole _ early fits enough e ↦ let proper = or_from _ _ (lt-leb second (fraction form bytes) early) (le-ltb longest (captured form bytes) fits) in absurd cc
    ]

pub head_bad : (form : Form) (offset : ℕ) (head : List ℕ) (s f n : ℕ) (before : Option (List ℕ)) → Told form head s f n → (leb second f || ltb longest n) ≡ true
    → IsLeft (option_map (left_at (within form offset head)) before) (ended (Some (BadRecord offset)))
head_bad form offset head s f n None told improper = tt
head_bad form offset head s f n (Some all) told improper =
    let h = head_is form head all told.long in
    let here : (leb second (fraction form (head ++ all)) || ltb longest (captured form (head ++ all))) ≡ true = rw (h.fraction_is, h.captured_is, ← told.fraction_is, ← told.captured_is) improper in
    records-fault form offset (head ++ all) (BadRecord offset) (let l = h.long in omega arith) (bad_at form offset (head ++ all) h.long here)

-- data that is cut
pub data_cut : (form : Form) (offset : ℕ) (head : List ℕ) (s f n count : ℕ) (before : Option (List ℕ)) → Told form head s f n → (leb second f || ltb longest n) ≡ false → count < n → HasLength count before
    → IsLeft (option_map (left_at (within form offset head)) before) (ended (Some (Torn offset)))
data_cut form offset head s f n count None told proper short is = tt
data_cut form offset head s f n count (Some all) told proper short is =
    let h = head_is form head all told.long in
    let p = or_parts (leb second f) (ltb longest n) proper in
    let early : fraction form (head ++ all) < second = rw (h.fraction_is, ← told.fraction_is) (leb-false second f p.0) in
    let fits : captured form (head ++ all) ≤ longest = rw (h.captured_is, ← told.captured_is) (ltb-false longest n p.1) in
    let cut : length (drop 16 (head ++ all)) < captured form (head ++ all) = rw (h.behind, h.captured_is, ← told.captured_is) (omega arith) in
    records-fault form offset (head ++ all) (Torn offset) (let l = h.long in omega arith) (at_cut_data form offset (head ++ all) h.long early fits cut)

-- bytes behind a head that hold no record: none behind one that is not proper, and too few
pub bad_head_none : (form : Form) (offset : ℕ) (head : List ℕ) (s f n : ℕ) → Told form head s f n → (leb second f || ltb longest n) ≡ true → HasNoRecord (within form offset head) []
bad_head_none form offset head s f n told improper = ap (λ (c : Capture). c.records) (head_bad form offset head s f n (Some []) told improper)

pub cut_data_none : (form : Form) (offset : ℕ) (head : List ℕ) (s f n : ℕ) (bytes : List ℕ) → Told form head s f n → (leb second f || ltb longest n) ≡ false → length bytes < n → HasNoRecord (within form offset head) bytes
cut_data_none form offset head s f n bytes told proper short = ap (λ (c : Capture). c.records) (data_cut form offset head s f n (length bytes) (Some bytes) told proper short refl)

-- the seconds of a time, and the length of a proper frame
pub seconds_are : (s f n : ℕ) → (leb second f || ltb longest n) ≡ false → s < 2 ^ 32 → (s * second + f) / 1000000000 < 2 ^ 32
seconds_are s f n proper fits =
    let p = or_parts (leb second f) (ltb longest n) proper in
    rw (div-mul-add s second f (leb-false second f p.0)) fits

pub frame_fits : (f n : ℕ) → (leb second f || ltb longest n) ≡ false → n ≤ longest
frame_fits f n proper = ltb-false longest n (or_parts (leb second f) (ltb longest n) proper).1
