-- How records are read: the four cases at a record, and how a capture goes on from one to the next.
use Rattle.std.proofs.Common.{false, ◌≡◌, ℕ, zero, suc, ◌+◌, ◌-◌, ◌*◌, ◌<◌, ◌≤◌, ◌⊎◌, inl, inr, ltb, leb, List, [], length, take, drop, Some, None, Result, Ok, Err, refl, sym, ap, ◌∙◌, arith}
use Rattle.std.specs.Prelude.{◌||◌}
use Rattle.std.proofs.lemmas.Bool.{cases_lt, lt-ltb, le-ltb, le-leb, lt-leb, eq-eqb, ne_eqb, or_left, or_right, or_from, or_parts, leb-false, ltb-false}
use Rattle.std.proofs.lemmas.List.{length-drop, length-take-le}
use Rattle.mt_pcap.specs.declared.form.Form.{Form}
use Rattle.mt_pcap.specs.declared.fault.PcapFault.{PcapFault}
use Rattle.mt_pcap.specs.declared.fault.PcapFault.TheVariants.{Torn, BadRecord}
use Rattle.mt_pcap.specs.Format.{number, nanoseconds_in, second, longest}
use Rattle.mt_pcap.specs.Capture.{Capture, record_at, ended, onwards, records_of, all_records}

-- the numbers in a head
abbrev pub seconds : Form → List ℕ → ℕ
seconds form bytes = number form.order bytes

abbrev pub fraction : Form → List ℕ → ℕ
fraction form bytes = number form.order (drop 4 bytes) * nanoseconds_in form.resolution

abbrev pub captured : Form → List ℕ → ℕ
captured form bytes = number form.order (drop 8 bytes)

-- what a whole record is read as
abbrev pub whole_record : Form → List ℕ → (ℕ × List ℕ) × List ℕ
whole_record form bytes =
    ((seconds form bytes * second + fraction form bytes, take (captured form bytes) (drop 16 bytes)), drop (captured form bytes) (drop 16 bytes))

-- the cases at a record, in the order in which they are tried
pub data Case (form : Form) (offset : ℕ) (bytes : List ℕ) : Type 0 where
  cut_head : length bytes < 16 → record_at form offset bytes ≡ Err (Torn offset) → Case form offset bytes
  bad : 16 ≤ length bytes → (second ≤ fraction form bytes) ⊎ (longest < captured form bytes) → record_at form offset bytes ≡ Err (BadRecord offset) → Case form offset bytes
  cut_data : 16 ≤ length bytes → fraction form bytes < second → captured form bytes ≤ longest → length (drop 16 bytes) < captured form bytes → record_at form offset bytes ≡ Err (Torn offset) → Case form offset bytes
  whole : 16 ≤ length bytes → fraction form bytes < second → captured form bytes ≤ longest → captured form bytes ≤ length (drop 16 bytes) → record_at form offset bytes ≡ Ok (whole_record form bytes) → Case form offset bytes

-- the four equations
pub at_cut_head : (form : Form) (offset : ℕ) (bytes : List ℕ) → length bytes < 16 → record_at form offset bytes ≡ Err (Torn offset)
unfolding record_at
at_cut_head form offset bytes short = rw (lt-ltb (length bytes) 16 short) refl

pub at_bad : (form : Form) (offset : ℕ) (bytes : List ℕ) → 16 ≤ length bytes → (second ≤ fraction form bytes) ⊎ (longest < captured form bytes) → record_at form offset bytes ≡ Err (BadRecord offset)
unfolding record_at
at_bad form offset bytes long (inl late) = rw (le-ltb (length bytes) 16 long, or_left _ (ltb longest (captured form bytes)) (le-leb second (fraction form bytes) late)) refl
at_bad form offset bytes long (inr more) = rw (le-ltb (length bytes) 16 long, or_right (leb second (fraction form bytes)) _ (lt-ltb longest (captured form bytes) more)) refl

pub at_cut_data : (form : Form) (offset : ℕ) (bytes : List ℕ) → 16 ≤ length bytes → fraction form bytes < second → captured form bytes ≤ longest → length (drop 16 bytes) < captured form bytes → record_at form offset bytes ≡ Err (Torn offset)
unfolding record_at
at_cut_data form offset bytes long early fits short =
    rw (le-ltb (length bytes) 16 long, or_from _ _ (lt-leb second (fraction form bytes) early) (le-ltb longest (captured form bytes) fits), lt-ltb (length (drop 16 bytes)) (captured form bytes) short) refl

pub at_whole : (form : Form) (offset : ℕ) (bytes : List ℕ) → 16 ≤ length bytes → fraction form bytes < second → captured form bytes ≤ longest → captured form bytes ≤ length (drop 16 bytes) → record_at form offset bytes ≡ Ok (whole_record form bytes)
unfolding record_at
at_whole form offset bytes long early fits enough =
    rw (le-ltb (length bytes) 16 long, or_from _ _ (lt-leb second (fraction form bytes) early) (le-ltb longest (captured form bytes) fits), le-ltb (length (drop 16 bytes)) (captured form bytes) enough) refl

-- a whole record, with its parts by names
pub reads_whole : (form : Form) (offset : ℕ) (bytes : List ℕ) (s f n : ℕ) (front back : List ℕ) → 16 ≤ length bytes → s ≡ seconds form bytes → f ≡ fraction form bytes → n ≡ captured form bytes
    → (leb second f || ltb longest n) ≡ false → n ≤ length (drop 16 bytes) → front ≡ take n (drop 16 bytes) → back ≡ drop n (drop 16 bytes)
    → record_at form offset bytes ≡ Ok ((s * second + f, front), back)
reads_whole form offset bytes s f n front back long s_is f_is n_is proper enough front_is back_is =
    let p = or_parts (leb second f) (ltb longest n) proper in
    let read = at_whole form offset bytes long (rw (← f_is) (leb-false second f p.0)) (rw (← n_is) (ltb-false longest n p.1)) (rw (← n_is) enough) in
    rw (s_is, f_is, front_is, back_is, n_is) read

-- the case of these bytes
pub case_of : (form : Form) (offset : ℕ) (bytes : List ℕ) → Case form offset bytes
case_of form offset bytes =
    elim (cases_lt (length bytes) 16) [
      | inl short ↦ cut_head short (at_cut_head form offset bytes short)
      | inr long ↦ elim (cases_lt (fraction form bytes) second) [
        | inr late ↦ bad long (inl late) (at_bad form offset bytes long (inl late))
        | inl early ↦ elim (cases_lt longest (captured form bytes)) [
          | inl more ↦ bad long (inr more) (at_bad form offset bytes long (inr more))
          | inr fits ↦ elim (cases_lt (length (drop 16 bytes)) (captured form bytes)) [
            | inl short ↦ cut_data long early fits short (at_cut_data form offset bytes long early fits short)
            | inr enough ↦ whole long early fits enough (at_whole form offset bytes long early fits enough)
          ]
        ]
      ]
    ]

-- what a record that is read took
pub record Took (form : Form) (bytes : List ℕ) (x : (ℕ × List ℕ) × List ℕ) : Type 0 where
  pub long : 16 ≤ length bytes
  pub early : fraction form bytes < second
  pub fits : captured form bytes ≤ longest
  pub enough : captured form bytes ≤ length (drop 16 bytes)
  pub is : x ≡ whole_record form bytes
  pub len : length x.0.1 ≡ captured form bytes
  pub parts : length bytes ≡ 16 + length x.0.1 + length x.1

abbrev done : {A : Type 0} → A → Result A PcapFault
done x = Ok x

same_ok : {A : Type 0} (x y : A) → done x ≡ done y → x ≡ y
same_ok x y e = cc

took_whole : (form : Form) (bytes : List ℕ) (x : (ℕ × List ℕ) × List ℕ) → 16 ≤ length bytes → fraction form bytes < second → captured form bytes ≤ longest → captured form bytes ≤ length (drop 16 bytes) → x ≡ whole_record form bytes → Took form bytes x
took_whole form bytes x long early fits enough is =
    let len : length x.0.1 ≡ captured form bytes = ap (λ (y : (ℕ × List ℕ) × List ℕ). length y.0.1) is ∙ length-take-le (captured form bytes) (drop 16 bytes) enough in
    let rest : length x.1 ≡ length (drop 16 bytes) - captured form bytes = ap (λ (y : (ℕ × List ℕ) × List ℕ). length y.1) is ∙ length-drop (captured form bytes) (drop 16 bytes) in
    record { long = long; early = early; fits = fits; enough = enough; is = is; len = len; parts = omega (arith, length-drop 16 bytes) }

pub took : (form : Form) (offset : ℕ) (bytes : List ℕ) (x : (ℕ × List ℕ) × List ℕ) → record_at form offset bytes ≡ Ok x → Took form bytes x
took form offset bytes x read =
    elim (case_of form offset bytes) [
      | cut_head short e ↦ absurd cc
      | bad long why e ↦ absurd cc
      | cut_data long early fits short e ↦ absurd cc
      | whole long early fits enough e ↦ took_whole form bytes x long early fits enough (same_ok x (whole_record form bytes) (sym read ∙ e))
    ]

-- ---- from one record to the next

pub at_zero : (form : Form) (offset : ℕ) (bytes : List ℕ) → records_of zero form offset bytes ≡ ended None
unfolding records_of
at_zero form offset bytes = refl

pub at_end : (most : ℕ) (form : Form) (offset : ℕ) (bytes : List ℕ) → length bytes ≡ 0 → records_of most form offset bytes ≡ ended None
unfolding records_of
at_end zero form offset bytes none = refl
at_end (suc most) form offset bytes none = rw (eq-eqb (length bytes) 0 none) refl

pub at_some : (most : ℕ) (form : Form) (offset : ℕ) (bytes : List ℕ) → 0 < length bytes → records_of (suc most) form offset bytes ≡ onwards (record_at form offset bytes) (λ x. records_of most form (offset + 16 + length x.0.1) x.1)
unfolding records_of
at_some most form offset bytes some = rw (ne_eqb (length bytes) 0 (λ e. omega arith)) refl

-- two bounds that are large enough for what is left are so for all
same_onwards : (m n : ℕ) (form : Form) (offset : ℕ) (bytes : List ℕ) (r : Result ((ℕ × List ℕ) × List ℕ) PcapFault) → record_at form offset bytes ≡ r → length bytes ≤ suc m → length bytes ≤ suc n
    → ((offset : ℕ) (rest : List ℕ) → length rest ≤ m → length rest ≤ n → records_of m form offset rest ≡ records_of n form offset rest)
    → onwards r (λ x. records_of m form (offset + 16 + length x.0.1) x.1) ≡ onwards r (λ x. records_of n form (offset + 16 + length x.0.1) x.1)
same_onwards m n form offset bytes (Err fault) read le le' same = refl
same_onwards m n form offset bytes (Ok x) read le le' same =
    let t = took form offset bytes x read in
    let e = same (offset + 16 + length x.0.1) x.1 (omega (arith, t.parts)) (omega (arith, t.parts)) in
    ap (λ (c : Capture). onwards (done x) (λ _. c)) e

-- a bound that is large enough does not matter
same_bound : (m n : ℕ) (form : Form) (offset : ℕ) (bytes : List ℕ) → length bytes ≤ m → length bytes ≤ n → records_of m form offset bytes ≡ records_of n form offset bytes
same_bound zero n form offset bytes le le' = at_end zero form offset bytes (omega arith) ∙ sym (at_end n form offset bytes (omega arith))
same_bound (suc m) zero form offset bytes le le' = at_end (suc m) form offset bytes (omega arith) ∙ sym (at_end zero form offset bytes (omega arith))
same_bound (suc m) (suc n) form offset bytes le le' =
    elim (cases_lt 0 (length bytes)) [
      | inl some ↦ at_some m form offset bytes some ∙ same_onwards m n form offset bytes (record_at form offset bytes) refl le le' (λ at rest l l'. same_bound m n form at rest l l') ∙ sym (at_some n form offset bytes some)
      | inr none ↦ at_end (suc m) form offset bytes (omega arith) ∙ sym (at_end (suc n) form offset bytes (omega arith))
    ]

pub records-end : (form : Form) (offset : ℕ) → all_records form offset [] ≡ ended None
unfolding all_records
records-end form offset = at_end 0 form offset [] refl

some_first : (form : Form) (offset : ℕ) (bytes : List ℕ) → 0 < length bytes → all_records form offset bytes ≡ onwards (record_at form offset bytes) (λ x. records_of (length bytes - 1) form (offset + 16 + length x.0.1) x.1)
unfolding all_records
some_first form offset bytes some =
    let k : length bytes ≡ suc (length bytes - 1) = omega arith in
    ap (λ (n : ℕ). records_of n form offset bytes) k ∙ at_some (length bytes - 1) form offset bytes some

pub records-fault : (form : Form) (offset : ℕ) (bytes : List ℕ) (fault : PcapFault) → 0 < length bytes → record_at form offset bytes ≡ Err fault → all_records form offset bytes ≡ ended (Some fault)
records-fault form offset bytes fault some read = some_first form offset bytes some ∙ rw read refl

pub records-next : (form : Form) (offset : ℕ) (bytes : List ℕ) (x : (ℕ × List ℕ) × List ℕ) → record_at form offset bytes ≡ Ok x
    → all_records form offset bytes ≡ onwards (done x) (λ x. all_records form (offset + 16 + length x.0.1) x.1)
unfolding all_records
records-next form offset bytes x read =
    let t = took form offset bytes x read in
    let e = same_bound (length bytes - 1) (length x.1) form (offset + 16 + length x.0.1) x.1 (omega (arith, t.parts)) (omega arith) in
    some_first form offset bytes (omega (arith, t.parts)) ∙ rw read (ap (λ (c : Capture). onwards (done x) (λ _. c)) e)
