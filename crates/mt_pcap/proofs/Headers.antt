-- How the header of a capture is read: the four cases, and what a magic number tells.
use Rattle.std.proofs.Common.{◌≡◌, ◌≢◌, ℕ, ◌%◌, ◌<◌, ◌≤◌, inl, inr, Bool, true, false, cond, eqb, List, ◌++◌, length, drop, Option, Some, None, Ok, Err, refl, ◌∙◌}
use Rattle.std.proofs.lemmas.Bool.{cases_lt, cases_eq, lt-ltb, le-ltb, eq-eqb, ne_eqb, eqb-true}
use Rattle.mt_pcap.specs.declared.form.Order.{Order}
use Rattle.mt_pcap.specs.declared.form.Order.TheVariants.{Big, Little}
use Rattle.mt_pcap.specs.declared.form.Resolution.{Resolution}
use Rattle.mt_pcap.specs.declared.form.Resolution.TheVariants.{Microseconds, Nanoseconds}
use Rattle.mt_pcap.specs.declared.form.Form.{Form}
use Rattle.mt_pcap.specs.declared.fault.PcapFault.TheVariants.{NotPcap, WrongLink}
use Rattle.mt_pcap.specs.Format.{number, four, magic}
use Rattle.mt_pcap.specs.Capture.{resolution_of, form_with, form_in, or_else, form_of, header_of}

-- the low 16 bits of the link type
abbrev pub link_in : Form → List ℕ → ℕ
link_in form bytes = number form.order (drop 20 bytes) % 65536

-- the cases at a header, in the order in which they are tried
pub data HeaderCase (bytes : List ℕ) : Type 0 where
  too_short : length bytes < 24 → header_of bytes ≡ Err NotPcap → HeaderCase bytes
  unknown : 24 ≤ length bytes → form_of bytes ≡ None → header_of bytes ≡ Err NotPcap → HeaderCase bytes
  other_link : (form : Form) → 24 ≤ length bytes → form_of bytes ≡ Some form → link_in form bytes ≢ 1 → header_of bytes ≡ Err (WrongLink (link_in form bytes)) → HeaderCase bytes
  ethernet : (form : Form) → 24 ≤ length bytes → form_of bytes ≡ Some form → link_in form bytes ≡ 1 → header_of bytes ≡ Ok form → HeaderCase bytes

at_short : (bytes : List ℕ) → length bytes < 24 → header_of bytes ≡ Err NotPcap
unfolding header_of
at_short bytes short = rw (lt-ltb (length bytes) 24 short) refl

at_unknown : (bytes : List ℕ) → 24 ≤ length bytes → form_of bytes ≡ None → header_of bytes ≡ Err NotPcap
unfolding header_of
at_unknown bytes long none = rw (le-ltb (length bytes) 24 long, none) refl

pub at_other_link : (form : Form) (bytes : List ℕ) → 24 ≤ length bytes → form_of bytes ≡ Some form → link_in form bytes ≢ 1 → header_of bytes ≡ Err (WrongLink (link_in form bytes))
unfolding header_of
at_other_link form bytes long some other = rw (le-ltb (length bytes) 24 long, some, ne_eqb (link_in form bytes) 1 other) refl

pub at_ethernet : (form : Form) (bytes : List ℕ) → 24 ≤ length bytes → form_of bytes ≡ Some form → link_in form bytes ≡ 1 → header_of bytes ≡ Ok form
unfolding header_of
at_ethernet form bytes long some one = rw (le-ltb (length bytes) 24 long, some, eq-eqb (link_in form bytes) 1 one) refl

with_form : (bytes : List ℕ) (o : Option Form) → form_of bytes ≡ o → 24 ≤ length bytes → HeaderCase bytes
with_form bytes None none long = unknown long none (at_unknown bytes long none)
with_form bytes (Some form) some long =
    elim (cases_eq (link_in form bytes) 1) [
      | inl one ↦ ethernet form long some one (at_ethernet form bytes long some one)
      | inr other ↦ other_link form long some other (at_other_link form bytes long some other)
    ]

pub header_case : (bytes : List ℕ) → HeaderCase bytes
header_case bytes =
    elim (cases_lt (length bytes) 24) [
      | inl short ↦ too_short short (at_short bytes short)
      | inr long ↦ with_form bytes (form_of bytes) refl long
    ]

-- ---- magic numbers

-- a form is told by its magic number, whatever follows
magic_of : (order : Order) (resolution : Resolution) (rest : List ℕ) → form_of (four order (magic resolution) ++ rest) ≡ Some (record { order = order; resolution = resolution })
unfolding form_of form_in resolution_of number four magic
magic_of Big Microseconds rest = refl
magic_of Big Nanoseconds rest = refl
magic_of Little Microseconds rest = refl
magic_of Little Nanoseconds rest = refl

pub form_of-magic : (form : Form) (rest : List ℕ) → form_of (four form.order (magic form.resolution) ++ rest) ≡ Some form
form_of-magic form rest = magic_of form.order form.resolution rest

-- what is told by a magic number begins with it
chosen : (n : ℕ) (resolution : Resolution) (micro nano : Bool) → eqb n 0xa1b2c3d4 ≡ micro → eqb n 0xa1b23c4d ≡ nano → cond micro (Some Microseconds) (cond nano (Some Nanoseconds) None) ≡ Some resolution → n ≡ magic resolution
unfolding magic
chosen n resolution true nano is _ e =
    let same : Microseconds ≡ resolution = cc in
    rw (← same) (eqb-true n 0xa1b2c3d4 is)
chosen n resolution false true _ is e =
    let same : Nanoseconds ≡ resolution = cc in
    rw (← same) (eqb-true n 0xa1b23c4d is)
chosen n resolution false false _ _ e = absurd cc

resolution_is : (n : ℕ) (resolution : Resolution) → resolution_of n ≡ Some resolution → n ≡ magic resolution
unfolding resolution_of
resolution_is n resolution some = chosen n resolution (eqb n 0xa1b2c3d4) (eqb n 0xa1b23c4d) refl refl some

form_in_is : (order : Order) (bytes : List ℕ) (form : Form) (o : Option Resolution) → resolution_of (number order bytes) ≡ o → form_with order o ≡ Some form → number form.order bytes ≡ magic form.resolution
form_in_is order bytes form None none e = absurd cc
form_in_is order bytes form (Some resolution) some e =
    let same : record { order = order; resolution = resolution } ≡ form = cc in
    rw (← same) (resolution_is (number order bytes) resolution some)

or_else_is : (bytes : List ℕ) (form : Form) (o : Option Form) → form_in Little bytes ≡ o → or_else o (form_in Big bytes) ≡ Some form → number form.order bytes ≡ magic form.resolution
unfolding form_in
or_else_is bytes form None none e = form_in_is Big bytes form (resolution_of (number Big bytes)) refl e
or_else_is bytes form (Some first) some e = form_in_is Little bytes form (resolution_of (number Little bytes)) refl (some ∙ e)

pub magic_is : (bytes : List ℕ) (form : Form) → form_of bytes ≡ Some form → number form.order bytes ≡ magic form.resolution
unfolding form_of
magic_is bytes form some = or_else_is bytes form (form_in Little bytes) refl some
