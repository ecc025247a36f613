-- The parts of a template are those that are spelled so.
use Rattle.std.proofs.Common.{◌≡◌, ◌∙◌, refl, sym, ap, ℕ, ◌+◌, ◌≤◌, Bool, true, false, List, [], ◌∷◌, ◌++◌, length, drop, length-append, arith}
use Rattle.std.specs.Prelude.{if◌then◌else◌, nat_le, codes, Option, Some, None, option_map}
use Rattle.std.specs.Str.{bytes_eq}
use Rattle.std.proofs.lemmas.Slice.Eq.{bytes_eq-Decides}
use Rattle.std.proofs.lemmas.Bool.{false≢true, le-leb, leb-true}
use Rattle.std.proofs.lemmas.Option.{option_and_then_some, cond_some, same_Some, none-some}
use Rattle.mt_lists.specs.Options.{◌>>=◌}
use Rattle.mt_lists.specs.Cuts.{HasNo, index_of}
use Rattle.mt_lists.proofs.Cuts.{Cut, whole, parts, cut, index_in, no_index, before, behind}
use Rattle.mt_text.specs.Number.{decimal_of, number_of, number_up_to}
use Rattle.mt_text.specs.Address.{ipv4_address_of}
use Rattle.mt_kinds.specs.Rewriters.{address_part, port_part, range_of, ports_at, source_port}
use Rattle.mt_kinds.specs.RewriterSpelling.{IsAddress, stays, becomes, IsPort, port_stays, port_becomes, IsSource, same, one, range}
use Rattle.mt_kinds.specs.declared.written.WrittenPort.{WrittenPort}
use Rattle.mt_kinds.specs.declared.written.WrittenPort.TheVariants as port

-- ---- one of two by a test of words

-- by whether a word is another
pub by_word : {P : Type 0} (word other : List ℕ) → (word ≡ other → bytes_eq word other ≡ true → P) → (bytes_eq word other ≡ false → P) → P
by_word {P} word other is_it is_not = by (bytes_eq word other) refl
  where
    by : (b : Bool) → bytes_eq word other ≡ b → P
    by true e = is_it ((bytes_eq-Decides word other).0 e) e
    by false e = is_not e

pub map_some : {A B P : Type 0} (g : A → B) (o : Option A) (y : B) → option_map g o ≡ Some y → ((x : A) → o ≡ Some x → g x ≡ y → P) → P
map_some g None y is give = absurd (none-some y is)
map_some g (Some x) y is give = give x refl (same_Some (g x) y is)

abbrev pub chosen : {A : Type 0} → A → A → Bool → A
chosen x y b = if b then x else y

-- ---- addresses

no_address : ipv4_address_of (codes "-") ≡ None
unfolding ipv4_address_of
no_address = refl

pub address_told : (word : List ℕ) (address : Option ℕ) → address_part word ≡ Some address → IsAddress word address
unfolding address_part
address_told word address is =
    by_word word (codes "-")
    (λ dash test. stays dash (sym (same_Some None address (sym (ap (chosen (Some None) (option_map Some (ipv4_address_of word))) test) ∙ is))))
    (λ test. map_some Some (ipv4_address_of word) address (sym (ap (chosen (Some None) (option_map Some (ipv4_address_of word))) test) ∙ is) (λ value found made. becomes value found (sym made)))

pub address_read : (word : List ℕ) (address : Option ℕ) → IsAddress word address → address_part word ≡ Some address
unfolding address_part
address_read word address (stays dash none) = ap (chosen (Some None) (option_map Some (ipv4_address_of word))) ((bytes_eq-Decides word (codes "-")).1 dash) ∙ ap Some (sym none)
address_read word address (becomes value found made) =
    by_word word (codes "-")
    (λ dash test. absurd (none-some value (sym no_address ∙ sym (ap ipv4_address_of dash) ∙ found)))
    (λ test. ap (chosen (Some None) (option_map Some (ipv4_address_of word))) test ∙ ap (option_map Some) found ∙ ap Some (sym made))

-- ---- ports

no_number : number_up_to 65535 (codes "-") ≡ None
unfolding number_up_to number_of decimal_of
no_number = refl

no_digits : number_up_to 65535 [] ≡ None
unfolding number_up_to number_of decimal_of
no_digits = refl

pub port_told : (word : List ℕ) (number : Option ℕ) → port_part word ≡ Some number → IsPort word number
unfolding port_part
port_told word number is =
    by_word word (codes "-")
    (λ dash test. port_stays dash (sym (same_Some None number (sym (ap (chosen (Some None) (option_map Some (number_up_to 65535 word))) test) ∙ is))))
    (λ test. map_some Some (number_up_to 65535 word) number (sym (ap (chosen (Some None) (option_map Some (number_up_to 65535 word))) test) ∙ is) (λ value found made. port_becomes value found (sym made)))

pub port_read : (word : List ℕ) (number : Option ℕ) → IsPort word number → port_part word ≡ Some number
unfolding port_part
port_read word number (port_stays dash none) = ap (chosen (Some None) (option_map Some (number_up_to 65535 word))) ((bytes_eq-Decides word (codes "-")).1 dash) ∙ ap Some (sym none)
port_read word number (port_becomes value found made) =
    by_word word (codes "-")
    (λ dash test. absurd (none-some value (sym no_number ∙ sym (ap (number_up_to 65535) dash) ∙ found)))
    (λ test. ap (chosen (Some None) (option_map Some (number_up_to 65535 word))) test ∙ ap (option_map Some) found ∙ ap Some (sym made))

-- ---- ports of a source

abbrev ports_in : Option ℕ → List ℕ → Option WrittenPort
ports_in address word = ports_at address word (index_of 45 word)

abbrev in_order : ℕ → ℕ → Option WrittenPort
in_order lo hi = if nat_le lo hi then Some (port.Range lo hi) else None

range_told : (address : Option ℕ) (word first second : List ℕ) (ports : WrittenPort) → word ≡ first ++ 45 ∷ second → HasNo 45 first → range_of address first second ≡ Some ports → IsSource address word ports
unfolding range_of
range_told None word first second ports spelled none is = absurd (none-some ports is)
range_told (Some of) word first second ports spelled none is =
    option_and_then_some _ (number_up_to 65535 first) ports is (λ lo least rest.
    option_and_then_some _ (number_up_to 65535 second) ports rest (λ hi most made.
    let parts = cond_some (nat_le lo hi) (port.Range lo hi) ports made in
    range first second of lo hi refl spelled none least most (leb-true lo hi parts.0) (sym parts.1)))

ports_parts : (address : Option ℕ) (first second : List ℕ) → HasNo 45 first → ports_in address (first ++ 45 ∷ second) ≡ range_of address first second
unfolding ports_at
ports_parts address first second none =
    ap (ports_at address (first ++ 45 ∷ second)) (index_in 45 first second none)
    ∙ ap (λ front. range_of address front (drop (length first + 1) (first ++ 45 ∷ second))) (before 45 first second)
    ∙ ap (range_of address first) (behind 45 first second)

ports_alone : (address : Option ℕ) (word : List ℕ) → HasNo 45 word → ports_in address word ≡ option_map port.One (number_up_to 65535 word)
unfolding ports_at
ports_alone address word none = ap (ports_at address word) (no_index 45 word none)

ports_told : (address : Option ℕ) (word : List ℕ) (ports : WrittenPort) → Cut 45 word → ports_in address word ≡ Some ports → IsSource address word ports
ports_told address word ports (whole none) is =
    map_some port.One (number_up_to 65535 word) ports (sym (ports_alone address word none) ∙ is) (λ value found made. one value none found (sym made))
ports_told address word ports (parts first second spelled none) is =
    range_told address word first second ports spelled none (sym (ap (ports_in address) spelled ∙ ports_parts address first second none) ∙ is)

pub source_told : (address : Option ℕ) (word : List ℕ) (ports : WrittenPort) → source_port address word ≡ Some ports → IsSource address word ports
unfolding source_port
source_told address word ports is =
    by_word word (codes "-")
    (λ dash test. same dash (sym (same_Some port.Same ports (sym (ap (chosen (Some port.Same) (ports_in address word)) test) ∙ is))))
    (λ test. ports_told address word ports (cut 45 word) (sym (ap (chosen (Some port.Same) (ports_in address word)) test) ∙ is))

-- a range is more than a dash
no_dash : (first second : List ℕ) (lo : ℕ) → number_up_to 65535 first ≡ Some lo → first ++ 45 ∷ second ≡ codes "-" → false ≡ true
no_dash [] second lo found is = absurd (none-some lo (sym no_digits ∙ found))
no_dash (x ∷ first) second lo found is =
    let long = ap length is in
    let parts = length-append first (45 ∷ second) in
    absurd (omega (arith, long, parts))

not_dash : (address : Option ℕ) (word : List ℕ) (ports : WrittenPort) → bytes_eq word (codes "-") ≡ false → ports_in address word ≡ Some ports → source_port address word ≡ Some ports
unfolding source_port
not_dash address word ports test is = ap (chosen (Some port.Same) (ports_in address word)) test ∙ is

range_read : (of lo hi : ℕ) (first second : List ℕ) → number_up_to 65535 first ≡ Some lo → number_up_to 65535 second ≡ Some hi → lo ≤ hi → range_of (Some of) first second ≡ Some (port.Range lo hi)
unfolding range_of
range_read of lo hi first second least most order =
    ap (λ o. o >>= λ l. number_up_to 65535 second >>= λ h. in_order l h) least
    ∙ ap (λ o. o >>= λ h. in_order lo h) most
    ∙ ap (chosen (Some (port.Range lo hi)) None) (le-leb lo hi order)

pub source_read : (address : Option ℕ) (word : List ℕ) (ports : WrittenPort) → IsSource address word ports → source_port address word ≡ Some ports
unfolding source_port
source_read address word ports (same dash made) = ap (chosen (Some port.Same) (ports_in address word)) ((bytes_eq-Decides word (codes "-")).1 dash) ∙ ap Some (sym made)
source_read address word ports (one value none found made) =
    by_word word (codes "-")
    (λ dash test. absurd (none-some value (sym no_number ∙ sym (ap (number_up_to 65535) dash) ∙ found)))
    (λ test. not_dash address word ports test (ports_alone address word none ∙ ap (option_map port.One) found ∙ ap Some (sym made)))
source_read address word ports (range first second of lo hi whose spelled none least most order made) =
    by_word word (codes "-")
    (λ dash test. absurd (false≢true (no_dash first second lo least (sym spelled ∙ dash))))
    (λ test. not_dash address word ports test
    (ap (ports_in address) spelled ∙ ports_parts address first second none ∙ ap (λ a. range_of a first second) whose ∙ range_read of lo hi first second least most order ∙ ap Some (sym made)))
