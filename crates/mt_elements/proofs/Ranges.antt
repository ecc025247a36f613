-- Numbers, addresses and ports that are read from arguments are in the ranges of their fields.
use Rattle.std.proofs.Common.{◌≡◌, refl, ℕ, ◌+◌, ◌*◌, ◌≤◌, cond, Bool, true, false, List, [], ◌∷◌, length, take, drop, fold, arith}
use Rattle.std.specs.Prelude.{⊤, ◌==◌, codes, Option, Some, None, option_map, option_and_then, IfSome, nat_le}
use Rattle.std.specs.Str.{bytes_eq}
use Rattle.std.proofs.lemmas.Bool.Decides.{nat_tests}
use Rattle.mt_lists.specs.Cuts.{index_of}
use Rattle.mt_lists.specs.Options.{each}
use Rattle.mt_lists.proofs.Bools.{and_second}
use Rattle.mt_text.specs.Byte.{is_identifier}
use Rattle.mt_text.specs.Number.{is_between, digit_of, number_of, number_up_to, decimal_of, decimal_up_to, hexadecimal_value, hexadecimal_of_length}
use Rattle.mt_text.specs.Address.{ipv4_address_of, pairs_of, ethernet_address_of}
use Rattle.mt_kinds.specs.Rewriters.{address_part, port_part, range_of, ports_at, source_port, template_in, template_of, templates_of, behind_pattern, pass_in, keep_in, one_word, more_words, spec_in, spec_of, specs_of}
use Rattle.mt_kinds.specs.Arguments.{words_of}
use Rattle.mt_kinds.specs.declared.written.WrittenPort.{WrittenPort}
use Rattle.mt_kinds.specs.declared.written.WrittenPort.TheVariants.{Same, One, Range}
use Rattle.mt_kinds.specs.declared.written.WrittenSpec.{WrittenSpec}
use Rattle.mt_kinds.specs.declared.written.WrittenSpec.TheVariants as written
use Rattle.mt_kinds.specs.declared.written.WrittenTemplate.{WrittenTemplate}
use Rattle.mt_elements.specs.Ranges.{IsAddress, IsPort}
use Rattle.mt_elements.proofs.Optional.{either, of_each, of_good, of_next, next_good, AllGood, each_good}

-- ---- numbers

no_greater : (greatest : ℕ) (o : Option ℕ) → IfSome (option_and_then (λ n. cond (nat_le n greatest) (Some n) None) o) (λ n. n ≤ greatest)
no_greater greatest o = of_next (λ n. n ≤ greatest) _ o (λ n. test n (nat_le n greatest) refl)
  where
    test : (n : ℕ) (b : Bool) → nat_le n greatest ≡ b → IfSome (cond b (Some n) None) (λ n. n ≤ greatest)
    test n true h = grind (arith, nat_tests)
    test n false h = tt

pub up_to : (greatest : ℕ) (word : List ℕ) → IfSome (number_up_to greatest word) (λ n. n ≤ greatest)
unfolding number_up_to
up_to greatest word = no_greater greatest (number_of word)

decimal_is : (greatest : ℕ) (word : List ℕ) → IfSome (decimal_up_to greatest word) (λ n. n ≤ greatest)
unfolding decimal_up_to
decimal_is greatest word = no_greater greatest (decimal_of word)

-- ---- addresses

abbrev IsByte : ℕ → Type 0
IsByte n = n ≤ 255

pub address_is : (word : List ℕ) → IfSome (ipv4_address_of word) IsAddress
unfolding ipv4_address_of
address_is word =
    of_next IsAddress _ (index_of 46 word) (λ i.
    next_good IsAddress IsByte _ (decimal_up_to 255 (take i word)) (decimal_is 255 (take i word)) (λ a low_a.
    of_next IsAddress _ (index_of 46 (drop (i + 1) word)) (λ j.
    next_good IsAddress IsByte _ (decimal_up_to 255 (take j (drop (i + 1) word))) (decimal_is 255 (take j (drop (i + 1) word))) (λ b low_b.
    of_next IsAddress _ (index_of 46 (drop (j + 1) (drop (i + 1) word))) (λ k.
    next_good IsAddress IsByte _ (decimal_up_to 255 (take k (drop (j + 1) (drop (i + 1) word)))) (decimal_is 255 (take k (drop (j + 1) (drop (i + 1) word)))) (λ c low_c.
    next_good IsAddress IsByte _ (decimal_up_to 255 (drop (k + 1) (drop (j + 1) (drop (i + 1) word)))) (decimal_is 255 (drop (k + 1) (drop (j + 1) (drop (i + 1) word)))) (λ d low_d.
    omega (arith, low_a, low_b, low_c, low_d))))))))

between : (low high byte : ℕ) → is_between low high byte ≡ true → byte ≤ high
between low high byte h = let b : nat_le byte high ≡ true = and_second (nat_le low byte) (nat_le byte high) h in grind (arith, nat_tests)

digit_is : (byte : ℕ) → digit_of byte ≤ 15
digit_is byte =
    chosen (is_between 48 57 byte) _ _ (λ h. let low = between 48 57 byte h in omega (arith, low))
    (chosen (is_between 97 102 byte) _ _ (λ h. let low = between 97 102 byte h in omega (arith, low))
    (chosen (is_between 65 70 byte) _ _ (λ h. let low = between 65 70 byte h in omega (arith, low)) (omega arith)))
  where
    chosen : (b : Bool) (n m : ℕ) → (b ≡ true → n ≤ 15) → m ≤ 15 → cond b n m ≤ 15
    chosen true n m h k = h refl
    chosen false n m h k = k

-- digits stand for no more than as many of the greatest
digits_are : (word : List ℕ) (n m : ℕ) → n ≤ m → fold (λ n byte. n * 16 + digit_of byte) n word ≤ fold (λ n byte. n * 16 + 15) m word
digits_are [] n m h = h
digits_are (byte ∷ bytes) n m h = digits_are bytes (n * 16 + digit_of byte) (m * 16 + 15) (let d = digit_is byte in omega (arith, h, d))

abbrev pub IsEthernet : ℕ → Type 0
IsEthernet n = n ≤ 281474976710655

pairs_are : (word : List ℕ) → IsEthernet (hexadecimal_value (pairs_of word))
unfolding hexadecimal_value
pairs_are word = digits_are (pairs_of word) 0 0 (omega arith)

pub ethernet_is : (word : List ℕ) → IfSome (ethernet_address_of word) IsEthernet
unfolding ethernet_address_of hexadecimal_of_length
ethernet_is word =
    either IsEthernet _ (hexadecimal_of_length 12 (pairs_of word)) None
    (either IsEthernet _ (Some (hexadecimal_value (pairs_of word))) None (pairs_are word) tt) tt

-- ---- templates as they are written

abbrev pub WrittenPortFits : WrittenPort → Type 0
WrittenPortFits Same = ⊤
WrittenPortFits (One number) = IsPort number
WrittenPortFits (Range lo hi) = IsPort hi

pub record WrittenFits (t : WrittenTemplate) : Type 0 where
  pub sa : IfSome t.sa IsAddress
  pub sp : WrittenPortFits t.sp
  pub da : IfSome t.da IsAddress
  pub dp : IfSome t.dp IsPort

abbrev pub WrittenSpecFits : WrittenSpec → Type 0
WrittenSpecFits (written.Pattern t) = WrittenFits t
WrittenSpecFits other = ⊤

abbrev StaysOr : (ℕ → Type 0) → Option ℕ → Type 0
StaysOr P part = IfSome part P

address_part_is : (word : List ℕ) → IfSome (address_part word) (StaysOr IsAddress)
unfolding address_part
address_part_is word =
    either (StaysOr IsAddress) (bytes_eq word (codes "-")) (Some None) (option_map Some (ipv4_address_of word)) tt
    (of_good (StaysOr IsAddress) IsAddress Some (ipv4_address_of word) (address_is word) (λ n h. h))

port_part_is : (word : List ℕ) → IfSome (port_part word) (StaysOr IsPort)
unfolding port_part
port_part_is word =
    either (StaysOr IsPort) (bytes_eq word (codes "-")) (Some None) (option_map Some (number_up_to 65535 word)) tt
    (of_good (StaysOr IsPort) IsPort Some (number_up_to 65535 word) (up_to 65535 word) (λ n h. h))

range_is : (address : Option ℕ) (first second : List ℕ) → IfSome (range_of address first second) WrittenPortFits
unfolding range_of
range_is None first second = tt
range_is (Some address) first second =
    of_next WrittenPortFits _ (number_up_to 65535 first) (λ lo.
    next_good WrittenPortFits IsPort _ (number_up_to 65535 second) (up_to 65535 second) (λ hi low. either WrittenPortFits (nat_le lo hi) (Some (Range lo hi)) None low tt))

ports_are : (address : Option ℕ) (word : List ℕ) (dash : Option ℕ) → IfSome (ports_at address word dash) WrittenPortFits
unfolding ports_at
ports_are address word None = of_good WrittenPortFits IsPort One (number_up_to 65535 word) (up_to 65535 word) (λ n h. h)
ports_are address word (Some i) = range_is address (take i word) (drop (i + 1) word)

source_is : (address : Option ℕ) (word : List ℕ) → IfSome (source_port address word) WrittenPortFits
unfolding source_port
source_is address word = either WrittenPortFits (bytes_eq word (codes "-")) (Some Same) (ports_at address word (index_of 45 word)) tt (ports_are address word (index_of 45 word))

template_is : (words : List (List ℕ)) → IfSome (template_in words) WrittenFits
unfolding template_in
template_is [] = tt
template_is (a ∷ []) = tt
template_is (a ∷ b ∷ []) = tt
template_is (a ∷ b ∷ c ∷ []) = tt
template_is (a ∷ b ∷ c ∷ d ∷ []) = tt
template_is (a ∷ b ∷ c ∷ d ∷ e ∷ []) = tt
template_is (saddr ∷ sport ∷ daddr ∷ dport ∷ first ∷ second ∷ []) =
    next_good WrittenFits (StaysOr IsAddress) _ (address_part saddr) (address_part_is saddr) (λ sa low_sa.
    next_good WrittenFits WrittenPortFits _ (source_port sa sport) (source_is sa sport) (λ sp low_sp.
    next_good WrittenFits (StaysOr IsAddress) _ (address_part daddr) (address_part_is daddr) (λ da low_da.
    next_good WrittenFits (StaysOr IsPort) _ (port_part dport) (port_part_is dport) (λ dp low_dp.
    of_next WrittenFits _ (number_up_to 511 first) (λ fout.
    of_next WrittenFits _ (number_up_to 511 second) (λ rout. record { sa = low_sa; sp = low_sp; da = low_da; dp = low_dp }))))))
template_is (a ∷ b ∷ c ∷ d ∷ e ∷ f ∷ g ∷ more) = tt

pub templates_are : (arguments : List (List ℕ)) → IfSome (templates_of arguments) (AllGood WrittenFits)
unfolding templates_of
templates_are arguments =
    either (AllGood WrittenFits) (length arguments == 0) None (each template_of arguments) tt
    (each_good WrittenFits template_of arguments (λ argument. template_is (behind_pattern (words_of argument))))

-- ---- specifications as they are written

pass_is : (words : List (List ℕ)) → IfSome (pass_in words) WrittenSpecFits
unfolding pass_in
pass_is [] = tt
pass_is (out ∷ []) = of_each WrittenSpecFits written.Pass (number_up_to 511 out) (λ n. tt)
pass_is (a ∷ b ∷ more) = tt

keep_is : (words : List (List ℕ)) → IfSome (keep_in words) WrittenSpecFits
unfolding keep_in
keep_is [] = tt
keep_is (a ∷ []) = tt
keep_is (first ∷ second ∷ []) = of_next WrittenSpecFits _ (number_up_to 511 first) (λ fout. of_next WrittenSpecFits _ (number_up_to 511 second) (λ rout. tt))
keep_is (a ∷ b ∷ c ∷ more) = tt

one_is : (word : List ℕ) → IfSome (one_word word) WrittenSpecFits
unfolding one_word
one_is word =
    either WrittenSpecFits (bytes_eq word (codes "drop")) (Some written.Drop) (cond (is_identifier word) (Some (written.Mapper word)) None) tt
    (either WrittenSpecFits (is_identifier word) (Some (written.Mapper word)) None tt tt)

more_are : (word : List ℕ) (words : List (List ℕ)) → IfSome (more_words word words) WrittenSpecFits
unfolding more_words
more_are word words =
    either WrittenSpecFits (bytes_eq word (codes "pass")) (pass_in words) _ (pass_is words)
    (either WrittenSpecFits (bytes_eq word (codes "keep")) (keep_in words) _ (keep_is words)
    (either WrittenSpecFits (bytes_eq word (codes "pattern")) (option_map written.Pattern (template_in words)) None
    (of_good WrittenSpecFits WrittenFits written.Pattern (template_in words) (template_is words) (λ t h. h)) tt))

spec_is : (words : List (List ℕ)) → IfSome (spec_in words) WrittenSpecFits
unfolding spec_in
spec_is [] = tt
spec_is (word ∷ []) = one_is word
spec_is (word ∷ next ∷ words) = more_are word (next ∷ words)

pub specs_are : (arguments : List (List ℕ)) → IfSome (specs_of arguments) (AllGood WrittenSpecFits)
unfolding specs_of
specs_are arguments =
    either (AllGood WrittenSpecFits) (length arguments == 0) None (each spec_of arguments) tt
    (each_good WrittenSpecFits spec_of arguments (λ argument. spec_is (words_of argument)))
