-- The arguments of rewriters, mappers and devices are those that are spelled so.
use Rattle.std.proofs.Common.{◌≡◌, ◌∙◌, refl, sym, ap, subst, ℕ, suc, Bool, true, false, List, [], ◌∷◌, All, arith}
use Rattle.std.specs.Prelude.{◌↔◌, ◌&&◌, ◌==◌, if◌then◌else◌, codes, Option, Some, None, option_map}
use Rattle.std.specs.List.{list_all}
use Rattle.std.specs.Str.{bytes_eq}
use Rattle.std.proofs.lemmas.Bool.{false≢true, eqb-true}
use Rattle.std.proofs.lemmas.Option.{option_and_then_some, cond_some, same_Some, none-some}
use Rattle.std.proofs.lemmas.List.Elements.{All-nil, All-cons}
use Rattle.mt_lists.specs.Options.{◌>>=◌}
use Rattle.mt_lists.specs.Cuts.{HasNo}
use Rattle.mt_lists.proofs.Bools.{and_first, and_second}
use Rattle.mt_text.specs.Number.{number_up_to}
use Rattle.mt_text.specs.Address.{ipv4_address_of}
use Rattle.mt_text.specs.Byte.{is_name_byte, is_identifier}
use Rattle.mt_kinds.specs.Arguments.{is_keyword, words_of}
use Rattle.mt_kinds.specs.Rewriters.{address_part, port_part, source_port, template_in, behind_pattern, template_of, pass_in, keep_in, one_word, more_words, spec_in, spec_of}
use Rattle.mt_kinds.specs.Descriptions.{device_of}
use Rattle.mt_kinds.specs.RewriterSpelling.{AreWords, IsAddress, stays, becomes, IsTemplate, IsMapped, alone, behind, IsSpec, drops, passes, keeps, makes, names, IsDevice}
use Rattle.mt_kinds.specs.declared.written.WrittenPort.{WrittenPort}
use Rattle.mt_kinds.specs.declared.written.WrittenSpec.{WrittenSpec}
use Rattle.mt_kinds.specs.declared.written.WrittenSpec.TheVariants as spec
use Rattle.mt_kinds.specs.declared.written.WrittenTemplate.{WrittenTemplate}
use Rattle.mt_kinds.proofs.WordsCut.{words_given, words_are}
use Rattle.mt_kinds.proofs.WordsCut as words
use Rattle.mt_kinds.proofs.PartsSpelled.{by_word, map_some, chosen, address_told, address_read, port_told, port_read, source_told, source_read}

-- ---- templates

abbrev made_template : Option ℕ → WrittenPort → Option ℕ → Option ℕ → ℕ → ℕ → WrittenTemplate
made_template sa sp da dp fout rout = record { sa = sa; sp = sp; da = da; dp = dp; fout = fout; rout = rout }

template_told : (words : List (List ℕ)) (template : WrittenTemplate) → template_in words ≡ Some template → IsTemplate words template
unfolding template_in
template_told [] template is = absurd (none-some template is)
template_told (a ∷ []) template is = absurd (none-some template is)
template_told (a ∷ b ∷ []) template is = absurd (none-some template is)
template_told (a ∷ b ∷ c ∷ []) template is = absurd (none-some template is)
template_told (a ∷ b ∷ c ∷ d ∷ []) template is = absurd (none-some template is)
template_told (a ∷ b ∷ c ∷ d ∷ e ∷ []) template is = absurd (none-some template is)
template_told (a ∷ b ∷ c ∷ d ∷ e ∷ f ∷ []) template is =
    option_and_then_some _ (address_part a) template is (λ sa source rest.
    option_and_then_some _ (source_port sa b) template rest (λ sp port rest.
    option_and_then_some _ (address_part c) template rest (λ da destination rest.
    option_and_then_some _ (port_part d) template rest (λ dp other rest.
    option_and_then_some _ (number_up_to 511 e) template rest (λ fout forward rest.
    option_and_then_some _ (number_up_to 511 f) template rest (λ rout reply made.
    subst (IsTemplate (a ∷ b ∷ c ∷ d ∷ e ∷ f ∷ [])) (same_Some (made_template sa sp da dp fout rout) template made) (record {
      saddr = a;
      sport = b;
      daddr = c;
      dport = d;
      first = e;
      second = f;
      six = refl;
      source = address_told a sa source;
      source_port = source_told sa b sp port;
      destination = address_told c da destination;
      destination_port = port_told d dp other;
      forward = forward;
      reply = reply;
    })))))))
template_told (a ∷ b ∷ c ∷ d ∷ e ∷ f ∷ g ∷ more) template is = absurd (none-some template is)

abbrev six_parts : Option (Option ℕ) → (Option ℕ → Option WrittenPort) → Option (Option ℕ) → Option (Option ℕ) → Option ℕ → Option ℕ → Option WrittenTemplate
six_parts source ports destination port first second =
    source >>= λ sa. ports sa >>= λ sp. destination >>= λ da. port >>= λ dp. first >>= λ fout. second >>= λ rout. Some (made_template sa sp da dp fout rout)

template_read : (words : List (List ℕ)) (template : WrittenTemplate) → IsTemplate words template → template_in words ≡ Some template
unfolding template_in
template_read words template h =
    ap template_in h.six
    ∙ ap (λ o. six_parts o (λ sa. source_port sa h.sport) (address_part h.daddr) (port_part h.dport) (number_up_to 511 h.first) (number_up_to 511 h.second)) (address_read h.saddr template.sa h.source)
    ∙ ap (λ o. o >>= λ sp. address_part h.daddr >>= λ da. port_part h.dport >>= λ dp. number_up_to 511 h.first >>= λ fout. number_up_to 511 h.second >>= λ rout. Some (made_template template.sa sp da dp fout rout)) (source_read template.sa h.sport template.sp h.source_port)
    ∙ ap (λ o. o >>= λ da. port_part h.dport >>= λ dp. number_up_to 511 h.first >>= λ fout. number_up_to 511 h.second >>= λ rout. Some (made_template template.sa template.sp da dp fout rout)) (address_read h.daddr template.da h.destination)
    ∙ ap (λ o. o >>= λ dp. number_up_to 511 h.first >>= λ fout. number_up_to 511 h.second >>= λ rout. Some (made_template template.sa template.sp template.da dp fout rout)) (port_read h.dport template.dp h.destination_port)
    ∙ ap (λ o. o >>= λ fout. number_up_to 511 h.second >>= λ rout. Some (made_template template.sa template.sp template.da template.dp fout rout)) h.forward
    ∙ ap (λ o. o >>= λ rout. Some (made_template template.sa template.sp template.da template.dp template.fout rout)) h.reply

-- ---- templates of a mapper

abbrev first_taken : List ℕ → List (List ℕ) → Bool → List (List ℕ)
first_taken word more b = if b then more else word ∷ more

mapped_in : (argument : List ℕ) (template : WrittenTemplate) (words : List (List ℕ)) → AreWords words argument → template_in (behind_pattern words) ≡ Some template → IsMapped argument template
unfolding behind_pattern
mapped_in argument template [] are is = alone [] are (template_told [] template is)
mapped_in argument template (word ∷ more) are is =
    by_word word (codes "pattern")
    (λ same test. behind more (subst (λ w. AreWords (w ∷ more) argument) same are) (template_told more template (sym (ap (λ b. template_in (first_taken word more b)) test) ∙ is)))
    (λ test. alone (word ∷ more) are (template_told (word ∷ more) template (sym (ap (λ b. template_in (first_taken word more b)) test) ∙ is)))

no_address : ipv4_address_of (codes "pattern") ≡ None
unfolding ipv4_address_of
no_address = refl

-- an address is no `pattern`
address_word : (word : List ℕ) (address : Option ℕ) → IsAddress word address → word ≡ codes "pattern" → false ≡ true
address_word word address (stays dash none) same = let e : codes "-" ≡ codes "pattern" = sym dash ∙ same in ap (λ l. bytes_eq l (codes "pattern")) e
address_word word address (becomes value found made) same = absurd (none-some value (sym no_address ∙ sym (ap ipv4_address_of same) ∙ found))

not_behind : (word : List ℕ) (more : List (List ℕ)) → bytes_eq word (codes "pattern") ≡ false → behind_pattern (word ∷ more) ≡ word ∷ more
unfolding behind_pattern
not_behind word more test = ap (first_taken word more) test

is_behind : (more : List (List ℕ)) → behind_pattern (codes "pattern" ∷ more) ≡ more
unfolding behind_pattern
is_behind more = refl

mapped_read : (argument : List ℕ) (template : WrittenTemplate) → IsMapped argument template → template_of argument ≡ Some template
mapped_read argument template (alone words are h) =
    let rest = h.sport ∷ h.daddr ∷ h.dport ∷ h.first ∷ h.second ∷ [] in
    by_word h.saddr (codes "pattern")
    (λ same test. absurd (false≢true (address_word h.saddr template.sa h.source same)))
    (λ test. ap (λ ws. template_in (behind_pattern ws)) (words_given h.saddr rest argument (subst (λ ws. AreWords ws argument) h.six are))
    ∙ ap template_in (not_behind h.saddr rest test ∙ sym h.six) ∙ template_read words template h)
mapped_read argument template (behind words are h) =
    ap (λ ws. template_in (behind_pattern ws)) (words_given (codes "pattern") words argument are) ∙ ap template_in (is_behind words) ∙ template_read words template h

pub template_spelled : (argument : List ℕ) (template : WrittenTemplate) → (template_of argument ≡ Some template) ↔ IsMapped argument template
template_spelled argument template = (λ is. mapped_in argument template (words_of argument) (words_are argument) is, λ h. mapped_read argument template h)

-- ---- specifications

two_made : (first second : List ℕ) (made : WrittenSpec) {P : Type 0} → keep_in (first ∷ second ∷ []) ≡ Some made
    → ((fout rout : ℕ) → number_up_to 511 first ≡ Some fout → number_up_to 511 second ≡ Some rout → spec.Keep fout rout ≡ made → P) → P
unfolding keep_in
two_made first second made is give =
    option_and_then_some _ (number_up_to 511 first) made is (λ fout forward rest.
    option_and_then_some _ (number_up_to 511 second) made rest (λ rout reply same. give fout rout forward reply (same_Some (spec.Keep fout rout) made same)))

module _ (argument : List ℕ) (made : WrittenSpec) where
  pass_told : (words : List (List ℕ)) → AreWords (codes "pass" ∷ words) argument → pass_in words ≡ Some made → IsSpec argument made
  unfolding pass_in
  pass_told [] are is = absurd (none-some made is)
  pass_told (word ∷ []) are is = map_some spec.Pass (number_up_to 511 word) made is (λ out found same. passes word out are found (sym same))
  pass_told (word ∷ next ∷ more) are is = absurd (none-some made is)

  keep_told : (words : List (List ℕ)) → AreWords (codes "keep" ∷ words) argument → keep_in words ≡ Some made → IsSpec argument made
  unfolding keep_in
  keep_told [] are is = absurd (none-some made is)
  keep_told (first ∷ []) are is = absurd (none-some made is)
  keep_told (first ∷ second ∷ []) are is = two_made first second made is (λ fout rout forward reply same. keeps first second fout rout are forward reply (sym same))
  keep_told (first ∷ second ∷ next ∷ more) are is = absurd (none-some made is)

  pattern_told : (words : List (List ℕ)) → AreWords (codes "pattern" ∷ words) argument → option_map spec.Pattern (template_in words) ≡ Some made → IsSpec argument made
  pattern_told words are is = map_some spec.Pattern (template_in words) made is (λ template found same. makes words template are (template_told words template found) (sym same))

  one_told : (word : List ℕ) → argument ≡ word → one_word word ≡ Some made → IsSpec argument made
  unfolding one_word
  one_told word whole is =
      let named : Option WrittenSpec = if is_identifier word then Some (spec.Mapper word) else None in
      by_word word (codes "drop")
      (λ same test. drops (whole ∙ same) (sym (same_Some spec.Drop made (sym (ap (chosen (Some spec.Drop) named) test) ∙ is))))
      (λ test. let parts = cond_some (is_identifier word) (spec.Mapper word) made (sym (ap (chosen (Some spec.Drop) named) test) ∙ is) in
      names (ap is_identifier whole ∙ parts.0) (ap (λ w. bytes_eq w (codes "drop")) whole ∙ test) (sym parts.1 ∙ ap spec.Mapper (sym whole)))

  more_told : (word : List ℕ) (words : List (List ℕ)) → AreWords (word ∷ words) argument → more_words word words ≡ Some made → IsSpec argument made
  unfolding more_words
  more_told word words are is =
      let third : Option WrittenSpec = if bytes_eq word (codes "pattern") then option_map spec.Pattern (template_in words) else None in
      let second : Option WrittenSpec = if bytes_eq word (codes "keep") then keep_in words else third in
      by_word word (codes "pass")
      (λ same test. pass_told words (subst (λ w. AreWords (w ∷ words) argument) same are) (sym (ap (chosen (pass_in words) second) test) ∙ is))
      (λ no_pass. let is = sym (ap (chosen (pass_in words) second) no_pass) ∙ is in by_word word (codes "keep")
      (λ same test. keep_told words (subst (λ w. AreWords (w ∷ words) argument) same are) (sym (ap (chosen (keep_in words) third) test) ∙ is))
      (λ no_keep. let is = sym (ap (chosen (keep_in words) third) no_keep) ∙ is in by_word word (codes "pattern")
      (λ same test. pattern_told words (subst (λ w. AreWords (w ∷ words) argument) same are) (sym (ap (chosen (option_map spec.Pattern (template_in words)) None) test) ∙ is))
      (λ test. absurd (none-some made (sym (ap (chosen (option_map spec.Pattern (template_in words)) None) test) ∙ is)))))

  spec_told : (words : List (List ℕ)) → AreWords words argument → spec_in words ≡ Some made → IsSpec argument made
  unfolding spec_in
  spec_told [] are is = absurd (none-some made is)
  spec_told (word ∷ []) are is = one_told word are.0 is
  spec_told (word ∷ next ∷ more) are is = more_told word (next ∷ more) are is

-- an identifier has no space
no_space : (word : List ℕ) → list_all is_name_byte word ≡ true → HasNo 32 word
no_space [] h = All-nil (λ byte. (byte == 32) ≡ false)
no_space (x ∷ word) h = All-cons (λ byte. (byte == 32) ≡ false) x word (other x (and_first (is_name_byte x) (list_all is_name_byte word) h)) (no_space word (and_second (is_name_byte x) (list_all is_name_byte word) h))
  where
    other : (n : ℕ) → is_name_byte n ≡ true → (n == 32) ≡ false
    other n name = by (n == 32) refl
      where
        by : (b : Bool) → (n == 32) ≡ b → b ≡ false
        by true e = absurd (false≢true (sym (ap is_name_byte (eqb-true n 32 e)) ∙ name))
        by false e = refl

one_identifier : (word : List ℕ) → is_identifier word ≡ true → words_of word ≡ word ∷ []
unfolding is_identifier
one_identifier word named = words.one_word word (no_space word (and_second _ (list_all is_name_byte word) named))

drop_read : spec_of (codes "drop") ≡ Some spec.Drop
unfolding spec_in one_word
drop_read = refl

name_read : (word : List ℕ) → is_identifier word ≡ true → bytes_eq word (codes "drop") ≡ false → spec_in (word ∷ []) ≡ Some (spec.Mapper word)
unfolding spec_in one_word
name_read word named test = ap (chosen (Some spec.Drop) (if is_identifier word then Some (spec.Mapper word) else None)) test ∙ ap (chosen (Some (spec.Mapper word)) None) named

pass_read : (word : List ℕ) (out : ℕ) → number_up_to 511 word ≡ Some out → spec_in (codes "pass" ∷ word ∷ []) ≡ Some (spec.Pass out)
unfolding spec_in more_words pass_in
pass_read word out found = ap (option_map spec.Pass) found

keep_read : (first second : List ℕ) (fout rout : ℕ) → number_up_to 511 first ≡ Some fout → number_up_to 511 second ≡ Some rout → spec_in (codes "keep" ∷ first ∷ second ∷ []) ≡ Some (spec.Keep fout rout)
unfolding spec_in more_words keep_in
keep_read first second fout rout forward reply =
    ap (λ o. o >>= λ f. number_up_to 511 second >>= λ r. Some (spec.Keep f r)) forward ∙ ap (λ o. o >>= λ r. Some (spec.Keep fout r)) reply

pattern_read : (word : List ℕ) (words : List (List ℕ)) (template : WrittenTemplate) → template_in (word ∷ words) ≡ Some template → spec_in (codes "pattern" ∷ word ∷ words) ≡ Some (spec.Pattern template)
unfolding spec_in more_words
pattern_read word words template is = ap (option_map spec.Pattern) is

spec_read : (argument : List ℕ) (made : WrittenSpec) → IsSpec argument made → spec_of argument ≡ Some made
spec_read argument made (drops spelled same) = ap spec_of spelled ∙ drop_read ∙ ap Some (sym same)
spec_read argument made (passes word out are found same) = ap spec_in (words_given (codes "pass") (word ∷ []) argument are) ∙ pass_read word out found ∙ ap Some (sym same)
spec_read argument made (keeps first second fout rout are forward reply same) =
    ap spec_in (words_given (codes "keep") (first ∷ second ∷ []) argument are) ∙ keep_read first second fout rout forward reply ∙ ap Some (sym same)
spec_read argument made (makes words template are h same) =
    let rest = h.sport ∷ h.daddr ∷ h.dport ∷ h.first ∷ h.second ∷ [] in
    ap spec_in (words_given (codes "pattern") words argument are ∙ ap (λ ws. codes "pattern" ∷ ws) h.six)
    ∙ pattern_read h.saddr rest template (sym (ap template_in h.six) ∙ template_read words template h)
    ∙ ap Some (sym same)
spec_read argument made (names named other same) = ap spec_in (one_identifier argument named) ∙ name_read argument named other ∙ ap Some (sym same)

pub spec_spelled : (argument : List ℕ) (made : WrittenSpec) → (spec_of argument ≡ Some made) ↔ IsSpec argument made
spec_spelled argument made = (λ is. spec_told argument made (words_of argument) (words_are argument) is, λ h. spec_read argument made h)

-- ---- devices

device_told : (arguments : List (List ℕ)) (name : List ℕ) → device_of arguments ≡ Some name → IsDevice arguments name
unfolding device_of
device_told [] name is = absurd (none-some name is)
device_told (first ∷ others) name is =
    let parts = cond_some (is_identifier first && list_all is_keyword others) first name is in
    record {
      others = others;
      first = ap (λ n. n ∷ others) parts.1;
      named = ap is_identifier (sym parts.1) ∙ and_first (is_identifier first) (list_all is_keyword others) parts.0;
      keywords = all_keywords others (and_second (is_identifier first) (list_all is_keyword others) parts.0);
    }
  where
    all_keywords : (l : List (List ℕ)) → list_all is_keyword l ≡ true → All (λ argument. is_keyword argument ≡ true) l
    all_keywords [] h = All-nil (λ argument. is_keyword argument ≡ true)
    all_keywords (x ∷ l) h = All-cons (λ argument. is_keyword argument ≡ true) x l (and_first (is_keyword x) (list_all is_keyword l) h) (all_keywords l (and_second (is_keyword x) (list_all is_keyword l) h))

keywords_pass : (l : List (List ℕ)) → All (λ argument. is_keyword argument ≡ true) l → list_all is_keyword l ≡ true
keywords_pass [] h = refl
keywords_pass (x ∷ l) h = ap (λ b. b && list_all is_keyword l) (h 0 x (omega arith)) ∙ keywords_pass l (λ k d within. h (suc k) d (omega (arith, within)))

device_read : (arguments : List (List ℕ)) (name : List ℕ) → IsDevice arguments name → device_of arguments ≡ Some name
unfolding device_of
device_read arguments name h =
    ap device_of h.first
    ∙ ap (λ b. chosen (Some name) None (b && list_all is_keyword h.others)) h.named
    ∙ ap (chosen (Some name) None) (keywords_pass h.others h.keywords)

pub device_spelled : (arguments : List (List ℕ)) (name : List ℕ) → (device_of arguments ≡ Some name) ↔ IsDevice arguments name
device_spelled arguments name = (λ is. device_told arguments name is, λ h. device_read arguments name h)
