-- Elements that look at a packet: their trees go on by what the packet has.
use Rattle.std.proofs.Common.{◌≡◌, ◌∙◌, sym, ap, subst, refl, ℕ, suc, ◌+◌, Bool, true, false, List, [], ◌∷◌, length, ◌&&◌, cond, arith}
use Rattle.std.specs.Prelude.{Option, Some, None, ◌==◌, nat_le, if◌then◌else◌, option_map, position}
use Rattle.std.specs.List.{find, position_from}
use Rattle.std.proofs.lemmas.Bool.Decides.{nat_tests}
use Rattle.std.proofs.lemmas.Grind.{common_steps}
use Rattle.std.proofs.lemmas.Iterator.Adapters.{position_from-zero}
use Rattle.mt_packet.proofs.Ranges.{two_bytes-range}
use Rattle.mt_packet.specs.Field.{eth_type_of}
use Rattle.mt_packet.specs.Header.{AreBytes, field_of}
use Rattle.mt_packet.specs.Ipv4.{has_ports, ports_of}
use Rattle.mt_packet.specs.Packet.{PacketState, has_ethernet, datagram_of, packet_header}
use Rattle.mt_packet.specs.declared.cause.Cause.TheVariants as cause
use Rattle.mt_packet.specs.declared.field.Field.{Field}
use Rattle.mt_packet.specs.declared.field.Field.TheVariants as of
use Rattle.mt_packet.specs.declared.span.Span.{Span}
use Rattle.mt_pattern.specs.Meaning.{contains_number, meaning_of as pattern_meaning}
use Rattle.mt_pattern.specs.Span.{prefix_span}
use Rattle.mt_pattern.specs.declared.pattern.Pattern.{Pattern}
use Rattle.mt_kinds.specs.declared.hop.Hop.{Hop}
use Rattle.mt_kinds.specs.declared.kind.Clause.{Clause}
use Rattle.mt_kinds.specs.declared.kind.Clause.TheVariants as clause
use Rattle.mt_kinds.specs.declared.kind.Kind.{Kind}
use Rattle.mt_kinds.specs.declared.rule.FilterAction.{FilterAction}
use Rattle.mt_kinds.specs.declared.rule.FilterAction.TheVariants.{Deny}
use Rattle.mt_kinds.specs.declared.rule.Rule.{Rule}
use Rattle.mt_elements.specs.ChainState.{ChainState}
use Rattle.mt_chain.specs.Classifier.{is_whole, has_value, pattern_holds}
use Rattle.mt_chain.specs.Filter.{holds_on, action_on}
use Rattle.mt_chain.specs.Route.{is_in, route_of}
use Rattle.mt_chain.specs.Run.{Run, Answer}
use Rattle.mt_terms.specs.Terms.{value_of}
use Rattle.mt_trees.proofs.Patterns.{pattern_agrees}
use Rattle.mt_trees.proofs.Routes.{first_is_route}
use Rattle.mt_trees.proofs.Tested.{Agrees, IsKnown, tested_agrees}
use Rattle.mt_trees.specs.Elements.{Along, dropped, by_length, leaves, classifier_tree, ip_classifier_tree, action_tree, filter_tree, with_gateway, route_tree}
use Rattle.mt_trees.specs.Meaning.{RewritersState, Under}
use Rattle.mt_trees.specs.Symbols.{Symbol, term_at}
use Rattle.mt_trees.specs.Tests.{Found, tested, field_tested, whole_tested, ports_tested, value_tried, pattern_tried, clauses_tried}

-- ---- what the tests of fields tell

abbrev within : ℕ → ℕ → ℕ → Bool
within lo hi number = contains_number (record { lo = lo; hi = hi }) number

-- the EtherType is absent where there is no whole header
whole_by : (front : Bool) (bytes : List ℕ) → AreBytes bytes → (front && nat_le 14 (length bytes)) ≡ within 0 65535 (eth_type_of (if front then bytes else []))
whole_by true bytes are_bytes = grind (arith, nat_tests, common_steps, two_bytes-range bytes 12 are_bytes)
whole_by false bytes are_bytes = grind (arith, nat_tests, common_steps)

whole_test : (p : PacketState) → AreBytes p.bytes → is_whole p ≡ within 0 65535 (field_of (packet_header p) of.EthType)
unfolding is_whole
whole_test p are_bytes = whole_by (has_ethernet p.layer) p.bytes are_bytes

ports_by : (b : Bool) → b ≡ within 1 1 (if b then 1 else 0)
ports_by true = grind (arith, nat_tests, common_steps)
ports_by false = grind (arith, nat_tests, common_steps)

ports_test : (p : PacketState) → has_ports (datagram_of p) ≡ within 1 1 (field_of (packet_header p) of.Ports)
unfolding ports_of
ports_test p = ports_by (has_ports (datagram_of p))

-- one number alone
one_number : (number value : ℕ) → (number == value) ≡ within value value number
one_number number value = grind (arith, nat_tests, common_steps)

-- the same place, counted from one further on
one_on : {X : Type 0} (test : X → Bool) (n : ℕ) (xs : List X) → position_from test (n + 1) xs ≡ option_map suc (position_from test n xs)
one_on test n [] = refl
one_on test n (x ∷ xs) = either (test x) (one_on test (n + 1) xs)
  where
    either : (b : Bool) → position_from test (n + 1 + 1) xs ≡ option_map suc (position_from test (n + 1) xs)
        → cond b (Some (n + 1)) (position_from test (n + 1 + 1) xs) ≡ option_map suc (cond b (Some n) (position_from test (n + 1) xs))
    either true rest = let e : n + 1 ≡ suc n = omega arith in ap Some e
    either false rest = rest

module _ (rewriters : RewritersState) (picks : List ℕ) (packet : PacketState) (header : List ℕ) (under : Under) (symbol : Symbol) (here : PacketState)
    (values : (field : Field) → value_of (term_at symbol field) header under.passed ≡ field_of (packet_header here) field)
    (known : (field : Field) → IsKnown rewriters picks packet header under (term_at symbol field))
    (are_bytes : AreBytes here.bytes) where
  abbrev Means : Found → Answer Run → Type 0
  Means found answer = Agrees rewriters picks packet header under found answer

  -- ---- tests of fields

  span_agrees : (field : Field) (span : Span) (inside outside : Found) (answer : Answer Run) → (contains_number span (field_of (packet_header here) field) ≡ true → Means inside answer)
      → (contains_number span (field_of (packet_header here) field) ≡ false → Means outside answer) → Means (tested header (term_at symbol field) span inside outside) answer
  span_agrees field span inside outside answer h k =
      tested_agrees rewriters picks packet header under (term_at symbol field) span (known field) inside outside answer (λ e. h (same ∙ e)) (λ e. k (same ∙ e))
    where
      same : contains_number span (field_of (packet_header here) field) ≡ contains_number span (value_of (term_at symbol field) header under.passed)
      same = ap (contains_number span) (sym (values field))

  pub field_agrees : (field : Field) (lo hi : ℕ) (inside outside : Found) (answer : Answer Run)
      → (contains_number (record { lo = lo; hi = hi }) (field_of (packet_header here) field) ≡ true → Means inside answer)
      → (contains_number (record { lo = lo; hi = hi }) (field_of (packet_header here) field) ≡ false → Means outside answer)
      → Means (field_tested header symbol field lo hi inside outside) answer
  field_agrees field lo hi inside outside answer h k = span_agrees field (record { lo = lo; hi = hi }) inside outside answer h k

  pub whole_agrees : (inside outside : Found) (answer : Answer Run) → (is_whole here ≡ true → Means inside answer) → (is_whole here ≡ false → Means outside answer) → Means (whole_tested header symbol inside outside) answer
  whole_agrees inside outside answer h k = field_agrees of.EthType 0 65535 inside outside answer (λ e. h (whole_test here are_bytes ∙ e)) (λ e. k (whole_test here are_bytes ∙ e))

  pub ports_agrees : (inside outside : Found) (answer : Answer Run) → (has_ports (datagram_of here) ≡ true → Means inside answer) → (has_ports (datagram_of here) ≡ false → Means outside answer)
      → Means (ports_tested header symbol inside outside) answer
  ports_agrees inside outside answer h k = field_agrees of.Ports 1 1 inside outside answer (λ e. h (ports_test here ∙ e)) (λ e. k (ports_test here ∙ e))

  -- ---- patterns of a Classifier

  number_agrees : (field : Field) (value : ℕ) (inside outside : Found) (answer : Answer Run) → ((field_of (packet_header here) field == value) ≡ true → Means inside answer)
      → ((field_of (packet_header here) field == value) ≡ false → Means outside answer) → Means (field_tested header symbol field value value inside outside) answer
  number_agrees field value inside outside answer h k = field_agrees field value value inside outside answer (λ e. h (same ∙ e)) (λ e. k (same ∙ e))
    where
      same : (field_of (packet_header here) field == value) ≡ contains_number (record { lo = value; hi = value }) (field_of (packet_header here) field)
      same = one_number (field_of (packet_header here) field) value

  value_agrees : (own : Clause) (inside outside : Found) (answer : Answer Run) → (has_value here own ≡ true → Means inside answer) → (has_value here own ≡ false → Means outside answer)
      → Means (value_tried header symbol own inside outside) answer
  value_agrees (clause.EthType value) inside outside answer h k = number_agrees of.EthType value inside outside answer h k
  value_agrees (clause.EthDst value) inside outside answer h k = number_agrees of.EthDst value inside outside answer h k
  value_agrees (clause.EthSrc value) inside outside answer h k = number_agrees of.EthSrc value inside outside answer h k
  value_agrees (clause.ArpOp value) inside outside answer h k = number_agrees of.ArpOp value inside outside answer h k

  pub clauses_agrees : (clauses : List Clause) (inside outside : Found) (answer : Answer Run) → (pattern_holds here clauses ≡ true → Means inside answer) → (pattern_holds here clauses ≡ false → Means outside answer)
      → Means (clauses_tried header symbol clauses inside outside) answer
  unfolding clauses_tried
  clauses_agrees [] inside outside answer h k = h refl
  clauses_agrees (first ∷ rest) inside outside answer h k =
      whole_agrees (value_tried header symbol first (clauses_tried header symbol rest inside outside) outside) outside answer
      (λ w. value_agrees first (clauses_tried header symbol rest inside outside) outside answer
      (λ v. clauses_agrees rest inside outside answer (λ e. h (front w ∙ behind v ∙ e)) (λ e. k (front w ∙ behind v ∙ e)))
      (λ v. k (front w ∙ behind v)))
      (λ w. k (front w))
    where
      front : {b : Bool} → is_whole here ≡ b → pattern_holds here (first ∷ rest) ≡ ((b && has_value here first) && pattern_holds here rest)
      front w = ap (λ b. (b && has_value here first) && pattern_holds here rest) w

      behind : {b : Bool} → has_value here first ≡ b → (has_value here first && pattern_holds here rest) ≡ (b && pattern_holds here rest)
      behind v = ap (λ b. b && pattern_holds here rest) v

  -- ---- patterns of IP

  pub meaning_agrees : (pattern : Pattern) (inside outside : Found) (answer : Answer Run) → (holds_on (packet_header here) pattern ≡ true → Means inside answer) → (holds_on (packet_header here) pattern ≡ false → Means outside answer)
      → Means (pattern_tried header symbol pattern inside outside) answer
  meaning_agrees pattern inside outside answer h k =
      pattern_agrees rewriters picks packet header under symbol known pattern inside outside answer (λ e. h (same ∙ e)) (λ e. k (same ∙ e))
    where
      same : holds_on (packet_header here) pattern ≡ pattern_meaning pattern (λ field. value_of (term_at symbol field) header under.passed)
      same = ap (pattern_meaning pattern) (sym (λ i field. values field i))

  -- ---- elements

  module _ (chain : ChainState) (along : Along) (at : ℕ × ℕ) (own : Kind) where
    abbrev leaves_by : ℕ → Found
    leaves_by out = leaves chain header along at own symbol out

    -- what goes on by the number of the first that holds, from a number on
    by_number : {X : Type 0} (holds : X → Bool) (tree : ℕ → List X → Found) (last : Found) → ((number : ℕ) → tree number [] ≡ last)
        → ((number : ℕ) (x : X) (xs : List X) (answer : Answer Run) → (holds x ≡ true → Means (leaves_by number) answer) → (holds x ≡ false → Means (tree (suc number) xs) answer) → Means (tree number (x ∷ xs)) answer)
        → (number : ℕ) (f : Option ℕ → Answer Run) → ((i : ℕ) → Means (leaves_by (number + i)) (f (Some i))) → Means last (f None) → (xs : List X) → Means (tree number xs) (f (position_from holds 0 xs))
    by_number holds tree last ended next number f some none [] = subst (λ found. Means found (f None)) (sym (ended number)) none
    by_number holds tree last ended next number f some none (x ∷ xs) =
        next number x xs (f (position_from holds 0 (x ∷ xs)))
        (λ e. subst (Means (leaves_by number)) (sym (found e)) (numbered (number + 0) number 0 (omega arith) (some 0)))
        (λ e. subst (Means (tree (suc number) xs)) (sym (found e))
        (by_number holds tree last ended next (suc number) (λ o. f (option_map suc o)) (λ i. numbered (number + suc i) (suc number + i) (suc i) (omega arith) (some (suc i))) none xs))
      where
        numbered : (m n i : ℕ) → m ≡ n → Means (leaves_by m) (f (Some i)) → Means (leaves_by n) (f (Some i))
        numbered m n i e h = subst (λ k. Means (leaves_by k) (f (Some i))) e h

        found : {b : Bool} → holds x ≡ b → f (position_from holds 0 (x ∷ xs)) ≡ f (cond b (Some 0) (option_map suc (position_from holds 0 xs)))
        found e = ap (λ o. f (cond (holds x) (Some 0) o)) (one_on holds 0 xs) ∙ ap (λ b. f (cond b (Some 0) (option_map suc (position_from holds 0 xs)))) e

    -- the number of the first pattern that holds, from a number on
    pub classifier_from : (number : ℕ) (f : Option ℕ → Answer Run) → ((i : ℕ) → Means (leaves_by (number + i)) (f (Some i))) → Means (dropped cause.Classified) (f None) → (patterns : List (List Clause))
        → Means (classifier_tree chain header along at own symbol number patterns) (f (position (pattern_holds here) patterns))
    unfolding classifier_tree
    classifier_from number f some none patterns =
        subst (λ o. Means (classifier_tree chain header along at own symbol number patterns) (f o)) (sym (position_from-zero (pattern_holds here) patterns))
        (by_number (pattern_holds here) (classifier_tree chain header along at own symbol) (dropped cause.Classified) (λ n. refl)
        (λ n first rest answer h k. clauses_agrees first (leaves_by n) (classifier_tree chain header along at own symbol (suc n) rest) answer h k) number f some none patterns)

    pub ip_classifier_from : (number : ℕ) (f : Option ℕ → Answer Run) → ((i : ℕ) → Means (leaves_by (number + i)) (f (Some i))) → Means (dropped cause.Filtered) (f None) → (patterns : List Pattern)
        → Means (ip_classifier_tree chain header along at own symbol number patterns) (f (position (holds_on (packet_header here)) patterns))
    unfolding ip_classifier_tree
    ip_classifier_from number f some none patterns =
        subst (λ o. Means (ip_classifier_tree chain header along at own symbol number patterns) (f o)) (sym (position_from-zero (holds_on (packet_header here)) patterns))
        (by_number (holds_on (packet_header here)) (ip_classifier_tree chain header along at own symbol) (dropped cause.Filtered) (λ n. refl)
        (λ n first rest answer h k. meaning_agrees first (leaves_by n) (ip_classifier_tree chain header along at own symbol (suc n) rest) answer h k) number f some none patterns)

    -- of all patterns
    from_zero : (f : Option ℕ → Answer Run) → ((i : ℕ) → Means (leaves_by i) (f (Some i))) → (i : ℕ) → Means (leaves_by (0 + i)) (f (Some i))
    from_zero f some i = let e : i ≡ 0 + i = omega arith in subst (λ n. Means (leaves_by n) (f (Some i))) e (some i)

    pub classifier_agrees : (f : Option ℕ → Answer Run) → ((i : ℕ) → Means (leaves_by i) (f (Some i))) → Means (dropped cause.Classified) (f None) → (patterns : List (List Clause))
        → Means (classifier_tree chain header along at own symbol 0 patterns) (f (position (pattern_holds here) patterns))
    classifier_agrees f some none patterns = classifier_from 0 f (from_zero f some) none patterns

    pub ip_classifier_agrees : (f : Option ℕ → Answer Run) → ((i : ℕ) → Means (leaves_by i) (f (Some i))) → Means (dropped cause.Filtered) (f None) → (patterns : List Pattern)
        → Means (ip_classifier_tree chain header along at own symbol 0 patterns) (f (position (holds_on (packet_header here)) patterns))
    ip_classifier_agrees f some none patterns = ip_classifier_from 0 f (from_zero f some) none patterns

    -- what the first rule says whose pattern holds
    pub filter_agrees : (f : FilterAction → Answer Run) → ((action : FilterAction) → Means (action_tree chain header along at own symbol action) (f action)) → (rules : List Rule)
        → Means (filter_tree chain header along at own symbol rules) (f (action_on (packet_header here) rules))
    unfolding filter_tree action_on
    filter_agrees f each [] = each Deny
    filter_agrees f each (rule ∷ rules) =
        meaning_agrees rule.pattern (action_tree chain header along at own symbol rule.action) (filter_tree chain header along at own symbol rules) (f (action_on (packet_header here) (rule ∷ rules)))
        (λ e. subst (Means (action_tree chain header along at own symbol rule.action)) (sym (found e)) (each rule.action))
        (λ e. subst (Means (filter_tree chain header along at own symbol rules)) (sym (found e)) (filter_agrees f each rules))
      where
        found : {b : Bool} → holds_on (packet_header here) rule.pattern ≡ b → f (action_on (packet_header here) (rule ∷ rules)) ≡ f (if b then rule.action else action_on (packet_header here) rules)
        found e = ap (λ b. f (if b then rule.action else action_on (packet_header here) rules)) e

    -- ---- routes

    abbrev towards : Hop → Found
    towards hop = leaves chain header along at own (with_gateway chain header along at symbol hop.gateway) hop.out

    abbrev address : ℕ
    address = field_of (packet_header here) of.Annotation

    -- the first entry that has the address
    entries_agree : (f : Option Hop → Answer Run) → ((hop : Hop) → Means (towards hop) (f (Some hop))) → Means (dropped cause.NoRoute) (f None) → (hops : List Hop)
        → Means (route_tree chain header along at own symbol hops) (f (find (is_in address) hops))
    unfolding route_tree is_in
    entries_agree f some none [] = none
    entries_agree f some none (hop ∷ hops) =
        span_agrees of.Annotation (prefix_span hop.address hop.length) (towards hop) (route_tree chain header along at own symbol hops) (f (find (is_in address) (hop ∷ hops)))
        (λ e. subst (Means (towards hop)) (sym (found e)) (some hop))
        (λ e. subst (Means (route_tree chain header along at own symbol hops)) (sym (found e)) (entries_agree f some none hops))
      where
        found : {b : Bool} → contains_number (prefix_span hop.address hop.length) address ≡ b → f (find (is_in address) (hop ∷ hops)) ≡ f (cond b (Some hop) (find (is_in address) hops))
        found e = ap (λ b. f (cond b (Some hop) (find (is_in address) hops))) e

    pub route_agrees : (f : Option Hop → Answer Run) → ((hop : Hop) → Means (towards hop) (f (Some hop))) → Means (dropped cause.NoRoute) (f None) → (hops : List Hop)
        → Means (route_tree chain header along at own symbol (by_length hops)) (f (route_of address hops))
    route_agrees f some none hops =
        subst (λ o. Means (route_tree chain header along at own symbol (by_length hops)) (f o)) (first_is_route address hops) (entries_agree f some none (by_length hops))
