-- What a class and its arguments say: how many pools and mappers an element holds, and what other elements are.
use Rattle.std.proofs.Common.{◌≡◌, ◌∙◌, ap, refl, sym, subst, ℕ, suc, ◌≤◌, cond, Bool, true, false, List, [], ◌∷◌, length, arith, ◌*◌}
use Rattle.std.specs.Prelude.{⊤, ◌==◌, codes, Option, Some, None, Result, Ok, Err, option_map, IfSome}
use Rattle.std.specs.List.{flat_map, list_all}
use Rattle.std.specs.Str.{bytes_eq}
use Rattle.std.proofs.lemmas.List.{length-append}
use Rattle.std.proofs.lemmas.Slice.Eq.{bytes_eq-Decides}
use Rattle.mt_lists.specs.Options.{each}
use Rattle.mt_text.specs.Number.{number_up_to}
use Rattle.mt_text.specs.Address.{ethernet_address_of, ipv4_address_of}
use Rattle.mt_kinds.specs.Arguments.{is_number, is_keyword, end_of}
use Rattle.mt_kinds.specs.Classes.{plain, counter_of, queue_of, paint_of, fixed, encap_of, point_of, store_of, plain_kind, frame_kind, datagram_kind, or_else, stateless_kind, is_lookup, kind_of}
use Rattle.mt_kinds.specs.Filters.{rules_of, ip_patterns_of}
use Rattle.mt_kinds.specs.Patterns.{patterns_of}
use Rattle.mt_kinds.specs.Routes.{hops_of}
use Rattle.mt_kinds.specs.Descriptions.{is_class_name, device_of, described, or_bad, description_of}
use Rattle.mt_kinds.specs.Rewriters.{spec_of, template_of, specs_of, templates_of}
use Rattle.mt_kinds.specs.declared.description.Description.{Description}
use Rattle.mt_kinds.specs.declared.description.Description.TheVariants.{FromDevice, ToDevice, Rewriter, Mapper, Settled}
use Rattle.mt_kinds.specs.declared.description.Misread.{Misread}
use Rattle.mt_kinds.specs.declared.description.Misread.TheVariants.{UnknownClass}
use Rattle.mt_kinds.specs.declared.kind.Kind.{Kind}
use Rattle.mt_kinds.specs.declared.kind.Kind.TheVariants as kind
use Rattle.mt_kinds.specs.declared.written.WrittenPort.{WrittenPort}
use Rattle.mt_kinds.specs.declared.written.WrittenPort.TheVariants.{Same, One, Range}
use Rattle.mt_kinds.specs.declared.written.WrittenSpec.{WrittenSpec}
use Rattle.mt_kinds.specs.declared.written.WrittenSpec.TheVariants as written
use Rattle.mt_kinds.specs.declared.written.WrittenTemplate.{WrittenTemplate}
use Rattle.mt_elements.specs.Described.{pool_at, pool_in, spec_pool, pools_in}
use Rattle.mt_elements.specs.Ranges.{IsAddress, KindFits}
use Rattle.mt_elements.proofs.Optional.{either, picked, of_each, of_found, of_next, next_good, at_found, AllGood}
use Rattle.mt_elements.proofs.Ranges.{up_to, address_is, IsEthernet, ethernet_is, WrittenFits, WrittenSpecFits, templates_are, specs_are}

-- ---- the stateless classes

-- no element of another class, a code point of six bits, and numbers in their ranges
abbrev pub IsPlain : Kind → Type 0
IsPlain (kind.FromDevice device) = ⊥
IsPlain (kind.ToDevice device) = ⊥
IsPlain (kind.IPRewriter specs) = ⊥
IsPlain (kind.RoundRobinIPMapper templates) = ⊥
IsPlain (kind.SetIPDSCP point) = point ≤ 63
IsPlain (kind.EtherEncap ether_type src dst) = KindFits (kind.EtherEncap ether_type src dst)
IsPlain (kind.StoreIPAddress address which) = KindFits (kind.StoreIPAddress address which)
IsPlain other = ⊤

plain_is : (k : Kind) (arguments : List (List ℕ)) → IsPlain k → IfSome (plain k arguments) IsPlain
unfolding plain
plain_is k [] h = h
plain_is k (x ∷ xs) h = tt

counter_is : (arguments : List (List ℕ)) → IfSome (counter_of arguments) IsPlain
unfolding counter_of
counter_is arguments = either IsPlain (list_all is_keyword arguments) (Some kind.Counter) None tt tt

queue_is : (arguments : List (List ℕ)) → IfSome (queue_of arguments) IsPlain
unfolding queue_of
queue_is [] = tt
queue_is (capacity ∷ []) = of_each IsPlain (λ _. kind.Queue) (number_up_to 4294967295 capacity) (λ x. tt)
queue_is (x ∷ y ∷ more) = tt

paint_is : (arguments : List (List ℕ)) → IfSome (paint_of arguments) IsPlain
unfolding paint_of
paint_is [] = tt
paint_is (paint ∷ []) = of_each IsPlain kind.Paint (number_up_to 255 paint) (λ x. tt)
paint_is (x ∷ y ∷ more) = tt

fixed_is : (number : ℕ) (k : Kind) (arguments : List (List ℕ)) → IsPlain k → IfSome (fixed number k arguments) IsPlain
unfolding fixed
fixed_is number k [] h = tt
fixed_is number k (argument ∷ []) h = either IsPlain (is_number number argument) (Some k) None h tt
fixed_is number k (x ∷ y ∷ more) h = tt

encap_is : (arguments : List (List ℕ)) → IfSome (encap_of arguments) IsPlain
unfolding encap_of
encap_is [] = tt
encap_is (first ∷ []) = tt
encap_is (first ∷ second ∷ []) = tt
encap_is (first ∷ second ∷ third ∷ []) =
    next_good IsPlain (λ n. n ≤ 65535) _ (number_up_to 65535 first) (up_to 65535 first) (λ ether_type low.
    next_good IsPlain IsEthernet _ (ethernet_address_of second) (ethernet_is second) (λ src low_src.
    next_good IsPlain IsEthernet _ (ethernet_address_of third) (ethernet_is third) (λ dst low_dst. unless ether_type src dst low low_src low_dst (ether_type == 2054) refl)))
  where
    unless : (ether_type src dst : ℕ) → ether_type ≤ 65535 → IsEthernet src → IsEthernet dst → (b : Bool) → (ether_type == 2054) ≡ b
        → IfSome (cond b None (Some (kind.EtherEncap ether_type src dst))) IsPlain
    unless ether_type src dst low low_src low_dst true h = tt
    unless ether_type src dst low low_src low_dst false h = (low, h, low_src, low_dst)
encap_is (a ∷ b ∷ c ∷ d ∷ more) = tt

point_is : (arguments : List (List ℕ)) → IfSome (point_of arguments) IsPlain
unfolding point_of
point_is [] = tt
point_is (point ∷ []) = of_found IsPlain kind.SetIPDSCP (number_up_to 63 point) (λ n found. at_found (λ n. n ≤ 63) (number_up_to 63 point) n (up_to 63 point) found)
point_is (x ∷ y ∷ more) = tt

store_is : (arguments : List (List ℕ)) → IfSome (store_of arguments) IsPlain
unfolding store_of
store_is [] = tt
store_is (first ∷ []) = tt
store_is (first ∷ second ∷ []) =
    next_good IsPlain IsAddress _ (ipv4_address_of first) (address_is first) (λ address low. of_next IsPlain _ (end_of second) (λ which. low))
store_is (x ∷ y ∷ z ∷ more) = tt

plain_kind_is : (class : List ℕ) (arguments : List (List ℕ)) → IfSome (plain_kind class arguments) IsPlain
unfolding plain_kind
plain_kind_is class arguments =
    picked IsPlain
    ((bytes_eq class (codes "Null"), plain kind.Null arguments) ∷ (bytes_eq class (codes "Counter"), counter_of arguments) ∷ (bytes_eq class (codes "Queue"), queue_of arguments) ∷ (bytes_eq class (codes "Paint"), paint_of arguments) ∷ (bytes_eq class (codes "PaintSwitch"), plain kind.PaintSwitch arguments) ∷ [])
    None
    (plain_is kind.Null arguments tt, (counter_is arguments, (queue_is arguments, (paint_is arguments, (plain_is kind.PaintSwitch arguments tt, tt)))))

frame_kind_is : (class : List ℕ) (arguments : List (List ℕ)) → IfSome (frame_kind class arguments) IsPlain
unfolding frame_kind
frame_kind_is class arguments =
    picked IsPlain
    ((bytes_eq class (codes "EtherMirror"), plain kind.EtherMirror arguments) ∷ (bytes_eq class (codes "Strip"), fixed 14 kind.Strip arguments) ∷ (bytes_eq class (codes "CheckIPHeader"), plain kind.CheckIPHeader arguments) ∷ (bytes_eq class (codes "EtherEncap"), encap_of arguments) ∷ [])
    None
    (plain_is kind.EtherMirror arguments tt, (fixed_is 14 kind.Strip arguments tt, (plain_is kind.CheckIPHeader arguments tt, (encap_is arguments, tt))))

datagram_kind_is : (class : List ℕ) (arguments : List (List ℕ)) → IfSome (datagram_kind class arguments) IsPlain
unfolding datagram_kind
datagram_kind_is class arguments =
    picked IsPlain
    ((bytes_eq class (codes "DecIPTTL"), plain kind.DecIPTTL arguments) ∷ (bytes_eq class (codes "SetIPDSCP"), point_of arguments) ∷ (bytes_eq class (codes "StoreIPAddress"), store_of arguments) ∷ (bytes_eq class (codes "GetIPAddress"), fixed 16 kind.GetIPAddress arguments) ∷ (bytes_eq class (codes "IPMirror"), plain kind.IPMirror arguments) ∷ [])
    None
    (plain_is kind.DecIPTTL arguments tt, (point_is arguments, (store_is arguments, (fixed_is 16 kind.GetIPAddress arguments tt, (plain_is kind.IPMirror arguments tt, tt)))))

or_else_is : (o q : Option Kind) → IfSome o IsPlain → IfSome q IsPlain → IfSome (or_else o q) IsPlain
or_else_is (Some k) q h g = h
or_else_is None q h g = g

stateless_is : (class : List ℕ) (arguments : List (List ℕ)) → IfSome (stateless_kind class arguments) IsPlain
unfolding stateless_kind
stateless_is class arguments =
    or_else_is (plain_kind class arguments) (or_else (frame_kind class arguments) (datagram_kind class arguments)) (plain_kind_is class arguments)
    (or_else_is (frame_kind class arguments) (datagram_kind class arguments) (frame_kind_is class arguments) (datagram_kind_is class arguments))

kind_is : (class : List ℕ) (arguments : List (List ℕ)) → IfSome (kind_of class arguments) IsPlain
unfolding kind_of
kind_is class arguments =
    picked IsPlain
    ((bytes_eq class (codes "Classifier"), option_map kind.Classifier (patterns_of arguments)) ∷ (bytes_eq class (codes "IPFilter"), option_map kind.IPFilter (rules_of arguments)) ∷ (bytes_eq class (codes "IPClassifier"), option_map kind.IPClassifier (ip_patterns_of arguments)) ∷ (is_lookup class, option_map kind.Route (hops_of arguments)) ∷ (bytes_eq class (codes "Discard"), plain kind.Discard arguments) ∷ [])
    (stateless_kind class arguments)
    (of_each IsPlain kind.Classifier (patterns_of arguments) (λ x. tt), (of_each IsPlain kind.IPFilter (rules_of arguments) (λ x. tt), (of_each IsPlain kind.IPClassifier (ip_patterns_of arguments) (λ x. tt), (of_each IsPlain kind.Route (hops_of arguments) (λ x. tt), (plain_is kind.Discard arguments tt, stateless_is class arguments)))))

-- ---- all classes

-- how many mappers an element is
abbrev pub mappers_in : Description → ℕ
mappers_in (Mapper templates) = 1
mappers_in other = 0

abbrev pub one_where : Bool → ℕ
one_where true = 1
one_where false = 0

abbrev pub settled_is : Description → Type 0
settled_is (Settled k) = IsPlain k
settled_is (Rewriter specs) = AllGood WrittenSpecFits specs
settled_is (Mapper templates) = AllGood WrittenFits templates
settled_is other = ⊤

-- what holds of what a class and arguments say
pub record Fits (class : List ℕ) (arguments : List (List ℕ)) (description : Description) : Type 0 where
  pub settled : settled_is description
  pub mappers : mappers_in description ≡ one_where (bytes_eq class (codes "RoundRobinIPMapper"))
  pub pools : length (pools_in description) ≤ length arguments

each_length : {A B : Type 0} (f : A → Option B) (xs : List A) → IfSome (each f xs) (λ ys. length ys ≡ length xs)
unfolding each
each_length f [] = refl
each_length f (x ∷ xs) =
    of_next (λ ys. length ys ≡ suc (length xs)) _ (f x) (λ y.
    of_found (λ ys. length ys ≡ suc (length xs)) (λ more. y ∷ more) (each f xs) (λ more found.
    ap suc (at_found (λ ys. length ys ≡ length xs) (each f xs) more (each_length f xs) found)))

pub flat_map_length : {A B : Type 0} (f : A → List B) (most : ℕ) (xs : List A) → ((x : A) → length (f x) ≤ most) → length (flat_map f xs) ≤ length xs * most
flat_map_length f most [] h = omega arith
flat_map_length f most (x ∷ xs) h =
    let one = h x in let rest = flat_map_length f most xs h in let e = length-append (f x) (flat_map f xs) in omega (arith, one, rest, e)

pool_at_most : (address : Option ℕ) (port : WrittenPort) → length (pool_at address port) ≤ 1
pool_at_most None Same = omega arith
pool_at_most None (One number) = omega arith
pool_at_most None (Range lo hi) = omega arith
pool_at_most (Some address) Same = omega arith
pool_at_most (Some address) (One number) = omega arith
pool_at_most (Some address) (Range lo hi) = omega arith

spec_pool_most : (s : WrittenSpec) → length (spec_pool s) ≤ 1
spec_pool_most written.Drop = omega arith
spec_pool_most (written.Pass out) = omega arith
spec_pool_most (written.Keep fout rout) = omega arith
spec_pool_most (written.Pattern template) = pool_at_most template.sa template.sp
spec_pool_most (written.Mapper name) = omega arith

specs_pools : (arguments : List (List ℕ)) → IfSome (specs_of arguments) (λ specs. length (flat_map spec_pool specs) ≤ length arguments)
unfolding specs_of
specs_pools arguments =
    either (λ specs. length (flat_map spec_pool specs) ≤ length arguments) (length arguments == 0) None (each spec_of arguments) tt (of_list (each spec_of arguments) (each_length spec_of arguments))
  where
    of_list : (o : Option (List WrittenSpec)) → IfSome o (λ ys. length ys ≡ length arguments) → IfSome o (λ specs. length (flat_map spec_pool specs) ≤ length arguments)
    of_list None h = tt
    of_list (Some specs) h = let most = flat_map_length spec_pool 1 specs spec_pool_most in omega (arith, most, h)

templates_pools : (arguments : List (List ℕ)) → IfSome (templates_of arguments) (λ templates. length (flat_map pool_in templates) ≤ length arguments)
unfolding templates_of
templates_pools arguments =
    either (λ templates. length (flat_map pool_in templates) ≤ length arguments) (length arguments == 0) None (each template_of arguments) tt (of_list (each template_of arguments) (each_length template_of arguments))
  where
    of_list : (o : Option (List WrittenTemplate)) → IfSome o (λ ys. length ys ≡ length arguments) → IfSome o (λ templates. length (flat_map pool_in templates) ≤ length arguments)
    of_list None h = tt
    of_list (Some templates) h = let most = flat_map_length pool_in 1 templates (λ t. pool_at_most t.sa t.sp) in omega (arith, most, h)

same_bytes : (xs ys : List ℕ) → bytes_eq xs ys ≡ true → xs ≡ ys
same_bytes xs ys h = (bytes_eq-Decides xs ys).0 h

same_ok : (d e : Description) → ◌≡◌ {A = Result Description Misread} (Ok d) (Ok e) → d ≡ e
same_ok d e h = cc

module _ (class : List ℕ) (arguments : List (List ℕ)) where
  no_mapper : (name : List ℕ) → bytes_eq name (codes "RoundRobinIPMapper") ≡ false → bytes_eq class name ≡ true → 0 ≡ one_where (bytes_eq class (codes "RoundRobinIPMapper"))
  no_mapper name other h = sym (ap (λ n. one_where (bytes_eq n (codes "RoundRobinIPMapper"))) (same_bytes class name h) ∙ ap one_where other)

  as_from : bytes_eq class (codes "FromDevice") ≡ true → IfSome (option_map FromDevice (device_of arguments)) (Fits class arguments)
  as_from h = of_each (Fits class arguments) FromDevice (device_of arguments) (λ name. record { settled = tt; mappers = no_mapper (codes "FromDevice") refl h; pools = omega arith })

  as_to : bytes_eq class (codes "ToDevice") ≡ true → IfSome (option_map ToDevice (device_of arguments)) (Fits class arguments)
  as_to h = of_each (Fits class arguments) ToDevice (device_of arguments) (λ name. record { settled = tt; mappers = no_mapper (codes "ToDevice") refl h; pools = omega arith })

  as_rewriter : bytes_eq class (codes "IPRewriter") ≡ true → IfSome (option_map Rewriter (specs_of arguments)) (Fits class arguments)
  as_rewriter h = of_found (Fits class arguments) Rewriter (specs_of arguments) (λ specs found. record {
    settled = at_found (AllGood WrittenSpecFits) (specs_of arguments) specs (specs_are arguments) found;
    mappers = no_mapper (codes "IPRewriter") refl h;
    pools = at_found (λ specs. length (flat_map spec_pool specs) ≤ length arguments) (specs_of arguments) specs (specs_pools arguments) found;
  })

  as_mapper : bytes_eq class (codes "RoundRobinIPMapper") ≡ true → IfSome (option_map Mapper (templates_of arguments)) (Fits class arguments)
  as_mapper h = of_found (Fits class arguments) Mapper (templates_of arguments) (λ templates found. record {
    settled = at_found (AllGood WrittenFits) (templates_of arguments) templates (templates_are arguments) found;
    mappers = sym (ap one_where h);
    pools = at_found (λ templates. length (flat_map pool_in templates) ≤ length arguments) (templates_of arguments) templates (templates_pools arguments) found;
  })

  as_other : bytes_eq class (codes "RoundRobinIPMapper") ≡ false → IfSome (option_map Settled (kind_of class arguments)) (Fits class arguments)
  as_other h = of_found (Fits class arguments) Settled (kind_of class arguments) (λ k found. record {
    settled = at_found IsPlain (kind_of class arguments) k (kind_is class arguments) found;
    mappers = sym (ap one_where h);
    pools = omega arith;
  })

  by_test : {B : Type 0} (P : B → Type 0) (b : Bool) (o q : Option B) → (b ≡ true → IfSome o P) → (b ≡ false → IfSome q P) → IfSome (cond b o q) P
  by_test P true o q h k = h refl
  by_test P false o q h k = k refl

  abbrev behind_rewriter : Option Description
  behind_rewriter = cond (bytes_eq class (codes "RoundRobinIPMapper")) (option_map Mapper (templates_of arguments)) (option_map Settled (kind_of class arguments))

  abbrev behind_to : Option Description
  behind_to = cond (bytes_eq class (codes "IPRewriter")) (option_map Rewriter (specs_of arguments)) behind_rewriter

  abbrev behind_from : Option Description
  behind_from = cond (bytes_eq class (codes "ToDevice")) (option_map ToDevice (device_of arguments)) behind_to

  described_fits : IfSome (described class arguments) (Fits class arguments)
  unfolding described
  described_fits =
      by_test (Fits class arguments) (bytes_eq class (codes "FromDevice")) (option_map FromDevice (device_of arguments)) behind_from as_from (λ _.
      by_test (Fits class arguments) (bytes_eq class (codes "ToDevice")) (option_map ToDevice (device_of arguments)) behind_to as_to (λ _.
      by_test (Fits class arguments) (bytes_eq class (codes "IPRewriter")) (option_map Rewriter (specs_of arguments)) behind_rewriter as_rewriter (λ _.
      by_test (Fits class arguments) (bytes_eq class (codes "RoundRobinIPMapper")) (option_map Mapper (templates_of arguments)) (option_map Settled (kind_of class arguments)) as_mapper as_other)))

  pub fits : (description : Description) → description_of class arguments ≡ Ok description → Fits class arguments description
  unfolding description_of
  fits description h = known (is_class_name class) (described class arguments) described_fits h
    where
      known : (b : Bool) (o : Option Description) → IfSome o (Fits class arguments) → cond b (or_bad o) (Err UnknownClass) ≡ Ok description → Fits class arguments description
      known true None k h = absurd cc
      known true (Some d) k h = subst (Fits class arguments) (same_ok d description h) k
      known false o k h = absurd cc
