-- Each connection of a configuration has both its ends.
use Rattle.std.proofs.Common.{◌≡◌, ℕ, ◌+◌, ◌<◌, ◌≤◌, inl, inr, List, [], ◌∷◌, ◌++◌, length, cond, nat_eq, Bool, true, false, ◌&&◌, Contains, Option, Some, None, refl, sym, ap, ap₂, ◌∙◌, subst, arith, length-append}
use Rattle.std.proofs.lemmas.Bool.{eq-eqb, eqb-true}
use Rattle.std.proofs.lemmas.List.Elements.{Contains-append_cases}
use Rattle.mt_syntax.specs.declared.token.Token.{Token}
use Rattle.mt_syntax.specs.Ascends.{Ascends}
use Rattle.mt_syntax.specs.Grammar.{print_statement, sign, plain, print_body, print_parameters, ClassTree, print_class, OuterTree, outer, class, print_config}
use Rattle.mt_click.specs.declared.action.CreatedItem.{CreatedItem}
use Rattle.mt_click.specs.declared.action.CreatedItem.TheVariants as created_items
use Rattle.mt_click.specs.declared.action.Created.{Created}
use Rattle.mt_click.specs.declared.action.Connected.{Connected}
use Rattle.mt_click.specs.declared.connections.Port.{Port}
use Rattle.mt_click.specs.declared.connections.Port.TheVariants as port_kinds
use Rattle.mt_click.specs.declared.action.Side.{Side}
use Rattle.mt_click.specs.declared.action.Side.TheVariants as sides
use Rattle.mt_click.specs.Declarations.{declared_body, declared_outside, classes_of}
use Rattle.mt_click.specs.Acts.{body_sight, Act, body_acts, outside_acts}
use Rattle.mt_click.specs.Elements.{Context, State, own_offset, empty, top, with_element, with_use, with_connection}
use Rattle.mt_click.specs.Expands.{context_inside, Builds, done, makes, expands, comes, leaves, connects, Expands}
use Rattle.mt_click.specs.Connections.{is_created, item_from, item_created, left_at, reached_at, source_of, target_of, IsElsewhere, AreCreatedOnce, HasEnds, IsConnected}
use Rattle.mt_lists.proofs.Members.{first_in, later_in, cases_in, none_in}
use Rattle.mt_lists.proofs.Pairs.{first_with, later_pairs, front_pairs, back_pairs}
use Rattle.mt_click.proofs.ActNames.{StandsIn, body_tells, outside_tells}
use Rattle.mt_click.proofs.NamesApart.{stands_there}
use Rattle.mt_click.proofs.OffsetsOfActs.{sites, sites_apart, body_sited, outside_sited}
use Rattle.mt_click.proofs.SidesCreated.{IsAt, AreHeld, body_held, outside_held}
use Rattle.mt_click.proofs.CreatedOnce.{IsCreatedAt, created_behind, created_still, longer, Spaced, spaced_later, AreSpaced, gained}

-- a item that is made once is found

other_created : (enclosing n : ℕ) (m : Created) → (m.enclosing ≡ enclosing → m.offset ≡ n → ⊥) → is_created enclosing n m ≡ false
other_created enclosing n m h = by (nat_eq m.enclosing enclosing) refl (nat_eq m.offset n) refl
  where
    by : (p : Bool) → nat_eq m.enclosing enclosing ≡ p → (q : Bool) → nat_eq m.offset n ≡ q → (p && q) ≡ false
    by false e q f = refl
    by true e false f = refl
    by true e true f = absurd (h (eqb-true m.enclosing enclosing e) (eqb-true m.offset n f))

same_created : (m : Created) → is_created m.enclosing m.offset m ≡ true
same_created m = ap₂ (λ (p q : Bool). p && q) (eq-eqb m.enclosing m.enclosing refl) (eq-eqb m.offset m.offset refl)

others_created : (found : Option CreatedItem) (ms : List Created) (enclosing n : ℕ) → ((m : Created) → Contains ms m → m.enclosing ≡ enclosing → m.offset ≡ n → ⊥) → item_from found ms enclosing n ≡ found
unfolding item_from
others_created found [] enclosing n h = refl
others_created found (m ∷ ms) enclosing n h =
    ap (λ b. item_from (cond b (Some m.item) found) ms enclosing n) (other_created enclosing n m (h m (first_in m ms)))
    ∙ others_created found ms enclosing n (λ x c. h x (later_in m ms x c))

only_item : (ms : List Created) → AreCreatedOnce ms → (found : Option CreatedItem) (m : Created) → Contains ms m → item_from found ms m.enclosing m.offset ≡ Some m.item
unfolding item_from
only_item [] once found m c = none_in m c
only_item (x ∷ xs) once found m c = elim (cases_in x xs m c) [
  | inl same ↦ subst (λ (y : Created). item_from (cond (is_created y.enclosing y.offset x) (Some x.item) found) xs y.enclosing y.offset ≡ Some y.item) same
      (ap (λ b. item_from (cond b (Some x.item) found) xs x.enclosing x.offset) (same_created x)
      ∙ others_created (Some x.item) xs x.enclosing x.offset (λ y d. λ a b. first_with IsElsewhere x xs once y d (sym a) (sym b)))
  | inr later ↦ only_item xs (later_pairs IsElsewhere x xs once) (cond (is_created m.enclosing m.offset x) (Some x.item) found) m later
]

item_found : (created : List Created) → AreCreatedOnce created → (enclosing n : ℕ) → IsCreatedAt created enclosing n → (t : CreatedItem) × (item_created created enclosing n ≡ Some t)
item_found created once enclosing n (m, c, e, f) =
    (m.item, subst (λ k. item_created created k n ≡ Some m.item) e (subst (λ k. item_created created m.enclosing k ≡ Some m.item) f (only_item created once None m c)))

left_found : (port : ℕ) (o : Option CreatedItem) (t : CreatedItem) → o ≡ Some t → (x : Port) × (left_at port o ≡ Some x)
left_found port o (created_items.Element n) e = (port_kinds.Output n port, ap (left_at port) e)
left_found port o (created_items.Use n) e = (port_kinds.UseOutput n port, ap (left_at port) e)

reached_found : (port : ℕ) (o : Option CreatedItem) (t : CreatedItem) → o ≡ Some t → (x : Port) × (reached_at port o ≡ Some x)
reached_found port o (created_items.Element n) e = (port_kinds.Input n port, ap (reached_at port) e)
reached_found port o (created_items.Use n) e = (port_kinds.UseInput n port, ap (reached_at port) e)

-- an end is a border, or made in the use
abbrev IsSideCreated : List Created → ℕ → Side → Type 0
IsSideCreated created enclosing (sides.Border port) = Unit {0}
IsSideCreated created enclosing (sides.Created offset port) = IsCreatedAt created enclosing offset

source_found : (created : List Created) → AreCreatedOnce created → (enclosing : ℕ) (side : Side) → IsSideCreated created enclosing side → (x : Port) × (source_of created enclosing side ≡ Some x)
unfolding source_of
source_found created once enclosing (sides.Border port) h = (port_kinds.UseInput enclosing port, refl)
source_found created once enclosing (sides.Created offset port) h =
    let there = item_found created once enclosing offset h in
    left_found port (item_created created enclosing offset) there.0 there.1

target_found : (created : List Created) → AreCreatedOnce created → (enclosing : ℕ) (side : Side) → IsSideCreated created enclosing side → (x : Port) × (target_of created enclosing side ≡ Some x)
unfolding target_of
target_found created once enclosing (sides.Border port) h = (port_kinds.UseOutput enclosing port, refl)
target_found created once enclosing (sides.Created offset port) h =
    let there = item_found created once enclosing offset h in
    reached_found port (item_created created enclosing offset) there.0 there.1

-- both ends of a connection
abbrev AreSidesCreated : List Created → Connected → Type 0
AreSidesCreated created j = IsSideCreated created j.enclosing j.from × IsSideCreated created j.enclosing j.to

both_found : (created : List Created) → AreCreatedOnce created → (j : Connected) → AreSidesCreated created j → HasEnds created j
both_found created once j h =
    let source = source_found created once j.enclosing j.from h.0 in
    let target = target_found created once j.enclosing j.to h.1 in
    record { source = source.0; leaves = source.1; target = target.0; comes = target.1 }

-- the ends of a connection stay, and are made when the acts of its use are done

end_still : (xs ys : List Created) (enclosing : ℕ) (side : Side) → IsSideCreated xs enclosing side → IsSideCreated (xs ++ ys) enclosing side
end_still xs ys enclosing (sides.Border port) h = tt
end_still xs ys enclosing (sides.Created offset port) h = created_still xs ys enclosing offset h

ends_still : (old new now : List Created) (j : Connected) → now ≡ old ++ new → AreSidesCreated old j → AreSidesCreated now j
ends_still old new now j e h = subst (λ created. AreSidesCreated created j) (sym e) (end_still old new j.enclosing j.from h.0, end_still old new j.enclosing j.to h.1)

-- what is made at each of some places
abbrev AreAllCreated : List Created → ℕ → List ℕ → Type 0
AreAllCreated created enclosing ns = (n : ℕ) → Contains ns n → IsCreatedAt created enclosing n

end_created : (created : List Created) (enclosing : ℕ) (ns : List ℕ) → AreAllCreated created enclosing ns → (side : Side) → IsAt ns side → IsSideCreated created enclosing side
end_created created enclosing ns all (sides.Border port) h = tt
end_created created enclosing ns all (sides.Created offset port) h = all offset h

ends_created : (created : List Created) (enclosing : ℕ) (ns : List ℕ) (j : Connected) → AreAllCreated created enclosing ns → j.enclosing ≡ enclosing → IsAt ns j.from → IsAt ns j.to → AreSidesCreated created j
ends_created created enclosing ns j all e h k = subst (λ n. IsSideCreated created n j.from × IsSideCreated created n j.to) (sym e) (end_created created enclosing ns all j.from h, end_created created enclosing ns all j.to k)

-- A connection was there before, or it stands in this use, whose acts make its ends, or these are made.
data Meets (old : List Connected) (enclosing : ℕ) (ns : List ℕ) (created : List Created) (j : Connected) : Type 0 where
  there : Contains old j → Meets old enclosing ns created j
  here : j.enclosing ≡ enclosing → IsAt ns j.from → IsAt ns j.to → Meets old enclosing ns created j
  ended : AreSidesCreated created j → Meets old enclosing ns created j

-- what is connected in a use of a class, when its acts are done
meets_inside : (old : List Connected) (inner enclosing : ℕ) (ns ms : List ℕ) (mid new now : List Created) (j : Connected) → now ≡ mid ++ new → AreAllCreated mid inner ns → Meets old inner ns mid j → Meets old enclosing ms now j
meets_inside old inner enclosing ns ms mid new now j e all (there c) = there c
meets_inside old inner enclosing ns ms mid new now j e all (here a h k) = ended (ends_still mid new now j e (ends_created mid inner ns j all a h k))
meets_inside old inner enclosing ns ms mid new now j e all (ended h) = ended (ends_still mid new now j e h)

meets_behind : (old mid : List Connected) (enclosing : ℕ) (ns : List ℕ) (created : List Created) (j : Connected) → (Contains mid j → Meets old enclosing ns created j) → Meets mid enclosing ns created j → Meets old enclosing ns created j
meets_behind old mid enclosing ns created j before (there c) = before c
meets_behind old mid enclosing ns created j before (here a h k) = here a h k
meets_behind old mid enclosing ns created j before (ended h) = ended h

all_created : (old new now : List Created) (enclosing : ℕ) (ns : List ℕ) → now ≡ old ++ new → AreAllCreated new enclosing ns → AreAllCreated now enclosing ns
all_created old new now enclosing ns e all n c = subst (λ created. IsCreatedAt created enclosing n) (sym e) (created_behind old new enclosing n (all n c))

-- acts that make at places of their own, and make what they join
pub record Whole (classes : List ClassTree) (acts : List Act) : Type 0 where
  pub spaced : Spaced classes acts
  pub held : AreHeld (sites acts) acts

module _ (classes : List ClassTree) where
  abbrev AreWhole : List ℕ → Type 0
  AreWhole text = (before : List ClassTree) (c : ClassTree) → StandsIn classes before c → Whole classes (body_acts (body_sight text before c) c.body)

  meets : (text : List ℕ) (p : Context) (s : State) (acts : List Act) (t : State) → Builds text p s acts t → AreWhole text → Spaced classes acts → p.enclosing ≤ length s.created → (ns : List ℕ) → AreHeld ns acts
      → (j : Connected) → Contains t.connected j → Meets s.connected p.enclosing ns t.created j
  meets _ _ _ _ _ (done text p s) bodies spaced le ns held j i = there i
  meets _ _ _ _ _ (makes text p s t name u acts less known b) bodies spaced le ns held j i =
      let one : length (with_element text p s name u).created ≡ length s.created + 1 = length-append s.created _ in
      meets text p (with_element text p s name u) acts t b bodies (spaced_later classes (own_offset name u) acts spaced.apart spaced.stand.1) (omega (arith, le, one)) ns held.1 j i
  meets _ _ _ _ _ (expands text p s m t c before name u acts known arity b d) bodies spaced le ns held j i =
      let body = body_acts (body_sight text before c) c.body in
      let start = with_use p s (own_offset name u) in
      let one : length start.created ≡ length s.created + 1 = length-append s.created _ in
      let whole = bodies before c spaced.stand.0 in
      let later = spaced_later classes (own_offset name u) acts spaced.apart spaced.stand.1 in
      let each : AreSpaced classes text = λ front x stands. (bodies front x stands).spaced in
      let in_use = gained classes text (context_inside text p s c u) start body m b each whole.spaced (length start.created) (omega (arith, one)) (omega arith) in
      let wide : length start.created ≤ length m.created = longer start.created in_use.new m.created in_use.all in
      let up : p.enclosing ≤ length m.created = omega (arith, le, one, wide) in
      let rest = gained classes text p m acts t d each later (length m.created) up (omega arith) in
      meets_behind s.connected m.connected p.enclosing ns t.created j
      (λ before. meets_inside s.connected (length s.created + 1) p.enclosing (sites body) ns m.created rest.new t.created j rest.all
      (all_created start.created in_use.new m.created (length s.created + 1) (sites body) in_use.all in_use.kept)
      (meets text (context_inside text p s c u) start body m b bodies whole.spaced (omega (arith, one)) (sites body) whole.held j before))
      (meets text p m acts t d bodies later up ns held.1 j i)
  meets _ _ _ _ _ (comes text p s t c k acts named b) bodies spaced le ns held j i = meets text p s acts t b bodies (record { apart = spaced.apart; stand = spaced.stand.1 }) le ns held.1 j i
  meets _ _ _ _ _ (leaves text p s t c k acts named b) bodies spaced le ns held j i = meets text p s acts t b bodies (record { apart = spaced.apart; stand = spaced.stand.1 }) le ns held.1 j i
  meets _ _ _ _ _ (connects text p s t arrow from to acts b) bodies spaced le ns held j i =
      let one : Connected = record { enclosing = p.enclosing; arrow = arrow; from = from; to = to } in
      meets_behind s.connected (s.connected ++ one ∷ []) p.enclosing ns t.created j
      (λ c. elim (Contains-append_cases s.connected (one ∷ []) j c) [
        | inl old ↦ there old
        | inr new ↦ elim (cases_in one [] j new) [
          | inl same ↦ subst (Meets s.connected p.enclosing ns t.created) same (here refl held.0.0 held.0.1)
          | inr none ↦ none_in j none
        ]
      ])
      (meets text p (with_connection p s arrow from to) acts t b bodies (record { apart = spaced.apart; stand = spaced.stand.1 }) le ns held.1 j i)

-- the tokens of a body stand in the order of the text
body_up : (c : ClassTree) → Ascends (print_class c) → Ascends (print_body c.body)
body_up c h =
    let R = λ (a b : Token). a.from < b.from in
    let rest = print_parameters c.parameters ++ (print_body c.body ++ (c.right ∷ [])) in
    front_pairs R (print_body c.body) (c.right ∷ [])
    (back_pairs R (print_parameters c.parameters) (print_body c.body ++ (c.right ∷ []))
    (later_pairs R c.left rest (later_pairs R c.name (c.left ∷ rest) (later_pairs R c.keyword (c.name ∷ c.left ∷ rest) h))))

body_ascends : (us : List OuterTree) → Ascends (print_config us) → (c : ClassTree) → Contains (classes_of us) c → Ascends (print_body c.body)
unfolding classes_of
body_ascends [] h c i = none_in c i
body_ascends (outer (sign t) ∷ us) h c i = body_ascends us (later_pairs (λ (a b : Token). a.from < b.from) t (print_config us) h) c i
body_ascends (outer (plain s) ∷ us) h c i = body_ascends us (back_pairs (λ (a b : Token). a.from < b.from) (print_statement s) (print_config us) h) c i
body_ascends (class d ∷ us) h c i = elim (cases_in d (classes_of us) c i) [
  | inl same ↦ subst (λ (x : ClassTree). Ascends (print_body x.body)) same (body_up d (front_pairs (λ (a b : Token). a.from < b.from) (print_class d) (print_config us) h))
  | inr later ↦ body_ascends us (back_pairs (λ (a b : Token). a.from < b.from) (print_class d) (print_config us) h) c later
]

body_whole : (text : List ℕ) (tree : List OuterTree) → Ascends (print_config tree) → AreWhole (classes_of tree) text
body_whole text tree up before c stands =
    let s = body_sight text before c in
    let acts = body_acts s c.body in
    let ds = declared_body before c.body in
    let sited = body_sited s before c.body in
    let there = subst (λ (cs : List ClassTree). Contains cs c) (sym stands.1) (stands_there before c stands.0) in
    record {
      spaced = record {
        apart = sites_apart acts ds (print_body c.body) sited (body_ascends tree up c there);
        stand = (body_tells (classes_of tree) s (c ∷ stands.0, stands.1) before c.body).stand;
      };
      held = body_held (sites acts) s sited.named c.body (λ n i. i);
    }

outside_whole : (text : List ℕ) (tree : List OuterTree) → Ascends (print_config tree) → Whole (classes_of tree) (outside_acts text (declared_outside [] tree) [] tree)
outside_whole text tree up =
    let ds = declared_outside [] tree in
    let acts = outside_acts text ds [] tree in
    let sited = outside_sited text ds [] tree in
    record {
      spaced = record {
        apart = sites_apart acts ds (print_config tree) sited up;
        stand = (outside_tells text (classes_of tree) ds [] tree refl).stand;
      };
      held = outside_held (sites acts) text ds sited.named [] tree (λ n i. i);
    }

meets_all : (created : List Created) (ns : List ℕ) → AreCreatedOnce created → AreAllCreated created 0 ns → (j : Connected) → Meets [] 0 ns created j → HasEnds created j
meets_all created ns once all j (there c) = none_in j c
meets_all created ns once all j (here e h k) = both_found created once j (ends_created created 0 ns j all e h k)
meets_all created ns once all j (ended h) = both_found created once j h

-- What a configuration expands to is connected.
pub expands_connected : (text : List ℕ) (tree : List OuterTree) (s : State) → Ascends (print_config tree) → Expands text tree s → IsConnected s
expands_connected text tree s up h =
    let classes = classes_of tree in
    let acts = outside_acts text (declared_outside [] tree) [] tree in
    let bodies = body_whole text tree up in
    let each : AreSpaced classes text = λ front x stands. (bodies front x stands).spaced in
    let whole = outside_whole text tree up in
    let g = gained classes text top empty acts s h.builds each whole.spaced 0 (omega arith) (omega arith) in
    let once : AreCreatedOnce s.created = subst AreCreatedOnce (sym g.all) g.once in
    record {
      once = once;
      ends = λ j c. meets_all s.created (sites acts) once (all_created [] g.new s.created 0 (sites acts) g.all g.kept) j
          (meets classes text top empty acts s h.builds bodies whole.spaced (omega arith) (sites acts) whole.held j c);
    }
