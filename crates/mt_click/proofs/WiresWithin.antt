-- Wires join elements that are there.
use Rattle.std.proofs.Common.{◌≡◌, ℕ, ◌<◌, ◌≤◌, inl, inr, List, [], ◌∷◌, length, map, cond, Bool, true, false, Option, Some, None, sym, ap, subst, arith}
use Rattle.std.specs.List.{Contains}
use Rattle.std.proofs.lemmas.List.Elements.{Contains-append_cases}
use Rattle.mt_click.specs.declared.action.CreatedItem.{CreatedItem}
use Rattle.mt_click.specs.declared.action.CreatedItem.TheVariants as created_items
use Rattle.mt_click.specs.declared.action.Created.{Created}
use Rattle.mt_click.specs.declared.action.Connected.{Connected}
use Rattle.mt_click.specs.declared.action.Side.{Side}
use Rattle.mt_click.specs.declared.action.Side.TheVariants as sides
use Rattle.mt_click.specs.declared.connections.Port.{Port}
use Rattle.mt_click.specs.declared.connections.Port.TheVariants as port_kinds
use Rattle.mt_click.specs.declared.connections.Connection.{Connection}
use Rattle.mt_click.specs.declared.connections.Path.{Path}
use Rattle.mt_graph.specs.declared.Wire.{Wire}
use Rattle.mt_graph.specs.declared.Graph.{Graph}
use Rattle.mt_click.specs.Connections.{is_created, item_from, item_created, left_at, reached_at, source_of, target_of, connection_between, connection_of, connections_from, connections_in}
use Rattle.mt_click.specs.Wires.{Leads, stays, follows, IsPath, wire_of}
use Rattle.mt_click.specs.Sound.{AreWithin}
use Rattle.mt_lists.proofs.Members.{first_in, later_in, cases_in, none_in}
use Rattle.mt_click.proofs.AtMost512.{IsThere, few, few_found}
use Rattle.mt_click.specs.Building.{built_in, IsWalked}

abbrev pub MayBeThere : ℕ → Option CreatedItem → Type 0
MayBeThere count None = Unit {0}
MayBeThere count (Some t) = IsThere count t

abbrev pub IsPortThere : ℕ → Port → Type 0
IsPortThere count (port_kinds.Output n k) = n < count
IsPortThere count (port_kinds.Input n k) = n < count
IsPortThere count (port_kinds.UseOutput n k) = Unit {0}
IsPortThere count (port_kinds.UseInput n k) = Unit {0}

abbrev pub MayBePortThere : ℕ → Option Port → Type 0
MayBePortThere count None = Unit {0}
MayBePortThere count (Some p) = IsPortThere count p

abbrev AllThere : ℕ → List Created → Type 0
AllThere count created = (m : Created) → Contains created m → IsThere count m.item

either : (count : ℕ) (b : Bool) (t : CreatedItem) (found : Option CreatedItem) → IsThere count t → MayBeThere count found → MayBeThere count (cond b (Some t) found)
either count true t found h k = h
either count false t found h k = k

item_there : (count : ℕ) (created : List Created) (found : Option CreatedItem) (enclosing offset : ℕ) → MayBeThere count found → AllThere count created → MayBeThere count (item_from found created enclosing offset)
unfolding item_from
item_there count [] found enclosing offset h all = h
item_there count (m ∷ ms) found enclosing offset h all =
    item_there count ms (cond (is_created enclosing offset m) (Some m.item) found) enclosing offset (either count (is_created enclosing offset m) m.item found (all m (first_in m ms)) h) (λ x c. all x (later_in m ms x c))

left_there : (count port : ℕ) (t : Option CreatedItem) → MayBeThere count t → MayBePortThere count (left_at port t)
left_there count port None h = tt
left_there count port (Some (created_items.Element n)) h = h
left_there count port (Some (created_items.Use n)) h = tt

reached_there : (count port : ℕ) (t : Option CreatedItem) → MayBeThere count t → MayBePortThere count (reached_at port t)
reached_there count port None h = tt
reached_there count port (Some (created_items.Element n)) h = h
reached_there count port (Some (created_items.Use n)) h = tt

source_there : (count : ℕ) (created : List Created) (enclosing : ℕ) (side : Side) → AllThere count created → MayBePortThere count (source_of created enclosing side)
unfolding source_of
source_there count created enclosing (sides.Border port) all = tt
source_there count created enclosing (sides.Created offset port) all = left_there count port (item_created created enclosing offset) (item_there count created None enclosing offset tt all)

target_there : (count : ℕ) (created : List Created) (enclosing : ℕ) (side : Side) → AllThere count created → MayBePortThere count (target_of created enclosing side)
unfolding target_of
target_there count created enclosing (sides.Border port) all = tt
target_there count created enclosing (sides.Created offset port) all = reached_there count port (item_created created enclosing offset) (item_there count created None enclosing offset tt all)

abbrev IsConnectionThere : ℕ → Connection → Type 0
IsConnectionThere count l = IsPortThere count l.from × IsPortThere count l.to

connection_between_there : (count arrow : ℕ) (a b : Option Port) → MayBePortThere count a → MayBePortThere count b → (l : Connection) → Contains (connection_between arrow a b) l → IsConnectionThere count l
connection_between_there count arrow None b h k l c = none_in l c
connection_between_there count arrow (Some a) None h k l c = none_in l c
connection_between_there count arrow (Some a) (Some b) h k l c = elim (cases_in _ [] l c) [
  | inl same ↦ subst (IsConnectionThere count) same (h, k)
  | inr none ↦ none_in l none
]

connections_there : (count : ℕ) (created : List Created) (connected : List Connected) → AllThere count created → (l : Connection) → Contains (connections_from created connected) l → IsConnectionThere count l
unfolding connections_from connection_of
connections_there count created [] all l c = none_in l c
connections_there count created (j ∷ js) all l c = elim (Contains-append_cases (connection_between j.arrow (source_of created j.enclosing j.from) (target_of created j.enclosing j.to)) (connections_from created js) l c) [
  | inl own ↦ connection_between_there count j.arrow (source_of created j.enclosing j.from) (target_of created j.enclosing j.to) (source_there count created j.enclosing j.from all) (target_there count created j.enclosing j.to all) l own
  | inr later ↦ connections_there count created js all l later
]

leads_there : (count : ℕ) (connections : List Connection) → ((l : Connection) → Contains connections l → IsConnectionThere count l) → (p q : Port) → Leads connections p q → IsPortThere count p → IsPortThere count q
leads_there count connections all _ _ (stays _ p) h = h
leads_there count connections all _ _ (follows _ p q r l path c from to) h = subst (IsPortThere count) to (all l c).1

path_there : (count : ℕ) (connections : List Connection) → ((l : Connection) → Contains connections l → IsConnectionThere count l) → (w : Path) → IsPath connections w → (w.from < count) × (w.to < count)
path_there count connections all w i =
    let l = all i.first i.there in
    (subst (IsPortThere count) i.leaves l.0, leads_there count connections all i.first.to (port_kinds.Input w.to w.into) i.leads l.1)

mapped : {X Y : Type 0} (f : X → Y) (xs : List X) (y : Y) → Contains (map f xs) y → (x : X) × Contains xs x × (f x ≡ y)
mapped f [] y c = none_in y c
mapped f (x ∷ xs) y c = elim (cases_in (f x) (map f xs) y c) [
  | inl same ↦ (x, first_in x xs, same)
  | inr later ↦ let m = mapped f xs y later in (m.0, later_in x xs m.0 m.1, m.2)
]

-- the wires of a graph
pub within : (text : List ℕ) (g : Graph) → IsWalked text g → AreWithin (length g.elements.items) g.wires.items
within text g i w c =
    let s = i.state in
    let sound = few_found s (built_in text) i.walk (few text) in
    let m = mapped (wire_of text) i.wires.paths w (subst (λ xs. Contains xs w) i.wires.of_paths c) in
    let path = (i.wires.are.all m.0).0 m.1 in
    let there = path_there (length s.elements) (connections_in s) (connections_there (length s.elements) s.created s.connected sound.created) m.0 path in
    let q : length s.elements ≡ length g.elements.items = ap length (sym i.elements) in
    subst (λ (x : Wire). (x.from < length g.elements.items) × (x.to < length g.elements.items)) m.2 (subst (λ n. (m.0.from < n) × (m.0.to < n)) q there)

pub at_most : (text : List ℕ) (g : Graph) → IsWalked text g → length g.elements.items ≤ 512
at_most text g i =
    let sound = few_found i.state (built_in text) i.walk (few text) in
    let q : length g.elements.items ≡ length i.state.elements = ap length i.elements in
    let most = sound.few in
    omega (arith, q, most)
