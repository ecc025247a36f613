-- What is declared in each scope: classes, names of elements, and the ports that bodies name.
use Rattle.std.specs.Prelude.{ℕ, ◌+◌, List, [], ◌∷◌, ◌++◌, map, codes, Option, Some, None, Bool, true, false, ◌&&◌, nat_eq, nat_lt, if◌then◌else◌}
use Rattle.std.specs.Str.{bytes_eq}
use Rattle.mt_syntax.specs.declared.word.Word.{Word}
use Rattle.mt_syntax.specs.declared.phrase.PortNumber.{PortNumber}
use Rattle.mt_syntax.specs.declared.phrase.Endpoint.{Endpoint}
use Rattle.mt_syntax.specs.declared.phrase.Item.{Item}
use Rattle.mt_syntax.specs.declared.phrase.Item.TheVariants as items
use Rattle.mt_syntax.specs.declared.phrase.Phrase.{Phrase}
use Rattle.mt_syntax.specs.declared.phrase.Phrase.TheVariants as phrases
use Rattle.mt_click.specs.declared.symbols.Scope.{Scope}
use Rattle.mt_click.specs.declared.symbols.Entry.{Entry}
use Rattle.mt_click.specs.Scopes.{behind, scope_number, outside}
use Rattle.mt_syntax.specs.Words.{bytes_of}

-- an entry under a name, in a scope, and with the number of a port
abbrev pub entry : ℕ → ℕ → Word → Option ℕ → Entry
entry scope number w class = record { scope = scope; number = number; word = w; class = class }

abbrev pub is_entry : List ℕ → ℕ → ℕ → List ℕ → Entry → Bool
is_entry text scope number name e = nat_eq scope e.scope && nat_eq number e.number && bytes_eq name (bytes_of text e.word)

-- the index of the first entry that passes a test, where the list begins at an index
unfoldable pub first_from : (Entry → Bool) → ℕ → List Entry → Option ℕ
first_from test at [] = None
first_from test at (e ∷ es) = if test e then Some at else first_from test (at + 1) es

-- the index of the first entry under a name
abbrev pub first_entry : List ℕ → List Entry → ℕ → ℕ → List ℕ → Option ℕ
first_entry text entries scope number name = first_from (is_entry text scope number name) 0 entries

-- the classes, in the order of their declarations
abbrev pub class_at : Phrase → List Entry
class_at (phrases.Class w) = entry 0 0 w None ∷ []
class_at _ = []

unfoldable pub classes_in : List Phrase → List Entry
classes_in [] = []
classes_in (p ∷ ps) = class_at p ++ classes_in ps

-- a number that is below a bound
abbrev pub below : ℕ → Option ℕ → Option ℕ
below n None = None
below n (Some k) = if nat_lt k n then Some k else None

-- The class of a name, among those declared before.
unfoldable pub class_of : List ℕ → List Entry → Scope → List ℕ → Option ℕ
class_of text classes s name = below s.class_count (first_entry text classes 0 0 name)

-- The names that a phrase declares, each with the class that it is a use of. Those before one `::` are
-- waiting for the use behind it.
abbrev pub waiting_behind : List Word → Phrase → List Word
waiting_behind ws (phrases.Declared w) = ws ++ w ∷ []
waiting_behind ws _ = []

unfoldable pub declared_in : List ℕ → List Entry → Scope → Item → List Entry
declared_in text classes s (items.Declared w u) = entry (scope_number s) 0 w (class_of text classes s (bytes_of text u.class)) ∷ []
declared_in text classes s _ = []

unfoldable pub declared_at : List ℕ → List Entry → Scope → List Word → Phrase → List Entry
declared_at text classes s ws (phrases.Made u) = map (λ w. entry (scope_number s) 0 w (class_of text classes s (bytes_of text u.class))) ws
declared_at text classes s ws (phrases.First e) = declared_in text classes s e.item
declared_at text classes s ws (phrases.Next arrow e) = declared_in text classes s e.item
declared_at text classes s ws _ = []

unfoldable pub names_from : List ℕ → List Entry → Scope → List Word → List Phrase → List Entry
names_from text classes s ws [] = []
names_from text classes s ws (p ∷ ps) = declared_at text classes s ws p ++ names_from text classes (behind s p) (waiting_behind ws p) ps

-- a port that is left out is 0
abbrev pub number_of : Option PortNumber → ℕ
number_of None = 0
number_of (Some p) = p.number

-- a `->` stands behind
abbrev pub is_followed : List Phrase → Bool
is_followed (phrases.Next arrow e ∷ ps) = true
is_followed _ = false

-- the ports that the body of a class names, under the class's number: `input [k]` before a `->`,
-- `[k] output` behind one
unfoldable pub port_at : List ℕ → Scope → List ℕ → Option PortNumber → Item → List Entry
port_at text s name port (items.Name w) = if s.inside && bytes_eq (bytes_of text w) name then entry s.class_count (number_of port) w None ∷ [] else []
port_at text s name port _ = []

unfoldable pub input_at : List ℕ → Scope → Bool → Endpoint → List Entry
input_at text s followed e = if followed then port_at text s (codes "input") e.output e.item else []

unfoldable pub output_at : List ℕ → Scope → Endpoint → List Entry
output_at text s e = port_at text s (codes "output") e.input e.item

unfoldable pub ports_at : List ℕ → Scope → Bool → Phrase → List Entry
ports_at text s followed (phrases.First e) = input_at text s followed e
ports_at text s followed (phrases.Next arrow e) = output_at text s e ++ input_at text s followed e
ports_at text s followed _ = []

unfoldable pub ports_from : List ℕ → Scope → List Phrase → List Entry
ports_from text s [] = []
ports_from text s (p ∷ ps) = ports_at text s (is_followed ps) p ++ ports_from text (behind s p) ps

-- all that is declared
pub record Names : Type 0 where
  pub text : List ℕ
  pub classes : List Entry
  pub names : List Entry
  pub ports : List Entry

abbrev pub names_in : List ℕ → List Phrase → Names
names_in text ps = record {
  text = text;
  classes = classes_in ps;
  names = names_from text (classes_in ps) outside [] ps;
  ports = ports_from text outside ps;
}
