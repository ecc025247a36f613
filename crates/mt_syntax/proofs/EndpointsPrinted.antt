-- What is printed for a tree is read as that tree.
use Rattle.std.proofs.Common.{◌≡◌, ℕ, suc, ◌+◌, List, ◌∷◌, ◌++◌, Bool, Option, Some, None, Result, Ok, refl, ap, ◌∙◌, arith, append_assoc}
use Rattle.std.specs.Prelude.{IfSome}
use Rattle.std.specs.Option.{option_map, option_to_list}
use Rattle.mt_syntax.specs.declared.token.TokenKind.{TokenKind}
use Rattle.mt_syntax.specs.declared.token.TokenKind.TheVariants as kinds
use Rattle.mt_syntax.specs.declared.token.Token.{Token}
use Rattle.mt_syntax.specs.declared.fault.Fault.{Fault}
use Rattle.mt_syntax.specs.declared.word.Word.{Word}
use Rattle.mt_syntax.specs.declared.phrase.PortNumber.{PortNumber}
use Rattle.mt_syntax.specs.declared.phrase.Item.{Item}
use Rattle.mt_syntax.specs.declared.phrase.Item.TheVariants as items
use Rattle.mt_syntax.specs.declared.phrase.Phrase.{Phrase}
use Rattle.mt_syntax.specs.declared.advance.Stage.{Stage}
use Rattle.mt_syntax.specs.declared.advance.Advance.{Advance}
use Rattle.mt_syntax.proofs.ReadLoop.{with_front, regroup}
use Rattle.mt_syntax.specs.Reading.{word, read_name, read_arguments, read_use, read_number, read_right, read_inner, read_port, read_declared, read_behind, read_item, read_endpoint, read_whole_endpoint, read_advance, phrases_from}
use Rattle.mt_syntax.specs.Grammar.{print_use, PortTree, print_port, IsPort, port_of, ItemTree, alone, named, made, print_item, IsItem, item_of, EndpointTree, print_endpoint, IsEndpoint, endpoint_of}
use Rattle.mt_syntax.specs.Grammar.ItemTree.{alone, named, made}

-- a sign behind an end of a connection
abbrev pub EndsItem : TokenKind → Type 0
EndsItem kinds.Arrow = Unit {0}
EndsItem kinds.Semicolon = Unit {0}
EndsItem kinds.RightBrace = Unit {0}
EndsItem kinds.Finish = Unit {0}
EndsItem kinds.LeftBracket = Unit {0}
EndsItem _ = ⊥

abbrev pub EndsEndpoint : TokenKind → Type 0
EndsEndpoint kinds.Arrow = Unit {0}
EndsEndpoint kinds.Semicolon = Unit {0}
EndsEndpoint kinds.RightBrace = Unit {0}
EndsEndpoint kinds.Finish = Unit {0}
EndsEndpoint _ = ⊥

arguments_by : (k : TokenKind) (t : Token) (ts : List Token) → EndsItem k → elim k as (λ _. Option Word × List Token) [ kinds.Arguments ↦ (Some (word t), ts) | _ ↦ (None, t ∷ ts) ] ≡ (None, t ∷ ts)
arguments_by kinds.Arrow t ts h = refl
arguments_by kinds.Semicolon t ts h = refl
arguments_by kinds.RightBrace t ts h = refl
arguments_by kinds.Finish t ts h = refl
arguments_by kinds.LeftBracket t ts h = refl
arguments_by _ t ts h = absurd h

pub no_arguments : (t : Token) (ts : List Token) → EndsItem t.kind → read_arguments (t ∷ ts) ≡ (None, t ∷ ts)
unfolding read_arguments
no_arguments t ts h = arguments_by t.kind t ts h

port_by : (k : TokenKind) (t : Token) (ts : List Token) → EndsEndpoint k → elim k as (λ _. Result (Option PortNumber × List Token) Fault) [ kinds.LeftBracket ↦ read_inner t.from ts | _ ↦ Ok (None, t ∷ ts) ] ≡ Ok (None, t ∷ ts)
port_by kinds.Arrow t ts h = refl
port_by kinds.Semicolon t ts h = refl
port_by kinds.RightBrace t ts h = refl
port_by kinds.Finish t ts h = refl
port_by _ t ts h = absurd h

no_port : (t : Token) (ts : List Token) → EndsEndpoint t.kind → read_port (t ∷ ts) ≡ Ok (None, t ∷ ts)
unfolding read_port
no_port t ts h = port_by t.kind t ts h

behind_by : (k : TokenKind) (name : Word) (t : Token) (ts : List Token) → EndsItem k
    → elim k as (λ _. Result (Item × List Token) Fault) [ kinds.Colons ↦ read_declared name ts | kinds.Arguments ↦ Ok (items.Made (record { class = name; arguments = Some (word t) }), ts) | _ ↦ Ok (items.Name name, t ∷ ts) ] ≡ Ok (items.Name name, t ∷ ts)
behind_by kinds.Arrow name t ts h = refl
behind_by kinds.Semicolon name t ts h = refl
behind_by kinds.RightBrace name t ts h = refl
behind_by kinds.Finish name t ts h = refl
behind_by kinds.LeftBracket name t ts h = refl
behind_by _ name t ts h = absurd h

nothing_behind : (name : Word) (t : Token) (ts : List Token) → EndsItem t.kind → read_behind name (t ∷ ts) ≡ Ok (items.Name name, t ∷ ts)
unfolding read_behind
nothing_behind name t ts h = behind_by t.kind name t ts h

pub name_again : (t : Token) (ts : List Token) → t.kind ≡ kinds.Name → read_name (t ∷ ts) ≡ Ok (word t, ts)
unfolding read_name
name_again t ts e = rw (e, read_name) refl

arguments_again : (t : Token) (ts : List Token) → t.kind ≡ kinds.Arguments → read_arguments (t ∷ ts) ≡ (Some (word t), ts)
unfolding read_arguments
arguments_again t ts e = rw (e, read_arguments) refl

-- a use, and a sign behind it
pub use_again : (class : Token) (arguments : Option Token) (t : Token) (ts : List Token) → class.kind ≡ kinds.Name → IfSome arguments (λ a. a.kind ≡ kinds.Arguments) → EndsItem t.kind
    → read_use ((class ∷ option_to_list arguments) ++ t ∷ ts) ≡ Ok (record { class = word class; arguments = option_map word arguments }, t ∷ ts)
unfolding read_use
use_again class None t ts e a h = rw (name_again class (t ∷ ts) e, no_arguments t ts h) refl
use_again class (Some arguments) t ts e a h = rw (name_again class (arguments ∷ t ∷ ts) e, arguments_again arguments (t ∷ ts) a) refl

inner_again : (at : ℕ) (number right : Token) (value : ℕ) (ts : List Token) → number.kind ≡ kinds.Number value → right.kind ≡ kinds.RightBracket → read_inner at (number ∷ right ∷ ts) ≡ Ok (Some (record { at = at; number = value }), ts)
unfolding read_inner read_number read_right
inner_again at number right value ts a b = rw (a, b, read_inner, read_number, read_right) refl

pub port_again : (p : PortTree) (ts : List Token) → IsPort p → read_port (p.left ∷ p.number ∷ p.right ∷ ts) ≡ Ok (Some (port_of p), ts)
unfolding read_port
port_again p ts h = rw (h.0, read_port) (inner_again p.left.from p.number p.right p.value ts h.1 h.2)

pub item_again : (i : ItemTree) (t : Token) (ts : List Token) → IsItem i → EndsItem t.kind → read_item (print_item i ++ t ∷ ts) ≡ Ok (item_of i, t ∷ ts)
unfolding read_item read_behind read_declared
item_again (alone n) t ts h k = rw (name_again n (t ∷ ts) h) (nothing_behind (word n) t ts k)
item_again (named n c u) t ts h k = rw (name_again n (c ∷ print_use u ++ t ∷ ts) h.0, h.1, read_behind, use_again u.class u.arguments t ts h.2.0 h.2.1 k) refl
item_again (made n a) t ts h k = rw (name_again n (a ∷ t ∷ ts) h.0, h.1, read_behind) refl

pub endpoint_to_item : (k : TokenKind) → EndsEndpoint k → EndsItem k
endpoint_to_item kinds.Arrow h = tt
endpoint_to_item kinds.Semicolon h = tt
endpoint_to_item kinds.RightBrace h = tt
endpoint_to_item kinds.Finish h = tt
endpoint_to_item _ h = absurd h

left_ends_item : (k : TokenKind) → k ≡ kinds.LeftBracket → EndsItem k
left_ends_item k e = rw e tt

pub endpoint_again : (input : Option PortNumber) (i : ItemTree) (out : Option PortTree) (t : Token) (ts : List Token) → IsItem i → IfSome out IsPort → EndsEndpoint t.kind
    → read_endpoint input (print_item i ++ (print_port out ++ t ∷ ts)) ≡ Ok (record { input = input; item = item_of i; output = option_map port_of out }, t ∷ ts)
unfolding read_endpoint
endpoint_again input i None t ts h p k = rw (item_again i t ts h (endpoint_to_item t.kind k), no_port t ts k) refl
endpoint_again input i (Some p) t ts h q k = rw (item_again i p.left (p.number ∷ p.right ∷ t ∷ ts) h (left_ends_item p.left.kind q.0), port_again p (t ∷ ts) q) refl

name_by : (k : TokenKind) (t : Token) (ts : List Token) → k ≡ kinds.Name → elim k as (λ _. Result (Option PortNumber × List Token) Fault) [ kinds.LeftBracket ↦ read_inner t.from ts | _ ↦ Ok (None, t ∷ ts) ] ≡ Ok (None, t ∷ ts)
name_by k t ts e = rw e refl

item_no_port : (i : ItemTree) (ts : List Token) → IsItem i → read_port (print_item i ++ ts) ≡ Ok (None, print_item i ++ ts)
unfolding read_port
item_no_port (alone n) ts h = name_by n.kind n ts h
item_no_port (named n c u) ts h = name_by n.kind n (c ∷ print_use u ++ ts) h.0
item_no_port (made n a) ts h = name_by n.kind n (a ∷ ts) h.0

whole_by : (input : Option PortTree) (i : ItemTree) (out : Option PortTree) (t : Token) (ts : List Token) → IfSome input IsPort → IsItem i → IfSome out IsPort → EndsEndpoint t.kind
    → read_whole_endpoint ((print_port input ++ (print_item i ++ print_port out)) ++ t ∷ ts) ≡ Ok (record { input = option_map port_of input; item = item_of i; output = option_map port_of out }, t ∷ ts)
unfolding read_whole_endpoint
whole_by None i out t ts a b c k =
    let g : (print_item i ++ print_port out) ++ t ∷ ts ≡ print_item i ++ (print_port out ++ t ∷ ts) = append_assoc (print_item i) (print_port out) (t ∷ ts) in
    ap read_whole_endpoint g ∙ rw (item_no_port i (print_port out ++ t ∷ ts) b) (endpoint_again None i out t ts b c k)
whole_by (Some p) i out t ts a b c k =
    let g : (print_item i ++ print_port out) ++ t ∷ ts ≡ print_item i ++ (print_port out ++ t ∷ ts) = append_assoc (print_item i) (print_port out) (t ∷ ts) in
    ap (λ (x : List Token). read_whole_endpoint (p.left ∷ p.number ∷ p.right ∷ x)) g ∙ rw (port_again p (print_item i ++ (print_port out ++ t ∷ ts)) a) (endpoint_again (Some (port_of p)) i out t ts b c k)

pub whole_endpoint_again : (e : EndpointTree) (t : Token) (ts : List Token) → IsEndpoint e → EndsEndpoint t.kind → read_whole_endpoint (print_endpoint e ++ t ∷ ts) ≡ Ok (endpoint_of e, t ∷ ts)
whole_endpoint_again e t ts h k = whole_by e.input e.item e.output t ts h.0 h.1 h.2 k

-- so many advances read these phrases
abbrev pub Runs : ℕ → Stage → Bool → List Token → List Phrase → Stage → Bool → List Token → Type 0
Runs k stage inside ts ps next within rest = (n : ℕ) → phrases_from (k + n) stage inside ts ≡ with_front ps (phrases_from n next within rest)

pub one_advance : (stage : Stage) (inside : Bool) (ts : List Token) (s : Advance) (rest : List Token) → read_advance stage inside ts ≡ Ok (Some (s, rest)) → Runs 1 stage inside ts (option_to_list s.phrase) s.stage s.inside rest
unfolding phrases_from
one_advance stage inside ts s rest e n = let k : 1 + n ≡ suc n = omega arith in rw (k, phrases_from, e) refl

pub after : (a b : ℕ) (s1 : Stage) (i1 : Bool) (t1 : List Token) (ps : List Phrase) (s2 : Stage) (i2 : Bool) (t2 : List Token) (qs : List Phrase) (s3 : Stage) (i3 : Bool) (t3 : List Token)
    → Runs a s1 i1 t1 ps s2 i2 t2 → Runs b s2 i2 t2 qs s3 i3 t3 → Runs (a + b) s1 i1 t1 (ps ++ qs) s3 i3 t3
after a b s1 i1 t1 ps s2 i2 t2 qs s3 i3 t3 f g n =
    let k : a + b + n ≡ a + (b + n) = omega arith in
    ap (λ k. phrases_from k s1 i1 t1) k ∙ f (b + n) ∙ ap (with_front ps) (g n) ∙ regroup ps qs (phrases_from n s3 i3 t3)
