-- What is printed for a statement, a class or a configuration is read as its phrases.
use Rattle.std.proofs.Common.{◌≡◌, suc, ◌+◌, List, [], ◌∷◌, ◌++◌, length, Bool, true, false, cond, Option, Some, None, Ok, Err, refl, sym, ap, subst, ◌∙◌, arith, append_assoc}
use Rattle.std.specs.Prelude.{IfSome, is_some}
use Rattle.std.specs.Option.{option_map}
use Rattle.std.proofs.lemmas.List.{append-nil}
use Rattle.mt_syntax.specs.declared.token.TokenKind.{TokenKind}
use Rattle.mt_syntax.specs.declared.token.TokenKind.TheVariants as kinds
use Rattle.mt_syntax.specs.declared.token.Token.{Token}
use Rattle.mt_syntax.specs.declared.phrase.Phrase.TheVariants as phrases
use Rattle.mt_syntax.specs.declared.advance.Stage.{Stage}
use Rattle.mt_syntax.specs.declared.advance.Stage.TheVariants as stages
use Rattle.mt_syntax.proofs.ReadLoop.{whole}
use Rattle.mt_syntax.specs.Reading.{Advanced, onward, told, fault_at, has_port, is_comma, read_done, read_first, read_next, read_names, read_class, read_begin, read_after_endpoint, read_advance, phrases_from, read_whole_endpoint}
use Rattle.mt_syntax.specs.Grammar.{print_use, PortTree, print_port, IsPort, port_of, ItemTree, print_item, IsItem, item_of, EndpointTree, print_endpoint, IsEndpoint, endpoint_of, print_endpoints, AreEndpoints, next_endpoints}
use Rattle.mt_syntax.specs.Grammar.ItemTree.{alone, named, made}
use Rattle.mt_syntax.proofs.EndpointsPrinted.{EndsEndpoint, name_again, endpoint_again, whole_endpoint_again, Runs, one_advance, after}

-- a sign behind a statement
abbrev pub EndsStatement : TokenKind → Type 0
EndsStatement kinds.Semicolon = Unit {0}
EndsStatement kinds.RightBrace = Unit {0}
EndsStatement kinds.Finish = Unit {0}
EndsStatement _ = ⊥

pub ends_endpoint : (k : TokenKind) → EndsStatement k → EndsEndpoint k
ends_endpoint kinds.Semicolon h = tt
ends_endpoint kinds.RightBrace h = tt
ends_endpoint kinds.Finish h = tt
ends_endpoint _ h = absurd h

arrow_ends : (k : TokenKind) → k ≡ kinds.Arrow → EndsEndpoint k
arrow_ends k e = rw e tt

-- tokens that may stand behind an end
abbrev pub Follows : List Token → Type 0
Follows [] = ⊥
Follows (t ∷ ts) = EndsEndpoint t.kind

comma_by : (k : TokenKind) → EndsEndpoint k → elim k as (λ _. Bool) [ kinds.Comma ↦ true | _ ↦ false ] ≡ false
comma_by kinds.Arrow h = refl
comma_by kinds.Semicolon h = refl
comma_by kinds.RightBrace h = refl
comma_by kinds.Finish h = refl
comma_by _ h = absurd h

other_kind : (k other : TokenKind) → k ≡ other → elim other as (λ _. Bool) [ kinds.Comma ↦ true | _ ↦ false ] ≡ false → elim k as (λ _. Bool) [ kinds.Comma ↦ true | _ ↦ false ] ≡ false
other_kind k other e h = rw e h

-- no comma stands behind the first name of an item
port_no_comma : (out : Option PortTree) (ts : List Token) → IfSome out IsPort → Follows ts → is_comma (print_port out ++ ts) ≡ false
port_no_comma None [] h f = absurd f
port_no_comma None (t ∷ ts) h f = comma_by t.kind f
port_no_comma (Some p) ts h f = other_kind p.left.kind kinds.LeftBracket h.0 refl

by_names : (inside : Bool) (n : Token) (ts : List Token) → n.kind ≡ kinds.Name → is_comma ts ≡ false → read_names inside (n ∷ ts) ≡ read_first inside (n ∷ ts)
unfolding read_names
by_names inside n ts e c = rw (name_again n ts e) (rw c refl)

item_names : (inside : Bool) (i : ItemTree) (out : Option PortTree) (ts : List Token) → IsItem i → IfSome out IsPort → Follows ts
    → read_names inside (print_item i ++ (print_port out ++ ts)) ≡ read_first inside (print_item i ++ (print_port out ++ ts))
item_names inside (alone n) out ts h p f = by_names inside n (print_port out ++ ts) h (port_no_comma out ts p f)
item_names inside (named n c u) out ts h p f = by_names inside n (c ∷ print_use u ++ (print_port out ++ ts)) h.0 (other_kind c.kind kinds.Colons h.1 refl)
item_names inside (made n a) out ts h p f = by_names inside n (a ∷ (print_port out ++ ts)) h.0 (other_kind a.kind kinds.Arguments h.1 refl)

begin_by : (k : TokenKind) (inside : Bool) (t : Token) (ts : List Token) → k ≡ kinds.Name
    → elim k as (λ _. Advanced) [ kinds.Name ↦ read_names inside (t ∷ ts) | kinds.Keyword ↦ cond inside (Err (fault_at t)) (read_class ts) | _ ↦ read_done inside (t ∷ ts) ] ≡ read_names inside (t ∷ ts)
begin_by k inside t ts e = rw e refl

begin_item : (inside : Bool) (i : ItemTree) (ts : List Token) → IsItem i → read_begin inside (print_item i ++ ts) ≡ read_names inside (print_item i ++ ts)
unfolding read_begin
begin_item inside (alone n) ts h = begin_by n.kind inside n ts h
begin_item inside (named n c u) ts h = begin_by n.kind inside n (c ∷ print_use u ++ ts) h.0
begin_item inside (made n a) ts h = begin_by n.kind inside n (a ∷ ts) h.0

first_read : (inside : Bool) (i : ItemTree) (out : Option PortTree) (ts : List Token) → IsItem i → IfSome out IsPort → Follows ts
    → read_first inside (print_item i ++ (print_port out ++ ts)) ≡ onward (told (phrases.First (record { input = None; item = item_of i; output = option_map port_of out })) (stages.Ended (is_some (option_map port_of out))) inside) ts
unfolding read_first
first_read inside i out [] h p f = absurd f
first_read inside i out (t ∷ ts) h p f = rw (endpoint_again None i out t ts h p f) refl

pub first_advance : (inside : Bool) (i : ItemTree) (out : Option PortTree) (ts : List Token) → IsItem i → IfSome out IsPort → Follows ts
    → read_advance stages.Begin inside (print_item i ++ (print_port out ++ ts)) ≡ onward (told (phrases.First (record { input = None; item = item_of i; output = option_map port_of out })) (stages.Ended (is_some (option_map port_of out))) inside) ts
unfolding read_advance
first_advance inside i out ts h p f = begin_item inside i (print_port out ++ ts) h ∙ item_names inside i out ts h p f ∙ first_read inside i out ts h p f

whole_endpoint_follows : (e : EndpointTree) (ts : List Token) → IsEndpoint e → Follows ts → read_whole_endpoint (print_endpoint e ++ ts) ≡ Ok (endpoint_of e, ts)
whole_endpoint_follows e [] h f = absurd f
whole_endpoint_follows e (t ∷ ts) h f = whole_endpoint_again e t ts h f

arrow_by : (k : TokenKind) (port inside : Bool) (t : Token) (ts : List Token) → k ≡ kinds.Arrow
    → elim k as (λ _. Advanced) [ kinds.Arrow ↦ read_next t.from inside ts | _ ↦ cond port (Err (fault_at t)) (read_done inside (t ∷ ts)) ] ≡ read_next t.from inside ts
arrow_by k port inside t ts e = rw e refl

next_advance : (port inside : Bool) (arrow : Token) (e : EndpointTree) (ts : List Token) → arrow.kind ≡ kinds.Arrow → IsEndpoint e → Follows ts
    → read_advance (stages.Ended port) inside (arrow ∷ (print_endpoint e ++ ts)) ≡ onward (told (phrases.Next arrow.from (endpoint_of e)) (stages.Ended (has_port (endpoint_of e))) inside) ts
unfolding read_advance read_after_endpoint read_next
next_advance port inside arrow e ts a h f = arrow_by arrow.kind port inside arrow (print_endpoint e ++ ts) a ∙ rw (whole_endpoint_follows e ts h f) refl

-- the `->` and the ends behind a first end
abbrev pub tail_endpoints : List (Token × EndpointTree) → List Token
tail_endpoints [] = []
tail_endpoints (next ∷ more) = next.0 ∷ (print_endpoint next.1 ++ tail_endpoints more)

pub endpoints_printed : (e : EndpointTree) (more : List (Token × EndpointTree)) → print_endpoints e more ≡ print_endpoint e ++ tail_endpoints more
endpoints_printed e [] = sym (append-nil (print_endpoint e))
endpoints_printed e (next ∷ more) = ap (λ (x : List Token). print_endpoint e ++ (next.0 ∷ x)) (endpoints_printed next.1 more)

pub tail_follows : (e : EndpointTree) (more : List (Token × EndpointTree)) (t : Token) (ts : List Token) → AreEndpoints e more → EndsStatement t.kind → Follows (tail_endpoints more ++ t ∷ ts)
tail_follows e [] t ts h k = ends_endpoint t.kind k
tail_follows e (next ∷ more) t ts h k = arrow_ends next.0.kind h.1

no_advances : (stage : Stage) (inside : Bool) (ts : List Token) → Runs 0 stage inside ts [] stage inside ts
no_advances stage inside ts n = let k : 0 + n ≡ n = omega arith in rw k (sym (whole (phrases_from n stage inside ts)))

no_output : (o : Option PortTree) → o ≡ None → is_some (option_map port_of o) ≡ false
no_output o e = rw e refl

pub first_is : (e : EndpointTree) (more : List (Token × EndpointTree)) → AreEndpoints e more → IsEndpoint e
first_is e [] h = h.0
first_is e (next ∷ more) h = h.0

pub tail_run : (more : List (Token × EndpointTree)) (e : EndpointTree) (inside : Bool) (t : Token) (ts : List Token) → AreEndpoints e more → EndsStatement t.kind
    → Runs (length more) (stages.Ended (has_port (endpoint_of e))) inside (tail_endpoints more ++ t ∷ ts) (next_endpoints more) (stages.Ended false) inside (t ∷ ts)
tail_run [] e inside t ts h k = subst (λ (b : Bool). Runs 0 (stages.Ended (has_port (endpoint_of e))) inside (t ∷ ts) [] (stages.Ended b) inside (t ∷ ts)) (no_output e.output h.1) (no_advances (stages.Ended (has_port (endpoint_of e))) inside (t ∷ ts))
tail_run (next ∷ more) e inside t ts h k =
    let rest = tail_endpoints more ++ t ∷ ts in
    let end_is : IsEndpoint next.1 = first_is next.1 more h.2 in
    let g : (next.0 ∷ (print_endpoint next.1 ++ tail_endpoints more)) ++ t ∷ ts ≡ next.0 ∷ (print_endpoint next.1 ++ rest) = ap (λ (x : List Token). next.0 ∷ x) (append_assoc (print_endpoint next.1) (tail_endpoints more) (t ∷ ts)) in
    let m = next_advance (has_port (endpoint_of e)) inside next.0 next.1 rest h.1 end_is (tail_follows next.1 more t ts h.2 k) in
    let one = one_advance (stages.Ended (has_port (endpoint_of e))) inside (next.0 ∷ (print_endpoint next.1 ++ rest)) _ rest m in
    let two = tail_run more next.1 inside t ts h.2 k in
    let both = after 1 (length more) _ inside _ (phrases.Next next.0.from (endpoint_of next.1) ∷ []) _ inside rest (next_endpoints more) _ inside (t ∷ ts) one two in
    let l : 1 + length more ≡ suc (length more) = omega arith in
    rw (g, ← l) both
