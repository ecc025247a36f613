-- What each advance of reading meets.
use Rattle.std.proofs.Common.{◌≡◌, ◌⊎◌, ℕ, List, [], ◌∷◌, Bool, true, false, cond, Option, Some, None, Result, Ok, Err, refl, sym, ap, subst, ◌∙◌, inl, inr}
use Rattle.mt_syntax.specs.declared.token.TokenKind.{TokenKind}
use Rattle.mt_syntax.specs.declared.token.TokenKind.TheVariants as kinds
use Rattle.mt_syntax.specs.declared.token.Token.{Token}
use Rattle.mt_syntax.specs.declared.fault.Fault.{Fault}
use Rattle.mt_syntax.specs.declared.word.Word.{Word}
use Rattle.mt_syntax.specs.declared.phrase.Use.{Use}
use Rattle.mt_syntax.specs.declared.phrase.Endpoint.{Endpoint}
use Rattle.mt_syntax.specs.declared.phrase.Phrase.TheVariants as phrases
use Rattle.mt_syntax.specs.declared.advance.Stage.{Stage}
use Rattle.mt_syntax.specs.declared.advance.Stage.TheVariants as stages
use Rattle.mt_syntax.specs.declared.advance.Advance.{Advance}
use Rattle.mt_syntax.specs.Tokens.{EndsText, EndOnce}
use Rattle.mt_syntax.specs.Reading.{◌>>=◌, Advanced, onward, quiet, told, word, fault_at, has_port, is_comma, read_name, read_use, read_whole_endpoint, read_item, read_endpoint, read_done, read_first, read_next, read_names, read_name_more, read_made, read_after_name, read_left, read_class, read_begin, read_after_endpoint, read_parameter, read_after_parameter, read_head, read_advance}
use Rattle.mt_syntax.proofs.EndpointsPrinted.{name_again}
use Rattle.mt_syntax.proofs.TokensMet.{Met, behind_other, loosen, wider, takes, leaves, fails, goes_behind, is_other, one_then, told_as}
use Rattle.mt_syntax.proofs.EndpointsMet.{SignThen, sign_able, UseThen, PortThen, BehindThen, EndpointThen, name_met, use_met, whole_endpoint_met, endpoint_behind, endpoint_behind_met}
use Rattle.mt_syntax.proofs.StagesEnd.{AtBegin, AtDone, AtTail, AtNames, AtHead, AtParameters, Ends, begin_able, done_able, tail_able, names_able, head_able, parameters_able, done_begin, done_tail, sign_done, close_done, next_tail, first_begin, names_begin, more_names, made_names, bar_parameters, more_parameters, parameters_head, begin_head, class_begin}

abbrev pub onto : Advance → List Token → Option (Advance × List Token)
onto s ts = Some (s, ts)

abbrev pub Next : Advance → List Token → Type 0
Next s ts = Ends s.stage s.inside ts

-- The end of the text stands here, and may stand here.
abbrev pub Over : (List Token → Advanced) → (List Token → Type 0) → List Token → Type 0
Over reads Here tokens = (t : Token) × (t.kind ≡ kinds.Finish) × (tokens ≡ t ∷ []) × Here [] × (reads tokens ≡ Ok None)

-- a advance goes on, is stuck, or is the last
abbrev pub Advances : (List Token → Advanced) → (List Token → Type 0) → List Token → Type 0
Advances reads Here tokens = Met 1 reads onto Next Here tokens ⊎ Over reads Here tokens

advances_other : (reads other : List Token → Advanced) (Here There : List Token → Type 0) (t : Token) (ts : List Token) → Advances other There (t ∷ ts) → ((x : List Token) → There x → Here x) → ((more : List Token) → reads (t ∷ more) ≡ other (t ∷ more)) → Advances reads Here (t ∷ ts)
advances_other reads other Here There t ts (inl m) h g = inl (is_other 1 reads other onto Next Here t ts (wider 1 other onto Next There Here (t ∷ ts) m h) g)
advances_other reads other Here There t ts (inr o) h g = inr (o.0, o.1, o.2, h [] o.3, g ts ∙ o.4)

-- nothing stands behind an end
nothing_behind : (t : Token) (ts : List Token) → t.kind ≡ kinds.Finish → EndOnce (t ∷ ts) → ts ≡ []
nothing_behind t [] k once = refl
nothing_behind t (u ∷ ts) k once = absurd (once.0 (subst EndsText (sym k) tt))

-- the end of a statement
done_by : (k : TokenKind) (inside : Bool) (t : Token) (ts : List Token) → EndOnce (t ∷ ts) → t.kind ≡ k
    → ((more : List Token) → read_done inside (t ∷ more) ≡ elim k as (λ _. Advanced) [
      | kinds.Semicolon ↦ onward (quiet stages.Begin inside) more
      | kinds.RightBrace ↦ cond inside (onward (told phrases.Close stages.Begin false) more) (Err (fault_at t))
      | kinds.Finish ↦ cond inside (Err (fault_at t)) (Ok None)
      | _ ↦ Err (fault_at t)
    ])
    → Advances (read_done inside) (AtDone inside) (t ∷ ts)
done_by kinds.Semicolon inside t ts once k g =
    inl (takes (read_done inside) onto Next (AtDone inside) (quiet stages.Begin inside) t ts (behind_other t ts kinds.Semicolon k (λ x. x) once) (λ rest d. sign_done inside t rest k d) g)
done_by kinds.RightBrace true t ts once k g =
    inl (takes (read_done true) onto Next (AtDone true) (told phrases.Close stages.Begin false) t ts (behind_other t ts kinds.RightBrace k (λ x. x) once) (λ rest d. close_done t rest k d) g)
done_by kinds.RightBrace false t ts once k g = let a = done_able false in inl (fails 1 (read_done false) onto Next (AtDone false) t ts a.0 a.1 g)
done_by kinds.Finish true t ts once k g = let a = done_able true in inl (fails 1 (read_done true) onto Next (AtDone true) t ts a.0 a.1 g)
done_by kinds.Finish false t ts once k g = inr (t, k, ap (λ (x : List Token). t ∷ x) (nothing_behind t ts k once), ([], tt, tt, refl), g ts)
done_by _ inside t ts once k g = let a = done_able inside in inl (fails 1 (read_done inside) onto Next (AtDone inside) t ts a.0 a.1 g)

done_met : (inside : Bool) (tokens : List Token) → EndOnce tokens → Advances (read_done inside) (AtDone inside) tokens
unfolding read_done
done_met inside [] once = absurd once
done_met inside (t ∷ ts) once = done_by t.kind inside t ts once refl (λ more. refl)

-- behind an end of a connection
next_met : (arrow : ℕ) (inside : Bool) (tokens : List Token) → EndOnce tokens → Met 0 (read_next arrow inside) onto Next (EndpointThen (AtTail inside)) tokens
unfolding read_next
next_met arrow inside tokens once =
    told_as read_whole_endpoint (λ (e : Endpoint). told (phrases.Next arrow e) (stages.Ended (has_port e)) inside) onto Next (EndpointThen (AtTail inside)) tokens (whole_endpoint_met (AtTail inside) tokens (tail_able inside true) (tail_able inside false) once)

after_endpoint_by : (k : TokenKind) (port inside : Bool) (t : Token) (ts : List Token) → EndOnce (t ∷ ts) → t.kind ≡ k
    → ((more : List Token) → read_after_endpoint port inside (t ∷ more) ≡ elim k as (λ _. Advanced) [ kinds.Arrow ↦ read_next t.from inside more | _ ↦ cond port (Err (fault_at t)) (read_done inside (t ∷ more)) ])
    → Advances (read_after_endpoint port inside) (AtTail inside port) (t ∷ ts)
after_endpoint_by kinds.Arrow port inside t ts once k g =
    inl (goes_behind 0 (read_after_endpoint port inside) (read_next t.from inside) onto Next (AtTail inside port) (EndpointThen (AtTail inside)) t ts (next_met t.from inside ts (behind_other t ts kinds.Arrow k (λ x. x) once)) (λ rest h. next_tail inside port t rest k h) g)
after_endpoint_by _ true inside t ts once k g = let a = tail_able inside true in inl (fails 1 (read_after_endpoint true inside) onto Next (AtTail inside true) t ts a.0 a.1 g)
after_endpoint_by _ false inside t ts once k g = advances_other (read_after_endpoint false inside) (read_done inside) (AtTail inside false) (AtDone inside) t ts (done_met inside (t ∷ ts) once) (done_tail inside) g

after_endpoint_met : (port inside : Bool) (tokens : List Token) → EndOnce tokens → Advances (read_after_endpoint port inside) (AtTail inside port) tokens
unfolding read_after_endpoint
after_endpoint_met port inside [] once = absurd once
after_endpoint_met port inside (t ∷ ts) once = after_endpoint_by t.kind port inside t ts once refl (λ more. refl)

-- behind the first name of a statement
abbrev first_behind : Bool → Word → List Token → Advanced
first_behind inside name ts = endpoint_behind name ts >>= λ found. onward (told (phrases.First found.0) (stages.Ended (has_port found.0)) inside) found.1

abbrev names_behind : Bool → Token → List Token → Advanced
names_behind inside n ts = cond (is_comma ts) (onward (told (phrases.Declared (word n)) stages.Names inside) ts) (first_behind inside (word n) ts)

abbrev Behind : Bool → List Token → Type 0
Behind inside ts = (n : Token) → n.kind ≡ kinds.Name → AtBegin inside (n ∷ ts)

first_is : (inside : Bool) (n : Token) (ts : List Token) → n.kind ≡ kinds.Name → read_first inside (n ∷ ts) ≡ first_behind inside (word n) ts
unfolding read_first read_endpoint read_item
first_is inside n ts k = rw (name_again n ts k) refl

names_is : (inside : Bool) (n : Token) (ts : List Token) → n.kind ≡ kinds.Name → read_names inside (n ∷ ts) ≡ names_behind inside n ts
unfolding read_names
names_is inside n ts k = rw (name_again n ts k, first_is inside n ts k) refl

first_met : (inside : Bool) (name : Word) (tokens : List Token) → EndOnce tokens → Met 0 (first_behind inside name) onto Next (BehindThen (PortThen (AtTail inside))) tokens
first_met inside name tokens once =
    told_as (endpoint_behind name) (λ (e : Endpoint). told (phrases.First e) (stages.Ended (has_port e)) inside) onto Next (BehindThen (PortThen (AtTail inside))) tokens (endpoint_behind_met name (AtTail inside) tokens (tail_able inside true) (tail_able inside false) once)

names_by : (k : TokenKind) (inside : Bool) (n u : Token) (ts : List Token) → EndOnce (u ∷ ts) → u.kind ≡ k
    → ((more : List Token) → names_behind inside n (u ∷ more) ≡ cond (elim k as (λ _. Bool) [ kinds.Comma ↦ true | _ ↦ false ]) (onward (told (phrases.Declared (word n)) stages.Names inside) (u ∷ more)) (first_behind inside (word n) (u ∷ more)))
    → Met 0 (names_behind inside n) onto Next (Behind inside) (u ∷ ts)
names_by kinds.Comma inside n u ts once k g =
    leaves (names_behind inside n) onto Next (Behind inside) (told (phrases.Declared (word n)) stages.Names inside) u ts once (λ rest d. λ name e. names_begin inside name rest e d) g
names_by _ inside n u ts once k g =
    is_other 0 (names_behind inside n) (first_behind inside (word n)) onto Next (Behind inside) u ts
    (wider 0 (first_behind inside (word n)) onto Next (BehindThen (PortThen (AtTail inside))) (Behind inside) (u ∷ ts) (first_met inside (word n) (u ∷ ts) once) (λ rest h. λ name e. first_begin inside (name ∷ rest) (h name e))) g

names_met : (inside : Bool) (n : Token) (tokens : List Token) → EndOnce tokens → Met 0 (names_behind inside n) onto Next (Behind inside) tokens
names_met inside n [] once = absurd once
names_met inside n (u ∷ ts) once = names_by u.kind inside n u ts once refl (λ more. refl)

-- a class
abbrev left_behind : Word → List Token → Advanced
left_behind name ts = read_left ts >>= λ rest. onward (told (phrases.Class name) stages.Head true) rest

left_behind_is : (name : Word) (ts : List Token) (x : Result (List Token) Fault) → read_left ts ≡ x → left_behind name ts ≡ (x >>= λ rest. onward (told (phrases.Class name) stages.Head true) rest)
left_behind_is name ts x e = rw e refl

left_by : (k : TokenKind) (name : Word) (t : Token) (ts : List Token) → EndOnce (t ∷ ts) → t.kind ≡ k
    → ((more : List Token) → read_left (t ∷ more) ≡ elim k as (λ _. Result (List Token) Fault) [ kinds.LeftBrace ↦ Ok more | _ ↦ Err (fault_at t) ])
    → Met 0 (left_behind name) onto Next (SignThen kinds.LeftBrace AtHead) (t ∷ ts)
left_by kinds.LeftBrace name t ts once k g =
    loosen 1 (left_behind name) onto Next (SignThen kinds.LeftBrace AtHead) (SignThen kinds.LeftBrace AtHead) (t ∷ ts)
    (takes (left_behind name) onto Next (SignThen kinds.LeftBrace AtHead) (told (phrases.Class name) stages.Head true) t ts (behind_other t ts kinds.LeftBrace k (λ x. x) once) (λ rest d. (t, k, rest, d, refl)) (λ more. left_behind_is name (t ∷ more) (Ok more) (g more)))
    (λ x h. h)
left_by _ name t ts once k g =
    let a = sign_able kinds.LeftBrace AtHead head_able in
    fails 0 (left_behind name) onto Next (SignThen kinds.LeftBrace AtHead) t ts a.0 a.1 (λ more. left_behind_is name (t ∷ more) (Err (fault_at t)) (g more))

left_met : (name : Word) (tokens : List Token) → EndOnce tokens → Met 0 (left_behind name) onto Next (SignThen kinds.LeftBrace AtHead) tokens
unfolding read_left
left_met name [] once = absurd once
left_met name (t ∷ ts) once = left_by t.kind name t ts once refl (λ more. refl)

class_met : (tokens : List Token) → EndOnce tokens → Met 0 read_class onto Next (SignThen kinds.Name (SignThen kinds.LeftBrace AtHead)) tokens
unfolding read_class
class_met tokens once =
    one_then read_name left_behind onto Next (SignThen kinds.Name (SignThen kinds.LeftBrace AtHead)) (λ (_ : Word). SignThen kinds.LeftBrace AtHead) tokens
    (name_met (SignThen kinds.LeftBrace AtHead) tokens (sign_able kinds.LeftBrace AtHead head_able) once) (λ name rest more. left_met name rest more)

-- the begin of a statement
begin_by : (k : TokenKind) (inside : Bool) (t : Token) (ts : List Token) → EndOnce (t ∷ ts) → t.kind ≡ k
    → ((more : List Token) → read_begin inside (t ∷ more) ≡ elim k as (λ _. Advanced) [
      | kinds.Name ↦ read_names inside (t ∷ more)
      | kinds.Keyword ↦ cond inside (Err (fault_at t)) (read_class more)
      | _ ↦ read_done inside (t ∷ more)
    ])
    → Advances (read_begin inside) (AtBegin inside) (t ∷ ts)
begin_by kinds.Name inside t ts once k g =
    inl (goes_behind 0 (read_begin inside) (names_behind inside t) onto Next (AtBegin inside) (Behind inside) t ts (names_met inside t ts (behind_other t ts kinds.Name k (λ x. x) once)) (λ rest h. h t k) (λ more. g more ∙ names_is inside t more k))
begin_by kinds.Keyword true t ts once k g = let a = begin_able true in inl (fails 1 (read_begin true) onto Next (AtBegin true) t ts a.0 a.1 g)
begin_by kinds.Keyword false t ts once k g =
    inl (goes_behind 0 (read_begin false) read_class onto Next (AtBegin false) (SignThen kinds.Name (SignThen kinds.LeftBrace AtHead)) t ts (class_met ts (behind_other t ts kinds.Keyword k (λ x. x) once)) (λ rest h. class_begin t rest k h) g)
begin_by _ inside t ts once k g = advances_other (read_begin inside) (read_done inside) (AtBegin inside) (AtDone inside) t ts (done_met inside (t ∷ ts) once) (done_begin inside) g

begin_met : (inside : Bool) (tokens : List Token) → EndOnce tokens → Advances (read_begin inside) (AtBegin inside) tokens
unfolding read_begin
begin_met inside [] once = absurd once
begin_met inside (t ∷ ts) once = begin_by t.kind inside t ts once refl (λ more. refl)

-- behind a name of a declaration
more_met : (inside : Bool) (tokens : List Token) → EndOnce tokens → Met 0 (read_name_more inside) onto Next (SignThen kinds.Name (AtNames inside)) tokens
unfolding read_name_more
more_met inside tokens once =
    told_as read_name (λ (name : Word). told (phrases.Declared name) stages.Names inside) onto Next (SignThen kinds.Name (AtNames inside)) tokens (name_met (AtNames inside) tokens (names_able inside) once)

made_met : (inside : Bool) (tokens : List Token) → EndOnce tokens → Met 0 (read_made inside) onto Next (UseThen (AtDone inside)) tokens
unfolding read_made
made_met inside tokens once = told_as read_use (λ (u : Use). told (phrases.Made u) stages.Done inside) onto Next (UseThen (AtDone inside)) tokens (use_met (AtDone inside) tokens (done_able inside) once)

after_name_by : (k : TokenKind) (inside : Bool) (t : Token) (ts : List Token) → EndOnce (t ∷ ts) → t.kind ≡ k
    → ((more : List Token) → read_after_name inside (t ∷ more) ≡ elim k as (λ _. Advanced) [ kinds.Comma ↦ read_name_more inside more | kinds.Colons ↦ read_made inside more | _ ↦ Err (fault_at t) ])
    → Advances (read_after_name inside) (AtNames inside) (t ∷ ts)
after_name_by kinds.Comma inside t ts once k g =
    inl (goes_behind 0 (read_after_name inside) (read_name_more inside) onto Next (AtNames inside) (SignThen kinds.Name (AtNames inside)) t ts (more_met inside ts (behind_other t ts kinds.Comma k (λ x. x) once)) (λ rest h. more_names inside t rest k h) g)
after_name_by kinds.Colons inside t ts once k g =
    inl (goes_behind 0 (read_after_name inside) (read_made inside) onto Next (AtNames inside) (UseThen (AtDone inside)) t ts (made_met inside ts (behind_other t ts kinds.Colons k (λ x. x) once)) (λ rest h. made_names inside t rest k h) g)
after_name_by _ inside t ts once k g = let a = names_able inside in inl (fails 1 (read_after_name inside) onto Next (AtNames inside) t ts a.0 a.1 g)

after_name_met : (inside : Bool) (tokens : List Token) → EndOnce tokens → Advances (read_after_name inside) (AtNames inside) tokens
unfolding read_after_name
after_name_met inside [] once = absurd once
after_name_met inside (t ∷ ts) once = after_name_by t.kind inside t ts once refl (λ more. refl)

-- parameters
parameter_by : (k : TokenKind) (t : Token) (ts : List Token) → EndOnce (t ∷ ts) → t.kind ≡ k
    → ((more : List Token) → read_parameter (t ∷ more) ≡ elim k as (λ _. Advanced) [ kinds.Parameter ↦ onward (told (phrases.Parameter (word t)) stages.Parameters true) more | _ ↦ Err (fault_at t) ])
    → Met 1 read_parameter onto Next (SignThen kinds.Parameter AtParameters) (t ∷ ts)
parameter_by kinds.Parameter t ts once k g =
    takes read_parameter onto Next (SignThen kinds.Parameter AtParameters) (told (phrases.Parameter (word t)) stages.Parameters true) t ts (behind_other t ts kinds.Parameter k (λ x. x) once) (λ rest d. (t, k, rest, d, refl)) g
parameter_by _ t ts once k g = let a = sign_able kinds.Parameter AtParameters parameters_able in fails 1 read_parameter onto Next (SignThen kinds.Parameter AtParameters) t ts a.0 a.1 g

parameter_met : (tokens : List Token) → EndOnce tokens → Met 1 read_parameter onto Next (SignThen kinds.Parameter AtParameters) tokens
unfolding read_parameter
parameter_met [] once = absurd once
parameter_met (t ∷ ts) once = parameter_by t.kind t ts once refl (λ more. refl)

after_parameter_by : (k : TokenKind) (t : Token) (ts : List Token) → EndOnce (t ∷ ts) → t.kind ≡ k
    → ((more : List Token) → read_after_parameter (t ∷ more) ≡ elim k as (λ _. Advanced) [ kinds.Comma ↦ read_parameter more | kinds.Bar ↦ onward (quiet stages.Begin true) more | _ ↦ Err (fault_at t) ])
    → Advances read_after_parameter AtParameters (t ∷ ts)
after_parameter_by kinds.Comma t ts once k g =
    inl (goes_behind 1 read_after_parameter read_parameter onto Next AtParameters (SignThen kinds.Parameter AtParameters) t ts (parameter_met ts (behind_other t ts kinds.Comma k (λ x. x) once)) (λ rest h. more_parameters t rest k h) g)
after_parameter_by kinds.Bar t ts once k g =
    inl (takes read_after_parameter onto Next AtParameters (quiet stages.Begin true) t ts (behind_other t ts kinds.Bar k (λ x. x) once) (λ rest d. bar_parameters t rest k d) g)
after_parameter_by _ t ts once k g = let a = parameters_able in inl (fails 1 read_after_parameter onto Next AtParameters t ts a.0 a.1 g)

after_parameter_met : (tokens : List Token) → EndOnce tokens → Advances read_after_parameter AtParameters tokens
unfolding read_after_parameter
after_parameter_met [] once = absurd once
after_parameter_met (t ∷ ts) once = after_parameter_by t.kind t ts once refl (λ more. refl)

head_by : (k : TokenKind) (t : Token) (ts : List Token) → EndOnce (t ∷ ts) → t.kind ≡ k
    → ((more : List Token) → read_head (t ∷ more) ≡ elim k as (λ _. Advanced) [ kinds.Parameter ↦ read_parameter (t ∷ more) | _ ↦ read_begin true (t ∷ more) ])
    → Advances read_head AtHead (t ∷ ts)
head_by kinds.Parameter t ts once k g =
    inl (is_other 1 read_head read_parameter onto Next AtHead t ts (wider 1 read_parameter onto Next (SignThen kinds.Parameter AtParameters) AtHead (t ∷ ts) (parameter_met (t ∷ ts) once) parameters_head) g)
head_by _ t ts once k g = advances_other read_head (read_begin true) AtHead (AtBegin true) t ts (begin_met true (t ∷ ts) once) begin_head g

head_met : (tokens : List Token) → EndOnce tokens → Advances read_head AtHead tokens
unfolding read_head
head_met [] once = absurd once
head_met (t ∷ ts) once = head_by t.kind t ts once refl (λ more. refl)

pub advance_met : (stage : Stage) (inside : Bool) (tokens : List Token) → EndOnce tokens → Advances (read_advance stage inside) (Ends stage inside) tokens
unfolding read_advance
advance_met stages.Begin inside tokens once = begin_met inside tokens once
advance_met stages.Done inside tokens once = done_met inside tokens once
advance_met (stages.Ended port) inside tokens once = after_endpoint_met port inside tokens once
advance_met stages.Names inside tokens once = after_name_met inside tokens once
advance_met stages.Head inside tokens once = head_met tokens once
advance_met stages.Parameters inside tokens once = after_parameter_met tokens once
