-- A word that stands for a number is no sign of a relation.
use Rattle.std.proofs.Common.{◌≡◌, ℕ, Bool, true, false, List, [], ◌∷◌, Option, Some, None, ◌⊎◌, inl, inr, refl}
use Rattle.std.specs.Prelude.{codes, ◌||◌, if◌then◌else◌}
use Rattle.std.specs.Str.{bytes_eq}
use Rattle.std.proofs.lemmas.Slice.Eq.{bytes_eq-Decides}
use Rattle.mt_packet.specs.declared.span.Span.{Span}
use Rattle.mt_pattern.specs.declared.keyword.Keyword.{Keyword}
use Rattle.mt_pattern.specs.declared.keyword.Keyword.TheVariants as word
use Rattle.mt_pattern.specs.Keyword.{keyword_of, keyword_or, operator_of, head_of, detail_of}
use Rattle.mt_text.specs.Number.{number_up_to, number_of, decimal_of}
use Rattle.mt_pattern.specs.Span.{ports_of, ports_at}
use Rattle.mt_pattern.specs.Test.{relation_of}

-- a word that is a sign of a relation
abbrev IsSign : List ℕ → Type 0
IsSign w = (w ≡ codes ">") ⊎ ((w ≡ codes "<") ⊎ ((w ≡ codes ">=") ⊎ (w ≡ codes "<=")))

abbrev IsFree : Option Keyword → Type 0
IsFree None = Unit {0}
IsFree (Some keyword) = relation_of keyword ≡ None

-- the keyword of the first row whose test holds
abbrev pick : List (Bool × Keyword) → Option Keyword
pick [] = None
pick ((holds, keyword) ∷ rest) = if holds then Some keyword else pick rest

-- each row has a keyword that stands for no relation, or its test holds for signs alone
abbrev AreFree : List ℕ → List (Bool × Keyword) → Type 0
AreFree w [] = Unit {0}
AreFree w ((holds, keyword) ∷ rest) = ((relation_of keyword ≡ None) ⊎ (holds ≡ true → IsSign w)) × AreFree w rest

row_free : (w : List ℕ) (keyword : Keyword) → (relation_of keyword ≡ None) ⊎ (true ≡ true → IsSign w) → IsSign w ⊎ IsFree (Some keyword)
row_free w keyword (inl k) = inr k
row_free w keyword (inr s) = inl (s refl)

pick_free : (w : List ℕ) (table : List (Bool × Keyword)) → AreFree w table → IsSign w ⊎ IsFree (pick table)
pick_free w [] h = inr tt
pick_free w ((true, keyword) ∷ rest) h = row_free w keyword h.0
pick_free w ((false, keyword) ∷ rest) h = pick_free w rest h.1

read_as : (w sign : List ℕ) → bytes_eq w sign ≡ true → w ≡ sign
read_as w sign e = (bytes_eq-Decides w sign).0 e

operator_free : (w : List ℕ) → IsSign w ⊎ IsFree (operator_of w)
unfolding operator_of relation_of
operator_free w = pick_free w
    ((bytes_eq w (codes "("), word.Open)
    ∷ (bytes_eq w (codes ")"), word.Close)
    ∷ (bytes_eq w (codes "!") || bytes_eq w (codes "not"), word.Not)
    ∷ (bytes_eq w (codes "&&") || bytes_eq w (codes "and"), word.And)
    ∷ (bytes_eq w (codes "||") || bytes_eq w (codes "or"), word.Or)
    ∷ (bytes_eq w (codes ">"), word.More)
    ∷ (bytes_eq w (codes "<"), word.Less)
    ∷ (bytes_eq w (codes ">="), word.AtLeast)
    ∷ (bytes_eq w (codes "<="), word.AtMost)
    ∷ [])
    (inl refl, (inl refl, (inl refl, (inl refl, (inl refl, (inr (λ e. inl (read_as w (codes ">") e)), (inr (λ e. inr (inl (read_as w (codes "<") e))), (inr (λ e. inr (inr (inl (read_as w (codes ">=") e)))), (inr (λ e. inr (inr (inr (read_as w (codes "<=") e)))), tt)))))))))

head_free : (w : List ℕ) → IsSign w ⊎ IsFree (head_of w)
unfolding head_of relation_of
head_free w = pick_free w
    ((bytes_eq w (codes "-") || bytes_eq w (codes "true") || bytes_eq w (codes "all"), word.Always)
    ∷ (bytes_eq w (codes "src"), word.Src)
    ∷ (bytes_eq w (codes "dst"), word.Dst)
    ∷ (bytes_eq w (codes "host"), word.Host)
    ∷ (bytes_eq w (codes "net"), word.Net)
    ∷ (bytes_eq w (codes "port"), word.Port)
    ∷ (bytes_eq w (codes "tcp"), word.Tcp)
    ∷ (bytes_eq w (codes "udp"), word.Udp)
    ∷ (bytes_eq w (codes "icmp"), word.Icmp)
    ∷ (bytes_eq w (codes "ip"), word.Ip)
    ∷ [])
    (inl refl, (inl refl, (inl refl, (inl refl, (inl refl, (inl refl, (inl refl, (inl refl, (inl refl, (inl refl, tt))))))))))

detail_free : (w : List ℕ) → IsSign w ⊎ IsFree (detail_of w)
unfolding detail_of relation_of
detail_free w = pick_free w
    ((bytes_eq w (codes "proto"), word.Proto)
    ∷ (bytes_eq w (codes "dscp"), word.Dscp)
    ∷ (bytes_eq w (codes "ttl"), word.Ttl)
    ∷ (bytes_eq w (codes "frag"), word.Frag)
    ∷ (bytes_eq w (codes "unfrag"), word.Unfrag)
    ∷ (bytes_eq w (codes "opt"), word.Opt)
    ∷ (bytes_eq w (codes "syn"), word.Syn)
    ∷ (bytes_eq w (codes "ack"), word.Ack)
    ∷ (bytes_eq w (codes "fin"), word.Fin)
    ∷ (bytes_eq w (codes "rst"), word.Rst)
    ∷ (bytes_eq w (codes "type"), word.MessageType)
    ∷ [])
    (inl refl, (inl refl, (inl refl, (inl refl, (inl refl, (inl refl, (inl refl, (inl refl, (inl refl, (inl refl, (inl refl, tt)))))))))))

or_free : (w : List ℕ) (found : Option Keyword) (keyword : Keyword) → IsSign w ⊎ IsFree found → IsSign w ⊎ (relation_of keyword ≡ None) → IsSign w ⊎ (relation_of (keyword_or found keyword) ≡ None)
or_free w found keyword (inl h) k = inl h
or_free w None keyword (inr h) k = k
or_free w (Some first) keyword (inr h) k = inr h

other_free : relation_of word.Other ≡ None
unfolding relation_of
other_free = refl

sign_or_none : (w : List ℕ) → IsSign w ⊎ (relation_of (keyword_of w) ≡ None)
unfolding keyword_of
sign_or_none w =
    or_free w (operator_of w) (keyword_or (head_of w) (keyword_or (detail_of w) word.Other)) (operator_free w)
    (or_free w (head_of w) (keyword_or (detail_of w) word.Other) (head_free w) (or_free w (detail_of w) word.Other (detail_free w) (inr other_free)))

-- signs stand for no number

no_number : (greatest : ℕ) (w : List ℕ) → IsSign w → number_up_to greatest w ≡ None
unfolding number_up_to number_of decimal_of
no_number greatest w (inl e) = rw e refl
no_number greatest w (inr (inl e)) = rw e refl
no_number greatest w (inr (inr (inl e))) = rw e refl
no_number greatest w (inr (inr (inr e))) = rw e refl

no_ports : (w : List ℕ) → IsSign w → ports_of w ≡ None
unfolding ports_at number_up_to number_of decimal_of
no_ports w (inl e) = rw e refl
no_ports w (inr (inl e)) = rw e refl
no_ports w (inr (inr (inl e))) = rw e refl
no_ports w (inr (inr (inr e))) = rw e refl

number_apart : (greatest : ℕ) (w : List ℕ) (n : ℕ) → number_up_to greatest w ≡ Some n → IsSign w ⊎ (relation_of (keyword_of w) ≡ None) → relation_of (keyword_of w) ≡ None
number_apart greatest w n e (inl h) = let none = no_number greatest w h in absurd cc
number_apart greatest w n e (inr h) = h

pub number_no_relation : (greatest : ℕ) (w : List ℕ) (n : ℕ) → number_up_to greatest w ≡ Some n → relation_of (keyword_of w) ≡ None
number_no_relation greatest w n e = number_apart greatest w n e (sign_or_none w)

ports_apart : (w : List ℕ) (ports : Span) → ports_of w ≡ Some ports → IsSign w ⊎ (relation_of (keyword_of w) ≡ None) → relation_of (keyword_of w) ≡ None
ports_apart w ports e (inl h) = let none = no_ports w h in absurd cc
ports_apart w ports e (inr h) = h

pub ports_no_relation : (w : List ℕ) (ports : Span) → ports_of w ≡ Some ports → relation_of (keyword_of w) ≡ None
ports_no_relation w ports e = ports_apart w ports e (sign_or_none w)
