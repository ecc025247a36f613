-- Each argument text of a text whose places all have tokens ends at its `)`.
use Rattle.std.proofs.Common.{◌≡◌, ℕ, zero, suc, ◌+◌, ◌-◌, ◌<◌, ◌≤◌, List, [], ◌∷◌, length, take, drop, cond, eqb, leb, Bool, true, false, Option, Some, None, refl, sym, ap, subst, ◌∙◌, inl, inr, arith, length-take}
use Rattle.std.specs.List.{Contains, prefix_len}
use Rattle.std.proofs.lemmas.Bool.Decides.{nat_tests}
use Rattle.mt_syntax.specs.declared.comment.Comment.{Comment}
use Rattle.mt_syntax.specs.declared.comment.Comment.TheVariants.{Absent, Closed, Open}
use Rattle.mt_syntax.specs.declared.token.TokenKind.{TokenKind}
use Rattle.mt_syntax.specs.declared.token.TokenKind.TheVariants as kinds
use Rattle.mt_syntax.specs.declared.token.Token.{Token}
use Rattle.mt_syntax.specs.declared.piece.Piece.{Piece}
use Rattle.mt_syntax.specs.declared.piece.Piece.TheVariants.{Taken, Wrong}
use Rattle.mt_text.specs.Byte.{is_white, is_letter, is_digit}
use Rattle.mt_syntax.specs.Comment.{comment_at, hidden, bare}
use Rattle.mt_syntax.specs.Closing.{closing, depth_after, is_plain, plain_len}
use Rattle.mt_syntax.specs.Piece.{mark_of, mark_at, plain_at, piece_at}
use Rattle.mt_syntax.specs.Tokens.{is_name, token, tokens_from, tokens_in}
use Rattle.mt_syntax.specs.Words.{bytes_of}
use Rattle.mt_syntax.specs.Reading.{word}
use Rattle.mt_syntax.specs.Balance.{IsClosed, NoBroken, AreClosed}
use Rattle.mt_syntax.proofs.TokenWalk.{EachWithRest, each_with_rest, of_one}
use Rattle.mt_syntax.proofs.NamesSpelled.{IsKnown, GoesTo, piece_known, token_bytes}
use Rattle.mt_syntax.proofs.CommentsCut.{closing_low, next_closing, here_or_next, hidden_absent, hidden_closed, hidden_open, cut}
use Rattle.mt_syntax.proofs.HiddenComments.{length_hidden}

-- a byte above 126 outside comments begins no token

high_byte : (b c : ℕ) → 126 < b → c ≤ 126 → eqb b c ≡ false
high_byte b c h le = grind (arith, nat_tests)

high_mark : (b : ℕ) → 126 < b → mark_of b ≡ Wrong
unfolding mark_of
high_mark b h =
    rw (high_byte b 91 h (omega arith), high_byte b 93 h (omega arith), high_byte b 123 h (omega arith), high_byte b 125 h (omega arith), high_byte b 124 h (omega arith), high_byte b 59 h (omega arith), high_byte b 44 h (omega arith)) refl

high_mark_at : (b : ℕ) (bs : List ℕ) → 126 < b → mark_at false (b ∷ bs) ≡ Wrong
unfolding mark_at
high_mark_at b bs h =
    rw (high_byte b 40 h (omega arith), high_byte b 36 h (omega arith), high_byte b 58 h (omega arith), high_byte b 45 h (omega arith)) (high_mark b h)

high_plain : (b : ℕ) (bs : List ℕ) → 126 < b → plain_at false (b ∷ bs) ≡ Wrong
unfolding plain_at
high_plain b bs h =
    let w : is_white b ≡ false = grind (arith, nat_tests) in
    let l : is_letter b ≡ false = grind (arith, nat_tests) in
    let d : is_digit b ≡ false = grind (arith, nat_tests) in
    rw (w, l, d) (high_mark_at b bs h)

high_piece : (b : ℕ) (bs : List ℕ) → comment_at (b ∷ bs) ≡ Absent → 126 < b → piece_at false (b ∷ bs) ≡ Wrong
unfolding piece_at
high_piece b bs c h = rw (c, piece_at) (high_plain b bs h)

abbrev pub IsBrokenAt : ℕ → ℕ → List ℕ → Type 0
IsBrokenAt at plain bs = (e : ℕ) × (tokens_from at false plain bs ≡ token kinds.Broken e e ∷ [])

passed : (at plain b : ℕ) (bs : List ℕ) → IsBrokenAt (at + 1) plain bs → IsBrokenAt at (1 + plain) (b ∷ bs)
unfolding tokens_from
passed at plain b bs h = let k : 1 + plain ≡ suc plain = omega arith in rw k h

broken_here : (at b : ℕ) (bs : List ℕ) → piece_at false (b ∷ bs) ≡ Wrong → IsBrokenAt at 0 (b ∷ bs)
unfolding tokens_from
broken_here at b bs h = (at, rw (h, tokens_from) refl)

hidden_first : (at b : ℕ) (bs : List ℕ) (s : ℕ) → prefix_len is_plain (None ∷ hidden s bs) < suc (length bs) → (prefix_len is_plain (hidden s bs) < length bs → IsBrokenAt (at + 1) (prefix_len is_plain (hidden s bs)) bs)
    → IsBrokenAt at (prefix_len is_plain (None ∷ hidden s bs)) (b ∷ bs)
hidden_first at b bs s lt more = passed at (prefix_len is_plain (hidden s bs)) b bs (more (omega (arith, lt)))

shown_first : (at b : ℕ) (bs : List ℕ) → comment_at (b ∷ bs) ≡ Absent → prefix_len is_plain (Some b ∷ hidden 0 bs) < suc (length bs) → (prefix_len is_plain (hidden 0 bs) < length bs → IsBrokenAt (at + 1) (prefix_len is_plain (hidden 0 bs)) bs)
    → IsBrokenAt at (prefix_len is_plain (Some b ∷ hidden 0 bs)) (b ∷ bs)
shown_first at b bs c lt more =
    elim (leb b 126) as (λ (t : Bool). leb b 126 ≡ t → cond t (1 + prefix_len is_plain (hidden 0 bs)) 0 < suc (length bs) → IsBrokenAt at (cond t (1 + prefix_len is_plain (hidden 0 bs)) 0) (b ∷ bs)) [
      | true ↦ λ e less. passed at (prefix_len is_plain (hidden 0 bs)) b bs (more (omega (arith, less)))
      | false ↦ λ e less. broken_here at b bs (high_piece b bs c (grind (arith, nat_tests)))
    ] refl lt

-- the token that such a byte cuts is the last before `Broken`
broken_behind : (bs : List ℕ) (s at : ℕ) → prefix_len is_plain (hidden s bs) < length bs → IsBrokenAt at (prefix_len is_plain (hidden s bs)) bs
unfolding hidden
broken_behind [] s at lt = absurd (omega (arith, lt))
broken_behind (b ∷ bs) (suc s) at lt = hidden_first at b bs s lt (λ less. broken_behind bs s (at + 1) less)
broken_behind (b ∷ bs) zero at lt =
    elim (comment_at (b ∷ bs)) as (λ (c : Comment). comment_at (b ∷ bs) ≡ c → IsBrokenAt at (prefix_len is_plain (hidden zero (b ∷ bs))) (b ∷ bs)) [
      | Absent ↦ λ c. (let e = hidden_absent b bs c in
          let less : prefix_len is_plain (Some b ∷ hidden 0 bs) < suc (length bs) = subst (λ (x : List (Option ℕ)). prefix_len is_plain x < suc (length bs)) e lt in
          subst (λ (x : List (Option ℕ)). IsBrokenAt at (prefix_len is_plain x) (b ∷ bs)) (sym e) (shown_first at b bs c less (λ fewer. broken_behind bs 0 (at + 1) fewer)))
      | Closed n ↦ λ c. (let e = hidden_closed b bs n c in
          let less : prefix_len is_plain (None ∷ hidden (n - 1) bs) < suc (length bs) = subst (λ (x : List (Option ℕ)). prefix_len is_plain x < suc (length bs)) e lt in
          subst (λ (x : List (Option ℕ)). IsBrokenAt at (prefix_len is_plain x) (b ∷ bs)) (sym e) (hidden_first at b bs (n - 1) less (λ fewer. broken_behind bs (n - 1) (at + 1) fewer)))
      | Open ↦ λ c. (let e = hidden_open b bs c in
          let less : prefix_len is_plain (None ∷ hidden (length bs) bs) < suc (length bs) = subst (λ (x : List (Option ℕ)). prefix_len is_plain x < suc (length bs)) e lt in
          subst (λ (x : List (Option ℕ)). IsBrokenAt at (prefix_len is_plain x) (b ∷ bs)) (sym e) (hidden_first at b bs (length bs) less (λ fewer. broken_behind bs (length bs) (at + 1) fewer)))
    ] refl

-- an argument text that is not cut

closing_high : (bs : List (Option ℕ)) (depth m : ℕ) → closing depth bs ≡ Some m → m ≤ length bs
unfolding closing
closing_high [] depth m e = absurd cc
closing_high (None ∷ bs) depth m e = let n = next_closing depth m bs e in omega (arith, n.2, closing_high bs depth n.0 n.1)
closing_high (Some b ∷ bs) depth m e = elim (here_or_next depth b m bs e) [
  | inl h ↦ omega (arith, h.1)
  | inr h ↦ (let n = h.1 in omega (arith, n.2, closing_high bs (depth_after depth b) n.0 n.1))
]

closing_ends : (bs : List (Option ℕ)) (depth m : ℕ) → closing depth bs ≡ Some m → closing depth (take m bs) ≡ Some m
unfolding closing
closing_ends bs depth zero e = absurd (omega (arith, closing_low bs depth zero e))
closing_ends [] depth (suc m) e = e
closing_ends (None ∷ bs) depth (suc m) e =
    let n = next_closing depth (suc m) bs e in
    let same : n.0 ≡ m = omega (arith, n.2) in
    let more = closing_ends bs depth m (n.1 ∙ ap (λ (x : ℕ). Some x) same) in
    rw more (ap (λ (x : ℕ). Some x) (omega arith))
closing_ends (Some b ∷ bs) depth (suc m) e = elim (here_or_next depth b (suc m) bs e) [
  | inl h ↦ rw h.0 (ap (λ (x : ℕ). Some x) (omega (arith, h.1)))
  | inr h ↦
      (let n = h.1 in
      let same : n.0 ≡ m = omega (arith, n.2) in
      let more = closing_ends bs (depth_after depth b) m (n.1 ∙ ap (λ (x : ℕ). Some x) same) in
      rw (h.0, more) (ap (λ (x : ℕ). Some x) (omega arith)))
]

ends_closed : (b : ℕ) (bs : List ℕ) (m : ℕ) → b ≡ 40 → closing 0 (bare bs) ≡ Some m → IsClosed (take (suc m) (b ∷ bs))
ends_closed b bs m first e =
    let low = closing_low (bare bs) 0 m e in
    let high = closing_high (bare bs) 0 m e in
    let len : length (take m bs) ≡ m = omega (arith, length-take m bs, high, length_hidden bs 0) in
    let n : m ≡ length (b ∷ take m bs) - 1 = omega (arith, len) in
    (first, omega (arith, len, low), ap (closing 0) (cut bs 0 0 m m e (omega arith) (omega arith)) ∙ closing_ends (bare bs) 0 m e ∙ ap (λ (x : ℕ). Some x) n)

not_broken : (at plain : ℕ) (bs : List ℕ) → IsBrokenAt at plain bs → NoBroken (tokens_from at false plain bs) → ⊥
not_broken at plain bs h n = (let m : NoBroken (token kinds.Broken h.0 h.0 ∷ []) = subst NoBroken h.1 n in m.0 refl)

goes_to_end : (at b n : ℕ) (bs : List ℕ) → b ≡ 40 → GoesTo bs n → NoBroken (tokens_from (at + 1) false (n - 1) bs) → IsClosed (take n (b ∷ bs))
goes_to_end at b n bs first g none =
    let m = g.0 in
    let plain = plain_len (bare bs) in
    let high = closing_high (bare bs) 0 m g.1 in
    elim (leb m plain) as (λ (t : Bool). leb m plain ≡ t → IsClosed (take n (b ∷ bs))) [
      | true ↦ λ t. (let le : m ≤ plain = grind (arith, nat_tests) in
          let k : suc m ≡ n = omega (arith, g.2, le) in
          subst (λ j. IsClosed (take j (b ∷ bs))) k (ends_closed b bs m first g.1))
      | false ↦ λ t. (let lt : plain < m = grind (arith, nat_tests) in
          let k : n - 1 ≡ plain = omega (arith, g.2, lt) in
          let stop = broken_behind bs 0 (at + 1) (omega (arith, lt, high, length_hidden bs 0)) in
          absurd (not_broken (at + 1) plain bs stop (subst (λ j. NoBroken (tokens_from (at + 1) false j bs)) k none)))
    ] refl

-- what is shown of each token
abbrev pub IsEnded : List ℕ → Token → List Token → Type 0
IsEnded text t ts = NoBroken ts → t.kind ≡ kinds.Arguments → IsClosed (bytes_of text (word t))

taken_ended : (text : List ℕ) (at : ℕ) (named : Bool) (kind : TokenKind) (n b : ℕ) (bs : List ℕ) → drop at text ≡ b ∷ bs → piece_at named (b ∷ bs) ≡ Taken kind n → IsEnded text (token kind at (at + n)) (tokens_from (at + 1) (is_name kind) (n - 1) bs)
taken_ended text at named kind n b bs e is none k =
    let same : piece_at named (b ∷ bs) ≡ Taken kinds.Arguments n = is ∙ ap (λ (x : TokenKind). Taken x n) k in
    let h : IsKnown (Taken kinds.Arguments n) (b ∷ bs) = subst (λ (p : Piece). IsKnown p (b ∷ bs)) same (piece_known named (b ∷ bs)) in
    let rest : NoBroken (tokens_from (at + 1) false (n - 1) bs) = subst (λ (x : TokenKind). NoBroken (tokens_from (at + 1) (is_name x) (n - 1) bs)) k none in
    subst IsClosed (sym (token_bytes text kind at n (b ∷ bs) e)) (goes_to_end at b n bs h.0 h.1 rest)

all_ended : (text : List ℕ) (tokens : List Token) → NoBroken tokens → EachWithRest (IsEnded text) tokens → AreClosed text tokens
all_ended text [] none h = tt
all_ended text (t ∷ ts) none h = (h.0 none.1, all_ended text ts none.1 h.1)

pub arguments_closed : (text : List ℕ) → NoBroken (tokens_in text) → AreClosed text (tokens_in text)
arguments_closed text none =
    all_ended text (tokens_in text) none (each_with_rest (IsEnded text) text
    (λ at named kind n b bs e is. taken_ended text at named kind n b bs e is)
    (λ at b bs e m k. absurd cc)
    (λ m k. absurd cc))

pub argument_closed : (text : List ℕ) (t : Token) → NoBroken (tokens_in text) → Contains (tokens_in text) t → t.kind ≡ kinds.Arguments → IsClosed (bytes_of text (word t))
argument_closed text t none c = of_one (λ (x : Token). x.kind ≡ kinds.Arguments → IsClosed (bytes_of text (word x))) (tokens_in text) t (arguments_closed text none) c
