-- What a reader meets at tokens: it goes on behind some of them, or it is stuck at one.
use Rattle.std.proofs.Common.{◌≡◌, ◌⊎◌, ℕ, ◌≤◌, List, [], ◌∷◌, ◌++◌, length, Option, Some, None, Result, Ok, Err, refl, sym, ap, subst, ◌∙◌, inl, inr, arith, append_assoc}
use Rattle.mt_syntax.specs.declared.token.TokenKind.{TokenKind}
use Rattle.mt_syntax.specs.declared.token.Token.{Token}
use Rattle.mt_syntax.specs.declared.fault.Fault.{Fault}
use Rattle.mt_syntax.specs.Tokens.{EndsText, EndOnce}
use Rattle.mt_syntax.specs.Reading.{◌>>=◌, fault_at}

abbrev pub first : List Token → Option Token
first [] = None
first (t ∷ ts) = Some t

-- Some tokens are taken, at least so many. Whatever can be ended behind them can be ended before them,
-- and they are taken with whatever follows, once the first token behind them is the same.
pub record Went {A R : Type 0} (least : ℕ) (reads : List Token → Result R Fault) (gives : A → List Token → R) (Next : A → List Token → Type 0) (Here : List Token → Type 0) (tokens : List Token) : Type 0 where
  pub value : A
  pub taken : List Token
  pub rest : List Token
  pub all : tokens ≡ taken ++ rest
  pub long : least ≤ length taken
  pub once : EndOnce rest
  pub here : (ts : List Token) → Next value ts → Here (taken ++ ts)
  pub again : (more : List Token) → first more ≡ first rest → reads (taken ++ more) ≡ Ok (gives value more)

-- The tokens before one can be ended, and with it the reader fails there, whatever follows.
pub record Stuck {R : Type 0} (reads : List Token → Result R Fault) (Here : List Token → Type 0) (tokens : List Token) : Type 0 where
  pub taken : List Token
  pub at : Token
  pub back : List Token
  pub all : tokens ≡ taken ++ at ∷ back
  pub ending : List Token
  pub here : Here (taken ++ ending)
  pub again : (other : List Token) → reads (taken ++ at ∷ other) ≡ Err (fault_at at)

abbrev pub Met : {A R : Type 0} → ℕ → (List Token → Result R Fault) → (A → List Token → R) → (A → List Token → Type 0) → (List Token → Type 0) → List Token → Type 0
Met least reads gives Next Here tokens = Went least reads gives Next Here tokens ⊎ Stuck reads Here tokens

abbrev pub pair : {A : Type 0} → A → List Token → A × List Token
pair a ts = (a, ts)

-- behind a token that is no end
pub behind_other : (t : Token) (ts : List Token) (k : TokenKind) → t.kind ≡ k → (EndsText k → ⊥) → EndOnce (t ∷ ts) → EndOnce ts
behind_other t [] k e other once = absurd (other (subst EndsText e once))
behind_other t (u ∷ ts) k e other once = once.1

pub loosen : {A R : Type 0} (least : ℕ) (reads : List Token → Result R Fault) (gives : A → List Token → R) (Next : A → List Token → Type 0) (Here There : List Token → Type 0) (tokens : List Token)
    → Met least reads gives Next Here tokens → ((ts : List Token) → Here ts → There ts) → Met 0 reads gives Next There tokens
loosen least reads gives Next Here There tokens (inl w) h = inl (record { value = w.value; taken = w.taken; rest = w.rest; all = w.all; long = omega arith; once = w.once; here = λ ts n. h (w.taken ++ ts) (w.here ts n); again = w.again })
loosen least reads gives Next Here There tokens (inr s) h = inr (record { taken = s.taken; at = s.at; back = s.back; all = s.all; ending = s.ending; here = h (s.taken ++ s.ending) s.here; again = s.again })

pub wider : {A R : Type 0} (least : ℕ) (reads : List Token → Result R Fault) (gives : A → List Token → R) (Next : A → List Token → Type 0) (Here There : List Token → Type 0) (tokens : List Token)
    → Met least reads gives Next Here tokens → ((ts : List Token) → Here ts → There ts) → Met least reads gives Next There tokens
wider least reads gives Next Here There tokens (inl w) h = inl (record { value = w.value; taken = w.taken; rest = w.rest; all = w.all; long = w.long; once = w.once; here = λ ts n. h (w.taken ++ ts) (w.here ts n); again = w.again })
wider least reads gives Next Here There tokens (inr s) h = inr (record { taken = s.taken; at = s.at; back = s.back; all = s.all; ending = s.ending; here = h (s.taken ++ s.ending) s.here; again = s.again })

-- the token is taken
pub takes : {A R : Type 0} (reads : List Token → Result R Fault) (gives : A → List Token → R) (Next : A → List Token → Type 0) (Here : List Token → Type 0) (a : A) (t : Token) (ts : List Token) → EndOnce ts
    → ((rest : List Token) → Next a rest → Here (t ∷ rest)) → ((more : List Token) → reads (t ∷ more) ≡ Ok (gives a more)) → Met 1 reads gives Next Here (t ∷ ts)
takes reads gives Next Here a t ts once h g = inl (record { value = a; taken = t ∷ []; rest = ts; all = refl; long = omega arith; once = once; here = h; again = λ more same. g more })

by_first : (P : List Token → Type 0) (t : Token) (more : List Token) → first more ≡ Some t → ((w : List Token) → P (t ∷ w)) → P more
by_first P t [] e h = absurd cc
by_first P t (u ∷ w) e h = let same : t ≡ u = cc in subst (λ (x : Token). P (x ∷ w)) same (h w)

-- nothing is taken
pub leaves : {A R : Type 0} (reads : List Token → Result R Fault) (gives : A → List Token → R) (Next : A → List Token → Type 0) (Here : List Token → Type 0) (a : A) (t : Token) (ts : List Token) → EndOnce (t ∷ ts)
    → ((rest : List Token) → Next a rest → Here rest) → ((more : List Token) → reads (t ∷ more) ≡ Ok (gives a (t ∷ more))) → Met 0 reads gives Next Here (t ∷ ts)
leaves reads gives Next Here a t ts once h g =
    inl (record { value = a; taken = []; rest = t ∷ ts; all = refl; long = omega arith; once = once; here = h; again = λ more same. by_first (λ (x : List Token). reads x ≡ Ok (gives a x)) t more same g })

pub fails : {A R : Type 0} (least : ℕ) (reads : List Token → Result R Fault) (gives : A → List Token → R) (Next : A → List Token → Type 0) (Here : List Token → Type 0) (t : Token) (ts : List Token)
    (ending : List Token) → Here ending → ((more : List Token) → reads (t ∷ more) ≡ Err (fault_at t)) → Met least reads gives Next Here (t ∷ ts)
fails least reads gives Next Here t ts ending h g = inr (record { taken = []; at = t; back = ts; all = refl; ending = ending; here = h; again = g })

-- behind the token it is another reader
pub goes_behind : {A R : Type 0} (least : ℕ) (reads then : List Token → Result R Fault) (gives : A → List Token → R) (Next : A → List Token → Type 0) (Here There : List Token → Type 0) (t : Token) (ts : List Token)
    → Met least then gives Next There ts → ((rest : List Token) → There rest → Here (t ∷ rest)) → ((more : List Token) → reads (t ∷ more) ≡ then more) → Met 1 reads gives Next Here (t ∷ ts)
goes_behind least reads then gives Next Here There t ts (inl w) h g =
    inl (record { value = w.value; taken = t ∷ w.taken; rest = w.rest; all = ap (λ (x : List Token). t ∷ x) w.all; long = omega arith; once = w.once; here = λ rest n. h (w.taken ++ rest) (w.here rest n); again = λ more same. g (w.taken ++ more) ∙ w.again more same })
goes_behind least reads then gives Next Here There t ts (inr s) h g =
    inr (record { taken = t ∷ s.taken; at = s.at; back = s.back; all = ap (λ (x : List Token). t ∷ x) s.all; ending = s.ending; here = h (s.taken ++ s.ending) s.here; again = λ other. g (s.taken ++ s.at ∷ other) ∙ s.again other })

first_same : (xs more rest : List Token) → first more ≡ first rest → first (xs ++ more) ≡ first (xs ++ rest)
first_same [] more rest e = e
first_same (x ∷ xs) more rest e = refl

-- from the token on it is another reader
pub is_other : {A R : Type 0} (least : ℕ) (reads other : List Token → Result R Fault) (gives : A → List Token → R) (Next : A → List Token → Type 0) (Here : List Token → Type 0) (t : Token) (ts : List Token)
    → Met least other gives Next Here (t ∷ ts) → ((more : List Token) → reads (t ∷ more) ≡ other (t ∷ more)) → Met least reads gives Next Here (t ∷ ts)
is_other least reads other gives Next Here t ts (inl w) g =
    inl (record {
      value = w.value;
      taken = w.taken;
      rest = w.rest;
      all = w.all;
      long = w.long;
      once = w.once;
      here = w.here;
      again = λ more same. by_first (λ (x : List Token). reads x ≡ other x) t (w.taken ++ more) (first_same w.taken more w.rest same ∙ sym (ap first w.all)) g ∙ w.again more same;
    })
is_other least reads other gives Next Here t ts (inr s) g =
    inr (record {
      taken = s.taken;
      at = s.at;
      back = s.back;
      all = s.all;
      ending = s.ending;
      here = s.here;
      again = λ more. by_first (λ (x : List Token). reads x ≡ other x) t (s.taken ++ s.at ∷ more) (first_same s.taken (s.at ∷ more) (s.at ∷ s.back) refl ∙ sym (ap first s.all)) g ∙ s.again more;
    })

-- one reader, then another
abbrev pub both : {A R : Type 0} → (List Token → Result (A × List Token) Fault) → (A → List Token → Result R Fault) → List Token → Result R Fault
both reads then tokens = reads tokens >>= λ x. then x.0 x.1

both_wrong : {A R : Type 0} (reads : List Token → Result (A × List Token) Fault) (then : A → List Token → Result R Fault) (tokens : List Token) (f : Fault) → reads tokens ≡ Err f → both reads then tokens ≡ Err f
both_wrong reads then tokens f e = rw e refl

both_on : {A R : Type 0} (reads : List Token → Result (A × List Token) Fault) (then : A → List Token → Result R Fault) (tokens rest : List Token) (a : A) → reads tokens ≡ Ok (a, rest) → both reads then tokens ≡ then a rest
both_on reads then tokens rest a e = rw e refl

met_both : {A B R : Type 0} (reads : List Token → Result (A × List Token) Fault) (then : A → List Token → Result R Fault) (gives : B → List Token → R) (Next : B → List Token → Type 0) (Here There : List Token → Type 0) (a : A) (taken rest tokens : List Token)
    → tokens ≡ taken ++ rest → ((ts : List Token) → There ts → Here (taken ++ ts)) → ((more : List Token) → first more ≡ first rest → reads (taken ++ more) ≡ Ok (a, more))
    → Met 0 (then a) gives Next There rest → Met 0 (both reads then) gives Next Here tokens
met_both reads then gives Next Here There a taken rest tokens all here again (inl w) =
    inl (record {
      value = w.value;
      taken = taken ++ w.taken;
      rest = w.rest;
      all = all ∙ ap (λ (x : List Token). taken ++ x) w.all ∙ sym (append_assoc taken w.taken w.rest);
      long = omega arith;
      once = w.once;
      here = λ ts n. subst Here (sym (append_assoc taken w.taken ts)) (here (w.taken ++ ts) (w.here ts n));
      again =
          λ more same.
          ap (both reads then) (append_assoc taken w.taken more) ∙ both_on reads then (taken ++ (w.taken ++ more)) (w.taken ++ more) a (again (w.taken ++ more) (first_same w.taken more w.rest same ∙ sym (ap first w.all))) ∙ w.again more same;
    })
met_both reads then gives Next Here There a taken rest tokens all here again (inr s) =
    inr (record {
      taken = taken ++ s.taken;
      at = s.at;
      back = s.back;
      all = all ∙ ap (λ (x : List Token). taken ++ x) s.all ∙ sym (append_assoc taken s.taken (s.at ∷ s.back));
      ending = s.ending;
      here = subst Here (sym (append_assoc taken s.taken s.ending)) (here (s.taken ++ s.ending) s.here);
      again =
          λ other.
          ap (both reads then) (append_assoc taken s.taken (s.at ∷ other)) ∙ both_on reads then (taken ++ (s.taken ++ s.at ∷ other)) (s.taken ++ s.at ∷ other) a (again (s.taken ++ s.at ∷ other) (first_same s.taken (s.at ∷ other) (s.at ∷ s.back) refl ∙ sym (ap first s.all))) ∙ s.again other;
    })

pub one_then : {A B R : Type 0} (reads : List Token → Result (A × List Token) Fault) (then : A → List Token → Result R Fault) (gives : B → List Token → R) (Next : B → List Token → Type 0) (Here : List Token → Type 0) (There : A → List Token → Type 0) (tokens : List Token)
    → Met 0 reads pair There Here tokens → ((a : A) (rest : List Token) → EndOnce rest → Met 0 (then a) gives Next (There a) rest) → Met 0 (both reads then) gives Next Here tokens
one_then reads then gives Next Here There tokens (inl w) h = met_both reads then gives Next Here (There w.value) w.value w.taken w.rest tokens w.all w.here w.again (h w.value w.rest w.once)
one_then reads then gives Next Here There tokens (inr s) h =
    inr (record { taken = s.taken; at = s.at; back = s.back; all = s.all; ending = s.ending; here = s.here; again = λ other. both_wrong reads then (s.taken ++ s.at ∷ other) (fault_at s.at) (s.again other) })

-- nothing more is read
given : {B R : Type 0} (gives : B → List Token → R) (Next : B → List Token → Type 0) (b : B) (tokens : List Token) → EndOnce tokens → Met 0 (λ (ts : List Token). Ok (gives b ts)) gives Next (Next b) tokens
given gives Next b tokens once = inl (record { value = b; taken = []; rest = tokens; all = refl; long = omega arith; once = once; here = λ ts n. n; again = λ more same. refl })

-- what is read, told in another way
pub told_as : {A B R : Type 0} (reads : List Token → Result (A × List Token) Fault) (f : A → B) (gives : B → List Token → R) (Next : B → List Token → Type 0) (Here : List Token → Type 0) (tokens : List Token)
    → Met 0 reads pair (λ (a : A). Next (f a)) Here tokens → Met 0 (both reads (λ (a : A) (ts : List Token). Ok (gives (f a) ts))) gives Next Here tokens
told_as {A} reads f gives Next Here tokens m = one_then reads (λ (a : A) (ts : List Token). Ok (gives (f a) ts)) gives Next Here (λ (a : A). Next (f a)) tokens m (λ a rest once. given gives Next (f a) rest once)
