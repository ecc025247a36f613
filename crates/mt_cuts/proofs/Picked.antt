-- A tree within a span of a field.
use Rattle.std.proofs.Common.{◌≡◌, ◌+◌, ◌<◌, ◌≤◌, ℕ, min, refl, sym, ◌∙◌, ap, arith, inl, inr, Bool, true, false, cond, nat_lt, nat_le, ◌==◌, ◌&&◌}
use Rattle.std.proofs.lemmas.Bool.{cond-true, cond-false, le-leb, lt-leb, lt-ltb, le-ltb, cases_lt}

abbrev pub select : ℕ → ℕ → ℕ → ℕ
select x y z = cond (x == 1) y z

-- below the greater bound the choice at the lower one, else what is outside
pub picked : (lo hi last v w o x y u t bound : ℕ) → v ≤ last → bound ≡ min hi last + 1 → x ≡ cond (nat_lt v bound) 1 0 → y ≡ cond (nat_lt v lo) 1 0 → u ≡ select y o w → t ≡ select x u o → t ≡ cond (nat_le lo v && nat_le v hi) w o
picked lo hi last v w o x y u t bound le is ex ey eu et =
    elim (cases_lt v lo) [
      | inl lt ↦ front lt (ey ∙ cond-true (nat_lt v lo) 1 0 (lt-ltb v lo lt))
      | inr le' ↦ elim (cases_lt hi v) [
        | inl lt ↦ back le' lt (ex ∙ cond-false (nat_lt v bound) 1 0 (le-ltb v bound (omega arith)))
        | inr le'' ↦ middle le' le'' (ex ∙ cond-true (nat_lt v bound) 1 0 (lt-ltb v bound (omega arith))) (ey ∙ cond-false (nat_lt v lo) 1 0 (le-ltb v lo le'))
      ]
    ]
  where
    either : (b : Bool) → cond b o o ≡ o
    either true = refl
    either false = refl

    front : v < lo → y ≡ 1 → t ≡ cond (nat_le lo v && nat_le v hi) w o
    front lt one =
        let same : u ≡ o = eu ∙ ap (λ (n : ℕ). select n o w) one in
        et ∙ (ap (λ (n : ℕ). select x n o) same ∙ (either (x == 1) ∙ sym (ap (λ (b : Bool). cond (b && nat_le v hi) w o) (lt-leb lo v lt))))

    back : lo ≤ v → hi < v → x ≡ 0 → t ≡ cond (nat_le lo v && nat_le v hi) w o
    back le lt none =
        et ∙ (ap (λ (n : ℕ). select n u o) none ∙ sym (ap (λ (b : Bool). cond (b && nat_le v hi) w o) (le-leb lo v le) ∙ ap (λ (b : Bool). cond b w o) (lt-leb v hi lt)))

    middle : lo ≤ v → v ≤ hi → x ≡ 1 → y ≡ 0 → t ≡ cond (nat_le lo v && nat_le v hi) w o
    middle le le' one none =
        et ∙ (ap (λ (n : ℕ). select n u o) one ∙ (eu ∙ (ap (λ (n : ℕ). select n o w) none ∙ sym (ap (λ (b : Bool). cond (b && nat_le v hi) w o) (le-leb lo v le) ∙ ap (λ (b : Bool). cond b w o) (le-leb v hi le')))))
