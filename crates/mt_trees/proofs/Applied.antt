-- Writes one after the other: what is left behind the first.
use Rattle.std.proofs.Common.{◌≡◌, ◌∙◌, sym, ap, subst, ℕ, ◌+◌, ◌-◌, ◌≤◌, List, [], ◌∷◌, length, get_or, take, drop, arith}
use Rattle.std.proofs.lemmas.List.{length-take, length-drop, take_all}
use Rattle.std.specs.Prelude.{true, false, None}
use Rattle.mt_packet.proofs.Kept.{checked-checked}
use Rattle.mt_packet.proofs.PacketWrites.{writes-stay-allowed}
use Rattle.mt_packet.specs.Header.{InRanges}
use Rattle.mt_packet.specs.Packet.{PacketState, with_field, checked, CanWrite, IsChecked}
use Rattle.mt_packet.specs.declared.field.Field.{Field}
use Rattle.mt_packet.specs.declared.field.Field.TheVariants as of
use Rattle.mt_packet.specs.declared.flow.Flow.{Flow}
use Rattle.mt_terms.specs.Terms.{TermForm, entry, minus, less_by, layer_form, term_form, value_of}
use Rattle.mt_terms.specs.declared.term.Term.{Entry, out-Term, fold_out-Term}
use Rattle.mt_terms.specs.Writes.{WriteForm, write_form, write_forms, with_write}
use Rattle.mt_terms.specs.declared.writes.FieldWrite.{FieldWrite}
use Rattle.mt_trees.specs.Meaning.{written_all, CanWriteAll, CanRewrite}

-- what may be written may be written behind a write
can_behind : (header : List ℕ) (passed : List Flow) (writes : List WriteForm) (p : PacketState) (field : Field) (v : ℕ) → CanWrite p field v → CanWriteAll header passed writes p → CanWriteAll header passed writes (with_field p field v)
can_behind header passed [] p field v c h = tt
can_behind header passed (write ∷ writes) p field v c h = (h.0, writes-stay-allowed p field write.field v (value_of write.term header passed) c h.1, can_behind header passed writes p field v c h.2)

-- the rest of a list that has a first item
rest_is : {A : Type 0} (x : A) (xs : List A) → take (length (x ∷ xs) - 1) (drop 1 (x ∷ xs)) ≡ xs
rest_is x xs = let e : length (x ∷ xs) - 1 ≡ length xs = omega arith in ap (λ n. take n xs) e ∙ take_all (length xs) xs (omega arith)

module _ (header : List ℕ) (passed : List Flow) where
  at_first : (x : FieldWrite) (xs : List FieldWrite) (p q all : PacketState) → q ≡ with_field p x.field (value_of (term_form x.term) header passed)
      → written_all header passed (write_forms (x ∷ xs)) p ≡ all → CanWriteAll header passed (write_forms (x ∷ xs)) p
      → (written_all header passed (write_forms xs) q ≡ all) × CanWriteAll header passed (write_forms xs) q
  at_first x xs p q all is whole can = (
    ap (written_all header passed (write_forms xs)) is ∙ whole,
    subst (CanWriteAll header passed (write_forms xs)) (sym is) (can_behind header passed (write_forms xs) p x.field _ can.1 can.2),
  )

  pub one_written : (xs : List FieldWrite) (x : FieldWrite) (p q all : PacketState) (v : ℕ) → 1 ≤ length xs → x ≡ get_or xs 0 x → q ≡ with_field p x.field v → v ≡ value_of (term_form x.term) header passed
      → written_all header passed (write_forms xs) p ≡ all → CanWriteAll header passed (write_forms xs) p
      → (written_all header passed (write_forms (take (length xs - 1) (drop 1 xs))) q ≡ all) × CanWriteAll header passed (write_forms (take (length xs - 1) (drop 1 xs))) q
  one_written [] x p q all v some at is held whole can = absurd (omega (arith, some))
  one_written (y ∷ ys) x p q all v some at is held whole can =
      subst (λ l. (written_all header passed (write_forms l) q ≡ all) × CanWriteAll header passed (write_forms l) q) (sym (rest_is y ys))
      (at_first y ys p q all (subst (λ (z : FieldWrite). q ≡ with_field p z.field (value_of (term_form z.term) header passed)) at (is ∙ ap (with_field p x.field) held)) whole can)

  -- what may be written at the first place
  pub can_first : (xs : List FieldWrite) (x : FieldWrite) (p : PacketState) → 1 ≤ length xs → x ≡ get_or xs 0 x → CanWriteAll header passed (write_forms xs) p → CanWriteAll header passed (write_form x ∷ []) p
  can_first [] x p some at can = absurd (omega (arith, some))
  can_first (y ∷ ys) x p some at can = subst (λ z. CanWriteAll header passed (write_form z ∷ []) p) (sym at) (can.0, can.1, tt)

pub one_counted : {A : Type 0} (xs : List A) (a b n : ℕ) → 1 ≤ length xs → b ≡ a + 1 → a + length xs ≡ n → b + length (take (length xs - 1) (drop 1 xs)) ≡ n
one_counted xs a b n some is all =
    let front = length-take (length xs - 1) (drop 1 xs) in
    let back = length-drop 1 xs in
    omega (arith, some, is, all, front, back)

-- the value of a field, as a term that the code holds
form_entry : (f : Field) → term_form (Entry f) ≡ entry f
unfolding out-Term denote.Hole.Carrier.out
form_entry f = fold_out-Term TermForm layer_form (Entry f)

-- one hop more can be written on a checked packet
pub hop_can : (header : List ℕ) (p : PacketState) (forms : List WriteForm) (before : List FieldWrite) (term : TermForm) → forms ≡ with_write (record { field = of.Ttl; term = term }) (write_forms before) → before ≡ []
    → term ≡ less_by (term_form (Entry of.Ttl)) 1 → InRanges header → IsChecked p → CanRewrite header [] (record { trim = true; untag = false; tag = None; writes = forms }) p
hop_can header p forms before term is none term_is ranges valid = record {
  valid = λ _. valid;
  allowed = subst (λ w. CanWriteAll header [] w (checked p)) (sym all) (omega arith, (checked-checked p valid, let low = ranges.in_range of.Ttl in omega (arith, low)), tt);
}
  where
    all : forms ≡ record { field = of.Ttl; term = minus (entry of.Ttl) 1 } ∷ []
    all = is ∙ ap (λ b. with_write (record { field = of.Ttl; term = term }) (write_forms b)) none ∙ ap (λ t. record { field = of.Ttl; term = t } ∷ []) (term_is ∙ ap (λ t. less_by t 1) (form_entry of.Ttl))
