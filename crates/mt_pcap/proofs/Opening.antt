-- Captures that are opened one after the other: one more, and all of them.
use Rattle.std.proofs.Common.{◌≡◌, ◌≢◌, inl, inr, false, ℕ, suc, ◌+◌, ◌<◌, List, [], ◌∷◌, ◌++◌, length, take, refl, sym, ap, subst, ◌∙◌, arith}
use Rattle.std.specs.Prelude.{slice_get, Option, Some, None, option_map, option_and_then, IfSome}
use Rattle.std.proofs.Math.Seq.{take-suc}
use Rattle.std.proofs.lemmas.List.{map-append}
use Rattle.std.proofs.lemmas.List.Elements.{All-nil, All-cons, All-append}
use Rattle.std.proofs.lemmas.Option.{none-some, slice_get-map, slice_get_within, get_or_from_slice_get}
use Rattle.mt_lists.specs.Options.{each}
use Rattle.mt_pcap.specs.Capture.{Capture, is_header_fault}
use Rattle.mt_pcap.specs.Stream.{ReaderState, left_at, left_of, TakesSo, HasBegun}
use Rattle.mt_pcap.specs.Sources.{Source, begun, left_in, all_left}
use Rattle.mt_pcap.specs.Opened.{capture_in, IsOpened, AreOpened}
use Rattle.mt_pcap.specs.StreamLaws.{LeaveTogether, NoneOpened, OneMoreOpened}
use Rattle.mt_pcap.proofs.Ends.{get_front, get_last, last_cases, get_taken, each_last}

-- ---- all at once

pub leave_together : LeaveTogether
unfolding each
leave_together [] [] first held long same = refl
leave_together [] (name ∷ names) first held long same = absurd (omega arith)
leave_together (reader ∷ readers) [] first held long same = absurd (omega arith)
leave_together (reader ∷ readers) (name ∷ names) first held long same =
    ap (λ o. option_and_then (λ z. option_map (λ more. z ∷ more) (all_left held (begun readers))) o) (same 0 reader name refl refl)
    ∙ ap (λ o. option_and_then (λ z. option_map (λ more. z ∷ more) o) (capture_in first name)) (leave_together readers names first held (omega arith) (λ k r n. same (suc k) r n))

-- nothing is left but what was left, where the files were not read
still_left : (readers : List ReaderState) (old new : List ℕ → Option (List ℕ)) → ((k : ℕ) (r : ReaderState) → slice_get readers k ≡ Some r → new r.name ≡ old r.name) → all_left new (begun readers) ≡ all_left old (begun readers)
unfolding each
still_left [] old new same = refl
still_left (r ∷ readers) old new same =
    ap (λ o. option_and_then (λ z. option_map (λ more. z ∷ more) (all_left new (begun readers))) (option_map (left_at r.standing) o)) (same 0 r refl)
    ∙ ap (λ o. option_and_then (λ z. option_map (λ more. z ∷ more) o) (left_of r old)) (still_left readers old new (λ k s. same (suc k) s))

-- ---- one after the other

pub none_opened : NoneOpened
unfolding each
none_opened names held = record {
  named = refl;
  none_given = λ k r there. absurd (none-some r there);
  left = refl;
  begin = All-nil (λ name. IfSome (capture_in held name) (λ c. is_header_fault c.end ≡ false));
  read = λ k r there. absurd (none-some r there);
  others = λ other apart. refl;
}

-- one more, of a name that was not read yet
module _ (names : List (List ℕ)) (name : List ℕ) (first old new : List ℕ → Option (List ℕ)) (readers : List ReaderState) (reader : ReaderState)
    (is_new : (j : ℕ) (other : List ℕ) → slice_get names j ≡ Some other → other ≢ name) (opened : AreOpened names first old readers) (one : IsOpened name old new reader) where
  abbrev start : ReaderState → Source
  start r = record { reader = r; head = None }

  -- no other file was read
  kept : (k : ℕ) (r : ReaderState) → slice_get readers k ≡ Some r → new r.name ≡ old r.name
  kept k r there =
      let named : slice_get names k ≡ Some r.name = ap (λ l. slice_get l k) (sym opened.named) ∙ slice_get-map (λ (s : ReaderState). s.name) readers k ∙ ap (option_map (λ (s : ReaderState). s.name)) there in
      one.others r.name (is_new k r.name named)

  before : old name ≡ first name
  before = opened.others name (λ k other there same. is_new k other there (sym same))

  left_first : left_of reader new ≡ capture_in first name
  left_first = one.left ∙ ap (λ o. capture_in (λ _. o) name) before

  pub one_more : AreOpened (names ++ name ∷ []) first new (readers ++ reader ∷ [])
  one_more = record {
    named = map-append (λ (r : ReaderState). r.name) readers (reader ∷ []) ∙ ap (λ l. l ++ reader.name ∷ []) opened.named ∙ ap (λ n. names ++ n ∷ []) one.named;
    none_given = λ k r there. elim (last_cases readers reader k r there) [
      | inl front ↦ opened.none_given k r front
      | inr last ↦ ap (λ (s : ReaderState). s.given) last.1 ∙ one.none_given
    ];
    left =
        ap (all_left new) (map-append start readers (reader ∷ []))
        ∙ each_last (left_in new) (capture_in first) (begun readers) names (start reader) name (still_left readers old new kept ∙ opened.left) left_first;
    begin =
        All-append (λ n. IfSome (capture_in first n) (λ c. is_header_fault c.end ≡ false)) names (name ∷ []) opened.begin
        (All-cons (λ n. IfSome (capture_in first n) (λ c. is_header_fault c.end ≡ false)) name [] (subst (λ o. IfSome o (λ (c : Capture). is_header_fault c.end ≡ false)) left_first one.begins)
        (All-nil (λ n. IfSome (capture_in first n) (λ c. is_header_fault c.end ≡ false))));
    read = λ k r there. elim (last_cases readers reader k r there) [
      | inl front ↦ subst (λ o. TakesSo (first r.name) o (λ bytes. HasBegun bytes r.standing)) (sym (kept k r front)) (opened.read k r front)
      | inr last ↦
          let of_reader : TakesSo (first reader.name) (new reader.name) (λ bytes. HasBegun bytes reader.standing) =
          subst (λ n. TakesSo (first n) (new n) (λ bytes. HasBegun bytes reader.standing)) (sym one.named) (subst (λ o. TakesSo o (new name) (λ bytes. HasBegun bytes reader.standing)) before one.reads) in
          subst (λ (s : ReaderState). TakesSo (first s.name) (new s.name) (λ bytes. HasBegun bytes s.standing)) (sym last.1) of_reader
    ];
    others = λ other apart.
        one.others other (apart (length names) name (get_last names name))
        ∙ opened.others other (λ k n there. apart k n (get_front names (name ∷ []) k n there));
  }

pub one_more_opened : OneMoreOpened
one_more_opened names first old new readers k name reader apart there opened one =
    let lt : k < length names = slice_get_within names k name there in
    let next : k + 1 ≡ suc k = omega arith in
    let taken : take (k + 1) names ≡ take k names ++ name ∷ [] =
    ap (λ n. take n names) next ∙ take-suc names k name lt ∙ ap (λ n. take k names ++ n ∷ []) (get_or_from_slice_get names k name name there) in
    subst (λ l. AreOpened l first new (readers ++ reader ∷ [])) (sym taken)
    (one_more (take k names) name first old new readers reader (λ j other at same.
    let front = get_taken k names j other at in
    let is : j ≡ k = apart j k name (front.1 ∙ ap (λ n. Some n) same) there in
    let before = front.0 in
    absurd (omega arith)) opened one)
