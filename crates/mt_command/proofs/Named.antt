-- A set of files with one more.
use Rattle.std.proofs.Common.{◌≡◌, ◌∙◌, refl, sym, ap, ℕ, Bool, true, false, ◌||◌, List, [], ◌∷◌}
use Rattle.std.specs.Bool.{OnTrue}
use Rattle.std.specs.BTreeSet.{insert_key}
use Rattle.std.specs.BTreeMap.{is_at}
use Rattle.std.specs.Cmp.Lexicographic.{slice_cmp}
use Rattle.std.specs.List.{list_any}
use Rattle.std.specs.Ordering.{nat_cmp, is_eq, match_ordering}
use Rattle.std.specs.Str.{bytes_eq}
use Rattle.std.specs.declared.cmp.Ordering.{Ordering}
use Rattle.std.specs.declared.cmp.Ordering.TheVariants.{Less, Equal, Greater}
use Rattle.std.proofs.lemmas.Map.Text.{is_eq-slice_cmp}
use Rattle.std.proofs.lemmas.Slice.Eq.{bytes_eq-Decides}
use denote.Ref.{Bor}

abbrev pub Key : Type 0
Key = Bor (List ℕ)

abbrev order : Key → Key → Ordering
order k x = slice_cmp nat_cmp k.now x.now

abbrev pub is_file : List ℕ → Key → Bool
is_file file k = is_at (λ (key : Key). slice_cmp nat_cmp file key.now) k

pub always : {P : Type 0} (b : Bool) → P → OnTrue b P
always true p = p
always false p = tt

-- the tests may change places
or_swaps : (a b : Bool) → (a || b) ≡ (b || a)
or_swaps true true = refl
or_swaps true false = refl
or_swaps false true = refl
or_swaps false false = refl

or_later : (a b c : Bool) → (a || (b || c)) ≡ ((a || b) || c)
or_later true b c = refl
or_later false b c = refl

or_again : (a b : Bool) → (a || b) ≡ ((a || b) || a)
or_again true b = refl
or_again false true = refl
or_again false false = refl

pub any_inserted : (file : List ℕ) (k : Key) (keys : List Key) → list_any (is_file file) (insert_key order keys k) ≡ (list_any (is_file file) keys || bytes_eq file k.now)
any_inserted file k [] = or_swaps (is_file file k) false ∙ is_eq-slice_cmp file k.now
any_inserted file k (x ∷ xs) = by (order k x) refl (any_inserted file k xs)
  where
    by : (o : Ordering) → order k x ≡ o → list_any (is_file file) (insert_key order xs k) ≡ (list_any (is_file file) xs || bytes_eq file k.now)
        → list_any (is_file file) (match_ordering o (k ∷ x ∷ xs) (x ∷ xs) (x ∷ insert_key order xs k)) ≡ (list_any (is_file file) (x ∷ xs) || bytes_eq file k.now)
    by Less e later = ap (λ b. b || list_any (is_file file) (x ∷ xs)) (is_eq-slice_cmp file k.now) ∙ or_swaps (bytes_eq file k.now) (list_any (is_file file) (x ∷ xs))
    by Equal e later =
        let same : k.now ≡ x.now = (bytes_eq-Decides k.now x.now).0 (sym (is_eq-slice_cmp k.now x.now) ∙ ap is_eq e) in
        or_again (is_file file x) (list_any (is_file file) xs) ∙ ap (λ b. list_any (is_file file) (x ∷ xs) || b) (is_eq-slice_cmp file x.now ∙ ap (bytes_eq file) (sym same))
    by Greater e later = ap (λ b. is_file file x || b) later ∙ or_later (is_file file x) (list_any (is_file file) xs) (bytes_eq file k.now)
