-- Tables of outputs as loops make them.
use Rattle.std.proofs.Common.{◌≡◌, ℕ, zero, suc, ◌+◌, ◌≤◌, ◌⊎◌, inl, inr, Bool, true, false, List, [], ◌∷◌, ◌++◌, length, get_or, slice_get, Some, replicate, refl, sym, ap, ◌∙◌, subst, arith}
use Rattle.std.specs.Prelude.{◌==◌, ◌||◌}
use Rattle.std.proofs.lemmas.Bool.{cases_lt}
use Rattle.std.proofs.lemmas.List.{length-append, get_or-replicate, get_or_past, length-replicate}
use Rattle.std.proofs.lemmas.Option.{same_Some, none-some}
use Rattle.mt_kinds.specs.declared.mappers.MapperOuts.{MapperOuts}
use Rattle.mt_kinds.specs.declared.rewriter.Spec.{Spec}
use Rattle.mt_kinds.specs.declared.rewriter.Spec.TheVariants as spec
use Rattle.mt_kinds.specs.declared.rewriter.Template.{Template}
use Rattle.mt_kinds.specs.Ports.{mapper_at, templates_at, is_in, is_reply_out, spec_leads}
use Rattle.mt_kinds.specs.OutTables.{AreOutsOf, AreTables, led}

-- ---- truth values

pub or_assoc : (a b c : Bool) → ((a || b) || c) ≡ (a || (b || c))
or_assoc true b c = refl
or_assoc false b c = refl

pub or_false : (a : Bool) → (a || false) ≡ a
or_false true = refl
or_false false = refl

-- no output
pub none_marked : (n out : ℕ) → get_or (replicate n false) out false ≡ false
none_marked n out = elim (cases_lt out n) [
  | inl inside ↦ get_or-replicate n out false false inside
  | inr past ↦ get_or_past (replicate n false) out false (let len = length-replicate n false in omega (arith, len, past))
]

-- one output more
pub table_more : (table new : List Bool) (out : ℕ) (rest : List ℕ) (all : ℕ → Bool) → ((o : ℕ) → get_or new o false ≡ (get_or table o false || is_in o (out ∷ [])))
    → ((o : ℕ) → (get_or table o false || is_in o (out ∷ rest)) ≡ all o) → (o : ℕ) → (get_or new o false || is_in o rest) ≡ all o
table_more table new out rest all added h o =
    ap (λ b. b || is_in o rest) (added o)
    ∙ or_assoc (get_or table o false) (is_in o (out ∷ [])) (is_in o rest)
    ∙ ap (λ b. get_or table o false || b) (or_assoc (out == o) false (is_in o rest))
    ∙ h o

-- all of them
pub table_done : (table : List Bool) (all : ℕ → Bool) → ((o : ℕ) → (get_or table o false || false) ≡ all o) → (o : ℕ) → get_or table o false ≡ all o
table_done table all h o = sym (or_false (get_or table o false)) ∙ h o

-- none yet
pub table_none : (table : List Bool) (all : ℕ → Bool) → ((o : ℕ) → get_or table o false ≡ false) → (o : ℕ) → (get_or table o false || all o) ≡ all o
table_none table all h o = ap (λ b. b || all o) (h o)

-- the replies of one specification more
pub replies_more : (table new : List Bool) (more rest all : ℕ → Bool) → ((o : ℕ) → get_or new o false ≡ (get_or table o false || more o))
    → ((o : ℕ) → (get_or table o false || (more o || rest o)) ≡ all o) → (o : ℕ) → (get_or new o false || rest o) ≡ all o
replies_more table new more rest all added h o = ap (λ b. b || rest o) (added o) ∙ or_assoc (get_or table o false) (more o) (rest o) ∙ h o

-- ---- mappers

-- the tables of the first so many mappers
pub record AreTablesTo (mappers : List (List Template)) (tables : List MapperOuts) (count : ℕ) : Type 0 where
  pub whole : length tables ≡ count
  pub each : (number : ℕ) (outs : MapperOuts) → slice_get tables number ≡ Some outs → AreOutsOf (mapper_at mappers number) outs

push_cases : {X : Type 0} (xs : List X) (y : X) (k : ℕ) (x : X) → slice_get (xs ++ y ∷ []) k ≡ Some x → slice_get xs k ≡ Some x ⊎ ((k ≡ length xs) × (y ≡ x))
push_cases [] y zero x e = inr (refl, same_Some y x e)
push_cases [] y (suc k) x e = absurd (none-some x e)
push_cases (z ∷ zs) y zero x e = inl e
push_cases (z ∷ zs) y (suc k) x e = elim (push_cases zs y k x e) [
  | inl old ↦ inl old
  | inr new ↦ inr (ap suc new.0, new.1)
]

pub tables_begin : (mappers : List (List Template)) (tables : List MapperOuts) → tables ≡ [] → AreTablesTo mappers tables 0
tables_begin mappers tables e = subst (λ ts. AreTablesTo mappers ts 0) (sym e) (record { whole = refl; each = λ number outs at. absurd (none-some outs at) })

pub tables_more : (mappers : List (List Template)) (tables new : List MapperOuts) (count : ℕ) (templates : List Template) (outs : MapperOuts) → slice_get mappers count ≡ Some templates → AreOutsOf templates outs → new ≡ tables ++ outs ∷ []
    → AreTablesTo mappers tables count → AreTablesTo mappers new (count + 1)
tables_more mappers tables new count templates outs at known e h = subst (λ ts. AreTablesTo mappers ts (count + 1)) (sym e) (record {
  whole = (let l = h.whole in let m = length-append tables (outs ∷ []) in omega (arith, l, m));
  each = λ n o got. elim (push_cases tables outs n o got) [
    | inl old ↦ h.each n o old
    | inr last ↦
        let place : n ≡ count = last.0 ∙ h.whole in
        let there : templates ≡ mapper_at mappers n = sym (ap templates_at (ap (slice_get mappers) place ∙ at)) in
        subst (AreOutsOf (mapper_at mappers n)) last.1 (subst (λ ts. AreOutsOf ts outs) there known)
  ];
})

pub tables_done : (mappers : List (List Template)) (tables : List MapperOuts) (count : ℕ) → length mappers ≡ count → AreTablesTo mappers tables count → AreTables mappers tables
tables_done mappers tables count e h = record { whole = h.whole ∙ sym e; each = h.each }

-- past the last mapper
pub no_mapper : (mappers : List (List Template)) (number : ℕ) → length mappers ≤ number → mapper_at mappers number ≡ []
no_mapper [] number le = refl
no_mapper (x ∷ xs) zero le = absurd (omega (arith, le))
no_mapper (x ∷ xs) (suc number) le = no_mapper xs number (omega (arith, le))

-- ---- what an input leads to

pub led_is : (mappers : List (List Template)) (specs : List Spec) (out : ℕ) (s : Spec) → led mappers (is_reply_out mappers specs out) out s ≡ spec_leads mappers specs out s
led_is mappers specs out spec.Drop = refl
led_is mappers specs out (spec.Pass own) = refl
led_is mappers specs out (spec.Keep fout rout) = refl
led_is mappers specs out (spec.Pattern template) = refl
led_is mappers specs out (spec.Mapper number) = refl
