-- A packet with another term for a field.
use Rattle.std.proofs.Common.{◌≡◌, ◌≢◌, ◌⊎◌, ◌∙◌, ℕ, List, length, map, get_or, set, inl, inr, sym, ap, subst, arith}
use Rattle.std.proofs.lemmas.Bool.{cases_eq}
use Rattle.std.proofs.lemmas.List.{map-set, length-set, get_or-set_same, get_or-set_other}
use Rattle.mt_trees.proofs.Writes.{same_number}
use Rattle.mt_packet.specs.Header.{number_of}
use Rattle.mt_packet.specs.declared.field.Field.{Field}
use Rattle.mt_packet.specs.declared.field.Field.TheVariants as of
use Rattle.mt_terms.specs.Terms.{TermForm, const, layer_form, term_form}
use Rattle.mt_terms.specs.declared.term.Term.{Term, Const, out-Term, fold_out-Term}
use Rattle.mt_trees.specs.Symbols.{Symbol}
use Rattle.mt_synth.specs.Symbols.{IsPaint, IsSymbol}

-- a field is the paint, or its number another
paint_or_apart : (field : Field) → (field ≡ of.Paint) ⊎ (number_of field ≢ 22)
paint_or_apart field = elim (cases_eq (number_of field) 22) [ inl e ↦ inl (same_number field of.Paint e) | inr apart ↦ inr apart ]

pub const_form : (value : ℕ) → term_form (Const value) ≡ const value
unfolding out-Term denote.Hole.Carrier.out
const_form value = fold_out-Term TermForm layer_form (Const value)

-- terms with another at one place
pub forms_set : (terms : List Term) (at : ℕ) (field : Field) (term : Term) → at ≡ number_of field → map term_form (set terms at term) ≡ set (map term_form terms) (number_of field) (term_form term)
forms_set terms at field term same = map-set term_form terms at term ∙ ap (λ i. set (map term_form terms) i (term_form term)) same

-- the terms of a packet stay 24, and its paint a number
pub symbol_set : (symbol : Symbol) (terms : List TermForm) (field : Field) (form : TermForm) → IsSymbol symbol → (field ≡ of.Paint → IsPaint form)
    → terms ≡ set symbol.terms (number_of field) form → IsSymbol (record symbol { terms = terms })
symbol_set symbol terms field form is paint same = record {
  whole = ap length same ∙ (length-set symbol.terms (number_of field) form ∙ is.whole);
  paint = subst (λ xs. IsPaint (get_or xs 22 (const 0))) (sym same) (elim (paint_or_apart field) [
    | inl one ↦ (let at : number_of field ≡ 22 = ap number_of one in
        subst IsPaint (sym (ap (λ i. get_or (set symbol.terms i form) 22 (const 0)) at ∙ get_or-set_same symbol.terms 22 form (const 0) (let n = is.whole in omega (arith, n)))) (paint one))
    | inr apart ↦ subst IsPaint (sym (get_or-set_other symbol.terms (number_of field) 22 form (const 0) (λ e. apart (sym e)))) is.paint
  ]);
}
