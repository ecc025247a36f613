-- Equality decides sameness of plain forms: of terms, of writes, of trees.
use Rattle.std.proofs.Common.{◌≡◌, ℕ, Bool, true, false, ◌==◌, ◌&&◌, List, [], ◌∷◌, Option, Some, None, refl, ap, sym, ◌∙◌, eq-eqb, Box, Global}
use Rattle.std.proofs.lemmas.Bool.{eqb-true}
use Rattle.std.specs.Bool.{Decides}
use Rattle.std.specs.Option.{option_eq}
use Rattle.std.specs.Cmp.Lexicographic.{pointwise}
use mathlib.Core.Bool.{beq}
use denote.Enum.Bare.{sameb, same_true, true_same}
use Rattle.mt_packet.specs.declared.cause.Cause.{Cause}
use Rattle.mt_packet.specs.declared.field.Field.{Field}
use Rattle.mt_packet.specs.declared.span.Span.{Span}
use Rattle.mt_packet.specs.contracts.cause.Cause as cause
use Rattle.mt_packet.specs.contracts.field.Field as field
use Rattle.mt_terms.specs.contracts.term.Part as part
use Rattle.mt_terms.specs.declared.term.Part.{Part}
use Rattle.mt_terms.specs.declared.term.Term.{Term, Const, Entry, Less', Flow, out-Term, fold_out-Term}
use Rattle.mt_terms.specs.declared.writes.FieldWrite.{FieldWrite}
use Rattle.mt_terms.specs.declared.tree.Rewrite.{Rewrite}
use Rattle.mt_terms.specs.declared.tree.OpCode.{OpCode}
use Rattle.mt_terms.specs.contracts.term.TermPartialEq.TheImpl.Laws as terms
use Rattle.mt_terms.specs.contracts.writes.FieldWritePartialEq.TheImpl as written
use Rattle.mt_terms.specs.contracts.tree.RewritePartialEq.TheImpl as rewritten
use Rattle.mt_terms.specs.contracts.tree.OpCodePartialEq.TheImpl as coded
use Rattle.mt_terms.specs.Orders.{equal_terms}
use Rattle.mt_terms.specs.Terms.{TermForm, const, entry, minus, flow_part, layer_form, term_form}
use Rattle.mt_terms.specs.Writes.{WriteForm, write_form, write_forms}
use Rattle.mt_terms.specs.Trees.{RewriteForm, OpForm, rewrite_form, op_form}

pub answers : {P : Type 0} (r s : Bool) → r ≡ s → Decides s P → Decides r P
answers r s e d = (λ yes. d.0 (sym e ∙ yes), λ p. e ∙ d.1 p)

pub never : {P : Type 0} → (P → ⊥) → Decides false P
never f = (λ e. absurd cc, λ p. absurd (f p))

pub means : {P Q : Type 0} (r : Bool) → (P → Q) → (Q → P) → Decides r P → Decides r Q
means r f g d = (λ e. f (d.0 e), λ q. d.1 (g q))

pub both : {P Q : Type 0} (r s : Bool) → Decides r P → Decides s Q → Decides (r && s) (P × Q)
both true true d e = (λ yes. (d.0 refl, e.0 refl), λ p. refl)
both true false d e = (λ yes. absurd cc, λ p. e.1 p.1)
both false s d e = (λ yes. absurd cc, λ p. d.1 p.0)

pub numbers : (m n : ℕ) → Decides (m == n) (m ≡ n)
numbers m n = (λ e. eqb-true m n e, λ e. eq-eqb m n e)

bools : (s t : Bool) → Decides (beq s t) (s ≡ t)
bools true true = (λ e. refl, λ e. refl)
bools true false = (λ e. absurd cc, λ e. absurd cc)
bools false true = (λ e. absurd cc, λ e. absurd cc)
bools false false = (λ e. refl, λ e. refl)

fields : (f g : Field) → Decides (sameb field.the_type f g) (f ≡ g)
fields f g = (λ e. same_true field.the_type tt f g e, λ e. true_same field.the_type f g e)

parts : (p q : Part) → Decides (sameb part.the_type p q) (p ≡ q)
parts p q = (λ e. same_true part.the_type tt p q e, λ e. true_same part.the_type p q e)

pub causes : (a b : Cause) → Decides (sameb cause.the_type a b) (a ≡ b)
causes a b = (λ e. same_true cause.the_type tt a b e, λ e. true_same cause.the_type a b e)

span_of : ℕ → ℕ → Span
span_of lo hi = record { lo = lo; hi = hi }

spans_same : (s t : Span) → (s.lo ≡ t.lo) × (s.hi ≡ t.hi) → s ≡ t
unfolding span_of
spans_same s t e = ap (λ lo. span_of lo s.hi) e.0 ∙ ap (λ hi. span_of t.lo hi) e.1

pub spans : (s t : Span) → Decides ((s.lo == t.lo) && (s.hi == t.hi)) (s ≡ t)
spans s t = means _ (spans_same s t) (λ e. (ap (λ (s : Span). s.lo) e, ap (λ (s : Span). s.hi) e)) (both _ _ (numbers s.lo t.lo) (numbers s.hi t.hi))

-- the forms of terms, by their variants
form_const : (v : ℕ) → term_form (Const v) ≡ const v
unfolding out-Term denote.Hole.Carrier.out
form_const v = fold_out-Term TermForm layer_form (Const v)

form_entry : (f : Field) → term_form (Entry f) ≡ entry f
unfolding out-Term denote.Hole.Carrier.out
form_entry f = fold_out-Term TermForm layer_form (Entry f)

form_less : (p : Box (Unit {0}) Global) (t : Term) (n : ℕ) → term_form (Less' p t n) ≡ minus (term_form t) n
unfolding out-Term denote.Hole.Carrier.out
form_less p t n = fold_out-Term TermForm layer_form (Less' p t n)

form_flow : (k : ℕ) (p : Part) → term_form (Flow k p) ≡ flow_part k p
unfolding out-Term denote.Hole.Carrier.out
form_flow k p = fold_out-Term TermForm layer_form (Flow k p)

at_terms : (a b : Term) (x y : TermForm) → term_form a ≡ x → term_form b ≡ y → Decides (terms.unfolded a b) (x ≡ y) → Decides (equal_terms a b) (term_form a ≡ term_form b)
at_terms a b x y a_is b_is d = answers _ _ (terms.is a b) (means _ (λ e. a_is ∙ (e ∙ sym b_is)) (λ e. sym a_is ∙ (e ∙ b_is)) d)

pub decides_terms : (a b : Term) → Decides (equal_terms a b) (term_form a ≡ term_form b)
decides_terms (Const v) (Const w) = at_terms (Const v) (Const w) (const v) (const w) (form_const v) (form_const w) (means (v == w) (λ e. ap const e) (λ (e : const v ≡ const w). (let same : v ≡ w = cc in same)) (numbers v w))
decides_terms (Const v) (Entry g) = at_terms (Const v) (Entry g) (const v) (entry g) (form_const v) (form_entry g) (never (λ (e : const v ≡ entry g). cc))
decides_terms (Const v) (Less' q u n) = at_terms (Const v) (Less' q u n) (const v) (minus (term_form u) n) (form_const v) (form_less q u n) (never (λ (e : const v ≡ minus (term_form u) n). cc))
decides_terms (Const v) (Flow l q) = at_terms (Const v) (Flow l q) (const v) (flow_part l q) (form_const v) (form_flow l q) (never (λ (e : const v ≡ flow_part l q). cc))
decides_terms (Entry f) (Const w) = at_terms (Entry f) (Const w) (entry f) (const w) (form_entry f) (form_const w) (never (λ (e : entry f ≡ const w). cc))
decides_terms (Entry f) (Entry g) = at_terms (Entry f) (Entry g) (entry f) (entry g) (form_entry f) (form_entry g) (means _ (λ e. ap entry e) (λ (e : entry f ≡ entry g). (let same : f ≡ g = cc in same)) (fields f g))
decides_terms (Entry f) (Less' q u n) = at_terms (Entry f) (Less' q u n) (entry f) (minus (term_form u) n) (form_entry f) (form_less q u n) (never (λ (e : entry f ≡ minus (term_form u) n). cc))
decides_terms (Entry f) (Flow l q) = at_terms (Entry f) (Flow l q) (entry f) (flow_part l q) (form_entry f) (form_flow l q) (never (λ (e : entry f ≡ flow_part l q). cc))
decides_terms (Less' p t m) (Const w) = at_terms (Less' p t m) (Const w) (minus (term_form t) m) (const w) (form_less p t m) (form_const w) (never (λ (e : minus (term_form t) m ≡ const w). cc))
decides_terms (Less' p t m) (Entry g) = at_terms (Less' p t m) (Entry g) (minus (term_form t) m) (entry g) (form_less p t m) (form_entry g) (never (λ (e : minus (term_form t) m ≡ entry g). cc))
decides_terms (Less' p t m) (Less' q u n) = at_terms (Less' p t m) (Less' q u n) (minus (term_form t) m) (minus (term_form u) n) (form_less p t m) (form_less q u n) (means (equal_terms t u && (m == n)) (λ e. ap (λ (t : TermForm). minus t m) e.0 ∙ ap (minus (term_form u)) e.1) (λ (e : minus (term_form t) m ≡ minus (term_form u) n). (let same : term_form t ≡ term_form u = cc in let amount : m ≡ n = cc in (same, amount)))
    (both (equal_terms t u) (m == n) (decides_terms t u) (numbers m n)))
decides_terms (Less' p t m) (Flow l q) = at_terms (Less' p t m) (Flow l q) (minus (term_form t) m) (flow_part l q) (form_less p t m) (form_flow l q) (never (λ (e : minus (term_form t) m ≡ flow_part l q). cc))
decides_terms (Flow k p) (Const w) = at_terms (Flow k p) (Const w) (flow_part k p) (const w) (form_flow k p) (form_const w) (never (λ (e : flow_part k p ≡ const w). cc))
decides_terms (Flow k p) (Entry g) = at_terms (Flow k p) (Entry g) (flow_part k p) (entry g) (form_flow k p) (form_entry g) (never (λ (e : flow_part k p ≡ entry g). cc))
decides_terms (Flow k p) (Less' q u n) = at_terms (Flow k p) (Less' q u n) (flow_part k p) (minus (term_form u) n) (form_flow k p) (form_less q u n) (never (λ (e : flow_part k p ≡ minus (term_form u) n). cc))
decides_terms (Flow k p) (Flow l q) = at_terms (Flow k p) (Flow l q) (flow_part k p) (flow_part l q) (form_flow k p) (form_flow l q) (means _ (λ e. ap (λ k. flow_part k p) e.0 ∙ ap (flow_part l) e.1) (λ (e : flow_part k p ≡ flow_part l q). (let passage : k ≡ l = cc in let same : p ≡ q = cc in (passage, same)))
    (both _ _ (numbers k l) (parts p q)))

write_of : Field → TermForm → WriteForm
write_of field term = record { field = field; term = term }

writes_same : (v w : WriteForm) → (v.field ≡ w.field) × (v.term ≡ w.term) → v ≡ w
unfolding write_of
writes_same v w e = ap (λ f. write_of f v.term) e.0 ∙ ap (write_of w.field) e.1

decides_write : (v w : FieldWrite) → Decides (written.ghosts.eq v w) (write_form v ≡ write_form w)
decides_write v w =
    means _ (λ e. writes_same (write_form v) (write_form w) e) (λ e. (ap (λ (x : WriteForm). x.field) e, ap (λ (x : WriteForm). x.term) e))
    (both _ _ (fields v.field w.field) (decides_terms v.term w.term))

pub decides_writes : (vs ws : List FieldWrite) → Decides (pointwise written.ghosts.eq vs ws) (write_forms vs ≡ write_forms ws)
decides_writes [] [] = (λ e. refl, λ e. refl)
decides_writes [] (w ∷ ws) = never (λ (e : [] ≡ write_form w ∷ write_forms ws). cc)
decides_writes (v ∷ vs) [] = never (λ (e : write_form v ∷ write_forms vs ≡ []). cc)
decides_writes (v ∷ vs) (w ∷ ws) =
    means _ (λ e. ap (λ (x : WriteForm). x ∷ write_forms vs) e.0 ∙ ap (λ xs. write_form w ∷ xs) e.1)
    (λ (e : write_form v ∷ write_forms vs ≡ write_form w ∷ write_forms ws). (let first : write_form v ≡ write_form w = cc in let rest : write_forms vs ≡ write_forms ws = cc in (first, rest)))
    (both _ _ (decides_write v w) (decides_writes vs ws))

tags : (t u : Option ℕ) → Decides (option_eq (λ (m n : ℕ). m == n) t u) (t ≡ u)
tags None None = (λ e. refl, λ e. refl)
tags None (Some n) = never (λ (e : None ≡ Some n). cc)
tags (Some m) None = never (λ (e : Some m ≡ None). cc)
tags (Some m) (Some n) = means _ (λ e. ap Some e) (λ (e : Some m ≡ Some n). (let same : m ≡ n = cc in same)) (numbers m n)

rewrite_of : Bool → Bool → Option ℕ → List WriteForm → RewriteForm
rewrite_of trim untag tag writes = record { trim = trim; untag = untag; tag = tag; writes = writes }

rewrites_same : (r s : RewriteForm) → (r.trim ≡ s.trim) × ((r.untag ≡ s.untag) × ((r.tag ≡ s.tag) × (r.writes ≡ s.writes))) → r ≡ s
unfolding rewrite_of
rewrites_same r s e =
    ap (λ t. rewrite_of t r.untag r.tag r.writes) e.0 ∙ (ap (λ u. rewrite_of s.trim u r.tag r.writes) e.1.0 ∙ (ap (λ t. rewrite_of s.trim s.untag t r.writes) e.1.1.0 ∙ ap (rewrite_of s.trim s.untag s.tag) e.1.1.1))

pub decides_rewrites : (r s : Rewrite) → Decides (rewritten.ghosts.eq r s) (rewrite_form r ≡ rewrite_form s)
decides_rewrites r s =
    means _ (λ e. rewrites_same (rewrite_form r) (rewrite_form s) e)
    (λ e. (ap (λ (x : RewriteForm). x.trim) e, (ap (λ (x : RewriteForm). x.untag) e, (ap (λ (x : RewriteForm). x.tag) e, ap (λ (x : RewriteForm). x.writes) e))))
    (both _ _ (bools r.trim s.trim) (both _ _ (bools r.untag s.untag) (both _ _ (tags r.tag s.tag) (decides_writes r.writes s.writes))))

op_of : ℕ → ℕ → TermForm → TermForm → TermForm → TermForm → OpForm
op_of element input sa sp da dp = record { element = element; input = input; sa = sa; sp = sp; da = da; dp = dp }

ops_same : (c d : OpForm) → (c.element ≡ d.element) × ((c.input ≡ d.input) × ((c.sa ≡ d.sa) × ((c.sp ≡ d.sp) × ((c.da ≡ d.da) × (c.dp ≡ d.dp))))) → c ≡ d
unfolding op_of
ops_same c d e =
    ap (λ n. op_of n c.input c.sa c.sp c.da c.dp) e.0 ∙ (ap (λ n. op_of d.element n c.sa c.sp c.da c.dp) e.1.0 ∙ (ap (λ t. op_of d.element d.input t c.sp c.da c.dp) e.1.1.0
    ∙ (ap (λ t. op_of d.element d.input d.sa t c.da c.dp) e.1.1.1.0 ∙ (ap (λ t. op_of d.element d.input d.sa d.sp t c.dp) e.1.1.1.1.0 ∙ ap (λ t. op_of d.element d.input d.sa d.sp d.da t) e.1.1.1.1.1))))

pub decides_codes : (c d : OpCode) → Decides (coded.ghosts.eq c d) (op_form c ≡ op_form d)
decides_codes c d =
    means _ (λ e. ops_same (op_form c) (op_form d) e)
    (λ e. (ap (λ (x : OpForm). x.element) e, (ap (λ (x : OpForm). x.input) e, (ap (λ (x : OpForm). x.sa) e, (ap (λ (x : OpForm). x.sp) e, (ap (λ (x : OpForm). x.da) e, ap (λ (x : OpForm). x.dp) e))))))
    (both _ _ (numbers c.element d.element) (both _ _ (numbers c.input d.input) (both _ _ (decides_terms c.sa d.sa) (both _ _ (decides_terms c.sp d.sp) (both _ _ (decides_terms c.da d.da) (decides_terms c.dp d.dp))))))
