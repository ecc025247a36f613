-- One value is numbered.
use Rattle.std.proofs.Common.{◌≡◌, ◌++◌, [], ◌∷◌, ℕ, List, length, slice_set, Some, refl, sym, subst, arith}
use Rattle.std.proofs.lemmas.List.{length-append}
use Rattle.mt_synth.specs.Numbering.{IsNumbering}
use Rattle.mt_synth.proofs.Numbered.{numbered_again, numbered_next, one_distinct_more, has_number, has_none}
use Rattle.mt_synth.proofs.numbering.number_value.Goals as goal

pub returns-then-is_some-clause-numbering : goal.returns-then-is_some-clause-numbering
returns-then-is_some-clause-numbering c values is =
    let h = has_number c.args.numbers.now.items c.args.value c.index.result.now c.is_some.result c.requires.there c.index.ensures c.is_some.ensures c.if-is_some.true in
    numbered_again values c.args.numbers.now.items c.args.order.now.items c.args.value is h.0 h.1

pub returns-then-len-eq-MOST_CLASSES-clause-many :
    goal.returns-then-len-eq-MOST_CLASSES-clause-many
returns-then-len-eq-MOST_CLASSES-clause-many c values is =
    let h = has_none c.args.numbers.now.items c.args.value c.index.result.now c.is_some.result c.requires.there c.index.ensures c.is_some.ensures c.if-is_some.false in
    let l = length-append c.args.order.now.items (c.args.value ∷ []) in
    let n = c.len.ensures in let m = c.if-len-eq-MOST_CLASSES.true in
    (refl, one_distinct_more values c.args.numbers.now.items c.args.order.now.items c.args.value is h 65536 (omega arith))

pub returns-clause-numbering : goal.returns-clause-numbering
returns-clause-numbering c values is =
    let h = has_none c.args.numbers.now.items c.args.value c.index.result.now c.is_some.result c.requires.there c.index.ensures c.is_some.ensures c.if-is_some.false in
    let n : c.len-2.result ≡ length c.args.order.now.items = omega (arith, c.len-2.ensures) in
    subst (λ (items : List ℕ). IsNumbering (values ++ c.args.value ∷ []) (slice_set c.args.numbers.now.items c.args.value (Some c.len-2.result)) items) (sym c.in_ok-push.ensures.items)
    (subst (λ (n : ℕ). IsNumbering (values ++ c.args.value ∷ []) (slice_set c.args.numbers.now.items c.args.value (Some n)) (c.args.order.now.items ++ c.args.value ∷ [])) (sym n)
    (numbered_next values c.args.numbers.now.items c.args.order.now.items c.args.value is h))
