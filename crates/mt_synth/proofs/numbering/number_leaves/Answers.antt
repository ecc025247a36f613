-- All leaves are numbered.
use Rattle.std.proofs.Common.{◌≡◌, ◌++◌, [], ◌∷◌, ℕ, List, length, replicate, ◌<◌, map, get_or, None, refl, sym, ◌∙◌, ap, subst, arith}
use Rattle.std.proofs.lemmas.List.{length-replicate}
use Rattle.mt_cuts.specs.declared.leaves.Leaf.{Leaf}
use Rattle.mt_synth.specs.Numbering.{IsNumbering}
use Rattle.mt_synth.proofs.Places.{first_left, step_on, all_done}
use Rattle.mt_synth.proofs.Numbered.{only_none, none_at_first, values_more, fault_stays}
use Rattle.mt_synth.proofs.numbering.number_leaves.Goals as goal

pub loop-rest-init : goal.loop-rest-init
loop-rest-init c =
    let none : c.in_ok-numbers.numbers.items ≡ replicate c.args.bound None = c.in_ok-numbers.ensures.items_if_clones_equal (only_none _ (λ n h. h)) in
    let l = length-replicate c.args.bound None in (
      [],
      refl,
      subst (λ (order : List ℕ). IsNumbering [] c.in_ok-numbers.numbers.items order) (sym c.new-order.ensures.items) (none_at_first c.in_ok-numbers.numbers.items c.args.bound none),
      ap length none ∙ l,
      subst (λ (order : List ℕ). length order < 65536) (sym c.new-order.ensures.items) (omega arith),
    )

pub number_value-requires-clause-there : goal.number_value-requires-clause-there
number_value-requires-clause-there c =
    let i = c.loop-rest.invariant in
    let f = first_left c.args.leaves.now i.0 c.loop-rest.rest.now (record { spans = []; value = 0 }) i.1 c.in-len1-up.len_at_least in
    let b = c.requires.below (length i.0) _ f in let n = i.3 in omega (arith, b, n)

pub returns-in-Err-clause-many : goal.returns-in-Err-clause-many
returns-in-Err-clause-many c =
    let i = c.loop-rest.invariant in let d : Leaf = record { spans = []; value = 0 } in
    fault_stays c.args.leaves.now i.0 _ (get_or c.loop-rest.rest.now 0 d) c.in-Err.fault
    (step_on c.args.leaves.now i.0 c.loop-rest.rest.now d i.1 c.in-len1-up.len_at_least)
    (c.in-Err.ensures.many (map (λ leaf. leaf.value) i.0) i.2)

pub loop-rest-preserved : goal.loop-rest-preserved
loop-rest-preserved c =
    let i = c.loop-rest.invariant in let d : Leaf = record { spans = []; value = 0 } in
    let n = c.number_value.ensures.as_many in (
      i.0 ++ get_or c.loop-rest.rest.now 0 d ∷ [],
      step_on c.args.leaves.now i.0 c.loop-rest.rest.now d i.1 c.in-len1-up.len_at_least,
      subst (λ (values : List ℕ). IsNumbering values c.number_value.new.numbers.items c.number_value.new.order.items) (sym (values_more i.0 (get_or c.loop-rest.rest.now 0 d)))
          (c.in-Ok.ensures.numbering (map (λ leaf. leaf.value) i.0) i.2),
      n ∙ i.3,
      c.in-Ok.ensures.few,
    )

pub returns-clause-numbering : goal.returns-clause-numbering
returns-clause-numbering c =
    let i = c.loop-rest.invariant in
    subst (λ (leaves : List Leaf). IsNumbering (map (λ leaf. leaf.value) leaves) c.loop-rest.numbers.items c.loop-rest.order.items)
    (all_done c.args.leaves.now i.0 c.loop-rest.rest.now i.1 c.in_default.len_below) i.2
