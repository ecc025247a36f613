-- Trees differ where their fields, their ends or one of their parts differ.
use Rattle.std.proofs.Common.{arith, rules, ap, sym, refl, ◌∙◌}
use Rattle.mt_cuts.specs.declared.cut.Cut.{the_lemmas}
use Rattle.mt_cuts.specs.View.{tree_of}
use Rattle.mt_cuts.proofs.Nodes.{opened, same_length, same_ends, nodes_same, parts_ordered, searched_ends, node_parts, map_same, map_at}
use Rattle.std.proofs.lemmas.List.{length-map, get_or_default}
use Rattle.mt_cuts.proofs.same.+same.Goals as goal

pub is_same-returns-then-len : goal.is_same-returns-then-len
is_same-returns-then-len t c =
    let o = opened c.args.a.now c.in-Cuts.field c.in-Cuts.ends c.in-Cuts.next c.in-Cuts.is c.requires.left in
    let o' = opened c.args.b.now c.in-Cuts-b-2.other_field c.in-Cuts-b-2.other_ends c.in-Cuts-b-2.other_next c.in-Cuts-b-2.is c.requires.right in
    (λ e. absurd cc, λ same. absurd (c.if-len.true (c.len.ensures ∙ (c.in-Cuts.next.ok.0 ∙ (same_length _ _ _ _ _ _ _ _ o o' same ∙ sym (c.len-in-Cuts-b-2.ensures ∙ c.in-Cuts-b-2.other_next.ok.0))))))

pub is_same-overflow_sub-cuts : goal.is_same-overflow_sub-cuts
is_same-overflow_sub-cuts t c =
    let o = opened c.args.a.now c.in-Cuts.field c.in-Cuts.ends c.in-Cuts.next c.in-Cuts.is c.requires.left in
    omega (arith, o.two, length-map c.in-Cuts.next.items tree_of, c.in-Cuts.next.ok.0, c.len-cuts.ensures)

pub is_same-slice_bounds-is_cut_alike-end : goal.is_same-slice_bounds-is_cut_alike-end
is_same-slice_bounds-is_cut_alike-end t c =
    let o = opened c.args.a.now c.in-Cuts.field c.in-Cuts.ends c.in-Cuts.next c.in-Cuts.is c.requires.left in
    rw c.deref.ensures.value (searched_ends _ _ _ _ o c.len-cuts.result (c.len-cuts.ensures ∙ c.in-Cuts.next.ok.0))

pub is_same-slice_bounds-is_cut_alike-end-in-Cuts-b-2 : goal.is_same-slice_bounds-is_cut_alike-end-in-Cuts-b-2
is_same-slice_bounds-is_cut_alike-end-in-Cuts-b-2 t c =
    let o' = opened c.args.b.now c.in-Cuts-b-2.other_field c.in-Cuts-b-2.other_ends c.in-Cuts-b-2.other_next c.in-Cuts-b-2.is c.requires.right in
    rw c.deref-in-Cuts-b-2.ensures.value (searched_ends _ _ _ _ o' c.len-cuts.result (c.len-cuts.ensures ∙ (sym c.len.ensures ∙ (c.if-len.false ∙ (c.len-in-Cuts-b-2.ensures ∙ c.in-Cuts-b-2.other_next.ok.0)))))

pub is_same-returns-then-not-is_cut_alike : goal.is_same-returns-then-not-is_cut_alike
is_same-returns-then-not-is_cut_alike t c =
    let o = opened c.args.a.now c.in-Cuts.field c.in-Cuts.ends c.in-Cuts.next c.in-Cuts.is c.requires.left in
    let o' = opened c.args.b.now c.in-Cuts-b-2.other_field c.in-Cuts-b-2.other_ends c.in-Cuts-b-2.other_next c.in-Cuts-b-2.is c.requires.right in
    let told = rw (c.deref.ensures.value, c.deref-in-Cuts-b-2.ensures.value) at c.if-not-is_cut_alike.ensures in (
      λ e. absurd cc,
      λ same. told.1 (same_ends _ _ _ _ _ _ _ _ c.len-cuts.result c.len-in-Cuts-b-2.result o o' (c.len-cuts.ensures ∙ c.in-Cuts.next.ok.0) (c.len-in-Cuts-b-2.ensures ∙ c.in-Cuts-b-2.other_next.ok.0)
          (c.len-cuts.ensures ∙ (sym c.len.ensures ∙ c.if-len.false)) same),
    )

pub is_same-are_same-requires : goal.is_same-are_same-requires
is_same-are_same-requires t c =
    let o = opened c.args.a.now c.in-Cuts.field c.in-Cuts.ends c.in-Cuts.next c.in-Cuts.is c.requires.left in
    let o' = opened c.args.b.now c.in-Cuts-b-2.other_field c.in-Cuts-b-2.other_ends c.in-Cuts-b-2.other_next c.in-Cuts-b-2.is c.requires.right in (
      search (rules, the_lemmas),
      (
        rw c.deref-in-Cuts-b-2-2.ensures.value (parts_ordered _ _ _ c.in-Cuts.next.items o),
        (
          rw c.deref-in-Cuts-b-2-3.ensures.value (parts_ordered _ _ _ c.in-Cuts-b-2.other_next.items o'),
          omega (arith, c.deref-in-Cuts-b-2-2.ensures.len, c.deref-in-Cuts-b-2-3.ensures.len, c.len.ensures, c.len-in-Cuts-b-2.ensures, c.if-len.false),
        ),
      ),
    )

pub is_same-returns-else-not-is_cut_alike : goal.is_same-returns-else-not-is_cut_alike
is_same-returns-else-not-is_cut_alike t c =
    let o = opened c.args.a.now c.in-Cuts.field c.in-Cuts.ends c.in-Cuts.next c.in-Cuts.is c.requires.left in
    let o' = opened c.args.b.now c.in-Cuts-b-2.other_field c.in-Cuts-b-2.other_ends c.in-Cuts-b-2.other_next c.in-Cuts-b-2.is c.requires.right in
    let told = rw (c.deref.ensures.value, c.deref-in-Cuts-b-2.ensures.value) at c.if-not-is_cut_alike.ensures in
    let parts = rw (c.deref-in-Cuts-b-2-2.ensures.value, c.deref-in-Cuts-b-2-3.ensures.value) at c.are_same.ensures in (
      λ e. nodes_same _ _ _ _ _ _ _ _ c.len-cuts.result c.len-in-Cuts-b-2.result o o' (c.len-cuts.ensures ∙ c.in-Cuts.next.ok.0) (c.len-in-Cuts-b-2.ensures ∙ c.in-Cuts-b-2.other_next.ok.0)
          (c.len-cuts.ensures ∙ (sym c.len.ensures ∙ c.if-len.false)) (told.0 refl) (parts.0 e),
      λ same. parts.1 (node_parts _ _ _ _ _ _ _ _ o o' same).2,
    )

pub are_same-returns-then-not-is_same : goal.are_same-returns-then-not-is_same
are_same-returns-then-not-is_same t c = (
  λ e. absurd cc,
  λ same. c.if-not-is_same.ensures.1
      (ap tree_of c.index-a-i.is
      ∙ (map_at tree_of c.args.a.now c.args.b.now c.loop-i.i c.index-a-i.result same c.loop-i-test.true c.requires.as_many
      ∙ (ap tree_of (get_or_default c.args.b.now c.loop-i.i c.index-a-i.result c.index-b-i.result (omega (arith, c.loop-i-test.true, c.requires.as_many)))
      ∙ sym (ap tree_of c.index-b-i.is)))),
)

pub are_same-returns : goal.are_same-returns
are_same-returns t c = (λ e. map_same tree_of c.args.a.now c.args.b.now c.requires.as_many (λ k d lt. c.loop-i.invariant k d (omega arith)), λ same. refl)
