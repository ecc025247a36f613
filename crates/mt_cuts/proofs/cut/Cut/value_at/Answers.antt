-- Each step goes to the part that gives the header the same value.
use Rattle.std.proofs.Common.{arith, ◌∙◌}
use Rattle.mt_packet.specs.Header.{field_of}
use Rattle.mt_cuts.proofs.Nodes.{opened, searched_ends, searched_rise, searched_below, searched_value}
use Rattle.mt_cuts.proofs.cut.Cut.value_at.Goals as goal

pub slice_bounds-index_among-length : goal.slice_bounds-index_among-length
slice_bounds-index_among-length c =
    let o = opened c.loop-here.here.now c.in-Cuts.field c.in-Cuts.ends c.in-Cuts.next c.in-Cuts.is c.loop-here.invariant.1 in
    rw c.deref.ensures.value (searched_ends _ _ _ _ o c.len.result (c.len.ensures ∙ c.in-Cuts.next.ok.0))

pub index_among-at-requires : goal.index_among-at-requires
index_among-at-requires c =
    let o = opened c.loop-here.here.now c.in-Cuts.field c.in-Cuts.ends c.in-Cuts.next c.in-Cuts.is c.loop-here.invariant.1 in
    rw c.deref.ensures.value (searched_rise _ _ _ _ o c.len.result (c.len.ensures ∙ c.in-Cuts.next.ok.0))

pub loop-here-preserved : goal.loop-here-preserved
loop-here-preserved c =
    let o = opened c.loop-here.here.now c.in-Cuts.field c.in-Cuts.ends c.in-Cuts.next c.in-Cuts.is c.loop-here.invariant.1 in
    let e = rw c.deref.ensures.value at c.index_among-at.ensures in
    let lt = rw c.deref-in-Cuts.ensures.value at c.in-Some.ensures.lookup.3.0 in
    let got = rw c.deref-in-Cuts.ensures.value at c.in-Some.ensures.lookup.1 in
    let step = searched_value _ _ _ _ o c.len.result c.index_among-at.result c.get.result (c.len.ensures ∙ c.in-Cuts.next.ok.0) e (λ field. field_of c.args.header.now field) c.get.ensures.value c.in-Some.part.now lt got in
    (step.0 ∙ c.loop-here.invariant.0, step.1)

pub returns-in-None : goal.returns-in-None
returns-in-None c =
    let o = opened c.loop-here.here.now c.in-Cuts.field c.in-Cuts.ends c.in-Cuts.next c.in-Cuts.is c.loop-here.invariant.1 in
    let e = rw c.deref.ensures.value at c.index_among-at.ensures in
    let lt = searched_below _ _ _ _ o c.len.result c.index_among-at.result c.get.result (c.len.ensures ∙ c.in-Cuts.next.ok.0) e in
    absurd (omega (arith, c.in-None.ensures.lookup.3, c.len.ensures, c.deref-in-Cuts.ensures.len))
