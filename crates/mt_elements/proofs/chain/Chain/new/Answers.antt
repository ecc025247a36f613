use Rattle.std.proofs.Common.{◌∙◌, ap, suc, length, map, position}
use Rattle.mt_elements.specs.ChainState.{is_entry, specs_in}
use Rattle.mt_elements.proofs.chain.Chain.new.Goals as goal

pub invariant_of-result : goal.invariant_of-result
invariant_of-result c = record {
  accepted = c.requires.accepted;
  numbered = c.requires.numbered;
  next = c.requires.table;
  arrives = record {
    whole = c.in_ok-arrivals.ensures.whole ∙ ap suc c.entries.ensures;
    each = λ device entry is. c.in_ok-arrivals.ensures.each device entry is ∙ ap (position (is_entry device)) c.kinds.ensures.kinds;
  };
  turns = c.in_ok-sizes.ensures ∙ ap (map length) (c.as_slice.ensures ∙ c.mappers.ensures);
  inputs = c.in_ok-specs.ensures ∙ ap (map specs_in) c.kinds-2.ensures.kinds;
  ranges = c.in_ok-pools.ensures.items ∙ c.pools.ensures;
}
