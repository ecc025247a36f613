use Rattle.std.proofs.Common.{◌≡◌, length, refl, sym, ◌∙◌, Some, arith}
use Rattle.std.specs.Prelude.{slice_get}
use Rattle.std.proofs.lemmas.List.{take_rest}
use Rattle.std.proofs.lemmas.Option.{slice_get_read}
use Rattle.mt_pcap.proofs.Apart.{apart_more, has_twice, all_apart}
use Rattle.mt_pcap.proofs.merging.are_apart.Goals as goal

pub returns-then-has_name-clause-cause : goal.returns-then-has_name-clause-cause
returns-then-has_name-clause-cause c =
    let xs = c.args.readers.now in
    let there : slice_get xs c.loop-index.index ≡ Some c.index-readers-index.result = slice_get_read xs (length xs) c.loop-index.index c.index-readers-index.result refl (omega arith) c.index-readers-index.is in
    has_twice xs _ c.loop-index.index c.index-readers-index.result c.name.result.now there c.name.ensures (take_rest xs _) (sym c.has_name.ensures ∙ c.if-has_name.true)

pub loop-index-preserved : goal.loop-index-preserved
loop-index-preserved c =
    let xs = c.args.readers.now in
    let there : slice_get xs c.loop-index.index ≡ Some c.index-readers-index.result = slice_get_read xs (length xs) c.loop-index.index c.index-readers-index.result refl (omega arith) c.index-readers-index.is in
    apart_more xs _ c.loop-index.index c.index-readers-index.result c.name.result.now there c.name.ensures (take_rest xs _) (sym c.has_name.ensures ∙ c.if-has_name.false) c.loop-index.invariant

pub returns-clause-apart : goal.returns-clause-apart
returns-clause-apart c = all_apart c.args.readers.now c.loop-index.index (omega arith) c.loop-index.invariant
