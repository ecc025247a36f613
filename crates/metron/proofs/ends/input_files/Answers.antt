use Rattle.std.proofs.Common.{refl}
use Rattle.metron.proofs.Begun.{inputs_are}
use Rattle.metron.proofs.ends.input_files.Goals as goal

pub returns : goal.returns
returns c = inputs_are (λ f. f.now) c.loop-rest.inputs.items c.loop-rest.rest.now _ c.args.bound.now c.min.result c.args.entries c.in_default.len_below refl c.min.ensures c.loop-rest.invariant
