use Rattle.std.proofs.Common.{◌≤◌, length, inl, arith}
use Rattle.mt_trees.specs.Elements.{tree_of}
use Rattle.mt_pipeline.proofs.ClassFound.{some_devices}
use Rattle.mt_pipeline.proofs.context.Context.of.Goals as goal

pub build-requires-clause-partition : goal.build-requires-clause-partition
build-requires-clause-partition g c =
    let chain = c.args.chain in
    let accepted = c.is_accepted.ensures.accepted in
    let numbered = c.is_accepted.ensures.numbered in
    let among : chain.entries ≤ length chain.devices = numbered.among in
    let few : length chain.devices ≤ 32 = c.devices.ensures.few in
    let within : chain.entries ≤ 32 = omega arith in
    (chain.entries, c.classes_are_a_partition.ensures chain.entries (some_devices chain.entries (λ e. accepted.devices (inl e))) within (tree_of chain) c.args.classes c.requires.classes)
