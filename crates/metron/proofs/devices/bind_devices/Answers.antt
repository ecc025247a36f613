use Rattle.std.proofs.Common.{length, ap, arith}
use Rattle.std.proofs.lemmas.List.{length-map}
use Rattle.mt_command.specs.Parts.{device_view}
use Rattle.metron.proofs.Commands.{few_views}
use Rattle.metron.proofs.devices.bind_devices.Goals as goal

pub bind-requires : goal.bind-requires
bind-requires c =
    let few = few_views c.args.chain.now c.is_accepted.ensures.accepted in
    let viewed = length-map c.in-Ok.devices.items device_view in
    let made = ap length c.in-Ok.ensures in
    let same = ap length c.deref.ensures.value in
    omega (arith, few, viewed, made, same)
