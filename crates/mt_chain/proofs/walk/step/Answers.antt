use Rattle.std.proofs.Common.{◌∙◌, sym, ap}
use Rattle.mt_kinds.specs.Layers.{takes}
use Rattle.mt_chain.proofs.Rewritten.{not_taken}
use Rattle.mt_chain.proofs.walk.step.Goals as goal

pub returns-then-not-takes-clause-stop : goal.returns-then-not-takes-clause-stop
returns-then-not-takes-clause-stop c =
    not_taken c.args.given.now.mappers.now c.args.given.now.pools.now c.args.given.now.picks.now c.args.port _ c.args.kind.now c.in-IPRewriter.specs c.in-IPRewriter.is
    (ap (takes c.args.kind.now) (sym c.layer.ensures) ∙ sym c.takes.ensures ∙ c.if-not-takes.true)
