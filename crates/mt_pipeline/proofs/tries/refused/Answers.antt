use Rattle.std.proofs.Common.{subst, sym}
use Rattle.mt_flow.specs.Mappings.{refused_of}
use Rattle.mt_flow.specs.declared.mapping.OpenFault.{OpenFault}
use Rattle.mt_pipeline.specs.Trying.{IsGivenBack}
use Rattle.mt_pipeline.proofs.tries.refused.Goals as goal

pub returns-in-Clash-clause-back : goal.returns-in-Clash-clause-back
returns-in-Clash-clause-back c =
    subst (λ (f : OpenFault). IsGivenBack c.args.pools.now c.args.shares.now c.give_back.new.shares (refused_of f).port) (sym c.in-Clash.is) c.give_back.ensures

pub returns-in-NoMemory-clause-back : goal.returns-in-NoMemory-clause-back
returns-in-NoMemory-clause-back c =
    subst (λ (f : OpenFault). IsGivenBack c.args.pools.now c.args.shares.now c.give_back-in-NoMemory.new.shares (refused_of f).port) (sym c.in-NoMemory.is) c.give_back-in-NoMemory.ensures
