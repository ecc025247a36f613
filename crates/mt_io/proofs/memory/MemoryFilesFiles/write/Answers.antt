use Rattle.std.proofs.Common.{◌+◌, Some, unwrap_or, ap, ◌∙◌, arith}
use Rattle.mt_io.specs.State.{unnamed}
use Rattle.mt_io.specs.Memory.{held_of, write_faults_of}
use Rattle.mt_io.specs.Laws.{same_from_but, never_fell_from_but}
use Rattle.mt_io.proofs.memory.MemoryFilesFiles.write.Goals as goal

pub returns-clause-held : goal.returns-clause-held
returns-clause-held c =
    same_from_but c.args.name.now (held_of c.args.self.now) (held_of (record c.args.self.now { entries = c.write_entry.new.entries }))
    (ap Some (c.write_entry.ensures.left ∙ ap (λ s. s.left) c.stand.ensures.state))
    (λ other apart. ap (λ o. Some (unwrap_or o unnamed).left) (c.write_entry.ensures.others other apart ∙ c.stand.ensures.others other apart))

pub returns-clause-write_faults : goal.returns-clause-write_faults
returns-clause-write_faults c =
    never_fell_from_but c.args.name.now (write_faults_of c.args.self.now) (write_faults_of (record c.args.self.now { entries = c.write_entry.new.entries }))
    (omega (arith, c.write_entry.ensures.write_faults, ap (λ s. s.write_faults) c.stand.ensures.state))
    (λ other apart. ap (λ o. (unwrap_or o unnamed).write_faults + c.args.self.now.lost) (c.write_entry.ensures.others other apart ∙ c.stand.ensures.others other apart))
