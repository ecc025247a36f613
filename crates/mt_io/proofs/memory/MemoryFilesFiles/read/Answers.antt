use Rattle.std.proofs.Common.{◌+◌, Some, unwrap_or, ap, ◌∙◌, arith}
use Rattle.mt_io.specs.State.{unnamed}
use Rattle.mt_io.specs.Memory.{written_of, read_faults_of}
use Rattle.mt_io.specs.Laws.{same_from_but, never_fell_from_but}
use Rattle.mt_io.proofs.memory.MemoryFilesFiles.read.Goals as goal

pub returns-clause-written : goal.returns-clause-written
returns-clause-written c =
    same_from_but c.args.name.now (written_of c.args.self.now) (written_of (record c.args.self.now { entries = c.read_entry.new.entries }))
    (ap Some (c.read_entry.ensures.written ∙ ap (λ s. s.written) c.stand.ensures.state))
    (λ other apart. ap (λ o. Some (unwrap_or o unnamed).written) (c.read_entry.ensures.others other apart ∙ c.stand.ensures.others other apart))

pub returns-clause-read_faults : goal.returns-clause-read_faults
returns-clause-read_faults c =
    never_fell_from_but c.args.name.now (read_faults_of c.args.self.now) (read_faults_of (record c.args.self.now { entries = c.read_entry.new.entries }))
    (omega (arith, c.read_entry.ensures.read_faults, ap (λ s. s.read_faults) c.stand.ensures.state))
    (λ other apart. ap (λ o. (unwrap_or o unnamed).read_faults + c.args.self.now.lost) (c.read_entry.ensures.others other apart ∙ c.stand.ensures.others other apart))
