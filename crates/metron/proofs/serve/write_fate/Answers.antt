use Rattle.metron.proofs.Outputs.{front_of_fate}
use Rattle.metron.proofs.serve.write_fate.Goals as goal

pub returns-in-Sent-clause-err : goal.returns-in-Sent-clause-err
returns-in-Sent-clause-err g c = front_of_fate c.write_frame.result c.args.writers.now _ _ c.in-Sent.device c.in-Sent.frame c.args.fate.now c.in-Sent.is c.write_frame.ensures.err
