-- The last part comes behind the others, and the field's last value behind their ends.
use Rattle.std.proofs.Common.{◌<◌, arith, sym, length, vec_len}
use Rattle.std.proofs.lemmas.Bool.{eqb-false}
use Rattle.mt_cuts.proofs.Finished.{finished, finished_well}
use Rattle.mt_cuts.proofs.parts.Parts.finish.Goals as goal

pub returns : goal.returns
returns c =
    let some : 0 < length c.args.self.next.items = let apart = eqb-false (vec_len c.args.self.next) 0 (sym c.if-is_empty.ensures) in omega (arith, apart, c.args.self.next.ok.0) in
    record {
      tree = finished c.args.field c.push.new.self.ends c.push.new.self.next c.args.self.ends.items c.args.self.next.items c.args.last c.args.here c.in_ok-push.ensures.ends c.in_ok-push.ensures.parts c.requires.as_many c.requires.later some;
      finishes = λ devices is all one. finished_well devices c.args.field c.push.new.self.ends c.push.new.self.next c.args.self.ends.items c.args.self.next.items c.args.last c.args.here c.in_ok-push.ensures.ends c.in_ok-push.ensures.parts c.requires.as_many is all one;
    }
