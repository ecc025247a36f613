use Rattle.std.proofs.Common.{rules, sym, subst, ℕ}
use Rattle.std.specs.Prelude.{Some}
use Rattle.std.specs.BTreeMap as stations
use Rattle.mt_cuts.specs.Canonical.{IsCanonical}
use Rattle.mt_cuts.specs.View.{tree_of}
use Rattle.mt_synth.specs.Memo.{compare_stations}
use Rattle.mt_synth.proofs.Remembered.{one_more_kept}
use Rattle.mt_synth.proofs.memo.Memo.keep.Goals as goal

pub returns : goal.returns
returns c chain trees same is has =
    let updates : stations.Updates compare_stations c.args.self.now.kept c.insert.new.self c.args.key (Some c.in_ok-copy.copy) = search rules in
    one_more_kept chain trees c.args.self.now.kept c.insert.new.self c.args.key c.args.cut.now c.in_ok-copy.copy updates
    (subst (λ (n : ℕ). IsCanonical n (tree_of c.in_ok-copy.copy)) (sym same) c.in_ok-copy.ensures.canonical) c.in_ok-copy.ensures.value is has
