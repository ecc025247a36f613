use Rattle.std.proofs.Common.{◌≡◌, arith}
use Rattle.std.specs.BTreeMap.{get_by_text}
use Rattle.mt_io.specs.Files.{IsSame}
use Rattle.std.proofs.lemmas.Result.{on_err_weaker}
use Rattle.std.proofs.lemmas.Map.Text.{text_keys}
use Rattle.mt_io.proofs.memory.fail_entry.Goals as goal

-- nothing was pushed, so the map is as it was
pub returns-in-Some-clause-err : goal.returns-in-Some-clause-err
returns-in-Some-clause-err c =
    let kept : c.fail.new.self ≡ c.in-Some.entry.now → IsSame (get_by_text c.args.entries.now) (get_by_text (c.get_mut.follows.lender c.fail.new.self)) =
    λ same name. grind (arith, text_keys) in
    on_err_weaker _ kept c.fail.ensures.err

pub returns-in-Some-clause-others : goal.returns-in-Some-clause-others
returns-in-Some-clause-others c = λ other apart. grind (arith, text_keys)

pub returns-clause-ok : goal.returns-clause-ok
returns-clause-ok c = grind (arith, text_keys)

pub returns-clause-others : goal.returns-clause-others
returns-clause-others c = λ other apart. grind (arith, text_keys)
