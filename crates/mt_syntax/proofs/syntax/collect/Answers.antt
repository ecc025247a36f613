use Rattle.mt_syntax.specs.Reading.{phrases_of_tokens}
use Rattle.mt_syntax.proofs.ReadLoop.{goes_on, is_done, has_failed}
use Rattle.mt_syntax.proofs.syntax.collect.Goals as goal

pub loop-advance-preserved : goal.loop-advance-preserved
loop-advance-preserved c =
    let r = rw c.in-Ok-Some.field-0-is at c.in-Ok-Some.ensures.reads in
    let s = rw c.in-Ok-Some.field-0-is at c.in-Ok-Some.ensures.shorter in
    rw c.in_ok-push_phrase-in-Ok-Some.ensures (goes_on c.loop-advance.phrases.items c.loop-advance.stage c.loop-advance.inside c.loop-advance.rest.now c.in-Ok-Some.advance c.in-Ok-Some.after.now (phrases_of_tokens c.args.tokens.now) r s c.loop-advance.invariant)

pub returns-in-Ok-None : goal.returns-in-Ok-None
returns-in-Ok-None c =
    let r = rw c.in-Ok-None.field-0-is at c.in-Ok-None.ensures.reads in
    is_done c.loop-advance.phrases.items c.loop-advance.stage c.loop-advance.inside c.loop-advance.rest.now (phrases_of_tokens c.args.tokens.now) r c.loop-advance.invariant

pub returns-in-Err : goal.returns-in-Err
returns-in-Err c = has_failed c.loop-advance.phrases.items c.loop-advance.stage c.loop-advance.inside c.loop-advance.rest.now c.in-Err.fault (phrases_of_tokens c.args.tokens.now) c.in-Err.ensures.reads c.loop-advance.invariant
