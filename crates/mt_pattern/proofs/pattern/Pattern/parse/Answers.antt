use Rattle.std.proofs.Common.{◌≡◌, ◌<◌, Err, Some, None, length, drop, refl, sym, ap, subst, ◌∙◌, arith}
use Rattle.mt_pattern.specs.Lexis.{next_offset, token_len, tokens_of}
use Rattle.mt_pattern.specs.Parser.{finish_of, step_of, ended, parse_of}
use Rattle.mt_pattern.proofs.Tokens.{at_end, at_next, token_some}
use Rattle.mt_pattern.proofs.Faults.{only_pattern, only_fault}
use Rattle.mt_pattern.proofs.pattern.Pattern.parse.Goals as goal

pub loop-offset-init : goal.loop-offset-init
unfolding parse_of tokens_of
loop-offset-init c = (omega arith, (length c.args.text.now, omega arith, rw c.new-parser.ensures refl))

pub returns-in-Ok-Some : goal.returns-in-Ok-Some
returns-in-Ok-Some c =
    let text = c.args.text.now in
    let left = c.loop-offset.invariant.1 in
    let here : next_offset text c.loop-offset.offset ≡ length text = sym c.next_offset-offset.ensures.offset ∙ c.if-offset-text.true in
    let e = at_end left.0 text c.loop-offset.offset c.loop-offset.parser (length text) (parse_of text) here left.2 in
    let read : finish_of c.loop-offset.parser ≡ Some c.in-Ok-Some.pattern = sym c.in-Ok-Some.ensures ∙ c.in-Ok-Some.field-0-is in
    let due = sym e ∙ ap (λ found. ended found (length text)) read in
    record { pattern = only_pattern text c.in-Ok-Some.pattern due; fault = tt; read = due }

pub returns-in-Ok-None : goal.returns-in-Ok-None
returns-in-Ok-None c =
    let text = c.args.text.now in
    let left = c.loop-offset.invariant.1 in
    let here : next_offset text c.loop-offset.offset ≡ length text = sym c.next_offset-offset.ensures.offset ∙ c.if-offset-text.true in
    let e = at_end left.0 text c.loop-offset.offset c.loop-offset.parser (length text) (parse_of text) here left.2 in
    let read : finish_of c.loop-offset.parser ≡ None = sym c.in-Ok-None.ensures ∙ c.in-Ok-None.field-0-is in
    let due = (sym e ∙ ap (λ found. ended found (length text)) read) ∙ ap (λ end. Err end) (sym c.if-offset-text.true) in
    record { pattern = tt; fault = only_fault text c.next_offset-offset.result due; read = due }

pub returns-in-Ok-None-step : goal.returns-in-Ok-None-step
returns-in-Ok-None-step c =
    let text = c.args.text.now in
    let left = c.loop-offset.invariant.1 in
    let p_is = c.next_offset-offset.ensures.offset in
    let p_below : c.next_offset-offset.result < length text = omega arith in
    let below : next_offset text c.loop-offset.offset < length text = subst (λ p. p < length text) p_is p_below in
    let wrong : None ≡ step_of c.loop-offset.parser c.keyword_of.result c.token-word.result.now = sym c.in-Ok-None-step.field-0-is ∙ c.in-Ok-None-step.ensures in
    let t = at_next left.0 text c.loop-offset.offset c.next_offset-offset.result (length c.token-word.result.now) c.token-word.result.now c.keyword_of.result None c.loop-offset.parser (length text) (parse_of text)
    p_is below c.token-word.ensures.word c.keyword_of.ensures c.token-word.ensures.length wrong left.1 left.2 in
    record { pattern = tt; fault = only_fault text c.next_offset-offset.result (sym t.2); read = sym t.2 }

pub loop-offset-smaller : goal.loop-offset-smaller
loop-offset-smaller c =
    let text = c.args.text.now in
    let p_is = c.next_offset-offset.ensures.offset in
    let p_below : c.next_offset-offset.result < length text = omega arith in
    let below : next_offset text c.loop-offset.offset < length text = subst (λ p. p < length text) p_is p_below in
    let some = subst (λ p. 0 < token_len (drop p text)) (sym p_is) (token_some text c.loop-offset.offset below) in
    let long = c.token-word.ensures.length in
    omega arith

pub loop-offset-preserved : goal.loop-offset-preserved
loop-offset-preserved c =
    let text = c.args.text.now in
    let left = c.loop-offset.invariant.1 in
    let p_is = c.next_offset-offset.ensures.offset in
    let p_below : c.next_offset-offset.result < length text = omega arith in
    let below : next_offset text c.loop-offset.offset < length text = subst (λ p. p < length text) p_is p_below in
    let some = subst (λ p. 0 < token_len (drop p text)) (sym p_is) (token_some text c.loop-offset.offset below) in
    let long = c.token-word.ensures.length in
    let right : Some c.in-Ok-Some-step.next ≡ step_of c.loop-offset.parser c.keyword_of.result c.token-word.result.now = sym c.in-Ok-Some-step.field-0-is ∙ c.in-Ok-Some-step.ensures in
    let t = at_next left.0 text c.loop-offset.offset c.next_offset-offset.result (length c.token-word.result.now) c.token-word.result.now c.keyword_of.result (Some c.in-Ok-Some-step.next) c.loop-offset.parser (length text) (parse_of text)
    p_is below c.token-word.ensures.word c.keyword_of.ensures c.token-word.ensures.length right left.1 left.2 in
    (c.token-word.ensures.within, (t.0, omega arith, t.2))
