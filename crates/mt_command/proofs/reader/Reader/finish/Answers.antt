-- All words are read.
use Rattle.std.proofs.Common.{◌∙◌, refl, sym, ap, length, map, get_or, arith}
use Rattle.std.specs.Prelude.{option_map}
use Rattle.std.specs.String.{string_bytes}
use Rattle.std.proofs.lemmas.List.{length-map}
use Rattle.mt_command.specs.Words.{word_at}
use Rattle.mt_command.proofs.Ends.{operand_below, few_operands, no_policy, command_read}
use Rattle.mt_command.proofs.reader.Reader.finish.Goals as goal

pub returns-in_default-clause-missing : goal.returns-in_default-clause-missing
returns-in_default-clause-missing c =
    few_operands _ _ _ _ _ _ _ _ (let same = length-map c.args.words.now string_bytes in omega (arith, same)) c.requires.read
    (let few = c.in_default.len_below in let l = ap length c.as_slice.ensures.value in omega (arith, few, l))

pub returns-in_default-policy-clause-missing : goal.returns-in_default-policy-clause-missing
returns-in_default-policy-clause-missing c =
    no_policy _ _ _ _ _ _ _ _ (let same = length-map c.args.words.now string_bytes in omega (arith, same)) c.requires.read
    (sym c.policy.ensures ∙ ap (option_map (λ name. name.now)) c.in_default-policy.is)

pub word_of-requires : goal.word_of-requires
word_of-requires c =
    let same = length-map c.args.words.now string_bytes in
    let many = c.in-len3-up.len_at_least in
    let below = operand_below (map string_bytes c.args.words.now) (length c.args.words.now) c.as_slice.result.now (omega (arith, same)) (c.as_slice.ensures.value ∙ c.requires.read.operands) 1 (omega (arith, many)) in
    omega (arith, same, below)

pub word_of-requires-2 : goal.word_of-requires-2
word_of-requires-2 c =
    let same = length-map c.args.words.now string_bytes in
    let many = c.in-len3-up.len_at_least in
    let below = operand_below (map string_bytes c.args.words.now) (length c.args.words.now) c.as_slice.result.now (omega (arith, same)) (c.as_slice.ensures.value ∙ c.requires.read.operands) 2 (omega (arith, many)) in
    omega (arith, same, below)

pub returns-clause-command : goal.returns-clause-command
returns-clause-command c =
    let many = c.in-len3-up.len_at_least in
    let numbers = c.as_slice.ensures.value in
    command_read _ _ _ _ _ _ _ _ (let same = length-map c.args.words.now string_bytes in omega (arith, same)) c.requires.read _
    (let l = ap length numbers in omega (arith, many, l))
    (sym c.policy.ensures ∙ ap (option_map (λ name. name.now)) c.in-Some.is)
    (c.word_of.ensures ∙ ap (λ n. word_at (map string_bytes c.args.words.now) n) (ap (λ l. get_or l 1 0) numbers))
    (c.word_of-2.ensures ∙ ap (λ n. word_at (map string_bytes c.args.words.now) n) (ap (λ l. get_or l 2 0) numbers))
    refl
