-- proofs/field/index_of/Answers.antt
use Rattle.std.proofs.Common.{◌≡◌, ◌∙◌, sym, length, true, get_or, arith}
use Rattle.std.proofs.lemmas.Bool.Decides.{nat_tests}
use Rattle.std.proofs.lemmas.List.Sums.{position_or_len_is}
use Rattle.mt_packet.specs.Header.{is_field, number_of}
use Rattle.mt_packet.specs.declared.field.Field.TheVariants.{Device}
use Rattle.mt_packet.proofs.field.index_of.Goals as goal

pub returns : goal.returns
returns c =
    let all : c.loop-index.index ≡ length c.args.fields.now = omega arith in
    sym all ∙ sym (position_or_len_is (is_field c.args.field) c.args.fields.now c.loop-index.index Device (omega arith) c.loop-index.invariant (λ less. absurd (omega arith)))

pub returns-then-number : goal.returns-then-number
returns-then-number c =
    let same : number_of (get_or c.args.fields.now c.loop-index.index Device) ≡ number_of c.args.field = cc in
    let here : is_field c.args.field (get_or c.args.fields.now c.loop-index.index Device) ≡ true = grind (arith, nat_tests) in
    sym (position_or_len_is (is_field c.args.field) c.args.fields.now c.loop-index.index Device (omega arith) c.loop-index.invariant (λ less. here))
