-- Each goal is a step of what has been read.
use Rattle.std.proofs.Common.{◌∙◌, sym, ap, ◌<◌, length, map, arith}
use Rattle.std.specs.Prelude.{option_map}
use Rattle.std.specs.String.{string_bytes}
use Rattle.std.proofs.lemmas.List.{length-map}
use Rattle.mt_command.specs.Reading.{kind_of, said_by, valued}
use Rattle.mt_command.proofs.Steps.{read_dashes, read_value, value_at_fault, read_option, option_at_fault}
use Rattle.mt_command.proofs.Taken.{operand_taken}
use Rattle.mt_command.proofs.reader.Reader.take.Goals as goal
use Rattle.mt_command.proofs.reader.Reader.take.Goals.{in-Value, in-Option}

pub returns-in-Dashes : goal.returns-in-Dashes
returns-in-Dashes c =
    let within : c.args.number < length (map string_bytes c.args.words.now) = (let same = length-map c.args.words.now string_bytes in let less = c.requires.within in omega (arith, same, less)) in
    read_dashes _ _ _ _ _ _ _ _ _ c.requires.read within c.word_of-word.ensures
    (ap (λ b. kind_of b c.args.self.now.behind c.word_of-word.result.now) (sym c.awaits_value.ensures) ∙ sym c.kind_of.ensures ∙ c.in-Dashes.is)

pub returns-in-Operand : goal.returns-in-Operand
returns-in-Operand c =
    let within : c.args.number < length (map string_bytes c.args.words.now) = (let same = length-map c.args.words.now string_bytes in let less = c.requires.within in omega (arith, same, less)) in
    operand_taken _ _ _ c.args.self.now _ c.requires.read within c.word_of-word.ensures
    (ap (λ b. kind_of b c.args.self.now.behind c.word_of-word.result.now) (sym c.awaits_value.ensures) ∙ sym c.kind_of.ensures ∙ c.in-Operand.is)
    c.add.new.self c.add.result c.add.ensures.right c.add.ensures.added c.add.ensures.named c.add.ensures.bound

pub returns-in-Some : goal.returns-in-Some
returns-in-Some c =
    let within : c.args.number < length (map string_bytes c.args.words.now) = (let same = length-map c.args.words.now string_bytes in let less = c.requires.within in omega (arith, same, less)) in
    elim c.match-kind_of.branch [
      | in-Value w ↦ read_value _ _ _ _ _ _ _ _ _ c.requires.read within c.word_of-word.ensures
          (ap (λ b. kind_of b c.args.self.now.behind c.word_of-word.result.now) (sym c.awaits_value.ensures) ∙ sym c.kind_of.ensures ∙ w.in-Value.is)
          (said_by c.in-Some.ports) (ap (valued (map (λ name. name.now) c.args.names.now)) (sym w.as_bytes.ensures.value) ∙ sym w.valued-said.ensures ∙ ap (option_map said_by) (sym w.said-is ∙ c.in-Some.is))
      | in-Option w ↦ read_option _ _ _ _ _ _ _ _ _ c.requires.read within c.word_of-word.ensures
          (ap (λ b. kind_of b c.args.self.now.behind c.word_of-word.result.now) (sym c.awaits_value.ensures) ∙ sym c.kind_of.ensures ∙ w.in-Option.is)
          (said_by c.in-Some.ports) (sym w.option-said.ensures ∙ ap (option_map said_by) (sym w.said-is ∙ c.in-Some.is))
    ]

pub returns-in-None : goal.returns-in-None
returns-in-None c =
    let within : c.args.number < length (map string_bytes c.args.words.now) = (let same = length-map c.args.words.now string_bytes in let less = c.requires.within in omega (arith, same, less)) in
    elim c.match-kind_of.branch [
      | in-Value w ↦ value_at_fault _ _ _ _ _ _ _ _ _ c.requires.read within c.word_of-word.ensures
          (ap (λ b. kind_of b c.args.self.now.behind c.word_of-word.result.now) (sym c.awaits_value.ensures) ∙ sym c.kind_of.ensures ∙ w.in-Value.is)
          (ap (valued (map (λ name. name.now) c.args.names.now)) (sym w.as_bytes.ensures.value) ∙ sym w.valued-said.ensures ∙ ap (option_map said_by) (sym w.said-is ∙ c.in-None.is))
      | in-Option w ↦ option_at_fault _ _ _ _ _ _ _ _ _ c.requires.read within c.word_of-word.ensures
          (ap (λ b. kind_of b c.args.self.now.behind c.word_of-word.result.now) (sym c.awaits_value.ensures) ∙ sym c.kind_of.ensures ∙ w.in-Option.is)
          (sym w.option-said.ensures ∙ ap (option_map said_by) (sym w.said-is ∙ c.in-None.is))
    ]
