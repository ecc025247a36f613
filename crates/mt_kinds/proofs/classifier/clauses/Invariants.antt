use Rattle.std.proofs.Common.{◌≡◌, ◌++◌, drop}
use Rattle.std.specs.Prelude.{option_map}
use Rattle.mt_lists.specs.Options.{each}
use Rattle.mt_kinds.specs.Patterns.{clause_of}
use Rattle.mt_kinds.proofs.classifier.clauses.Given as goal

abbrev pub invariant-loop-word : goal.invariant-loop-word
invariant-loop-word l = each (λ word. clause_of word.now) l.words ≡ option_map (λ more. l.clauses.items ++ more) (each (λ word. clause_of word.now) (drop l.word-index l.words))
