use Rattle.std.proofs.Common.{ℕ, List, [], arith, sym, ◌∙◌}
use denote.Ref.{Bor}
use Rattle.mt_lists.specs.Options.{each}
use Rattle.mt_kinds.specs.Patterns.{clause_of}
use Rattle.mt_lists.proofs.Each.{each_begins, each_more, each_stops, each_done, each-map}
use Rattle.mt_kinds.proofs.classifier.clauses.Goals as goal

pub loop-word-init : goal.loop-word-init
loop-word-init c = each_begins (λ word. clause_of word.now) c.args.words.now c.new-clauses.result.items c.new-clauses.ensures.items

pub returns-in-None : goal.returns-in-None
returns-in-None c =
    let f = λ (word : Bor (List ℕ)). clause_of word.now in
    each_stops f c.args.words.now c.loop-word.word-index (record { ref_ptr = (0, 0); now = [] }) c.loop-word.clauses.items (each f c.args.words.now) c.loop-word-test.true c.in-None.ensures c.loop-word.invariant
    ∙ sym (each-map clause_of (λ word. word.now) c.args.words.now)

pub loop-word-preserved : goal.loop-word-preserved
loop-word-preserved c =
    let f = λ (word : Bor (List ℕ)). clause_of word.now in
    each_more f c.args.words.now c.loop-word.word-index (record { ref_ptr = (0, 0); now = [] }) c.in-Some.found c.loop-word.clauses.items c.push.new.self.items (each f c.args.words.now) c.loop-word-test.true c.in-Some.ensures c.in_ok-push-in-Some.ensures.items c.loop-word.invariant

pub returns : goal.returns
returns c =
    let f = λ (word : Bor (List ℕ)). clause_of word.now in
    each_done f c.args.words.now c.loop-word.word-index c.loop-word.clauses.items (each f c.args.words.now) (omega arith) c.loop-word.invariant
    ∙ sym (each-map clause_of (λ word. word.now) c.args.words.now)
