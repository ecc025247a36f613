use Rattle.std.proofs.Common.{◌≡◌, List, ℕ, ◌++◌, take, drop, sym, ap, ◌∙◌, rules}
use Rattle.std.proofs.lemmas.List.{append_assoc, take-append-drop, take_rest}
use Rattle.mt_io.specs.Laws.{gains_twice}
use Rattle.mt_io.proofs.copy.write_all.Goals as goal

-- one more front of the piece was gained
pub loop-count-preserved : goal.loop-count-preserved
loop-count-preserved g c =
    let kept = c.loop-count.invariant in
    let rest = c.loop-count.rest.now in
    let front = kept.gained.0 in
    let split : c.args.piece.now ≡ (front ++ take c.in_ok-count.count rest) ++ drop c.in_ok-count.count rest =
    kept.gained.1 ∙ ap (λ (l : List ℕ). front ++ l) (sym (take-append-drop c.in_ok-count.count rest)) ∙ sym (append_assoc front (take c.in_ok-count.count rest) (drop c.in_ok-count.count rest)) in
    record {
      gained = (front ++ take c.in_ok-count.count rest, rw take_rest split, gains_twice _ _ _ _ _ kept.gained.2 c.in_ok-count.ensures.gained);
      other_files = search rules;
      held = search rules;
      read_faults = search rules;
      write_faults = search rules;
    }
