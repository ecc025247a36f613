-- The line of a place from that of an earlier one.
use Rattle.std.proofs.Common.{◌≡◌, ℕ, ◌+◌, ◌-◌, ◌≤◌, List, take, drop, cond, count_by, sym, ap, ◌∙◌, arith}
use Rattle.std.proofs.Math.Seq.{take-add}
use Rattle.std.proofs.Math.Dec.{eqb}
use Rattle.std.proofs.lemmas.List.Sums.{sum_by-append}
use Rattle.mt_syntax.specs.Position.{line_of}

abbrev pub feeds : List ℕ → ℕ
feeds xs = count_by (λ b. eqb b 10) xs

pub line_more : (text : List ℕ) (known at : ℕ) → known ≤ at → line_of text known + feeds (take (at - known) (drop known text)) ≡ line_of text at
line_more text known at le =
    let n : known + (at - known) ≡ at = omega arith in
    let e = ap (λ k. feeds (take k text)) (sym n) ∙ ap feeds (take-add known (at - known) text) ∙ sum_by-append (λ b. cond (eqb b 10) 1 0) (take known text) (take (at - known) (drop known text)) in
    omega (arith, e)
