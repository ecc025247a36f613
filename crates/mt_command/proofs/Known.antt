-- The policy of a command is known.
use Rattle.std.proofs.Common.{◌≡◌, ◌∙◌, sym, ap, ℕ, true, false, ◌||◌, not, nat_lt, List, [], ◌∷◌, length}
use Rattle.std.specs.Prelude.{Option, Some, None, option_map}
use Rattle.mt_lists.proofs.Bools.{or_false, not_false}
use Rattle.mt_lists.specs.Options.{each}
use Rattle.mt_command.specs.Bindings.{binding_of}
use Rattle.mt_command.specs.Command.{run_of, IsCommand}
use Rattle.mt_command.specs.Parts.{BindingView, RunView}
use Rattle.mt_command.specs.Policies.{is_policy}
use Rattle.mt_command.specs.Words.{word_at, is_awaited, operands_before, policy_of, is_cut_short}

ports_said : (words : List (List ℕ)) (ks : List ℕ) (run : RunView) → run_of words ks ≡ Some run → policy_of words ≡ run.ports
ports_said words [] run e = absurd (let never : None ≡ Some run = e in cc)
ports_said words (a ∷ []) run e = absurd (let never : None ≡ Some run = e in cc)
ports_said words (a ∷ b ∷ []) run e = absurd (let never : None ≡ Some run = e in cc)
ports_said words (a ∷ b ∷ c ∷ ks) run e = by (each (λ k. binding_of k (word_at words k)) ks) e
  where
    by : (o : Option (List BindingView))
        → option_map (λ (bs : List BindingView). record { chain = word_at words b; script = word_at words c; bindings = bs; ports = policy_of words }) o ≡ Some run
        → policy_of words ≡ run.ports
    by None q = absurd (let never : None ≡ Some run = q in cc)
    by (Some bs) q =
        let all : record { chain = word_at words b; script = word_at words c; bindings = bs; ports = policy_of words } ≡ run = cc in
        ap (λ (r : RunView). r.ports) all

known_policy : (names words : List (List ℕ)) → is_cut_short names words ≡ false → is_policy names (policy_of words) ≡ true
unfolding is_cut_short
known_policy names words e =
    not_false (is_policy names (policy_of words)) (or_false (nat_lt (length (operands_before words (length words))) 3 || is_awaited words (length words)) (not (is_policy names (policy_of words))) e).1

pub policy_known : (names words : List (List ℕ)) (run : RunView) → IsCommand names words run → is_policy names run.ports ≡ true
policy_known names words run c =
    ap (is_policy names) (sym (ports_said words (operands_before words (length words)) run c.says)) ∙ known_policy names words c.complete
