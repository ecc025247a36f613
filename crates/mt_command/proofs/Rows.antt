-- The definitions on small examples.
use Rattle.std.proofs.Common.{◌≡◌, take, refl, ℕ, Bool, true, false, List, [], ◌∷◌, length, map}
use Rattle.std.specs.Prelude.{codes, position, slice_get, Option, Some, None, Result, Ok, Err}
use Rattle.mt_lists.specs.Options.{each}
use Rattle.mt_command.specs.declared.binding.Side.{Side}
use Rattle.mt_command.specs.declared.binding.Side.TheVariants.{In, Out}
use Rattle.mt_command.specs.Parts.{BindingView, RunView, DeviceView, BoundView}
use Rattle.mt_command.specs.Bindings.{binds_on, is_binding, binding_of}
use Rattle.mt_command.specs.Policies.{is_policy, is_value, is_refused}
use Rattle.mt_command.specs.Words.{below, is_behind, is_awaited, is_operand, policy_at, policies_before, operands_before, is_misplaced, file_in, file_at, is_named, is_wrong, is_at_fault, is_cut_short}
use Rattle.mt_command.specs.Command.{run_of}
use Rattle.mt_command.specs.Devices.{is_unfit, is_unbound, file_for, bound_of}

-- ---- words

-- the first word at fault, or else the number of words where something is missing, or else what they say
abbrev told_with : List (List ℕ) → List (List ℕ) → Result RunView ℕ
told_with names words = first (position (is_at_fault names words) (below (length words)))
  where
    said : Option RunView → Result RunView ℕ
    said (Some run) = Ok run
    said None = Err (length words)

    complete : Bool → Result RunView ℕ
    complete true = Err (length words)
    complete false = said (run_of words (operands_before words (length words)))

    first : Option ℕ → Result RunView ℕ
    first (Some n) = Err n
    first None = complete (is_cut_short names words)

-- the names of the program's policies
abbrev three_names : List (List ℕ)
three_names = codes "low" ∷ codes "high" ∷ codes "spread" ∷ []

abbrev told : List (List ℕ) → Result RunView ℕ
told = told_with three_names

-- words, and the number that is told of them
abbrev at_fault : List (List (List ℕ) × ℕ)
at_fault =
    ([], 0) ∷
    (codes "run" ∷ [], 1) ∷
    (codes "run" ∷ codes "c" ∷ [], 2) ∷
    (codes "run" ∷ codes "c" ∷ codes "--" ∷ [], 3) ∷
    (codes "walk" ∷ codes "c" ∷ codes "s" ∷ [], 0) ∷
    (codes "walk" ∷ codes "-" ∷ codes "-" ∷ [], 0) ∷
    (codes "--x" ∷ codes "run" ∷ [], 0) ∷
    (codes "run" ∷ codes "-" ∷ [], 1) ∷
    (codes "run" ∷ codes "-" ∷ codes "s" ∷ [], 1) ∷
    (codes "run" ∷ codes "--servers=2" ∷ codes "c" ∷ codes "s" ∷ [], 1) ∷
    (codes "run" ∷ codes "c" ∷ codes "-x" ∷ codes "s" ∷ codes "-y" ∷ [], 2) ∷
    (codes "run" ∷ codes "c" ∷ codes "c" ∷ [], 2) ∷
    (codes "run" ∷ codes "c" ∷ codes "s" ∷ codes "a=x" ∷ [], 3) ∷
    (codes "run" ∷ codes "c" ∷ codes "s" ∷ codes "in:a" ∷ [], 3) ∷
    (codes "run" ∷ codes "c" ∷ codes "s" ∷ codes "i=n:a" ∷ [], 3) ∷
    (codes "run" ∷ codes "c" ∷ codes "s" ∷ codes "in:a=c" ∷ [], 3) ∷
    (codes "run" ∷ codes "c" ∷ codes "s" ∷ codes "in:a=x" ∷ codes "out:b=x" ∷ [], 4) ∷
    (codes "run" ∷ codes "--" ∷ codes "c" ∷ codes "-" ∷ [], 3) ∷
    (codes "run" ∷ codes "--" ∷ codes "c" ∷ codes "s" ∷ codes "--" ∷ codes "in:a=x" ∷ [], 4) ∷
    (codes "run" ∷ codes "c" ∷ codes "s" ∷ codes "--" ∷ codes "-" ∷ [], 4) ∷
    (codes "run" ∷ codes "c" ∷ codes "s" ∷ codes "in:a=x" ∷ codes "out:b=y" ∷ codes "--ports" ∷ codes "none" ∷ [], 6) ∷
    (codes "run" ∷ codes "c" ∷ codes "s" ∷ codes "--ports=none" ∷ [], 3) ∷
    (codes "run" ∷ codes "--ports" ∷ codes "c" ∷ codes "s" ∷ [], 2) ∷
    (codes "run" ∷ codes "c" ∷ codes "s" ∷ codes "--ports" ∷ [], 4) ∷
    (codes "run" ∷ codes "c" ∷ codes "--ports" ∷ codes "-low" ∷ codes "s" ∷ [], 3) ∷
    (codes "run" ∷ codes "c" ∷ codes "s" ∷ codes "--ports" ∷ codes "--" ∷ [], 4) ∷
    (codes "run" ∷ codes "c" ∷ codes "s" ∷ codes "--ports=-low" ∷ [], 3) ∷
    (codes "run" ∷ codes "c" ∷ codes "s" ∷ codes "--ports=" ∷ [], 3) ∷
    (codes "run" ∷ codes "c" ∷ codes "s" ∷ codes "--portslow" ∷ [], 3) ∷
    (codes "run" ∷ codes "c" ∷ codes "s" ∷ codes "--ports" ∷ codes "low" ∷ codes "--ports" ∷ codes "high" ∷ [], 5) ∷
    (codes "run" ∷ codes "c" ∷ codes "s" ∷ codes "--ports=low" ∷ codes "--ports" ∷ [], 4) ∷
    (codes "run" ∷ codes "c" ∷ codes "s" ∷ codes "--" ∷ codes "--ports" ∷ codes "low" ∷ [], 4) ∷
    (codes "run" ∷ codes "c" ∷ codes "--ports" ∷ codes "low" ∷ [], 4) ∷
    []

faults : map (λ row. told row.0) at_fault ≡ map (λ row. Err row.1) at_fault
unfolding binds_on is_binding binding_of is_policy is_value is_refused is_behind is_awaited is_operand policy_at policies_before operands_before is_misplaced file_in file_at is_named is_wrong is_at_fault is_cut_short each
faults = refl

abbrev bound : Side → List ℕ → List ℕ → ℕ → BindingView
bound side device file word = record { side = side; device = device; file = file; word = word }

abbrev a_run : List ℕ → List ℕ → List BindingView → RunView
a_run chain script bindings = record { chain = chain; script = script; bindings = bindings; ports = codes "low" }

abbrev with_ports : List ℕ → RunView
with_ports ports = record { chain = codes "c"; script = codes "s"; bindings = []; ports = ports }

-- words, and the command that they are
abbrev fine : List (List (List ℕ) × RunView)
fine =
    (codes "run" ∷ codes "c" ∷ codes "s" ∷ [], a_run (codes "c") (codes "s") ([])) ∷
    (codes "--" ∷ codes "run" ∷ codes "c" ∷ codes "s" ∷ [], a_run (codes "c") (codes "s") ([])) ∷
    (codes "run" ∷ codes "--" ∷ codes "-c" ∷ codes "s" ∷ [], a_run (codes "-c") (codes "s") ([])) ∷
    (codes "run" ∷ codes "c" ∷ codes "s" ∷ codes "in:a=x" ∷ codes "out:b=y" ∷ [], a_run (codes "c") (codes "s") ((bound In (codes "a") (codes "x") 3) ∷ (bound Out (codes "b") (codes "y") 4) ∷ [])) ∷
    (codes "run" ∷ codes "c" ∷ codes "--" ∷ codes "s" ∷ codes "out:a=-x" ∷ [], a_run (codes "c") (codes "s") ((bound Out (codes "a") (codes "-x") 4) ∷ [])) ∷
    (codes "run" ∷ codes "c" ∷ codes "s" ∷ codes "in:a=" ∷ codes "in:=x=y" ∷ [], a_run (codes "c") (codes "s") ((bound In (codes "a") ([]) 3) ∷ (bound In ([]) (codes "x=y") 4) ∷ [])) ∷
    (codes "run" ∷ codes "c" ∷ codes "s" ∷ codes "--ports" ∷ codes "high" ∷ [], with_ports (codes "high")) ∷
    (codes "--ports" ∷ codes "spread" ∷ codes "run" ∷ codes "c" ∷ codes "s" ∷ [], with_ports (codes "spread")) ∷
    (codes "run" ∷ codes "--ports=high" ∷ codes "c" ∷ codes "s" ∷ [], with_ports (codes "high")) ∷
    []

commands : map (λ row. told row.0) fine ≡ map (λ row. Ok row.1) fine
unfolding binds_on is_binding binding_of is_policy is_value is_refused is_behind is_awaited is_operand policy_at policies_before operands_before is_misplaced file_in file_at is_named is_wrong is_at_fault is_cut_short each
commands = refl

-- where no policy has the name of the default, one has to be named
abbrev two_names : List (List ℕ)
two_names = codes "first" ∷ codes "last" ∷ []

no_default : told_with two_names (codes "run" ∷ codes "c" ∷ codes "s" ∷ []) ≡ Err 3
unfolding binds_on is_binding binding_of is_policy is_value is_refused is_behind is_awaited is_operand policy_at policies_before operands_before is_misplaced file_in file_at is_named is_wrong is_at_fault is_cut_short each
no_default = refl

no_default_first_word : told_with two_names (codes "run" ∷ codes "c" ∷ codes "s" ∷ codes "in:a" ∷ []) ≡ Err 3
unfolding binds_on is_binding binding_of is_policy is_value is_refused is_behind is_awaited is_operand policy_at policies_before operands_before is_misplaced file_in file_at is_named is_wrong is_at_fault is_cut_short each
no_default_first_word = refl

another_named : told_with two_names (codes "run" ∷ codes "c" ∷ codes "s" ∷ codes "--ports" ∷ codes "last" ∷ []) ≡ Ok (with_ports (codes "last"))
unfolding binds_on is_binding binding_of is_policy is_value is_refused is_behind is_awaited is_operand policy_at policies_before operands_before is_misplaced file_in file_at is_named is_wrong is_at_fault is_cut_short each
another_named = refl

-- ---- devices

abbrev device : List ℕ → Bool → Bool → DeviceView
device name input output = record { name = name; is_input = input; is_output = output }

-- an input, an output, and one that is both
abbrev three : List DeviceView
three = device (codes "a") true false ∷ device (codes "b") false true ∷ device (codes "c") true true ∷ []

abbrev files : Option (List ℕ) → Option (List ℕ) → BoundView
files input output = record { input = input; output = output }

-- whether each binding is at fault
abbrev unfit : List BindingView → List Bool
unfit bindings = map (λ k. elim (slice_get bindings k) [ Some b ↦ is_unfit three (take k bindings) b | None ↦ false ]) (below (length bindings))

all_bound : map (bound_of (bound In (codes "c") (codes "w") 3 ∷ bound Out (codes "c") (codes "x") 4 ∷ bound In (codes "a") (codes "y") 5 ∷ bound Out (codes "b") (codes "z") 6 ∷ [])) three
    ≡ files (Some (codes "y")) None ∷ files None (Some (codes "z")) ∷ files (Some (codes "w")) (Some (codes "x")) ∷ []
unfolding file_for
all_bound = refl

no_such_side : unfit (bound In (codes "b") (codes "x") 3 ∷ []) ≡ true ∷ []
unfolding is_unfit
no_such_side = refl

no_such_device : unfit (bound Out (codes "b") (codes "x") 3 ∷ bound In (codes "z") (codes "y") 4 ∷ []) ≡ false ∷ true ∷ []
unfolding is_unfit
no_such_device = refl

bound_twice : unfit (bound In (codes "a") (codes "x") 3 ∷ bound In (codes "a") (codes "y") 4 ∷ []) ≡ false ∷ true ∷ []
unfolding is_unfit
bound_twice = refl

no_name : unfit (bound In ([]) (codes "x") 3 ∷ []) ≡ true ∷ []
unfolding is_unfit
no_name = refl

both_sides : unfit (bound In (codes "c") (codes "x") 3 ∷ bound Out (codes "c") (codes "y") 4 ∷ []) ≡ false ∷ false ∷ []
unfolding is_unfit
both_sides = refl

none_bound : position (is_unbound ([])) three ≡ Some 0
unfolding is_unbound
none_bound = refl

first_bound : position (is_unbound (bound In (codes "a") (codes "x") 3 ∷ [])) three ≡ Some 1
unfolding is_unbound
first_bound = refl

output_left : position (is_unbound (bound In (codes "a") (codes "x") 3 ∷ bound Out (codes "b") (codes "y") 4 ∷ bound In (codes "c") (codes "z") 5 ∷ [])) three ≡ Some 2
unfolding is_unbound
output_left = refl

none_left : position (is_unbound (bound In (codes "a") (codes "x") 3 ∷ bound Out (codes "b") (codes "y") 4 ∷ bound In (codes "c") (codes "z") 5 ∷ bound Out (codes "c") (codes "w") 6 ∷ [])) three ≡ None
unfolding is_unbound
none_left = refl
