-- A run answers what is due.
use Rattle.std.proofs.Common.{◌≡◌, ◌⊎◌, inl, inr, ℕ, zero, suc, ◌+◌, ◌<◌, ◌≤◌, Bool, true, false, List, [], ◌∷◌, length, get_or, Option, Some, None, Ok, Err, refl, sym, ◌∙◌, ap, subst, arith}
use Rattle.std.specs.Prelude.{IfSome, Result, nat_lt, option_map, option_and_then, position, slice_get}
use Rattle.std.proofs.lemmas.Bool.Decides.{nat_tests}
use Rattle.std.proofs.lemmas.Option.{none-some, same_Some, slice_get-get_or, slice_get_within}
use Rattle.mt_lists.specs.Options.{each}
use Rattle.mt_lists.proofs.Positions.{NoneBefore, found, missing}
use Rattle.mt_io.specs.Files.{Rose}
use Rattle.mt_elements.specs.ChainState.{ChainState}
use Rattle.mt_pcap.specs.declared.fault.PcapFault.{PcapFault}
use Rattle.mt_pcap.specs.declared.fault.PcapFault.TheVariants.{BadRecord, Torn}
use Rattle.mt_pcap.specs.Capture.{Capture, is_header_fault}
use Rattle.mt_pcap.specs.Merge as merges
use Rattle.mt_pcap.specs.Merge.{MergedEnd, merge_of}
use Rattle.mt_pcap.specs.Opened.{capture_in, captures_in}
use Rattle.mt_packet.specs.declared.frame.Stamped.{Stamped}
use Rattle.mt_script.specs.Script.{commands_of}
use Rattle.mt_script.specs.declared.command.Command.{Command}
use Rattle.mt_script.specs.declared.fault.ScriptFault.{ScriptFault as ScriptTold}
use Rattle.mt_command.specs.Parts.{RunView, BoundView}
use Rattle.mt_command.specs.Command.{IsCommand, IsFirstAtFault}
use Rattle.mt_command.specs.Devices.{AreBound}
use Rattle.metron.specs.Inputs.{Told, ReadsAs, IsChainRead, IsChainFault, IsScriptRead, ScriptFault, text_limit, devices_of, inputs_of, outputs_of, BeginWell, IsFirstRefused, CaptureFault}
use Rattle.metron.specs.Serving.{Held, OutputFault, fault_of, IsEnd}
use Rattle.metron.specs.Outcome.{Account}
use Rattle.metron.specs.Causes.{Call, State, IsAtChain, IsAtScript, IsAtCaptures, IsUntouched, BindCause, IsRefusal, AllBegin, IsRunOf, IsRun}
use Rattle.metron.specs.Causes.IsRefusal.{no_memory, no_command, chain_refused, not_bound, script_refused}
use Rattle.metron.specs.Causes.IsRunOf.{capture_refused, ended, input_failed, broken_off}
use Rattle.metron.specs.Causes.IsRun.{refused, ran}
use Rattle.metron.specs.Laws.{OneAnswer}
use Rattle.metron.specs.Due.{end_at, or_else, captures_due, OweAll, CommandsOwe, TextOwes, ScriptOwes, ChainOwes, ReadingOwes, ChainTextOwes, IsOwed, IsInterruption, IsExact, IsComplete, NoneFailed, IsFinished, IsEarly}
use Rattle.metron.specs.declared.outcome.FileId.TheVariants as file
use Rattle.metron.specs.declared.outcome.Fault.{Fault}
use Rattle.metron.specs.declared.outcome.Fault.TheVariants.{Done, UsageWord, Unbound, Unbuilt, TooLong, Click, Classes, Script, Capture as CaptureTold, Read, Write, Memory, Frames}
use Rattle.metron.specs.declared.outcome.Fault.TheVariants as fault

-- ---- captures that are told

split : {B : Type 0} (o : Option B) (os : Option (List B)) (ys : List B) → option_and_then (λ y. option_map (λ more. y ∷ more) os) o ≡ Some ys
    → (y : B) × (more : List B) × (o ≡ Some y) × (os ≡ Some more) × (ys ≡ y ∷ more)
split None os ys h = absurd (none-some ys h)
split (Some y) None ys h = absurd (none-some ys h)
split (Some y) (Some more) ys h = (y, more, refl, refl, sym (same_Some (y ∷ more) ys h))

get_of_each : {A B : Type 0} (f : A → Option B) (xs : List A) (ys : List B) (k : ℕ) (x : A) → each f xs ≡ Some ys → slice_get xs k ≡ Some x → f x ≡ slice_get ys k
unfolding each
get_of_each f [] ys k x is at = absurd (none-some x at)
get_of_each f (z ∷ xs) ys zero x is at =
    let parts = split (f z) (each f xs) ys is in
    let same : z ≡ x = same_Some z x at in
    ap f (sym same) ∙ parts.2 ∙ ap (λ l. slice_get l zero) (sym parts.4)
get_of_each f (z ∷ xs) ys (suc k) x is at =
    let parts = split (f z) (each f xs) ys is in
    get_of_each f xs parts.1 k x parts.3 at ∙ ap (λ l. slice_get l (suc k)) (sym parts.4)

length_of_each : {A B : Type 0} (f : A → Option B) (xs : List A) (ys : List B) → each f xs ≡ Some ys → length ys ≡ length xs
unfolding each
length_of_each f [] ys is = ap length (sym (same_Some [] ys is))
length_of_each f (z ∷ xs) ys is = let parts = split (f z) (each f xs) ys is in ap length parts.4 ∙ ap suc (length_of_each f xs parts.1 parts.3)

abbrev is_bad : Capture → Bool
is_bad c = is_header_fault c.end

-- what holds of a capture that is told
told_at : (held : Held) (names : List (List ℕ)) (all : List Capture) (k : ℕ) (name : List ℕ) (P : Capture → Type 0) → captures_in held names ≡ Some all → slice_get names k ≡ Some name → IfSome (capture_in held name) P
    → (c : Capture) → slice_get all k ≡ Some c → P c
told_at held names all k name P is at h c there =
    subst (λ (o : Option Capture). IfSome o P) (get_of_each (capture_in held) names all k name is at ∙ there) h

-- the captures before an index begin well
good_before : (held : Held) (names : List (List ℕ)) (all : List Capture) (n : ℕ) → n ≤ length names → captures_in held names ≡ Some all → BeginWell held names n → NoneBefore is_bad all n
good_before held names all n within is begin k d lt =
    let long : length all ≡ length names = length_of_each (capture_in held) names all is in
    let at : slice_get names k ≡ Some (get_or names k []) = slice_get-get_or names k [] (omega (arith, lt, within)) in
    let there : slice_get all k ≡ Some (get_or all k d) = slice_get-get_or all k d (omega (arith, lt, within, long)) in
    told_at held names all k (get_or names k []) (λ c. is_header_fault c.end ≡ false) is at (begin k (get_or names k []) lt at) (get_or all k d) there

-- ---- what captures owe

module _ (held : Held) (names : List (List ℕ)) (f : Fault) where
  owe_by : (o : Option (List Capture)) → captures_in held names ≡ o → ((all : List Capture) → captures_in held names ≡ Some all → f ≡ captures_due all) → IfSome o (λ all. f ≡ captures_due all)
  owe_by None is h = tt
  owe_by (Some all) is h = h all is

  -- the first header that is at fault
  refused_owe : (device : ℕ) (why : PcapFault) → IsFirstRefused held names device why → f ≡ CaptureTold device why → OweAll held names f
  refused_owe device why r is = owe_by (captures_in held names) refl (λ all told. is ∙ sym (due all told))
    where
      due : (all : List Capture) → captures_in held names ≡ Some all → captures_due all ≡ CaptureTold device why
      due all told =
          let within : r.index < length names = slice_get_within names r.index r.name r.file_is in
          let long : length all ≡ length names = length_of_each (capture_in held) names all told in
          let c : Capture = get_or all r.index (record { records = []; end = None }) in
          let there : slice_get all r.index ≡ Some c = slice_get-get_or all r.index (record { records = []; end = None }) (omega (arith, within, long)) in
          let ends : c.end ≡ Some why = told_at held names all r.index r.name (λ c. c.end ≡ Some why) told r.file_is r.ends c there in
          let first : position is_bad all ≡ Some r.index = found is_bad all r.index c (good_before held names all r.index (omega (arith, within)) told r.first) there (ap is_header_fault ends ∙ r.of_header) in
          ap (λ o. or_else (option_and_then (end_at all) o) (fault_of (merge_of all).end)) first
          ∙ ap (λ o. or_else (option_and_then (λ (c : Capture). option_map (λ w. CaptureTold (r.index + 1) w) c.end) o) (fault_of (merge_of all).end)) there
          ∙ ap (λ o. or_else (option_map (λ w. CaptureTold (r.index + 1) w) o) (fault_of (merge_of all).end)) ends
          ∙ ap (λ n. CaptureTold n why) (sym r.device_is)

  -- or the end of the merge
  ended_owe : (frames : List Stamped) (end : MergedEnd) → AllBegin held names → IfSome (captures_in held names) (λ cs. merge_of cs ≡ record { frames = frames; end = end }) → f ≡ fault_of end → OweAll held names f
  ended_owe frames end begin merged is = owe_by (captures_in held names) refl (λ all told. is ∙ sym (due all told))
    where
      due : (all : List Capture) → captures_in held names ≡ Some all → captures_due all ≡ fault_of end
      due all told =
          let long : length all ≡ length names = length_of_each (capture_in held) names all told in
          let none : position is_bad all ≡ None = missing is_bad all (length names) (sym long) (good_before held names all (length names) (omega arith) told begin) in
          let whole : merge_of all ≡ record { frames = frames; end = end } = subst (λ (o : Option (List Capture)). IfSome o (λ cs. merge_of cs ≡ record { frames = frames; end = end })) told merged in
          ap (λ o. or_else (option_and_then (end_at all) o) (fault_of (merge_of all).end)) none ∙ ap (λ (m : merges.Merge). fault_of m.end) whole

-- ---- what scripts owe

module _ (held : Held) (inputs : List (List ℕ)) (f : Fault) where
  too_long : (text : List ℕ) → text_limit < length text → f ≡ TooLong file.Script → ScriptOwes text held inputs f
  too_long text long is = let test : nat_lt text_limit (length text) ≡ true = grind (arith, nat_tests) in subst (λ (b : Bool). TextOwes b text held inputs f) (sym test) is

  not_too_long : (text : List ℕ) → length text ≤ text_limit → CommandsOwe (commands_of text) held inputs f → ScriptOwes text held inputs f
  not_too_long text short owe = let test : nat_lt text_limit (length text) ≡ false = grind (arith, nat_tests) in subst (λ (b : Bool). TextOwes b text held inputs f) (sym test) owe

module _ (held : Held) (inputs : List (List ℕ)) where
  some_command : (commands : List Command) → 0 < length commands → CommandsOwe (Ok commands) held inputs (Unbuilt file.Script)
  some_command [] some = absurd (omega (arith, some))
  some_command (command ∷ more) some = refl

  idle_owes : (f : Fault) (script : Told) → IsScriptRead script → OweAll held inputs f → IfSome script (λ text. ScriptOwes text held inputs f)
  idle_owes f None idle owe = tt
  idle_owes f (Some text) idle owe =
      not_too_long held inputs f text idle.0 (subst (λ (r : Result (List Command) ScriptTold). CommandsOwe r held inputs f) (sym idle.1) owe)

  module _ (J : Fault → Type 0) (memory : J Memory) where
    script_owes : (f : Fault) (script : Told) (before after : ℕ) → (Rose before after → J (Read file.Script)) → ScriptFault script before after f → IfSome script (λ text. ScriptOwes text held inputs f) ⊎ J f
    script_owes (TooLong file.Script) None before after read why = inl tt
    script_owes (TooLong file.Script) (Some text) before after read why = inl (too_long held inputs (TooLong file.Script) text why refl)
    script_owes (Script told) None before after read why = inl tt
    script_owes (Script told) (Some text) before after read why =
        inl (not_too_long held inputs (Script told) text why.0 (subst (λ (r : Result (List Command) ScriptTold). CommandsOwe r held inputs (Script told)) (sym why.1) refl))
    script_owes (Unbuilt file.Script) None before after read why = inl tt
    script_owes (Unbuilt file.Script) (Some text) before after read why =
        inl (not_too_long held inputs (Unbuilt file.Script) text why.short (subst (λ (r : Result (List Command) ScriptTold). CommandsOwe r held inputs (Unbuilt file.Script)) (sym why.are) (some_command why.commands why.some)))
    script_owes (Read file.Script) script before after read why = inr (read why)
    script_owes Memory script before after read why = inr memory
    script_owes f script before after read why = absurd why

-- ---- what chains owe

-- what a text owes, where it is told
abbrev Owes : Told → RunView → Held → Fault → Type 0
Owes told c held f = IfSome told (λ text. ChainTextOwes text c held f)

-- what one reading owes, every reading does
reading_owes : OneAnswer → (c : RunView) (held : Held) (f : Fault) (text : List ℕ) (reading : Result ChainState Fault) → ReadsAs text reading → ReadingOwes reading c held f → ChainTextOwes text c held f
reading_owes laws c held f text reading reads owes = record {
  is_read = (reading, reads);
  owes = λ other so. subst (λ (r : Result ChainState Fault). ReadingOwes r c held f) (laws.reading text reading other reads so) owes;
}

chain_owes : OneAnswer → (c : RunView) (held : Held) (f : Fault) (chain : ChainState) (told : Told) → IsChainRead told chain → ChainOwes chain c held f → Owes told c held f
chain_owes laws c held f chain None read owes = tt
chain_owes laws c held f chain (Some text) read owes = reading_owes laws c held f text (Ok chain) (read.0, read.1) owes

module _ (laws : OneAnswer) (c : RunView) (chain : ChainState) (held : Held) where
  -- its devices have these files
  bound_owes : (f : Fault) (bound : List BoundView) → AreBound c.bindings (devices_of chain) bound → IfSome (held c.script) (λ text. ScriptOwes text held (inputs_of chain bound) f) → ChainOwes chain c held f
  bound_owes f bound are owes = record {
    unfit = λ n u. absurd (laws.not_unfit c.bindings (devices_of chain) n bound u are);
    unbound = λ n u. absurd (laws.not_unbound c.bindings (devices_of chain) n bound u are);
    are_bound = λ other others. subst (λ (b : List BoundView). IfSome (held c.script) (λ text. ScriptOwes text held (inputs_of chain b) f)) (laws.bound c.bindings (devices_of chain) bound other are others) owes;
  }

  unbound_owes : (J : Fault → Type 0) → J Memory → (f : Fault) → BindCause c.bindings (devices_of chain) f → ChainOwes chain c held f ⊎ J f
  unbound_owes J memory (UsageWord n) why = inl (record {
    unfit = λ m u. ap UsageWord (laws.unfit c.bindings (devices_of chain) n m why u);
    unbound = λ m u. absurd (laws.not_unfit_unbound c.bindings (devices_of chain) n m why u);
    are_bound = λ bound are. absurd (laws.not_unfit c.bindings (devices_of chain) n bound why are);
  })
  unbound_owes J memory (Unbound n) why = inl (record {
    unfit = λ m u. absurd (laws.not_unfit_unbound c.bindings (devices_of chain) m n u why);
    unbound = λ m u. ap Unbound (laws.unbound c.bindings (devices_of chain) n m why u);
    are_bound = λ bound are. absurd (laws.not_unbound c.bindings (devices_of chain) n bound why are);
  })
  unbound_owes J memory Memory why = inr memory
  unbound_owes J memory f why = absurd why

chain_fault : OneAnswer → (c : RunView) (held : Held) (J : Fault → Type 0) → J Memory → (told : Told) (before after : ℕ) (f : Fault) → (Rose before after → J (Read file.Chain)) → IsChainFault told before after f → Owes told c held f ⊎ J f
chain_fault laws c held J memory None before after (TooLong file.Chain) read why = inl tt
chain_fault laws c held J memory None before after (Click told) read why = inl tt
chain_fault laws c held J memory None before after (fault.Chain told) read why = inl tt
chain_fault laws c held J memory None before after (Classes count) read why = inl tt
chain_fault laws c held J memory (Some text) before after (TooLong file.Chain) read why = inl (reading_owes laws c held (TooLong file.Chain) text (Err (TooLong file.Chain)) why refl)
chain_fault laws c held J memory (Some text) before after (Click told) read why = inl (reading_owes laws c held (Click told) text (Err (Click told)) why refl)
chain_fault laws c held J memory (Some text) before after (fault.Chain told) read why = inl (reading_owes laws c held (fault.Chain told) text (Err (fault.Chain told)) why refl)
chain_fault laws c held J memory (Some text) before after (Classes count) read why = inl (reading_owes laws c held (Classes count) text (Err (Classes count)) why refl)
chain_fault laws c held J memory told before after (Read file.Chain) read why = inr (read why)
chain_fault laws c held J memory told before after Memory read why = inr memory
chain_fault laws c held J memory told before after f read why = absurd why

-- ---- whole runs

module _ (laws : OneAnswer) (call : Call) (old new : State) (c : RunView) (is : IsCommand call.policies call.words c) where
  abbrev Or : Fault → Type 0
  Or f = IsOwed c old.held f ⊎ IsInterruption call c old new f

  either : (A B J : Type 0) → (A → B) → A ⊎ J → B ⊎ J
  either A B J f h = elim h [
    | inl a ↦ inl (f a)
    | inr j ↦ inr j
  ]

  -- from a chain that was read
  read_so : (f : Fault) (chain : ChainState) → IsAtChain call old.held c chain → ChainOwes chain c old.held f ⊎ IsInterruption call c old new f → Or f
  read_so f chain stands h = either _ _ _ (chain_owes laws c old.held f chain (old.held c.chain) stands.chain_is) h

  bound_so : (f : Fault) (chain : ChainState) (bound : List BoundView) → IsAtScript call old.held c chain bound
      → IfSome (old.held c.script) (λ text. ScriptOwes text old.held (inputs_of chain bound) f) ⊎ IsInterruption call c old new f → Or f
  bound_so f chain bound stands h = read_so f chain stands.before (either _ _ _ (bound_owes laws c chain old.held f bound stands.are_bound) h)

  idle_so : (f : Fault) (chain : ChainState) (bound : List BoundView) → IsAtCaptures call old.held c chain bound → OweAll old.held (inputs_of chain bound) f ⊎ IsInterruption call c old new f → Or f
  idle_so f chain bound stands h = bound_so f chain bound stands.before (either _ _ _ (idle_owes old.held (inputs_of chain bound) f (old.held c.script) stands.script) h)

  output_so : (f : Fault) (chain : ChainState) (bound : List BoundView) → IsAtScript call old.held c chain bound → OutputFault (outputs_of bound) old.failed_writes new.failed_writes f → IsInterruption call c old new f
  output_so (Write (file.Output device)) chain bound stands why = (chain, bound, stands, why)
  output_so Memory chain bound stands why = tt
  output_so f chain bound stands why = absurd why

  capture_so : (f : Fault) (chain : ChainState) (bound : List BoundView) → IsAtScript call old.held c chain bound → CaptureFault old.held (inputs_of chain bound) old.failed_reads new.failed_reads f
      → OweAll old.held (inputs_of chain bound) f ⊎ IsInterruption call c old new f
  capture_so (CaptureTold device why) chain bound stands h = inl (refused_owe old.held (inputs_of chain bound) (CaptureTold device why) device why h refl)
  capture_so (Read (file.Capture device)) chain bound stands h = inr (chain, bound, stands, h)
  capture_so Memory chain bound stands h = inr tt
  capture_so f chain bound stands h = absurd h

  run_so : (f : Fault) (account : Account) (chain : ChainState) (bound : List BoundView) → IsAtCaptures call old.held c chain bound → IsRunOf chain bound old new account f
      → OweAll old.held (inputs_of chain bound) f ⊎ IsInterruption call c old new f
  run_so f account chain bound stands (capture_refused why u) = capture_so f chain bound stands.before why
  run_so f account chain bound stands (ended frames fates end begin merged sound is run classes wrote) = inl (ended_owe old.held (inputs_of chain bound) f frames end begin merged is)
  run_so f account chain bound stands (input_failed frames fates device begin front is rose run classes wrote) =
      inr (subst (λ g. IsInterruption call c old new g) (sym is) (chain, bound, stands.before, rose))
  run_so f account chain bound stands (broken_off frames fates begin front why run classes wrote) = inr (output_so f chain bound stands.before why)

  same_command : (d : RunView) → IsCommand call.policies call.words d → d ≡ c
  same_command d other = laws.command call d c other is

  refusal_so : (f : Fault) → IsRefusal call old new f → Or f
  refusal_so f (no_memory memory) = inr (subst (λ g. IsInterruption call c old new g) (sym memory) tt)
  refusal_so f (no_command n first usage) = absurd (laws.not_both call n c first is)
  refusal_so f (chain_refused d other why) =
      chain_fault laws c old.held (λ g. IsInterruption call c old new g) tt (old.held c.chain) (old.failed_reads c.chain) (new.failed_reads c.chain) f (λ rose. rose)
      (subst (λ (e : RunView). IsChainFault (old.held e.chain) (old.failed_reads e.chain) (new.failed_reads e.chain) f) (same_command d other) why)
  refusal_so f (not_bound d chain stands why) =
      let same = same_command d stands.words_are in
      read_so f chain (subst (λ (e : RunView). IsAtChain call old.held e chain) same stands)
      (unbound_owes laws c chain old.held (λ g. IsInterruption call c old new g) tt f (subst (λ (e : RunView). BindCause e.bindings (devices_of chain) f) same why))
  refusal_so f (script_refused d chain bound stands why) =
      let same = same_command d stands.before.words_are in
      bound_so f chain bound (subst (λ (e : RunView). IsAtScript call old.held e chain bound) same stands)
      (script_owes old.held (inputs_of chain bound) (λ g. IsInterruption call c old new g) tt f (old.held c.script) (old.failed_reads c.script) (new.failed_reads c.script) (λ rose. rose)
      (subst (λ (e : RunView). ScriptFault (old.held e.script) (old.failed_reads e.script) (new.failed_reads e.script) f) same why))

  pub command_so : (f : Fault) (account : Account) → IsRun call old new account f → Or f
  command_so f account (refused why u) = refusal_so f why
  command_so f account (ran d chain bound stands run) =
      let same = same_command d stands.before.before.words_are in
      let here : IsAtCaptures call old.held c chain bound = subst (λ (e : RunView). IsAtCaptures call old.held e chain bound) same stands in
      idle_so f chain bound here (run_so f account chain bound here run)

module _ (laws : OneAnswer) (call : Call) (old new : State) where
  usage_so : (f : Fault) (account : Account) (n : ℕ) → IsFirstAtFault call.policies call.words n → IsRun call old new account f → (f ≡ UsageWord n) ⊎ (f ≡ Memory)
  usage_so f account n first (refused (no_memory memory) u) = inr memory
  usage_so f account n first (refused (no_command m other is) u) = inl (is ∙ ap UsageWord (laws.first call m n other first))
  usage_so f account n first (refused (chain_refused c is why) u) = absurd (laws.not_both call n c first is)
  usage_so f account n first (refused (not_bound c chain stands why) u) = absurd (laws.not_both call n c first stands.words_are)
  usage_so f account n first (refused (script_refused c chain bound stands why) u) = absurd (laws.not_both call n c first stands.before.words_are)
  usage_so f account n first (ran c chain bound stands run) = absurd (laws.not_both call n c first stands.before.before.words_are)

  pub exact : (f : Fault) (account : Account) → IsRun call old new account f → IsExact call old new f
  exact f account run = record {
    usage = λ n first. usage_so f account n first run;
    command = λ c is. command_so laws call old new c is f account run;
  }

  -- without a failed file there is no interruption but want of memory
  none_rose : (c : RunView) → NoneFailed old new → (f : Fault) → IsInterruption call c old new f → f ≡ Memory
  none_rose c none (Read file.Chain) h = absurd (none.reads c.chain h)
  none_rose c none (Read file.Script) h = absurd (none.reads c.script h)
  none_rose c none (Read (file.Capture device)) h = absurd (none.reads h.3.name h.3.rose)
  none_rose c none (Write (file.Output device)) h = absurd (none.writes h.3.name h.3.rose)
  none_rose c none Memory h = refl
  none_rose c none f h = absurd h

  pub complete : (f : Fault) → IsExact call old new f → NoneFailed old new → IsComplete call old.held f
  complete f exact none = record {
    usage = exact.usage;
    command = λ c is. elim (exact.command c is) [
      | inl owed ↦ inl owed
      | inr interrupted ↦ inr (none_rose c none f interrupted)
    ];
  }

-- ---- runs that are done, and runs that end early

refusal_not_done : (call : Call) (old new : State) → IsRefusal call old new Done → ⊥
refusal_not_done call old new (no_memory is) = cc
refusal_not_done call old new (no_command n first is) = cc
refusal_not_done call old new (chain_refused c is why) = why
refusal_not_done call old new (not_bound c chain stands why) = why
refusal_not_done call old new (script_refused c chain bound stands why) = why

end_done : (end : MergedEnd) → Done ≡ fault_of end → end ≡ merges.Done
end_done merges.Done is = refl
end_done (merges.Fault device why) is = cc
end_done (merges.Frames count) is = cc

done_so : (call : Call) (old new : State) (account : Account) → IsRun call old new account Done → IsFinished call old new account
done_so call old new account (refused why u) = absurd (refusal_not_done call old new why)
done_so call old new account (ran c chain bound stands (capture_refused why u)) = absurd why
done_so call old new account (ran c chain bound stands (ended frames fates end begin merged sound is run classes wrote)) = record {
  command = c;
  chain = chain;
  bound = bound;
  stands = stands;
  frames = frames;
  merged = subst (λ (e : MergedEnd). IfSome (captures_in old.held (inputs_of chain bound)) (λ cs. merge_of cs ≡ record { frames = frames; end = e })) (end_done end is) merged;
  fates = fates;
  run = run;
  classes = classes;
  wrote = wrote;
}
done_so call old new account (ran c chain bound stands (input_failed frames fates device begin front is rose run classes wrote)) = cc
done_so call old new account (ran c chain bound stands (broken_off frames fates begin front why run classes wrote)) = absurd why

pub finished : (call : Call) (old new : State) (account : Account) (f : Fault) → IsRun call old new account f → f ≡ Done → IsFinished call old new account
finished call old new account f run done = done_so call old new account (subst (λ g. IsRun call old new account g) done run)

record_is_late : (why : PcapFault) (device : ℕ) → IsEnd (merges.Fault device why) → is_header_fault (Some why) ≡ true → ⊥
record_is_late (BadRecord offset) device sound early = cc
record_is_late (Torn offset) device sound early = cc
record_is_late why device sound early = sound

late_end : (end : MergedEnd) → IsEnd end → IsEarly (fault_of end) → ⊥
late_end merges.Done sound early = early
late_end (merges.Fault device why) sound early = record_is_late why device sound early
late_end (merges.Frames count) sound early = early

late_output : (outputs : List Told) (old new : List ℕ → ℕ) (f : Fault) → OutputFault outputs old new f → IsEarly f → ⊥
late_output outputs old new (Write (file.Output device)) why early = early
late_output outputs old new Memory why early = early
late_output outputs old new f why early = why

pub early : (call : Call) (old new : State) (account : Account) (f : Fault) → IsRun call old new account f → IsEarly f → IsUntouched old new account
early call old new account f (refused why u) e = u
early call old new account f (ran c chain bound stands (capture_refused why u)) e = u
early call old new account f (ran c chain bound stands (ended frames fates end begin merged sound is run classes wrote)) e = absurd (late_end end sound (subst IsEarly is e))
early call old new account f (ran c chain bound stands (input_failed frames fates device begin front is rose run classes wrote)) e = absurd (subst IsEarly is e)
early call old new account f (ran c chain bound stands (broken_off frames fates begin front why run classes wrote)) e = absurd (late_output (outputs_of bound) old.failed_writes new.failed_writes f why e)

pub moved : (call : Call) (old new : State) (account account' : Account) (f f' : Fault) → f' ≡ f → account' ≡ account → IsRun call old new account f → IsRun call old new account' f'
moved call old new account account' f f' same same_account run =
    subst (λ g. IsRun call old new account' g) (sym same) (subst (λ (a : Account). IsRun call old new a f) (sym same_account) run)
