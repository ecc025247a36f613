-- A run through buffers, all of whose bytes were written or some of which are pending.
use Rattle.std.proofs.Common.{◌≡◌, inl, inr, ℕ, ◌≤◌, List, [], Option, Some, None, refl, sym, ◌∙◌, ap, subst}
use Rattle.std.specs.Prelude.{IsSomeAnd, slice_get}
use Rattle.std.proofs.lemmas.Option.{none-some}
use Rattle.mt_io.specs.Files.{Rose, IsSame, NeverFell}
use Rattle.mt_io.specs.Laws.{then_rose}
use Rattle.mt_command.specs.Parts.{RunView}
use Rattle.metron.specs.Inputs.{Told}
use Rattle.metron.specs.Serving.{Held, Outputs}
use Rattle.metron.specs.Outcome.{Account}
use Rattle.metron.specs.Causes.{Call, State, IsUntouched, IsRun}
use Rattle.metron.specs.Laws.{OneAnswer}
use Rattle.metron.specs.Due.{IsInterruption, IsExact, IsComplete, NoneFailed, IsFinished, IsEarly}
use Rattle.metron.specs.Finish.{AreOutputs, FinishFault, UnwrittenCause, NoneFell, IsServed}
use Rattle.metron.specs.Finish.IsServed.{all_written, some_pending}
use Rattle.metron.specs.declared.outcome.FileId.TheVariants as file
use Rattle.metron.specs.declared.outcome.Fault.{Fault}
use Rattle.metron.specs.declared.outcome.Fault.TheVariants.{Done, Write, Memory}
use Rattle.metron.proofs.Stages.{later}
use Rattle.metron.proofs.Exact as exactly

-- ---- bytes that are still pending

rose_at : (first : Option (List ℕ)) (name : List ℕ) (P : List ℕ → Type 0) → first ≡ Some name → IsSomeAnd first P → P name
rose_at None name P is h = absurd (none-some name is)
rose_at (Some other) name P is h = let same : other ≡ name = cc in subst P same h

none_there : {X : Type 0} (xs : List (Option X)) (index : ℕ) (x : X) → xs ≡ [] → slice_get xs index ≡ Some (Some x) → ⊥
none_there xs index x empty at = absurd (none-some (Some x) (ap (λ l. slice_get l index) (sym empty) ∙ at))

-- the file is that of a device of the command, or it is not known
pub finish_fault : (call : Call) (old new : State) (c : RunView) (fault : Fault) (outputs : Outputs) (unwritten : Told)
    → AreOutputs call old.held c outputs → IsSomeAnd unwritten (λ name. Rose (old.failed_writes name) (new.failed_writes name)) → UnwrittenCause outputs unwritten fault → FinishFault call old new c fault
finish_fault call old new c (Write (file.Output device)) outputs unwritten are rose why = elim are [
  | inl empty ↦ absurd (none_there outputs why.0 why.1 empty why.3)
  | inr is ↦ (
    is.0,
    is.1,
    is.2,
    record {
      index = why.0;
      name = why.1;
      device_is = why.2;
      file_is = ap (λ (l : Outputs). slice_get l why.0) (sym is.3) ∙ why.3;
      rose = rose_at unwritten why.1 (λ name. Rose (old.failed_writes name) (new.failed_writes name)) why.4 rose;
    },
  )
]
finish_fault call old new c Memory outputs unwritten are rose why = tt
finish_fault call old new c fault outputs unwritten are rose why = absurd why

-- what a failed finish says of the counts, from before the run on
pub rose_since : (first : Option (List ℕ)) (old middle last new : List ℕ → ℕ) → NeverFell old middle → IsSame last new
    → IsSomeAnd first (λ name. Rose (middle name) (last name)) → IsSomeAnd first (λ name. Rose (old name) (new name))
rose_since None old middle last new kept end h = h
rose_since (Some name) old middle last new kept end h = then_rose (old name) (middle name) (new name) (kept name) (subst (λ n. Rose (middle name) n) (sym (end name)) h)

pub same_then_fell : (old begun new : List ℕ → ℕ) → IsSame old begun → NeverFell begun new → NeverFell old new
same_then_fell old begun new same kept name = subst (λ n. n ≤ new name) (same name) (kept name)

pub fell_then_same : (old middle new : List ℕ → ℕ) → NeverFell old middle → IsSame middle new → NeverFell old new
fell_then_same old middle new kept same name = subst (λ n. old name ≤ n) (sym (same name)) (kept name)

pub outputs_from : (call : Call) (held begun : Held) (c : RunView) (outputs : Outputs) → IsSame held begun → AreOutputs call begun c outputs → AreOutputs call held c outputs
outputs_from call held begun c outputs same are = subst (λ (h : Held). AreOutputs call h c outputs) (λ i n. same n i) are

-- ---- what follows

finish_interrupts : (call : Call) (old new : State) (c : RunView) (fault : Fault) → FinishFault call old new c fault → IsInterruption call c old new fault
finish_interrupts call old new c (Write (file.Output device)) why = why
finish_interrupts call old new c Memory why = tt
finish_interrupts call old new c fault why = absurd why

finish_late : (call : Call) (old new : State) (c : RunView) (fault : Fault) → FinishFault call old new c fault → IsEarly fault → ⊥
finish_late call old new c (Write (file.Output device)) why early = early
finish_late call old new c Memory why early = early
finish_late call old new c fault why early = why

-- the run as of the state at the end, but for what is held
since : (call : Call) (old told new : State) (account : Account) (fault : Fault) → IsRun call old told account fault → IsSame told.written new.written → NoneFell told new
    → IsRun call old (record new { held = told.held }) account fault
since call old told new account fault run written fell = later call old told (record new { held = told.held }) account fault (λ name. refl) written fell.reads fell.writes run

-- what is told as held at the end matters to none of this
exact_still : (call : Call) (old new : State) (held : Held) (fault : Fault) → IsExact call old (record new { held = held }) fault → IsExact call old new fault
exact_still call old new held fault e = record { usage = e.usage; command = e.command }

finished_still : (call : Call) (old new : State) (held : Held) (account : Account) → IsFinished call old (record new { held = held }) account → IsFinished call old new account
finished_still call old new held account f = record {
  command = f.command;
  chain = f.chain;
  bound = f.bound;
  stands = f.stands;
  frames = f.frames;
  merged = f.merged;
  fates = f.fates;
  run = f.run;
  classes = f.classes;
  wrote = record { written = f.wrote.written; others = f.wrote.others };
}

untouched_still : (old new : State) (held : Held) (account : Account) → IsUntouched old (record new { held = held }) account → IsUntouched old new account
untouched_still old new held account u = record { written = u.written; none_served = u.none_served }

module _ (laws : OneAnswer) (call : Call) (old new : State) (account : Account) (fault : Fault) where
  pub exact : IsServed call old new account fault → IsExact call old new fault
  exact (all_written told run written fell) = exact_still call old new told.held fault (exactly.exact laws call old (record new { held = told.held }) fault account (since call old told new account fault run written fell))
  exact (some_pending c told ran is run pending fell why) = record {
    usage = λ n first. absurd (laws.not_both call n c first is);
    command = λ d other. inr (subst (λ (e : RunView). IsInterruption call e old new fault) (laws.command call c d is other) (finish_interrupts call old new c fault why));
  }

  pub complete : IsServed call old new account fault → NoneFailed old new → IsComplete call old.held fault
  complete served none = exactly.complete laws call old new fault (exact served) none

pub finished : (call : Call) (old new : State) (account : Account) (fault : Fault) → IsServed call old new account fault → fault ≡ Done → IsFinished call old new account
finished call old new account fault (all_written told run written fell) done = finished_still call old new told.held account (exactly.finished call old (record new { held = told.held }) account fault (since call old told new account fault run written fell) done)
finished call old new account fault (some_pending c told ran is run pending fell why) done = absurd (subst (λ f. FinishFault call old new c f) done why)

pub early : (call : Call) (old new : State) (account : Account) (fault : Fault) → IsServed call old new account fault → IsEarly fault → IsUntouched old new account
early call old new account fault (all_written told run written fell) e = untouched_still old new told.held account (exactly.early call old (record new { held = told.held }) account fault (since call old told new account fault run written fell) e)
early call old new account fault (some_pending c told ran is run pending fell why) e = absurd (finish_late call old new c fault why e)

pub moved : (call : Call) (old new : State) (account account' : Account) (fault fault' : Fault) → fault' ≡ fault → account' ≡ account → IsServed call old new account fault → IsServed call old new account' fault'
moved call old new account account' fault fault' same same_account run =
    subst (λ f. IsServed call old new account' f) (sym same) (subst (λ (a : Account). IsServed call old new a fault) (sym same_account) run)
