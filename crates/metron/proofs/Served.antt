-- The frames that were served so far, and one frame more.
use Rattle.std.proofs.Common.{◌≡◌, ◌⊎◌, inl, inr, ℕ, ◌+◌, ◌/◌, ◌^◌, ◌<◌, ◌≤◌, arith, List, [], ◌∷◌, ◌++◌, length, refl, sym, ◌∙◌, ap, subst, append_assoc}
use Rattle.std.specs.Prelude.{Some, None, Result, Ok, Err, OnErr, OnOk, option_map, option_and_then}
use Rattle.std.specs.Result.{result_ok}
use Rattle.std.proofs.lemmas.List.{append-nil, length-append, map-append}
use Rattle.std.proofs.lemmas.Option.{none-some, same_Some}
use Rattle.mt_io.specs.Files.{IsSame}
use Rattle.mt_packet.specs.declared.frame.Stamped.{Stamped}
use Rattle.mt_packet.specs.Packet.{PacketState}
use Rattle.mt_elements.specs.ChainState.{ChainState}
use Rattle.mt_rewriter.specs.Kept.{AreTables}
use Rattle.mt_rewriter.specs.Mappings.{TablesState, first_tables}
use Rattle.mt_chain.specs.Run.{Answer, Run, run_answer, run_packet}
use Rattle.mt_chain.specs.Sequence.{Runs, OneBehind, behind, run_each, run_all, all_taken}
use Rattle.mt_chain.specs.declared.run.Fate.{Fate}
use Rattle.mt_chain.specs.declared.run.Fate.TheVariants.{Sent, Dropped}
use Rattle.mt_chain.specs.Kept.{ComesFrom}
use Rattle.mt_chain.specs.Known.{FatesComeFrom}
use Rattle.mt_chain.specs.Fates.{packet_of, packets_of, fate_text, sent_text}
use Rattle.mt_chain.specs.Order.{numbers}
use Rattle.mt_chain.specs.Laws.{numbers-push, sent_text-push}
use Rattle.metron.specs.Outcome.{Account, nothing_served}
use Rattle.metron.specs.Serving.{Held, Outputs, AllGain, AllGainFront, HasRunOne, HasServed, HasServedOne, IsUnserved, HasNotServedOne, IsWritable, with_frame}
use Rattle.metron.specs.Written.{writes_each}
use Rattle.metron.proofs.Counted.{writes_behind}
use Rattle.metron.proofs.Outputs.{all_nothing, all_twice, all_then_front, all_front, all_then_same}

-- ---- what was served

-- The fates of the frames, what the chain then remembers, how many fields were written, and that what they send was
-- written. The picks are those of the account; whatever follows them is left.
pub record IsAt (chain : ChainState) (outputs : Outputs) (tables : TablesState) (old new : Held) (account : Account) (frames : List Stamped) : Type 0 where
  pub fates : List Fate
  pub runs : (more : List ℕ) → run_each chain (first_tables chain) (account.picks ++ more) (packets_of frames) ≡ Some (record { fates = fates; tables = tables; picks = more })
  pub counted : (more : List ℕ) → writes_each chain (first_tables chain) (account.picks ++ more) frames ≡ Some account.writes
  pub numbered : account.order ≡ numbers (length frames)
  pub written : AllGain outputs old new (λ device. sent_text device fates)

-- nothing is told of frames but the number of classes
abbrev pub none_yet : ℕ → Account
none_yet classes = record nothing_served { classes = classes }

all_of : (chain : ChainState) (packets : List PacketState) (picks : List ℕ) (runs : Runs) → run_each chain (first_tables chain) picks packets ≡ Some runs → runs.picks ≡ [] → run_all chain packets picks ≡ Some runs.fates
unfolding run_all
all_of chain packets picks runs is none =
    ap (option_and_then all_taken) is ∙ ap (λ picks. all_taken (record runs { picks = picks })) none

module _ (chain : ChainState) (outputs : Outputs) where
  pub begun : (tables : TablesState) (old new : Held) (account : Account) (classes : ℕ) → tables ≡ first_tables chain → account ≡ none_yet classes → IsSame old new → IsAt chain outputs tables old new account []
  unfolding run_each writes_each
  begun tables old new account classes first none same = subst (λ (a : Account). IsAt chain outputs tables old new a []) (sym none) (record {
    fates = [];
    runs = λ more. ap (λ t. Some (record { fates = []; tables = t; picks = more })) (sym first);
    counted = λ more. refl;
    numbered = refl;
    written = all_nothing outputs old new (λ device. sent_text device []) same (λ device. refl);
  })

  module _ (tables : TablesState) (old middle : Held) (account : Account) (frames : List Stamped) (at : IsAt chain outputs tables old middle account frames) where
    runs_all : run_all chain (packets_of frames) account.picks ≡ Some at.fates
    runs_all = all_of chain (packets_of frames) account.picks _ (ap (λ l. run_each chain (first_tables chain) l (packets_of frames)) (sym (append-nil account.picks)) ∙ at.runs []) refl

    counts_all : writes_each chain (first_tables chain) account.picks frames ≡ Some account.writes
    counts_all = ap (λ l. writes_each chain (first_tables chain) l frames) (sym (append-nil account.picks)) ∙ at.counted []

    -- so far
    pub served : HasServed AllGain chain outputs old middle account frames
    served = record { fates = at.fates; run = runs_all; counted = counts_all; numbered = at.numbered; written = at.written }

    module _ (one_behind : OneBehind) (frame : Stamped) (number_is : frame.number ≡ length frames) where
      module _ (tables' : TablesState) (fate : Fate) (picked : List ℕ) (count : ℕ) (one : HasRunOne chain tables tables' frame fate picked count) where
        abbrev more_told : Account
        more_told = with_frame account frame.number picked count

        runs_more : (more : List ℕ) → run_each chain (first_tables chain) (more_told.picks ++ more) (packets_of (frames ++ frame ∷ [])) ≡ Some (record { fates = at.fates ++ fate ∷ []; tables = tables'; picks = more })
        runs_more more =
            ap (λ l. run_each chain (first_tables chain) l (packets_of (frames ++ frame ∷ []))) (append_assoc account.picks picked more)
            ∙ ap (run_each chain (first_tables chain) (account.picks ++ (picked ++ more))) (map-append packet_of frames (frame ∷ []))
            ∙ one_behind chain (first_tables chain) (account.picks ++ (picked ++ more)) (packets_of frames) (packet_of frame)
            ∙ ap (option_and_then (λ so_far. option_map (behind so_far) (run_packet chain so_far.tables (packet_of frame) so_far.picks))) (at.runs (picked ++ more))
            ∙ ap (option_map (behind (record { fates = at.fates; tables = tables; picks = picked ++ more }))) (one.run more)

        counted_more : (more : List ℕ) → writes_each chain (first_tables chain) (more_told.picks ++ more) (frames ++ frame ∷ []) ≡ Some more_told.writes
        counted_more more =
            ap (λ l. writes_each chain (first_tables chain) l (frames ++ frame ∷ [])) (append_assoc account.picks picked more)
            ∙ writes_behind chain frame (record { fate = fate; tables = tables'; picks = more }) count frames (first_tables chain) (account.picks ++ (picked ++ more))
            (record { fates = at.fates; tables = tables; picks = picked ++ more }) account.writes (at.runs (picked ++ more)) (at.counted (picked ++ more)) (record { run = one.run more; counted = one.counted more })

        numbered_more : more_told.order ≡ numbers (length (frames ++ frame ∷ []))
        numbered_more =
            ap (λ l. l ++ frame.number ∷ []) at.numbered ∙ ap (λ n. numbers (length frames) ++ n ∷ []) number_is ∙ sym (numbers-push (length frames))
            ∙ ap numbers (sym (length-append frames (frame ∷ [])))

      -- one frame more
      pub one_served : (tables' : TablesState) (new : Held) (account' : Account) → HasServedOne AllGain chain outputs tables tables' frame middle new account account'
          → IsAt chain outputs tables' old new account' (frames ++ frame ∷ [])
      one_served tables' new account' one = subst (λ (a : Account). IsAt chain outputs tables' old new a (frames ++ frame ∷ [])) (sym one.told) (record {
        fates = at.fates ++ one.fate ∷ [];
        runs = runs_more tables' one.fate one.picked one.count one.run;
        counted = counted_more tables' one.fate one.picked one.count one.run;
        numbered = numbered_more tables' one.fate one.picked one.count one.run;
        written = all_twice outputs old middle new (λ device. sent_text device at.fates) (λ device. fate_text device one.fate) (λ device. sent_text device (at.fates ++ one.fate ∷ [])) (λ device. sent_text-push device at.fates one.fate) at.written one.written;
      })

      partly : (tables' : TablesState) (new : Held) (account' : Account) → HasServedOne AllGainFront chain outputs tables tables' frame middle new account account'
          → HasServed AllGainFront chain outputs old new account' (frames ++ frame ∷ [])
      partly tables' new account' one = subst (λ (a : Account). HasServed AllGainFront chain outputs old new a (frames ++ frame ∷ [])) (sym one.told) (record {
        fates = at.fates ++ one.fate ∷ [];
        run = all_of chain (packets_of (frames ++ frame ∷ [])) (account.picks ++ one.picked) _
            (ap (λ l. run_each chain (first_tables chain) l (packets_of (frames ++ frame ∷ []))) (sym (append-nil (account.picks ++ one.picked))) ∙ runs_more tables' one.fate one.picked one.count one.run []) refl;
        counted = ap (λ l. writes_each chain (first_tables chain) l (frames ++ frame ∷ [])) (sym (append-nil (account.picks ++ one.picked))) ∙ counted_more tables' one.fate one.picked one.count one.run [];
        numbered = numbered_more tables' one.fate one.picked one.count one.run;
        written = all_then_front outputs old middle new (λ device. sent_text device at.fates) (λ device. fate_text device one.fate) (λ device. sent_text device (at.fates ++ one.fate ∷ [])) (λ device. sent_text-push device at.fates one.fate) at.written one.written;
      })

      unserved : (new : Held) (account' : Account) → IsUnserved middle new account account' → HasServed AllGainFront chain outputs old new account' frames
      unserved new account' none = subst (λ (a : Account). HasServed AllGainFront chain outputs old new a frames) (sym none.told) (record {
        fates = at.fates;
        run = runs_all;
        counted = counts_all;
        numbered = at.numbered;
        written = all_front outputs old new (λ device. sent_text device at.fates) (all_then_same outputs old middle new (λ device. sent_text device at.fates) at.written none.written);
      })

      -- the frames that were served where one was not, or only in part
      pub broken : (new : Held) (account' : Account) → HasNotServedOne chain outputs tables frame middle new account account'
          → (served : List Stamped) × ((served ≡ frames) ⊎ (served ≡ frames ++ frame ∷ [])) × HasServed AllGainFront chain outputs old new account' served
      broken new account' h = elim h [
        | inl none ↦ (frames, inl refl, unserved new account' none)
        | inr one ↦ (frames ++ frame ∷ [], inr refl, partly one.0 new account' one.1)
      ]

-- ---- one frame

-- what follows where a call was well
pub on_ok : {X E P Q : Type 0} (r : Result X E) → OnOk r P → (P → Q) → OnOk r Q
on_ok (Ok x) h f = f h
on_ok (Err e) h f = tt

pub always_ok : {X E Q : Type 0} (r : Result X E) → Q → OnOk r Q
always_ok (Ok x) h = h
always_ok (Err e) h = tt

-- or was not
pub on_err : {X E P Q : Type 0} (r : Result X E) → OnErr r P → (P → Q) → OnErr r Q
on_err (Ok x) h f = tt
on_err (Err e) h f = f h

-- a run is the answer of a run
pub answer_of : (chain : ChainState) (tables : TablesState) (packet : PacketState) (picks : List ℕ) (run : Run) → run_packet chain tables packet picks ≡ Some run → run_answer chain tables packet picks ≡ Some (Ok run)
unfolding run_packet
answer_of chain tables packet picks run is = by_answer (run_answer chain tables packet picks) is
  where
    by_answer : (answer : Answer Run) → option_and_then result_ok answer ≡ Some run → answer ≡ Some (Ok run)
    by_answer None told = absurd (none-some run told)
    by_answer (Some (Err place)) told = absurd (none-some run told)
    by_answer (Some (Ok other)) told = ap (λ r. Some (Ok r)) (same_Some other run told)

-- the account of one frame more
pub told_more : (account account' : Account) (number number' : ℕ) (picks picks' : List ℕ) (total count : ℕ)
    → account' ≡ record { order = account.order ++ number ∷ []; picks = account.picks ++ picks; classes = account.classes; writes = total } → number ≡ number' → picks ≡ picks' → total ≡ account.writes + count
    → account' ≡ with_frame account number' picks' count
told_more account account' number number' picks picks' total count is same_number same_picks sum =
    is
    ∙ ap (λ n. record { order = account.order ++ n ∷ []; picks = account.picks ++ picks; classes = account.classes; writes = total }) same_number
    ∙ ap (λ l. record { order = account.order ++ number' ∷ []; picks = account.picks ++ l; classes = account.classes; writes = total }) same_picks
    ∙ ap (λ n. record { order = account.order ++ number' ∷ []; picks = account.picks ++ picks'; classes = account.classes; writes = n }) sum

-- what a frame sends can be written as a record
pub writable : FatesComeFrom → (chain : ChainState) (tables tables' : TablesState) (frame : Stamped) (fate : Fate) (picked : List ℕ) (count : ℕ) → AreTables chain tables → HasRunOne chain tables tables' frame fate picked count
    → frame.stamp / 1000000000 < 2 ^ 32 → length frame.frame ≤ 262144 → IsWritable fate
writable law chain tables tables' frame fate picked count kept run seconds long =
    by_fate fate (law chain tables kept (packet_of frame) (picked ++ []) (record { fate = fate; tables = tables'; picks = [] }) (answer_of chain tables (packet_of frame) (picked ++ []) _ (run.run [])))
  where
    by_fate : (fate : Fate) → ComesFrom (packet_of frame) fate → IsWritable fate
    by_fate (Dropped why) comes = tt
    by_fate (Sent device sent) comes =
        let size : length sent.frame ≤ length frame.frame + 0 = comes.3 in
        (subst (λ t. t / 1000000000 < 2 ^ 32) (sym comes.0) seconds, omega (arith, size, long))
