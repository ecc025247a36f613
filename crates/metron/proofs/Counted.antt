-- The writes for one frame more.
use Rattle.std.proofs.Common.{◌≡◌, ℕ, ◌+◌, List, [], ◌∷◌, ◌++◌, refl, sym, ◌∙◌, ap, subst, arith}
use Rattle.std.specs.Prelude.{Option, Some, None, option_map, option_and_then}
use Rattle.std.proofs.lemmas.Option.{none-some, same_Some}
use Rattle.mt_packet.specs.declared.frame.Stamped.{Stamped}
use Rattle.mt_elements.specs.ChainState.{ChainState}
use Rattle.mt_rewriter.specs.Mappings.{TablesState}
use Rattle.mt_chain.specs.Fates.{packet_of, packets_of}
use Rattle.mt_chain.specs.Run.{Run, run_packet}
use Rattle.mt_chain.specs.Sequence.{Runs, before, run_each}
use Rattle.metron.specs.Written.{writes_each, writes_for, writes_on}

module _ (chain : ChainState) (frame : Stamped) (last : Run) (m : ℕ) where
  -- behind frames that leave this, the last one runs and is written so often
  pub record IsLast (runs : Runs) : Type 0 where
    pub run : run_packet chain runs.tables (packet_of frame) runs.picks ≡ Some last
    pub counted : writes_for chain runs.tables frame runs.picks ≡ Some m

  last_of : (runs other : Runs) → other ≡ runs → IsLast runs → IsLast other
  last_of runs other same is = subst IsLast (sym same) is

  alone : (tables : TablesState) (picks : List ℕ) (n : ℕ) → run_packet chain tables (packet_of frame) picks ≡ Some last → writes_for chain tables frame picks ≡ Some m → Some 0 ≡ Some n
      → writes_each chain tables picks (frame ∷ []) ≡ Some (n + m)
  unfolding writes_each
  alone tables picks n run counted none =
      let zero_is : 0 ≡ n = same_Some 0 n none in
      ap (option_and_then (λ (r : Run). writes_on (writes_for chain tables frame picks) (writes_each chain r.tables r.picks []))) run
      ∙ ap (λ (o : Option ℕ). writes_on o (Some 0)) counted
      ∙ ap Some (omega (arith, zero_is))

  -- what is to be shown of frames
  abbrev pub IsBehind : List Stamped → Type 0
  IsBehind frames =
      (tables : TablesState) (picks : List ℕ) (runs : Runs) (n : ℕ) → run_each chain tables picks (packets_of frames) ≡ Some runs → writes_each chain tables picks frames ≡ Some n
      → IsLast runs → writes_each chain tables picks (frames ++ frame ∷ []) ≡ Some (n + m)

  module _ (f : Stamped) (frames : List Stamped) (again : IsBehind frames) (tables : TablesState) (picks : List ℕ) (runs : Runs) (n : ℕ) (is : IsLast runs) where
    by_rest : (first : Run) (o : Option Runs) → run_each chain first.tables first.picks (packets_of frames) ≡ o → option_map (before first) o ≡ Some runs
        → (a b : Option ℕ) → writes_each chain first.tables first.picks frames ≡ b → writes_on a b ≡ Some n → writes_on a (writes_each chain first.tables first.picks (frames ++ frame ∷ [])) ≡ Some (n + m)
    by_rest first None at told a b is_b wrote_on = absurd (none-some runs told)
    by_rest first (Some rest) at told None b is_b wrote_on = absurd (none-some n wrote_on)
    by_rest first (Some rest) at told (Some x) None is_b wrote_on = absurd (none-some n wrote_on)
    by_rest first (Some rest) at told (Some x) (Some y) is_b wrote_on =
        let here = last_of runs (before first rest) (same_Some (before first rest) runs told) is in
        let sum : x + y ≡ n = same_Some (x + y) n wrote_on in
        ap (writes_on (Some x)) (again first.tables first.picks rest y at is_b (record { run = here.run; counted = here.counted }))
        ∙ ap Some (omega (arith, sum))

    by_first : (o : Option Run) → option_and_then (λ first. option_map (before first) (run_each chain first.tables first.picks (packets_of frames))) o ≡ Some runs
        → option_and_then (λ (r : Run). writes_on (writes_for chain tables f picks) (writes_each chain r.tables r.picks frames)) o ≡ Some n
        → option_and_then (λ (r : Run). writes_on (writes_for chain tables f picks) (writes_each chain r.tables r.picks (frames ++ frame ∷ []))) o ≡ Some (n + m)
    by_first None told wrote_all = absurd (none-some runs told)
    by_first (Some first) told wrote_all =
        by_rest first (run_each chain first.tables first.picks (packets_of frames)) refl told (writes_for chain tables f picks) (writes_each chain first.tables first.picks frames) refl wrote_all

  pub writes_behind : (frames : List Stamped) → IsBehind frames
  unfolding run_each writes_each
  writes_behind [] tables picks runs n ran wrote is =
      let first = last_of runs (record { fates = []; tables = tables; picks = picks }) (same_Some _ runs ran) is in
      alone tables picks n first.run first.counted wrote
  writes_behind (f ∷ frames) tables picks runs n ran wrote is = by_first f frames (writes_behind frames) tables picks runs n is (run_packet chain tables (packet_of f) picks) ran wrote
