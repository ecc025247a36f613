use Rattle.std.proofs.Common.{◌≡◌, ◌≤◌, ℕ, List, [], ◌∷◌, ◌++◌, length, refl, sym, ◌∙◌, ap, subst, arith, rules, ◌+◌}
use Rattle.mt_io.specs.Laws.{never_fell_refl, never_fell_twice}
use Rattle.mt_pcap.specs.Merged.{HasMerged}
use Rattle.mt_pcap.specs.Sources.{names_of, all_left, IsSameBeside}
use Rattle.metron.specs.Outcome.{Account, account_of}
use Rattle.metron.specs.Serving.{Outputs, AllGain, IsSameElsewhere, OutputFault, HasServedOne, HasNotServedOne}
use Rattle.metron.specs.Standing.{tables_at}
use Rattle.metron.proofs.Outputs.{elsewhere_twice, elsewhere_same}
use Rattle.metron.proofs.Frames.{beside_twice, beside_same, as_many, starts, still, goes_on, breaks, ends_done, ends_limit, ends_fault}
use Rattle.metron.proofs.serve.serve.Goals as goal

pub loop-alloc-init : goal.loop-alloc-init
loop-alloc-init g c =
    let none : c.args.tally.now.writes ≡ 0 = ap (λ (a : Account). a.writes) c.requires.none_served in
    record {
      way = λ chain begun known names first merged. starts chain c.args.writers.now names first _ c.args.merge.now (tables_at c.args.worker.now) _ _ (account_of c.args.tally.now) c.args.tally.now.classes merged begun.first c.requires.none_served (λ name. refl);
      few = omega (arith, c.requires.begins);
      rest = λ chain begun known. begun.rest;
      same_count = c.requires.begun.1.none_written ∙ sym none;
      bounded = let zero_is = c.requires.begun.1.none_written in omega (arith, zero_is);
      classes = refl;
      sources = refl;
      writers = refl;
      other_held = λ other apart. refl;
      other_written = λ other apart. refl;
      read_faults = never_fell_refl _;
      write_faults = never_fell_refl _;
    }

pub returns-in-Ok-None-clause-serving : goal.returns-in-Ok-None-clause-serving
returns-in-Ok-None-clause-serving g c = λ chain begun known names first merged.
    ends_done chain c.args.writers.now names first (g.F.Files.held c.loop-alloc.files) c.loop-alloc.merge (tables_at c.loop-alloc.worker) _ (g.F.Files.written c.next.new.files) (account_of c.loop-alloc.tally)
    (still chain c.args.writers.now names first (g.F.Files.held c.loop-alloc.files) c.loop-alloc.merge (tables_at c.loop-alloc.worker) _ (g.F.Files.written c.loop-alloc.files) (g.F.Files.written c.next.new.files) (account_of c.loop-alloc.tally)
    c.next.ensures.written (c.loop-alloc.invariant.way chain begun known names first merged))
    _ _ (g.F.Files.read_faults c.loop-alloc.files) _ _ _ c.merges_all.ensures.whole (c.in-Ok-None.ensures.ends c.in-Ok-None.field-0-is)

pub returns-in-Err-clause-serving : goal.returns-in-Err-clause-serving
returns-in-Err-clause-serving g c = λ chain begun known names first merged.
    let way = c.loop-alloc.invariant.way chain begun known names first merged in
    ends_fault chain c.args.writers.now names first (g.F.Files.held c.loop-alloc.files) c.loop-alloc.merge (tables_at c.loop-alloc.worker) _ (g.F.Files.written c.next.new.files) (account_of c.loop-alloc.tally)
    (still chain c.args.writers.now names first (g.F.Files.held c.loop-alloc.files) c.loop-alloc.merge (tables_at c.loop-alloc.worker) _ (g.F.Files.written c.loop-alloc.files) (g.F.Files.written c.next.new.files) (account_of c.loop-alloc.tally)
    c.next.ensures.written way)
    _ _ (g.F.Files.read_faults c.loop-alloc.files) _ _ _ c.merges_all.ensures.whole c.merges_all.ensures.so_far c.merges_all.ensures.broken c.merges_all.ensures.fails c.in-Err.fault.device c.in-Err.fault.fault
    c.merge_fault.result c.merge_fault.ensures c.in-Err.ensures.fault (c.in-Err.ensures.past_header way.merged.unbroken) c.loop-alloc.invariant.read_faults c.in-Err.ensures.read_fault c.in-Err.ensures.broken

pub serve_one-requires-clause-rest : goal.serve_one-requires-clause-rest
serve_one-requires-clause-rest g c =
    let chain = c.requires.begun.0 in
    let known = c.requires.begun.2 in
    let many = as_many c.args.merge.now.sources c.loop-alloc.merge.sources c.loop-alloc.invariant.sources in
    let within : (1 ≤ c.in-Ok-Some.frame.device) × (c.in-Ok-Some.frame.device ≤ length c.loop-alloc.merge.sources) = search rules in
    (chain, c.loop-alloc.invariant.rest chain c.requires.begun.1 known, omega (arith, within.1, many, known))

pub serve_one-requires-clause-room : goal.serve_one-requires-clause-room
serve_one-requires-clause-room g c = let bounded = c.loop-alloc.invariant.bounded in let few = c.loop-alloc.invariant.few in omega (arith, bounded, few)

pub loop-alloc-preserved : goal.loop-alloc-preserved
loop-alloc-preserved g c =
    let kept = c.loop-alloc.invariant in
    record {
      way = λ chain begun known names first merged.
          let way = still chain c.args.writers.now names first (g.F.Files.held c.loop-alloc.files) c.loop-alloc.merge (tables_at c.loop-alloc.worker) (g.F.Files.written c.args.files.now) (g.F.Files.written c.loop-alloc.files) (g.F.Files.written c.next.new.files) (account_of c.loop-alloc.tally)
          c.next.ensures.written (kept.way chain begun known names first merged) in
          let more : HasMerged names first (g.F.Files.held c.next.new.files) (way.frames ++ c.in-Ok-Some.frame ∷ []) c.next.new.self =
          c.merges_all.ensures.on names first (g.F.Files.held c.loop-alloc.files) (g.F.Files.held c.next.new.files) way.frames c.loop-alloc.merge c.next.new.self c.in-Ok-Some.frame way.merged
          (search rules) (search rules) (search rules) (search rules) (search rules) (search rules) in
          goes_on chain c.args.writers.now names first (g.F.Files.held c.loop-alloc.files) c.loop-alloc.merge (tables_at c.loop-alloc.worker) (g.F.Files.written c.args.files.now) (g.F.Files.written c.next.new.files) (account_of c.loop-alloc.tally) way
          (g.F.Files.held c.serve_one.new.files) c.next.new.self c.in-Ok-Some.frame (omega (arith, c.loop-alloc-test.true, c.given.ensures)) (search rules)
          (c.merges_all.ensures.still names first (g.F.Files.held c.next.new.files) (g.F.Files.held c.serve_one.new.files) (way.frames ++ c.in-Ok-Some.frame ∷ []) c.next.new.self c.serve_one.ensures.held more)
          c.one_packet_behind_others.ensures (tables_at c.serve_one.new.worker) (g.F.Files.written c.serve_one.new.files) (account_of c.serve_one.new.tally)
          (subst (λ (w : Outputs). HasServedOne AllGain chain w (tables_at c.loop-alloc.worker) (tables_at c.serve_one.new.worker) c.in-Ok-Some.frame (g.F.Files.written c.next.new.files) (g.F.Files.written c.serve_one.new.files) (account_of c.loop-alloc.tally) (account_of c.serve_one.new.tally)) kept.writers (c.in-Ok.ensures.ok chain (kept.rest chain begun known) (let many = as_many c.args.merge.now.sources c.loop-alloc.merge.sources kept.sources in let within : (1 ≤ c.in-Ok-Some.frame.device) × (c.in-Ok-Some.frame.device ≤ length c.loop-alloc.merge.sources) = search rules in omega (arith, within.1, many, known))));
      few = let room = c.loop-alloc-test.true in let given = c.given.ensures in let more : c.next.new.self.given ≡ c.loop-alloc.merge.given + 1 = search rules in omega (arith, room, given, more);
      rest = λ chain begun known. c.in-Ok.ensures.rest chain (kept.rest chain begun known) (let many = as_many c.args.merge.now.sources c.loop-alloc.merge.sources kept.sources in let within : (1 ≤ c.in-Ok-Some.frame.device) × (c.in-Ok-Some.frame.device ≤ length c.loop-alloc.merge.sources) = search rules in omega (arith, within.1, many, known));
      same_count = c.in-Ok.ensures.same_count;
      bounded = let given : c.next.new.self.given ≡ c.loop-alloc.merge.given + 1 = search rules in let bounded = kept.bounded in let few = c.serve_one.ensures.few in omega (arith, given, bounded, few);
      classes = c.serve_one.ensures.classes ∙ kept.classes;
      sources = c.next.ensures.names ∙ kept.sources;
      writers = c.serve_one.ensures.names ∙ kept.writers;
      other_held = beside_twice (names_of c.args.merge.now.sources) _ _ _ (beside_twice (names_of c.args.merge.now.sources) _ _ _ kept.other_held (subst (λ (l : List (List ℕ)). IsSameBeside l (g.F.Files.held c.loop-alloc.files) (g.F.Files.held c.next.new.files)) kept.sources c.next.ensures.other_files))
          (beside_same (names_of c.args.merge.now.sources) _ _ c.serve_one.ensures.held);
      other_written = elsewhere_twice c.args.writers.now _ _ _ (elsewhere_twice c.args.writers.now _ _ _ kept.other_written (elsewhere_same c.args.writers.now _ _ c.next.ensures.written))
          (subst (λ (w : Outputs). IsSameElsewhere w (g.F.Files.written c.next.new.files) (g.F.Files.written c.serve_one.new.files)) kept.writers c.serve_one.ensures.other_written);
      read_faults = never_fell_twice _ _ _ (never_fell_twice _ _ _ kept.read_faults c.next.ensures.read_faults) c.serve_one.ensures.read_faults;
      write_faults = never_fell_twice _ _ _ (never_fell_twice _ _ _ kept.write_faults c.next.ensures.write_faults) c.serve_one.ensures.write_faults;
    }

pub returns-in-Err-serve_one-clause-serving : goal.returns-in-Err-serve_one-clause-serving
returns-in-Err-serve_one-clause-serving g c = λ chain begun known names first merged.
    let kept = c.loop-alloc.invariant in
    let way = still chain c.args.writers.now names first (g.F.Files.held c.loop-alloc.files) c.loop-alloc.merge (tables_at c.loop-alloc.worker) (g.F.Files.written c.args.files.now) (g.F.Files.written c.loop-alloc.files) (g.F.Files.written c.next.new.files) (account_of c.loop-alloc.tally)
    c.next.ensures.written (kept.way chain begun known names first merged) in
    let more : HasMerged names first (g.F.Files.held c.next.new.files) (way.frames ++ c.in-Ok-Some.frame ∷ []) c.next.new.self =
    c.merges_all.ensures.on names first (g.F.Files.held c.loop-alloc.files) (g.F.Files.held c.next.new.files) way.frames c.loop-alloc.merge c.next.new.self c.in-Ok-Some.frame way.merged
    (search rules) (search rules) (search rules) (search rules) (search rules) (search rules) in
    breaks chain c.args.writers.now names first (g.F.Files.held c.loop-alloc.files) c.loop-alloc.merge (tables_at c.loop-alloc.worker) (g.F.Files.written c.args.files.now) (g.F.Files.written c.next.new.files) (account_of c.loop-alloc.tally) way
    (g.F.Files.held c.next.new.files) c.next.new.self c.in-Ok-Some.frame (omega (arith, c.loop-alloc-test.true, c.given.ensures)) (search rules) more
    c.merges_all.ensures.so_far c.one_packet_behind_others.ensures _ (g.F.Files.written c.serve_one.new.files) (account_of c.serve_one.new.tally) c.in-Err-serve_one.fault _ _ _ (g.F.Files.write_faults c.next.new.files) _
    (subst (λ (w : Outputs). HasNotServedOne chain w (tables_at c.loop-alloc.worker) c.in-Ok-Some.frame (g.F.Files.written c.next.new.files) (g.F.Files.written c.serve_one.new.files) (account_of c.loop-alloc.tally) (account_of c.serve_one.new.tally)) kept.writers (c.in-Err-serve_one.ensures.err chain (kept.rest chain begun known) (let many = as_many c.args.merge.now.sources c.loop-alloc.merge.sources kept.sources in let within : (1 ≤ c.in-Ok-Some.frame.device) × (c.in-Ok-Some.frame.device ≤ length c.loop-alloc.merge.sources) = search rules in omega (arith, within.1, many, known))))
    (never_fell_twice _ _ _ kept.write_faults c.next.ensures.write_faults)
    (subst (λ (w : Outputs). OutputFault w (g.F.Files.write_faults c.next.new.files) (g.F.Files.write_faults c.serve_one.new.files) c.in-Err-serve_one.fault) kept.writers c.in-Err-serve_one.ensures.cause)

pub returns-in-Err-serve_one-clause-other_held : goal.returns-in-Err-serve_one-clause-other_held
returns-in-Err-serve_one-clause-other_held g c =
    let kept = c.loop-alloc.invariant in
    beside_twice (names_of c.args.merge.now.sources) _ _ _ (beside_twice (names_of c.args.merge.now.sources) _ _ _ kept.other_held (subst (λ (l : List (List ℕ)). IsSameBeside l (g.F.Files.held c.loop-alloc.files) (g.F.Files.held c.next.new.files)) kept.sources c.next.ensures.other_files))
    (beside_same (names_of c.args.merge.now.sources) _ _ c.serve_one.ensures.held)

pub returns-in-Err-serve_one-clause-other_written : goal.returns-in-Err-serve_one-clause-other_written
returns-in-Err-serve_one-clause-other_written g c =
    let kept = c.loop-alloc.invariant in
    elsewhere_twice c.args.writers.now _ _ _ (elsewhere_twice c.args.writers.now _ _ _ kept.other_written (elsewhere_same c.args.writers.now _ _ c.next.ensures.written))
    (subst (λ (w : Outputs). IsSameElsewhere w (g.F.Files.written c.next.new.files) (g.F.Files.written c.serve_one.new.files)) kept.writers c.serve_one.ensures.other_written)

pub returns-in-Ok-Some-next-clause-serving : goal.returns-in-Ok-Some-next-clause-serving
returns-in-Ok-Some-next-clause-serving g c = λ chain begun known names first merged.
    ends_limit chain c.args.writers.now names first (g.F.Files.held c.loop-alloc.files) c.loop-alloc.merge (tables_at c.loop-alloc.worker) _ (g.F.Files.written c.next-2.new.files) (account_of c.loop-alloc.tally)
    (still chain c.args.writers.now names first (g.F.Files.held c.loop-alloc.files) c.loop-alloc.merge (tables_at c.loop-alloc.worker) _ (g.F.Files.written c.loop-alloc.files) (g.F.Files.written c.next-2.new.files) (account_of c.loop-alloc.tally)
    c.next-2.ensures.written (c.loop-alloc.invariant.way chain begun known names first merged))
    _ _ (g.F.Files.read_faults c.loop-alloc.files) _ _ _ c.merges_all.ensures.full c.in-Ok-Some-next.field-0-0 (all_left (g.F.Files.held c.next-2.new.files) c.next-2.new.self.sources) (omega (arith, c.loop-alloc-test.false, c.given.ensures)) (search rules)

pub returns-in-Ok-None-next-clause-serving : goal.returns-in-Ok-None-next-clause-serving
returns-in-Ok-None-next-clause-serving g c = λ chain begun known names first merged.
    ends_done chain c.args.writers.now names first (g.F.Files.held c.loop-alloc.files) c.loop-alloc.merge (tables_at c.loop-alloc.worker) _ (g.F.Files.written c.next-2.new.files) (account_of c.loop-alloc.tally)
    (still chain c.args.writers.now names first (g.F.Files.held c.loop-alloc.files) c.loop-alloc.merge (tables_at c.loop-alloc.worker) _ (g.F.Files.written c.loop-alloc.files) (g.F.Files.written c.next-2.new.files) (account_of c.loop-alloc.tally)
    c.next-2.ensures.written (c.loop-alloc.invariant.way chain begun known names first merged))
    _ _ (g.F.Files.read_faults c.loop-alloc.files) _ _ _ c.merges_all.ensures.whole (c.in-Ok-None-next.ensures.ends c.in-Ok-None-next.field-0-is)

pub returns-clause-serving : goal.returns-clause-serving
returns-clause-serving g c = λ chain begun known names first merged.
    let way = c.loop-alloc.invariant.way chain begun known names first merged in
    ends_fault chain c.args.writers.now names first (g.F.Files.held c.loop-alloc.files) c.loop-alloc.merge (tables_at c.loop-alloc.worker) _ (g.F.Files.written c.next-2.new.files) (account_of c.loop-alloc.tally)
    (still chain c.args.writers.now names first (g.F.Files.held c.loop-alloc.files) c.loop-alloc.merge (tables_at c.loop-alloc.worker) _ (g.F.Files.written c.loop-alloc.files) (g.F.Files.written c.next-2.new.files) (account_of c.loop-alloc.tally)
    c.next-2.ensures.written way)
    _ _ (g.F.Files.read_faults c.loop-alloc.files) _ _ _ c.merges_all.ensures.whole c.merges_all.ensures.so_far c.merges_all.ensures.broken c.merges_all.ensures.fails c.in-Err-next.fault.device c.in-Err-next.fault.fault
    c.merge_fault-in-Err-next.result c.merge_fault-in-Err-next.ensures c.in-Err-next.ensures.fault (c.in-Err-next.ensures.past_header way.merged.unbroken) c.loop-alloc.invariant.read_faults c.in-Err-next.ensures.read_fault c.in-Err-next.ensures.broken
