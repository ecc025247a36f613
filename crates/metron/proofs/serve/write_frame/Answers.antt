use Rattle.std.proofs.Common.{◌≡◌, ◌-◌, ℕ, List, get_or, Option, Some, refl, ◌∙◌, ap, arith}
use Rattle.std.specs.Prelude.{slice_get, Err}
use Rattle.mt_pcap.specs.declared.writer.WriteFault.{WriteFault}
use Rattle.std.proofs.lemmas.Option.{slice_get-get_or, slice_get_within}
use Rattle.metron.proofs.Outputs.{sent_nowhere, sent_whole, sent_front, one_elsewhere, no_file_there}
use Rattle.metron.proofs.serve.write_frame.Goals.{then-device-eq0-via-then-device-eq0, then-device-eq0-via-else-device-eq0+then-device-writers}
use Rattle.metron.proofs.serve.write_frame.Goals as goal

pub returns-then-device-eq0-clause-ok : goal.returns-then-device-eq0-clause-ok
returns-then-device-eq0-clause-ok g c =
    sent_nowhere c.args.writers.now c.args.device c.args.frame.now _ _ (λ name. refl) (λ index name file same.
    let within = slice_get_within c.args.writers.now index (Some name) file in
    elim c.then-device-eq0.branch [
      | then-device-eq0-via-then-device-eq0 w ↦ omega (arith, same, w.if-device-eq0.true)
      | then-device-eq0-via-else-device-eq0+then-device-writers w ↦ omega (arith, same, within, w.if-device-writers.true)
    ])

pub returns-in-None-clause-ok : goal.returns-in-None-clause-ok
returns-in-None-clause-ok g c =
    let xs = c.args.writers.now in
    let x : Option (List ℕ) = get_or xs (c.args.device - 1) c.index-writers-device.result in
    let there : slice_get xs (c.args.device - 1) ≡ Some x = slice_get-get_or xs (c.args.device - 1) c.index-writers-device.result (omega (arith, c.if-device-eq0.false, c.if-device-writers.false)) in
    sent_nowhere xs c.args.device c.args.frame.now _ _ (λ name. refl) (λ index name file same.
    no_file_there xs (c.args.device - 1) index name (there ∙ ap (λ (o : Option (List ℕ)). Some o) c.in-None.is) file (omega (arith, same)))

pub returns-in-Ok-clause-ok : goal.returns-in-Ok-clause-ok
returns-in-Ok-clause-ok g c =
    let xs = c.args.writers.now in
    let x : Option (List ℕ) = get_or xs (c.args.device - 1) c.index-writers-device.result in
    let there : slice_get xs (c.args.device - 1) ≡ Some x = slice_get-get_or xs (c.args.device - 1) c.index-writers-device.result (omega (arith, c.if-device-eq0.false, c.if-device-writers.false)) in
    sent_whole xs c.args.device c.args.frame.now (c.args.device - 1) _ (omega (arith, c.if-device-eq0.false)) (there ∙ ap (λ (o : Option (List ℕ)). Some o) c.in-Some.is) c.requires.apart _ _ c.in-Ok.ensures.other_files c.in-Ok.ensures.ok

pub returns-in-Ok-clause-other_written : goal.returns-in-Ok-clause-other_written
returns-in-Ok-clause-other_written g c =
    let xs = c.args.writers.now in
    let x : Option (List ℕ) = get_or xs (c.args.device - 1) c.index-writers-device.result in
    let there : slice_get xs (c.args.device - 1) ≡ Some x = slice_get-get_or xs (c.args.device - 1) c.index-writers-device.result (omega (arith, c.if-device-eq0.false, c.if-device-writers.false)) in
    one_elsewhere xs (c.args.device - 1) _ (there ∙ ap (λ (o : Option (List ℕ)). Some o) c.in-Some.is) c.requires.apart _ _ c.in-Ok.ensures.other_files

pub returns-in-Err-Failed-clause-err : goal.returns-in-Err-Failed-clause-err
returns-in-Err-Failed-clause-err g c =
    let xs = c.args.writers.now in
    let x : Option (List ℕ) = get_or xs (c.args.device - 1) c.index-writers-device.result in
    let there : slice_get xs (c.args.device - 1) ≡ Some x = slice_get-get_or xs (c.args.device - 1) c.index-writers-device.result (omega (arith, c.if-device-eq0.false, c.if-device-writers.false)) in
    sent_front xs c.args.device c.args.frame.now (c.args.device - 1) _ (omega (arith, c.if-device-eq0.false)) (there ∙ ap (λ (o : Option (List ℕ)). Some o) c.in-Some.is) c.requires.apart _ _ c.in-Err-Failed.ensures.other_files (c.in-Err-Failed.ensures.prefix (ap (λ (f : WriteFault). Err f) c.in-Err-Failed.field-0-is))

pub returns-in-Err-Failed-clause-cause : goal.returns-in-Err-Failed-clause-cause
returns-in-Err-Failed-clause-cause g c =
    let xs = c.args.writers.now in
    let x : Option (List ℕ) = get_or xs (c.args.device - 1) c.index-writers-device.result in
    let there : slice_get xs (c.args.device - 1) ≡ Some x = slice_get-get_or xs (c.args.device - 1) c.index-writers-device.result (omega (arith, c.if-device-eq0.false, c.if-device-writers.false)) in
    record {
      index = c.args.device - 1;
      name = c.in-Some.writer;
      device_is = omega (arith, c.if-device-eq0.false);
      file_is = there ∙ ap (λ (o : Option (List ℕ)). Some o) c.in-Some.is;
      rose = c.in-Err-Failed.ensures.failed (ap (λ (f : WriteFault). Err f) c.in-Err-Failed.field-0-is);
    }

pub returns-in-Err-Failed-clause-other_written : goal.returns-in-Err-Failed-clause-other_written
returns-in-Err-Failed-clause-other_written g c =
    let xs = c.args.writers.now in
    let x : Option (List ℕ) = get_or xs (c.args.device - 1) c.index-writers-device.result in
    let there : slice_get xs (c.args.device - 1) ≡ Some x = slice_get-get_or xs (c.args.device - 1) c.index-writers-device.result (omega (arith, c.if-device-eq0.false, c.if-device-writers.false)) in
    one_elsewhere xs (c.args.device - 1) _ (there ∙ ap (λ (o : Option (List ℕ)). Some o) c.in-Some.is) c.requires.apart _ _ c.in-Err-Failed.ensures.other_files
