-- Captures that are opened, and outputs that are begun, one device after the other.
use Rattle.std.proofs.Common.{◌-◌, append_assoc, ◌≡◌, ◌≢◌, inl, inr, ℕ, zero, suc, ◌+◌, ◌<◌, ◌≤◌, List, [], ◌∷◌, ◌++◌, length, map, take, drop, min, get_or, refl, sym, ◌∙◌, ap, subst, arith}
use Rattle.std.proofs.Math.Seq.{take-length}
use Rattle.std.specs.Prelude.{Option, Some, None, slice_get, option_map, IfSome}
use Rattle.std.proofs.lemmas.Bool.{cases_eq, cases_lt}
use Rattle.std.proofs.lemmas.List.{append-nil, length-append, take_all}
use Rattle.std.proofs.lemmas.Option.{none-some, same_Some, get_or_from_slice_get, slice_get_within}
use Rattle.mt_io.specs.Files.{Gains, NeverFell}
use Rattle.mt_io.specs.Copy.{GainsFront}
use Rattle.mt_io.specs.Laws.{then_rose, front_of_nothing, gains_front}
use Rattle.mt_pcap.specs.Capture.{capture_of}
use Rattle.mt_pcap.specs.Opened.{capture_in, AreOpened}
use Rattle.mt_pcap.specs.Sources.{AreApart}
use Rattle.mt_pcap.specs.Stream.{ReaderState}
use Rattle.mt_command.specs.declared.devices.Bound.{Bound}
use Rattle.mt_command.specs.Parts.{BoundView, bound_view}
use Rattle.mt_pcap.specs.Text.{header_text}
use Rattle.metron.specs.Inputs.{Told, or_empty, outputs_of, BeginsWell, BeginWell, OpenFault, CaptureFault}
use Rattle.metron.specs.Serving.{Held, Outputs, IsFile, AreFilesApart, AllGain, AllGainFront, IsSameElsewhere, OutputFault, Begins, BeginsFront, BeginFault}
use Rattle.metron.proofs.Files.{get_of_take}
use Rattle.metron.specs.declared.outcome.FileId.TheVariants as file
use Rattle.metron.specs.declared.outcome.Fault.{Fault}
use Rattle.metron.specs.declared.outcome.Fault.TheVariants.{Capture as CaptureTold, Read, Write, Memory}

-- ---- captures

take_is : {X : Type 0} (xs : List X) (n k : ℕ) (x : X) → k < n → slice_get xs k ≡ Some x → slice_get (take n xs) k ≡ Some x
take_is [] n k x lt at = absurd (none-some x at)
take_is (y ∷ xs) zero k x lt at = absurd (omega (arith, lt))
take_is (y ∷ xs) (suc n) zero x lt at = at
take_is (y ∷ xs) (suc n) (suc k) x lt at = take_is xs n k x (omega (arith, lt)) at

-- those that are opened begin well
opened_well : (names : List (List ℕ)) (n : ℕ) (first held : Held) (readers : List ReaderState) → AreOpened (take n names) first held readers → BeginWell first names n
opened_well names n first held readers opened index name lt at =
    let here = take_is names n index name lt at in
    subst (BeginsWell first) (get_or_from_slice_get (take n names) index name name here) (opened.begin index name (slice_get_within (take n names) index name here))

-- the next one is refused
pub not_opened : (names : List (List ℕ)) (n : ℕ) (name : List ℕ) (first held : Held) (readers : List ReaderState) (old before after : List ℕ → ℕ) (fault : Fault) → AreOpened (take n names) first held readers → slice_get names n ≡ Some name
    → held name ≡ first name → NeverFell old before → OpenFault (n + 1) (capture_in held name) (before name) (after name) fault → CaptureFault first names old after fault
not_opened names n name first held readers old before after (CaptureTold device why) opened at same fell h = record {
  index = n;
  name = name;
  device_is = h.0;
  file_is = at;
  of_header = h.1;
  ends = subst (λ (o : Told). IfSome (option_map capture_of o) (λ c. c.end ≡ Some why)) same h.2;
  first = opened_well names n first held readers opened;
}
not_opened names n name first held readers old before after (Read (file.Capture device)) opened at same fell h = record {
  index = n;
  name = name;
  device_is = h.0;
  file_is = at;
  rose = then_rose (old name) (before name) (after name) (fell name) h.1;
}
not_opened names n name first held readers old before after Memory opened at same fell h = tt
not_opened names n name first held readers old before after fault opened at same fell h = absurd h

-- ---- outputs

-- the files of the first devices gained a header, and the others nothing
pub record AreBegun (outputs : Outputs) (n : ℕ) (old new : Held) : Type 0 where
  pub gained : (index : ℕ) (name : List ℕ) → index < n → IsFile outputs index name → Gains (old name) header_text (new name)
  pub same : (index : ℕ) (name : List ℕ) → n ≤ index → IsFile outputs index name → new name ≡ old name

pub none_begun : (outputs : Outputs) (old : Held) → AreBegun outputs 0 old old
none_begun outputs old = record {
  gained = λ index name lt is. absurd (omega (arith, lt));
  same = λ index name le is. refl;
}

pub all_begun : (outputs : Outputs) (n : ℕ) (old new : Held) → length outputs ≤ n → AreBegun outputs n old new → AllGain outputs old new (λ device. header_text)
all_begun outputs n old new all begun index name is = let within = slice_get_within outputs index (Some name) is in begun.gained index name (omega (arith, within, all)) is

module _ (outputs : Outputs) (n : ℕ) (old middle : Held) (apart : AreFilesApart outputs) (begun : AreBegun outputs n old middle) where
  -- those so far, where the next could not be begun for want of memory
  pub some_begun : AllGainFront outputs old middle (λ device. header_text)
  some_begun index name is = elim (cases_lt index n) [
    | inl lt ↦ gains_front (old name) (middle name) header_text (begun.gained index name lt is)
    | inr le ↦ front_of_nothing (old name) (middle name) header_text (begun.same index name (omega (arith, le)) is)
  ]

  module _ (output : Option (List ℕ)) (here : slice_get outputs n ≡ Some output) (new : Held) (others : (other : List ℕ) → output ≢ Some other → new other ≡ middle other) where
    -- a file of another device is another file
    not_it : (index : ℕ) (name : List ℕ) → IsFile outputs index name → index ≢ n → output ≢ Some name
    not_it index name is differs same = differs (apart index n name is (here ∙ ap (λ (o : Option (List ℕ)). Some o) same))

    it_is : (name : List ℕ) → IsFile outputs n name → output ≡ Some name
    it_is name is = same_Some output (Some name) (sym here ∙ is)

    gained_here : (o : Option (List ℕ)) (name : List ℕ) → o ≡ Some name → Begins o middle new → Gains (middle name) header_text (new name)
    gained_here None name is h = absurd (none-some name is)
    gained_here (Some file) name is h = let same : file ≡ name = same_Some file name is in subst (λ (f : List ℕ). Gains (middle f) header_text (new f)) same h

    front_here : (o : Option (List ℕ)) (name : List ℕ) → o ≡ Some name → BeginsFront o middle new → GainsFront (middle name) header_text (new name)
    front_here None name is h = absurd (none-some name is)
    front_here (Some file) name is h = let same : file ≡ name = same_Some file name is in subst (λ (f : List ℕ). GainsFront (middle f) header_text (new f)) same h

    pub one_begun : Begins output middle new → AreBegun outputs (n + 1) old new
    one_begun begins = record {
      gained = λ index name lt is. elim (cases_eq index n) [
        | inl same ↦
            let at : IsFile outputs n name = subst (λ k. IsFile outputs k name) same is in
            subst (λ (o : Told). Gains o header_text (new name)) (begun.same n name (omega arith) at) (gained_here output name (it_is name at) begins)
        | inr differs ↦ subst (λ (o : Told). Gains (old name) header_text o) (sym (others name (not_it index name is differs))) (begun.gained index name (omega (arith, lt, differs)) is)
      ];
      same = λ index name le is. others name (not_it index name is (λ same. omega (arith, le, same))) ∙ begun.same index name (omega (arith, le)) is;
    }

    pub one_partly : BeginsFront output middle new → AllGainFront outputs old new (λ device. header_text)
    one_partly fronts index name is = elim (cases_eq index n) [
      | inl same ↦
          let at : IsFile outputs n name = subst (λ k. IsFile outputs k name) same is in
          subst (λ (o : Told). GainsFront o header_text (new name)) (begun.same n name (omega arith) at) (front_here output name (it_is name at) fronts)
      | inr differs ↦ subst (λ (o : Told). GainsFront (old name) header_text o) (sym (others name (not_it index name is differs))) (some_begun index name is)
    ]

    pub one_elsewhere : IsSameElsewhere outputs old middle → IsSameElsewhere outputs old new
    one_elsewhere so_far other apart_from = others other (λ same. apart_from n other (here ∙ ap (λ (o : Option (List ℕ)). Some o) same) refl) ∙ so_far other apart_from

pub begin_fault : (outputs : Outputs) (n device : ℕ) (output : Option (List ℕ)) (old before after : List ℕ → ℕ) (fault : Fault) → device ≡ n + 1 → slice_get outputs n ≡ Some output → NeverFell old before
    → BeginFault device output before after fault → OutputFault outputs old after fault
begin_fault outputs n device (Some name) old before after (Write (file.Output number)) is here fell h = record {
  index = n;
  name = name;
  device_is = h.0 ∙ is;
  file_is = here;
  rose = then_rose (old name) (before name) (after name) (fell name) h.1;
}
begin_fault outputs n device output old before after Memory is here fell h = tt
begin_fault outputs n device output old before after fault is here fell h = absurd h

-- the next of a list behind others
pub next_at : {X : Type 0} (front : List X) (x : X) (rest all : List X) → front ++ x ∷ rest ≡ all → slice_get all (length front) ≡ Some x
next_at [] x rest all is = ap (λ l. slice_get l 0) (sym is)
next_at (y ∷ front) x rest all is = ap (λ l. slice_get l (suc (length front))) (sym is) ∙ next_at front x rest (front ++ x ∷ rest) refl

pub take_of_map : {X Y : Type 0} (f : X → Y) (n : ℕ) (xs : List X) → take n (map f xs) ≡ map f (take n xs)
take_of_map f zero xs = refl
take_of_map f (suc n) [] = refl
take_of_map f (suc n) (x ∷ xs) = ap (λ l. f x ∷ l) (take_of_map f n xs)

-- ---- files of devices

pub at_of_map : {X Y : Type 0} (f : X → Y) (xs : List X) (k : ℕ) (d : X) → k < length xs → slice_get (map f xs) k ≡ Some (f (get_or xs k d))
at_of_map f [] k d within = absurd (omega (arith, within))
at_of_map f (x ∷ xs) zero d within = refl
at_of_map f (x ∷ xs) (suc k) d within = at_of_map f xs k d (omega (arith, within))

-- a file that is opened next holds what it held at first
pub still_held : (names : List (List ℕ)) (n : ℕ) (name : List ℕ) (first held : Held) (readers : List ReaderState) → AreApart names → AreOpened (take n names) first held readers → slice_get names n ≡ Some name → held name ≡ first name
still_held names n name first held readers apart opened at = opened.others name (λ k other there same.
    let h = get_of_take n names k other there in
    let one : k ≡ n = apart k n other h.1 (at ∙ ap (λ (m : List ℕ). Some m) same) in
    omega (arith, h.0, one))

take_least : {X : Type 0} (xs : List X) (m n : ℕ) → m ≡ min (length xs) n → take m xs ≡ take n xs
take_least xs m n is = elim (cases_lt n (length xs)) [
  | inl lt ↦ ap (λ k. take k xs) (let same : m ≡ n = omega (arith, is, lt) in same)
  | inr le ↦ ap (λ k. take k xs) (let same : m ≡ length xs = omega (arith, is, le) in same) ∙ take_all (length xs) xs (omega arith) ∙ sym (take_all n xs (omega (arith, le)))
]

no_more : {X : Type 0} (xs : List X) → length xs < 1 → xs ≡ []
no_more [] lt = refl
no_more (x ∷ xs) lt = absurd (omega (arith, lt))

-- the files of the captures, at the end of the loop
pub inputs_are : {X : Type 0} (now : X → List ℕ) (inputs : List X) (rest all bound : List Bound) (m n : ℕ) → length rest < 1 → all ≡ take m bound → m ≡ min (length bound) n
    → map now inputs ++ map (λ (b : BoundView). or_empty b.input) (map bound_view rest) ≡ map (λ (b : BoundView). or_empty b.input) (map bound_view all)
    → map now inputs ≡ map (λ (b : BoundView). or_empty b.input) (take n (map bound_view bound))
inputs_are now inputs rest all bound m n none all_is least made =
    sym (append-nil (map now inputs))
    ∙ ap (λ (l : List Bound). map now inputs ++ map (λ (b : BoundView). or_empty b.input) (map bound_view l)) (sym (no_more rest none))
    ∙ made
    ∙ ap (λ (l : List Bound). map (λ (b : BoundView). or_empty b.input) (map bound_view l)) (all_is ∙ take_least bound m n least)
    ∙ ap (map (λ (b : BoundView). or_empty b.input)) (sym (take_of_map bound_view n bound))

-- the output of a device that stands next
file_in : (bound : List Bound) (index : ℕ) (d : Bound) (name : List ℕ) → 1 ≤ length (drop index bound) → option_map (λ f. f.now) (get_or (drop index bound) 0 d).output ≡ Some name → IsFile (outputs_of (map bound_view bound)) index name
file_in [] zero d name some is = absurd (omega (arith, some))
file_in [] (suc index) d name some is = absurd (omega (arith, some))
file_in (b ∷ bound) zero d name some is = ap (λ (o : Option (List ℕ)). Some o) is
file_in (b ∷ bound) (suc index) d name some is = file_in bound index d name some is

pub file_first : (bound rest : List Bound) (index : ℕ) (d : Bound) (name : List ℕ) → rest ≡ drop index bound → 1 ≤ length rest → option_map (λ f. f.now) (get_or rest 0 d).output ≡ Some name → IsFile (outputs_of (map bound_view bound)) index name
file_first bound rest index d name is some output =
    file_in bound index d name (subst (λ (l : List Bound). 1 ≤ length l) is some) (subst (λ (l : List Bound). option_map (λ f. f.now) (get_or l 0 d).output ≡ Some name) is output)

-- the output of the device whose turn it is
pub next_output : (front : Outputs) (rest : List Bound) (all : Outputs) (d : Bound) → 1 ≤ length rest → front ++ outputs_of (map bound_view rest) ≡ all → slice_get all (length front) ≡ Some (option_map (λ f. f.now) (get_or rest 0 d).output)
next_output front [] all d some made = absurd (omega (arith, some))
next_output front (b ∷ rest) all d some made = next_at front (option_map (λ f. f.now) b.output) (outputs_of (map bound_view rest)) all made

-- its writer is pushed
pub made_next : (front new : Outputs) (x : Told) (rest left : List Bound) (all : Outputs) (d : Bound) → 1 ≤ length rest → new ≡ front ++ x ∷ [] → x ≡ option_map (λ f. f.now) (get_or rest 0 d).output
    → left ≡ take (length rest - 1) (drop 1 rest) → front ++ outputs_of (map bound_view rest) ≡ all → new ++ outputs_of (map bound_view left) ≡ all
made_next front new x [] left all d some pushed is left_is made = absurd (omega (arith, some))
made_next front new x (b ∷ rest) left all d some pushed is left_is made =
    let n : length (b ∷ rest) - 1 ≡ length rest = omega arith in
    let behind : left ≡ rest = left_is ∙ ap (λ k. take k rest) n ∙ take-length rest in
    ap (λ (l : Outputs). l ++ outputs_of (map bound_view left)) pushed
    ∙ append_assoc front (x ∷ []) (outputs_of (map bound_view left))
    ∙ ap (λ (o : Told). front ++ o ∷ outputs_of (map bound_view left)) is
    ∙ ap (λ (l : List Bound). front ++ option_map (λ f. f.now) b.output ∷ outputs_of (map bound_view l)) behind
    ∙ made

-- no device is left
pub all_made : (front : Outputs) (rest : List Bound) (all : Outputs) → length rest < 1 → front ++ outputs_of (map bound_view rest) ≡ all → length all ≤ length front
all_made front [] all none made = let long = length-append front (outputs_of (map bound_view [])) in let same = ap length made in omega (arith, long, same)
all_made front (b ∷ rest) all none made = absurd (omega (arith, none))
