-- What one capture of a merge gave, and by which bytes it went on.
use Rattle.std.proofs.Common.{◌≡◌, ◌≢◌, ℕ, false, List, [], ◌++◌, Option, Some, None, Result, Ok, Err, refl, sym, ap, subst, ◌∙◌, append_assoc}
use Rattle.std.specs.Prelude.{is_some, IfSome}
use Rattle.mt_pcap.specs.declared.fault.PcapFault.{PcapFault}
use Rattle.mt_pcap.specs.declared.fault.PcapFault.TheVariants.{ReadFault, NoMemory}
use Rattle.mt_pcap.specs.Stream.{Standing, over, ReaderState, IsWithin, TakesSo, HasRead, HasNoRecord, at_end}
use Rattle.mt_pcap.specs.Sources.{Source}
use Rattle.mt_pcap.specs.Merged.{source_left, all_in_front, IsUnended, HasGiven}
use Rattle.mt_pcap.proofs.Streams.{nothing_so}

-- a capture whose next record was not read
abbrev pub unread : ReaderState → Source
unread r = record { reader = r; head = None }

abbrev ok : Option (ℕ × List ℕ) → Result (Option (ℕ × List ℕ)) PcapFault
ok o = Ok o

-- ---- one capture

-- nothing was read
pub given_nothing : (s : Source) (before after : Option (List ℕ)) → after ≡ before → TakesSo before after (λ bytes. HasGiven [] s bytes s)
given_nothing s before after same = nothing_so before after (λ bytes. HasGiven [] s bytes s) same (λ unended. (unended, λ behind. refl))

-- one step, and then another
pub given_twice : (first second : List (ℕ × List ℕ)) (s t u : Source) (a b : List ℕ) → HasGiven first s a t → HasGiven second t b u → HasGiven (first ++ second) s (a ++ b) u
given_twice first second s t u a b one two unended =
    let after = two unended in
    let before = one after.0 in (
      before.0,
      λ behind.
          ap (source_left s) (append_assoc a b behind)
          ∙ before.1 (b ++ behind)
          ∙ ap (all_in_front first) (after.1 behind)
          ∙ ap (λ l. record { records = l; end = (source_left u behind).end }) (sym (append_assoc first second (source_left u behind).records)),
    )

-- not at its end, where a record or a fault was met
not_at_end : (old : Standing) (r : ℕ × List ℕ) → ((end : Option PcapFault) → old ≡ over end → ok (Some r) ≡ at_end end) → old ≢ over None
not_at_end old r again is = let e : ok (Some r) ≡ ok None = again None is in cc

-- the next record was read, or the end was met
pub next_given : (old new : ReaderState) (next : Option (ℕ × List ℕ)) (before after : Option (List ℕ))
    → ((end : Option PcapFault) → old.standing ≡ over end → ok next ≡ at_end end)
    → (next ≡ None → new.standing ≡ over None) → (next ≡ None → after ≡ before)
    → IfSome next (λ r. TakesSo before after (λ bytes. HasRead old.standing bytes r new.standing))
    → TakesSo before after (λ bytes. HasGiven [] (unread old) bytes (record { reader = new; head = next }))
next_given old new None before after again over_is same reads =
    nothing_so before after (λ bytes. HasGiven [] (unread old) bytes (unread new)) (same refl) (λ unended. absurd (unended (over_is refl)))
next_given old new (Some r) before after again over_is same reads = (reads.0, reads.1, λ unended. (not_at_end old.standing r again, λ behind. reads.2.1 behind))

-- and it is at no fault
pub next_unbroken : (old new : ReaderState) (next : Option (ℕ × List ℕ)) (before after : Option (List ℕ)) (fault : PcapFault) → (next ≡ None → new.standing ≡ over None)
    → IfSome next (λ r. TakesSo before after (λ bytes. HasRead old.standing bytes r new.standing)) → new.standing ≢ over (Some fault)
next_unbroken old new None before after fault over_is reads is = let e : over None ≡ over (Some fault) = sym (over_is refl) ∙ is in cc
next_unbroken old new (Some r) before after fault over_is reads is = subst IsWithin is reads.2.0

-- a read of it failed
abbrev err : PcapFault → Result (Option (ℕ × List ℕ)) PcapFault
err fault = Err fault

pub no_head : (head : Option (ℕ × List ℕ)) → is_some head ≡ false → head ≡ None
no_head None is = refl
no_head (Some r) is = absurd cc

pub next_failed : (old : ReaderState) (fault : PcapFault) (before after : Option (List ℕ)) → fault ≡ ReadFault → ((end : Option PcapFault) → old.standing ≡ over end → err fault ≡ at_end end)
    → (fault ≢ NoMemory → TakesSo before after (HasNoRecord old.standing)) → ((unread old).head ≡ None) × IsUnended (unread old) × TakesSo before after (HasNoRecord old.standing)
next_failed old fault before after is again cut =
    (refl, (λ at. let e : err fault ≡ Ok None = again None at in absurd cc), cut (λ other. let e : ReadFault ≡ NoMemory = sym is ∙ other in absurd cc))
