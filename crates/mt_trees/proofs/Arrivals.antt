-- Where a packet of an accepted chain stands, and where it goes from there.
use Rattle.std.proofs.Common.{◌≡◌, ◌∙◌, sym, ap, subst, refl, ◌⊎◌, inl, inr, ℕ, suc, ◌<◌, Bool, true, false, cond, List, [], ◌∷◌, length, get_or, position, Contains, arith}
use Rattle.std.specs.Prelude.{Option, Some, None, nat_lt, ◌==◌, ◌&&◌, not, if◌then◌else◌, slice_get}
use Rattle.std.specs.List.{find}
use Rattle.std.proofs.lemmas.Bool.{false≢true}
use Rattle.std.proofs.lemmas.Bool.Decides.{nat_tests}
use Rattle.std.proofs.lemmas.List.Quantifiers.{position-Some}
use Rattle.std.proofs.lemmas.Option.{slice_get-get_or, none-some, same_Some}
use Rattle.mt_lists.proofs.Members.{first_in, later_in}
use Rattle.mt_graph.specs.declared.Wire.{Wire}
use Rattle.mt_packet.specs.declared.cause.Cause.TheVariants as cause
use Rattle.mt_packet.specs.declared.layer.Layer.{Layer}
use Rattle.mt_packet.specs.declared.layer.Layer.TheVariants.{Frame}
use Rattle.mt_kinds.specs.Layers.{takes, layer_behind}
use Rattle.mt_kinds.specs.Ports.{is_rewriter, leads, output_count, may_be_open}
use Rattle.mt_kinds.specs.declared.kind.Kind.{Kind}
use Rattle.mt_kinds.specs.declared.kind.Kind.TheVariants.{FromDevice, PaintSwitch, CheckIPHeader, DecIPTTL, IPRewriter}
use Rattle.mt_kinds.specs.declared.rewriter.Spec.{Spec}
use Rattle.mt_kinds.specs.declared.rewriter.Spec.TheVariants as spec
use Rattle.mt_wiring.specs.Ways.{Reached, enters, onward, IsStep}
use Rattle.mt_elements.specs.Accepted.{IsAccepted, behavior_of, leads_at, takes_at, behind_at, enters_at}
use Rattle.mt_elements.specs.ChainState.{ChainState, IsKind, is_from, target, next_of, is_entry, inputs_in, inputs_of, outputs_in, outputs_of, wired_of, mappers_of}
use Rattle.mt_elements.specs.Wired.{free_at, missing_port, or_twice}
use Rattle.mt_chain.specs.Run.{IsThere}
use Rattle.mt_chain.specs.Step.{unwired_cause}

-- ---- lists

-- the element at which a test passes first
pub position_is : {A : Type 0} (p : A → Bool) (xs : List A) (i : ℕ) → position p xs ≡ Some i → (x : A) × (slice_get xs i ≡ Some x) × (p x ≡ true)
position_is p [] i is = absurd (none-some i is)
position_is p (x ∷ xs) i is =
    let h = position-Some p (x ∷ xs) i x is in
    (get_or (x ∷ xs) i x, slice_get-get_or (x ∷ xs) i x h.0, h.1)

-- what is found is in the list, at a place, and passes
record Seen {A : Type 0} (p : A → Bool) (xs : List A) (x : A) : Type 0 where
  place : ℕ
  at : slice_get xs place ≡ Some x
  member : Contains xs x
  passes : p x ≡ true

seen_in : {A : Type 0} (p : A → Bool) (xs : List A) (x : A) → find p xs ≡ Some x → Seen p xs x
seen_in p [] x e = absurd (none-some x e)
seen_in {A} p (y ∷ ys) x e = either (p y) refl e (seen_in p ys x)
  where
    either : (b : Bool) → p y ≡ b → cond b (Some y) (find p ys) ≡ Some x → (find p ys ≡ Some x → Seen p ys x) → Seen p (y ∷ ys) x
    either true test e again =
        let same = same_Some y x e in
        record { place = 0; at = ap Some same; member = subst (λ z. Contains (y ∷ ys) z) same (first_in y ys); passes = subst (λ z. p z ≡ true) same test }
    either false test e again =
        let later = again e in
        record { place = suc later.place; at = later.at; member = later_in y ys x later.member; passes = later.passes }

both : (a b : Bool) → (a && b) ≡ true → (a ≡ true) × (b ≡ true)
both true true e = (refl, refl)
both true false e = absurd (false≢true e)
both false b e = absurd (false≢true e)

same_count : (a b : ℕ) → (a == b) ≡ true → a ≡ b
same_count a b e = grind (arith, nat_tests)

-- ---- kinds

-- an entry is the FromDevice of a device
abbrev pub kind_device : (device : ℕ) (kind : Kind) → is_entry device kind ≡ true → ℕ
kind_device device (FromDevice number) h = number
kind_device device kind h = 0

pub kind_is : (device : ℕ) (kind : Kind) (h : is_entry device kind ≡ true) → kind ≡ FromDevice (kind_device device kind h)
kind_is device (FromDevice number) h = refl
kind_is device kind h = absurd (false≢true h)

-- an element with an input is there
some_kind : (found : Option Kind) (into : ℕ) → nat_lt into (inputs_in found) ≡ true → IsThere found
some_kind (Some kind) into h = (kind, refl)
some_kind None into h = let below : into < 0 = grind (arith, nat_tests) in absurd (omega (arith, below))

-- a wire with nothing wrong comes to an input that is there
input_there : (chain : ChainState) (wire : Wire) (again : Bool) → or_twice wire.from again (missing_port chain wire) ≡ None → nat_lt wire.into (inputs_of chain wire.to) ≡ true
input_there chain wire again faultless = output (nat_lt wire.out (outputs_of chain wire.from)) (nat_lt wire.into (inputs_of chain wire.to)) again faultless
  where
    output : (a b again : Bool) → or_twice wire.from again (if not a then Some wire.from else (if not b then Some wire.to else None)) ≡ None → b ≡ true
    output true true again e = refl
    output true false again e = absurd (none-some _ (sym e))
    output false b again e = absurd (none-some _ (sym e))

spec_within : (specs : List Spec) (input : ℕ) → nat_lt input (length specs) ≡ true → IsThere (slice_get specs input)
spec_within specs input h = let below : input < length specs = grind (arith, nat_tests) in (get_or specs input spec.Drop, slice_get-get_or specs input spec.Drop below)

-- ---- an output that leads nowhere

when : {A : Type 0} (b : Bool) (value : A) → b ≡ true → IsThere (if b then Some value else None)
when true value h = (value, refl)
when false value h = absurd (false≢true h)

open_cause : (kind : Kind) (out : ℕ) → may_be_open kind out ≡ true → IsThere (unwired_cause kind out)
open_cause CheckIPHeader out h = when (out == 1) cause.BadIp h
open_cause DecIPTTL out h = when (out == 1) cause.Ttl h
open_cause PaintSwitch out h = (cause.NoPaint, refl)
open_cause kind out h = absurd (false≢true h)

-- ---- where a packet stands

-- A packet of a layer is at an input port: it has just arrived, or it came by a wire to an input that is there.
pub data Stands (chain : ChainState) (port : ℕ × ℕ) (layer : Layer) : Type 0 where
  arrived : (device : ℕ) → IsKind chain port.0 (FromDevice device) → layer ≡ Frame → Stands chain port layer
  came : Reached (behavior_of chain.kinds) chain.wires port layer → nat_lt port.1 (inputs_of chain port.0) ≡ true → Stands chain port layer

module _ (chain : ChainState) (accepted : IsAccepted chain) where
  -- the element takes it
  pub fits : (port : ℕ × ℕ) (layer : Layer) (kind : Kind) → IsKind chain port.0 kind → Stands chain port layer → takes kind layer ≡ true
  fits port layer kind is (arrived device from frame) =
      let same = same_Some kind (FromDevice device) (sym is ∙ from) in
      ap (λ k. takes k layer) same ∙ ap (λ l. takes (FromDevice device) l) frame
  fits port layer kind is (came reached within) = either (takes kind layer) refl
    where
      either : (b : Bool) → takes kind layer ≡ b → b ≡ true
      either true e = refl
      either false e = absurd (accepted.fits port.0 (port.1, layer, reached, ap (λ k. takes_at k layer) is ∙ e))

  -- at a rewriter it stands at an input
  pub spec_there : (port : ℕ × ℕ) (layer : Layer) (kind : Kind) → IsKind chain port.0 kind → Stands chain port layer → (specs : List Spec) → kind ≡ IPRewriter specs → IsThere (slice_get specs port.1)
  spec_there port layer kind is (arrived device from frame) specs same =
      absurd (false≢true (ap is_rewriter (same_Some (FromDevice device) (IPRewriter specs) (sym from ∙ is ∙ ap Some same))))
  spec_there port layer kind is (came reached within) specs same = spec_within specs port.1 (ap (λ k. nat_lt port.1 (inputs_in k)) (sym (is ∙ ap Some same)) ∙ within)

  module _ (port : ℕ × ℕ) (kind : Kind) (is : IsKind chain port.0 kind) (out : ℕ) where
    -- a wire by which it leaves
    module _ (lead : leads (mappers_of chain.kinds) kind port.1 out ≡ true) (wire : Wire) (found : find (is_from port.0 out) chain.wires ≡ Some wire) where
      seen : Seen (is_from port.0 out) chain.wires wire
      seen = seen_in (is_from port.0 out) chain.wires wire found

      from_is : (wire.from ≡ port.0) × (wire.out ≡ out)
      from_is = let h = both (port.0 == wire.from) (out == wire.out) seen.passes in (sym (same_count _ _ h.0), sym (same_count _ _ h.1))

      pub step : IsStep (behavior_of chain.kinds).leads chain.wires port wire
      step = record {
        there = seen.member;
        left = (from_is.0, ap (λ k. leads_at (mappers_of chain.kinds) k port.1 wire.out) is ∙ ap (leads (mappers_of chain.kinds) kind port.1) from_is.1 ∙ lead);
      }

      -- the input to which it leads is there
      input : nat_lt wire.into (inputs_of chain wire.to) ≡ true
      input = input_there chain wire _ (accepted.wired seen.place wire seen.at)

      pub goes : (layer : Layer) → Stands chain port layer → Stands chain (target wire) (layer_behind kind layer out)
      goes layer (arrived device from frame) =
          let same = same_Some kind (FromDevice device) (sym is ∙ from) in
          came (enters (behavior_of chain.kinds) chain.wires (target wire) _ wire seen.member
          (ap (λ e. enters_at (slice_get chain.kinds e)) from_is.0 ∙ ap enters_at from) refl
          (sym (ap (λ k. layer_behind k layer out) same ∙ frame))) input
      goes layer (came reached within) =
          let took = fits port layer kind is (came reached within) in
          came (onward (behavior_of chain.kinds) chain.wires port (target wire) layer _ wire reached (ap (λ k. takes_at k layer) is ∙ took) step refl
          (ap (λ k. behind_at k layer wire.out) is ∙ ap (layer_behind kind layer) from_is.1)) input

      -- the element to which it leads is there
      pub next_kind : IsThere (slice_get chain.kinds wire.to)
      next_kind = some_kind (slice_get chain.kinds wire.to) wire.into input

    -- an output that is not wired may be open
    pub may_drop : next_of chain port.0 out ≡ None → (out < output_count (mappers_of chain.kinds) kind (wired_of chain.wires port.0)) ⊎ IsThere (unwired_cause kind out) → IsThere (unwired_cause kind out)
    may_drop unwired (inr dropped) = dropped
    may_drop unwired (inl within) = open_cause kind out (either (may_be_open kind out) refl)
      where
        count : outputs_of chain port.0 ≡ output_count (mappers_of chain.kinds) kind (wired_of chain.wires port.0)
        count = ap (λ k. outputs_in (mappers_of chain.kinds) (wired_of chain.wires port.0) k) is

        either : (b : Bool) → may_be_open kind out ≡ b → b ≡ true
        either true e = refl
        either false e = absurd (accepted.closed port.0 (record {
          out = out;
          there = omega (arith, within, count);
          unwired = unwired;
          bound = ap (λ k. free_at k out) is ∙ e;
        }))
