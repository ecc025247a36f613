-- Laws of what calls do to files, by which a run of calls is told as one.
use Rattle.std.specs.Prelude.{◌≡◌, ◌≢◌, ℕ, ◌+◌, ◌-◌, ◌^◌, ◌≤◌, List, [], ◌++◌, Option, Some, None, refl}
use Rattle.std.proofs.Common.{inl, inr, sym, ap, ◌∙◌, subst, append_assoc}
use Rattle.std.specs.Str.{bytes_eq}
use Rattle.std.proofs.Math.Nat.{le_refl, le_trans, le-min, min-le_left, min-le_right, add-le-add}
use Rattle.std.proofs.lemmas.Bool.{cases_Bool}
use Rattle.std.proofs.lemmas.Bool.Decides.{not_from_Decides}
use Rattle.std.proofs.lemmas.List.{append-nil}
use Rattle.std.proofs.lemmas.Option.{none-some, same_Some}
use Rattle.std.proofs.lemmas.Slice.Eq.{bytes_eq-Decides}
use Rattle.mt_io.specs.Files.{Takes, IsAtEnd, Gains, Rose, IsSame, IsSameBut, NeverFell}
use Rattle.mt_io.specs.Copy.{GainsFront, IsWhole}

-- no gain at all
pub gains_nothing : (before after : Option (List ℕ)) → after ≡ before → Gains before [] after
gains_nothing None after same = same
gains_nothing (Some old) after same = same ∙ ap (λ (l : List ℕ). Some l) (sym (append-nil old))

-- two gains are one gain
pub gains_twice : (before middle after : Option (List ℕ)) (first second : List ℕ) → Gains before first middle → Gains middle second after → Gains before (first ++ second) after
gains_twice None None after first second one two = two
gains_twice None (Some mid) after first second one two = absurd (none-some mid (sym one))
gains_twice (Some old) None after first second one two = absurd (none-some (old ++ first) one)
gains_twice (Some old) (Some mid) after first second one two =
    two ∙ ap (λ (l : List ℕ). Some (l ++ second)) (same_Some mid (old ++ first) one) ∙ ap (λ (l : List ℕ). Some l) (append_assoc old first second)

-- a gain of some bytes, and of a front of others, is a gain of a front of both together
pub gains_then_front : (before middle after : Option (List ℕ)) (first second : List ℕ) → Gains before first middle → GainsFront middle second after → GainsFront before (first ++ second) after
gains_then_front before middle after first second one two =
    let whole : first ++ second ≡ (first ++ two.0) ++ two.1 = ap (λ (l : List ℕ). first ++ l) two.2 ∙ sym (append_assoc first two.0 two.1) in
    (first ++ two.0, two.1, whole, gains_twice before middle after first two.0 one two.3)

-- what is gained as a whole is gained as a front
pub gains_front : (before after : Option (List ℕ)) (piece : List ℕ) → Gains before piece after → GainsFront before piece after
gains_front before after piece gained = (piece, [], sym (append-nil piece), gained)

-- a front of a piece is a front of a longer one
pub front_of_more : (before after : Option (List ℕ)) (piece more : List ℕ) → GainsFront before piece after → GainsFront before (piece ++ more) after
front_of_more before after piece more front =
    (front.0, front.1 ++ more, ap (λ (l : List ℕ). l ++ more) front.2 ∙ append_assoc front.0 front.1 more, front.3)

-- nothing was gained, of any piece
pub front_of_nothing : (before after : Option (List ℕ)) (piece : List ℕ) → after ≡ before → GainsFront before piece after
front_of_nothing before after piece same = ([], piece, refl, gains_nothing before after same)

-- nothing was taken
pub takes_nothing : (before after : Option (List ℕ)) → after ≡ before → Takes before [] after
takes_nothing None after same = same
takes_nothing (Some all) after same = (all, same, refl)

-- two takes are one take
pub takes_twice : (before middle after : Option (List ℕ)) (first second : List ℕ) → Takes before first middle → Takes middle second after → Takes before (first ++ second) after
takes_twice None None after first second one two = two
takes_twice None (Some mid) after first second one two = absurd (none-some mid (sym one))
takes_twice (Some all) None after first second one two = absurd (none-some one.0 one.1)
takes_twice (Some all) (Some mid) after first second one two =
    let is_rest : one.0 ≡ mid = sym (same_Some mid one.0 one.1) in
    (two.0, two.1, one.2 ∙ ap (λ (l : List ℕ). first ++ l) (is_rest ∙ two.2) ∙ sym (append_assoc first second two.0))

-- what was taken to the end is the whole
pub takes_to_end : (before after : Option (List ℕ)) (bytes : List ℕ) → Takes before bytes after → IsAtEnd after → IsWhole before bytes after
takes_to_end None after bytes taken at_end = taken
takes_to_end (Some all) None bytes taken at_end = absurd (none-some taken.0 taken.1)
takes_to_end (Some all) (Some left) bytes taken at_end =
    let none_left : taken.0 ≡ [] = sym (same_Some left taken.0 taken.1) ∙ at_end in
    (sym (taken.2 ∙ ap (λ (l : List ℕ). bytes ++ l) none_left ∙ append-nil bytes), ap (λ (l : List ℕ). Some l) at_end)

-- what is the whole was taken
pub takes_whole : (before after : Option (List ℕ)) (text : List ℕ) → IsWhole before text after → Takes before text after
takes_whole None after text whole = whole
takes_whole (Some all) after text whole = ([], whole.1, sym whole.0 ∙ sym (append-nil text))

-- the same of what was held, or written, from before an earlier call that left it as it was
pub whole_from : (earlier before after : Option (List ℕ)) (text : List ℕ) → before ≡ earlier → IsWhole before text after → IsWhole earlier text after
whole_from earlier before after text same whole = subst (λ (o : Option (List ℕ)). IsWhole o text after) same whole

pub gains_from : (earlier before after : Option (List ℕ)) (piece : List ℕ) → before ≡ earlier → Gains before piece after → Gains earlier piece after
gains_from earlier before after piece same gained = subst (λ (o : Option (List ℕ)). Gains o piece after) same gained

pub front_from : (earlier before after : Option (List ℕ)) (piece : List ℕ) → before ≡ earlier → GainsFront before piece after → GainsFront earlier piece after
front_from earlier before after piece same front = subst (λ (o : Option (List ℕ)). GainsFront o piece after) same front

-- a count rose, and did not fall later
pub rose_then : (before middle after : ℕ) → Rose before middle → middle ≤ after → Rose before after
rose_then before middle after rose kept = le_trans rose kept

-- a count did not fall, and rose later
pub then_rose : (before middle after : ℕ) → before ≤ middle → Rose middle after → Rose before after
then_rose before middle after kept rose =
    le_trans (le-min (le_trans (min-le_left (before + 1) (2 ^ 64 - 1)) (add-le-add kept (le_refl 1))) (min-le_right (before + 1) (2 ^ 64 - 1))) rose

-- the same of the counts of all names
pub rose_then_never_fell : (before middle after : List ℕ → ℕ) (name : List ℕ) → Rose (before name) (middle name) → NeverFell middle after → Rose (before name) (after name)
rose_then_never_fell before middle after name rose kept = rose_then (before name) (middle name) (after name) rose (kept name)

pub never_fell_then_rose : (before middle after : List ℕ → ℕ) (name : List ℕ) → NeverFell before middle → Rose (middle name) (after name) → Rose (before name) (after name)
never_fell_then_rose before middle after name kept rose = then_rose (before name) (middle name) (after name) (kept name) rose

-- NeverFell, IsSame and IsSameBut hold of no step, and of two steps where they hold of each
pub never_fell_refl : (counts : List ℕ → ℕ) → NeverFell counts counts
never_fell_refl counts name = le_refl (counts name)

pub never_fell_twice : (old middle new : List ℕ → ℕ) → NeverFell old middle → NeverFell middle new → NeverFell old new
never_fell_twice old middle new one two name = le_trans (one name) (two name)

pub same_refl : {X : Type 0} (what : List ℕ → X) → IsSame what what
same_refl what name = refl

pub same_twice : {X : Type 0} (old middle new : List ℕ → X) → IsSame old middle → IsSame middle new → IsSame old new
same_twice old middle new one two name = two name ∙ one name

pub same_but_refl : {X : Type 0} (name : List ℕ) (what : List ℕ → X) → IsSameBut name what what
same_but_refl name what other apart = refl

pub same_but_twice : {X : Type 0} (name : List ℕ) (old middle new : List ℕ → X) → IsSameBut name old middle → IsSameBut name middle new → IsSameBut name old new
same_but_twice name old middle new one two other apart = two other apart ∙ one other apart

-- what changed of no name changed of no other name
pub same_but : {X : Type 0} (name : List ℕ) (old new : List ℕ → X) → IsSame old new → IsSameBut name old new
same_but name old new same other apart = same other

-- what holds of one name, and of every other, holds of each
pub at_each_name : (P : List ℕ → Type 0) (name other : List ℕ) → P name → (other ≢ name → P other) → P other
at_each_name P name other here elsewhere =
    let decides = bytes_eq-Decides other name in
    elim (cases_Bool (bytes_eq other name)) [
      | inl same ↦ subst P (sym (decides.0 same)) here
      | inr apart ↦ elsewhere (not_from_Decides _ decides apart)
    ]

-- what changed of no other name, and not of this one, changed of none
pub same_from_but : {X : Type 0} (name : List ℕ) (old new : List ℕ → X) → new name ≡ old name → IsSameBut name old new → IsSame old new
same_from_but name old new here elsewhere other = at_each_name (λ n. new n ≡ old n) name other here (elsewhere other)

-- a count of no other name changed, and this one's did not fall
pub never_fell_from_but : (name : List ℕ) (old new : List ℕ → ℕ) → old name ≤ new name → IsSameBut name old new → NeverFell old new
never_fell_from_but name old new here elsewhere other =
    at_each_name (λ n. old n ≤ new n) name other here (λ apart. subst (λ n. old other ≤ n) (sym (elsewhere other apart)) (le_refl (old other)))
