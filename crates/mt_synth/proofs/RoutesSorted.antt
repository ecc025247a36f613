-- Route entries by falling length of their prefix, sorted from the last to the first.
use Rattle.std.proofs.Common.{◌≡◌, ◌∙◌, sym, ap, refl, ℕ, suc, Bool, true, false, List, [], ◌∷◌, length, drop}
use Rattle.std.specs.Prelude.{Some, slice_get, nat_lt, if◌then◌else◌}
use Rattle.mt_kinds.specs.declared.hop.Hop.{Hop}
use Rattle.mt_trees.specs.Elements.{by_length, placed}
use Rattle.mt_synth.proofs.ListsTried.{from_place, past_end}

pub sorting_begins : (hops : List Hop) (sorted : List Hop) → sorted ≡ [] → sorted ≡ by_length (drop (length hops) hops)
sorting_begins hops sorted none = none ∙ sym (ap by_length (past_end hops))

pub sorting_more : (hops : List Hop) (n : ℕ) (hop : Hop) (sorted new : List Hop) → slice_get hops n ≡ Some hop → new ≡ placed hop sorted → sorted ≡ by_length (drop (suc n) hops) → new ≡ by_length (drop n hops)
sorting_more hops n hop sorted new is made so_far = made ∙ ap (placed hop) so_far ∙ sym (ap by_length (from_place hops n hop is))

length-placed : (hop : Hop) (hops : List Hop) → length (placed hop hops) ≡ suc (length hops)
length-placed hop [] = refl
length-placed hop (other ∷ hops) = either (nat_lt hop.length other.length) (length-placed hop hops)
  where
    either : (b : Bool) → length (placed hop hops) ≡ suc (length hops) → length (if b then other ∷ placed hop hops else hop ∷ other ∷ hops) ≡ suc (suc (length hops))
    either true e = ap suc e
    either false e = refl

pub length-by_length : (hops : List Hop) → length (by_length hops) ≡ length hops
length-by_length [] = refl
length-by_length (hop ∷ hops) = length-placed hop (by_length hops) ∙ ap suc (length-by_length hops)
