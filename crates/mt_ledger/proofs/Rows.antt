-- Small lists, worked out by hand.
use Rattle.std.proofs.Common.{◌≡◌, [], ◌∷◌, ◌+◌, ◌-◌, refl}
use Rattle.mt_ledger.specs.Ledger.{turn_after, turn_before}
use Rattle.mt_ledger.specs.Ports.{ports_from, placed, placed_each}

the_greatest_port : ports_from 65535 (65535 + 1 - 65535) ≡ 65535 ∷ []
unfolding ports_from
the_greatest_port = refl

no_port : ports_from 9 (8 + 1 - 9) ≡ []
unfolding ports_from
no_port = refl

between : placed 5 (3 ∷ 7 ∷ []) ≡ 3 ∷ 5 ∷ 7 ∷ []
between = refl

recalled : placed_each (2 ∷ 9 ∷ []) (1 ∷ 5 ∷ []) ≡ 1 ∷ 2 ∷ 5 ∷ 9 ∷ []
recalled = refl

round : turn_after 3 2 ≡ 0
round = refl

round_back : turn_before 3 0 ≡ 2
round_back = refl

alone : turn_after 1 0 ≡ 0
alone = refl
