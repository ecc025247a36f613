use Rattle.std.proofs.Common.{◌≡◌, ◌<◌, ◌≤◌, ℕ, List, [], ◌∷◌, length, subst, sym, ap, ◌∙◌, get_or, refl, arith}
use Rattle.std.specs.List.{remove}
use Rattle.mt_ledger.specs.Pools.{PoolPorts, ports_at, ranges}
use Rattle.mt_ledger.proofs.Standing.{ports_at_is, changed, same_ranges}
use Rattle.mt_ledger.proofs.shares.Shares.take.Goals as goal

none_left : (ports : List ℕ) (place : ℕ) → length ports ≤ place → (0 < length ports → place < length ports) → ports ≡ []
none_left [] place short within = refl
none_left (port ∷ ports) place short within = absurd (let lt = within (omega arith) in omega (arith, lt))

here : (pools now : List PoolPorts) (k : ℕ) (pool : PoolPorts) → pools ≡ now → k < length now → pool ≡ get_or pools k pool → ports_at now k ≡ pool.ports
here pools now k pool same lt e = ports_at_is now k pool lt (subst (λ ps. pool ≡ get_or ps k pool) same e)

pub returns-in_err-port-clause-empty : goal.returns-in_err-port-clause-empty
returns-in_err-port-clause-empty c =
    let e = here c.self.inside.portions.items c.args.self.now c.args.pool c.index_mut-portion.result.now c.self.view_is c.requires.pool c.index_mut-portion.ensures.value in (
      λ _. none_left (ports_at c.args.self.now c.args.pool) c.args.place (rw e (c.in_err-port.ensures.missing.0 refl)) c.requires.place,
      λ _. rw c.from_residual.ensures refl,
    )

pub returns-clause-empty : goal.returns-clause-empty
returns-clause-empty c =
    let e = here c.self.inside.portions.items c.args.self.now c.args.pool c.index_mut-portion.result.now c.self.view_is c.requires.pool c.index_mut-portion.ensures.value in (
      λ wrong. absurd cc,
      λ none. c.in_ok-port.ensures.missing.1 (let short : length c.index_mut-portion.result.now.ports ≡ 0 = ap length (sym e ∙ none) in omega (arith, short)),
    )

pub returns-clause-port : goal.returns-clause-port
returns-clause-port c =
    let e = here c.self.inside.portions.items c.args.self.now c.args.pool c.index_mut-portion.result.now c.self.view_is c.requires.pool c.index_mut-portion.ensures.value in
    (rw c.new.ensures refl, rw (c.new.ensures, e) c.in_ok-port.ensures.port)

pub returns-clause-rest : goal.returns-clause-rest
returns-clause-rest c =
    changed c.self.inside.portions.items c.args.self.now c.args.pool c.args.pool c.index_mut-portion.result.now c.take.new.self (λ ports. remove ports c.args.place)
    c.self.view_is refl c.requires.pool c.index_mut-portion.ensures.value c.in_ok-port.ensures.rest

pub returns-clause-pools : goal.returns-clause-pools
returns-clause-pools c = ap ranges (returns-clause-rest c) ∙ same_ranges c.args.self.now c.args.pool (remove (ports_at c.args.self.now c.args.pool) c.args.place)
