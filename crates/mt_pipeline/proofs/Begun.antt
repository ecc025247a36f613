-- A server that is opened stands for the first tables of its chain.
use Rattle.std.proofs.Common.{◌≡◌, ◌∙◌, sym, ap, subst, refl, ℕ, zero, suc, ◌+◌, ◌-◌, ◌++◌, List, [], ◌∷◌, length, map, replicate, slice_get, Some, arith}
use Rattle.std.proofs.lemmas.List.{append-nil, length-append, length-replicate}
use Rattle.std.specs.Prelude.{slice_index_or}
use Rattle.std.proofs.lemmas.Option.{same_Some, slice_get_within}
use Rattle.mt_packet.specs.declared.span.Span.{Span}
use Rattle.mt_cuts.specs.declared.cut.Cut.{Cut}
use Rattle.mt_elements.specs.ChainState.{ChainState, mappers_of}
use Rattle.mt_elements.specs.declared.chain.Rewriters.{Rewriters}
use Rattle.mt_kinds.specs.declared.rewriter.Pool.{Pool}
use Rattle.mt_kinds.specs.declared.rewriter.Template.{Template}
use Rattle.mt_ledger.specs.Ledger.{LedgerState, opened}
use Rattle.mt_ledger.specs.Pools.{PoolPorts, all_of, none_of, ports_at, ranges}
use Rattle.mt_ledger.specs.Ports.{times, ports_from}
use Rattle.mt_lists.proofs.Members.{none_in}
use Rattle.mt_rewriter.proofs.First.{first_made}
use Rattle.mt_rewriter.specs.Mappings.{first_tables}
use Rattle.mt_terms.specs.declared.tree.Tree.{Tree}
use Rattle.mt_pipeline.specs.Contexts.{IsContextOf}
use Rattle.mt_pipeline.specs.Opened.{IsOpened, range_in}
use Rattle.mt_pipeline.specs.Standing.{AreWhole, range_of, tables_of}
use Rattle.mt_pipeline.specs.Turns.{ServerState}

-- the one element of a list of one
pub only_one : (front : List (List PoolPorts)) (x y : List PoolPorts) → front ++ x ∷ [] ≡ y ∷ [] → x ≡ y
only_one [] x y e = ap (λ l. slice_index_or l 0 x) e
only_one (first ∷ front) x y e = absurd (let long = ap length e in let more = length-append front (x ∷ []) in omega (arith, long, more))

stocks_ranges : (pools : List Pool) → ranges (map all_of (map range_in pools)) ≡ map range_of pools
stocks_ranges [] = refl
stocks_ranges (pool ∷ pools) = ap (λ l. range_of pool ∷ l) (stocks_ranges pools)

shares_ranges : (pools : List Pool) → ranges (map none_of (map range_in pools)) ≡ map range_of pools
shares_ranges [] = refl
shares_ranges (pool ∷ pools) = ap (λ l. range_of pool ∷ l) (shares_ranges pools)

none_held : (pools : List Pool) (number : ℕ) → ports_at (map none_of (map range_in pools)) number ≡ []
none_held [] number = refl
none_held (pool ∷ pools) zero = refl
none_held (pool ∷ pools) (suc number) = none_held pools number

all_there : (pools : List Pool) (number : ℕ) (pool : Pool) → slice_get pools number ≡ Some pool → ports_at (map all_of (map range_in pools)) number ≡ ports_from pool.lo (pool.hi + 1 - pool.lo)
all_there [] number pool get = absurd (let within = slice_get_within [] number pool get in omega (arith, within))
all_there (first ∷ pools) zero pool get = let same : first ≡ pool = same_Some first pool get in ap (λ (p : Pool). ports_from p.lo (p.hi + 1 - p.lo)) same
all_there (first ∷ pools) (suc number) pool get = all_there pools number pool get

opened_whole : (pools : List Pool) (counts : List ℕ) → AreWhole pools (opened (map range_in pools) counts) (map none_of (map range_in pools)) []
opened_whole pools counts = record {
  stocks_are = stocks_ranges pools;
  shares_are = shares_ranges pools;
  together = λ number pool get port.
      let all = ap (times port) (all_there pools number pool get) in
      let none = ap (times port) (none_held pools number) in
      omega (arith, all, none);
}

first_turns : (mappers : List (List Template)) → replicate {A = ℕ} (length (map length mappers)) 0 ≡ map (λ patterns. 0) mappers
first_turns [] = refl
first_turns (patterns ∷ mappers) = ap (λ l. 0 ∷ l) (first_turns mappers)

module _ (chain : ChainState) (rewriters : Rewriters) (classes : List (List (List Span) × Tree)) (index : ℕ × Cut) (is : IsContextOf chain rewriters classes index) where
  abbrev begun : LedgerState
  begun = opened (map range_in chain.pools) (map length (mappers_of chain.kinds))

  abbrev server : ServerState
  server = record { queue = []; mappings = []; shares = map none_of (map range_in chain.pools) }

  tables_first : tables_of [] begun ≡ first_tables chain
  tables_first =
      let turns = first_turns (mappers_of chain.kinds) in
      λ i. record { mappings = []; turns = turns i }

  is_opened : IsOpened chain rewriters classes index begun server
  is_opened = record {
    can = record {
      made = is;
      standing = record {
        whole = opened_whole chain.pools (map length (mappers_of chain.kinds));
        patterns = refl;
        turns = length-replicate (length (map length (mappers_of chain.kinds))) 0;
        kept = first_made chain [] begun.turns [] refl (append-nil begun.turns ∙ first_turns (mappers_of chain.kinds)) (omega arith);
        range = λ mapping c. none_in mapping c;
      };
      expected = tt;
    };
    waits_none = refl;
    first = tables_first;
  }

  pub opened_so : (ranges : List _) (counts : List ℕ) (ledger : LedgerState) (shares : List PoolPorts) (other : ServerState) → ranges ≡ map range_in rewriters.pools.items → counts ≡ map length rewriters.mappers.items
      → ledger ≡ opened ranges counts → shares ≡ map none_of ranges → other ≡ record { queue = []; mappings = []; shares = shares } → IsOpened chain rewriters classes index ledger other
  opened_so ranges counts ledger shares other r n l s o =
      let pools : ranges ≡ map range_in chain.pools = r ∙ ap (map range_in) is.made.pools in
      let counted : counts ≡ map length (mappers_of chain.kinds) = n ∙ ap (map length) is.made.mappers in
      let ledger_is : ledger ≡ begun = l ∙ (λ i. opened (pools i) (counted i)) in
      let shares_are : shares ≡ map none_of (map range_in chain.pools) = s ∙ ap (map none_of) pools in
      let server_is : other ≡ server = o ∙ ap (λ q. record { queue = []; mappings = []; shares = q }) shares_are in
      subst (λ a. IsOpened chain rewriters classes index a other) (sym ledger_is) (subst (λ b. IsOpened chain rewriters classes index begun b) (sym server_is) is_opened)
