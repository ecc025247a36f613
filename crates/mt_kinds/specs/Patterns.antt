-- The patterns of a Classifier (Click manual, in this project's profile).
use Rattle.std.specs.Prelude.{ℕ, Bool, true, false, ◌||◌, ◌==◌, nat_eq, not, if◌then◌else◌, List, [], length, drop, codes, Option, Some, None, option_map, option_and_then}
use Rattle.std.specs.List.{list_any, starts_with}
use Rattle.std.specs.Str.{bytes_eq}
use Rattle.mt_kinds.specs.declared.kind.Clause.{Clause}
use Rattle.mt_kinds.specs.declared.kind.Clause.TheVariants.{EthType, EthDst, EthSrc, ArpOp}
use Rattle.mt_text.specs.Number.{hexadecimal_of_length}
use Rattle.mt_lists.specs.Options.{each}
use Rattle.mt_kinds.specs.Arguments.{words_of}

-- A clause is `0/` and twelve hexadecimal digits, `6/` and twelve, `12/` and four, or `20/` and four.
unfoldable pub clause_of : List ℕ → Option Clause
clause_of word =
    if starts_with nat_eq word (codes "0/") then option_map EthDst (hexadecimal_of_length 12 (drop 2 word))
    else if starts_with nat_eq word (codes "6/") then option_map EthSrc (hexadecimal_of_length 12 (drop 2 word))
    else if starts_with nat_eq word (codes "12/") then option_map EthType (hexadecimal_of_length 4 (drop 3 word))
    else if starts_with nat_eq word (codes "20/") then option_map ArpOp (hexadecimal_of_length 4 (drop 3 word))
    else None

abbrev pub is_operation : Clause → Bool
is_operation (ArpOp operation) = true
is_operation clause = false

-- `12/0806`
abbrev pub is_arp : Clause → Bool
is_arp (EthType ether_type) = ether_type == 2054
is_arp clause = false

-- the operation of ARP is asked for only beside the EtherType of ARP
unfoldable pub may_stand : List Clause → Bool
may_stand clauses = not (list_any is_operation clauses) || list_any is_arp clauses

-- clauses that may stand together
unfoldable pub together : List Clause → Option (List Clause)
together clauses = if may_stand clauses then Some clauses else None

-- a pattern: `-`, or clauses separated by spaces
unfoldable pub pattern_of : List ℕ → Option (List Clause)
pattern_of argument = if bytes_eq argument (codes "-") then Some [] else option_and_then together (each clause_of (words_of argument))

-- one pattern at least
unfoldable pub patterns_of : List (List ℕ) → Option (List (List Clause))
patterns_of arguments = if length arguments == 0 then None else each pattern_of arguments
