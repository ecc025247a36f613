-- The outputs by which replies to flows of each element leave, as tables.
use Rattle.std.specs.Prelude.{◌≡◌, ℕ, Bool, List, length, slice_get, Some}
use Rattle.mt_kinds.specs.OutTables.{IsReplyTable}
use Rattle.mt_kinds.specs.declared.kind.Kind.{Kind}
use Rattle.mt_kinds.specs.declared.rewriter.Template.{Template}

pub record AreReplies (mappers : List (List Template)) (kinds : List Kind) (tables : List (List Bool)) : Type 0 where
  pub whole : length tables ≡ length kinds
  pub each : (element : ℕ) (kind : Kind) (table : List Bool) → slice_get kinds element ≡ Some kind → slice_get tables element ≡ Some table → IsReplyTable mappers kind table
