-- The outputs of mappers and rewriters as tables of truth values.
use Rattle.std.specs.Prelude.{◌≡◌, ◌≤◌, ℕ, ◌==◌, Bool, false, ◌||◌, List, length, map, get_or, slice_get, Some, ⊤}
use Rattle.mt_kinds.specs.declared.kind.Kind.{Kind}
use Rattle.mt_kinds.specs.declared.kind.Kind.TheVariants.{IPRewriter}
use Rattle.mt_kinds.specs.declared.mappers.MapperOuts.{MapperOuts}
use Rattle.mt_kinds.specs.declared.rewriter.Spec.{Spec}
use Rattle.mt_kinds.specs.declared.rewriter.Spec.TheVariants as spec
use Rattle.mt_kinds.specs.declared.rewriter.Template.{Template}
use Rattle.mt_kinds.specs.Outputs.{templates_outs}
use Rattle.mt_kinds.specs.Ports.{mapper_at, is_in, forward_outs, is_reply_out}

-- a table has the value of a test at each output
abbrev pub IsTable : (ℕ → Bool) → List Bool → Type 0
IsTable test table = (out : ℕ) → get_or table out false ≡ test out

-- the outputs of a table are these
abbrev pub IsTableOf : List ℕ → List Bool → Type 0
IsTableOf outs = IsTable (λ out. is_in out outs)

-- what templates name
pub record AreOutsOf (templates : List Template) (outs : MapperOuts) : Type 0 where
  pub forward : IsTableOf (map (λ template. template.fout) templates) outs.forward
  pub reply : IsTableOf (map (λ template. template.rout) templates) outs.reply
  pub count : outs.count ≡ templates_outs templates
  pub few : outs.count ≤ 512

-- what the templates of each mapper name
pub record AreTables (mappers : List (List Template)) (tables : List MapperOuts) : Type 0 where
  pub whole : length tables ≡ length mappers
  pub each : (number : ℕ) (outs : MapperOuts) → slice_get tables number ≡ Some outs → AreOutsOf (mapper_at mappers number) outs

-- the outputs of a table are those by which replies to flows of an element leave, where it is a rewriter
abbrev pub IsReplyTable : List (List Template) → Kind → List Bool → Type 0
IsReplyTable mappers (IPRewriter specs) table = IsTable (is_reply_out mappers specs) table
IsReplyTable mappers kind table = ⊤

-- whether an input leads to an output by which replies leave or not
abbrev pub led : List (List Template) → Bool → ℕ → Spec → Bool
led mappers is_reply out spec.Drop = is_reply
led mappers is_reply out (spec.Pass own) = own == out || is_reply
led mappers is_reply out spec = is_in out (forward_outs mappers spec)
