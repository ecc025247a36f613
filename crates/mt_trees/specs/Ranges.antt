-- The numbers in a chain's tables are in the ranges of the fields that they are written to.
use Rattle.std.specs.Prelude.{Contains}
use Rattle.mt_packet.specs.declared.flow.Flow.{Flow}
use Rattle.mt_elements.specs.Ranges.{IsAddress, IsPort}
use Rattle.mt_rewriter.specs.Mappings.{Mapping, TablesState}

pub record FlowFits (flow : Flow) : Type 0 where
  pub sa : IsAddress flow.sa
  pub sp : IsPort flow.sp
  pub da : IsAddress flow.da
  pub dp : IsPort flow.dp

-- the flows of all mappings
abbrev pub AreInRange : TablesState → Type 0
AreInRange tables = (mapping : Mapping) → Contains tables.mappings mapping → FlowFits mapping.0.before × FlowFits mapping.1.after
