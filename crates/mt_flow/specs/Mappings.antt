-- Mappings, and what they are found by. A store is seen as the list of its mappings in the order of opening
-- and accepting; their forward keys differ, and so do their reply keys.
use Rattle.std.specs.Prelude.{◌≡◌, ℕ, List, [], ◌∷◌, ◌++◌, length, reverse, Contains}
use Rattle.mt_packet.specs.declared.flow.Flow.{Flow}
use Rattle.mt_flow.specs.declared.keys.ForwardKey.{ForwardKey}
use Rattle.mt_flow.specs.declared.keys.ReplyKey.{ReplyKey}
use Rattle.mt_flow.specs.declared.mapping.Mapping.{Mapping}
use Rattle.mt_flow.specs.declared.mapping.Meeting.{Meeting}
use Rattle.mt_flow.specs.declared.mapping.OpenFault.{OpenFault}
use Rattle.mt_flow.specs.declared.mapping.OpenFault.TheVariants.{Clash, NoMemory}

abbrev pub reversed : Flow → Flow
reversed flow = record { proto = flow.proto; sa = flow.da; sp = flow.dp; da = flow.sa; dp = flow.sp }

abbrev pub forward_key : Mapping → ForwardKey
forward_key mapping = record { element = mapping.element; input = mapping.input; before = mapping.before }

abbrev pub reply_key : Mapping → ReplyKey
reply_key mapping = record { element = mapping.element; flow = reversed mapping.after }

-- a packet that met it on a forward input, and a reply
abbrev pub met_forward : Mapping → Meeting
met_forward mapping = record { after = mapping.after; output = mapping.fout }

abbrev pub met_reply : Mapping → Meeting
met_reply mapping = record { after = reversed mapping.before; output = mapping.rout }

-- some mapping has this key
abbrev pub StandsForward : List Mapping → ForwardKey → Type 0
StandsForward mappings key = (mapping : Mapping) × (Contains mappings mapping × (forward_key mapping ≡ key))

abbrev pub StandsReply : List Mapping → ReplyKey → Type 0
StandsReply mappings key = (mapping : Mapping) × (Contains mappings mapping × (reply_key mapping ≡ key))

-- the mapping that comes back
abbrev pub refused_of : OpenFault → Mapping
refused_of (Clash mapping) = mapping
refused_of (NoMemory mapping) = mapping

-- the refusal of a mapping whose reply key stands
abbrev pub clash_of : Mapping → OpenFault
clash_of mapping = Clash mapping

-- each is new to those kept and to those in front of it: no mapping has its forward key, and none its reply key
abbrev pub AreNew : List Mapping → List Mapping → Type 0
AreNew mappings [] = Unit {0}
AreNew mappings (mapping ∷ more) =
    (StandsForward mappings (forward_key mapping) → ⊥) × (StandsReply mappings (reply_key mapping) → ⊥) × AreNew (mappings ++ mapping ∷ []) more

-- the last mappings of a list moved behind others, the last first
pub record IsTakenBack (old new before after : List Mapping) (count : ℕ) : Type 0 where
  pub moved : List Mapping
  pub old_is : old ≡ new ++ moved
  pub after_is : after ≡ before ++ reverse moved
  pub many : length moved ≡ count
