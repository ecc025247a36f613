use Rattle.mt_elements.specs.Accepted.{behavior_of}
use Rattle.mt_chain.proofs.HasRun.{has_answer}
use Rattle.mt_chain.proofs.laws.runs_are_there.Goals as goal

pub returns : goal.returns
returns c = λ chain accepted numbered packet arrives first last tables kept picks.
    let ranked = c.ranks.ensures (behavior_of chain.kinds).leads chain.wires accepted.acyclic in
    has_answer chain accepted numbered c.decisions_keep_tables.ensures c.passages_lead.ensures c.outputs_are_counted.ensures ranked.0 ranked.1 picks tables packet arrives kept
    (c.devices_have_entries.ensures chain packet.device numbered first last)
