use Rattle.mt_elements.specs.Accepted.{behavior_of}
use Rattle.mt_chain.proofs.HasRun.{has_answer}
use Rattle.mt_chain.proofs.Kept.{run_keeps, run_leaves, run_there}
use Rattle.mt_chain.proofs.run.expected.Goals as goal

pub returns-clause-always : goal.returns-clause-always
returns-clause-always c =
    let ranked = c.ranks.ensures (behavior_of c.args.chain.now.kinds).leads c.args.chain.now.wires c.is_accepted.ensures.accepted.acyclic in
    has_answer c.args.chain.now c.is_accepted.ensures.accepted c.is_accepted.ensures.numbered c.decisions_keep_tables.ensures c.passages_lead.ensures c.outputs_are_counted.ensures ranked.0 ranked.1
    c.args._picks.now c.args._tables.now c.args._packet.now c.requires.arrived c.requires.kept c.requires.known

pub returns-clause-left : goal.returns-clause-left
returns-clause-left c = λ run is.
    run_leaves c.decisions_keep_tables.ensures c.mappings_stay.ensures c.args.chain.now c.args._picks.now c.args._tables.now c.args._packet.now run c.requires.kept is

pub returns-clause-stateless : goal.returns-clause-stateless
returns-clause-stateless c = λ stateless.
    let ranked = c.ranks.ensures (behavior_of c.args.chain.now.kinds).leads c.args.chain.now.wires c.is_accepted.ensures.accepted.acyclic in
    run_there c.decisions_keep_tables.ensures c.mappings_stay.ensures c.args.chain.now c.args._picks.now c.args._tables.now c.args._packet.now c.requires.kept stateless
    (has_answer c.args.chain.now c.is_accepted.ensures.accepted c.is_accepted.ensures.numbered c.decisions_keep_tables.ensures c.passages_lead.ensures c.outputs_are_counted.ensures ranked.0 ranked.1
    c.args._picks.now c.args._tables.now c.args._packet.now c.requires.arrived c.requires.kept c.requires.known)

pub returns-clause-keeps : goal.returns-clause-keeps
returns-clause-keeps c = λ run is. run_keeps c.decisions_keep_tables.ensures c.mappings_stay.ensures c.args.chain.now c.args._picks.now c.args._tables.now c.args._packet.now run c.requires.kept is
