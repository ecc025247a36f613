use Rattle.std.proofs.Common.{sym, subst, inl, inr}
use Rattle.metron.specs.Inputs.{IsTextFault}
use Rattle.metron.proofs.Names.{names_differ}
use Rattle.metron.proofs.inputs.chain_of.Goals as goal

pub returns-in-Err-check-clause-err : goal.returns-in-Err-check-clause-err
returns-in-Err-check-clause-err c = elim c.in-Err-check.ensures.refused [
  | inl memory ↦ inl (c.refusal.ensures.memory memory)
  | inr no_chain ↦ elim c.refusal.ensures.refused [
    | inl is ↦ inl is
    | inr is ↦ inr (subst (IsTextFault c.args.text.now) (sym is) (record { short = c.requires; graph = c.in-Ok.graph; parsed = c.in-Ok.ensures.exact; refused = no_chain }))
  ]
]

pub returns-in-Ok-synthesise-clause-ok : goal.returns-in-Ok-synthesise-clause-ok
returns-in-Ok-synthesise-clause-ok c = record { short = c.requires; graph = c.in-Ok.graph; parsed = c.in-Ok.ensures.exact; made = c.in-Ok-check.ensures.chain; accepted = c.in-Ok-check.ensures.accepted }

pub returns-in-Ok-synthesise-clause-names : goal.returns-in-Ok-synthesise-clause-names
returns-in-Ok-synthesise-clause-names c = names_differ _ _ c.in-Ok-check.chain c.in-Ok-check.ensures.chain

pub returns-in-Err-synthesise-clause-err : goal.returns-in-Err-synthesise-clause-err
returns-in-Err-synthesise-clause-err c = elim (c.too_many.ensures _ _ c.in-Err-synthesise.ensures.many) [
  | inl memory ↦ inl memory
  | inr is ↦ inr (subst (IsTextFault c.args.text.now) (sym is.1) (record {
    chain = c.in-Ok-check.chain;
    is = record { short = c.requires; graph = c.in-Ok.graph; parsed = c.in-Ok.ensures.exact; made = c.in-Ok-check.ensures.chain; accepted = c.in-Ok-check.ensures.accepted };
    count_is = is.2;
    many = is.3;
  }))
]
