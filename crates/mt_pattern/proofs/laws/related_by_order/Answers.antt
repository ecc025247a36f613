use Rattle.mt_pattern.proofs.Spans.{related_by_order}
use Rattle.mt_pattern.proofs.laws.related_by_order.Goals as goal

pub returns : goal.returns
returns c = λ relation number greatest n h. related_by_order relation number greatest n h
