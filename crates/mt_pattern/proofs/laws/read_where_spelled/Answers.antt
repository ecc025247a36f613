use Rattle.mt_pattern.proofs.Read.{spelled_is_read}
use Rattle.mt_pattern.proofs.Sound.{read_is_spelled}
use Rattle.mt_pattern.proofs.laws.read_where_spelled.Goals as goal

pub returns : goal.returns
returns c = λ text p. (λ e. read_is_spelled text p e, λ d. spelled_is_read text p d)
