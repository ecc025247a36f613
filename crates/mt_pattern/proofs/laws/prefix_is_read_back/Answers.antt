use Rattle.mt_pattern.proofs.Printed.{prefix_printed}
use Rattle.mt_pattern.proofs.laws.prefix_is_read_back.Goals as goal

pub returns : goal.returns
returns c = λ a b c' d len ha hb hc hd le.
    prefix_printed (λ word n h. (c.decimal_is_numeral.ensures word n).1 h) a b c' d _ len ha hb hc hd le (c.ipv4_address_is_read_back.ensures a b c' d ha hb hc hd)
