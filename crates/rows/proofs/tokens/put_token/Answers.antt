use Rattle.text.proofs.Splices.{wrote_then}
use Rattle.rows.specs.Tokens.{token_line}
use Rattle.rows.proofs.tokens.put_token.Goals as goal

pub returns : goal.returns
unfolding token_line
returns c = wrote_then c.put_decimal-a.ensures (wrote_then c.put_byte-b.ensures (wrote_then c.put_decimal-c.ensures (wrote_then c.put_byte-d.ensures (wrote_then c.put_decimal-e.ensures c.put_byte.ensures))))
