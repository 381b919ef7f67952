use Rattle.relation_table.proofs.Tables.{compose_exact}
use Rattle.relation_table.proofs.laws.table_is_exact.Goals as goal

pub returns : goal.returns
returns c a b k l r = compose_exact a b k l r
