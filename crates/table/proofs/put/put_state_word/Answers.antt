-- The four bytes are the state word. Assumes nothing.
use Rattle.table.specs.Table.{state_word}
use Rattle.table.proofs.put.put_state_word.Goals as goal

pub returns : goal.returns
unfolding state_word
returns c = c.put_bytes.ensures
