-- `pt_mask` meets its contract: the answer is told as it is.
use Rattle.bridge.proofs.mask.pt_mask.Goals as goal

pub returns : goal.returns
returns c = record { value = rw c.mask.ensures at c.tell.ensures.value; values_after = rw c.mask.ensures at c.tell.ensures.values_after }
