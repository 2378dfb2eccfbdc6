use Rattle.std.proofs.Common.{rules}
use Rattle.layouts.proofs.HeadLaws.{head_of, kept_read}
use Rattle.layouts.proofs.heads.Head.decode.Goals as goal

pub returns-clause-value : goal.returns-clause-value
returns-clause-value c =
    rw (c.ok_or.ensures.value, c.fault.ensures) (kept_read c.args.store_size c.args.block.now c.at.result c.filter.result c.at.ensures (search rules))

pub returns-clause-head : goal.returns-clause-head
returns-clause-head c = head_of _ _ _ (returns-clause-value c)
