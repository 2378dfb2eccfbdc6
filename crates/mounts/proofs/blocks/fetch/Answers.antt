use Rattle.std.proofs.Common.{rules, ◌≡◌, true, false}
use Rattle.mounts.specs.Reads.{no_check}
use Rattle.mounts.proofs.ReadCalls.{reads_none, one_read}
use Rattle.mounts.proofs.blocks.fetch.Goals as goal

pub returns-then-is_new-clause-calls : goal.returns-then-is_new-clause-calls
returns-then-is_new-clause-calls g c =
    let is : c.args.is_new ≡ true = search rules in
    rw is (one_read g.S.Store.does _ _ no_check _ _ _ c.read.result (search rules) c.read.ensures.exact)

pub returns-clause-calls : goal.returns-clause-calls
returns-clause-calls g c =
    let is : c.args.is_new ≡ false = search rules in
    rw is (reads_none g.S.Store.does _ no_check no_check tt)
