use Rattle.std.proofs.Common.{rules, ◌≡◌, [], length, sym}
use Rattle.std.proofs.lemmas.List.{nil_from_length}
use Rattle.benches.specs.Held.{blocks_in}
use Rattle.benches.proofs.Fates.{passed_none}
use Rattle.benches.proofs.disk.Disk.restart.Goals as goal

pub returns-then-is_empty-clause-pass : goal.returns-then-is_empty-clause-pass
returns-then-is_empty-clause-pass c =
    let zero : length c.args.self.now.held.items ≡ 0 = search rules in
    let none : c.args.self.now.held.items ≡ [] = nil_from_length _ zero in
    rw none (sym (passed_none _ (blocks_in (length c.args.self.now.bytes.items))))
