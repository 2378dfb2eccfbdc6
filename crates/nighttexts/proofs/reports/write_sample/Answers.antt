use Rattle.std.proofs.Common.{arith}
use Rattle.nighttexts.proofs.Found.{found_short}
use Rattle.nighttexts.proofs.reports.write_sample.Goals as goal

pub write_summary-requires : goal.write_summary-requires
write_summary-requires g c = rw (c.as_slice.ensures.value, c.in_ok-records.ensures) (omega (arith, found_short c.args.answers.now))
