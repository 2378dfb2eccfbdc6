use Rattle.std.proofs.Common.{◌∙◌, ap}
use Rattle.layouts.specs.Heads.{head_read}
use Rattle.layouts.proofs.HeadLaws.{own_answer}
use Rattle.layouts.proofs.heads.codec.reread.Goals as goal

pub returns : goal.returns
returns c = own_answer c.args.store_size c.args.kept.now c.decode.result (c.decode.ensures.value ∙ ap (head_read c.args.store_size) c.encode.ensures)
