use Rattle.std.proofs.Common.{ap, vec_items}
use Rattle.nights.proofs.stacking.image.Goals as goal

pub returns : goal.returns
returns g c =
    let left = c.in_ok-store.field-0.store in
    (c.in_ok-zero_image.field-0, c.in_ok-zero_image.ensures.exact, left, c.in_ok-store.ensures c.in_ok-zero_image.ensures.sound, ap vec_items c.into_bytes.ensures)
