use Rattle.std.proofs.Common.{ap, vec_items, ◌∙◌}
use Rattle.images.specs.declared.images.Image.{Image}
use Rattle.nights.proofs.stacking.mirror_image.Goals as goal

pub returns : goal.returns
returns g c =
    let memory = ap vec_items c.into_bytes.ensures ∙ ap (λ (image : Image). vec_items image.bytes) c.into_below.ensures.below in
    (c.in_ok-mirrored_image.field-0, c.in_ok-mirrored_image.ensures.exact, c.in_ok-store.field-0.store, c.in_ok-store.ensures c.in_ok-mirrored_image.ensures.sound, memory)
