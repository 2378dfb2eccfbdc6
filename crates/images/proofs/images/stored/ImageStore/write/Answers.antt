use Rattle.std.proofs.Common.{◌≡◌, ◌+◌, ◌-◌, ◌*◌, ◌<◌, ◌≤◌, length, vec_items, ◌∙◌, ap, arith, rules}
use borrow.Rule.Slice.PartMut.{put_mid}
use Rattle.std.proofs.lemmas.List.{with_items_is}
use Rattle.stores.proofs.Places.{length_put}
use Rattle.images.specs.Images.{blocks_in}
use Rattle.images.specs.Blocks.{image_wrote}
use Rattle.images.proofs.images.stored.ImageStore.write.Goals as goal

pub returns-clause-outcome : goal.returns-clause-outcome
returns-clause-outcome c =
    let old = c.args.self.now in
    let from = 504 * c.args.block in
    let k = from + 504 - from in
    let here : c.args.block < blocks_in (length (vec_items old.bytes)) = search rules in
    let fit : from + k ≤ length c.deref_mut.result.now = omega (arith, ap length c.deref_mut.ensures.value, here) in
    let put = put_mid from k c.deref_mut.result.now c.copy_from_slice.new.self in
    let len : length put ≡ old.bytes.len = length_put c.deref_mut.result.now c.copy_from_slice.new.self from k fit (omega arith) ∙ c.deref_mut.ensures.len in
    let whole : _ ≡ put = with_items_is old.bytes put len in
    record {
      range = search rules;
      buffer = search rules;
      off = search rules;
      served = λ h l o.
          image_wrote old.on (vec_items old.bytes) _ c.args.bytes.now c.args.block k o h l (omega arith) (whole ∙ cc);
    }
