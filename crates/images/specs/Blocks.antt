-- What a write to one block of an image leaves of each block. Assumes nothing.
use Rattle.std.specs.Prelude.{◌≡◌, ℕ, ◌+◌, ◌-◌, ◌*◌, ◌<◌, ◌≤◌, Bool, true, List, ◌++◌, length, take, ◌≢◌, refl}
use Rattle.std.proofs.Common.{sym, ◌∙◌, ap, subst, inl, inr, ⊎_elim, arith}
use borrow.Rule.Slice.PartMut.{put_mid, Post-is}
use Rattle.std.proofs.lemmas.List.{length-take, length-drop}
use Rattle.std.proofs.lemmas.Bool.{cases_eq}
use Rattle.stores.specs.Meanings.{whole, Lawful}
use Rattle.stores.specs.Outcomes.{Wrote}
use Rattle.stores.proofs.Places.{length_put, put_here, put_other}
use Rattle.images.specs.Images.{block, blocks_in, splice, sized_meaning, image_meaning}

-- a block in the memory has 504 bytes
pub length_block : (xs : List ℕ) (b n : ℕ) → b < n → 504 * n ≤ length xs → length (block xs b) ≡ 504
length_block xs b n h f = simp (length-take, length-drop) (omega arith)

-- 504 bytes put in the place of block a are an accepted write, in a memory of so many blocks that is on
pub sized_wrote : (n : ℕ) (on : Bool) (xs zs ys : List ℕ) (a k : ℕ) → on ≡ true → a < n → 504 * n ≤ length xs → length ys ≡ 504 → k ≡ 504 → zs ≡ put_mid (504 * a) k xs ys → Wrote (sized_meaning n on xs) (sized_meaning n on zs) a ys
sized_wrote n on xs zs ys a k o h f l kk e =
    let same : block zs a ≡ ys = ap (λ (s : List ℕ). block s a) e ∙ put_here xs ys (504 * a) k 504 (omega arith) l in
    let other : (b : ℕ) → b < n → (b ≢ a) → block zs b ≡ block xs b =
    λ b hb ne. ap (λ (s : List ℕ). block s b) e ∙ put_other 504 k xs ys a b (omega arith) (omega arith) (l ∙ sym kk) ne in
    record {
      size = refl;
      on = o;
      here = ap whole same;
      others = λ b hb ne. ap whole (other b hb ne);
      stands = λ b c hb s.
          ⊎_elim
          (λ eq. inr (eq, inl (s ∙ ap whole (ap (λ i. block zs i) eq ∙ same))))
          (λ ne. inl (s ∙ ap whole (other b hb ne)))
          (cases_eq b a);
      lasts = λ t. t;
    }

-- and so in an image, which has as many blocks after it as before
pub image_wrote : (on : Bool) (xs zs ys : List ℕ) (a k : ℕ) → on ≡ true → a < blocks_in (length xs) → length ys ≡ 504 → k ≡ 504 → zs ≡ put_mid (504 * a) k xs ys → Wrote (image_meaning on xs) (image_meaning on zs) a ys
image_wrote on xs zs ys a k o h l kk e =
    let z : length zs ≡ length xs = ap length e ∙ length_put xs ys (504 * a) k (omega arith) (l ∙ sym kk) in
    let P : ℕ → Type 0 = λ n. Wrote (image_meaning on xs) (sized_meaning n on zs) a ys in
    subst P (sym (ap blocks_in z)) (sized_wrote (blocks_in (length xs)) on xs zs ys a k o h (omega arith) l kk e)

-- a block reads 504 bytes, nothing else may stand at it, and there are at most 65,536
pub image_lawful : (on : Bool) (xs : List ℕ) → Lawful 504 65536 (image_meaning on xs)
image_lawful on xs =
    let long : (b : ℕ) (bs : List ℕ) → b < blocks_in (length xs) → whole bs ≡ whole (block xs b) → length bs ≡ 504 =
    λ b bs h e. let same : bs ≡ block xs b = cc in ap length same ∙ length_block xs b (blocks_in (length xs)) h (omega arith) in
    record {
      limited = omega arith;
      some = λ b h. (_, refl);
      stand_long = long;
      read_long = λ b bs h e. long b bs h (sym e);
    }

-- the memory after a copy into a block's place
pub copied_is : (xs zs ys ws : List ℕ) (b : ℕ) → zs ≡ xs → ws ≡ ys → put_mid (504 * b) (504 * b + 504 - 504 * b) zs ws ≡ splice xs b ys
copied_is xs zs ys ws b e f =
    rw (e, f) (ap (λ (l : List ℕ). take (504 * b) xs ++ (ys ++ l)) (Post-is (504 * b) (504 * b + 504) xs (omega arith)))
