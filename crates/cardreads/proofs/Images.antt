-- Mounting an image, whose memory only writes change and whose supply lasts. Assumes nothing.
use Rattle.std.proofs.Common.{◌≡◌, ℕ, List, [], ◌∷◌, map, length, Some, None, Ok, Err, Option, Result, refl, sym, ap, subst, ◌∙◌, ⊎_elim}
use Rattle.std.specs.Result.{MatchResult}
use Rattle.faults.specs.declared.faults.Fault.{Fault}
use Rattle.faults.specs.declared.faults.Layer.TheVariants.{Device}
use Rattle.stores.specs.Calls.{Response, reads, unless, Onward, InOrder}
use Rattle.stores.specs.Outcomes.{Answer}
use Rattle.images.specs.Images.{View, blocks_in, meaning_of, admitted, image_does}
use Rattle.layouts.specs.Heads.{Fields}
use Rattle.cards.specs.Memories.{Memory, Remembers}
use Rattle.cards.specs.Verdicts.{mount_of}
use Rattle.mounts.specs.Mounts.{CardFound, MountOutcome, MountCalls}
use Rattle.mounts.specs.Reads.{reading}
use Rattle.cards.proofs.LawfulCards.{size_most}
use Rattle.samplers.specs.Calls.{Leaves}
use Rattle.cardreads.specs.Readings.{image_card, memory_read, read_of}
use Rattle.cardreads.proofs.Records.{remembered}

-- a read changes nothing
unless_same : (a : Answer) (buffer : List ℕ) (v : View) (w : Response View) → w.next ≡ v → (unless a buffer v w).next ≡ v
unless_same (Ok done) buffer v w e = e
unless_same (Err f) buffer v w e = refl

read_same : (v : View) (b : ℕ) (buffer : List ℕ) (w : Response View) → image_does v (reads b buffer) w → w.next ≡ v
read_same v b buffer w e = ap (λ (r : Response View). r.next) e ∙ unless_same (admitted v b (length buffer)) buffer v _ refl

onward_same : (a : Answer) (v u t : View) (P : Type 0) (r : Answer) → u.bytes ≡ v.bytes → Onward a u (λ _. P) r t → (P → t.bytes ≡ u.bytes) → t.bytes ≡ v.bytes
onward_same (Ok done) v u t P r e h f = f h ∙ e
onward_same (Err g) v u t P r e h f = ap (λ (x : View). x.bytes) h.1 ∙ e

reads_same : (v t : View) (xs : List (ℕ × List ℕ)) (last : Answer) → InOrder image_does v (map reading xs) last t → t.bytes ≡ v.bytes
unfolding InOrder
reads_same v t [] last h = ap (λ (x : View). x.bytes) h.1
reads_same v t (x ∷ xs) last (w, step, rest) =
    onward_same w.answer v w.next t _ last (ap (λ (u : View). u.bytes) (read_same v x.0 x.1 w step)) rest (λ h. reads_same w.next t xs last h)

after_restart : (a : Answer) (u t : View) (r : Result Memory Fault) (P : Type 0) → MatchResult a (λ done. P) (λ e. (r ≡ Err e) × (t ≡ u)) → (P → t.bytes ≡ u.bytes) → t.bytes ≡ u.bytes
after_restart (Ok done) u t r P h f = f h
after_restart (Err e) u t r P h f = ap (λ (x : View). x.bytes) h.1

-- a mount leaves an image's memory as it was
memory_same : (code : ℕ) (wrong : List ℕ → Option ℕ) (v t : View) (r : Result Memory Fault) → MountCalls Device code wrong image_does meaning_of v r t → t.bytes ≡ v.bytes
memory_same code wrong v t r (w, step, rest) =
    after_restart w.answer w.next t r _ rest (λ h. reads_same w.next t h.calls h.last h.made) ∙ ap (λ (u : Response View). u.next.bytes) step

pub leaves_same : (code : ℕ) (wrong : List ℕ → Option ℕ) (v t : View) (n : Result ℕ Fault) (memory : Option Memory) → Leaves (λ r. MountCalls Device code wrong image_does meaning_of v r t) n memory → t.bytes ≡ v.bytes
leaves_same code wrong v t (Ok k) (Some m) h = memory_same code wrong v t (Ok m) h.0
leaves_same code wrong v t (Ok k) None h = absurd h
leaves_same code wrong v t (Err e) None h = memory_same code wrong v t (Err e) h
leaves_same code wrong v t (Err e) (Some m) h = absurd h

-- it answers what mounting the card in it answers
found : (code : ℕ) (wrong : List ℕ → Option ℕ) (v t : View) (r : Result Fields Fault) → t.bytes ≡ v.bytes → CardFound Device code wrong (meaning_of v) (meaning_of t) r
    → mount_of Device (blocks_in (length v.bytes)) code wrong (image_card v.bytes) ≡ r
found code wrong v t r e f = ap (λ bs. mount_of Device (blocks_in (length v.bytes)) code wrong (image_card bs)) (sym e) ∙ f.1

-- accepted, it has the card's contents in memory
pub read_accepted : (code : ℕ) (wrong : List ℕ → Option ℕ) (v t : View) (k : ℕ) (memory : Option Memory) → t.bytes ≡ v.bytes
    → Leaves (MountOutcome Device Device code wrong (meaning_of v) (meaning_of t)) (Ok k) memory → memory_read memory ≡ read_of code wrong v.bytes
read_accepted code wrong v t k (Some m) e h =
    let verdict = found code wrong v t (Ok m.head) e h.0.0 in
    let most = size_most Device (blocks_in (length v.bytes)) code wrong (image_card v.bytes) m.head verdict in
    let remembers : Remembers m.head (image_card v.bytes) m = subst (λ bs. Remembers m.head (image_card bs) m) e h.0.1 in
    rw verdict (ap (λ rows. Ok (m.head, rows)) (remembered m.head (image_card v.bytes) m most remembers))
read_accepted code wrong v t k None e h = absurd h

-- its refusal is the card's, and never a failure of the supply
pub read_refused : (code : ℕ) (wrong : List ℕ → Option ℕ) (v t : View) (e : Fault) (memory : Option Memory) → t.bytes ≡ v.bytes
    → Leaves (MountOutcome Device Device code wrong (meaning_of v) (meaning_of t)) (Err e) memory → read_of code wrong v.bytes ≡ Err e
read_refused code wrong v t e None same h =
    ⊎_elim (λ f. rw (found code wrong v t (Err e) same f) refl) (λ f. absurd (cc f.supply)) h
read_refused code wrong v t e (Some m) same h = absurd h
