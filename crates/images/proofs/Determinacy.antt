-- An image says one thing to each call, and to reads of one block whatever their buffers held. Assumes nothing.
use Rattle.std.proofs.Common.{◌≡◌, ℕ, List, length, Ok, Err, refl, sym, ◌∙◌}
use Rattle.stores.specs.Outcomes.{Answer}
use Rattle.stores.specs.Calls.{Response, unless, Determined}
use Rattle.stores.proofs.Determinacy.{Blind}
use Rattle.images.specs.Images.{View, block, admitted, image_does}

pub image_one : Determined image_does
image_one s c w x h k = h ∙ sym k

unless_blind : (a : Answer) (p q : List ℕ) (s : View) (x : Response View) → ((unless a p s x).answer ≡ (unless a q s x).answer) × ((unless a p s x).next ≡ (unless a q s x).next)
unless_blind (Ok done) p q s x = (refl, refl)
unless_blind (Err e) p q s x = (refl, refl)

pub image_blind : Blind image_does
image_blind s b p q w v e h k =
    rw (h, k, e) (unless_blind (admitted s b (length q)) p q s (record { answer = Ok tt; buffer = block s.bytes b; next = s }))
