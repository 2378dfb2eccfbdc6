-- A stack answers the calls of a scenario in one way. Assumes nothing.
use Rattle.std.proofs.Common.{◌≡◌, ℕ, Bool, true, false, List, [], ◌∷◌, Result, sym, ◌∙◌, ap}
use Rattle.faults.specs.declared.faults.Fault.{Fault}
use Rattle.languages.specs.Transcripts.{AtMostOne}
use Rattle.stores.specs.Calls as calls
use Rattle.stores.specs.Calls.{Response, Determined}
use Rattle.images.specs.Images as images
use Rattle.benches.specs.Benches as benches
use Rattle.images.proofs.Determinacy.{image_one}
use Rattle.benches.proofs.Determinacy.{bench_one}
use Rattle.mirrors.proofs.Determinacy.{mirror_determined}
use Rattle.storescript.specs.declared.calls.Call.{Call}
use Rattle.storescript.specs.declared.calls.Device as device
use Rattle.storescript.specs.declared.calls.Device.TheVariants.{Image, Bench}
use Rattle.replays.specs.declared.answers.Answer.{Answer}
use Rattle.replays.specs.Answers.{told, Answered, Replayed}
use Rattle.replays.specs.Played.{Plays, PlayedOn}

module _ {S : Type 0} (does : S → calls.Call → Response S → Type 0) (d : Determined does) where
  answered_one : (s : S) (call : Call) (r n : Result Answer Fault) (t v : S) → Answered does s call r t → Answered does s call n v → (r ≡ n) × (t ≡ v)
  unfolding Answered
  answered_one s call r n t v (w, hw, e, f) (x, hx, g, k) =
      let same = d s _ w x hw hx in
      (e ∙ ap (λ (y : Response S). told call y.answer y.buffer) same ∙ sym g, f ∙ ap (λ (y : Response S). y.next) same ∙ sym k)

  replayed_one : (s : S) (cs : List Call) (a b : List (Result Answer Fault)) (t v : S) → Replayed does s cs a t → Replayed does s cs b v → a ≡ b
  unfolding Replayed
  replayed_one s [] a b t v h k = h.0 ∙ sym k.0
  replayed_one s (c ∷ cs) a b t v (r, u, hr, rest, is, more) (n, x, hn, left, are, last) =
      let same = answered_one s c r n u x hr hn in
      is ∙ (λ i. same.0 i ∷ replayed_one u cs rest left t v more (rw (← same.1) at last) i) ∙ sym are

  plays_one : (s : S) (cs : List Call) → AtMostOne (Plays does s cs)
  plays_one s cs a b h k = replayed_one s cs a b h.0 k.0 h.1 k.1

pub played_one : (d : device.Device) (m : Bool) (blocks : ℕ) (fuses choices : List ℕ) (cs : List Call) → AtMostOne (PlayedOn d m blocks fuses choices cs)
played_one Image false blocks fuses choices cs a b h k = plays_one _ image_one _ cs a b h k
played_one Image true blocks fuses choices cs a b h k = plays_one _ (mirror_determined _ image_one images.meaning_of) _ cs a b h k
played_one Bench false blocks fuses choices cs a b h k = plays_one _ bench_one _ cs a b h k
played_one Bench true blocks fuses choices cs a b h k = plays_one _ (mirror_determined _ bench_one benches.meaning_of) _ cs a b h k
