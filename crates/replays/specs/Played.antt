-- What a scenario is answered: its stack is made of memory that is all zero, and its calls are replayed. Assumes nothing.
use Rattle.std.specs.Prelude.{◌≡◌, ℕ, Bool, true, false, List, Result}
use Rattle.faults.specs.declared.faults.Fault.{Fault}
use Rattle.stores.specs.Calls as calls
use Rattle.stores.specs.Calls.{Response}
use Rattle.images.specs.Images as images
use Rattle.images.specs.Images.{image_does}
use Rattle.benches.specs.Benches as benches
use Rattle.benches.specs.Benches.{bench_does}
use Rattle.mirrors.specs.Below.{mirror_does}
use Rattle.zeros.specs.Zeros.{zero_image, zero_bench, off_over}
use Rattle.storescript.specs.declared.calls.Call.{Call}
use Rattle.storescript.specs.declared.calls.Device as device
use Rattle.storescript.specs.declared.calls.Device.TheVariants.{Image, Bench}
use Rattle.storescript.specs.declared.calls.Stack.{Stack}
use Rattle.replays.specs.declared.answers.Answer.{Answer}
use Rattle.replays.specs.Answers.{Replayed}

-- calls replayed from this state on, wherever they end
abbrev pub Plays : {S : Type 0} → (S → calls.Call → Response S → Type 0) → S → List Call → List (Result Answer Fault) → Type 0
Plays {S} does s calls answers = (t : S) × Replayed does s calls answers t

-- by the device, and whether a mirror stands over it
abbrev pub PlayedOn : device.Device → Bool → ℕ → List ℕ → List ℕ → List Call → List (Result Answer Fault) → Type 0
PlayedOn Image false blocks fuses choices calls answers = Plays image_does (zero_image blocks) calls answers
PlayedOn Image true blocks fuses choices calls answers =
    Plays (mirror_does images.meaning_of image_does) (off_over (zero_image blocks)) calls answers
PlayedOn Bench false blocks fuses choices calls answers = Plays bench_does (zero_bench blocks fuses choices) calls answers
PlayedOn Bench true blocks fuses choices calls answers =
    Plays (mirror_does benches.meaning_of bench_does) (off_over (zero_bench blocks fuses choices)) calls answers

-- a scenario's calls, on its stack
abbrev pub Played : Stack → List ℕ → List ℕ → List Call → List (Result Answer Fault) → Type 0
Played stack fuses choices calls answers = PlayedOn stack.device stack.mirrored stack.blocks fuses choices calls answers
