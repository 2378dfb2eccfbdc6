-- The nights of a script on its stack, made of memory that is all zero. Assumes nothing.
use Rattle.std.specs.Prelude.{◌≡◌, ℕ, true, List, Option, Result}
use Rattle.faults.specs.declared.faults.Fault.{Fault}
use Rattle.faults.specs.declared.faults.Layer.TheVariants.{Device, Mirror as MirrorLayer}
use Rattle.images.specs.Images as images
use Rattle.images.specs.Images.{view_of, image_does}
use Rattle.images.specs.declared.images.Image.{Image}
use Rattle.benches.specs.Benches as benches
use Rattle.benches.specs.Benches.{bench_does}
use Rattle.benches.specs.Views as bench_views
use Rattle.benches.specs.Views.{Contents, contents_of}
use Rattle.mirrors.specs.Below.{mirror_does}
use Rattle.mirrors.specs.Mirrors.{mirror_meaning}
use Rattle.mirrors.specs.Views.{View}
use Rattle.zeros.specs.Zeros.{zero_image, zero_bench, mirror_seen, off_over}
use Rattle.ledgers.specs.declared.calls.Answer.{Answer}
use Rattle.laws.specs.Setups.{Setup}
use Rattle.runs.specs.Runs.{setup}
use Rattle.script.specs.declared.cards.Steady as declared_steady
use Rattle.script.specs.declared.cards.Steady.TheVariants as steadies
use Rattle.script.specs.Plans.{NightPlan}
use Rattle.nights.specs.Nights.{NightsWent}

-- nights from a store that begins as this, wherever they end, and what of that store is memory
abbrev pub NightsFrom : {S State K : Type 0} → Setup S State K → State → (State → List ℕ) → List (NightPlan K) → List (Result (List (Answer K)) Fault) → List ℕ → Type 0
NightsFrom {S} x start memory_of plans outcomes memory =
    (s : S) × (x.state s ≡ start) × (t : S) × NightsWent x s plans outcomes t × (memory ≡ memory_of (x.state t))

-- of records with these bytes
module _ {K : Type 0} (code : ℕ) (bytes : K → List ℕ) (wrong : List ℕ → Option ℕ) where
  -- a sampler over an image
  abbrev pub on_image : Setup Image images.View K
  on_image = setup view_of images.meaning_of image_does Device Device true code bytes wrong

  -- over a mirror over an image
  abbrev pub on_mirrored_image : Setup (View Image) (View images.View) K
  on_mirrored_image =
      setup (mirror_seen view_of) (λ v. mirror_meaning v.on (images.meaning_of v.below)) (mirror_does images.meaning_of image_does) MirrorLayer Device true code bytes wrong

  -- over a mirror over a bench
  abbrev pub on_mirrored_bench : Setup (View bench_views.View) (View Contents) K
  on_mirrored_bench =
      setup (mirror_seen contents_of) (λ v. mirror_meaning v.on (benches.meaning_of v.below)) (mirror_does benches.meaning_of bench_does) MirrorLayer Device true code bytes wrong

  -- NIGHTS ON A STACK of so many blocks: each came to this, and the device's memory is this at the end
  abbrev pub NightsOn : declared_steady.Steady → ℕ → List ℕ → List ℕ → List (NightPlan K) → List (Result (List (Answer K)) Fault) → List ℕ → Type 0
  NightsOn steadies.Image blocks fuses choices plans outcomes memory = NightsFrom on_image (zero_image blocks) (λ v. v.bytes) plans outcomes memory
  NightsOn steadies.MirroredImage blocks fuses choices plans outcomes memory =
      NightsFrom on_mirrored_image (off_over (zero_image blocks)) (λ v. v.below.bytes) plans outcomes memory
  NightsOn steadies.MirroredBench blocks fuses choices plans outcomes memory =
      NightsFrom on_mirrored_bench (off_over (zero_bench blocks fuses choices)) (λ v. v.below.mem) plans outcomes memory
