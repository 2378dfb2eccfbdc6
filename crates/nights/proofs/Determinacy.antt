-- Nights come to one thing at most, on a store that says one thing at most to each call. Assumes nothing.
use Rattle.std.proofs.Common.{◌≡◌, ℕ, List, [], ◌∷◌, Ok, Err, Option, Result, refl, sym, ap, ◌∙◌}
use Rattle.faults.specs.declared.faults.Fault.{Fault}
use Rattle.stores.specs.Outcomes as outcomes
use Rattle.images.specs.Images as images
use Rattle.images.proofs.Determinacy.{image_one, image_blind}
use Rattle.benches.specs.Benches as benches
use Rattle.benches.proofs.Determinacy.{bench_one}
use Rattle.mirrors.proofs.Determinacy.{mirror_determined, mirror_blind}
use Rattle.samplers.specs.Views.{View}
use Rattle.ledgers.specs.declared.calls.Answer.{Answer}
use Rattle.laws.specs.Setups.{Setup}
use Rattle.laws.specs.Laws.{FormatWent}
use Rattle.laws.proofs.Determinacy.{Definite, Alike, format_one, run_one}
use Rattle.script.specs.declared.cards.Steady as declared_steady
use Rattle.script.specs.declared.cards.Steady.TheVariants as steadies
use Rattle.script.specs.Calls.{calls_of}
use Rattle.script.specs.Plans.{NightPlan}
use Rattle.nights.specs.Nights.{NightWent, NightsWent}
use Rattle.nights.specs.Stacks.{NightsFrom, on_image, on_mirrored_image, on_mirrored_bench, NightsOn}

module _ {S State K : Type 0} (x : Setup S State K) (d : Definite x) where
  -- where the same is seen of two stores, so it is of stores equal to them
  seen_alike : {s u y z : S} → x.state s ≡ x.state u → y ≡ s → z ≡ u → x.state y ≡ x.state z
  seen_alike e f g = ap x.state f ∙ e ∙ sym (ap x.state g)

  formatted_one : {s u : S} {y z v w : View S} {r n : outcomes.Answer} (p : NightPlan K) → x.state s ≡ x.state u → y.store ≡ s → z.store ≡ u
      → FormatWent x p.size p.log_blocks p.seed y v r → FormatWent x p.size p.log_blocks p.seed z w n → (r ≡ n) × Alike x v w
  formatted_one p e f g h k = format_one x d p.size p.log_blocks p.seed _ _ _ _ _ _ (seen_alike e f g) h k

  -- a night comes to one thing, and one thing is seen of what it leaves
  night_one : (s u : S) → x.state s ≡ x.state u → (p : NightPlan K) (r n : Result (List (Answer K)) Fault) (t v : S)
      → NightWent x s p r t → NightWent x u p n v → (r ≡ n) × (x.state t ≡ x.state v)
  night_one s u e p (Ok a) (Ok b) t v h k =
      let formats = formatted_one p e h.over k.over h.format k.format in
      let runs = run_one x d _ _ _ _ _ (calls_of p.size p.asks) a b _ _ formats.1 h.run k.run in
      (ap Ok runs.0, seen_alike runs.1 h.left k.left)
  night_one s u e p (Ok a) (Err f) t v h k = absurd (cc (formatted_one p e h.over k.over h.format k.format).0)
  night_one s u e p (Err g) (Ok b) t v h k = absurd (cc (formatted_one p e h.over k.over h.format k.format).0)
  night_one s u e p (Err g) (Err f) t v h k =
      let formats = formatted_one p e h.over k.over h.format k.format in
      let same : g ≡ f = cc formats.0 in
      (ap Err same, seen_alike formats.1.states h.left k.left)

  nights_one : (s u : S) → x.state s ≡ x.state u → (ps : List (NightPlan K)) (a b : List (Result (List (Answer K)) Fault)) (t v : S)
      → NightsWent x s ps a t → NightsWent x u ps b v → (a ≡ b) × (x.state t ≡ x.state v)
  unfolding NightsWent
  nights_one s u e [] [] [] t v h k = (refl, seen_alike e h k)
  nights_one s u e (p ∷ ps) (r ∷ a) (n ∷ b) t v (w, first, more) (y, begun, last) =
      let here = night_one s u e p r n w y first begun in
      let rest = nights_one w y here.1 ps a b t v more last in
      (λ i. here.0 i ∷ rest.0 i, rest.1)
  nights_one s u e [] (r ∷ a) b t v h k = absurd h
  nights_one s u e (p ∷ ps) [] b t v h k = absurd h
  nights_one s u e [] [] (n ∷ b) t v h k = absurd k
  nights_one s u e (p ∷ ps) (r ∷ a) [] t v h k = absurd k

  nights_from_one : (start : State) (memory_of : State → List ℕ) (ps : List (NightPlan K)) (a b : List (Result (List (Answer K)) Fault)) (m n : List ℕ)
      → NightsFrom x start memory_of ps a m → NightsFrom x start memory_of ps b n → (a ≡ b) × (m ≡ n)
  nights_from_one start memory_of ps a b m n (s, e, t, went, left) (u, f, v, ran, last) =
      let same = nights_one s u (e ∙ sym f) ps a b t v went ran in
      (same.0, left ∙ ap memory_of same.1 ∙ sym last)

-- of records whose bytes are their own
module _ {K : Type 0} (code : ℕ) (bytes : K → List ℕ) (wrong : List ℕ → Option ℕ) (own : (k l : K) → bytes k ≡ bytes l → k ≡ l) where
  image_definite : Definite (on_image code bytes wrong)
  image_definite = record { determined = image_one; blind = image_blind; own_bytes = own }

  mirrored_image_definite : Definite (on_mirrored_image code bytes wrong)
  mirrored_image_definite = record {
    determined = mirror_determined _ image_one images.meaning_of;
    blind = mirror_blind _ image_one images.meaning_of;
    own_bytes = own;
  }

  mirrored_bench_definite : Definite (on_mirrored_bench code bytes wrong)
  mirrored_bench_definite = record {
    determined = mirror_determined _ bench_one benches.meaning_of;
    blind = mirror_blind _ bench_one benches.meaning_of;
    own_bytes = own;
  }

  pub nights_on_one : (steady : declared_steady.Steady) (blocks : ℕ) (fuses choices : List ℕ) (ps : List (NightPlan K)) (a b : List (Result (List (Answer K)) Fault)) (m n : List ℕ)
      → NightsOn code bytes wrong steady blocks fuses choices ps a m → NightsOn code bytes wrong steady blocks fuses choices ps b n → (a ≡ b) × (m ≡ n)
  nights_on_one steadies.Image blocks fuses choices ps a b m n h k = nights_from_one _ image_definite _ (λ v. v.bytes) ps a b m n h k
  nights_on_one steadies.MirroredImage blocks fuses choices ps a b m n h k = nights_from_one _ mirrored_image_definite _ (λ v. v.below.bytes) ps a b m n h k
  nights_on_one steadies.MirroredBench blocks fuses choices ps a b m n h k = nights_from_one _ mirrored_bench_definite _ (λ v. v.below.mem) ps a b m n h k
